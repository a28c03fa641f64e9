-- `line::wire` meets its contract by the law of the balance. Assumes nothing.
use mathlib.Core.Path.{ap, ◌∙◌}
use Prim.Native.Nat.{ℕ, ◌+◌, ◌*◌, ◌/◌, ◌%◌}
use native.Mathlib.Omega.{arith}
use Rattle.line.specs.Characters.{sent, seven}
use Rattle.line.proofs.Evening.{balance-evens}
use Rattle.line.proofs.wire.Goals as goal

pub returns : goal.returns
unfolding sent seven
returns c =
    let b = c.args.c in
    ap (λ (n : ℕ). b % 128 + n / 128 * 128) c.balance.ensures ∙ ap (λ (n : ℕ). b % 128 + n * 128) (balance-evens b (omega arith))
