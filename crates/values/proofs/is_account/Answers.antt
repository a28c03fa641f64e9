-- `values::is_account` meets its contract: what is left decides, up to the first that is no character of an account. Assumes nothing.
use mathlib.Core.Path.{◌≡◌, refl, sym, ap, ◌∙◌}
use mathlib.Core.Bool.{Bool, ◌&&◌}
use mathlib.Core.List.{List}
use Prim.Native.Nat.{ℕ, ◌+◌, ◌<◌}
use native.Mathlib.Omega.{arith}
use borrow.Author.Tests.{ne_eqb, eq-eqb}
use lib.ListN.{length, get_or, drop, drop_of_length-le}
use Rattle.line.specs.Runs.{every}
use Rattle.line.proofs.Runs.{left-next}
use Rattle.values.specs.Registers.{is_account_character, good_account}
use Rattle.values.proofs.is_account.Goals as goal

-- the next of what is left, and the others
next-left : (s : List ℕ) (i : ℕ) (whole : Bool) → i < length s → every is_account_character (drop i s) ≡ whole → (is_account_character (get_or s i 0) && every is_account_character (drop (i + 1) s)) ≡ whole
unfolding every
next-left s i whole h e = sym (ap (every is_account_character) (left-next i s h)) ∙ e

of-ten : (s : List ℕ) → length s ≡ 10 → every is_account_character s ≡ good_account s
unfolding good_account
of-ten s n = rw (eq-eqb (length s) 10 n)

pub returns-then-s-ne10 : goal.returns-then-s-ne10
unfolding good_account
returns-then-s-ne10 c = rw (ne_eqb (length c.args.s.now) 10 c.if-s-ne10.true)

pub loop-c-init : goal.loop-c-init
loop-c-init c = refl

pub returns-then-not-account_takes : goal.returns-then-not-account_takes
returns-then-not-account_takes c =
    let s = c.args.s.now in
    let bad = sym c.account_takes.ensures ∙ c.if-not-account_takes.true in
    ap (λ (b : Bool). b && every is_account_character (drop (c.loop-c.c-index + 1) s)) (sym bad) ∙ next-left s c.loop-c.c-index _ (omega arith) c.loop-c.invariant ∙ of-ten s c.if-s-ne10.false

pub loop-c-preserved : goal.loop-c-preserved
loop-c-preserved c =
    let s = c.args.s.now in
    let good = sym c.account_takes.ensures ∙ c.if-not-account_takes.false in
    ap (λ (b : Bool). b && every is_account_character (drop (c.loop-c.c-index + 1) s)) (sym good) ∙ next-left s c.loop-c.c-index _ (omega arith) c.loop-c.invariant

pub returns : goal.returns
unfolding every
returns c =
    let s = c.args.s.now in
    sym (ap (every is_account_character) (drop_of_length-le s {i = c.loop-c.c-index} (omega arith))) ∙ c.loop-c.invariant ∙ of-ten s c.if-s-ne10.false
