-- `values::is_all_digits` meets its contract: the first eight characters and the last decide. Assumes nothing.
use Prim.Native.Nat.{◌-◌}
use native.Mathlib.Omega.{arith}
use lib.ListN.{length}
use Rattle.values.proofs.Digits.{digits-kept}
use Rattle.values.proofs.is_all_digits.Goals as goal

pub returns : goal.returns
returns c =
    let e = c.eight.ensures in
    let s = c.args.s.now in
    rw (c.keeps_form-first.ensures, c.keeps_form.ensures)
    (digits-kept s (length s - 8) _ _ (omega (arith, c.requires)) (omega (arith, c.requires)) e.0 c.eight-last.ensures.0 e.1)
