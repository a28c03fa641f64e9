-- `crc::check` meets its contract: under two bytes nothing checks, and the last two are compared with the CRC of the others. Assumes nothing.
use mathlib.Core.Path.{◌≡◌, ap, ap₂, ◌∙◌}
use mathlib.Core.List.{List}
use Prim.Native.Nat.{ℕ, ◌-◌, ◌<◌, ◌≤◌}
use native.Mathlib.Omega.{arith}
use lib.Dec.{eqb}
use lib.ListN.{length, get_or}
use lib.Seq.{get_or-drop}
use borrow.Author.Tests.{le-leb, lt-leb}
use Rattle.crc.specs.Crc.{crc_of, checks}
use Rattle.crc.proofs.check.Goals as goal

pub returns-in_default : goal.returns-in_default
unfolding checks
returns-in_default c =
    let short : length c.args.s.now < 2 = c.in_default.ensures.cases in
    rw (lt-leb _ _ short)

pub returns : goal.returns
unfolding checks
returns c =
    let s = c.args.s.now in
    let cut = c.in-Some.ensures.cases in
    let n = length s - 2 in
    let two : 2 ≤ length s = omega arith in
    let low : get_or c.in-Some.last.now 0 0 ≡ get_or s n 0 = ap (λ (l : List ℕ). get_or l 0 0) cut.1 ∙ get_or-drop n s 0 0 ∙ ap (λ (k : ℕ). get_or s k 0) (omega arith) in
    let high : get_or c.in-Some.last.now 1 0 ≡ get_or s (length s - 1) 0 = ap (λ (l : List ℕ). get_or l 1 0) cut.1 ∙ get_or-drop n s 1 0 ∙ ap (λ (k : ℕ). get_or s k 0) (omega arith) in
    rw (le-leb _ _ two) (ap₂ eqb (omega (arith, c.from_le_bytes.ensures)) (c.crc.ensures ∙ ap crc_of cut.0))
