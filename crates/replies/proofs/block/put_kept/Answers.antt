-- `replies::block::put_kept` meets its contract: one line after the other. Assumes nothing.
use mathlib.Core.Path.{refl}
use Prim.Native.Nat.{ℕ, ◌≤◌}
use native.Mathlib.Omega.{arith}
use lib.ListN.{length}
use Rattle.datasets.specs.Sets.{DataSet, line_of, kept_set}
use Rattle.datasets.proofs.Lengths.{kept-most}
use Rattle.datasets.proofs.Joined.{single, joined}
use Rattle.replies.specs.Periods.{kept_in, kept_sets}
use Rattle.replies.proofs.block.put_kept.Goals as goal

pub put_kept_set-r-requires : goal.put_kept_set-r-requires
put_kept_set-r-requires c =
    let a = c.args in
    let most : (n count : ℕ) → length (line_of (kept_set a.family a.out a.k n count)) ≤ 27 = kept-most a.family a.out a.k in
    omega (arith, c.requires, c.put_kept_set-q.ensures.next, most 1 (kept_in a.zones 1))

pub put_kept_set-s-requires : goal.put_kept_set-s-requires
put_kept_set-s-requires c =
    let a = c.args in
    let most : (n count : ℕ) → length (line_of (kept_set a.family a.out a.k n count)) ≤ 27 = kept-most a.family a.out a.k in
    omega (arith, c.requires, c.put_kept_set-q.ensures.next, c.put_kept_set-r.ensures.next, most 1 (kept_in a.zones 1), most 2 (kept_in a.zones 2))

pub put_kept_set-requires : goal.put_kept_set-requires
put_kept_set-requires c =
    let a = c.args in
    let most : (n count : ℕ) → length (line_of (kept_set a.family a.out a.k n count)) ≤ 27 = kept-most a.family a.out a.k in
    omega (arith, c.requires, c.put_kept_set-q.ensures.next, c.put_kept_set-r.ensures.next, c.put_kept_set-s.ensures.next, most 1 (kept_in a.zones 1), most 2 (kept_in a.zones 2), most 3 (kept_in a.zones 3))

pub returns : goal.returns
unfolding kept_sets
returns c =
    let a = c.args in
    let e1 = c.put_kept_set-q.ensures in
    let e2 = c.put_kept_set-r.ensures in
    let e3 = c.put_kept_set-s.ensures in
    let e4 = c.put_kept_set.ensures in
    let count : ℕ → ℕ = kept_in a.zones in
    let line : ℕ → ℕ → DataSet = kept_set a.family a.out a.k in
    let one = single (line 1 (count 1)) _ a.buf.now a.at _ _ refl e1.next e1.held in
    let two = joined _ _ _ _ _ _ _ _ one (single (line 2 (count 2)) _ _ _ _ _ refl e2.next e2.held) in
    let three = joined _ _ _ _ _ _ _ _ two (single (line 3 (count 3)) _ _ _ _ _ refl e3.next e3.held) in
    let four = joined _ _ _ _ _ _ _ _ three (single (line 4 (count 4)) _ _ _ _ _ refl e4.next e4.held) in
    record { next = four.next; held = four.held }
