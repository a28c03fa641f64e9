-- `replies::block::put_energies` meets its contract: one line after the other. Assumes nothing.
use mathlib.Core.Path.{refl}
use Prim.Native.Nat.{ℕ, ◌≤◌}
use native.Mathlib.Omega.{arith}
use lib.ListN.{length}
use Rattle.values.specs.Registers.{energy_no}
use Rattle.state.specs.Setting.{counter_of}
use Rattle.datasets.specs.Sets.{DataSet, line_of, energy_set}
use Rattle.datasets.proofs.Lengths.{energy-most}
use Rattle.datasets.proofs.Joined.{single, joined}
use Rattle.replies.specs.Block.{energy_sets}
use Rattle.replies.proofs.block.put_energies.Goals as goal

pub put_energy_set-q-requires : goal.put_energy_set-q-requires
unfolding energy_no
put_energy_set-q-requires c =
    let a = c.args in
    let most : (n count : ℕ) → length (line_of (energy_set a.family a.out n count)) ≤ 24 = energy-most a.family a.out in
    omega (arith, c.requires, c.put_energy_set-p.ensures.next, most 1 (counter_of a.c 1))

pub put_energy_set-r-requires : goal.put_energy_set-r-requires
unfolding energy_no
put_energy_set-r-requires c =
    let a = c.args in
    let most : (n count : ℕ) → length (line_of (energy_set a.family a.out n count)) ≤ 24 = energy-most a.family a.out in
    omega (arith, c.requires, c.put_energy_set-p.ensures.next, c.put_energy_set-q.ensures.next, most 1 (counter_of a.c 1), most 2 (counter_of a.c 2))

pub put_energy_set-s-requires : goal.put_energy_set-s-requires
unfolding energy_no
put_energy_set-s-requires c =
    let a = c.args in
    let most : (n count : ℕ) → length (line_of (energy_set a.family a.out n count)) ≤ 24 = energy-most a.family a.out in
    omega (arith, c.requires, c.put_energy_set-p.ensures.next, c.put_energy_set-q.ensures.next, c.put_energy_set-r.ensures.next, most 1 (counter_of a.c 1), most 2 (counter_of a.c 2), most 3 (counter_of a.c 3))

pub put_energy_set-requires : goal.put_energy_set-requires
unfolding energy_no
put_energy_set-requires c =
    let a = c.args in
    let most : (n count : ℕ) → length (line_of (energy_set a.family a.out n count)) ≤ 24 = energy-most a.family a.out in
    omega (arith, c.requires, c.put_energy_set-p.ensures.next, c.put_energy_set-q.ensures.next, c.put_energy_set-r.ensures.next, c.put_energy_set-s.ensures.next, most 1 (counter_of a.c 1), most 2 (counter_of a.c 2), most 3 (counter_of a.c 3), most 4 (counter_of a.c 4))

pub returns : goal.returns
unfolding energy_sets energy_no
returns c =
    let a = c.args in
    let e1 = c.put_energy_set-p.ensures in
    let e2 = c.put_energy_set-q.ensures in
    let e3 = c.put_energy_set-r.ensures in
    let e4 = c.put_energy_set-s.ensures in
    let e5 = c.put_energy_set.ensures in
    let count : ℕ → ℕ = counter_of a.c in
    let line : ℕ → ℕ → DataSet = energy_set a.family a.out in
    let one = single (line 1 (count 1)) _ a.buf.now a.at _ _ refl e1.next e1.held in
    let two = joined _ _ _ _ _ _ _ _ one (single (line 2 (count 2)) _ _ _ _ _ refl e2.next e2.held) in
    let three = joined _ _ _ _ _ _ _ _ two (single (line 3 (count 3)) _ _ _ _ _ refl e3.next e3.held) in
    let four = joined _ _ _ _ _ _ _ _ three (single (line 4 (count 4)) _ _ _ _ _ refl e4.next e4.held) in
    let five = joined _ _ _ _ _ _ _ _ four (single (line 0 a.c.total) _ _ _ _ _ refl e5.next e5.held) in
    record { next = five.next; held = five.held }
