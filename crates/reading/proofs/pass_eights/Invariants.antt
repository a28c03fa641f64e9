-- `reading::pass_eights` meets its contract: what was passed may all stand in a value, and the rest is left to take eights from. Assumes nothing.
use mathlib.Core.Path.{◌≡◌}
use mathlib.Core.Bool.{true}
use Prim.Native.Nat.{◌-◌, ◌≤◌}
use Rattle.std.specs.Slice.Iter.{chunks_exact_rest, chunks_exact_size}
use lib.ListN.{length, take, drop}
use Rattle.line.specs.Runs.{every}
use Rattle.text.specs.Classes.{is_value}
use Rattle.reading.proofs.pass_eights.Given as goal

abbrev pub invariant-loop-eight : goal.invariant-loop-eight
invariant-loop-eight l =
    (l.at ≤ l.i) × (l.i ≤ l.end) × (l.end ≤ length l.s) × (every is_value (take (l.i - l.at) (drop l.at l.s)) ≡ true)
    × (chunks_exact_size l.eight-iterator ≡ 8) × (chunks_exact_rest l.eight-iterator ≡ take (l.end - l.i) (drop l.i l.s))
