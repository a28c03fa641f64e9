-- `values::reading::read_counter` meets its contract: the form decides, in its first and its last eight characters, and the number is that of the pairs.
-- Assumes nothing.
use mathlib.Core.Path.{◌≡◌, sym, ◌∙◌}
use lib.ListN.{length}
use Rattle.values.specs.Counters.{counter_pattern}
use Rattle.values.specs.Reading.{counter_read, energy_read}
use Rattle.values.proofs.Fields.{misfit}
use Rattle.values.proofs.Counters.{counter-pattern-long, counter-kept, counter-above, counter-said}
use Rattle.values.proofs.reading.read_counter.Goals as goal

pub returns-then-s-at : goal.returns-then-s-at
unfolding counter_read energy_read
returns-then-s-at c =
    let a = c.args in
    rw (misfit (counter_pattern a.family) a.s.now (λ (e : length a.s.now ≡ length (counter_pattern a.family)). c.if-s-at.true (rw c.counter_digits-at.ensures.value (e ∙ counter-pattern-long a.family))))

pub counter_in-requires : goal.counter_in-requires
counter_in-requires c =
    let a = c.args in
    let z = c.counter_digits-at.ensures.value in
    let m = c.if-s-at.false in
    let e = c.eight-w.ensures in
    let f = c.eight-v.ensures.0 in
    counter-above a.family _ a.s.now _ _ z m e.0 f (sym (counter-kept a.family _ a.s.now _ _ z m e.0 f e.1) ∙ sym c.is_counter.ensures ∙ c.if-is_counter.true)

pub returns-then-is_counter : goal.returns-then-is_counter
unfolding counter_read energy_read
returns-then-is_counter c =
    let a = c.args in
    let z = c.counter_digits-at.ensures.value in
    let m = c.if-s-at.false in
    let e = c.eight-w.ensures in
    let f = c.eight-v.ensures.0 in
    let h = sym (counter-kept a.family _ a.s.now _ _ z m e.0 f e.1) ∙ sym c.is_counter.ensures ∙ c.if-is_counter.true in
    rw (h, c.counter_in.ensures, counter-said a.family _ a.s.now _ _ z m e.0 f h)

pub returns : goal.returns
unfolding counter_read energy_read
returns c =
    let a = c.args in
    let e = c.eight-w.ensures in
    let f = c.eight-v.ensures.0 in
    rw (← counter-kept a.family _ a.s.now _ _ c.counter_digits-at.ensures.value c.if-s-at.false e.0 f e.1, ← c.is_counter.ensures, c.if-is_counter.false)
