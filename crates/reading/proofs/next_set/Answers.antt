-- `reading::next_set` meets its contract: each way out is a case of `Deciding`. Assumes nothing.
use mathlib.Core.Bool.{true, false}
use mathlib.Core.Path.{sym, ◌∙◌}
use Prim.Native.Nat.{◌+◌, ◌≤◌}
use native.Mathlib.Omega.{arith}
use borrow.Author.Tests.{le-leb, lt-leb, eq-eqb, ne_eqb}
use lib.ListN.{drop, length-drop, get_or-eq_default}
use Rattle.reading.proofs.Deciding.{no_end, stand-at, past_end, line-end, no_address, by_value}
use Rattle.reading.proofs.Leading.{passed, none_passed}
use Rattle.reading.specs.Sets.{of_kind}
use Rattle.reading.proofs.next_set.Goals as goal

pub returns-then-data-at : goal.returns-then-data-at
returns-then-data-at c =
    past_end _ _ c.if-data-at.true

pub run-a-requires : goal.run-a-requires
run-a-requires c =
    let s = c.args.«data».now in let at = c.args.at in record { from = omega arith; there = omega (arith, c.if-data-at.false); few = omega arith; lead = passed (of_kind false) s at at 17 (omega arith) (omega (arith, c.if-data-at.false)) (omega arith) (none_passed (of_kind false) s at) }

pub returns-then-starts_with : goal.returns-then-starts_with
returns-then-starts_with c =
    line-end _ _ c.if-data-at.false (sym (c.starts_with.ensures.value ∙ stand-at 33 13 10 c.args.«data».now c.args.at) ∙ c.if-starts_with.true)

pub returns-then-a-eq0 : goal.returns-then-a-eq0
returns-then-a-eq0 c = let s = c.args.«data».now in let at = c.args.at in let a = c.run-a.result in no_address s at c.if-data-at.false a c.run-a.ensures.is (sym (c.starts_with.ensures.value ∙ stand-at 33 13 10 c.args.«data».now c.args.at) ∙ c.if-starts_with.false) (rw c.if-a-eq0.true)

pub overflow_add-open : goal.overflow_add-open
overflow_add-open c =
    record { fits = omega (arith, c.run-a.ensures.there, length-drop c.args.at c.args.«data».now) }

pub returns-then-a-gt16 : goal.returns-then-a-gt16
returns-then-a-gt16 c = let s = c.args.«data».now in let at = c.args.at in let a = c.run-a.result in let one : 1 ≤ a = omega (arith, c.if-a-eq0.false) in no_address s at c.if-data-at.false a c.run-a.ensures.is (no_end 17 (drop at s) (λ z. c.if-a-eq0.false (c.run-a.ensures.is ∙ z))) (rw (le-leb 1 a one, lt-leb a 16 c.if-a-gt16.true))

pub returns-then-data-open : goal.returns-then-data-open
returns-then-data-open c = let s = c.args.«data».now in let at = c.args.at in let a = c.run-a.result in let one : 1 ≤ a = omega (arith, c.if-a-eq0.false) in no_address s at c.if-data-at.false a c.run-a.ensures.is (no_end 17 (drop at s) (λ z. c.if-a-eq0.false (c.run-a.ensures.is ∙ z))) (rw (le-leb 1 a one, le-leb a 16 c.if-a-gt16.false, get_or-eq_default s 0 c.if-data-open.true))

pub returns-then-data-open-ne40 : goal.returns-then-data-open-ne40
returns-then-data-open-ne40 c = let s = c.args.«data».now in let at = c.args.at in let a = c.run-a.result in let one : 1 ≤ a = omega (arith, c.if-a-eq0.false) in no_address s at c.if-data-at.false a c.run-a.ensures.is (no_end 17 (drop at s) (λ z. c.if-a-eq0.false (c.run-a.ensures.is ∙ z))) (rw (le-leb 1 a one, le-leb a 16 c.if-a-gt16.false, ne_eqb _ _ c.if-data-open-ne40.true))

pub overflow_add-close : goal.overflow_add-close
overflow_add-close c = record { fits = omega (arith, c.value_run-v.ensures.there, length-drop (c.args.at + c.run-a.result + 1) c.args.«data».now) }

pub returns-then-v-gt32 : goal.returns-then-v-gt32
returns-then-v-gt32 c =
    let s = c.args.«data».now in let at = c.args.at in let a = c.run-a.result in let one : 1 ≤ a = omega (arith, c.if-a-eq0.false) in by_value s at c.if-data-at.false a c.run-a.ensures.is (no_end 17 (drop at s) (λ z. c.if-a-eq0.false (c.run-a.ensures.is ∙ z))) (rw (le-leb 1 a one, le-leb a 16 c.if-a-gt16.false, eq-eqb _ _ c.if-data-open-ne40.false)) c.value_run-v.result false c.value_run-v.ensures.is (rw (lt-leb c.value_run-v.result 32 c.if-v-gt32.true))

pub returns-then-not-starts_with : goal.returns-then-not-starts_with
returns-then-not-starts_with c =
    let s = c.args.«data».now in let at = c.args.at in let a = c.run-a.result in let one : 1 ≤ a = omega (arith, c.if-a-eq0.false) in by_value s at c.if-data-at.false a c.run-a.ensures.is (no_end 17 (drop at s) (λ z. c.if-a-eq0.false (c.run-a.ensures.is ∙ z))) (rw (le-leb 1 a one, le-leb a 16 c.if-a-gt16.false, eq-eqb _ _ c.if-data-open-ne40.false)) c.value_run-v.result false c.value_run-v.ensures.is (rw (le-leb c.value_run-v.result 32 c.if-v-gt32.false, ← (c.starts_with-2.ensures.value ∙ stand-at 41 13 10 c.args.«data».now (c.args.at + c.run-a.result + 1 + c.value_run-v.result))) c.if-not-starts_with.true)

pub returns : goal.returns
returns c =
    let s = c.args.«data».now in let at = c.args.at in let a = c.run-a.result in let one : 1 ≤ a = omega (arith, c.if-a-eq0.false) in by_value s at c.if-data-at.false a c.run-a.ensures.is (no_end 17 (drop at s) (λ z. c.if-a-eq0.false (c.run-a.ensures.is ∙ z))) (rw (le-leb 1 a one, le-leb a 16 c.if-a-gt16.false, eq-eqb _ _ c.if-data-open-ne40.false)) c.value_run-v.result true c.value_run-v.ensures.is (rw (le-leb c.value_run-v.result 32 c.if-v-gt32.false, ← (c.starts_with-2.ensures.value ∙ stand-at 41 13 10 c.args.«data».now (c.args.at + c.run-a.result + 1 + c.value_run-v.result))) c.if-not-starts_with.false)
