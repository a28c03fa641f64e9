-- `card::scan` meets its contract: what is right behind the fields passed is right of the whole. Assumes nothing.
use mathlib.Core.Path.{◌≡◌, sym, ap, ◌∙◌}
use mathlib.Core.Bool.{true}
use mathlib.Core.List.{List}
use Prim.Native.Nat.{ℕ, ◌+◌, ◌≤◌}
use native.Mathlib.Omega.{arith}
use lib.ListN.{length, drop, length-drop}
use lib.Seq.{get_or-drop}
use Rattle.card.specs.Columns.{table_stands}
use Rattle.card.proofs.Fields.{Stands, stands}
use Rattle.card.proofs.Places.{passed-more}
use Rattle.post.proofs.Answers.{part-is}
use Rattle.card.proofs.scan.Goals as goal

-- a field that was seen at a place of the text
there : (tables above at : ℕ) (text part : List ℕ) → part ≡ drop at text → table_stands tables above part ≡ true → Stands tables above (drop at text)
there tables above at text part e t = stands tables above (drop at text) (ap (table_stands tables above) (sym e) ∙ t)

ends : (tables above at : ℕ) (text : List ℕ) → Stands tables above (drop at text) → at + 28 ≤ length text
ends tables above at text st = let h = st.long in omega (arith, length-drop at text)

pub loop-above-init : goal.loop-above-init
loop-above-init c = (c.requires.in-text, c.requires)

pub overflow_add-above : goal.overflow_add-above
overflow_add-above c = let l = c.loop-above in
    let t = c.args.text.now in
    omega (arith, ends c.args.tables l.above l.at t (there c.args.tables l.above l.at t _ (part-is t l.at) (sym c.table_stands.ensures ∙ c.loop-above-test.true)))

pub bounds-text-at : goal.bounds-text-at
bounds-text-at c = let l = c.loop-above in
    let t = c.args.text.now in
    omega (arith, ends c.args.tables l.above l.at t (there c.args.tables l.above l.at t _ (part-is t l.at) (sym c.table_stands.ensures ∙ c.loop-above-test.true)))

pub overflow_add-at : goal.overflow_add-at
overflow_add-at c = let l = c.loop-above in
    let t = c.args.text.now in
    omega (arith, ends c.args.tables l.above l.at t (there c.args.tables l.above l.at t _ (part-is t l.at) (sym c.table_stands.ensures ∙ c.loop-above-test.true)))

pub loop-above-smaller : goal.loop-above-smaller
loop-above-smaller c =
    let l = c.loop-above in
    let t = c.args.text.now in
    omega (arith, ends c.args.tables l.above l.at t (there c.args.tables l.above l.at t _ (part-is t l.at) (sym c.table_stands.ensures ∙ c.loop-above-test.true)))

pub loop-above-preserved : goal.loop-above-preserved
loop-above-preserved c = let l = c.loop-above in
    let t = c.args.text.now in
    let st = there c.args.tables l.above l.at t _ (part-is t l.at) (sym c.table_stands.ensures ∙ c.loop-above-test.true) in
    (ends c.args.tables l.above l.at t st, rw (get_or-drop l.at t 3 0) at (passed-more c.args.tables l.above l.at t l.invariant.1 st))

pub returns : goal.returns
returns c =
    let l = c.loop-above in
    let t = c.args.text.now in
    record { passed = l.invariant.1; stops = λ h. ap (table_stands c.args.tables l.above) (sym (part-is t l.at)) ∙ sym c.table_stands.ensures ∙ c.loop-above-test.false }
