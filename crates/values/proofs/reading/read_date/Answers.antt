-- `values::reading::read_date` meets its contract: the form decides, and its numbers are those of the pairs. Assumes nothing.
use mathlib.Core.Path.{◌≡◌, refl, sym, ◌∙◌}
use mathlib.Core.Bool.{Bool, true}
use mathlib.Core.List.{List}
use Prim.Native.Nat.{ℕ, ◌-◌}
use lib.ListN.{length}
use Rattle.line.specs.Runs.{every}
use Rattle.text.specs.Layout.{pattern, fits}
use Rattle.eights.specs.Lanes.{lanes, least, common, spare, keeps, paired, is_byte}
use Rattle.eights.proofs.Windows.{window}
use Rattle.values.specs.Numbers.{Above, three_in, three_of}
use Rattle.values.specs.Texts.{date_form}
use Rattle.values.specs.Reading.{date_read}
use Rattle.values.proofs.Fields.{misfit, three-fields}
use Rattle.values.proofs.Eights.{kept-eight, eight-above, eight-three}
use Rattle.values.proofs.reading.read_date.Goals as goal

abbrev low : ℕ
low = 0x30302D30302D3030

fitted : (s : List ℕ) (w : ℕ) (ok : Bool) → length s ≡ 8 → (w ≡ lanes (window 0 s)) × (every is_byte s ≡ true) → ok ≡ keeps low 0xF0F0FFF0F0FFF0F0 0x0606000606000606 w
    → ok ≡ fits (pattern date_form) s
unfolding pattern lanes least common spare every
fitted s w ok m e k = k ∙ kept-eight (pattern date_form) s w refl m e.0 refl e.1

raised : (s : List ℕ) (w : ℕ) → length s ≡ 8 → w ≡ lanes (window 0 s) → fits (pattern date_form) s ≡ true → Above w low
unfolding pattern lanes least
raised s w m e h = eight-above (pattern date_form) s w refl m e h

read : (s : List ℕ) (w : ℕ) → length s ≡ 8 → w ≡ lanes (window 0 s) → fits (pattern date_form) s ≡ true → three_of (paired (w - low)) ≡ three_in s 0
unfolding pattern lanes least
read s w m e h = eight-three (pattern date_form) s w refl m e h (record { a = refl; b = refl; c = refl; d = refl; e = refl; f = refl })

pub returns-then-s-ne8 : goal.returns-then-s-ne8
unfolding date_read pattern
returns-then-s-ne8 c = rw (misfit (pattern date_form) c.args.s.now c.if-s-ne8.true)

pub three_above-requires : goal.three_above-requires
three_above-requires c =
    let s = c.args.s.now in
    let e = c.eight-w.ensures in
    raised s _ c.if-s-ne8.false e.0 (sym (fitted s _ _ c.if-s-ne8.false e c.keeps_form.ensures) ∙ c.if-keeps_form.true)

pub date_of-requires : goal.date_of-requires
date_of-requires c =
    let s = c.args.s.now in
    let e = c.eight-w.ensures in
    let h = sym (fitted s _ _ c.if-s-ne8.false e c.keeps_form.ensures) ∙ c.if-keeps_form.true in
    rw (c.three_above.ensures ∙ read s _ c.if-s-ne8.false e.0 h) (three-fields 45 s h).first

pub returns-then-keeps_form : goal.returns-then-keeps_form
unfolding date_read
returns-then-keeps_form c =
    let s = c.args.s.now in
    let e = c.eight-w.ensures in
    let h = sym (fitted s _ _ c.if-s-ne8.false e c.keeps_form.ensures) ∙ c.if-keeps_form.true in
    rw (h, c.date_of.ensures, c.three_above.ensures ∙ read s _ c.if-s-ne8.false e.0 h)

pub returns : goal.returns
unfolding date_read
returns c =
    let s = c.args.s.now in
    rw (← fitted s _ _ c.if-s-ne8.false c.eight-w.ensures c.keeps_form.ensures, c.if-keeps_form.false)
