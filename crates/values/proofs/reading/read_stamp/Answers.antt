-- `values::reading::read_stamp` meets its contract: the form decides, in its first and its last eight characters, and its numbers are those of the pairs.
-- Assumes nothing.
use mathlib.Core.Path.{◌≡◌, refl, sym, ◌∙◌}
use mathlib.Core.Bool.{Bool, true, ◌&&◌}
use mathlib.Core.List.{List}
use Prim.Native.Nat.{ℕ, ◌-◌}
use native.Mathlib.Omega.{arith}
use lib.ListN.{length, take, drop}
use Rattle.line.specs.Runs.{every}
use Rattle.text.specs.Layout.{pattern, fits}
use Rattle.eights.specs.Lanes.{lanes, least, common, spare, keeps, paired, is_byte}
use Rattle.eights.proofs.Windows.{window}
use Rattle.values.specs.Numbers.{Above, three_in, three_of}
use Rattle.values.specs.Texts.{stamp_form}
use Rattle.values.specs.Reading.{stamp_read, stamp_found}
use Rattle.values.proofs.Fields.{misfit}
use Rattle.values.proofs.Found.{let-through}
use Rattle.values.proofs.Eights.{kept-both, front_fits, end_fits, is-above, three-read}
use Rattle.values.proofs.reading.read_stamp.Goals as goal

abbrev date : ℕ
date = 0x30302D30302D3030

abbrev hours : ℕ
hours = 0x30303A3030203030

abbrev form : List ℕ
form = pattern stamp_form

module _ (s : List ℕ) (w v : ℕ) (m : length s ≡ 14) (e : w ≡ lanes (window 0 s)) (f : v ≡ lanes (window 6 s)) where
  fitted : (first last : Bool) → every is_byte s ≡ true → first ≡ keeps date 0xF0F0FFF0F0FFF0F0 0x0606000606000606 w → last ≡ keeps hours 0xF0F0FFF0F0FFF0F0 0x0606000606000606 v → (first && last) ≡ fits form s
  unfolding pattern lanes least common spare every
  fitted first last bytes k l = rw (k, l) (kept-both form s 6 w v (omega arith) refl m e f refl bytes)

  module _ (h : fits form s ≡ true) where
    front : fits (take 8 form) (window 0 s) ≡ true
    unfolding pattern
    front = front_fits form s 6 w v (omega arith) refl m e f h

    end : fits (drop 6 form) (window 6 s) ≡ true
    unfolding pattern
    end = end_fits form s 6 w v (omega arith) refl m e f h

    date-above : Above w date
    unfolding pattern lanes least
    date-above = is-above (take 8 form) s 0 w refl (omega arith) e front

    hours-above : Above v hours
    unfolding pattern lanes least
    hours-above = is-above (drop 6 form) s 6 v refl (omega arith) f end

    date-read : three_of (paired (w - date)) ≡ three_in s 0
    unfolding pattern lanes least
    date-read = three-read (take 8 form) s 0 w refl (omega arith) e front (record { a = refl; b = refl; c = refl; d = refl; e = refl; f = refl })

    hours-read : three_of (paired (v - hours)) ≡ three_in s 6
    unfolding pattern lanes least
    hours-read = three-read (drop 6 form) s 6 v refl (omega arith) f end (record { a = refl; b = refl; c = refl; d = refl; e = refl; f = refl })

pub returns-then-s-ne14 : goal.returns-then-s-ne14
unfolding stamp_read pattern
returns-then-s-ne14 c = rw (misfit form c.args.s.now c.if-s-ne14.true)

pub three_above-requires : goal.three_above-requires
three_above-requires c =
    let s = c.args.s.now in
    let e = c.eight-w.ensures in
    let f = c.eight-v.ensures.0 in
    date-above s _ _ c.if-s-ne14.false e.0 f (sym (fitted s _ _ c.if-s-ne14.false e.0 f _ _ e.1 c.keeps_form-first.ensures c.keeps_form-last.ensures) ∙ c.if-first-last.true)

pub three_above-requires-then-first-last : goal.three_above-requires-then-first-last
three_above-requires-then-first-last c =
    let s = c.args.s.now in
    let e = c.eight-w.ensures in
    let f = c.eight-v.ensures.0 in
    hours-above s _ _ c.if-s-ne14.false e.0 f (sym (fitted s _ _ c.if-s-ne14.false e.0 f _ _ e.1 c.keeps_form-first.ensures c.keeps_form-last.ensures) ∙ c.if-first-last.true)

pub returns-then-first-last : goal.returns-then-first-last
unfolding stamp_read
returns-then-first-last c =
    let s = c.args.s.now in
    let m = c.if-s-ne14.false in
    let e = c.eight-w.ensures in
    let f = c.eight-v.ensures.0 in
    let h = sym (fitted s _ _ m e.0 f _ _ e.1 c.keeps_form-first.ensures c.keeps_form-last.ensures) ∙ c.if-first-last.true in
    rw (
      h,
      c.then_some.ensures,
      c.is_stamp.ensures,
      c.stamp_of-t.ensures,
      c.three_above-then-first-last.ensures ∙ hours-read s _ _ m e.0 f h,
      c.three_above.ensures ∙ date-read s _ _ m e.0 f h,
    )
    (let-through stamp_found _ _)

pub returns : goal.returns
unfolding stamp_read
returns c =
    let s = c.args.s.now in
    let e = c.eight-w.ensures in
    rw (← fitted s _ _ c.if-s-ne14.false e.0 c.eight-v.ensures.0 _ _ e.1 c.keeps_form-first.ensures c.keeps_form-last.ensures, c.if-first-last.false)
