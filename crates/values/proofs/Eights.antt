-- A text of eight characters, or one that two times eight cover, tested by its form as numbers, and the numbers of two digits in it.
-- Assumes nothing.
use mathlib.Core.Path.{◌≡◌, sym, ap, ap₂, ◌∙◌}
use mathlib.Core.Bool.{Bool, true, ◌&&◌}
use mathlib.Core.List.{List, map}
use Prim.Native.Nat.{ℕ, ◌+◌, ◌-◌, ◌/◌, ◌%◌, ◌≤◌}
use native.Mathlib.Nat.{div-one}
use native.Mathlib.Omega.{arith}
use lib.Dec.{ltb}
use lib.ListN.{length, get_or, take, drop, length-drop}
use lib.Seq.{take_all, length-take-le}
use Rattle.line.specs.Runs.{every}
use Rattle.line.proofs.Runs.{and_left, and_right, every_take, every_drop}
use Rattle.text.specs.Classes.{matching}
use Rattle.text.specs.Decimal.{number_at}
use Rattle.text.specs.Layout.{agrees, fits}
use Rattle.eights.specs.Lanes.{lanes, least, common, spare, keeps, paired, is_byte}
use Rattle.eights.proofs.Windows.{window, window-kept, window-least, window-few, window-two, covered}
use Rattle.values.specs.Numbers.{Above, three_in, three_of}

abbrev pub low_bytes : List ℕ → Bool
low_bytes p = every (λ c. ltb (least c) 256) p

-- digits, digits, anything, three times without the last
pub record Twos (p : List ℕ) : Type 0 where
  pub a : get_or p 0 0 ≡ 35
  pub b : get_or p 1 0 ≡ 35
  pub c : get_or p 3 0 ≡ 35
  pub d : get_or p 4 0 ≡ 35
  pub e : get_or p 6 0 ≡ 35
  pub f : get_or p 7 0 ≡ 35

module _ (p s : List ℕ) (at w : ℕ) (n : length p ≡ 8) (r : at + 8 ≤ length s) (e : w ≡ lanes (window at s)) (h : fits p (window at s) ≡ true) where
  pub is-above : Above w (lanes (map least p))
  is-above = (window-least p s at w n r e h, window-few p s at w n r e h)

  pub three-read : Twos p → three_of (paired (w - lanes (map least p))) ≡ record { first = number_at s (at + 0) 2; second = number_at s (at + 3) 2; third = number_at s (at + 6) 2 }
  three-read t =
      let d = paired (w - lanes (map least p)) in
      let i : d % 256 ≡ number_at s (at + 0) 2 = ap (λ (m : ℕ). m % 256) (sym (div-one d)) ∙ window-two p s at w n r e h 0 (omega arith) t.a t.b in
      let j : d / 0x1000000 % 256 ≡ number_at s (at + 3) 2 = window-two p s at w n r e h 3 (omega arith) t.c t.d in
      let k : d / 0x1000000000000 % 256 ≡ number_at s (at + 6) 2 = window-two p s at w n r e h 6 (omega arith) t.e t.f in
      rw (i, j, k)

-- eight characters in all
module _ (p s : List ℕ) (w : ℕ) (n : length p ≡ 8) (m : length s ≡ 8) (e : w ≡ lanes (window 0 s)) where
  pub all-eight : window 0 s ≡ s
  all-eight = take_all 8 s (omega arith)

  pub kept-eight : low_bytes p ≡ true → every is_byte s ≡ true → keeps (lanes (map least p)) (lanes (map common p)) (lanes (map spare p)) w ≡ fits p s
  kept-eight low bytes = window-kept p s 0 w n (omega arith) e low bytes ∙ ap (fits p) all-eight

  module _ (h : fits p s ≡ true) where
    in_window : fits p (window 0 s) ≡ true
    in_window = ap (fits p) all-eight ∙ h

    pub eight-above : Above w (lanes (map least p))
    eight-above = is-above p s 0 w n (omega arith) e in_window

    pub eight-three : Twos p → three_of (paired (w - lanes (map least p))) ≡ three_in s 0
    eight-three t = three-read p s 0 w n (omega arith) e in_window t

-- eight in front and eight at the end
module _ (p s : List ℕ) (at w v : ℕ) (short : at ≤ 8) (n : length p ≡ at + 8) (m : length s ≡ at + 8) (e : w ≡ lanes (window 0 s)) (f : v ≡ lanes (window at s)) where
  front_long : length (take 8 p) ≡ 8
  front_long = length-take-le 8 p (omega arith)

  end-long : length (drop at p) ≡ 8
  end-long = omega (arith, length-drop at p)

  end-all : window at s ≡ drop at s
  end-all = take_all 8 (drop at s) (omega (arith, length-drop at s))

  both : fits p s ≡ (fits (take 8 p) (window 0 s) && fits (drop at p) (window at s))
  unfolding fits
  both = covered agrees at 8 p s short ∙ ap (λ (l : List ℕ). matching agrees (take 8 p) (take 8 s) && matching agrees (drop at p) l) (sym end-all)

  pub kept-both : low_bytes p ≡ true → every is_byte s ≡ true
      → (keeps (lanes (map least (take 8 p))) (lanes (map common (take 8 p))) (lanes (map spare (take 8 p))) w
      && keeps (lanes (map least (drop at p))) (lanes (map common (drop at p))) (lanes (map spare (drop at p))) v) ≡ fits p s
  kept-both low bytes =
      ap₂ (λ (a b : Bool). a && b) (window-kept (take 8 p) s 0 w front_long (omega arith) e (every_take _ 8 p low) bytes)
      (window-kept (drop at p) s at v end-long (omega arith) f (every_drop _ at p low) bytes)
      ∙ sym both

  pub front_fits : fits p s ≡ true → fits (take 8 p) (window 0 s) ≡ true
  front_fits h = and_left (fits (take 8 p) (window 0 s)) (fits (drop at p) (window at s)) (sym both ∙ h)

  pub end_fits : fits p s ≡ true → fits (drop at p) (window at s) ≡ true
  end_fits h = and_right (fits (take 8 p) (window 0 s)) (fits (drop at p) (window at s)) (sym both ∙ h)
