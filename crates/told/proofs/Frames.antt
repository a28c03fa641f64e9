-- A whole frame: the verdict on what is held is the one that its bytes say. Assumes nothing.
use mathlib.Core.Path.{◌≡◌, refl, sym, ap, ap₂, ◌∙◌}
use mathlib.Core.Bool.{Bool, true, false, cond, not, ◌&&◌, ◌||◌}
use mathlib.Core.List.{List, [], ◌∷◌, ◌++◌, map}
use Prim.Native.Nat.{ℕ, suc, ◌+◌, ◌-◌, ◌≤◌}
use native.Mathlib.Omega.{arith}
use borrow.Author.Tests.{leb-true, leb-false, eqb-true, eq-eqb}
use lib.Dec.{eqb, leb, ltb}
use lib.ListN.{length, get_or, take, drop, length-append, length-drop}
use lib.Seq.{take-suc, take-length, take-append-le, drop-append-le}
use Rattle.line.specs.Characters.{damaged_at, seven, undamaged_all}
use Rattle.line.specs.Checksum.{bcc_of}
use Rattle.line.specs.Runs.{every}
use Rattle.line.proofs.Runs.{and_left, and_right, and_both}
use Rattle.text.specs.Classes.{same_text, is_printable, between}
use Rattle.text.specs.Layout.{fits}
use Rattle.text.proofs.Matching.{same-is, same_self, same-snoc}
use Rattle.line.specs.Quoted.{char, chars}
use Rattle.values.specs.Family.{is_eqm}
use Rattle.values.specs.Reading.{table_read}
use Rattle.frames.specs.Commands.{ask_clock, ask_serial, ask_account, lettered, ask_energy, ask_export}
use Rattle.frames.specs.Frames.{closed, frame_of, bare_frame}
use Rattle.state.specs.WellFormed.{marked}
use Rattle.receiving.specs.Receivers.{held_text}
use Rattle.replies.specs.declared.Ask.{Ask}
use Rattle.deciding.specs.Verdicts.{Verdict, Refuse, Leave, Read}
use Rattle.deciding.specs.Shape.{start_good, bare_shape, framed_shape, content}
use Rattle.deciding.specs.Asking.{asked, energy_named, energy_asked, table_asked}
use Rattle.deciding.specs.Verdict.{bare_verdict, framed_verdict, shape_verdict, verdict}
use Rattle.meter.specs.Character.{symbol}
use Rattle.promises.proofs.Choices as choice
use Rattle.whole.specs.Gathering.{filled}
use Rattle.whole.proofs.Filled.{length-map}
use Rattle.dialogue.proofs.Frames.{held_frame, verdict-is}
use Rattle.history.specs.Saying.{says}
use Rattle.history.specs.Frames.{data_in, is_frame, is_one_of, is_ask, leaves}
use Rattle.history.proofs.Saying.{map_snoc, undamaged-snoc}
use Rattle.told.proofs.Holding.{untrue, symbols, held-is}

-- ---- a shape is a text

split : (a b c d e : ℕ) (r : List ℕ)
    → a ∷ b ∷ c ∷ d ∷ e ∷ r ≡ a ∷ b ∷ c ∷ d ∷ (content (a ∷ b ∷ c ∷ d ∷ e ∷ r) ++ (get_or (a ∷ b ∷ c ∷ d ∷ e ∷ r) (length (a ∷ b ∷ c ∷ d ∷ e ∷ r) - 1) 0 ∷ []))
unfolding content
split a b c d e r =
    let k : length (a ∷ b ∷ c ∷ d ∷ e ∷ r) - 5 ≡ length r = omega arith in
    let j : length (a ∷ b ∷ c ∷ d ∷ e ∷ r) - 1 ≡ suc (suc (suc (suc (length r)))) = omega arith in
    ap (λ (l : List ℕ). a ∷ b ∷ c ∷ d ∷ l)
    (sym (take-length (e ∷ r)) ∙ take-suc (e ∷ r) (length r) 0 (omega arith)
    ∙ ap₂ (λ (n i : ℕ). take n (e ∷ r) ++ (get_or (a ∷ b ∷ c ∷ d ∷ e ∷ r) i 0 ∷ [])) (sym k) (sym j))

parts : (h : List ℕ) → 5 ≤ length h → h ≡ get_or h 0 0 ∷ get_or h 1 0 ∷ get_or h 2 0 ∷ get_or h 3 0 ∷ (content h ++ (get_or h (length h - 1) 0 ∷ []))
parts [] n = absurd (omega arith)
parts (a ∷ []) n = absurd (omega arith)
parts (a ∷ b ∷ []) n = absurd (omega arith)
parts (a ∷ b ∷ c ∷ []) n = absurd (omega arith)
parts (a ∷ b ∷ c ∷ d ∷ []) n = absurd (omega arith)
parts (a ∷ b ∷ c ∷ d ∷ e ∷ r) n = split a b c d e r

four : (h : List ℕ) → length h ≡ 4 → h ≡ get_or h 0 0 ∷ get_or h 1 0 ∷ get_or h 2 0 ∷ get_or h 3 0 ∷ []
four [] n = absurd (omega arith)
four (a ∷ []) n = absurd (omega arith)
four (a ∷ b ∷ []) n = absurd (omega arith)
four (a ∷ b ∷ c ∷ []) n = absurd (omega arith)
four (a ∷ b ∷ c ∷ d ∷ []) n = refl
four (a ∷ b ∷ c ∷ d ∷ e ∷ r) n = absurd (omega arith)

module _ (h : List ℕ) (sum : ℕ) (checked : eqb sum (bcc_of (drop 1 h)) ≡ true) where
  framed-says : (x y : ℕ) → framed_shape h ≡ true → (eqb (get_or h 1 0) x && eqb (get_or h 2 0) y) ≡ true
      → (same_text (h ++ (sum ∷ [])) (frame_of (x ∷ y ∷ []) (content h)) && every is_printable (content h)) ≡ true
  unfolding framed_shape start_good
  framed-says x y f w =
      let soh = eqb (get_or h 0 0) 1 in
      let words = is_printable (get_or h 1 0) && is_printable (get_or h 2 0) in
      let long = leb 5 (length h) in
      let stx = eqb (get_or h 3 0) 2 in
      let etx = eqb (get_or h (length h - 1) 0) 3 in
      let all = and_left ((soh && words) && ((long && stx) && etx)) (every is_printable (content h)) f in
      let start = and_left (soh && words) ((long && stx) && etx) all in
      let ends = and_right (soh && words) ((long && stx) && etx) all in
      let opens = and_left (long && stx) etx ends in
      let e0 = eqb-true (get_or h 0 0) 1 (and_left soh words start) in
      let e1 = eqb-true (get_or h 1 0) x (and_left (eqb (get_or h 1 0) x) _ w) in
      let e2 = eqb-true (get_or h 2 0) y (and_right (eqb (get_or h 1 0) x) _ w) in
      let e3 = eqb-true (get_or h 3 0) 2 (and_right long stx opens) in
      let last = eqb-true (get_or h (length h - 1) 0) 3 (and_right (long && stx) etx ends) in
      let is : h ≡ held_frame x y (content h) = parts h (leb-true 5 (length h) (and_left long stx opens)) ∙ rw (e0, e1, e2, e3, last) in
      let text : h ++ (sum ∷ []) ≡ frame_of (x ∷ y ∷ []) (content h) = frame-text x y (content h) is in
      and_both _ _ (ap (same_text (h ++ (sum ∷ []))) (sym text) ∙ same_self (h ++ (sum ∷ []))) (and_right ((soh && words) && ((long && stx) && etx)) (every is_printable (content h)) f)
    where
      frame-text : (x y : ℕ) (d : List ℕ) → h ≡ held_frame x y d → h ++ (sum ∷ []) ≡ frame_of (x ∷ y ∷ []) d
      frame-text x y d is = unfold frame_of closed in (ap₂ (λ (l : List ℕ) (n : ℕ). l ++ (n ∷ [])) is (eqb-true sum (bcc_of (drop 1 h)) checked ∙ ap (λ (l : List ℕ). bcc_of (drop 1 l)) is))

  bare-says : bare_shape h ≡ true → (eqb (get_or h 1 0) 66 && eqb (get_or h 2 0) 48) ≡ true → same_text (h ++ (sum ∷ [])) (bare_frame (66 ∷ 48 ∷ [])) ≡ true
  unfolding bare_shape start_good
  bare-says f w =
      let soh = eqb (get_or h 0 0) 1 in
      let words = is_printable (get_or h 1 0) && is_printable (get_or h 2 0) in
      let long = eqb (length h) 4 in
      let etx = eqb (get_or h 3 0) 3 in
      let start = and_left (soh && words) (long && etx) f in
      let ends = and_right (soh && words) (long && etx) f in
      let e0 = eqb-true (get_or h 0 0) 1 (and_left soh words start) in
      let e1 = eqb-true (get_or h 1 0) 66 (and_left (eqb (get_or h 1 0) 66) _ w) in
      let e2 = eqb-true (get_or h 2 0) 48 (and_right (eqb (get_or h 1 0) 66) _ w) in
      let e3 = eqb-true (get_or h 3 0) 3 (and_right long etx ends) in
      let is : h ≡ 1 ∷ 66 ∷ 48 ∷ 3 ∷ [] = four h (eqb-true (length h) 4 (and_left long etx ends)) ∙ rw (e0, e1, e2, e3) in
      ap (same_text (h ++ (sum ∷ []))) (sym (bare-text is)) ∙ same_self (h ++ (sum ∷ []))
    where
      bare-text : h ≡ 1 ∷ 66 ∷ 48 ∷ 3 ∷ [] → h ++ (sum ∷ []) ≡ bare_frame (66 ∷ 48 ∷ [])
      bare-text is = unfold bare_frame closed in (ap₂ (λ (l : List ℕ) (n : ℕ). l ++ (n ∷ [])) is (eqb-true sum (bcc_of (drop 1 h)) checked ∙ ap (λ (l : List ℕ). bcc_of (drop 1 l)) is))

-- ---- from what is held to the bytes

data-held : (h : List ℕ) (c : ℕ) → take (length (h ++ (c ∷ [])) - 6) (drop 4 (h ++ (c ∷ []))) ≡ content h
unfolding content
data-held h c = go (leb 4 (length h)) refl
  where
    k : length (h ++ (c ∷ [])) - 6 ≡ length h - 5
    k = omega (arith, length-append h (c ∷ []))

    go : (p : Bool) → leb 4 (length h) ≡ p → take (length (h ++ (c ∷ [])) - 6) (drop 4 (h ++ (c ∷ []))) ≡ take (length h - 5) (drop 4 h)
    go true e =
        ap (λ (n : ℕ). take n (drop 4 (h ++ (c ∷ [])))) k ∙ ap (take (length h - 5)) (drop-append-le 4 h (c ∷ []) (leb-true 4 (length h) e))
        ∙ take-append-le (length h - 5) (drop 4 h) (c ∷ []) (omega (arith, length-drop 4 h, leb-true 4 (length h) e))
    go false e =
        let z : length h - 5 ≡ 0 = omega (arith, leb-false 4 (length h) e) in
        ap (λ (n : ℕ). take n (drop 4 (h ++ (c ∷ [])))) (k ∙ z) ∙ sym (ap (λ (n : ℕ). take n (drop 4 h)) z)

-- a frame that is refused
pub data Refused : Verdict → Type 0 where
  refused : (n : ℕ) → Refused (Refuse n)

-- one of five
five : (a b c d e : Bool) → ltb (cond a 0 (cond b 1 (cond c 2 (cond d 3 (cond e 4 5))))) 5 ≡ (a || (b || (c || (d || e))))
five true b c d e = refl
five false true c d e = refl
five false false true d e = refl
five false false false true e = refl
five false false false false true = refl
five false false false false false = refl

came-named : (d : List ℕ) → is_one_of ask_energy d ≡ ltb (energy_named (char "E") d) 5
unfolding is_one_of ask_energy energy_named
came-named d = sym (five (same_text d (lettered 69 0)) (same_text d (lettered 69 1)) (same_text d (lettered 69 2)) (same_text d (lettered 69 3)) (same_text d (lettered 69 4)))

went-named : (d : List ℕ) → is_one_of ask_export d ≡ ltb (energy_named (char "G") d) 5
unfolding is_one_of ask_export energy_named
went-named d = sym (five (same_text d (lettered 71 0)) (same_text d (lettered 71 1)) (same_text d (lettered 71 2)) (same_text d (lettered 71 3)) (same_text d (lettered 71 4)))

-- what R1 may ask, and all else
pub data Asks (tables family : ℕ) (d : List ℕ) : Verdict → Type 0 where
  asks-it : (a : Ask) → is_ask tables family d ≡ true → Asks tables family d (Read a)
  asks_nothing : is_ask tables family d ≡ false → Asks tables family d (Refuse 9)

pub asked-asks : (tables family : ℕ) (d : List ℕ) → Asks tables family d (asked tables family d)
unfolding asked energy_asked table_asked is_ask
asked-asks tables family d =
    go (same_text d ask_clock) refl (same_text d ask_serial) refl (same_text d ask_account) refl
    (ltb (energy_named (char "E") d) 5) refl (is_eqm family && ltb (energy_named (char "G") d) 5) refl
    (fits (chars "Z(##)") d) refl (table_read tables (take 2 (drop 2 d))).ok refl
  where
    go : (c : Bool) → same_text d ask_clock ≡ c → (s : Bool) → same_text d ask_serial ≡ s → (a : Bool) → same_text d ask_account ≡ a
        → (e : Bool) → ltb (energy_named (char "E") d) 5 ≡ e → (o : Bool) → (is_eqm family && ltb (energy_named (char "G") d) 5) ≡ o
        → (z : Bool) → fits (chars "Z(##)") d ≡ z → (k : Bool) → (table_read tables (take 2 (drop 2 d))).ok ≡ k → Asks tables family d (asked tables family d)
    go true x0 s x1 a x2 e x3 o x4 z x5 k x6 = rw x0 (asks-it _ (rw x0))
    go false x0 true x1 a x2 e x3 o x4 z x5 k x6 = rw (x0, x1) (asks-it _ (rw (x0, x1)))
    go false x0 false x1 true x2 e x3 o x4 z x5 k x6 = rw (x0, x1, x2) (asks-it _ (rw (x0, x1, x2)))
    go false x0 false x1 false x2 true x3 o x4 z x5 k x6 = rw (x0, x1, x2, x3) (asks-it _ (rw (x0, x1, x2, came-named d, x3)))
    go false x0 false x1 false x2 false x3 true x4 z x5 k x6 = rw (x0, x1, x2, x3, x4) (asks-it _ (rw (x0, x1, x2, came-named d, x3, went-named d, x4)))
    go false x0 false x1 false x2 false x3 false x4 true x5 true x6 =
        rw (x0, x1, x2, x3, x4, x5, x6) (asks-it _ (rw (x0, x1, x2, came-named d, x3, went-named d, x4, x5, x6)))
    go false x0 false x1 false x2 false x3 false x4 true x5 false x6 =
        rw (x0, x1, x2, x3, x4, x5, x6) (asks_nothing (rw (x0, x1, x2, came-named d, x3, went-named d, x4, x5, x6)))
    go false x0 false x1 false x2 false x3 false x4 false x5 k x6 =
        rw (x0, x1, x2, x3, x4, x5) (asks_nothing (rw (x0, x1, x2, came-named d, x3, went-named d, x4, x5)))

module _ (run : List ℕ) (b : ℕ) where
  abbrev pub held : List ℕ
  held = held_text (filled run)

  abbrev pub mark : Bool
  mark = marked (filled run) || damaged_at b

  abbrev pub frame : List ℕ
  frame = run ++ (b ∷ [])

  mark-is : undamaged_all frame ≡ not mark
  mark-is = undamaged-snoc run b ∙ go (undamaged_all run) (damaged_at b)
    where
      go : (u d : Bool) → (u && not d) ≡ not (eqb (cond u 0 1) 1 || d)
      go true true = refl
      go true false = refl
      go false true = refl
      go false false = refl

  characters : mark ≡ false → map seven frame ≡ held ++ (symbol b ∷ [])
  unfolding symbol
  characters e = map_snoc seven run b ∙ go (undamaged_all run) refl (damaged_at b) refl (sym (undamaged-snoc run b) ∙ mark-is ∙ ap not e)
    where
      go : (u : Bool) → undamaged_all run ≡ u → (d : Bool) → damaged_at b ≡ d → (u && not d) ≡ true → map seven run ++ (seven b ∷ []) ≡ held ++ (cond (damaged_at b) 0 (seven b) ∷ [])
      go true f false k a = rw (k, held-is run, symbols run f)
      go true f true k a = untrue a
      go false f d k a = untrue a

  -- the data of the frame is that of what is held
  pub data_is : mark ≡ false → data_in frame ≡ content held
  unfolding data_in
  data_is e =
      let t = characters e in
      ap₂ (λ (n : ℕ) (l : List ℕ). take (n - 6) (drop 4 l)) (sym (length-map seven frame) ∙ ap length t) t ∙ data-held held (symbol b)

  says-held : (text : List ℕ) → mark ≡ false → says frame text ≡ same_text (held ++ (symbol b ∷ [])) text
  unfolding says
  says-held text e = rw (mark-is, e) (ap (λ (l : List ℕ). same_text l text) (characters e))

  says-unmarked : (text : List ℕ) → says frame text ≡ true → mark ≡ false
  unfolding says
  says-unmarked text h = go mark (sym mark-is ∙ and_left (undamaged_all frame) _ h)
    where
      go : (p : Bool) → not p ≡ true → p ≡ false
      go true e = untrue e
      go false e = refl

  pub frame-unmarked : (command : List ℕ) → is_frame command frame ≡ true → mark ≡ false
  unfolding is_frame
  frame-unmarked command h = says-unmarked _ (and_left (says frame (frame_of command (data_in frame))) _ h)

  module _ (tables family mode : ℕ) where
    -- the frame is one with these letters
    pub framed-decided : (x y : ℕ) → is_printable x ≡ true → is_printable y ≡ true → is_frame (x ∷ y ∷ []) frame ≡ true → verdict tables family mode held mark (symbol b) ≡ framed_verdict tables family mode x y (content held)
    unfolding is_frame
    framed-decided x y px py h =
        let e = frame-unmarked (x ∷ y ∷ []) (unfold is_frame in h) in
        let here = data_is e in
        let said = and_left (says frame (frame_of (x ∷ y ∷ []) (data_in frame))) _ h in
        let printable : every is_printable (content held) ≡ true = ap (every is_printable) (sym here) ∙ and_right (says frame (frame_of (x ∷ y ∷ []) (data_in frame))) _ h in
        let same : same_text (held ++ (symbol b ∷ [])) (frame_of (x ∷ y ∷ []) (content held)) ≡ true =
        sym (says-held (frame_of (x ∷ y ∷ []) (content held)) e) ∙ ap (λ (d : List ℕ). says frame (frame_of (x ∷ y ∷ []) d)) (sym here) ∙ said in
        let two = apart x y (content held) same in
        rw e (ap₂ (λ (l : List ℕ) (n : ℕ). verdict tables family mode l false n) two.0 two.1 ∙ verdict-is x y (content held) px py printable tables family mode)
      where
        apart : (x y : ℕ) (d : List ℕ) → same_text (held ++ (symbol b ∷ [])) (frame_of (x ∷ y ∷ []) d) ≡ true
            → (held ≡ held_frame x y d) × (symbol b ≡ bcc_of (x ∷ y ∷ 2 ∷ (d ++ (3 ∷ []))))
        apart x y d h = unfold frame_of closed in (
            let both = sym (same-snoc held (held_frame x y d) (symbol b) (bcc_of (x ∷ y ∷ 2 ∷ (d ++ (3 ∷ []))))) ∙ h in
            (same-is held (held_frame x y d) (and_left (same_text held (held_frame x y d)) _ both), eqb-true (symbol b) _ (and_right (same_text held (held_frame x y d)) _ both)))

    -- it is B0
    pub leaves-decided : (leb 2 mode && leb mode 4) ≡ true → leaves frame ≡ true → verdict tables family mode held mark (symbol b) ≡ Leave
    unfolding leaves
    leaves-decided session h =
        let e = says-unmarked _ h in
        let two = apart (sym (says-held (bare_frame (66 ∷ 48 ∷ [])) e) ∙ h) in
        rw e (ap₂ (λ (l : List ℕ) (n : ℕ). verdict tables family mode l false n) two.0 two.1 ∙ bare mode session)
      where
        apart : same_text (held ++ (symbol b ∷ [])) (bare_frame (66 ∷ 48 ∷ [])) ≡ true → (held ≡ 1 ∷ 66 ∷ 48 ∷ 3 ∷ []) × (symbol b ≡ bcc_of (66 ∷ 48 ∷ 3 ∷ []))
        apart h = unfold bare_frame closed in (
            let both = sym (same-snoc held (1 ∷ 66 ∷ 48 ∷ 3 ∷ []) (symbol b) (bcc_of (66 ∷ 48 ∷ 3 ∷ []))) ∙ h in
            (same-is held (1 ∷ 66 ∷ 48 ∷ 3 ∷ []) (and_left (same_text held (1 ∷ 66 ∷ 48 ∷ 3 ∷ [])) _ both), eqb-true (symbol b) _ (and_right (same_text held (1 ∷ 66 ∷ 48 ∷ 3 ∷ [])) _ both)))

        bare : (mode : ℕ) → (leb 2 mode && leb mode 4) ≡ true → verdict tables family mode (1 ∷ 66 ∷ 48 ∷ 3 ∷ []) false (bcc_of (66 ∷ 48 ∷ 3 ∷ [])) ≡ Leave
        bare mode k = unfold verdict shape_verdict bare_shape start_good is_printable between bare_verdict in (rw (eq-eqb (bcc_of (66 ∷ 48 ∷ 3 ∷ [])) _ refl, k))

    -- it is none that does anything
    pub other-decided : leaves frame ≡ false → is_frame (80 ∷ 49 ∷ []) frame ≡ false → is_frame (82 ∷ 49 ∷ []) frame ≡ false → is_frame (87 ∷ 49 ∷ []) frame ≡ false
        → Refused (verdict tables family mode held mark (symbol b))
    unfolding verdict shape_verdict bare_verdict framed_verdict
    other-decided none no-entry no-ask no_write =
        choice.told Refused mark (λ e. refused 3)
        (λ e. choice.given Refused (eqb (symbol b) (bcc_of (drop 1 held)))
        (λ sum. choice.given Refused (bare_shape held)
        (λ bare. choice.given Refused (eqb (get_or held 1 0) 66 && eqb (get_or held 2 0) 48) (λ w. untrue (sym none ∙ is-leave e sum bare w)) (refused 7))
        (choice.given Refused (framed_shape held)
        (λ f. choice.given Refused (eqb (get_or held 1 0) 80 && eqb (get_or held 2 0) 49) (λ w. untrue (sym no-entry ∙ is_framed e sum 80 49 f w))
        (choice.given Refused (eqb (get_or held 1 0) 82 && eqb (get_or held 2 0) 49) (λ w. untrue (sym no-ask ∙ is_framed e sum 82 49 f w))
        (choice.given Refused (eqb (get_or held 1 0) 87 && eqb (get_or held 2 0) 49) (λ w. untrue (sym no_write ∙ is_framed e sum 87 49 f w)) (refused 7))))
        (refused 6)))
        (refused 4))
      where
        is-leave : mark ≡ false → eqb (symbol b) (bcc_of (drop 1 held)) ≡ true → bare_shape held ≡ true → (eqb (get_or held 1 0) 66 && eqb (get_or held 2 0) 48) ≡ true → leaves frame ≡ true
        is-leave e sum f w = unfold leaves in (says-held (bare_frame (66 ∷ 48 ∷ [])) e ∙ bare-says held (symbol b) sum f w)

        is_framed : mark ≡ false → eqb (symbol b) (bcc_of (drop 1 held)) ≡ true → (x y : ℕ) → framed_shape held ≡ true → (eqb (get_or held 1 0) x && eqb (get_or held 2 0) y) ≡ true
            → is_frame (x ∷ y ∷ []) frame ≡ true
        is_framed e sum x y f w = unfold is_frame in (
            ap₂ (λ (p q : Bool). p && q) (ap (λ (d : List ℕ). says frame (frame_of (x ∷ y ∷ []) d)) (data_is e) ∙ says-held (frame_of (x ∷ y ∷ []) (content held)) e) (ap (every is_printable) (data_is e))
            ∙ framed-says held (symbol b) sum x y f w)
