-- Listening: what is said from the last '/' on is a sign-on just where the line that the receiver holds is one. Assumes nothing.
use mathlib.Core.Path.{◌≡◌, refl, sym, ap, ap₂, ◌∙◌}
use mathlib.Core.Bool.{Bool, true, false, cond, not, ◌&&◌, ◌||◌, and-true, and-false}
use mathlib.Core.List.{List, [], ◌∷◌, ◌++◌, map, append_assoc}
use Prim.Native.Nat.{ℕ, suc, ◌+◌, ◌-◌, ◌≤◌}
use native.Mathlib.Omega.{arith}
use borrow.Author.Tests.{le-leb, lt-leb, leb-true, leb-false, ne_eqb, eqb-true}
use lib.Dec.{eqb, leb}
use lib.ListN.{length, take, drop, length-append}
use Rattle.line.specs.Characters.{damaged_at, seven, undamaged_all}
use Rattle.line.specs.Runs.{every}
use Rattle.line.proofs.Runs.{and_left, and_right, and_both, every_append, every_take, every_drop, every-weaker}
use Rattle.text.specs.Classes.{same_text, matching, between, is_digit}
use Rattle.text.proofs.Matching.{same-is, same-snoc}
use Rattle.text.proofs.Decimal.{digit_low}
use Rattle.values.specs.Registers.{good_serial, good_digits}
use Rattle.values.specs.Texts.{parted, serial_text, wired_text}
use Rattle.values.proofs.Rules.{digits_long, serial-text-long, wired-text-long}
use Rattle.frames.specs.Session.{sign_on, closing_sign_on, sign_on_to, wired_line, wired_sign_on}
use Rattle.receiving.specs.Receivers.{held_text}
use Rattle.state.specs.Link.{is_wired}
use Rattle.meter.specs.Link.{calls as calls-by-link, closes, optical_call, wired_call}
use Rattle.meter.specs.SignOn.{signs_on_by, closes_by}
use Rattle.whole.specs.Gathering.{filled}
use Rattle.whole.proofs.Filled.{length-map}
use Rattle.history.specs.Saying.{carries, says, since}
use Rattle.history.specs.Standing.{calls, zeros, calls_optical, calls_wired, closes_period, signs_on}
use Rattle.state.specs.declared.Facts.{Facts}
use Rattle.history.proofs.Saying.{says-snoc, says_none, more, since-snoc}
use Rattle.told.proofs.Holding.{untrue, no_lF, live, symbols, held-is, carries-one}

-- ---- one byte more of a line

every-snoc : (p : ℕ → Bool) (r : List ℕ) (b : ℕ) → every p (r ++ (b ∷ [])) ≡ (every p r && p b)
unfolding every
every-snoc p [] b = and-true (p b)
every-snoc p (x ∷ r) b = rw (every-snoc p r b) (across (p x) (every p r) (p b))
  where
    across : (a c d : Bool) → (a && (c && d)) ≡ ((a && c) && d)
    across true c d = refl
    across false c d = refl

-- the line so far, and with one byte more
abbrev pub line : List ℕ → List ℕ
line said = live (since 47 said)

pub live-snoc : (said : List ℕ) (b : ℕ)
    → line (said ++ (b ∷ [])) ≡ cond (carries 47 b) (b ∷ []) (cond (carries 10 b) [] (cond (leb 31 (length (line said))) [] (more (line said) b)))
unfolding live more every
live-snoc said b = rw (since-snoc 47 said b) (go (carries 47 b) refl (since 47 said))
  where
    full : (n : ℕ) → leb n 31 ≡ true → leb (suc n) 31 ≡ not (leb 31 n)
    full n h = go2 (leb 31 n) refl
      where
        go2 : (f : Bool) → leb 31 n ≡ f → leb (suc n) 31 ≡ not f
        go2 true e = lt-leb (suc n) 31 (omega (arith, leb-true 31 n e))
        go2 false e = le-leb (suc n) 31 (omega (arith, leb-false 31 n e))

    grown : (r : List ℕ) → length (r ++ (b ∷ [])) ≡ suc (length r)
    grown r = length-append r (b ∷ []) ∙ omega arith

    held : (x : ℕ) (r : List ℕ) → live ((x ∷ r) ++ (b ∷ []))
        ≡ cond (carries 10 b) [] (cond (leb 31 (length (live (x ∷ r)))) [] (more (live (x ∷ r)) b))
    held x r = rw (every-snoc no_lF (x ∷ r) b, grown (x ∷ r)) (cases (every no_lF (x ∷ r)) (leb (suc (length r)) 31) refl (carries 10 b))
      where
        cases : (e f : Bool) → leb (suc (length r)) 31 ≡ f → (k : Bool)
            → cond ((e && not k) && leb (suc (suc (length r))) 31) (x ∷ (r ++ (b ∷ []))) []
            ≡ cond k [] (cond (leb 31 (length (cond (e && f) (x ∷ r) []))) [] (more (cond (e && f) (x ∷ r) []) b))
        cases false f h true = refl
        cases false f h false = refl
        cases true f h true = refl
        cases true false h false = rw (lt-leb (suc (suc (length r))) 31 (omega (arith, leb-false (suc (length r)) 31 h)))
        cases true true h false = rw (full (suc (length r)) h) (two (leb 31 (suc (length r))))
          where
            two : (t : Bool) → cond (not t) (x ∷ (r ++ (b ∷ []))) [] ≡ cond t [] (x ∷ (r ++ (b ∷ [])))
            two true = refl
            two false = refl

    go : (p : Bool) → carries 47 b ≡ p → (r : List ℕ)
        → live (cond p (b ∷ []) (more r b)) ≡ cond p (b ∷ []) (cond (carries 10 b) [] (cond (leb 31 (length (live r))) [] (more (live r) b)))
    go true e r = unfold every in (rw (carries-one 47 10 b (λ z. omega (arith, z)) e))
    go false e [] = two (carries 10 b)
      where
        two : (k : Bool) → live (more [] b) ≡ cond k [] (more [] b)
        two true = refl
        two false = refl
    go false e (x ∷ r) = held x r

-- ---- a line of the rules: LF at its end alone, 31 characters before it at most

pub record Ended (text : List ℕ) : Type 0 where
  pub first : ℕ
  pub rest : List ℕ
  pub is : text ≡ (first ∷ rest) ++ (10 ∷ [])
  pub plain : every (λ c. not (eqb c 10)) (first ∷ rest) ≡ true
  pub short : length (first ∷ rest) ≤ 31

says_plain : (r t : List ℕ) → same_text (map seven r) t ≡ true → every (λ c. not (eqb c 10)) t ≡ true → every no_lF r ≡ true
unfolding same_text matching every carries
says_plain [] t s p = refl
says_plain (b ∷ r) [] s p = untrue s
says_plain (b ∷ r) (c ∷ t) s p =
    and_both (no_lF b) (every no_lF r)
    (one (not (damaged_at b)) (eqb (seven b) 10) (ap (λ (x : ℕ). not (eqb x 10)) (eqb-true (seven b) c (and_left (eqb (seven b) c) _ s)) ∙ and_left (not (eqb c 10)) _ p))
    (says_plain r t (and_right (eqb (seven b) c) _ s) (and_right (not (eqb c 10)) _ p))
  where
    one : (u e : Bool) → not e ≡ true → not (u && e) ≡ true
    one true e h = h
    one false e h = refl

says-short : (r t : List ℕ) → same_text (map seven r) t ≡ true → length r ≡ length t
says-short r t s = sym (length-map seven r) ∙ ap length (same-is (map seven r) t s)

-- what says it is live
says-live : (r : List ℕ) (x : ℕ) (t : List ℕ) → every (λ c. not (eqb c 10)) (x ∷ t) ≡ true → length (x ∷ t) ≤ 31 → says (live r) (x ∷ t) ≡ says r (x ∷ t)
unfolding says live undamaged_all every same_text matching
says-live r x t p n = go (undamaged_all r) refl (same_text (map seven r) (x ∷ t)) refl
  where
    go : (u : Bool) → undamaged_all r ≡ u → (s : Bool) → same_text (map seven r) (x ∷ t) ≡ s → says (live r) (x ∷ t) ≡ (u && s)
    go u a true b = rw (says_plain r (x ∷ t) b p, le-leb (length r) 31 (omega (arith, says-short r (x ∷ t) b, n)), a, b)
    go u a false b = rw (and-false u) (choose (every no_lF r && leb (length r) 31))
      where
        choose : (k : Bool) → (undamaged_all (cond k r []) && same_text (map seven (cond k r [])) (x ∷ t)) ≡ false
        choose true = rw b (and-false (undamaged_all r))
        choose false = refl

nothing : (x : ℕ) (t : List ℕ) → says [] (x ∷ t) ≡ false
unfolding says undamaged_all every same_text matching
nothing x t = refl

pub signed : (said : List ℕ) (b : ℕ) (text : List ℕ) (t : Ended text)
    → says (since 47 (said ++ (b ∷ []))) text ≡ (carries 10 b && says (line said) (t.first ∷ t.rest))
unfolding more
signed said b text t = rw (since-snoc 47 said b, t.is, says-live (since 47 said) t.first t.rest t.plain t.short) (go (carries 47 b) refl (since 47 said))
  where
    swap : (p q : Bool) → (p && q) ≡ (q && p)
    swap true true = refl
    swap true false = refl
    swap false true = refl
    swap false false = refl

    go : (p : Bool) → carries 47 b ≡ p → (r : List ℕ) → says (cond p (b ∷ []) (more r b)) ((t.first ∷ t.rest) ++ (10 ∷ [])) ≡ (carries 10 b && says r (t.first ∷ t.rest))
    go true e r =
        let other = carries-one 47 10 b (λ z. omega (arith, z)) e in
        says-snoc [] b (t.first ∷ t.rest) 10 ∙ swap (says [] (t.first ∷ t.rest)) (carries 10 b)
        ∙ ap (λ (k : Bool). k && says [] (t.first ∷ t.rest)) other ∙ sym (ap (λ (k : Bool). k && says r (t.first ∷ t.rest)) other)
    go false e [] = says_none (t.first ∷ t.rest) 10 ∙ sym (ap (λ (k : Bool). carries 10 b && k) (nothing t.first t.rest) ∙ and-false (carries 10 b))
    go false e (x ∷ r) = says-snoc (x ∷ r) b (t.first ∷ t.rest) 10 ∙ swap (says (x ∷ r) (t.first ∷ t.rest)) (carries 10 b)

-- the four of them
call-ended : Ended sign_on
unfolding sign_on every
call-ended = record { first = 47; rest = 63 ∷ 33 ∷ 13 ∷ []; is = refl; plain = refl; short = omega arith }

close-ended : Ended closing_sign_on
unfolding closing_sign_on every
close-ended = record { first = 47; rest = 67 ∷ 33 ∷ 13 ∷ []; is = refl; plain = refl; short = omega arith }

digit-plain : (c : ℕ) → is_digit c ≡ true → not (eqb c 10) ≡ true
digit-plain c h = rw (ne_eqb c 10 (λ e. omega (arith, digit_low c h, e)))

-- a serial's ten digits with a character between them
parted-plain : (c : ℕ) → not (eqb c 10) ≡ true → (serial : List ℕ) → good_serial serial ≡ true → every (λ x. not (eqb x 10)) (parted c serial) ≡ true
unfolding good_digits every
parted-plain c plain serial good =
    let all = every-weaker is_digit (λ x. not (eqb x 10)) digit-plain serial (and_right (eqb (length serial) 10) (every is_digit serial) good) in
    every_append (λ x. not (eqb x 10)) (take 3 serial) (c ∷ drop 3 serial) (every_take (λ x. not (eqb x 10)) 3 serial all)
    (and_both (not (eqb c 10)) _ plain (every_drop (λ x. not (eqb x 10)) 3 serial all))

to-ended : (serial : List ℕ) → good_serial serial ≡ true → Ended (sign_on_to serial)
unfolding sign_on_to every serial_text
to-ended serial good =
    let n = serial-text-long serial (digits_long 10 serial good) in
    record {
      first = 47;
      rest = 63 ∷ (serial_text serial ++ (33 ∷ 13 ∷ []));
      is = ap (λ (l : List ℕ). 47 ∷ 63 ∷ l) (sym (append_assoc (serial_text serial) (33 ∷ 13 ∷ []) (10 ∷ [])));
      plain = every_append (λ c. not (eqb c 10)) (serial_text serial) (33 ∷ 13 ∷ []) (parted-plain 32 refl serial good) refl;
      short = omega (arith, length-append (serial_text serial) (33 ∷ 13 ∷ []), n);
    }

-- and of the wired link
wired-ended : (serial : List ℕ) → good_serial serial ≡ true → Ended (wired_sign_on serial)
unfolding wired_line every wired_text
wired-ended serial good =
    let n = wired-text-long serial (digits_long 10 serial good) in
    record {
      first = 47;
      rest = 65 ∷ (wired_text serial ++ (13 ∷ []));
      is = ap (λ (l : List ℕ). 47 ∷ 65 ∷ l) (sym (append_assoc (wired_text serial) (13 ∷ []) (10 ∷ [])));
      plain = every_append (λ c. not (eqb c 10)) (wired_text serial) (13 ∷ []) (parted-plain 46 refl serial good) refl;
      short = omega (arith, length-append (wired_text serial) (13 ∷ []), n);
    }

-- ---- as the receiver has it

held-says : (run text : List ℕ) (t : Ended text) → says run (t.first ∷ t.rest) ≡ (undamaged_all run && same_text (held_text (filled run) ++ (10 ∷ [])) text)
unfolding says
held-says run text t = go (undamaged_all run) refl
  where
    go : (u : Bool) → undamaged_all run ≡ u → (u && same_text (map seven run) (t.first ∷ t.rest)) ≡ (u && same_text (held_text (filled run) ++ (10 ∷ [])) text)
    go true e =
        sym (ap (λ (h : List ℕ). same_text (h ++ (10 ∷ [])) text) (held-is run ∙ symbols run e) ∙ ap (same_text (map seven run ++ (10 ∷ []))) t.is
        ∙ same-snoc (map seven run) (t.first ∷ t.rest) 10 10 ∙ and-true (same_text (map seven run) (t.first ∷ t.rest)))
    go false e = refl

module _ (said : List ℕ) (b : ℕ) where
  -- the line that is held, and whether it is undamaged
  abbrev pub line_held : List ℕ
  line_held = held_text (filled (line said))

  abbrev pub line_whole : Bool
  line_whole = undamaged_all (line said)

  called : (text : List ℕ) → Ended text → calls text (said ++ (b ∷ [])) ≡ (carries 10 b && (line_whole && same_text (line_held ++ (10 ∷ [])) text))
  unfolding calls
  called text t = signed said b text t ∙ ap (λ (k : Bool). carries 10 b && k) (held-says (line said) text t)

  -- a call of the history is that of the line which is held
  abbrev same : List ℕ → Bool
  same = same_text (line_held ++ (10 ∷ []))

  abbrev as-held : Bool → Bool
  as-held p = carries 10 b && (line_whole && p)

  either_held : (p q : Bool) → (as-held p || as-held q) ≡ as-held (p || q)
  either_held p q = go (carries 10 b) line_whole
    where
      go : (k u : Bool) → ((k && (u && p)) || (k && (u && q))) ≡ (k && (u && (p || q)))
      go false u = refl
      go true false = refl
      go true true = refl

  zeros-good : good_serial zeros ≡ true
  unfolding good_digits every is_digit between
  zeros-good = refl

  optical-is : (serial : List ℕ) → good_serial serial ≡ true → calls_optical serial (said ++ (b ∷ [])) ≡ as-held (optical_call (line_held ++ (10 ∷ [])) serial)
  unfolding calls_optical optical_call
  optical-is serial good =
      ap₂ ◌||◌ (ap₂ ◌||◌ (called sign_on call-ended) (called (sign_on_to serial) (to-ended serial good))) (called (sign_on_to zeros) (to-ended zeros zeros-good))
      ∙ ap (λ (p : Bool). p || as-held (same (sign_on_to zeros))) (either_held (same sign_on) (same (sign_on_to serial)))
      ∙ either_held (same sign_on || same (sign_on_to serial)) (same (sign_on_to zeros))

  wired-is : (serial : List ℕ) → good_serial serial ≡ true → calls_wired serial (said ++ (b ∷ [])) ≡ as-held (wired_call (line_held ++ (10 ∷ [])) serial)
  unfolding calls_wired wired_call
  wired-is serial good =
      ap₂ ◌||◌ (called (wired_sign_on serial) (wired-ended serial good)) (called (wired_sign_on zeros) (wired-ended zeros zeros-good))
      ∙ either_held (same (wired_sign_on serial)) (same (wired_sign_on zeros))

  pub closes-is : (facts : Facts) → closes_period facts (said ++ (b ∷ [])) ≡ as-held (closes_by facts.link line_held)
  unfolding closes_period closes
  closes-is facts = ap (λ (p : Bool). not (is_wired facts.link) && p) (called closing_sign_on close-ended) ∙ go (is_wired facts.link) (carries 10 b) line_whole (same closing_sign_on)
    where
      go : (w k u p : Bool) → (not w && (k && (u && p))) ≡ (k && (u && (not w && p)))
      go true false u p = refl
      go true true false p = refl
      go true true true p = refl
      go false k u p = refl

  pub signs-is : (facts : Facts) → good_serial facts.serial ≡ true
      → signs_on facts (said ++ (b ∷ [])) ≡ as-held (signs_on_by facts.link line_held facts.serial || closes_by facts.link line_held)
  unfolding signs_on calls-by-link
  signs-is facts good =
      ap₂ ◌||◌ (go (is_wired facts.link)) (closes-is facts) ∙ either_held (signs_on_by facts.link line_held facts.serial) (closes_by facts.link line_held)
    where
      go : (w : Bool) → cond w (calls_wired facts.serial (said ++ (b ∷ []))) (calls_optical facts.serial (said ++ (b ∷ [])))
          ≡ as-held (cond w (wired_call (line_held ++ (10 ∷ [])) facts.serial) (optical_call (line_held ++ (10 ∷ [])) facts.serial))
      go true = wired-is facts.serial good
      go false = optical-is facts.serial good

-- an empty line is none
pub none-signs : (link : ℕ) (serial : List ℕ) → signs_on_by link [] serial ≡ false
unfolding calls-by-link optical_call wired_call sign_on sign_on_to wired_line same_text matching
none-signs link serial = go (is_wired link)
  where
    go : (w : Bool) → cond w (wired_call (10 ∷ []) serial) (optical_call (10 ∷ []) serial) ≡ false
    go true = refl
    go false = refl

pub none-closes : (link : ℕ) → closes_by link [] ≡ false
unfolding closes closing_sign_on same_text matching
none-closes link = and-false (not (is_wired link))
