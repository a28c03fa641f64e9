-- A form tested on all lanes at once is the form that the text has. Assumes nothing.
use Rattle.std.proofs.Common.{◌≡◌, ℕ, ◌+◌, ◌*◌, ◌%◌, ◌^◌, ◌<◌, Bool, true, false, cond, not, ◌&&◌, ◌||◌, eqb, ltb, List, [], ◌∷◌, map, length, sym, refl, ap, ◌∙◌, mod-eq_of_lt, arith, lit<, ltb-true, lt-ltb, eq-eqb, eqb-true}
use lib.Bits.{bit_and, and_mask}
use Rattle.line.proofs.Runs.{and_left, and_right, and_both, below_all}
use Rattle.text.specs.Classes.{between, is_digit, matching}
use Rattle.text.specs.Layout.{agrees, fits}
use Rattle.eights.specs.Lanes.{lanes, least, common, spare, keeps}
use Rattle.eights.proofs.Lanes.{same_test, matched-weaker, matched-same, matched-both, lanes_by, within, lanes-lt, left, lanes-left}

-- a character as it is, and raised by what its place in the pattern has to spare
abbrev pub raw : ℕ → ℕ → ℕ
raw c x = x

abbrev pub raised : ℕ → ℕ → ℕ
raised c x = x + spare c

pub common-lt : (c : ℕ) → common c < 256
unfolding common
common-lt c = of_two (eqb c 35)
  where
    of_two : (b : Bool) → cond b 0xF0 0xFF < 256
    of_two true = lit< tt
    of_two false = lit< tt

-- ---- of one character

same : Bool → Bool → Bool
same a b = cond a b (not b)

same_true : (a b : Bool) → same a b ≡ true → a ≡ b
unfolding same
same_true true b e = sym e
same_true false true e = e
same_true false false e = refl

digit_test : ℕ → Bool
digit_test x = same (is_digit x || false) (eqb (bit_and x 0xF0) 48 && eqb (bit_and (x + 6) 0xF0) 48)

of-digit : (x : ℕ) → x < 256 → (is_digit x || false) ≡ (eqb (bit_and x 0xF0) 48 && eqb (bit_and (x + 6) 0xF0) 48)
unfolding digit_test same is_digit between
of-digit x h = same_true _ _ (below_all 256 digit_test refl x h)

whole-byte : (x : ℕ) → x < 256 → bit_and x 0xFF ≡ x
whole-byte x h = and_mask x 8 ∙ mod-eq_of_lt h

of_other : (c x : ℕ) → x < 256 → eqb c x ≡ (eqb (bit_and x 0xFF) c && eqb (bit_and (x + 0) 0xFF) c)
of_other c x h =
    let z : x + 0 ≡ x = omega arith in
    rw (z, whole-byte x h)
    (same_test _ _ (λ e. let t = eqb-true c x e in and_both (eqb x c) (eqb x c) (eq-eqb x c (sym t)) (eq-eqb x c (sym t)))
    (λ e. eq-eqb c x (sym (eqb-true x c (and_left (eqb x c) (eqb x c) e)))))

of_either : (b : Bool) (c x : ℕ) → x < 256
    → ((b && is_digit x) || (not b && eqb c x)) ≡ (eqb (bit_and x (cond b 0xF0 0xFF)) (cond b 48 c) && eqb (bit_and (x + cond b 6 0) (cond b 0xF0 0xFF)) (cond b 48 c))
of_either true c x h = of-digit x h
of_either false c x h = of_other c x h

agreed : (c x : ℕ) → within raw c x ≡ true → agrees c x ≡ (left raw common least common-lt c x && left raised common least common-lt c x)
unfolding agrees within left least common spare
agreed c x h = of_either (eqb c 35) c x (ltb-true x 256 h)

-- a digit's bits leave room to raise it
room_test : ℕ → Bool
room_test x = cond (eqb (bit_and x 0xF0) 48) (ltb (x + 6) 256) true

room : (b : Bool) (c x : ℕ) → x < 256 → eqb (bit_and x (cond b 0xF0 0xFF)) (cond b 48 c) ≡ true → ltb (x + cond b 6 0) 256 ≡ true
unfolding room_test
room true c x h e = rw e at (below_all 256 room_test refl x h)
room false c x h e = lt-ltb (x + 0) 256 (omega arith)

raised-room : (c x : ℕ) → (within raw c x && left raw common least common-lt c x) ≡ true → within raised c x ≡ true
unfolding within left least common spare
raised-room c x h = room (eqb c 35) c x (ltb-true x 256 (and_left (ltb x 256) _ h)) (and_right (ltb x 256) _ h)

-- ---- of all

raw-lanes : (p s : List ℕ) → matching (within raw) p s ≡ true → lanes_by raw p s ≡ lanes s
unfolding lanes_by lanes matching within
raw-lanes [] [] h = refl
raw-lanes [] (x ∷ s) h = absurd (let z : ◌≡◌ {A = ℕ} 0 1 = cc in omega arith)
raw-lanes (c ∷ p) [] h = absurd (let z : ◌≡◌ {A = ℕ} 0 1 = cc in omega arith)
raw-lanes (c ∷ p) (x ∷ s) h = ap (λ (n : ℕ). n * 256 + x) (raw-lanes p s (and_right (ltb x 256) (matching (within raw) p s) h))

raised-lanes : (p s : List ℕ) → matching (within raw) p s ≡ true → lanes_by raised p s ≡ lanes s + lanes (map spare p)
unfolding lanes_by lanes matching within
raised-lanes [] [] h = refl
raised-lanes [] (x ∷ s) h = absurd (let z : ◌≡◌ {A = ℕ} 0 1 = cc in omega arith)
raised-lanes (c ∷ p) [] h = absurd (let z : ◌≡◌ {A = ℕ} 0 1 = cc in omega arith)
raised-lanes (c ∷ p) (x ∷ s) h = omega (arith, raised-lanes p s (and_right (ltb x 256) (matching (within raw) p s) h))

guarded : (a t n : Bool) → (a ≡ true → t ≡ n) → (a && t) ≡ (a && n)
guarded true t n h = h refl
guarded false t n h = refl

-- eight characters that are bytes, against a pattern of eight
module _ (p s : List ℕ) (n : length p ≡ 8) (bytes : matching (within raw) p s ≡ true) (low : matching (λ c x. ltb (least c) 256) p s ≡ true) where
  as_is : eqb (bit_and (lanes s) (lanes (map common p))) (lanes (map least p)) ≡ matching (left raw common least common-lt) p s
  as_is = ap (λ (w : ℕ). eqb (bit_and w (lanes (map common p))) (lanes (map least p))) (sym (raw-lanes p s bytes)) ∙ lanes-left raw common least common-lt p s bytes low

  when-raised : matching (left raw common least common-lt) p s ≡ true
      → eqb (bit_and ((lanes s + lanes (map spare p)) % 2 ^ 64) (lanes (map common p))) (lanes (map least p)) ≡ matching (left raised common least common-lt) p s
  when-raised e =
      let both = matched-both (within raw) (left raw common least common-lt) p s ∙ and_both _ _ bytes e in
      let fit = matched-weaker _ (within raised) raised-room p s both in
      let small : lanes_by raised p s < 2 ^ 64 = rw n at (lanes-lt raised p s fit) in
      let sum : (lanes s + lanes (map spare p)) % 2 ^ 64 ≡ lanes_by raised p s = ap (λ (w : ℕ). w % 2 ^ 64) (sym (raised-lanes p s bytes)) ∙ mod-eq_of_lt small in
      ap (λ (w : ℕ). eqb (bit_and w (lanes (map common p))) (lanes (map least p))) sum ∙ lanes-left raised common least common-lt p s fit low

  pub form-kept : keeps (lanes (map least p)) (lanes (map common p)) (lanes (map spare p)) (lanes s) ≡ fits p s
  unfolding keeps fits
  form-kept =
      ap (λ (b : Bool). b && eqb (bit_and ((lanes s + lanes (map spare p)) % 2 ^ 64) (lanes (map common p))) (lanes (map least p))) as_is
      ∙ guarded _ _ _ when-raised
      ∙ sym (matched-both (left raw common least common-lt) (left raised common least common-lt) p s)
      ∙ sym (matched-same (within raw) agrees _ agreed p s bytes)
