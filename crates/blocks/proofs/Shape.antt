-- A text of at least three characters is its first, what stands between, and its last two; so one look at what stands between
-- tells whether it is a block and whether its BCC fits. Assumes nothing.
use mathlib.Core.Path.{◌≡◌, refl, sym, ap, ap₂, ◌∙◌}
use mathlib.Core.Bool.{Bool, true, false, not, ◌&&◌, and-true}
use mathlib.Core.List.{List, [], ◌∷◌, ◌++◌}
use Prim.Native.Nat.{ℕ, suc, ◌+◌, ◌-◌, ◌<◌, ◌≤◌}
use native.Mathlib.Numerals.{add-one}
use native.Mathlib.Omega.{arith}
use borrow.Author.Tests.{le-leb, lt-leb, eqb-true}
use lib.Bits.{bit_xor}
use lib.Dec.{leb, eqb, lit<}
use lib.ListN.{length, take, drop, get_or, take-append-drop, drop_of_length-le, length-drop}
use lib.Seq.{take-suc, get_or-drop}
use Rattle.line.specs.Checksum.{bcc_of}
use Rattle.line.specs.Runs.{every}
use Rattle.line.proofs.Runs.{left-next, and_assoc, and_left, and_right}
use Rattle.line.proofs.Parity.{seven-small}
use Rattle.line.proofs.Xor.{bcc-last}
use Rattle.blocks.specs.Parts.{is_character, not_etx, is_content, between, is_block, bcc_fits, part_of, Within}
use Rattle.blocks.specs.declared.Seen.{Seen}

tail-two : (t : List ℕ) (k : ℕ) → length t ≡ k + 2 → t ≡ take k t ++ (get_or t k 0 ∷ get_or t (k + 1) 0 ∷ [])
tail-two t k h =
    let end : drop (k + 1 + 1) t ≡ [] = drop_of_length-le t {i = k + 1 + 1} (omega arith) in
    let two : drop (k + 1) t ≡ get_or t (k + 1) 0 ∷ [] = left-next (k + 1) t (omega arith) ∙ ap (λ (l : List ℕ). get_or t (k + 1) 0 ∷ l) end in
    let one : drop k t ≡ get_or t k 0 ∷ get_or t (k + 1) 0 ∷ [] = left-next k t (omega arith) ∙ ap (λ (l : List ℕ). get_or t k 0 ∷ l) two in
    sym (take-append-drop k t) ∙ ap (λ (l : List ℕ). take k t ++ l) one

-- first, between, last two
pub whole : (s : List ℕ) (k : ℕ) → length s ≡ k + 3 → s ≡ get_or s 0 0 ∷ (take k (drop 1 s) ++ (get_or s (k + 1) 0 ∷ get_or s (k + 2) 0 ∷ []))
whole [] k h = absurd (omega arith)
whole (a ∷ t) k h =
    let i : get_or (a ∷ t) (k + 1) 0 ≡ get_or t k 0 = ap (λ (n : ℕ). get_or (a ∷ t) n 0) (add-one k) in
    let j : get_or (a ∷ t) (k + 2) 0 ≡ get_or t (k + 1) 0 = ap (λ (n : ℕ). get_or (a ∷ t) n 0) {x = k + 2} {y = suc (k + 1)} (omega arith) in
    rw (i, j) (ap (λ (l : List ℕ). a ∷ l) (tail-two t k (omega arith)))

pub every-joined : (p : ℕ → Bool) (s t : List ℕ) → every p (s ++ t) ≡ (every p s && every p t)
unfolding every
every-joined p [] t = refl
every-joined p (c ∷ s) t = ap (λ (b : Bool). p c && b) (every-joined p s t) ∙ sym (and_assoc (p c) (every p s) (every p t))

swap : (a b c d : Bool) → ((a && b) && (c && d)) ≡ ((a && c) && (b && d))
swap true true c d = refl
swap true false true d = refl
swap true false false d = refl
swap false b c d = refl

-- characters without ETX, as one test and as two
pub content-is : (s : List ℕ) → every is_content s ≡ (every is_character s && every not_etx s)
unfolding every is_content is_character not_etx
content-is [] = refl
content-is (c ∷ s) =
    ap (λ (b : Bool). (leb c 127 && not (eqb c 3)) && b) (content-is s) ∙ swap (leb c 127) (not (eqb c 3)) (every is_character s) (every not_etx s)

turned : (a b c : Bool) → (a && (b && c)) ≡ ((b && a) && c)
turned true true c = refl
turned true false c = refl
turned false true c = refl
turned false false c = refl

framed-characters : (m : List ℕ) (b : ℕ) → every is_character (2 ∷ (m ++ (3 ∷ b ∷ []))) ≡ (every is_character m && leb b 127)
unfolding every is_character
framed-characters m b = every-joined is_character m (3 ∷ b ∷ []) ∙ ap (λ (r : Bool). every is_character m && r) (and-true (leb b 127))

-- of a text framed by STX and ETX, what is left to ask
framed-rest : (m : List ℕ) (b : ℕ) → (every not_etx m && every is_character (2 ∷ (m ++ (3 ∷ b ∷ [])))) ≡ (every is_content m && leb b 127)
framed-rest m b = rw (framed-characters m b, content-is m) (turned (every not_etx m) (every is_character m) (leb b 127))

guarded : (f x y : Bool) → (f ≡ true → x ≡ y) → (f && x) ≡ (f && y)
guarded true x y h = h refl
guarded false x y h = refl

module _ (s : List ℕ) (long : 3 ≤ length s) where
  -- a text framed by STX and ETX
  pub framed-whole : (eqb (get_or s 0 0) 2 && eqb (get_or s (length s - 2) 0) 3) ≡ true → s ≡ 2 ∷ (between s ++ (3 ∷ get_or s (length s - 1) 0 ∷ []))
  unfolding between
  framed-whole f =
      let first : get_or s 0 0 ≡ 2 = eqb-true (get_or s 0 0) 2 (and_left (eqb (get_or s 0 0) 2) (eqb (get_or s (length s - 2) 0) 3) f) in
      let etx : get_or s (length s - 2) 0 ≡ 3 = eqb-true (get_or s (length s - 2) 0) 3 (and_right (eqb (get_or s 0 0) 2) (eqb (get_or s (length s - 2) 0) 3) f) in
      let k = length s - 3 in
      let i : get_or s (k + 1) 0 ≡ 3 = ap (λ (n : ℕ). get_or s n 0) {x = k + 1} {y = length s - 2} (omega arith) ∙ etx in
      let j : get_or s (k + 2) 0 ≡ get_or s (length s - 1) 0 = ap (λ (n : ℕ). get_or s n 0) {x = k + 2} {y = length s - 1} (omega arith) in
      whole s k (omega arith) ∙ ap₂ ◌∷◌ first (ap (λ (l : List ℕ). take k (drop 1 s) ++ l) (ap₂ ◌∷◌ i (ap (λ (c : ℕ). c ∷ []) j)))

  -- whether it is a block, from its ends and one look at what stands between
  pub block-is : is_block s ≡ ((eqb (get_or s 0 0) 2 && eqb (get_or s (length s - 2) 0) 3) && (every is_content (between s) && leb (get_or s (length s - 1) 0) 127))
  unfolding is_block
  block-is =
      rw (le-leb 3 (length s) long)
      (guarded (eqb (get_or s 0 0) 2 && eqb (get_or s (length s - 2) 0) 3) (every not_etx (between s) && every is_character s) _
      (λ f. ap (λ (l : List ℕ). every not_etx (between s) && every is_character l) (framed-whole f) ∙ framed-rest (between s) (get_or s (length s - 1) 0)))

  -- its BCC, where the last but one is ETX
  pub bcc-is : get_or s (length s - 2) 0 ≡ 3 → bcc_of (take (length s - 2) (drop 1 s)) ≡ bit_xor (bcc_of (between s)) 3
  unfolding between
  bcc-is e =
      let k = length s - 3 in
      let n : length s - 2 ≡ suc k = omega arith in
      let at : get_or (drop 1 s) k 0 ≡ 3 = get_or-drop 1 s k 0 ∙ ap (λ (i : ℕ). get_or s i 0) {x = 1 + k} {y = length s - 2} (omega arith) ∙ e in
      let cut : take (suc k) (drop 1 s) ≡ take k (drop 1 s) ++ (3 ∷ []) = take-suc (drop 1 s) k 0 (omega (arith, length-drop 1 s)) ∙ ap (λ (c : ℕ). take k (drop 1 s) ++ (c ∷ [])) at in
      ap (λ (i : ℕ). bcc_of (take i (drop 1 s))) n ∙ ap bcc_of cut ∙ bcc-last (take k (drop 1 s)) 3 ∙ ap (bit_xor (bcc_of (take k (drop 1 s)))) (seven-small 3 (lit< tt))

-- what the pass over what stands between found, where a part of that length was lent to it
module _ (s : List ℕ) (long : 3 ≤ length s) (seen : Seen)
    (look : seen ≡ record { plain = every is_content (take (length s - 2 - 1) (drop 1 s)); sum = bcc_of (take (length s - 2 - 1) (drop 1 s)) }) where
  lent : take (length s - 2 - 1) (drop 1 s) ≡ between s
  unfolding between
  lent = ap (λ (n : ℕ). take n (drop 1 s)) {x = length s - 2 - 1} {y = length s - 3} (omega arith)

  pub block-seen : is_block s ≡ ((eqb (get_or s 0 0) 2 && eqb (get_or s (length s - 2) 0) 3) && (seen.plain && leb (get_or s (length s - 1) 0) 127))
  block-seen = rw look (rw lent (block-is s long))

  pub bcc-seen : is_block s ≡ true → bcc_fits s ≡ eqb (get_or s (length s - 1) 0) (bit_xor seen.sum 3)
  unfolding bcc_fits
  bcc-seen h =
      let ends = eqb (get_or s 0 0) 2 && eqb (get_or s (length s - 2) 0) 3 in
      let f : ends ≡ true = and_left ends (every is_content (between s) && leb (get_or s (length s - 1) 0) 127) (sym (block-is s long) ∙ h) in
      let etx : get_or s (length s - 2) 0 ≡ 3 = eqb-true (get_or s (length s - 2) 0) 3 (and_right (eqb (get_or s 0 0) 2) (eqb (get_or s (length s - 2) 0) 3) f) in
      rw (look, lent, bcc-is s long etx)

-- the ways out
module _ (s : List ℕ) where
  pub too_few : length s < 3 → Within s (record { number = 22; start = 0; length = 0 })
  unfolding part_of is_block
  too_few h = record { is = rw (lt-leb 3 (length s) h); inside = omega arith }

  pub no_block : is_block s ≡ false → Within s (record { number = 22; start = 0; length = 0 })
  unfolding part_of
  no_block h = record { is = rw h; inside = omega arith }

  pub wrong-bcc : is_block s ≡ true → bcc_fits s ≡ false → Within s (record { number = 23; start = 0; length = 0 })
  unfolding part_of
  wrong-bcc h f = record { is = rw (h, f); inside = omega arith }

  pub has_part : 3 ≤ length s → is_block s ≡ true → bcc_fits s ≡ true → Within s (record { number = 1; start = 1; length = length s - 3 })
  unfolding part_of
  has_part long h f = record { is = rw (h, f); inside = omega arith }
