-- The two stores that close a frame, and parity on what is closed. Assumes nothing.
use mathlib.Core.Path.{◌≡◌, refl, sym, ap, ◌∙◌}
use mathlib.Core.List.{List, [], ◌∷◌, ◌++◌, append_assoc, map}
use Prim.Native.Nat.{ℕ, zero, suc, ◌+◌, ◌<◌, ◌≤◌}
use native.Mathlib.Omega.{arith}
use lib.Bits.{bit_xor, xor_self, xor_zero_l}
use lib.ListN.{length, get_or, take, drop, set, length-append, length-map, length-set, length-drop}
use lib.Seq.{take-suc-set, length-take-le, take_at, drop_at}
use Rattle.line.specs.Characters.{seven, sent}
use Rattle.line.specs.Checksum.{bcc_of}
use Rattle.line.proofs.Xor.{xor_assoc}
use Rattle.text.specs.Writing.{stored, holding}
use Rattle.text.proofs.Writing.{stored_is}
use Rattle.frames.specs.Frames.{closed, sealed, on_wire}

-- ETX and the BCC, stored after the first k characters
two-stores : (b : List ℕ) (k x : ℕ) → k + 2 ≤ length b → set (set b k 3) (k + 1) x ≡ (take k b ++ (3 ∷ [])) ++ (x ∷ drop (k + 2) b)
unfolding stored
two-stores b k x h =
    stored_is b k (3 ∷ x ∷ []) h ∙ append_assoc (take k b) (3 ∷ x ∷ []) (drop (k + 2) b) ∙ sym (append_assoc (take k b) (3 ∷ []) (x ∷ drop (k + 2) b))

closed-tail : (c : ℕ) (b : List ℕ) (k : ℕ) → k + 2 ≤ length b
    → c ∷ set (set b k 3) (k + 1) (bcc_of (take k b ++ (3 ∷ []))) ≡ sealed (c ∷ take k b) ++ drop (k + 2) b
unfolding sealed closed
closed-tail c b k h =
    ap (λ (l : List ℕ). c ∷ l)
    (two-stores b k (bcc_of (take k b ++ (3 ∷ []))) h
    ∙ sym (append_assoc (take k b ++ (3 ∷ [])) (bcc_of (take k b ++ (3 ∷ [])) ∷ []) (drop (k + 2) b)))

closing : (b : List ℕ) (n x : ℕ) → 1 ≤ n → n + 2 ≤ length b → x ≡ bcc_of (drop 1 (take (n + 1) (set b n 3)))
    → set (set b n 3) (n + 1) x ≡ sealed (take n b) ++ drop (n + 2) b
closing [] n x h r e = absurd (omega arith)
closing (c ∷ b) zero x h r e = absurd (omega arith)
closing (c ∷ b) (suc k) x h r e =
    let i : suc k + 1 ≡ suc (k + 1) = omega arith in
    let j : suc k + 2 ≡ suc (k + 2) = omega arith in
    let t : suc k + 1 ≡ suc (suc k) = omega arith in
    let s : take (suc k) (set b k 3) ≡ take k b ++ (3 ∷ []) = take-suc-set b k 3 (omega arith) in
    let y : x ≡ bcc_of (take k b ++ (3 ∷ [])) = e ∙ ap (λ (m : ℕ). bcc_of (drop 1 (take m (c ∷ set b k 3)))) t ∙ ap bcc_of s in
    rw (i, j, y) (closed-tail c b k (omega arith))

-- and the lengths that follow
pub sealed-length : (xs : List ℕ) → 1 ≤ length xs → length (sealed xs) ≡ length xs + 2
unfolding sealed closed
sealed-length [] h = absurd (omega arith)
sealed-length (c ∷ xs) h =
    rw (length-append (xs ++ (3 ∷ [])) (bcc_of (xs ++ (3 ∷ [])) ∷ []), length-append xs (3 ∷ [])) (omega arith)

-- parity on the closed part of the buffer, as its reader sees it
sending : (b : List ℕ) (n : ℕ) → 1 ≤ n → n + 2 ≤ length b
    → on_wire (take (n + 2) (sealed (take n b) ++ drop (n + 2) b)) ++ drop (n + 2) (sealed (take n b) ++ drop (n + 2) b)
    ≡ holding b (on_wire (sealed (take n b)))
unfolding holding
sending b n h r =
    let t : length (take n b) ≡ n = length-take-le n b (omega arith) in
    let l : length (sealed (take n b)) ≡ n + 2 = sealed-length (take n b) (omega arith) ∙ ap (λ (k : ℕ). k + 2) t in
    rw (
      take_at (sealed (take n b)) (drop (n + 2) b) (n + 2) l,
      drop_at (sealed (take n b)) (drop (n + 2) b) (n + 2) l,
      length-map (sealed (take n b)) sent,
      l,
    )

-- of a run, its first character out of the BCC of all
pub first_out : (s : List ℕ) → 1 ≤ length s → bit_xor (seven (get_or s 0 0)) (bcc_of s) ≡ bcc_of (drop 1 s)
unfolding bcc_of
first_out [] h = absurd (omega arith)
first_out (c ∷ s) h = sym (xor_assoc (seven c) (seven c) (bcc_of s)) ∙ ap (λ (k : ℕ). bit_xor k (bcc_of s)) (xor_self (seven c)) ∙ xor_zero_l (bcc_of s)

-- a wire byte stored behind those that were sent
sent-store : (l : List ℕ) (k y : ℕ) → k < length l → set (map sent (take k l) ++ drop k l) k (sent y) ≡ map sent (take (suc k) (set l k y)) ++ drop (suc k) (set l k y)
sent-store [] k y h = absurd (omega arith)
sent-store (c ∷ l) zero y h = refl
sent-store (c ∷ l) (suc k) y h = ap (λ (r : List ℕ). sent c ∷ r) (sent-store l k y (omega arith))

-- what is sent, and that the buffer stays as long as it was
pub through-etx : (b : List ℕ) (n : ℕ) → n + 2 ≤ length b → length (take (n + 1) (set b n 3)) ≡ n + 1
through-etx b n r = length-take-le (n + 1) (set b n 3) (rw (length-set b n 3) (omega arith))

pub kept-long : (b : List ℕ) (n : ℕ) (zs : List ℕ) → n + 2 ≤ length b → zs ≡ on_wire (take (n + 1) (set b n 3)) → length (zs ++ drop (n + 1) (set b n 3)) ≡ length b
kept-long b n zs r f =
    let front : length zs ≡ n + 1 = ap length f ∙ (length-map (take (n + 1) (set b n 3)) sent ∙ through-etx b n r) in
    length-append zs (drop (n + 1) (set b n 3)) ∙ omega (arith, front, length-drop (n + 1) (set b n 3), length-set b n 3)

-- ETX stored, all through it sent, and the BCC sent behind it
pub sealing-stores : (b : List ℕ) (n : ℕ) (zs : List ℕ) (sum x : ℕ) → 1 ≤ n → n + 2 ≤ length b → sum ≡ bcc_of (drop 1 (take (n + 1) (set b n 3)))
    → zs ≡ on_wire (take (n + 1) (set b n 3)) → x ≡ sent sum → set (zs ++ drop (n + 1) (set b n 3)) (n + 1) x ≡ holding b (on_wire (sealed (take n b)))
sealing-stores b n zs sum x h r e f g =
    let l = set b n 3 in
    let next : suc (n + 1) ≡ n + 2 = omega arith in
    let shut = set l (n + 1) sum in
    let first : set (zs ++ drop (n + 1) l) (n + 1) x ≡ on_wire (take (suc (n + 1)) shut) ++ drop (suc (n + 1)) shut =
    rw (f, g) (sent-store l (n + 1) sum (rw (length-set b n 3) (omega arith))) in
    first ∙ (rw (next, closing b n sum h r e) (sending b n h r))
