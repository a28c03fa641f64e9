-- A message that was put in front and then closed or sent: the buffer holds it, and keeps what it held past it. Assumes nothing.
use mathlib.Core.Path.{◌≡◌, sym, ap, ◌∙◌}
use mathlib.Core.List.{List, [], ◌∷◌, ◌++◌, map}
use Prim.Native.Nat.{ℕ, ◌+◌, ◌≤◌}
use native.Mathlib.Omega.{arith}
use lib.ListN.{length, take, drop, length-map}
use lib.Seq.{take_at, drop_at, drop-append-add, drop-drop}
use Rattle.line.specs.Characters.{sent}
use Rattle.text.specs.Writing.{stored, holding}
use Rattle.text.proofs.Writing.{stored-holding, and_then}
use Rattle.frames.specs.Frames.{sealed, block_of, on_wire}
use Rattle.frames.proofs.Closing.{sealed-length}

module _ (buf xs mid : List ℕ) (n : ℕ) (room : length xs ≤ length buf) (p : n ≡ length xs) (e : mid ≡ stored buf 0 xs) where
  in-front : mid ≡ xs ++ drop (length xs) buf
  unfolding holding
  in-front = e ∙ stored-holding buf xs room

  front-is : take n mid ≡ xs
  front-is = rw in-front (take_at xs (drop (length xs) buf) n (sym p))

  -- parity on what was put in
  pub sent_front : map sent (take n mid) ++ drop n mid ≡ holding buf (on_wire xs)
  unfolding holding
  sent_front = rw (front-is, length-map xs sent) (ap (λ (l : List ℕ). map sent xs ++ l) (rw in-front (drop_at xs (drop (length xs) buf) n (sym p))))

  -- ETX, BCC and parity
  pub sealing : (after : List ℕ) → 1 ≤ length xs → after ≡ holding mid (on_wire (sealed (take n mid))) → after ≡ holding buf (on_wire (sealed xs))
  unfolding holding
  sealing after h f =
      let l : length (map sent (sealed xs)) ≡ length xs + 2 = length-map (sealed xs) sent ∙ sealed-length xs h in
      let d : drop (length xs + 2) mid ≡ drop (length xs + 2) buf =
      ap (drop (length xs + 2)) in-front ∙ drop-append-add xs (drop (length xs) buf) 2 ∙ drop-drop 2 (length xs) buf in
      f ∙ (rw (front-is, l, d))

-- a block: STX, the content, and the rest by closing it
pub blocking : (buf content b1 : List ℕ) (p1 : ℕ) (b2 : List ℕ) (p2 : ℕ) (b3 : List ℕ) → length content + 3 ≤ length buf
    → p1 ≡ 1 → b1 ≡ stored buf 0 (2 ∷ []) → p2 ≡ p1 + length content → b2 ≡ stored b1 p1 content
    → b3 ≡ holding b2 (on_wire (sealed (take p2 b2))) → b3 ≡ holding buf (on_wire (block_of content))
unfolding block_of sealed
blocking buf content b1 p1 b2 p2 b3 room q1 e1 q2 e2 e3 =
    sealing buf (2 ∷ content) b2 p2 (omega arith) (omega arith) (and_then buf 0 (2 ∷ []) b1 p1 content b2 e1 q1 e2) b3 (omega arith) e3

pub block-length : (content : List ℕ) → length (block_of content) ≡ length content + 3
unfolding block_of sealed
block-length content = sealed-length (2 ∷ content) (omega arith) ∙ omega arith
