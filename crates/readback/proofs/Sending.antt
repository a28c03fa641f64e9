-- Characters that are sent are undamaged, and come back by their seven bits. Assumes nothing.
use mathlib.Core.Path.{◌≡◌, refl, ap₂}
use mathlib.Core.Bool.{true}
use mathlib.Core.List.{List, [], ◌∷◌, ◌++◌, map}
use Prim.Native.Nat.{ℕ, ◌≤◌}
use native.Mathlib.Omega.{arith}
use borrow.Author.Tests.{leb-true, le-leb}
use lib.Dec.{leb}
use Rattle.line.specs.Characters.{seven, undamaged_all}
use Rattle.line.specs.Checksum.{bcc_of}
use Rattle.line.specs.Runs.{every}
use Rattle.line.proofs.Runs.{and_left, and_right, every_append}
use Rattle.line.proofs.Parity.{sent-undamaged, sent-comes-back}
use Rattle.line.proofs.Xor.{bcc-lt, bcc-own}
use Rattle.frames.specs.Frames.{closed, frame_of, block_of, on_wire}
use Rattle.blocks.specs.Parts.{is_character}

-- no byte of what is sent is damaged, whatever it is
pub sent-undamaged-all : (s : List ℕ) → undamaged_all (on_wire s) ≡ true
unfolding undamaged_all every
sent-undamaged-all [] = refl
sent-undamaged-all (c ∷ s) = rw (sent-undamaged c) (sent-undamaged-all s)

-- and characters come back
pub sent-comes-back-all : (s : List ℕ) → every is_character s ≡ true → map seven (on_wire s) ≡ s
unfolding every is_character
sent-comes-back-all [] h = refl
sent-comes-back-all (c ∷ s) h =
    let low : c ≤ 127 = leb-true c 127 (and_left (leb c 127) (every is_character s) h) in
    ap₂ ◌∷◌ (sent-comes-back c (omega arith)) (sent-comes-back-all s (and_right (leb c 127) (every is_character s) h))

one : (c : ℕ) → c ≤ 127 → every is_character (c ∷ []) ≡ true
unfolding every is_character
one c h = rw (le-leb c 127 h)

-- what is closed is characters, where its body is
pub closed-characters : (body : List ℕ) → every is_character body ≡ true → every is_character (closed body) ≡ true
unfolding closed
closed-characters body h =
    let etx = every_append is_character body (3 ∷ []) h (one 3 (omega arith)) in
    let sum = bcc-lt (body ++ (3 ∷ [])) in
    every_append is_character (body ++ (3 ∷ [])) (bcc_of (body ++ (3 ∷ [])) ∷ []) etx (one (bcc_of (body ++ (3 ∷ []))) (omega arith))

-- and its BCC fits: all of it sums to nothing
pub closed-sums : (body : List ℕ) → bcc_of (closed body) ≡ 0
unfolding closed
closed-sums body = bcc-own (body ++ (3 ∷ []))

pub block-characters : (content : List ℕ) → every is_character content ≡ true → every is_character (block_of content) ≡ true
unfolding block_of every is_character
block-characters content h = closed-characters content h

pub frame-characters : (letters content : List ℕ) → every is_character letters ≡ true → every is_character content ≡ true → every is_character (frame_of letters content) ≡ true
unfolding frame_of every is_character
frame-characters letters content hl hc = closed-characters (letters ++ (2 ∷ content)) (every_append is_character letters (2 ∷ content) hl hc)
