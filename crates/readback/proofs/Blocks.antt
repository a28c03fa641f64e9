-- A block that is sent strips to itself, and its part is its content. Assumes nothing.
use mathlib.Core.Path.{◌≡◌, refl, sym, ap, ◌∙◌}
use mathlib.Core.Bool.{true, false}
use mathlib.Core.List.{List, [], ◌∷◌, ◌++◌, append_assoc}
use Prim.Native.Nat.{ℕ, suc, ◌+◌, ◌-◌, ◌≤◌}
use native.Mathlib.Omega.{arith}
use borrow.Author.Tests.{le-ltb, le-leb, eq-eqb}
use lib.Dec.{ltb}
use lib.ListN.{length, take, drop, get_or, length-append, length-map}
use lib.Seq.{take_at, get_or_at, get_or-append-add, take-append-add}
use Rattle.line.specs.Characters.{sent}
use Rattle.line.specs.Checksum.{bcc_of}
use Rattle.line.specs.Runs.{every}
use Rattle.line.proofs.Runs.{and_left, and_right}
use Rattle.text.specs.Writing.{holding}
use Rattle.frames.specs.Frames.{closed, block_of, on_wire}
use Rattle.blocks.specs.Stripping.{stripped_of, stripped_into}
use Rattle.blocks.specs.Parts.{is_character, not_etx, is_content, between, is_block, bcc_fits, part_of}
use Rattle.blocks.proofs.Shape.{content-is, block-is}
use Rattle.line.proofs.Xor.{bcc-lt}
use Rattle.readback.proofs.Sending.{sent-undamaged-all, sent-comes-back-all, block-characters}

content-characters : (s : List ℕ) → every is_content s ≡ true → every is_character s ≡ true
content-characters s h = and_left (every is_character s) (every not_etx s) (sym (content-is s) ∙ h)

content-no-etx : (s : List ℕ) → every is_content s ≡ true → every not_etx s ≡ true
content-no-etx s h = and_right (every is_character s) (every not_etx s) (sym (content-is s) ∙ h)

-- whatever is sent strips to itself
module _ (s out : List ℕ) (characters : every is_character s ≡ true) (room : length s ≤ length out) where
  enough : ltb (length out) (length (on_wire s)) ≡ false
  enough = rw (length-map s sent) (le-ltb (length out) (length s) room)

  pub strips : stripped_of (on_wire s) out ≡ record { number = 1; length = length s; place = 0 }
  unfolding stripped_of
  strips = rw (enough, sent-undamaged-all s, length-map s sent)

  pub strips-into : stripped_into (on_wire s) out ≡ holding out s
  unfolding stripped_into
  strips-into = rw (enough, sent-undamaged-all s, sent-comes-back-all s characters)

-- a text framed by STX and ETX, with one character more
abbrev framed : List ℕ → ℕ → List ℕ
framed content b = 2 ∷ (content ++ (3 ∷ b ∷ []))

module _ (content : List ℕ) (b : ℕ) where
  framed-long : length (framed content b) ≡ length content + 3
  framed-long = rw (length-append content (3 ∷ b ∷ [])) (omega arith)

  framed-between : between (framed content b) ≡ content
  unfolding between
  framed-between =
      ap (λ (n : ℕ). take n (content ++ (3 ∷ b ∷ []))) {x = length (framed content b) - 3} {y = length content} (omega (arith, framed-long))
      ∙ take_at content (3 ∷ b ∷ []) (length content) refl

  framed-etx : get_or (framed content b) (length (framed content b) - 2) 0 ≡ 3
  framed-etx =
      ap (λ (n : ℕ). get_or (framed content b) n 0) {x = length (framed content b) - 2} {y = suc (length content)} (omega (arith, framed-long))
      ∙ get_or_at content 3 (b ∷ []) 0 (length content) refl

  framed-last : get_or (framed content b) (length (framed content b) - 1) 0 ≡ b
  framed-last =
      ap (λ (n : ℕ). get_or (framed content b) n 0) {x = length (framed content b) - 1} {y = suc (length content + 1)} (omega (arith, framed-long))
      ∙ get_or-append-add content (3 ∷ b ∷ []) 1 0

  framed-summed : take (length (framed content b) - 2) (drop 1 (framed content b)) ≡ content ++ (3 ∷ [])
  framed-summed =
      ap (λ (n : ℕ). take n (content ++ (3 ∷ b ∷ []))) {x = length (framed content b) - 2} {y = length content + 1} (omega (arith, framed-long))
      ∙ take-append-add content (3 ∷ b ∷ []) 1

  framed-block : every is_content content ≡ true → b ≤ 127 → is_block (framed content b) ≡ true
  framed-block h low =
      block-is (framed content b) (omega (arith, framed-long))
      ∙ (rw (framed-etx, framed-between, h, framed-last, le-leb b 127 low))

  framed-fits : b ≡ bcc_of (content ++ (3 ∷ [])) → bcc_fits (framed content b) ≡ true
  unfolding bcc_fits
  framed-fits e = rw (framed-last, framed-summed) (eq-eqb b (bcc_of (content ++ (3 ∷ []))) e)

-- the block, as its parts
module _ (content : List ℕ) where
  pub block-is-framed : block_of content ≡ framed content (bcc_of (content ++ (3 ∷ [])))
  unfolding block_of closed
  block-is-framed = ap (λ (l : List ℕ). 2 ∷ l) (append_assoc content (3 ∷ []) (bcc_of (content ++ (3 ∷ [])) ∷ []))

  pub block-long : length (block_of content) ≡ length content + 3
  block-long = ap length block-is-framed ∙ framed-long content (bcc_of (content ++ (3 ∷ [])))

  pub part-of-block : every is_content content ≡ true → part_of (block_of content) ≡ record { number = 1; start = 1; length = length content }
  unfolding part_of
  part-of-block h =
      let b = bcc_of (content ++ (3 ∷ [])) in
      let n : length (framed content b) - 3 ≡ length content = omega (arith, framed-long content b) in
      let low : b ≤ 127 = omega (arith, bcc-lt (content ++ (3 ∷ []))) in
      rw (block-is-framed, framed-block content b h low, framed-fits content b refl) (ap (λ (k : ℕ). record { number = 1; start = 1; length = k }) n)

  -- the part is exactly the content
  pub part-is-content : take (length content) (drop 1 (block_of content)) ≡ content
  part-is-content = rw block-is-framed (take_at content (3 ∷ bcc_of (content ++ (3 ∷ [])) ∷ []) (length content) refl)

  -- a block that was sent, stripped, is the block
  pub block-strips : (out : List ℕ) → every is_content content ≡ true → length (block_of content) ≤ length out
      → stripped_of (on_wire (block_of content)) out ≡ record { number = 1; length = length content + 3; place = 0 }
  block-strips out h room =
      strips (block_of content) out (block-characters content (content-characters content h)) room ∙ ap (λ (n : ℕ). record { number = 1; length = n; place = 0 }) block-long

  pub block-strips-into : (out : List ℕ) → every is_content content ≡ true → length (block_of content) ≤ length out
      → stripped_into (on_wire (block_of content)) out ≡ holding out (block_of content)
  block-strips-into out h room = strips-into (block_of content) out (block-characters content (content-characters content h)) room
