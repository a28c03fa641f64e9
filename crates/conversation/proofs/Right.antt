-- What a well-formed meter says is right to the head: its fixed sequences, and its answer to each read. Assumes nothing.
use mathlib.Core.Path.{◌≡◌, refl, sym, ap₂, ◌∙◌}
use mathlib.Core.Bool.{true, false}
use mathlib.Core.List.{List, [], ◌∷◌, ◌++◌, append_assoc}
use Prim.Native.Nat.{ℕ, ◌+◌, ◌-◌}
use native.Mathlib.Omega.{arith}
use borrow.Author.Tests.{le-leb}
use lib.Count.{ones}
use lib.Dec.{eqb}
use lib.ListN.{length, take, drop, length-append, length-map}
use lib.Seq.{take-append_seam, drop-append_seam}
use Rattle.line.specs.Characters.{sent, seven}
use Rattle.line.specs.Runs.{every}
use Rattle.text.specs.Classes.{same_text, matching}
use Rattle.text.proofs.Matching.{same_self, matching-length}
use Rattle.frames.specs.Frames.{block_of, on_wire}
use Rattle.replies.specs.Fixed.{identification, password_ask, accepted, refused}
use Rattle.judging.specs.Lines.{is_line, value_in}
use Rattle.judging.specs.Right.{identifies, asks_password, accepts, refuses, tells, data_in, answers_in, answers}
use Rattle.blocks.specs.Parts.{is_character, is_content}
use Rattle.readback.proofs.Sending.{sent-undamaged-all, sent-comes-back-all, block-characters}
use Rattle.readback.proofs.Blocks.{block-long, part-of-block, part-is-content}

-- ---- the fixed sequences

pub identified : (edition : ℕ) → identifies edition (on_wire (identification edition)) ≡ true
unfolding identifies
identified edition = same_self (on_wire (identification edition))

pub password-asked : asks_password (on_wire password_ask) ≡ true
unfolding asks_password
password-asked = same_self (on_wire password_ask)

pub ack-accepts : accepts (on_wire accepted) ≡ true
unfolding accepts
ack-accepts = same_self (on_wire accepted)

pub nak-refuses : refuses (on_wire refused) ≡ true
unfolding refuses
nak-refuses = same_self (on_wire refused)

-- ACK is no NAK, and neither is anything longer
pub ack-is-no-nak : refuses (on_wire accepted) ≡ false
unfolding refuses same_text matching sent seven ones
ack-is-no-nak = refl

pub long-is-no-nak : (reply : List ℕ) → (length reply ≡ 1 → ⊥) → refuses (on_wire reply) ≡ false
unfolding refuses same_text
long-is-no-nak reply h = matching-length eqb (on_wire reply) (on_wire refused) (λ e. h (sym (length-map reply sent) ∙ e))

-- ---- one line

abbrev pub ending : List ℕ
ending = 41 ∷ 13 ∷ 10 ∷ []

module _ (opening value : List ℕ) where
  abbrev pub line : List ℕ
  line = opening ++ (value ++ ending)

  line-long : length line ≡ length opening + length value + 3
  line-long = omega (arith, length-append opening (value ++ ending), length-append value ending)

  line-ends : drop (length line - 3) line ≡ ending
  line-ends =
      ap₂ drop {x = length line - 3} {y = length (opening ++ value)} (omega (arith, line-long, length-append opening value)) (sym (append_assoc opening value ending))
      ∙ drop-append_seam (opening ++ value) ending

  -- a line opens as it should and ends as it should, and its value stands between
  pub line-is : is_line opening line ≡ true
  unfolding is_line
  line-is =
      rw (line-ends, take-append_seam opening (value ++ ending), same_self opening, same_self ending, le-leb (length opening + 3) (length line) (omega (arith, line-long)))

  pub value-in-line : value_in opening line ≡ value
  unfolding value_in
  value-in-line =
      ap₂ take {x = length line - (length opening + 3)} {y = length value} (omega (arith, line-long)) (drop-append_seam opening (value ++ ending))
      ∙ take-append_seam value ending

-- ---- a block that tells what a read asked for

module _ (content : List ℕ) (plain : every is_content content ≡ true) (characters : every is_character content ≡ true) where
  data-there : data_in (block_of content) ≡ content
  unfolding data_in
  data-there = rw (part-of-block content plain) (part-is-content content)

  pub block-answers : (family letter n : ℕ) → tells family letter n content ≡ true → answers family letter n (on_wire (block_of content)) ≡ true
  unfolding answers answers_in
  block-answers family letter n h =
      rw (sent-undamaged-all (block_of content), sent-comes-back-all (block_of content) (block-characters content characters), data-there, part-of-block content plain) h

-- and no block is the NAK
pub block-is-no-nak : (content : List ℕ) → refuses (on_wire (block_of content)) ≡ false
block-is-no-nak content = long-is-no-nak (block_of content) (λ e. omega (arith, block-long content))
