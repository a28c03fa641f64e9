-- Two wrong answers for each call of `post`, `export` and `delivery`, and some that document 01 warns of. The C functions of `forum` have the same promises.
use Rattle.std.specs.Prelude.{List, [], ◌∷◌, ◌++◌, ℕ, take, replicate}
use Rattle.line.specs.Quoted.{chars}
use Rattle.state.specs.declared.Meter.{Meter}
use Rattle.state.specs.Setting.{in_mode, with_attempts}
use Rattle.post.specs.Grammar.{Entry, line_text, post_text}
use Rattle.post.specs.Place.{CheckedAs}
use Rattle.post.specs.Refusals as checked
use Rattle.post.specs.declared.Refusal.TheVariants as check
use Rattle.export.specs.Refusals as exported
use Rattle.export.specs.declared.Refusal.TheVariants as export
use Rattle.export.specs.Frames.{frames_of, ExportedAs}
use Rattle.dialogue.specs.Feeding.{answered, left, full}
use Rattle.delivery.specs.Acknowledged.{acknowledgements}
use Rattle.delivery.specs.Delivery.{DeliveredAs}
use Rattle.mistakes.specs.RuledOut.{RuledOut}
use Rattle.mistakes.specs.Samples.{twos, new_meter}
use Rattle.mistakes.specs.Commands.{broken}

abbrev pub entry : ℕ → List ℕ → Entry
entry n row = record { number = n; row = row }

-- table 7 alone; tables 7 and 8
abbrev pub one : List Entry
one = entry 7 twos ∷ []

abbrev pub two : List Entry
two = entry 7 twos ∷ entry 8 (replicate 24 49) ∷ []

-- a line again under its number; a bracket within a row; `!` alone
unfoldable pub twice : List ℕ
twice = post_text (entry 7 twos ∷ entry 7 twos ∷ [])

unfoldable pub bracketed : List ℕ
bracketed = post_text (entry 7 broken ∷ [])

abbrev pub last_alone : List ℕ
last_alone = chars "!\r\n"

-- of `post`
pub record Checks : Type 0 where
  -- a post refused, at whatever place; a '1' below table 24 as the beginning of a line
  pub check : ((place : ℕ) → CheckedAs 24 (post_text one) 20 place → ⊥) × (CheckedAs 24 (line_text 24 twos ++ (chars "1")) 20 37 → ⊥)
  -- equal numbers accepted; a bracket within a row accepted
  pub check-lines : (CheckedAs 24 twice 1 0 → ⊥) × (CheckedAs 24 bracketed 1 0 → ⊥)
  -- table 7 of 6 accepted; table 7 of 7 refused
  pub check_of : (CheckedAs 6 (post_text one) 1 0 → ⊥) × ((place : ℕ) → CheckedAs 7 (post_text one) 20 place → ⊥)

-- of `export`
pub record Exports : Type 0 where
  -- 21 before 20; the frame's beginning written, and then 21
  pub export : ((place : ℕ) → ExportedAs 24 last_alone [] 21 0 place [] → ⊥)
      × ((place : ℕ) → ExportedAs 24 (post_text one) (replicate 35 0) 21 0 place (take 35 (frames_of one)) → ⊥)
  -- the first row again for the second line; 21 for a buffer that is just large enough
  pub export-lines : ((size place : ℕ) → ExportedAs 24 (post_text two) (replicate 72 0) 1 size place (frames_of (entry 7 twos ∷ entry 8 twos ∷ [])) → ⊥)
      × ((size place : ℕ) (after : List ℕ) → ExportedAs 24 (post_text one) (replicate 36 0) 21 size place after → ⊥)
  -- the first frame again and again to its own place, and nothing behind it
  pub exports-the-first-row : (size place : ℕ) → ExportedAs 24 (post_text two) (replicate 72 0) 1 size place (frames_of one ++ replicate 36 0) → ⊥
  -- the two frames in each other's place
  pub swaps-two-frames : (size place : ℕ) → ExportedAs 24 (post_text two) (replicate 72 0) 1 size place (frames_of (entry 8 (replicate 24 49) ∷ entry 7 twos ∷ [])) → ⊥
  -- a BCC of 1 where it is 0
  pub sums-wrongly : (size place : ℕ) → ExportedAs 24 (post_text one) (replicate 36 0) 1 size place (take 35 (frames_of one) ++ 0x81 ∷ []) → ⊥
  -- the text's length for the place
  pub makes-up-the-place : (size : ℕ) (after : List ℕ) → ExportedAs 24 (chars "!") [] 20 size 1 after → ⊥
  -- table 7 of 6 exported; table 7 of 7 refused
  pub export_of : ((size place : ℕ) (after : List ℕ) → ExportedAs 6 (post_text one) (replicate 36 0) 1 size place after → ⊥)
      × ((size place : ℕ) (after : List ℕ) → ExportedAs 7 (post_text one) (replicate 36 0) 20 size place after → ⊥)

-- of `post::Refusal`
pub record PostRefusals : Type 0 where
  -- the number of an edition that there is not, and the other way about
  pub number : RuledOut (checked.refusal_number (check.NoPost 37)) 16 × RuledOut (checked.refusal_number check.NoEdition) 20
  -- place 0 for a text that strays further on; a place of an edition that there is not
  pub place : RuledOut (checked.refusal_place (check.NoPost 37)) 0 × RuledOut (checked.refusal_place check.NoEdition) 1

-- of `export::Refusal`
pub record ExportRefusals : Type 0 where
  -- a buffer that is too short told as a text that is no post, and the other way about
  pub number : RuledOut (exported.refusal_number export.NoRoom) 20 × RuledOut (exported.refusal_number (export.NoPost 37)) 21
  -- place 0 for a text that strays further on; a place of a buffer that is too short
  pub place : RuledOut (exported.refusal_place (export.NoPost 37)) 0 × RuledOut (exported.refusal_place export.NoRoom) 1

-- in programming mode
abbrev pub ready : Meter
ready = in_mode new_meter 4

-- of `delivery`
pub record Deliveries : Type 0 where
  -- an acknowledgement for each byte; the old tables
  pub feed : RuledOut (acknowledgements (answered ready full (frames_of one))) 36 × RuledOut (left ready full (frames_of one)) ready
  -- nothing acknowledged
  pub feed-none : RuledOut (acknowledgements (answered ready full (frames_of one))) 0
  -- all acknowledged, and the old tables; a refused text that changes the state
  pub deliver : (DeliveredAs ready (post_text one) 1 0 1 ready → ⊥) × ((place : ℕ) → DeliveredAs ready last_alone 20 place 0 (with_attempts ready 1) → ⊥)
