-- A frame tells a write exactly where it is the frame that the rules build for it. Assumes nothing.
use mathlib.Core.Path.{◌≡◌, refl, sym, ap, ap₂, ◌∙◌}
use mathlib.Core.Bool.{true, ◌&&◌}
use mathlib.Core.List.{List, [], ◌∷◌, ◌++◌, map, append_assoc}
use Prim.Native.Nat.{ℕ, ◌-◌, ◌<◌}
use native.Mathlib.Omega.{arith}
use lib.ListN.{length, take, drop, length-append}
use lib.Seq.{take_at}
use Rattle.line.specs.Characters.{seven, undamaged_all}
use Rattle.line.specs.Checksum.{bcc_of}
use Rattle.line.specs.Runs.{every}
use Rattle.line.proofs.Runs.{and_left, and_right, and_both}
use Rattle.text.specs.Classes.{is_printable}
use Rattle.text.proofs.Matching.{same-is}
use Rattle.values.specs.Edition.{tables_of}
use Rattle.values.specs.Registers.{good_table}
use Rattle.values.proofs.Editions.{tables-most}
use Rattle.frames.specs.Frames.{closed, frame_of}
use Rattle.commands.specs.Spoken.{write_clock, write_account, write_table, good_fields, data_of}
use Rattle.readback.proofs.Commands.{command-printable}
use Rattle.promises.proofs.Choices as choice
use Rattle.whole.proofs.Filled.{length-map}
use Rattle.history.specs.Saying.{says}
use Rattle.history.specs.Frames.{Write, clock, account, row, good_write, write_data, tells, data_in, is_frame, clock_here, account_here, row_here, write_of, write_in}
use Rattle.told.specs.Exactly.{Exactly}
use Rattle.told.proofs.Writes.{clock-written, account-written, row_written}

-- the data of a frame that is built of it
data-back : (frame x : List ℕ) → says frame (frame_of (87 ∷ 49 ∷ []) x) ≡ true → data_in frame ≡ x
unfolding says data_in frame_of closed
data-back frame x h =
    let bcc = bcc_of (87 ∷ 49 ∷ 2 ∷ (x ++ (3 ∷ []))) in
    let is : map seven frame ≡ 1 ∷ 87 ∷ 49 ∷ 2 ∷ ((x ++ (3 ∷ [])) ++ (bcc ∷ [])) = same-is (map seven frame) _ (and_right (undamaged_all frame) _ h) in
    let long : length frame - 6 ≡ length x = omega (arith, sym (length-map seven frame) ∙ ap length is, length-append (x ++ (3 ∷ [])) (bcc ∷ []), length-append x (3 ∷ [])) in
    ap₂ (λ (n : ℕ) (l : List ℕ). take n (drop 4 l)) long is ∙ ap (take (length x)) (append_assoc x (3 ∷ []) (bcc ∷ [])) ∙ take_at x (3 ∷ bcc ∷ []) (length x) refl

data-printable : (tables : ℕ) (w : Write) → good_write tables w ≡ true → every is_printable (write_data w) ≡ true
unfolding good_write write_data
data-printable tables (clock c) g = unfold data_of good_fields in (command-printable tables 0 (write_clock c) g)
data-printable tables (account a) g = unfold data_of good_fields in (command-printable tables 0 (write_account a) g)
data-printable tables (row n r) g = unfold data_of good_fields in (command-printable tables 0 (write_table n r) g)

data-written : (tables : ℕ) (w : Write) → tables < 100 → good_write tables w ≡ true → write_of tables (write_data w) ≡ w ∷ []
unfolding good_write write_data
data-written tables (clock c) few g = clock-written tables c g
data-written tables (account a) few g = account-written tables a g
data-written tables (row n r) few g = row_written tables n r few (and_left (good_table tables n) _ g) (and_right (good_table tables n) _ g)

-- the first of a list
first : Write → List Write → Write
first w [] = w
first w (x ∷ xs) = x

module _ (edition : ℕ) (frame : List ℕ) (w : Write) where
  abbrev tables : ℕ
  tables = tables_of edition

  abbrev Built : Write → Type 0
  Built v = (good_write tables v && says frame (frame_of (87 ∷ 49 ∷ []) (write_data v))) ≡ true

  none : [] ≡ w ∷ [] → Built w
  none e = absurd (omega (arith, ap length e))

  one : is_frame (87 ∷ 49 ∷ []) frame ≡ true → (v : Write) → tells tables (data_in frame) v ≡ true → v ∷ [] ≡ w ∷ [] → Built w
  unfolding first is_frame tells
  one f v t e =
      let same : v ≡ w = ap (first w) e in
      let said = and_left (says frame (frame_of (87 ∷ 49 ∷ []) (data_in frame))) _ f in
      let d = same-is (data_in frame) (write_data v) (and_right (good_write tables v) _ t) in
      rw same at (and_both (good_write tables v) (says frame (frame_of (87 ∷ 49 ∷ []) (write_data v))) (and_left (good_write tables v) _ t) (rw d at said))

  as-built-is : write_in tables frame ≡ w ∷ [] → Built w
  unfolding write_in write_of
  as-built-is =
      let d = data_in frame in
      choice.given P (is_frame (87 ∷ 49 ∷ []) frame)
      (λ f. choice.given P (tells tables d (clock_here d)) (one f (clock_here d))
      (choice.given P (tells tables d (account_here d)) (one f (account_here d))
      (choice.given P (tells tables d (row_here tables d)) (one f (row_here tables d)) none)))
      none
    where
      P : List Write → Type 0
      P ws = ws ≡ w ∷ [] → Built w

  when-built-is : Built w → write_in tables frame ≡ w ∷ []
  unfolding write_in is_frame
  when-built-is h =
      let good = and_left (good_write tables w) _ h in
      let said = and_right (good_write tables w) _ h in
      rw (data-back frame (write_data w) said, said, data-printable tables w good) (data-written tables w (omega (arith, tables-most edition)) good)

  pub exactly : Exactly edition frame w
  exactly = record { as-built = as-built-is; when-built = when-built-is }
