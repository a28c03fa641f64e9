-- A block that answers a read is short: each of its lines has one length. Assumes nothing.
use mathlib.Core.Path.{◌≡◌, refl, sym, ap, ap₂, ◌∙◌}
use mathlib.Core.Bool.{Bool, true, false, cond, ◌&&◌}
use mathlib.Core.List.{List, [], ◌∷◌, ◌++◌, map}
use Prim.Native.Nat.{ℕ, ◌+◌, ◌-◌, ◌≤◌}
use native.Mathlib.Omega.{arith}
use borrow.Author.Tests.{leb-true, eqb-true, ltb-true}
use lib.Dec.{leb, eqb, ltb}
use lib.ListN.{length, take, drop, length-append, length-drop, length-map}
use lib.Seq.{length-take-le, take_at}
use Rattle.line.specs.Characters.{seven, undamaged_all}
use Rattle.line.specs.Quoted.{char, chars}
use Rattle.line.proofs.Runs.{and_left, and_right}
use Rattle.text.specs.Decimal.{decimal}
use Rattle.text.specs.Layout.{pattern, fits, agrees, layout_text}
use Rattle.text.proofs.Decimal.{length-decimal}
use Rattle.text.proofs.Matching.{matched-length}
use Rattle.values.specs.Registers.{good_account, good_row}
use Rattle.values.specs.Family.{import_name, export_name}
use Rattle.values.proofs.Families.{shown, energy-long, energy-read-is-text}
use Rattle.values.specs.Texts.{table_text, time_form, date_form}
use Rattle.values.specs.Serials.{SerialRead, serial_form, serial_read, no_serial}
use Rattle.values.specs.Reading.{DateRead, TimeRead, date_read, time_read, energy_read, no_date, no_time}
use Rattle.text.specs.Writing.{holding}
use Rattle.blocks.specs.Stripping.{stripped_by, stripped_of, stripped_into, Strips, Stripped}
use Rattle.blocks.specs.Parts.{PartAt, part_of, is_block, bcc_fits}
use Rattle.judging.specs.Lines.{is_line, value_in}
use Rattle.judging.specs.Right.{energy_opening, table_opening, tells_time, tells_date, tells_clock, tells_serial, tells_account, tells_counter, tells_energy, tells_export, tells_row, tells, data_in, answers_in, answers}

-- a line is its opening, its value and three characters
line-long : (o s : List ℕ) → is_line o s ≡ true → length s ≡ (length o + 3) + length (value_in o s)
unfolding is_line value_in
line-long o s h =
    let long = leb-true (length o + 3) (length s) (and_left (leb (length o + 3) (length s)) _ h) in
    let room : length s - (length o + 3) ≤ length (drop (length o) s) = omega (arith, length-drop (length o) s, long) in
    omega (arith, long, length-take-le (length s - (length o + 3)) (drop (length o) s) room)

-- a form that fits has the form's length
fits-long : (p s : List ℕ) → fits p s ≡ true → length p ≡ length s
unfolding fits
fits-long p s h = matched-length agrees p s h

-- a value that is read fits its form
time-fits : (b : Bool) (x : TimeRead) → (cond b x no_time).ok ≡ true → b ≡ true
time-fits true x h = refl
time-fits false x h = h

date-fits : (b : Bool) (x : DateRead) → (cond b x no_date).ok ≡ true → b ≡ true
date-fits true x h = refl
date-fits false x h = h

serial-fits : (b : Bool) (x : SerialRead) → (cond b x no_serial).ok ≡ true → b ≡ true
serial-fits true x h = refl
serial-fits false x h = h

time-long : (v : List ℕ) → (time_read v).ok ≡ true → 8 ≡ length v
unfolding time_read pattern
time-long v h = fits-long (pattern time_form) v (time-fits (fits (pattern time_form) v) _ h)

date-long : (v : List ℕ) → (date_read v).ok ≡ true → 8 ≡ length v
unfolding date_read pattern
date-long v h = fits-long (pattern date_form) v (date-fits (fits (pattern date_form) v) _ h)

serial-long : (v : List ℕ) → (serial_read v).ok ≡ true → 11 ≡ length v
unfolding serial_read pattern
serial-long v h = fits-long (pattern serial_form) v (serial-fits (fits (pattern serial_form) v) _ h)

counter-long : (family : ℕ) (v : List ℕ) → (energy_read family v).ok ≡ true → length v ≤ 14
counter-long family v h = omega (arith, ap length (energy-read-is-text family v h), energy-long family (energy_read family v).number, (shown family).digits-most)

-- an energy's name is short
import-long : (family : ℕ) → length (import_name family) ≤ 5
unfolding import_name
import-long family = by (eqb family 0)
  where
    by : (b : Bool) → length (cond b (chars "15.8.") (chars "1.8.")) ≤ 5
    by true = omega arith
    by false = omega arith

-- so each answer is short
module _ (n : ℕ) (s : List ℕ) where
  time-line : tells_time s ≡ true → length s ≡ 17
  unfolding tells_time
  time-line h =
      let o = chars "0.9.1(" in
      omega (arith, line-long o s (and_left (is_line o s) _ h), time-long (value_in o s) (and_right (is_line o s) _ h))

  date-line : tells_date s ≡ true → length s ≡ 17
  unfolding tells_date
  date-line h =
      let o = chars "0.9.2(" in
      omega (arith, line-long o s (and_left (is_line o s) _ h), date-long (value_in o s) (and_right (is_line o s) _ h))

  serial-line : tells_serial s ≡ true → length s ≤ 36
  unfolding tells_serial
  serial-line h =
      let o = chars "C.1.0(" in
      omega (arith, line-long o s (and_left (is_line o s) _ h), serial-long (value_in o s) (and_right (is_line o s) _ h))

  account-line : tells_account s ≡ true → length s ≤ 36
  unfolding tells_account good_account
  account-line h =
      let o = chars "0.0.0(" in
      let v = value_in o s in
      omega (arith, line-long o s (and_left (is_line o s) _ h), eqb-true (length v) 10 (and_left (eqb (length v) 10) _ (and_right (is_line o s) _ h)))

  counter-line : (family : ℕ) (o : List ℕ) → length o ≤ 7 → tells_counter family o s ≡ true → length s ≤ 36
  unfolding tells_counter
  counter-line family o few h = omega (arith, line-long o s (and_left (is_line o s) _ h), counter-long family (value_in o s) (and_right (is_line o s) _ h))

  opening-long : (name : List ℕ) → length name ≤ 5 → length (energy_opening name n) ≤ 7
  opening-long name few = omega (arith, length-append name (decimal 1 n ++ (40 ∷ [])), length-append (decimal 1 n) (40 ∷ []), length-decimal 1 n)

  energy-line : (family : ℕ) → tells_energy family n s ≡ true → length s ≤ 36
  unfolding tells_energy
  energy-line family = counter-line family (energy_opening (import_name family) n) (opening-long (import_name family) (import-long family))

  export-line : (family : ℕ) → tells_export family n s ≡ true → length s ≤ 36
  unfolding tells_export
  export-line family = counter-line family (energy_opening export_name n) (opening-long export_name (omega arith))

  row_line : tells_row n s ≡ true → length s ≤ 36
  unfolding tells_row good_row table_text layout_text decimal
  row_line h =
      let o = table_opening n in
      let v = value_in o s in
      omega (arith, line-long o s (and_left (is_line o s) _ h), eqb-true (length v) 24 (and_left (eqb (length v) 24) _ (and_right (is_line o s) _ h)))

clock-line : (s : List ℕ) → tells_clock s ≡ true → length s ≤ 36
unfolding tells_clock
clock-line s h =
    let second = date-line 0 (drop 17 s) (and_right (tells_time (take 17 s)) _ h) in
    omega (arith, length-drop 17 s, second)

short-of : (b x y : Bool) (m : ℕ) → (x ≡ true → m ≤ 36) → (y ≡ true → m ≤ 36) → cond b x y ≡ true → m ≤ 36
short-of true x y m f g h = f h
short-of false x y m f g h = g h

no_longer : (m : ℕ) → false ≡ true → m ≤ 36
no_longer m h = absurd (omega (arith, ap {B = ℕ} (λ (b : Bool). cond b 1 0) h))

pub told-short : (family letter n : ℕ) (s : List ℕ) → tells family letter n s ≡ true → length s ≤ 36
unfolding tells
told-short family letter n s h =
    short-of (eqb letter (char "T")) _ _ (length s) (clock-line s)
    (short-of (eqb letter (char "L")) _ _ (length s) (serial-line n s)
    (short-of (eqb letter (char "K")) _ _ (length s) (account-line n s)
    (short-of (eqb letter (char "E")) _ _ (length s) (energy-line n s family)
    (short-of (eqb letter (char "G")) _ _ (length s) (export-line n s family)
    (short-of (eqb letter (char "Z")) _ _ (length s) (row_line n s) (no_longer (length s))))))) h

never : (b : Bool) → (b ≡ true → ⊥) → b ≡ false
never true h = absurd (h refl)
never false h = refl

-- a block is three characters longer than its part
abbrev parted_by : List ℕ → Bool → Bool → PartAt
parted_by s a b =
    cond a (cond b (record { number = 1; start = 1; length = length s - 3 }) (record { number = 23; start = 0; length = 0 }))
    (record { number = 22; start = 0; length = 0 })

part-short : (s : List ℕ) (a b : Bool) → eqb (parted_by s a b).number 1 ≡ true
    → length s ≤ length (take (parted_by s a b).length (drop (parted_by s a b).start s)) + 3
part-short s true true h =
    let room : length s - 3 ≤ length (drop 1 s) = omega (arith, length-drop 1 s) in
    omega (arith, length-take-le (length s - 3) (drop 1 s) room)
part-short s true false h = absurd (omega (arith, ap {B = ℕ} (λ (b : Bool). cond b 1 0) h))
part-short s false b h = absurd (omega (arith, ap {B = ℕ} (λ (b : Bool). cond b 1 0) h))

pub answer-short : (family letter n : ℕ) (s : List ℕ) → answers_in family letter n s ≡ true → length s ≤ 39
unfolding answers_in data_in part_of
answer-short family letter n s h =
    let parted = part-short s (is_block s) (bcc_fits s) (and_left (eqb (part_of s).number 1) _ h) in
    omega (arith, parted, told-short family letter n (data_in s) (and_right (eqb (part_of s).number 1) _ h))

-- what the head strips into 64 bytes it judges as the reply itself
module _ (family letter n : ℕ) (reply out after : List ℕ) (r : Stripped) (strips : Strips reply out r after) (room : length out ≡ 64) where
  -- a reply that does not strip is none of these
  refused-by : (a b : Bool) → ltb (length out) (length reply) ≡ a → undamaged_all reply ≡ b → ((stripped_by reply a b).number ≡ 1 → ⊥) → (b && answers_in family letter n (map seven reply)) ≡ false
  refused-by true true e f other = never (answers_in family letter n (map seven reply)) (λ h. omega (arith, room, ltb-true (length out) (length reply) e, answer-short family letter n (map seven reply) h, length-map reply seven))
  refused-by true false e f other = refl
  refused-by false true e f other = absurd (other refl)
  refused-by false false e f other = refl

  pub not-stripped : (r.number ≡ 1 → ⊥) → answers family letter n reply ≡ false
  unfolding answers stripped_of
  not-stripped other = refused-by (ltb (length out) (length reply)) (undamaged_all reply) refl refl (λ e. other (ap (λ (x : Stripped). x.number) strips.answer ∙ e))

  judged-by : (a b : Bool) → ltb (length out) (length reply) ≡ a → undamaged_all reply ≡ b → (stripped_by reply a b).number ≡ 1
      → (b && answers_in family letter n (map seven reply)) ≡ answers_in family letter n (take (stripped_by reply a b).length (cond a out (cond b (holding out (map seven reply)) out)))
  unfolding holding
  judged-by true b e f done = absurd (omega (arith, done))
  judged-by false true e f done = ap (answers_in family letter n) (sym (take_at (map seven reply) (drop (length (map seven reply)) out) (length reply) (length-map reply seven)))
  judged-by false false e f done = absurd (omega (arith, done))

  pub as-stripped : r.number ≡ 1 → answers family letter n reply ≡ answers_in family letter n (take r.length after)
  unfolding answers stripped_of stripped_into
  as-stripped done =
      judged-by (ltb (length out) (length reply)) (undamaged_all reply) refl refl (sym (ap (λ (x : Stripped). x.number) strips.answer) ∙ done)
      ∙ ap₂ (λ (x : Stripped) (l : List ℕ). answers_in family letter n (take x.length l)) (sym strips.answer) (sym strips.held)
