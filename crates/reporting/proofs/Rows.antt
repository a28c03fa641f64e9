-- The rows of a report, line by line, and what a report begins a buffer with. Assumes nothing.
use mathlib.Core.Path.{◌≡◌, refl, sym, ap, ap₂, subst, ◌∙◌}
use mathlib.Core.List.{List, [], ◌∷◌, ◌++◌}
use Prim.Native.Nat.{ℕ, zero, suc, ◌+◌, ◌-◌, ◌*◌, ◌<◌, ◌≤◌}
use native.Mathlib.Numerals.{add-one}
use native.Mathlib.Omega.{arith}
use lib.ListN.{length, take, drop, length-append, length-drop}
use lib.Seq.{length-take-le}
use Rattle.text.specs.Writing.{stored}
use Rattle.text.proofs.Writing.{and_then, stored-holding}
use Rattle.numerals.specs.Numerals.{number_line}
use Rattle.numerals.proofs.Widths.{line-few}
use Rattle.values.proofs.Editions.{tables-most}
use Rattle.state.specs.declared.Meter.{Meter}
use Rattle.state.specs.WellFormed.{tables_in}
use Rattle.replies.specs.Shown.{row_of}
use Rattle.export.specs.declared.Refusal.{Refusal}
use Rattle.export.specs.declared.Refusal.TheVariants.{NoPost, NoRoom, NoEdition}
use Rattle.export.specs.Refusals.{refusal_number, refusal_place}
use Rattle.delivery.specs.Delivery.{DeliveredAs}
use Rattle.delivery.proofs.Counting.{one-delivery}
use Rattle.reporting.specs.Report.{opened_meter, row_lines, detail, Reported, ShowsReport}

length-row : (s : List ℕ) (i : ℕ) → length s ≡ 600 → i < 25 → length (row_of s (suc i)) ≡ 24
unfolding row_of
length-row s i h k = length-take-le 24 (drop ((suc i - 1) * 24) s) (omega (arith, length-drop ((suc i - 1) * 24) s))

pub length-rows : (s : List ℕ) (n : ℕ) → length s ≡ 600 → n ≤ 25 → length (row_lines n s) ≡ n * 25
unfolding row_lines
length-rows s zero h k = refl
length-rows s (suc n) h k =
    omega (
      arith,
      length-append (row_lines n s) (row_of s (suc n) ++ (10 ∷ [])),
      length-append (row_of s (suc n)) (10 ∷ []),
      length-row s n h k,
      length-rows s n h (omega arith),
    )

-- one row more
module _ (out s : List ℕ) (at i : ℕ) (h : length s ≡ 600) (k : i < 25)
    (now : List ℕ) (to : ℕ) (e : now ≡ stored out at (row_lines i s)) (t : to ≡ at + i * 25)
    (row : List ℕ) (r : row ≡ take 24 (drop (i * 24) s))
    (mid : List ℕ) (next : ℕ) (w : mid ≡ stored now to row) (p : next ≡ to + length row) (after : List ℕ) (v : after ≡ stored mid next (10 ∷ [])) where
  row_is : row ≡ row_of s (suc i)
  unfolding row_of
  row_is = r ∙ ap (λ (n : ℕ). take 24 (drop n s)) {x = i * 24} {y = (suc i - 1) * 24} (omega arith)

  pub row_more : after ≡ stored out at (row_lines (i + 1) s)
  unfolding row_lines
  row_more =
      let long = length-rows s i h (omega arith) in
      rw (add-one i)
      (and_then out at (row_lines i s) now to (row_of s (suc i) ++ (10 ∷ [])) after e (omega (arith, long))
      (and_then now to (row_of s (suc i)) mid next (10 ∷ []) after (w ∙ ap (stored now to) row_is) (p ∙ ap (λ (l : List ℕ). to + length l) row_is) v))

  pub row-place : (last : ℕ) → last ≡ next + 1 → last ≡ at + (i + 1) * 25
  row-place last q = omega (arith, p, t, q, ap length row_is, length-row s i h k)

-- all of a report, from the front on
pub shows-report : (edition : ℕ) (text out : List ℕ) (number place acknowledged : ℕ) (next : Meter) (size : ℕ) (after : List ℕ) → 667 ≤ length out
    → length next.registers.tables ≡ 600 → DeliveredAs (opened_meter edition) text number place acknowledged next
    → size ≡ length (number_line number (detail number place acknowledged)) + tables_in next.registers * 25
    → after ≡ stored out 0 (number_line number (detail number place acknowledged) ++ row_lines (tables_in next.registers) next.registers.tables)
    → ShowsReport edition text out number size after
shows-report edition text out number place acknowledged next size after room tables d e w =
    let line = number_line number (detail number place acknowledged) in
    let rows = row_lines (tables_in next.registers) next.registers.tables in
    let long : length (line ++ rows) ≡ length line + tables_in next.registers * 25 = length-append line rows ∙ ap (λ (n : ℕ). length line + n) (length-rows next.registers.tables (tables_in next.registers) tables (tables-most next.registers.facts.edition)) in
    record {
      shown = line ++ rows;
      is = record { place = place; acknowledged = acknowledged; next = next; delivered = d; all = refl };
      long = e ∙ sym long;
      held = w ∙ stored-holding out (line ++ rows) (omega (arith, long, tables-most next.registers.facts.edition, line-few number (detail number place acknowledged)));
    }

-- the same of what a meter that was opened makes of a text
module _ (edition : ℕ) (text out : List ℕ) (m : Meter) (opened : m ≡ opened_meter edition) (size : ℕ) (after : List ℕ) (room : 667 ≤ length out) where
  pub shows-delivered : (acknowledged : ℕ) (next : Meter) → length next.registers.tables ≡ 600 → DeliveredAs m text 1 0 acknowledged next
      → size ≡ length (number_line 1 acknowledged) + tables_in next.registers * 25
      → after ≡ stored out 0 (number_line 1 acknowledged ++ row_lines (tables_in next.registers) next.registers.tables) → ShowsReport edition text out 1 size after
  unfolding detail
  shows-delivered acknowledged next tables d =
      shows-report edition text out 1 0 acknowledged next size after room tables (subst (λ (x : Meter). DeliveredAs x text 1 0 acknowledged next) opened d)

  pub shows-undelivered : (r : Refusal) → length m.registers.tables ≡ 600 → DeliveredAs m text (refusal_number r) (refusal_place r) 0 m
      → size ≡ length (number_line (refusal_number r) (refusal_place r)) + tables_in m.registers * 25
      → after ≡ stored out 0 (number_line (refusal_number r) (refusal_place r) ++ row_lines (tables_in m.registers) m.registers.tables)
      → ShowsReport edition text out (refusal_number r) size after
  unfolding detail
  shows-undelivered (NoPost place) tables d =
      shows-report edition text out 20 place 0 m size after room tables (subst (λ (x : Meter). DeliveredAs x text 20 place 0 m) opened d)
  shows-undelivered NoRoom tables d = shows-report edition text out 21 0 0 m size after room tables (subst (λ (x : Meter). DeliveredAs x text 21 0 0 m) opened d)
  shows-undelivered NoEdition tables d =
      shows-report edition text out 16 0 0 m size after room tables (subst (λ (x : Meter). DeliveredAs x text 16 0 0 m) opened d)

-- a line and the rows of a meter's tables have room in a report's buffer
pub report-room : (out : List ℕ) (n p : ℕ) (m : Meter) → 667 ≤ length out → length m.registers.tables ≡ 600
    → length (number_line n p ++ row_lines (tables_in m.registers) m.registers.tables) ≤ length out
report-room out n p m room tables =
    let rows = row_lines (tables_in m.registers) m.registers.tables in
    let most = tables-most m.registers.facts.edition in
    omega (arith, length-append (number_line n p) rows, length-rows m.registers.tables (tables_in m.registers) tables most, most, line-few n p)

-- a text has one report
pub one-report : (edition : ℕ) (text : List ℕ) (n : ℕ) (s : List ℕ) (m : ℕ) (t : List ℕ) → Reported edition text n s → Reported edition text m t → (n ≡ m) × (s ≡ t)
one-report edition text n s m t x y =
    let same = one-delivery (opened_meter edition) text n x.place x.acknowledged x.next m y.place y.acknowledged y.next x.delivered y.delivered in
    let line : number_line n (detail n x.place x.acknowledged) ≡ number_line m (detail m y.place y.acknowledged) = rw (same.0, same.1, same.2) in
    (same.0, x.all ∙ ap₂ (λ (l : List ℕ) (r : Meter). l ++ row_lines (tables_in r.registers) r.registers.tables) line same.3 ∙ sym y.all)
