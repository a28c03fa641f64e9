-- The data of each command, as the meter reads them: P1 is an entry, R1 an ask, W1 a change. Assumes nothing.
use mathlib.Core.Path.{◌≡◌, refl, sym, ap, ◌∙◌}
use mathlib.Core.Bool.{Bool, true, false, cond, ◌&&◌, and-true}
use mathlib.Core.List.{List, [], ◌∷◌, ◌++◌}
use Prim.Native.Nat.{ℕ, zero, suc, ◌+◌, ◌-◌, ◌/◌, ◌%◌, ◌^◌, ◌≤◌, ◌<◌}
use native.Mathlib.Omega.{arith}
use borrow.Author.Tests.{le-leb, leb-true, lt-ltb}
use lib.Dec.{eqb, leb}
use lib.ListN.{length, get_or, take, length-append}
use lib.Seq.{take_at, get_or-append_seam}
use Rattle.line.specs.Quoted.{chars}
use Rattle.line.specs.Runs.{every}
use Rattle.line.proofs.Runs.{and_left, and_right, chosen}
use Rattle.text.specs.Classes.{between, is_digit, matching, same_text}
use Rattle.text.specs.Decimal.{decimal, value_of, number_at}
use Rattle.text.specs.Layout.{Piece, digits, fixed, layout_text, pattern, fits, agrees, numbers_fit, plain}
use Rattle.text.proofs.Decimal.{decimal-value, value-lt, digit-is}
use Rattle.text.proofs.Forms.{text-fits}
use Rattle.text.proofs.Matching.{matching-length}
use Rattle.clock.specs.declared.Clock.{Clock}
use Rattle.clock.specs.Seconds.{real_clock}
use Rattle.values.specs.declared.Energy.TheVariants.{Total}
use Rattle.values.specs.Family.{is_eqm}
use Rattle.values.specs.Registers.{zone_energy, good_zone, good_digits, good_password, good_account, good_row, good_table}
use Rattle.values.specs.Texts.{table_text, clock_text, table_form}
use Rattle.values.specs.Reading.{TableRead, table_read, some_table, no_table}
use Rattle.values.proofs.RoundTrip.{clock-reads-back, table-reads-back}
use Rattle.values.proofs.Rules.{digits_long}
use Rattle.frames.specs.Commands.{bracketed, ask_clock, ask_serial, ask_account, ask_energy, ask_export, ask_table, set_clock, set_account, set_table}
use Rattle.frames.specs.Session.{enter_data, password_data}
use Rattle.replies.specs.declared.Ask.TheVariants as ask
use Rattle.deciding.specs.Verdicts.{Refuse, Enter, Password, Read, WriteClock, WriteAccount, WriteTable}
use Rattle.deciding.specs.Asking.{table_named, table_asked, energy_named, energy_at, energy_asked, asked}
use Rattle.deciding.specs.Telling.{enclosed, inner, clock_named, clock_told, account_told, table_meant, table_told, told}
use Rattle.deciding.specs.Verdict.{entry}

-- P1

pub entry-plain : entry enter_data ≡ Enter
unfolding entry enter_data bracketed same_text matching
entry-plain = refl

-- eight digits in brackets
abbrev password_form : List Piece
password_form = fixed (chars "(") ∷ digits 8 ∷ fixed (chars ")") ∷ []

module _ (p : List ℕ) (good : good_password p ≡ true) where
  password-fits : fits (chars "(########)") (bracketed p) ≡ true
  unfolding bracketed good_digits numbers_fit plain pattern layout_text every
  password-fits =
      let n = digits_long 8 p good in
      let all = and_right (eqb (length p) 8) (every is_digit p) good in
      let same : decimal 8 (value_of p) ≡ p = ap (λ (k : ℕ). decimal k (value_of p)) (sym n) ∙ decimal-value p all in
      let low : value_of p < 10 ^ 8 = rw n at (value-lt p all) in
      rw same at (text-fits password_form (value_of p ∷ []) refl (rw (lt-ltb (value_of p) (10 ^ 8) low)))

  not_plain : same_text (bracketed p) (chars "()") ≡ false
  unfolding bracketed same_text
  not_plain = matching-length eqb (chars "(" ++ (p ++ chars ")")) (chars "()") (λ e. omega (arith, digits_long 8 p good, length-append p (41 ∷ [])))

  pub entry-password : entry (password_data p) ≡ Password
  unfolding entry password_data
  entry-password = rw (not_plain, password-fits)

-- R1

pub asked-clock : (tables family : ℕ) → asked tables family ask_clock ≡ Read ask.Clock
unfolding asked ask_clock bracketed same_text matching
asked-clock tables family = refl

pub asked-serial : (tables family : ℕ) → asked tables family ask_serial ≡ Read ask.Serial
unfolding asked ask_clock ask_serial bracketed same_text matching
asked-serial tables family = refl

pub asked-account : (tables family : ℕ) → asked tables family ask_account ≡ Read ask.Account
unfolding asked ask_clock ask_serial ask_account bracketed same_text matching
asked-account tables family = refl

pub asked-total : (tables family : ℕ) → asked tables family (ask_energy 0) ≡ Read (ask.Energy Total)
unfolding asked energy_asked energy_named energy_at ask_clock ask_serial ask_account ask_energy bracketed same_text matching
asked-total tables family = refl

pub zone-least : (n : ℕ) → good_zone n ≡ true → 1 ≤ n
unfolding good_zone between
zone-least n h = leb-true 1 n (and_left (leb 1 n) (leb n 4) h)

pub asked-zone : (tables family n : ℕ) → 1 ≤ n → n ≤ 4 → asked tables family (ask_energy n) ≡ Read (ask.Energy (zone_energy n))
unfolding asked energy_asked energy_named energy_at ask_clock ask_serial ask_account ask_energy bracketed same_text matching
asked-zone tables family zero l h = absurd (omega arith)
asked-zone tables family (suc zero) l h = refl
asked-zone tables family (suc (suc zero)) l h = refl
asked-zone tables family (suc (suc (suc zero))) l h = refl
asked-zone tables family (suc (suc (suc (suc zero)))) l h = refl
asked-zone tables family (suc (suc (suc (suc (suc n))))) l h = absurd (omega arith)

-- of an EQM meter, what went out
pub asked-total-out : (tables family : ℕ) → is_eqm family ≡ true → asked tables family (ask_export 0) ≡ Read (ask.Export Total)
unfolding asked energy_asked energy_named energy_at ask_clock ask_serial ask_account ask_export bracketed same_text matching
asked-total-out tables family e = rw e

pub asked-zone-out : (tables family n : ℕ) → is_eqm family ≡ true → 1 ≤ n → n ≤ 4 → asked tables family (ask_export n) ≡ Read (ask.Export (zone_energy n))
unfolding asked energy_asked energy_named energy_at ask_clock ask_serial ask_account ask_export bracketed same_text matching
asked-zone-out tables family zero e l h = absurd (omega arith)
asked-zone-out tables family (suc zero) e l h = rw e
asked-zone-out tables family (suc (suc zero)) e l h = rw e
asked-zone-out tables family (suc (suc (suc zero))) e l h = rw e
asked-zone-out tables family (suc (suc (suc (suc zero)))) e l h = rw e
asked-zone-out tables family (suc (suc (suc (suc (suc n))))) e l h = absurd (omega arith)

-- one of document 01's family is not asked for it
pub asked-out-none : (tables n : ℕ) → n ≤ 4 → asked tables 0 (ask_export n) ≡ Refuse 9
unfolding asked energy_asked energy_named table_asked is_eqm ask_clock ask_serial ask_account ask_export bracketed same_text matching fits agrees
asked-out-none tables zero h = refl
asked-out-none tables (suc zero) h = refl
asked-out-none tables (suc (suc zero)) h = refl
asked-out-none tables (suc (suc (suc zero))) h = refl
asked-out-none tables (suc (suc (suc (suc zero)))) h = refl
asked-out-none tables (suc (suc (suc (suc (suc n))))) h = absurd (omega arith)

neither : (b : Bool) → (b && false) ≡ false
neither true = refl
neither false = refl

-- Z(xx), of two digits
two-asked : (tables family x y : ℕ) → is_digit x ≡ true → is_digit y ≡ true → asked tables family (90 ∷ 40 ∷ x ∷ y ∷ 41 ∷ []) ≡ table_named (table_read tables (x ∷ y ∷ []))
unfolding asked energy_asked energy_named table_asked ask_clock ask_serial ask_account bracketed same_text matching fits agrees
two-asked tables family x y hx hy = rw (neither (is_eqm family), hx, hy)

ask-table-is : (n : ℕ) → ask_table n ≡ 90 ∷ 40 ∷ (48 + n / 10 % 10) ∷ (48 + n % 10) ∷ 41 ∷ []
unfolding ask_table bracketed table_text layout_text decimal
ask-table-is n = refl

digits_are : (n : ℕ) → (48 + n / 10 % 10) ∷ (48 + n % 10) ∷ [] ≡ table_text n
unfolding table_text layout_text decimal
digits_are n = refl

pub asked-table : (tables family n : ℕ) → tables < 100 → good_table tables n ≡ true → asked tables family (ask_table n) ≡ Read (ask.Table (record { 0 = n }))
asked-table tables family n few good =
    ap (asked tables family) (ask-table-is n)
    ∙ two-asked tables family (48 + n / 10 % 10) (48 + n % 10) (digit-is (n / 10 % 10) (omega arith)) (digit-is (n % 10) (omega arith))
    ∙ ap (λ (t : List ℕ). table_named (table_read tables t)) (digits_are n)
    ∙ ap table_named (table-reads-back tables n few good)

-- W1

opened-closed : (d : List ℕ) (c k : ℕ) → leb 3 (length d) ≡ true → get_or d 0 0 ≡ c → get_or d 1 0 ≡ 40 → get_or d (length d - 1) 0 ≡ 41 → enclosed k d ≡ eqb c k
unfolding enclosed
opened-closed d c k l f o e = rw (l, f, o, e) (and-true (eqb c k && true) ∙ and-true (eqb c k))

module _ (letter : ℕ) (x : List ℕ) where
  pub named-long : length (letter ∷ bracketed x) ≡ length x + 3
  unfolding bracketed
  named-long = omega (arith, length-append x (41 ∷ []))

  last-bracket : get_or (letter ∷ bracketed x) (length (letter ∷ bracketed x) - 1) 0 ≡ 41
  unfolding bracketed
  last-bracket =
      ap (λ (n : ℕ). get_or (letter ∷ 40 ∷ (x ++ (41 ∷ []))) n 0) {x = length (letter ∷ bracketed x) - 1} {y = suc (suc (length x))} (omega (arith, named-long))
      ∙ get_or-append_seam x 41 [] 0

  encloses : (k : ℕ) → enclosed k (letter ∷ bracketed x) ≡ eqb letter k
  encloses k =
      opened-closed (letter ∷ bracketed x) letter k (le-leb 3 (length (letter ∷ bracketed x)) (omega (arith, named-long))) refl (unfold bracketed in refl) last-bracket

  pub inner-is : inner (letter ∷ bracketed x) ≡ x
  unfolding inner bracketed
  inner-is =
      ap (λ (n : ℕ). take n (x ++ (41 ∷ []))) {x = length (letter ∷ bracketed x) - 3} {y = length x} (omega (arith, named-long))
      ∙ take_at x (41 ∷ []) (length x) refl

  told-by : (tables : ℕ) → told tables (letter ∷ bracketed x) ≡ cond (eqb letter 84) (clock_told x) (cond (eqb letter 75) (account_told x) (cond (eqb letter 90) (table_told tables x) (Refuse 9)))
  unfolding told
  told-by tables = rw (encloses 84, encloses 75, encloses 90, inner-is)

pub told-clock : (tables : ℕ) (c : Clock) → real_clock c ≡ true → told tables (set_clock c) ≡ WriteClock c
unfolding set_clock clock_told
told-clock tables c good = told-by 84 (clock_text c) tables ∙ ap clock_named (clock-reads-back c good)

pub told-account : (tables : ℕ) (a : List ℕ) → good_account a ≡ true → told tables (set_account a) ≡ WriteAccount
unfolding set_account account_told
told-account tables a good = told-by 75 a tables ∙ (rw good)

two-told : (tables x y : ℕ) (row : List ℕ) → good_row row ≡ true → table_told tables (x ∷ y ∷ 59 ∷ row) ≡ table_meant (table_read tables (x ∷ y ∷ []))
unfolding table_told
two-told tables x y row good = rw good

-- a table by its number goes by how that reads
told-read : (tables n : ℕ) (row : List ℕ) → good_row row ≡ true → told tables (set_table n row) ≡ table_meant (table_read tables (table_text n))
unfolding set_table
told-read tables n row good =
    told-by 90 (table_text n ++ (59 ∷ row)) tables
    ∙ ap (λ (t : List ℕ). table_told tables (t ++ (59 ∷ row))) (sym (digits_are n))
    ∙ two-told tables (48 + n / 10 % 10) (48 + n % 10) row good
    ∙ ap (λ (t : List ℕ). table_meant (table_read tables t)) (digits_are n)

pub told-table : (tables n : ℕ) (row : List ℕ) → tables < 100 → good_table tables n ≡ true → good_row row ≡ true → told tables (set_table n row) ≡ WriteTable (record { 0 = n })
told-table tables n row few good-n good = told-read tables n row good ∙ ap table_meant (table-reads-back tables n few good-n)

-- [3]: and one that the meter has not is refused
other-table : (tables n : ℕ) → 1 ≤ n → n < 100 → good_table tables n ≡ false → table_read tables (table_text n) ≡ no_table
unfolding table_read good_table between
other-table tables n low small none =
    let s = table_text n in
    let r = table-reads-back 99 n (omega arith) (rw (le-leb 1 n low, le-leb n 99 (omega arith))) in
    let some = some_table 99 (number_at s 0 2) in
    let f = chosen (λ (t : TableRead). t.ok) (fits (pattern table_form) s) some no_table refl (ap (λ (t : TableRead). t.ok) r) in
    let k : some ≡ record { ok = true; table = record { 0 = n } } = rw f at r in
    let g = chosen (λ (t : TableRead). t.ok) (good_table 99 (number_at s 0 2)) (record { ok = true; table = record { 0 = number_at s 0 2 } }) no_table refl (ap (λ (t : TableRead). t.ok) k) in
    let is : number_at s 0 2 ≡ n = ap (λ (t : TableRead). t.table.0) (rw g at k) in
    rw (f, is, none)

pub told-other : (tables n : ℕ) (row : List ℕ) → 1 ≤ n → n < 100 → good_table tables n ≡ false → good_row row ≡ true → told tables (set_table n row) ≡ Refuse 9
told-other tables n row low small none good = told-read tables n row good ∙ ap table_meant (other-table tables n low small none)
