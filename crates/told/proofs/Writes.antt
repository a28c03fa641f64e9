-- The data of a write: the meter takes it for a write just where it is the one that the rules build. Assumes nothing.
use mathlib.Core.Path.{◌≡◌, refl, sym, ap, ap₂, ◌∙◌}
use mathlib.Core.Bool.{Bool, true, false, cond, ◌&&◌, and-false}
use mathlib.Core.List.{List, [], ◌∷◌, ◌++◌}
use Prim.Native.Nat.{ℕ, suc, ◌+◌, ◌-◌, ◌<◌, ◌≤◌}
use native.Mathlib.Omega.{arith}
use borrow.Author.Tests.{leb-true, eqb-true}
use lib.Dec.{eqb, leb}
use lib.ListN.{length, get_or, take, drop, length-drop}
use lib.Seq.{take-suc, take-length, split_at, take_at, drop_at, drop-drop}
use Rattle.line.proofs.Runs.{and_left, and_right}
use Rattle.text.specs.Classes.{same_text, matching}
use Rattle.text.proofs.Matching.{same-is, same_self}
use Rattle.clock.specs.Seconds.{real_clock}
use Rattle.clock.specs.declared.Clock.{Clock}
use Rattle.values.specs.Texts.{clock_text, table_text}
use Rattle.values.specs.Registers.{good_account, good_row, good_table}
use Rattle.values.specs.Reading.{ClockRead, TableRead, clock_read, table_read}
use Rattle.values.specs.declared.TableNo.{TableNo}
use Rattle.values.proofs.RoundTrip.{clock-reads-back, clock-read-is-text, table-reads-back, table-read-is-text}
use Rattle.values.proofs.Rules.{row-long, table-text-long}
use Rattle.frames.specs.Commands.{bracketed, set_clock, set_account, set_table}
use Rattle.deciding.specs.Verdicts.{Verdict, Refuse, WriteClock, WriteAccount, WriteTable}
use Rattle.deciding.specs.Telling.{enclosed, inner, clock_told, account_told, table_told, told}
use Rattle.promises.proofs.Choices as choice
use Rattle.promises.proofs.Verdicts.{clock-real, table-real}
use Rattle.dialogue.proofs.Meant.{inner-is, told-clock, told-account, told-table}
use Rattle.history.specs.Frames.{clock, account, row, good_write, write_data, tells, inside, write_of}

-- ---- a letter with something in brackets is a text

split : (a b c : ℕ) (r : List ℕ) → a ∷ b ∷ c ∷ r ≡ a ∷ b ∷ (inner (a ∷ b ∷ c ∷ r) ++ (get_or (a ∷ b ∷ c ∷ r) (length (a ∷ b ∷ c ∷ r) - 1) 0 ∷ []))
unfolding inner
split a b c r =
    let k : length (a ∷ b ∷ c ∷ r) - 3 ≡ length r = omega arith in
    let j : length (a ∷ b ∷ c ∷ r) - 1 ≡ suc (suc (length r)) = omega arith in
    ap (λ (l : List ℕ). a ∷ b ∷ l)
    (sym (take-length (c ∷ r)) ∙ take-suc (c ∷ r) (length r) 0 (omega arith)
    ∙ ap₂ (λ (n i : ℕ). take n (c ∷ r) ++ (get_or (a ∷ b ∷ c ∷ r) i 0 ∷ [])) (sym k) (sym j))

parts : (d : List ℕ) → 3 ≤ length d → d ≡ get_or d 0 0 ∷ get_or d 1 0 ∷ (inner d ++ (get_or d (length d - 1) 0 ∷ []))
parts [] n = absurd (omega arith)
parts (a ∷ []) n = absurd (omega arith)
parts (a ∷ b ∷ []) n = absurd (omega arith)
parts (a ∷ b ∷ c ∷ r) n = split a b c r

enclosed-text : (letter : ℕ) (d : List ℕ) → enclosed letter d ≡ true → d ≡ letter ∷ bracketed (inner d)
unfolding enclosed bracketed
enclosed-text letter d h =
    let long = leb 3 (length d) in
    let opens = eqb (get_or d 0 0) letter && eqb (get_or d 1 0) 40 in
    let ends = eqb (get_or d (length d - 1) 0) 41 in
    let rest = and_right long (opens && ends) h in
    let start = and_left opens ends rest in
    let e0 = eqb-true (get_or d 0 0) letter (and_left (eqb (get_or d 0 0) letter) _ start) in
    let e1 = eqb-true (get_or d 1 0) 40 (and_right (eqb (get_or d 0 0) letter) _ start) in
    let last = eqb-true (get_or d (length d - 1) 0) 41 (and_right opens ends rest) in
    parts d (leb-true 3 (length d) (and_left long (opens && ends) h)) ∙ rw (e0, e1, last)

-- ---- what the meter takes it for

pub data Tells (tables : ℕ) (d : List ℕ) : Verdict → Type 0 where
  the-clock : (c : Clock) → real_clock c ≡ true → d ≡ set_clock c → Tells tables d (WriteClock c)
  the-account : good_account (inner d) ≡ true → d ≡ set_account (inner d) → Tells tables d WriteAccount
  the_row : (t : TableNo) → good_table tables t.0 ≡ true → good_row (drop 3 (inner d)) ≡ true → d ≡ set_table t.0 (drop 3 (inner d)) → Tells tables d (WriteTable t)
  nothing : Tells tables d (Refuse 9)

pub told-tells : (tables : ℕ) (d : List ℕ) → Tells tables d (told tables d)
unfolding told clock_told account_told table_told
told-tells tables d =
    let P = Tells tables d in
    choice.given P (enclosed 84 d)
    (λ e. choice.given P (clock_read (inner d)).ok (λ k. the-clock _ (clock-real (inner d) k) (clock-text e k)) nothing)
    (choice.given P (enclosed 75 d)
    (λ e. choice.given P (good_account (inner d)) (λ k. the-account k (account-text e)) nothing)
    (choice.given P (enclosed 90 d)
    (λ e. choice.given P (eqb (get_or (inner d) 2 0) 59 && good_row (drop 3 (inner d)))
    (λ f. choice.given P (table_read tables (take 2 (inner d))).ok
    (λ k. the_row _ (table-real tables (take 2 (inner d)) k) (and_right (eqb (get_or (inner d) 2 0) 59) _ f) (table-text e f k)) nothing)
    nothing)
    nothing))
  where
    clock-text : enclosed 84 d ≡ true → (clock_read (inner d)).ok ≡ true → d ≡ set_clock (clock_read (inner d)).clock
    clock-text e k = unfold set_clock in (enclosed-text 84 d e ∙ ap (λ (x : List ℕ). 84 ∷ bracketed x) (sym (clock-read-is-text (inner d) k)))

    account-text : enclosed 75 d ≡ true → d ≡ set_account (inner d)
    account-text e = unfold set_account in (enclosed-text 75 d e)

    table-text : enclosed 90 d ≡ true → (eqb (get_or (inner d) 2 0) 59 && good_row (drop 3 (inner d))) ≡ true → (table_read tables (take 2 (inner d))).ok ≡ true
        → d ≡ set_table (table_read tables (take 2 (inner d))).table.0 (drop 3 (inner d))
    table-text e f k = unfold set_table in (
        let x = inner d in
        let long = row-long (drop 3 x) (and_right (eqb (get_or x 2 0) 59) (good_row (drop 3 x)) f) in
        let cut : x ≡ table_text (table_read tables (take 2 x)).table.0 ++ (59 ∷ drop 3 x) =
        split_at x 2 0 (omega (arith, long, length-drop 3 x))
        ∙ ap₂ (λ (l : List ℕ) (c : ℕ). l ++ (c ∷ drop 3 x)) (sym (table-read-is-text tables (take 2 x) k)) (eqb-true (get_or x 2 0) 59 (and_left (eqb (get_or x 2 0) 59) _ f)) in
        enclosed-text 90 d e ∙ ap (λ (l : List ℕ). 90 ∷ bracketed l) cut)

-- ---- what the history tells of it

inside_is : (letter : ℕ) (x : List ℕ) → inside (letter ∷ bracketed x) ≡ x
unfolding inside inner
inside_is letter x = inner-is letter x

pub clock-written : (tables : ℕ) (c : Clock) → real_clock c ≡ true → write_of tables (set_clock c) ≡ clock c ∷ []
unfolding write_of tells good_write write_data
clock-written tables c good =
    let back : (clock_read (inside (set_clock c))).clock ≡ c = unfold set_clock in (
    ap (λ (s : List ℕ). (clock_read s).clock) (inside_is 84 (clock_text c)) ∙ ap (λ (r : ClockRead). r.clock) (clock-reads-back c good)) in
    rw (back, good, same_self (set_clock c))

pub account-written : (tables : ℕ) (a : List ℕ) → good_account a ≡ true → write_of tables (set_account a) ≡ account a ∷ []
unfolding write_of tells good_write write_data
account-written tables a good =
    let back : inside (set_account a) ≡ a = unfold set_account in (inside_is 75 a) in
    rw (no-clock (clock_read (inside (set_account a))).clock, back, good, same_self (set_account a))
  where
    no-clock : (c : Clock) → (real_clock c && same_text (set_account a) (set_clock c)) ≡ false
    no-clock c = unfold set_account set_clock same_text matching in (and-false (real_clock c))

pub row_written : (tables n : ℕ) (r : List ℕ) → tables < 100 → good_table tables n ≡ true → good_row r ≡ true → write_of tables (set_table n r) ≡ row n r ∷ []
unfolding write_of tells good_write write_data
row_written tables n r few good-n good =
    let x = inside (set_table n r) in
    let is : x ≡ table_text n ++ (59 ∷ r) = unfold set_table in (inside_is 90 (table_text n ++ (59 ∷ r))) in
    let number : (table_read tables (take 2 x)).table.0 ≡ n =
    ap (λ (l : List ℕ). (table_read tables (take 2 l)).table.0) is ∙ ap (λ (l : List ℕ). (table_read tables l).table.0) (take_at (table_text n) (59 ∷ r) 2 (table-text-long n))
    ∙ ap (λ (t : TableRead). t.table.0) (table-reads-back tables n few good-n) in
    let rest : drop 3 x ≡ r = ap (drop 3) is ∙ sym (drop-drop 1 2 (table_text n ++ (59 ∷ r))) ∙ ap (drop 1) (drop_at (table_text n) (59 ∷ r) 2 (table-text-long n)) in
    rw (no-clock (clock_read x).clock, no-account x, number, rest, good-n, good, same_self (set_table n r))
  where
    no-clock : (c : Clock) → (real_clock c && same_text (set_table n r) (set_clock c)) ≡ false
    no-clock c = unfold set_table set_clock same_text matching in (and-false (real_clock c))

    no-account : (a : List ℕ) → (good_account a && same_text (set_table n r) (set_account a)) ≡ false
    no-account a = unfold set_table set_account same_text matching in (and-false (good_account a))

-- what the meter refuses tells nothing
pub none_written : (tables : ℕ) (d : List ℕ) → tables < 100 → told tables d ≡ Refuse 9 → write_of tables d ≡ []
unfolding write_of tells good_write write_data
none_written tables d few none =
    go (real_clock c && same_text d (set_clock c)) refl (good_account a && same_text d (set_account a)) refl ((good_table tables n && good_row r) && same_text d (set_table n r)) refl
  where
    c : Clock
    c = (clock_read (inside d)).clock

    a : List ℕ
    a = inside d

    n : ℕ
    n = (table_read tables (take 2 (inside d))).table.0

    r : List ℕ
    r = drop 3 (inside d)

    no-clock : (real_clock c && same_text d (set_clock c)) ≡ true → ⊥
    no-clock e =
        let w : told tables d ≡ WriteClock c = ap (told tables) (same-is d (set_clock c) (and_right (real_clock c) _ e)) ∙ told-clock tables c (and_left (real_clock c) _ e) in
        let z : ◌≡◌ {A = ℕ} 0 1 = cc in omega arith

    no-account : (good_account a && same_text d (set_account a)) ≡ true → ⊥
    no-account e =
        let w : told tables d ≡ WriteAccount = ap (told tables) (same-is d (set_account a) (and_right (good_account a) _ e)) ∙ told-account tables a (and_left (good_account a) _ e) in
        let z : ◌≡◌ {A = ℕ} 0 1 = cc in omega arith

    no_row : ((good_table tables n && good_row r) && same_text d (set_table n r)) ≡ true → ⊥
    no_row e =
        let good = and_left (good_table tables n && good_row r) _ e in
        let w : told tables d ≡ WriteTable (record { 0 = n }) =
        ap (told tables) (same-is d (set_table n r) (and_right (good_table tables n && good_row r) _ e)) ∙ told-table tables n r few (and_left (good_table tables n) _ good) (and_right (good_table tables n) _ good) in
        let z : ◌≡◌ {A = ℕ} 0 1 = cc in omega arith

    go : (p : Bool) → (real_clock c && same_text d (set_clock c)) ≡ p → (q : Bool) → (good_account a && same_text d (set_account a)) ≡ q
        → (s : Bool) → ((good_table tables n && good_row r) && same_text d (set_table n r)) ≡ s
        → cond p (clock c ∷ []) (cond q (account a ∷ []) (cond s (row n r ∷ []) [])) ≡ []
    go true e q f s k = absurd (no-clock e)
    go false e true f s k = absurd (no-account f)
    go false e false f true k = absurd (no_row k)
    go false e false f false k = refl
