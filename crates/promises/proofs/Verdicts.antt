-- Every frame comes to one of these, with what is known of each: a property of all of them is one of any verdict.
-- Assumes nothing.
use mathlib.Core.Path.{◌≡◌, refl}
use mathlib.Core.Bool.{Bool, true, ◌&&◌, ◌||◌}
use mathlib.Core.List.{List, [], ◌∷◌}
use Prim.Native.Nat.{ℕ, ◌-◌, ◌≤◌}
use native.Mathlib.Omega.{arith}
use lib.Dec.{eqb, leb, ltb}
use lib.ListN.{length, get_or, take, drop}
use borrow.Author.Tests.{eqb-true, leb-true}
use Rattle.line.proofs.Runs.{and_left, and_right, chosen}
use Rattle.clock.specs.Seconds.{real_clock}
use Rattle.clock.specs.declared.Clock.{Clock}
use Rattle.text.specs.Classes.{same_text, is_printable}
use Rattle.line.specs.Checksum.{bcc_of}
use Rattle.line.specs.Quoted.{char, chars}
use Rattle.line.specs.Runs.{every}
use Rattle.text.specs.Decimal.{number_at}
use Rattle.text.specs.Layout.{fits, pattern}
use Rattle.frames.specs.Commands.{ask_clock, ask_serial, ask_account}
use Rattle.values.specs.Family.{is_eqm}
use Rattle.values.specs.Registers.{good_account, good_row, good_table}
use Rattle.values.specs.Reading.{ClockRead, TableRead, clock_read, clock_in, some_clock, no_clock, table_read, some_table, no_table}
use Rattle.values.specs.declared.TableNo.{TableNo}
use Rattle.values.specs.Texts.{clock_form, table_form}
use Rattle.replies.specs.Answers.{answerable}
use Rattle.replies.specs.declared.Ask.{Ask}
use Rattle.deciding.specs.Verdicts.{Verdict, Refuse, Leave, Enter, Password, Read, WriteClock, WriteAccount, WriteTable}
use Rattle.deciding.specs.Shape.{start_good, bare_shape, framed_shape, content}
use Rattle.deciding.specs.Asking.{asked, energy_named, energy_asked, table_asked}
use Rattle.deciding.specs.Telling.{enclosed, inner, told, clock_told, account_told, table_told}
use Rattle.deciding.specs.Verdict.{entry, bare_verdict, framed_verdict, shape_verdict, verdict}
use Rattle.promises.specs.Writes.{write_start}
use Rattle.promises.proofs.Choices as choice

-- a clock that reads is real
pub clock-real : (s : List ℕ) → (clock_read s).ok ≡ true → real_clock (clock_read s).clock ≡ true
unfolding clock_read
clock-real s h =
    let f = chosen (λ (r : ClockRead). r.ok) (fits (pattern clock_form) s) (some_clock (clock_in s)) no_clock refl h in
    let k : (some_clock (clock_in s)).ok ≡ true = rw f at h in
    let r = chosen (λ (r : ClockRead). r.ok) (real_clock (clock_in s)) _ no_clock refl k in
    rw (f, r) r

-- a table that reads is one of those that there are
pub table-real : (tables : ℕ) (s : List ℕ) → (table_read tables s).ok ≡ true → good_table tables (table_read tables s).table.0 ≡ true
unfolding table_read
table-real tables s h =
    let some = some_table tables (number_at s 0 2) in
    let f = chosen (λ (r : TableRead). r.ok) (fits (pattern table_form) s) some no_table refl h in
    let k : some.ok ≡ true = rw f at h in
    let r = chosen (λ (r : TableRead). r.ok) (good_table tables (number_at s 0 2)) _ no_table refl k in
    rw (f, r) r

four : (h : List ℕ) → 5 ≤ length h → take 4 h ≡ get_or h 0 0 ∷ get_or h 1 0 ∷ get_or h 2 0 ∷ get_or h 3 0 ∷ []
four [] l = absurd (omega arith)
four (a ∷ []) l = absurd (omega arith)
four (a ∷ b ∷ []) l = absurd (omega arith)
four (a ∷ b ∷ c ∷ []) l = absurd (omega arith)
four (a ∷ b ∷ c ∷ d ∷ h) l = refl

-- a shaped frame whose command is W1 starts so
write-starts : (h : List ℕ) → framed_shape h ≡ true → (eqb (get_or h 1 0) 87 && eqb (get_or h 2 0) 49) ≡ true → take 4 h ≡ write_start
unfolding framed_shape start_good
write-starts h f w =
    let soh = eqb (get_or h 0 0) 1 in
    let words = is_printable (get_or h 1 0) && is_printable (get_or h 2 0) in
    let long = leb 5 (length h) in
    let stx = eqb (get_or h 3 0) 2 in
    let etx = eqb (get_or h (length h - 1) 0) 3 in
    let all = and_left ((soh && words) && ((long && stx) && etx)) (every is_printable (content h)) f in
    let start = and_left soh words (and_left (soh && words) ((long && stx) && etx) all) in
    let opens = and_left (long && stx) etx (and_right (soh && words) ((long && stx) && etx) all) in
    let is0 = eqb-true (get_or h 0 0) 1 start in
    let is1 = eqb-true (get_or h 1 0) 87 (and_left (eqb (get_or h 1 0) 87) (eqb (get_or h 2 0) 49) w) in
    let is2 = eqb-true (get_or h 2 0) 49 (and_right (eqb (get_or h 1 0) 87) (eqb (get_or h 2 0) 49) w) in
    let is3 = eqb-true (get_or h 3 0) 2 (and_right long stx opens) in
    rw (four h (leb-true 5 (length h) (and_left long stx opens)), is0, is1, is2, is3)

-- what is known of a write that was told
pub record Told (tables : ℕ) (d : List ℕ) (P : Verdict → Type 0) : Type 0 where
  pub clock : (c : Clock) → c ≡ (clock_read (inner d)).clock → real_clock c ≡ true → P (WriteClock c)
  pub account : good_account (inner d) ≡ true → P WriteAccount
  pub table : (t : TableNo) → t ≡ (table_read tables (take 2 (inner d))).table → good_table tables t.0 ≡ true → good_row (drop 3 (inner d)) ≡ true → P (WriteTable t)
  pub wrong : P (Refuse 9)

pub told-all : (P : Verdict → Type 0) (tables : ℕ) (d : List ℕ) → Told tables d P → P (told tables d)
unfolding told clock_told account_told table_told
told-all P tables d k =
    choice.either P (enclosed 84 d)
    (choice.given P (clock_read (inner d)).ok (λ h. k.clock (clock_read (inner d)).clock refl (clock-real (inner d) h)) k.wrong)
    (choice.either P (enclosed 75 d)
    (choice.given P (good_account (inner d)) k.account k.wrong)
    (choice.either P (enclosed 90 d)
    (choice.given P (eqb (get_or (inner d) 2 0) 59 && good_row (drop 3 (inner d)))
    (λ g. choice.given P (table_read tables (take 2 (inner d))).ok
    (λ h. k.table (table_read tables (take 2 (inner d))).table refl (table-real tables (take 2 (inner d)) h) (and_right (eqb (get_or (inner d) 2 0) 59) (good_row (drop 3 (inner d))) g))
    k.wrong)
    k.wrong)
    k.wrong))

pub asked-all : (P : Verdict → Type 0) (tables family : ℕ) (d : List ℕ) → ((a : Ask) → answerable tables a ≡ true → P (Read a)) → P (Refuse 9) → P (asked tables family d)
unfolding asked energy_asked table_asked answerable
asked-all P tables family d read wrong =
    choice.either P (same_text d ask_clock) (read _ refl)
    (choice.either P (same_text d ask_serial) (read _ refl)
    (choice.either P (same_text d ask_account) (read _ refl)
    (choice.either P (ltb (energy_named (char "E") d) 5) (read _ refl)
    (choice.either P (is_eqm family && ltb (energy_named (char "G") d) 5) (read _ refl)
    (choice.either P (fits (90 ∷ 40 ∷ 35 ∷ 35 ∷ 41 ∷ []) d)
    (choice.given P (table_read tables (take 2 (drop 2 d))).ok (λ h. read _ (table-real tables (take 2 (drop 2 d)) h)) wrong)
    wrong)))))

-- the numbers with which a frame is refused here; 3 only where it is marked
pub data FrameNumber (mark : Bool) : ℕ → Type 0 where
  parity : mark ≡ true → FrameNumber mark 3
  checksum : FrameNumber mark 4
  shape : FrameNumber mark 6
  unknown : FrameNumber mark 7
  not-allowed : FrameNumber mark 8
  content-wrong : FrameNumber mark 9

-- none of them is 0
pub never-zero : (mark : Bool) (n : ℕ) → FrameNumber mark n → n ≡ 0 → ⊥
never-zero mark n (parity m) e = omega arith
never-zero mark n checksum e = omega arith
never-zero mark n shape e = omega arith
never-zero mark n unknown e = omega arith
never-zero mark n not-allowed e = omega arith
never-zero mark n content-wrong e = omega arith

-- what is known of each verdict on a frame
pub record Known (tables mode : ℕ) (h : List ℕ) (mark : Bool) (P : Verdict → Type 0) : Type 0 where
  pub refuse : (n : ℕ) → FrameNumber mark n → P (Refuse n)
  pub leave : P Leave
  pub enter : mode ≡ 2 → P Enter
  pub password : mode ≡ 2 → fits (chars "(########)") (content h) ≡ true → P Password
  pub read : (a : Ask) → answerable tables a ≡ true → P (Read a)
  pub write : mode ≡ 4 → take 4 h ≡ write_start → Told tables (content h) P

pub verdict-all : (P : Verdict → Type 0) (tables family mode : ℕ) (h : List ℕ) (mark : Bool) (sum : ℕ) → Known tables mode h mark P → P (verdict tables family mode h mark sum)
unfolding verdict shape_verdict bare_verdict framed_verdict entry
verdict-all P tables family mode h mark sum k =
    let a = get_or h 1 0 in
    let b = get_or h 2 0 in
    let no8 = k.refuse 8 not-allowed in
    choice.given P mark (λ e. k.refuse 3 (parity e))
    (choice.either P (eqb sum (bcc_of (drop 1 h)))
    (choice.either P (bare_shape h)
    (choice.either P (eqb a 66 && eqb b 48) (choice.either P (leb 2 mode && leb mode 4) k.leave no8) (k.refuse 7 unknown))
    (choice.given P (framed_shape h)
    (λ f. choice.either P (eqb a 80 && eqb b 49)
    (choice.given P (eqb mode 2)
    (λ e. choice.either P (same_text (content h) (chars "()")) (k.enter (eqb-true mode 2 e))
    (choice.given P (fits (chars "(########)") (content h)) (k.password (eqb-true mode 2 e)) (k.refuse 9 content-wrong)))
    no8)
    (choice.either P (eqb a 82 && eqb b 49)
    (choice.either P (eqb mode 3 || eqb mode 4) (asked-all P tables family (content h) k.read (k.refuse 9 content-wrong)) no8)
    (choice.given P (eqb a 87 && eqb b 49)
    (λ w. choice.given P (eqb mode 4) (λ e. told-all P tables (content h) (k.write (eqb-true mode 4 e) (write-starts h f w))) no8)
    (k.refuse 7 unknown))))
    (k.refuse 6 shape)))
    (k.refuse 4 checksum))

-- a meter answers only what it has
sound : ℕ → Verdict → Bool
sound tables (Refuse n) = true
sound tables Leave = true
sound tables Enter = true
sound tables Password = true
sound tables (Read a) = answerable tables a
sound tables (WriteClock c) = true
sound tables WriteAccount = true
sound tables (WriteTable t) = true

pub read-answerable : (tables family mode : ℕ) (h : List ℕ) (mark : Bool) (sum : ℕ) (a : Ask) → verdict tables family mode h mark sum ≡ Read a → answerable tables a ≡ true
unfolding sound
read-answerable tables family mode h mark sum a e =
    let all =
    verdict-all (λ (v : Verdict). sound tables v ≡ true) tables family mode h mark sum
    (record {
      refuse = λ n k. refl;
      leave = refl;
      enter = λ k. refl;
      password = λ k w. refl;
      read = λ b k. k;
      write = λ k w. record { clock = λ c i r. refl; account = λ r. refl; table = λ t i g r. refl; wrong = refl };
    })
    in
    (rw e at all)
