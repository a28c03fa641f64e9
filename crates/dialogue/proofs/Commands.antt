-- Each command, with good fields and in a mode that allows it: the meter decides it as the command that it is, and does it. Assumes nothing.
use mathlib.Core.Path.{◌≡◌, refl, ap, ◌∙◌}
use mathlib.Core.Bool.{Bool, true, false, cond, ◌||◌}
use mathlib.Core.Logic.{⊎_elim}
use mathlib.Core.List.{List, [], ◌∷◌, ◌++◌, append_assoc}
use Prim.Native.Nat.{ℕ, suc, ◌+◌, ◌-◌, ◌*◌, ◌≤◌, ◌<◌}
use native.Mathlib.Omega.{arith}
use borrow.Author.Tests.{eqb-true, le-leb}
use lib.Dec.{eqb, lit≤, lit<}
use lib.ListN.{length, take, drop, replicate, length-append}
use lib.Seq.{take_at}
use Rattle.line.specs.Checksum.{bcc_of}
use Rattle.line.specs.Runs.{every}
use Rattle.line.proofs.Runs.{and_left, and_right, and_both, every_append, every-weaker}
use Rattle.text.specs.Classes.{between, is_printable, matching, same_text}
use Rattle.text.specs.Writing.{stored}
use Rattle.text.specs.Decimal.{decimal}
use Rattle.text.specs.Layout.{layout_text}
use Rattle.values.specs.Edition.{row_length}
use Rattle.values.specs.Family.{is_eqm}
use Rattle.values.proofs.Editions.{tables-most}
use Rattle.values.specs.Registers.{good_password, good_account, good_row, good_table, good_zone}
use Rattle.values.specs.Texts.{table_text}
use Rattle.values.proofs.Rules.{digits_long, account-long, row-long, zone-most}
use Rattle.frames.specs.Frames.{frame_of, on_wire}
use Rattle.frames.specs.Commands.{P1, R1, bracketed, ask_export, set_account, set_table}
use Rattle.frames.specs.Session.{password_data}
use Rattle.state.specs.declared.Registers.{Registers}
use Rattle.state.specs.WellFormed.{tables_in, family_in}
use Rattle.state.specs.Setting.{with_account, with_tables, with_row}
use Rattle.deciding.specs.Verdicts.{Refuse}
use Rattle.deciding.specs.Verdict.{framed_verdict, entry, verdict}
use Rattle.deciding.specs.Asking.{asked}
use Rattle.deciding.specs.Telling.{told}
use Rattle.meter.specs.Outcomes.{ack, nak}
use Rattle.meter.specs.Acting.{acted, tried}
use Rattle.reading.proofs.Leading.{or_cases}
use Rattle.commands.specs.Spoken.{Command, enter, password, read_clock, read_serial, read_account, read_total, read_zone, read_total_out, read_zone_out, read_table, write_clock, write_account, write_table, good_fields, letters_of, data_of, spoken}
use Rattle.readback.proofs.Commands.{command-printable, letters-two, letters-printable, data-short}
use Rattle.dialogue.specs.Feeding.{said_in, at_last}
use Rattle.dialogue.specs.Messages.{allowed_at, decided_as, tried_with, obeyed}
use Rattle.dialogue.proofs.Feeding.{Fed}
use Rattle.dialogue.proofs.Held.{Fit, idle, holding}
use Rattle.dialogue.proofs.Rules.{besides, in_frame, printable-besides}
use Rattle.dialogue.proofs.Frames.{held_frame, verdict-is, frame-fed}
use Rattle.dialogue.proofs.Meant.{entry-plain, entry-password, asked-clock, asked-serial, asked-account, asked-total, zone-least, asked-zone, asked-total-out, asked-zone-out, asked-out-none, asked-table, told-clock, told-account, told-table, told-other}

-- a frame in a mode that allows it goes by its data
module _ (tables family mode : ℕ) (d : List ℕ) (printable : every is_printable d ≡ true) where
  by-entry : eqb mode 2 ≡ true → verdict tables family mode (held_frame 80 49 d) false (bcc_of (80 ∷ 49 ∷ 2 ∷ (d ++ (3 ∷ [])))) ≡ entry d
  unfolding framed_verdict is_printable between
  by-entry h = verdict-is 80 49 d refl refl printable tables family mode ∙ (rw h)

  by-asked : (eqb mode 3 || eqb mode 4) ≡ true → verdict tables family mode (held_frame 82 49 d) false (bcc_of (82 ∷ 49 ∷ 2 ∷ (d ++ (3 ∷ [])))) ≡ asked tables family d
  unfolding framed_verdict is_printable between
  by-asked h = verdict-is 82 49 d refl refl printable tables family mode ∙ (rw h)

  by-told : eqb mode 4 ≡ true → verdict tables family mode (held_frame 87 49 d) false (bcc_of (87 ∷ 49 ∷ 2 ∷ (d ++ (3 ∷ [])))) ≡ told tables d
  unfolding framed_verdict is_printable between
  by-told h = verdict-is 87 49 d refl refl printable tables family mode ∙ (rw h)

-- the letters, STX and the data
abbrev pub body_of : Command → List ℕ
body_of c = letters_of c ++ (2 ∷ data_of c)

-- the command that the head says is the command that the meter decides
module _ (tables family mode : ℕ) (few : tables < 100) where
  pub command-decided : (c : Command) → good_fields tables family c ≡ true → allowed_at c mode ≡ true
      → verdict tables family mode (1 ∷ (body_of c ++ (3 ∷ []))) false (bcc_of (body_of c ++ (3 ∷ []))) ≡ decided_as c
  unfolding decided_as letters_of data_of allowed_at good_fields same_text matching
  command-decided enter h k = by-entry tables family mode (data_of enter) (command-printable tables family enter h) k ∙ entry-plain
  command-decided (password p) h k = by-entry tables family mode (data_of (password p)) (command-printable tables family (password p) h) k ∙ entry-password p h
  command-decided read_clock h k = by-asked tables family mode (data_of read_clock) (command-printable tables family read_clock h) k ∙ asked-clock tables family
  command-decided read_serial h k = by-asked tables family mode (data_of read_serial) (command-printable tables family read_serial h) k ∙ asked-serial tables family
  command-decided read_account h k = by-asked tables family mode (data_of read_account) (command-printable tables family read_account h) k ∙ asked-account tables family
  command-decided read_total h k = by-asked tables family mode (data_of read_total) (command-printable tables family read_total h) k ∙ asked-total tables family
  command-decided (read_zone n) h k =
      by-asked tables family mode (data_of (read_zone n)) (command-printable tables family (read_zone n) h) k ∙ asked-zone tables family n (zone-least n h) (zone-most n h)
  command-decided read_total_out h k = by-asked tables family mode (data_of read_total_out) (command-printable tables family read_total_out h) k ∙ asked-total-out tables family h
  command-decided (read_zone_out n) h k =
      let zone = and_right (is_eqm family) (good_zone n) h in
      by-asked tables family mode (data_of (read_zone_out n)) (command-printable tables family (read_zone_out n) h) k
      ∙ asked-zone-out tables family n (and_left (is_eqm family) (good_zone n) h) (zone-least n zone) (zone-most n zone)
  command-decided (read_table n) h k = by-asked tables family mode (data_of (read_table n)) (command-printable tables family (read_table n) h) k ∙ asked-table tables family n few h
  command-decided (write_clock c) h k = by-told tables family mode (data_of (write_clock c)) (command-printable tables family (write_clock c) h) k ∙ told-clock tables c h
  command-decided (write_account a) h k = by-told tables family mode (data_of (write_account a)) (command-printable tables family (write_account a) h) k ∙ told-account tables a h
  command-decided (write_table n row) h k =
      by-told tables family mode (data_of (write_table n row)) (command-printable tables family (write_table n row) h) k
      ∙ told-table tables n row few (and_left (good_table tables n) (good_row row) h) (and_right (good_table tables n) (good_row row) h)

-- what stood in the brackets, as the meter takes it from what it holds
given : (x : List ℕ) (n : ℕ) (zs : List ℕ) → length x ≡ n → take n (((x ++ (41 ∷ [])) ++ (3 ∷ [])) ++ zs) ≡ x
given x n zs long =
    ap (take n) (append_assoc (x ++ (41 ∷ [])) (3 ∷ []) zs ∙ append_assoc x (41 ∷ []) (3 ∷ zs)) ∙ take_at x (41 ∷ 3 ∷ zs) n long

abbrev spare : List ℕ → List ℕ
spare body = replicate (63 - length (body ++ (3 ∷ []))) 0

password-given : (p zs : List ℕ) → good_password p ≡ true → take 8 (drop 5 (1 ∷ ((body_of (password p) ++ (3 ∷ [])) ++ zs))) ≡ p
unfolding letters_of data_of password_data bracketed
password-given p zs h = given p 8 zs (digits_long 8 p h)

account-given : (a zs : List ℕ) → good_account a ≡ true → take 10 (drop 6 (1 ∷ ((body_of (write_account a) ++ (3 ∷ [])) ++ zs))) ≡ a
unfolding letters_of data_of set_account bracketed
account-given a zs h = given a 10 zs (account-long a h)

row-given : (n : ℕ) (row zs : List ℕ) → good_row row ≡ true → take row_length (drop 9 (1 ∷ ((body_of (write_table n row) ++ (3 ∷ [])) ++ zs))) ≡ row
unfolding letters_of data_of set_table bracketed table_text layout_text decimal
row-given n row zs h = given row row_length zs (row-long row h)

module _ (mode a s : ℕ) (g : Registers) where
  -- and it does what the command says
  pub command-done : (c : Command) → good_fields (tables_in g) (family_in g) c ≡ true → acted (holding mode a s g 1 (body_of c ++ (3 ∷ []))) (decided_as c) ≡ obeyed (idle mode a s g) c
  unfolding acted decided_as obeyed good_fields
  command-done enter h = refl
  command-done (password p) h =
      unfold tried tried_with in
      ap (λ (x : List ℕ). cond (eqb a 3) (nak 11 (idle mode a s g)) (cond (same_text x g.facts.password) (ack s (idle 4 0 s g)) (nak 10 (idle mode (a + 1) s g))))
      (password-given p (spare (body_of (password p))) h)
  command-done read_clock h = refl
  command-done read_serial h = refl
  command-done read_account h = refl
  command-done read_total h = refl
  command-done (read_zone n) h = refl
  command-done read_total_out h = refl
  command-done (read_zone_out n) h = refl
  command-done (read_table n) h = refl
  command-done (write_clock c) h = refl
  command-done (write_account x) h = ap (λ (x : List ℕ). ack s (idle mode a s (with_account g x))) (account-given x (spare (body_of (write_account x))) h)
  command-done (write_table n row) h =
      rw (and_left (good_table (tables_in g) n) (good_row row) h)
      (ap (λ (x : List ℕ). ack s (idle mode a s (with_tables g (with_row g.tables n x))))
      (row-given n row (spare (body_of (write_table n row))) (and_right (good_table (tables_in g) n) (good_row row) h)))

-- a command is allowed in no mode below 2
pub allowed-low : (c : Command) (mode : ℕ) → allowed_at c mode ≡ true → 2 ≤ mode
unfolding allowed_at
allowed-low c mode = pick (same_text (letters_of c) P1) (same_text (letters_of c) R1)
  where
    is : (n : ℕ) → 2 ≤ n → eqb mode n ≡ true → 2 ≤ mode
    is n l e = let same : mode ≡ n = eqb-true mode n e in omega arith

    pick : (p r : Bool) → cond p (eqb mode 2) (cond r (eqb mode 3 || eqb mode 4) (eqb mode 4)) ≡ true → 2 ≤ mode
    pick true r h = is 2 (lit≤ tt) h
    pick false true h = ⊎_elim (is 3 (lit≤ tt)) (is 4 (lit≤ tt)) (or_cases (eqb mode 3) (eqb mode 4) h)
    pick false false h = is 4 (lit≤ tt) h

-- its characters are held for themselves
body-plain : (tables family : ℕ) (c : Command) → good_fields tables family c ≡ true → every in_frame (body_of c) ≡ true
unfolding every
body-plain tables family c h =
    every_append in_frame (letters_of c) (2 ∷ data_of c) (every-weaker is_printable in_frame prints (letters_of c) (letters-printable c))
    (and_both (in_frame 2) (every in_frame (data_of c)) (unfold besides in refl) (every-weaker is_printable in_frame prints (data_of c) (command-printable tables family c h)))
  where
    prints : (x : ℕ) → is_printable x ≡ true → in_frame x ≡ true
    prints x = printable-besides 1 1 x (lit< tt) (lit< tt)

pub body-long : (c : Command) → length (body_of c) ≡ length (data_of c) + 3
body-long c = omega (arith, letters-two c, length-append (letters_of c) (2 ∷ data_of c))

-- given byte by byte, it is taken at its last byte
pub command-fed : (mode a s : ℕ) (g : Registers) (c : Command) → Fit mode a s g → good_fields (tables_in g) (family_in g) c ≡ true → allowed_at c mode ≡ true
    → Fed (idle mode a s g) (on_wire (spoken c)) (at_last (suc (suc (length (body_of c)))) s (said_in (obeyed (idle mode a s g) c))) (obeyed (idle mode a s g) c).next
unfolding spoken frame_of
command-fed mode a s g c fit h k =
    let few : tables_in g < 100 = omega (arith, tables-most g.facts.edition) in
    let d = command-decided (tables_in g) (family_in g) mode few c h k in
    frame-fed mode a s g fit (allowed-low c mode k) (body_of c) (body-plain (tables_in g) (family_in g) c h) (omega (arith, body-long c, data-short (tables_in g) (family_in g) c h)) (obeyed (idle mode a s g) c)
    (ap (acted (holding mode a s g 1 (body_of c ++ (3 ∷ [])))) d ∙ command-done mode a s g c h)

-- [3]: a write of a table that the meter has not is refused with 9, and nothing else comes of it
pub other-fed : (a s : ℕ) (g : Registers) (n : ℕ) (row : List ℕ) → Fit 4 a s g → 1 ≤ n → n < 100 → good_table (tables_in g) n ≡ false → good_row row ≡ true
    → Fed (idle 4 a s g) (on_wire (spoken (write_table n row))) (at_last (suc (suc (length (body_of (write_table n row))))) s (said_in (nak 9 (idle 4 a s g)))) (nak 9 (idle 4 a s g)).next
unfolding spoken frame_of acted good_fields good_table between letters_of data_of set_table
other-fed a s g n row fit low small none good =
    let c = write_table n row in
    let fields : good_fields 99 0 c ≡ true = rw (le-leb 1 n low, le-leb n 99 (omega arith)) good in
    let d = by-told (tables_in g) (family_in g) 4 (data_of c) (command-printable 99 0 c fields) refl ∙ told-other (tables_in g) n row low small none good in
    frame-fed 4 a s g fit (lit≤ tt) (body_of c) (body-plain 99 0 c fields) (omega (arith, body-long c, data-short 99 0 c fields)) (nak 9 (idle 4 a s g))
    (ap (acted (holding 4 a s g 1 (body_of c ++ (3 ∷ [])))) d)

-- [10]: what went out is not told by a meter of document 01's family: 9, and nothing else comes of it
low_reads : (mode : ℕ) → (eqb mode 3 || eqb mode 4) ≡ true → 2 ≤ mode
low_reads mode h =
    ⊎_elim (λ (e : eqb mode 3 ≡ true). omega (arith, eqb-true mode 3 e)) (λ (e : eqb mode 4 ≡ true). omega (arith, eqb-true mode 4 e)) (or_cases (eqb mode 3) (eqb mode 4) h)

module _ (mode a s : ℕ) (g : Registers) (fit : Fit mode a s g) (reads : (eqb mode 3 || eqb mode 4) ≡ true) (old : family_in g ≡ 0) where
  abbrev Untold : Command → Type 0
  Untold c =
      Fed (idle mode a s g) (on_wire (spoken c)) (at_last (suc (suc (length (body_of c)))) s (said_in (nak 9 (idle mode a s g)))) (nak 9 (idle mode a s g)).next

  untold : (n : ℕ) (c : Command) → letters_of c ≡ R1 → data_of c ≡ ask_export n → n ≤ 4 → good_fields 1 2 c ≡ true → Untold c
  unfolding spoken frame_of acted
  untold n c letters asks few fields =
      let d : verdict (tables_in g) (family_in g) mode (1 ∷ (body_of c ++ (3 ∷ []))) false (bcc_of (body_of c ++ (3 ∷ []))) ≡ Refuse 9 =
      rw (letters, asks, old) (by-asked (tables_in g) 0 mode (ask_export n) (rw asks at (command-printable 1 2 c fields)) reads ∙ asked-out-none (tables_in g) n few) in
      frame-fed mode a s g fit (low_reads mode reads) (body_of c) (body-plain 1 2 c fields) (omega (arith, body-long c, data-short 1 2 c fields)) (nak 9 (idle mode a s g))
      (ap (acted (holding mode a s g 1 (body_of c ++ (3 ∷ [])))) d)

  pub total-untold : Untold read_total_out
  unfolding letters_of data_of good_fields is_eqm
  total-untold = untold 0 read_total_out refl refl (omega arith) refl

  pub zone-untold : (n : ℕ) → good_zone n ≡ true → Untold (read_zone_out n)
  unfolding letters_of data_of good_fields is_eqm
  zone-untold n h = untold n (read_zone_out n) refl refl (zone-most n h) h
