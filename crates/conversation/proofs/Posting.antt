-- A post that goes well: each line is a table write that the meter acknowledges, and the tables hold the posted rows. Assumes nothing.
use mathlib.Core.Path.{◌≡◌, refl, sym, ap, ap₂, subst, ◌∙◌}
use mathlib.Core.Bool.{true, false}
use mathlib.Core.List.{List, [], ◌∷◌}
use Prim.Native.Nat.{ℕ, zero, suc, ◌+◌, ◌*◌, ◌≤◌, ◌<◌}
use native.Mathlib.Omega.{arith}
use borrow.Author.Tests.{leb-true}
use lib.Dec.{leb, lit≤, lit<}
use lib.ListN.{length, get_or, take, drop}
use lib.Seq.{take_at, drop_at, drop-append-add, take-length}
use Rattle.values.proofs.Editions.{tables-most}
use Rattle.state.proofs.Rows.{row-good}
use Rattle.values.specs.Edition.{tables_of}
use Rattle.line.specs.Quoted.{chars}
use Rattle.line.proofs.Runs.{and_left, and_right, and_both}
use Rattle.text.specs.Classes.{between, matching, same_text}
use Rattle.text.specs.Decimal.{decimal}
use Rattle.text.specs.Layout.{layout_text}
use Rattle.values.specs.Registers.{good_row, good_table}
use Rattle.values.specs.Texts.{table_text}
use Rattle.values.proofs.RoundTrip.{table-reads-back}
use Rattle.state.specs.Sizes.{row_length, table_places}
use Rattle.state.specs.declared.Registers.{Registers}
use Rattle.state.specs.declared.Meter.{Meter}
use Rattle.state.specs.WellFormed.{tables_good, registers_good, tables_in}
use Rattle.state.specs.Link.{is_wired}
use Rattle.state.specs.Setting.{row_start, with_row, with_tables, with_attempts}
use Rattle.state.proofs.Parts.{formed, formed-registers, registers-good, long, fast-good}
use Rattle.replies.specs.Shown.{row_of}
use Rattle.commands.specs.Spoken.{write_table, good_fields, letters_of}
use Rattle.commands.specs.Messages.{command, good_message}
use Rattle.post.specs.Grammar.{Entry, line_text, post_text, good_entry, rising}
use Rattle.post.proofs.Lines.{line-columns, length-line, row-length, row-zones}
use Rattle.post.proofs.Reading.{post-cons, good-rising, rising-rest, rising-row}
use Rattle.judging.specs.Right.{accepts}
use Rattle.session.specs.declared.Session.{Session}
use Rattle.session.specs.Messages.{whole_line, row_in, row_at, work_at}
use Rattle.session.specs.Starting.{Told, Opening, Opens, session_of}
use Rattle.session.specs.Turns.{right_work}
use Rattle.dialogue.specs.Messages.{allowed_at, allowed_in, obeyed, outcome_of}
use Rattle.dialogue.proofs.Held.{Fit, resting, idle}
use Rattle.dialogue.proofs.Dialogue.{idle-listens}
use Rattle.delivery.specs.Acknowledged.{rows_after, delivered_to}
use Rattle.delivery.proofs.Rows.{others-kept, named-held}
use Rattle.conversation.specs.Conversation.{Talk}
use Rattle.conversation.specs.Ends.{Waits, Calls, Enters, plainly, by-password, Roomy, talk_of, Stops, PostDone, ForMeter}
use Rattle.conversation.proofs.Exchange.{Right, acknowledged}
use Rattle.conversation.proofs.Course.{EntersAs, renamed, stage, Goes, at-working}
use Rattle.conversation.proofs.Started.{sound, PostBegan, post-began}
use Rattle.conversation.proofs.Done.{waits-is, ours, knows, stands_at, all_done}

-- ---- the lines of a post

abbrev none : Entry
none = record { number = 0; row = [] }

abbrev nth : List Entry → ℕ → Entry
nth es i = get_or es i none

entry-good : (tables above : ℕ) (es : List Entry) → rising tables above es ≡ true → (i : ℕ) → i < length es → good_entry tables (nth es i) ≡ true
unfolding rising
entry-good tables above [] h i l = absurd (omega arith)
entry-good tables above (e ∷ es) h zero l = and_left (good_entry tables e) _ h
entry-good tables above (e ∷ es) h (suc i) l = entry-good tables e.number es (rising-rest tables above e es h) i (omega arith)

line-there : (tables above : ℕ) (es : List Entry) → rising tables above es ≡ true → (i : ℕ) → i < length es
    → take 36 (drop (i * 36) (post_text es)) ≡ line_text (nth es i).number (nth es i).row
line-there tables above [] h i l = absurd (omega arith)
line-there tables above (e ∷ es) h zero l =
    let first = line_text e.number e.row in
    ap (take 36) (post-cons e es) ∙ take_at first (post_text es) 36 (length-line e.number e.row (rising-row tables above e es h))
line-there tables above (e ∷ es) h (suc i) l =
    let first = line_text e.number e.row in
    let n = length-line e.number e.row (rising-row tables above e es h) in
    ap₂ (λ (k : ℕ) (s : List ℕ). take 36 (drop k s)) {x = suc i * 36} {y = length first + i * 36} (omega arith) (post-cons e es)
    ∙ ap (take 36) (drop-append-add first (post_text es) (i * 36))
    ∙ line-there tables e.number es (rising-rest tables above e es h) i (omega arith)

-- a line is its number and its row as a table write
module _ (tables n : ℕ) (row : List ℕ) (few : tables < 100) (good-n : good_table tables n ≡ true) (good : good_row row ≡ true) where
  opens-so : take 6 (line_text n row) ≡ chars "131.0."
  unfolding line_text table_text layout_text decimal
  opens-so = refl

  bracket-there : get_or (line_text n row) 8 0 ≡ 40
  bracket-there = rw (line-columns n row)

  number-there : take 2 (drop 6 (line_text n row)) ≡ table_text n
  unfolding line_text table_text layout_text decimal
  number-there = refl

  row-there : take row_length (drop 9 (line_text n row)) ≡ row
  row-there = rw (line-columns n row) (take_at row (chars ")\r\n") 24 (row-length row good))

  closes-so : drop 33 (line_text n row) ≡ chars ")\r\n"
  closes-so = rw (line-columns n row) (drop_at row (chars ")\r\n") 24 (row-length row good))

  whole-line : whole_line (line_text n row) ≡ true
  unfolding whole_line same_text matching
  whole-line = rw (opens-so, bracket-there, closes-so)

  line-written : row_in tables (line_text n row) ≡ write_table n row
  unfolding row_in
  line-written = rw (whole-line, number-there, row-there, table-reads-back tables n few good-n)

-- ---- the tables after some of the lines

after_next : (rows : List ℕ) (es : List Entry) (i : ℕ) → i < length es
    → rows_after rows (take (suc i) es) ≡ with_row (rows_after rows (take i es)) (nth es i).number (nth es i).row
unfolding rows_after
after_next rows [] i h = absurd (omega arith)
after_next rows (e ∷ es) zero h = refl
after_next rows (e ∷ es) (suc i) h = after_next (with_row rows e.number e.row) es i (omega arith)

after-good : (tables : ℕ) (rows : List ℕ) (above : ℕ) (es : List Entry) (i : ℕ) → rising tables above es ≡ true → tables_good tables rows ≡ true → tables_good tables (rows_after rows (take i es)) ≡ true
unfolding rows_after
after-good tables rows above es zero h good = good
after-good tables rows above [] (suc i) h good = good
after-good tables rows above (e ∷ es) (suc i) h good =
    after-good tables (with_row rows e.number e.row) e.number es i (rising-rest tables above e es h)
    (row-good tables rows e.number e.row good
    (unfold rising good_entry in (and_left (good_table tables e.number) (good_row e.row) (and_left (good_entry tables e) _ h))) (rising-row tables above e es h))

-- ---- one line

module _ (s : Session) (work : List ℕ) (i b : ℕ) (g : Registers) (fit : Fit 4 b 5 g) (n : ℕ) (row : List ℕ) (good-n : good_table (tables_in g) n ≡ true) (good : good_row row ≡ true) where
  right-write : Right (command (write_table n row)) (idle 4 b 5 g) (idle 4 b 5 (with_tables g (with_row g.tables n row))) accepts
  unfolding good_message good_fields allowed_in allowed_at letters_of same_text matching outcome_of obeyed
  right-write =
      acknowledged (command (write_table n row)) (idle 4 b 5 g) (idle 4 b 5 (with_tables g (with_row g.tables n row))) 5
      (and_both (good_table (tables_in g) n) (good_row row) good-n good) (idle-listens 4 b 5 g (command (write_table n row)) fit refl) refl

-- ---- all lines

work-is-row : (t : Told) (count : ℕ) (work : List ℕ) (i : ℕ) → t.kind ≡ 1 → work_at (session_of t count) work i ≡ row_at (tables_of t.edition) work i
unfolding work_at session_of
work-is-row t count work i kind = rw kind

judged-so : (t : Told) (count : ℕ) (work : List ℕ) (i : ℕ) → t.kind ≡ 1 → (reply : List ℕ) → right_work (session_of t count) work i reply ≡ accepts reply
unfolding right_work session_of
judged-so t count work i kind reply = rw kind

module _ (t : Told) (work : List ℕ) (o : Opening) (p : PostBegan t work o) (kind : t.kind ≡ 1) (a : ℕ) (g : Registers) (same : (t.edition ≡ g.facts.edition) × (t.decimals ≡ g.facts.decimals)) (few : a ≤ 3) (good : registers_good g ≡ true) (optical : is_wired g.facts.link ≡ false)
    (calls : Calls t (idle 0 a (resting g) g)) (enters : EntersAs (session_of t (length p.is-post.entries)) a g 4 0) where
  abbrev es : List Entry
  es = p.is-post.entries

  abbrev s : Session
  s = session_of t (length es)

  abbrev m : Meter
  m = idle 0 a (resting g) g

  rise : rising (tables_in g) 0 es ≡ true
  rise = ap (λ (e : ℕ). rising (tables_of e) 0 es) (sym same.0) ∙ good-rising (tables_of t.edition) es p.is-post.good

  -- the registers after some of the lines
  abbrev with-lines : ℕ → Registers
  with-lines i = with_tables g (rows_after g.tables (take i es))

  with-good : (i : ℕ) → registers_good (with-lines i) ≡ true
  with-good i =
      let f = formed-registers g good in
      registers-good (with-lines i)
      (record { facts = f.facts; account = f.account; clock = f.clock; counters = f.counters; exported = f.exported; tables = after-good (tables_in g) g.tables 0 es i rise f.tables; archive = f.archive })

  fit-with : (i : ℕ) → Fit 4 0 5 (with-lines i)
  fit-with i = record { known = lit≤ tt; attempts = lit≤ tt; speed = fast-good g.facts.link 4 (lit≤ tt); registers = with-good i }

  is-write : (i : ℕ) → i < length es → work_at s work i ≡ write_table (nth es i).number (nth es i).row
  unfolding row_at
  is-write i h =
      let e = nth es i in
      let k = entry-good (tables_in g) 0 es rise i h in
      work-is-row t (length es) work i kind
      ∙ ap (λ (e : ℕ). row_in (tables_of e) (take 36 (drop (i * 36) work))) same.0
      ∙ ap (λ (w : List ℕ). row_in (tables_in g) (take 36 (drop (i * 36) w))) (sym p.is-post.spelt)
      ∙ ap (row_in (tables_in g)) (line-there (tables_in g) 0 es rise i h)
      ∙ (unfold good_entry in (line-written (tables_in g) e.number e.row (omega (arith, tables-most g.facts.edition)) (and_left (good_table (tables_in g) e.number) (good_row e.row) k) (and_right (good_table (tables_in g) e.number) (good_row e.row) k)))

  same-meter : (s.edition ≡ g.facts.edition) × (s.decimals ≡ g.facts.decimals)
  unfolding session_of
  same-meter = same

  counted : s.count ≡ length es
  unfolding session_of
  counted = refl

  right-line : (i : ℕ) → i < length es → Right (command (work_at s work i)) (idle 4 0 5 (with-lines i)) (idle 4 0 5 (with-lines (suc i))) (right_work s work i)
  unfolding good_entry
  right-line i h =
      let e = nth es i in
      let k = entry-good (tables_in g) 0 es rise i h in
      let next : with-lines (suc i) ≡ with_tables g (with_row (rows_after g.tables (take i es)) e.number e.row) = ap (with_tables g) (after_next g.tables es i h) in
      rw next
      (renamed (command (write_table e.number e.row)) (command (work_at s work i)) _ _ (right_work s work i) accepts (ap command (is-write i h)) (judged-so t (length es) work i kind)
      (right-write s work i 0 (with-lines i) (fit-with i) e.number e.row (and_left (good_table (tables_in g) e.number) (good_row e.row) k)
      (and_right (good_table (tables_in g) e.number) (good_row e.row) k)))

  goes : Goes s work a 4 0 with-lines
  unfolding rows_after
  goes =
      record {
        sound = sound t (length es) o p.began;
        suits = λ i. same-meter;
        few = few;
        fewer = lit≤ tt;
        good = λ i h. with-good i;
        optical = λ i. optical;
        ours = ours t (length es) o p.began m optical calls;
        enters = enters;
        works = λ i h. right-line i (omega (arith, counted));
      }

  module _ (rooms : ℕ → ℕ → ℕ) (buffers : ℕ → ℕ) (roomy : Roomy rooms buffers) where
    post-stops : Stops t work o m rooms buffers (length es + 4) 1 (with_attempts (delivered_to m es) 0)
    unfolding rows_after
    post-stops =
        subst (λ (l : List Entry). Stops t work o m rooms buffers (length es + 4) 1 (idle 0 0 (resting g) (with_tables g (rows_after g.tables l)))) (take-length es)
        (all_done t work o (length es) p.began a 4 0 with-lines goes rooms buffers roomy)

    so_far : (i : ℕ) → i ≤ length es → (talk_of t work o m rooms buffers (i + 3)).meter.registers ≡ with-lines i
    unfolding rows_after
    so_far i h =
        ap (λ (x : Talk). x.meter.registers) (stands_at t work o (length es) p.began a 4 0 with-lines goes rooms buffers roomy (i + 3) (omega arith))
        ∙ ap (λ (k : ℕ). (stage s.count a 4 0 with-lines k).registers) {x = i + 3} {y = suc (suc (suc i))} (omega arith)
        ∙ ap (λ (x : Meter). x.registers) (at-working s work a 4 0 with-lines goes i (omega (arith, counted)))

    post-so : length g.tables ≡ table_places * row_length → PostDone t work o m rooms buffers
    unfolding good_table between
    post-so long =
        let stops = post-stops in
        let rows : (talk_of t work o m rooms buffers (length es + 4)).meter.registers.tables ≡ rows_after g.tables es = ap (λ (x : Meter). x.registers.tables) stops.meter in
        record {
          is-post = p.is-post;
          done = stops;
          so_far = so_far;
          named = λ e i. ap (λ (l : List ℕ). row_of l e.number) rows ∙ named-held (tables_in g) g.tables 0 es (tables-most g.facts.edition) rise long e i;
          others = λ n h other. ap (λ (l : List ℕ). row_of l n) rows ∙ others-kept (tables_in g) g.tables 0 es rise n (leb-true 1 n (and_left (leb 1 n) (leb n (tables_in g)) h)) other;
        }

-- any started post, with any meter that waits for it
pub post-done : (t : Told) (work : List ℕ) (room : ℕ) (o : Opening) → Opens t work room o → o.number ≡ 1 → t.kind ≡ 1
    → (m : Meter) → Waits m → ForMeter t m → Calls t m → Enters t m → (rooms : ℕ → ℕ → ℕ) (buffers : ℕ → ℕ) → Roomy rooms buffers → PostDone t work o m rooms buffers
post-done t work room o opens one kind m w same calls enters rooms buffers roomy =
    let f = formed m w.formed in
    let e = waits-is m w in
    let p = post-began t work room o opens one kind in
    subst (λ (x : Meter). PostDone t work o x rooms buffers) (sym e)
    (post-so t work o p kind m.attempts m.registers same f.attempts f.registers w.optical (subst (Calls t) e calls) (knowing-it p enters) rooms buffers roomy (long m w.formed).tables)
  where
    knowing-it : (p : PostBegan t work o) → Enters t m → EntersAs (session_of t (length p.is-post.entries)) m.attempts m.registers 4 0
    knowing-it p (plainly h) = absurd (omega (arith, h, p.access))
    knowing-it p (by-password h q l) = knows t (length p.is-post.entries) o p.began m h q l
