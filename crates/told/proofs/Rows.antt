-- Each table holds the last row that was told of it. Assumes nothing.
use mathlib.Core.Path.{◌≡◌, refl, ap, ◌∙◌}
use mathlib.Core.Bool.{Bool, true, false, cond, ◌&&◌}
use mathlib.Core.List.{List, [], ◌∷◌, ◌++◌}
use Prim.Native.Nat.{ℕ, zero, suc, ◌+◌, ◌-◌, ◌*◌, ◌≤◌}
use native.Mathlib.Omega.{arith}
use borrow.Author.Tests.{leb-true, eqb-true, eqb-false}
use lib.Dec.{eqb, leb}
use lib.ListN.{length, take, drop, replicate, length-append, length-replicate}
use lib.Seq.{take-append-le, drop-append-le}
use Rattle.line.proofs.Runs.{and_left, and_right, and_both}
use Rattle.text.specs.Classes.{between}
use Rattle.text.proofs.Writing.{length-stored}
use Rattle.values.specs.Edition.{tables_of}
use Rattle.values.specs.Registers.{good_table, good_row}
use Rattle.values.proofs.Rules.{row-long}
use Rattle.state.specs.declared.Facts.{Facts}
use Rattle.state.specs.Making.{new_rows}
use Rattle.replies.specs.Shown.{row_of}
use Rattle.meter.specs.declared.Event.{Event}
use Rattle.meter.specs.declared.Event.TheVariants.{Character, Silence, Tick, Pulse, PowerUp, PulseOut, Unknown}
use Rattle.promises.proofs.Choices as choice
use Rattle.delivery.proofs.Rows.{row_here as row_there, row_apart}
use Rattle.history.specs.Frames.{Write, clock, account, row, good_write, tells, data_in, is_frame, clock_here, account_here, row_here, write_of, write_in}
use Rattle.history.specs.Standing.{standing, is_whole, frame_by, closes_period}
use Rattle.history.specs.Deeds.{Deed, wrote_all, deeds_at, deeds, writes_of}
use Rattle.history.specs.Told.{tables_told}
use Rattle.told.specs.Corollaries.{row_told}

-- ---- only good writes are told

unfoldable pub all_good : ℕ → List Write → Bool
all_good tables [] = true
all_good tables (w ∷ ws) = good_write tables w && all_good tables ws

-- what a frame tells, and then the writes before it
frame-good : (tables : ℕ) (frame : List ℕ) (ds : List Deed) → all_good tables (writes_of ds) ≡ true → all_good tables (writes_of (wrote_all (write_in tables frame) ++ ds)) ≡ true
unfolding write_in write_of wrote_all writes_of all_good tells
frame-good tables frame ds h =
    let d = data_in frame in
    choice.either P (is_frame (87 ∷ 49 ∷ []) frame)
    (choice.given P (tells tables d (clock_here d)) (λ e. one (clock_here d) (and_left (good_write tables (clock_here d)) _ e))
    (choice.given P (tells tables d (account_here d)) (λ e. one (account_here d) (and_left (good_write tables (account_here d)) _ e))
    (choice.given P (tells tables d (row_here tables d)) (λ e. one (row_here tables d) (and_left (good_write tables (row_here tables d)) _ e)) h)))
    h
  where
    P : List Write → Type 0
    P ws = all_good tables (writes_of (wrote_all ws ++ ds)) ≡ true

    one : (w : Write) → good_write tables w ≡ true → (good_write tables w && all_good tables (writes_of ds)) ≡ true
    one w g = and_both (good_write tables w) (all_good tables (writes_of ds)) g h

pub told-good : (facts : Facts) (past : List Event) → all_good (tables_of facts.edition) (writes_of (deeds facts past)) ≡ true
unfolding deeds deeds_at writes_of all_good
told-good facts [] = refl
told-good facts (Character b ∷ past) =
    let s = standing facts past in
    let before = told-good facts past in
    choice.either (λ (xs : List Deed). all_good (tables_of facts.edition) (writes_of (xs ++ deeds facts past)) ≡ true) (eqb s.mode 4 && is_whole s) (frame-good (tables_of facts.edition) (frame_by s b) (deeds facts past) before)
    (choice.either (λ (xs : List Deed). all_good (tables_of facts.edition) (writes_of (xs ++ deeds facts past)) ≡ true) (eqb s.mode 0 && closes_period facts (s.said ++ (b ∷ []))) before before)
told-good facts (Silence ∷ past) = told-good facts past
told-good facts (Tick ∷ past) = told-good facts past
told-good facts (Pulse units ∷ past) = told-good facts past
told-good facts (PulseOut units ∷ past) = told-good facts past
told-good facts (PowerUp ∷ past) = told-good facts past
told-good facts (Unknown ∷ past) = told-good facts past

-- ---- rows of one character

drop-same : (k m x : ℕ) → drop k (replicate m x) ≡ replicate (m - k) x
drop-same zero m x = ap (λ (n : ℕ). replicate n x) {x = m} {y = m - zero} (omega arith)
drop-same (suc k) zero x = ap (λ (n : ℕ). replicate {A = ℕ} n x) {x = 0} {y = zero - suc k} (omega arith)
drop-same (suc k) (suc m) x = drop-same k m x ∙ ap (λ (n : ℕ). replicate n x) {x = m - k} {y = suc m - suc k} (omega arith)

take_same : (k m x : ℕ) → k ≤ m → take k (replicate m x) ≡ replicate k x
take_same zero m x h = refl
take_same (suc k) zero x h = absurd (omega arith)
take_same (suc k) (suc m) x h = ap (λ (l : List ℕ). x ∷ l) (take_same k m x (omega arith))

-- ---- the rows

tables-long : (factory : List ℕ) (ws : List Write) → length (tables_told factory ws) ≡ length factory
unfolding tables_told
tables-long factory [] = refl
tables-long factory (row n r ∷ ws) = length-stored (tables_told factory ws) ((n - 1) * 24) r ∙ tables-long factory ws
tables-long factory (clock c ∷ ws) = tables-long factory ws
tables-long factory (account a ∷ ws) = tables-long factory ws

-- the factory's rows are all '1'
rows-room : (edition : ℕ) → tables_of edition * 24 ≤ length (new_rows edition)
unfolding new_rows
rows-room edition =
    let used = replicate {A = ℕ} (tables_of edition * 24) 49 in
    let unused = replicate {A = ℕ} ((25 - tables_of edition) * 24) 0 in
    omega (arith, length-append used unused, length-replicate {A = ℕ} (tables_of edition * 24) 49)

row_new : (edition n : ℕ) → n ≤ tables_of edition → 1 ≤ n → row_of (new_rows edition) n ≡ replicate 24 49
unfolding row_of new_rows
row_new edition n most least =
    let all = tables_of edition * 24 in
    let at = (n - 1) * 24 in
    let unused = replicate {A = ℕ} ((25 - tables_of edition) * 24) 0 in
    ap (take 24)
    (drop-append-le at (replicate all 49) unused (omega (arith, most, least, length-replicate {A = ℕ} all 49)) ∙ ap (λ (l : List ℕ). l ++ unused) (drop-same at all 49))
    ∙ take-append-le 24 (replicate (all - at) 49) unused (omega (arith, most, least, length-replicate {A = ℕ} (all - at) 49))
    ∙ take_same 24 (all - at) 49 (omega (arith, most, least))

pub rows_told : (edition n : ℕ) → good_table (tables_of edition) n ≡ true → (ws : List Write) → all_good (tables_of edition) ws ≡ true → row_of (tables_told (new_rows edition) ws) n ≡ row_told n ws
unfolding tables_told row_told all_good good_write good_table between
rows_told edition n good [] h =
    row_new edition n (leb-true n (tables_of edition) (and_right (leb 1 n) _ good)) (leb-true 1 n (and_left (leb 1 n) (leb n (tables_of edition)) good))
rows_told edition n good (row k r ∷ ws) h = go (eqb k n) refl (rows_told edition n good ws (and_right (good_write (tables_of edition) (row k r)) (all_good (tables_of edition) ws) h))
  where
    fits : good_write (tables_of edition) (row k r) ≡ true
    fits = and_left (good_write (tables_of edition) (row k r)) (all_good (tables_of edition) ws) h

    long : length r ≡ 24
    long = row-long r (and_right (good_table (tables_of edition) k) (good_row r) fits)

    low : 1 ≤ k
    low = leb-true 1 k (and_left (leb 1 k) (leb k (tables_of edition)) (and_left (good_table (tables_of edition) k) (good_row r) fits))

    least : 1 ≤ n
    least = leb-true 1 n (and_left (leb 1 n) (leb n (tables_of edition)) good)

    most : n ≤ tables_of edition
    most = leb-true n (tables_of edition) (and_right (leb 1 n) (leb n (tables_of edition)) good)

    room : (n - 1) * 24 + 24 ≤ length (tables_told (new_rows edition) ws)
    room = omega (arith, most, least, tables-long (new_rows edition) ws, rows-room edition)

    go : (p : Bool) → eqb k n ≡ p → row_of (tables_told (new_rows edition) ws) n ≡ row_told n ws → row_of (tables_told (new_rows edition) (row k r ∷ ws)) n ≡ cond p r (row_told n ws)
    go true e before = ap (λ (i : ℕ). row_of (tables_told (new_rows edition) (row i r ∷ ws)) n) (eqb-true k n e) ∙ row_there (tables_told (new_rows edition) ws) n r long room
    go false e before = row_apart (tables_told (new_rows edition) ws) n k r long least low (eqb-false k n e) ∙ before
rows_told edition n good (clock c ∷ ws) h = rows_told edition n good ws (and_right (good_write (tables_of edition) (clock c)) (all_good (tables_of edition) ws) h)
rows_told edition n good (account a ∷ ws) h = rows_told edition n good ws (and_right (good_write (tables_of edition) (account a)) (all_good (tables_of edition) ws) h)
