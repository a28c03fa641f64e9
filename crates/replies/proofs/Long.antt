-- The block with the closed periods, made by three calls: its start, the periods, and the end. Each finds its room, and together they leave the block. Assumes nothing.
use mathlib.Core.Path.{◌≡◌, refl, sym, ap, ◌∙◌}
use mathlib.Core.List.{List, [], ◌∷◌, ◌++◌}
use Prim.Native.Nat.{ℕ, ◌+◌, ◌-◌, ◌*◌, ◌≤◌}
use native.Mathlib.Omega.{arith}
use lib.ListN.{length, take, drop, length-append, length-map}
use lib.Seq.{take_at, length-take-le, drop-append-add, drop-drop}
use Rattle.line.specs.Characters.{sent}
use Rattle.text.specs.Writing.{stored, holding}
use Rattle.text.proofs.Writing.{length-stored, stored_is, stored-holding, and_then}
use Rattle.frames.specs.Frames.{sealed, block_of, on_wire}
use Rattle.frames.proofs.Closing.{sealed-length}
use Rattle.frames.proofs.Sealing.{sealing, block-length}
use Rattle.state.specs.declared.Archive.{Archive}
use Rattle.state.specs.Sizes.{table_places, period_places, reply_room}
use Rattle.state.specs.Closing.{periods_of}
use Rattle.datasets.specs.Sets.{lines_of}
use Rattle.datasets.proofs.Lengths.{lines-append}
use Rattle.replies.specs.declared.Plain.{Plain}
use Rattle.replies.specs.Plain.{registers_of, without_archive}
use Rattle.replies.specs.Block.{block_sets}
use Rattle.replies.specs.Periods.{archive_sets, long_sets, long_start, long_data}
use Rattle.replies.proofs.Handed.{start-alike}
use Rattle.replies.proofs.Sizes.{take_short, sets-most}
use Rattle.replies.proofs.Periods.{archive-most}

-- `!` CR LF behind what stands in front, and all of it closed
pub end-sealed : (buf : List ℕ) (at : ℕ) (mid : List ℕ) (place : ℕ) (after : List ℕ) → at + 5 ≤ length buf → place ≡ at + 3 → mid ≡ stored buf at (33 ∷ 13 ∷ 10 ∷ [])
    → after ≡ holding mid (on_wire (sealed (take place mid))) → after ≡ holding buf (on_wire (sealed (take at buf ++ (33 ∷ 13 ∷ 10 ∷ []))))
unfolding holding
end-sealed buf at mid place after room p e f =
    let end : List ℕ = 33 ∷ 13 ∷ 10 ∷ [] in
    let xs = take at buf ++ end in
    let long : length xs ≡ at + 3 = length-append (take at buf) end ∙ omega (arith, length-take-le at buf (omega arith)) in
    let front : mid ≡ stored buf 0 xs =
    e ∙ (stored_is buf at end (omega arith) ∙ (ap (λ (k : ℕ). xs ++ drop k buf) (sym long) ∙ sym (stored-holding buf xs (omega arith)))) in
    sealing buf xs mid place (omega arith) (omega arith) front after (omega arith) f

-- a message over a beginning of it that was put in already is the message over what was there before
over : (buf xs zs : List ℕ) → length xs ≤ length buf → length xs ≤ length zs → holding (stored buf 0 xs) zs ≡ holding buf zs
unfolding holding
over buf xs zs room longer =
    let n = length zs - length xs in
    let e : length xs + n ≡ length zs = omega arith in
    ap (λ (l : List ℕ). zs ++ l)
    (ap (drop (length zs)) (stored-holding buf xs room) ∙ ap (λ (k : ℕ). drop k (xs ++ drop (length xs) buf)) (sym e) ∙ drop-append-add xs (drop (length xs) buf) n ∙ drop-drop n (length xs) buf ∙ ap (λ (k : ℕ). drop k buf) e)

front-is : (buf xs : List ℕ) → length xs ≤ length buf → take (length xs) (stored buf 0 xs) ≡ xs
unfolding holding
front-is buf xs room = rw (stored-holding buf xs room) (take_at xs (drop (length xs) buf) (length xs) refl)

-- a beginning that was put in, and then its end
ended-over : (buf xs b : List ℕ) (place : ℕ) (after : List ℕ) → length xs ≤ length buf → 1 ≤ length xs → place ≡ length xs → b ≡ stored buf 0 xs
    → after ≡ holding b (on_wire (sealed (take place b ++ (33 ∷ 13 ∷ 10 ∷ [])))) → after ≡ holding buf (on_wire (sealed (xs ++ (33 ∷ 13 ∷ 10 ∷ []))))
ended-over buf xs b place after room one p e f =
    let end : List ℕ = 33 ∷ 13 ∷ 10 ∷ [] in
    let message = on_wire (sealed (xs ++ end)) in
    let front : take place b ≡ xs = rw (e, p) (front-is buf xs room) in
    let whole : length (xs ++ end) ≡ length xs + 3 = length-append xs end in
    let long : length message ≡ length xs + 5 = length-map (sealed (xs ++ end)) sent ∙ (sealed-length (xs ++ end) (omega arith) ∙ omega arith) in
    f ∙ (ap (λ (l : List ℕ). holding b (on_wire (sealed (l ++ end)))) front ∙ (ap (λ (l : List ℕ). holding l message) e ∙ over buf xs message room (omega arith)))

module _ (p : Plain) (rows : List ℕ) (archive : Archive) (tables : ℕ) (buf : List ℕ) (serial : length p.facts.serial ≡ 10) (account : length p.account ≡ 10)
    (few : tables ≤ table_places) (kept : archive.count ≤ period_places) (room : reply_room ≤ length buf) where
  abbrev pub Start : List ℕ
  Start = long_start tables (without_archive p rows)

  abbrev pub Kept : List ℕ
  Kept = lines_of (archive_sets p.facts.decimals 1 (periods_of archive))

  start-most : length Start ≤ 294 + tables * 36
  unfolding long_start
  start-most = omega (arith, sets-most tables (without_archive p rows) serial account)

  kept-most : length Kept ≤ archive.count * 226
  unfolding periods_of
  kept-most = omega (arith, archive-most p.facts.decimals 1 (periods_of archive), take_short archive.count archive.periods)

  module _ (p1 : ℕ) (b1 : List ℕ) (next : p1 ≡ length Start) (held : b1 ≡ stored buf 0 Start) where
    -- the periods find room behind the start
    pub periods-fit : p1 + archive.count * 226 + 16 ≤ length b1
    periods-fit = rw (held, length-stored buf 0 Start) (omega (arith, start-most))

    module _ (p2 : ℕ) (b2 : List ℕ) (next2 : p2 ≡ p1 + length Kept) (held2 : b2 ≡ stored b1 p1 Kept) where
      -- and the end behind the periods
      pub end_fits : (1 ≤ p2) × (p2 + 5 ≤ length b2)
      unfolding long_start
      end_fits =
          let long : length b2 ≡ length buf = ap length held2 ∙ (length-stored b1 p1 Kept ∙ (ap length held ∙ length-stored buf 0 Start)) in
          (omega arith, omega (arith, start-most, kept-most))

      -- the start, the periods and the end are the block
      pub three-calls : (p3 : ℕ) (b3 : List ℕ) → p3 ≡ p2 + 5 → b3 ≡ holding b2 (on_wire (sealed (take p2 b2 ++ (33 ∷ 13 ∷ 10 ∷ []))))
          → (p3 ≡ length (block_of (long_data tables (registers_of p rows archive)))) × (b3 ≡ holding buf (on_wire (block_of (long_data tables (registers_of p rows archive)))))
      unfolding long_start long_sets long_data block_of sealed
      three-calls p3 b3 next3 held3 =
          let g = registers_of p rows archive in
          let sets = block_sets tables g in
          let periods = archive_sets p.facts.decimals 1 (periods_of archive) in
          let end : List ℕ = 33 ∷ 13 ∷ 10 ∷ [] in
          let xs : List ℕ = 2 ∷ lines_of (sets ++ periods) in
          let is : Start ≡ 2 ∷ lines_of sets = start-alike p rows archive tables in
          let both : xs ≡ Start ++ Kept = ap (λ (l : List ℕ). 2 ∷ l) (lines-append sets periods) ∙ ap (λ (l : List ℕ). l ++ Kept) (sym is) in
          let long : length xs ≡ length Start + length Kept = ap length both ∙ length-append Start Kept in
          let written : b2 ≡ stored buf 0 xs = rw both (and_then buf 0 Start b1 p1 Kept b2 held (omega arith) held2) in (
            omega (arith, long, block-length (long_data tables g), length-append (lines_of (sets ++ periods)) end),
            ended-over buf xs b2 p2 b3 (omega (arith, long, start-most, kept-most)) (omega arith) (omega (arith, long)) written held3,
          )
