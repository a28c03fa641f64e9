-- The character engine, given a slice byte by byte, comes to its last byte with just the bytes held that a look at the whole tells. The invariant
-- (`Holds`): the receiver is the one that holds the bytes since the last restart. Assumes nothing.
use mathlib.Core.Path.{◌≡◌, refl, sym, ap, ap₂, ◌∙◌}
use mathlib.Core.Bool.{Bool, true, false, cond, ◌||◌}
use mathlib.Core.List.{List, [], ◌∷◌, ◌++◌, append_assoc}
use Prim.Native.Nat.{ℕ, suc, ◌+◌, ◌-◌, ◌≤◌, ◌<◌}
use native.Mathlib.Omega.{arith}
use borrow.Author.Tests.{eqb-true, ne_eqb, le-ltb, le-leb, leb-true, leb-false}
use lib.Dec.{eqb, leb}
use lib.ListN.{length, get_or, take, drop, length-append}
use lib.Seq.{take-append_seam, drop-append-add, get_or-append-add, get_or-append_seam, take-suc, take_all}
use Rattle.line.specs.Characters.{damaged_at}
use Rattle.line.proofs.Runs.{and_left, and_right}
use Rattle.state.specs.Sizes.{reply_room}
use Rattle.state.specs.declared.Receiver.{Receiver}
use Rattle.state.specs.declared.Meter.{Meter}
use Rattle.state.specs.WellFormed.{well_formed, marked}
use Rattle.state.specs.Setting.{with_receiver}
use Rattle.receiving.specs.declared.Hearing.{Hearing}
use Rattle.receiving.specs.declared.Hearing.TheVariants.{Drop, Hold, Restart, Empty, Line, Confirm, Frame, TooLong}
use Rattle.receiving.specs.Hearing.{framing, hearing}
use Rattle.receiving.specs.Receivers.{last_held}
use Rattle.meter.specs.Outcomes.{Outcome}
use Rattle.meter.specs.Character.{symbol, heard, taken, character}
use Rattle.meter.specs.Life.{event_of, refusal, happened}
use Rattle.meter.specs.Deeds.{standing_of, acts, character_deed, left_deed, done}
use Rattle.meter.proofs.Done.{heard-done}
use Rattle.promises.proofs.Answering.{answered-all}
use Rattle.state.proofs.Parts.{edition-good}
use Rattle.promises.proofs.Formed.{character-stays}
use Rattle.promises.proofs.Hurt.{hearing-is}
use Rattle.promises.proofs.Verdicts.{never-zero}
use Rattle.whole.specs.Whole.{ends, finishes_at, no_frame, at_the_last, awaits, frame_taken}
use Rattle.whole.specs.Gathering.{is, held_next, held_after, held_at_last, front, last_of, held_over, held_in, run_of, filled}
use Rattle.whole.proofs.Gathering.{zero-none, short_none, after-few, last-few, after_dead, last-dead}
use Rattle.whole.proofs.Filled.{one_more, anew, last_one, last_more}

-- the last n of a longer slice, and its last byte
run-behind : (n : ℕ) (a b : List ℕ) → n + 1 ≤ length b → run_of n (a ++ b) ≡ run_of n b
run-behind n a b h =
    let k : length (a ++ b) - 1 - n ≡ length a + (length b - 1 - n) = omega (arith, length-append a b) in
    ap (take n) (ap (λ (j : ℕ). drop j (a ++ b)) k ∙ drop-append-add a b (length b - 1 - n))

last-behind : (a b : List ℕ) → 1 ≤ length b → last_of (a ++ b) ≡ last_of b
last-behind a b h =
    let k : length (a ++ b) - 1 ≡ length a + (length b - 1) = omega (arith, length-append a b) in
    ap (λ (j : ℕ). get_or (a ++ b) j 0) k ∙ get_or-append-add a b (length b - 1) 0

run-whole : (run : List ℕ) (z : ℕ) → run_of (length run) (run ++ (z ∷ [])) ≡ run
run-whole run z =
    let k : length (run ++ (z ∷ [])) - 1 - length run ≡ 0 = omega (arith, length-append run (z ∷ [])) in
    ap (λ (j : ℕ). take (length run) (drop j (run ++ (z ∷ [])))) k ∙ take-append_seam run (z ∷ [])

last_snoc : (run : List ℕ) (z : ℕ) → last_of (run ++ (z ∷ [])) ≡ z
last_snoc run z =
    let k : length (run ++ (z ∷ [])) - 1 ≡ length run = omega (arith, length-append run (z ∷ [])) in
    ap (λ (j : ℕ). get_or (run ++ (z ∷ [])) j 0) k ∙ get_or-append_seam run z [] 0

-- the last of some bytes behind another
abbrev last_byte : ℕ → List ℕ → ℕ
last_byte b bs = get_or (b ∷ bs) (length bs) 0

module _ (m : Meter) (room : ℕ) (session : 2 ≤ m.mode) (large : reply_room ≤ room) where
  -- the meter that holds a run
  abbrev holds : List ℕ → Meter
  holds run = with_receiver m (filled run)

  -- what so many held before the last byte come to
  abbrev pub comes_to : ℕ → List ℕ → Outcome
  comes_to n bytes = cond (eqb n 0) (no_frame m) (taken (holds (run_of n bytes)) (last_of bytes))

  -- an outcome is that one, the meter that holds the run is well-formed, and the last byte finishes a frame there
  pub record Comes (o : Outcome) (n : ℕ) (bytes : List ℕ) : Type 0 where
    pub outcome : o ≡ comes_to n bytes
    pub formed : (n ≡ 0 → ⊥) → well_formed (holds (run_of n bytes)) ≡ true
    pub ended : (n ≡ 0 → ⊥) → finishes_at (holds (run_of n bytes)) (last_of bytes) ≡ true

  comes-none : (n : ℕ) (bytes : List ℕ) → n ≡ 0 → Comes (no_frame m) n bytes
  comes-none n bytes e = record { outcome = ap (λ (k : ℕ). comes_to k bytes) (sym e); formed = λ some. absurd (some e); ended = λ some. absurd (some e) }

  comes-as : (o : Outcome) (n n' : ℕ) (bytes bytes' : List ℕ) → n ≡ n' → bytes ≡ bytes' → Comes o n bytes → Comes o n' bytes'
  comes-as o n n' bytes bytes' e f c =
      record {
        outcome = c.outcome ∙ ap₂ comes_to e f;
        formed = λ some. rw (← e, ← f) (c.formed (λ z. some (sym e ∙ z)));
        ended = λ some. rw (← e, ← f) (c.ended (λ z. some (sym e ∙ z)));
      }

  comes-behind : (o : Outcome) (n : ℕ) (a b : List ℕ) → n + 1 ≤ length b → Comes o n b → Comes o n (a ++ b)
  comes-behind o n a b h c =
      record {
        outcome = c.outcome
            ∙ ap₂ (λ (run : List ℕ) (z : ℕ). cond (eqb n 0) (no_frame m) (taken (holds run) z)) (sym (run-behind n a b h)) (sym (last-behind a b (omega (arith, h))));
        formed = λ some. rw (run-behind n a b h) (c.formed some);
        ended = λ some. rw (run-behind n a b h, last-behind a b (omega (arith, h))) (c.ended some);
      }

  comes-whole : (run : List ℕ) (z : ℕ) → 1 ≤ length run → comes_to (length run) (run ++ (z ∷ [])) ≡ taken (holds run) z
  comes-whole run z h =
      ap (λ (e : Bool). cond e (no_frame m) (taken (holds (run_of (length run) (run ++ (z ∷ [])))) (last_of (run ++ (z ∷ []))))) (ne_eqb (length run) 0 (λ e. omega (arith, h, e)))
      ∙ ap₂ (λ (r : List ℕ) (y : ℕ). taken (holds r) y) (run-whole run z) (last_snoc run z)

  taken_is : (k : Meter) (b : ℕ) → well_formed k ≡ true → character k room b ≡ taken k b
  unfolding character
  taken_is k b f = rw (edition-good k f, le-ltb room reply_room large, f)

  record Holds (run : List ℕ) (before : ℕ) : Type 0 where
    some : 1 ≤ length run
    few : length run ≤ 63
    last : last_held (filled run) ≡ symbol before
    formed : well_formed (holds run) ≡ true

  module _ (run : List ℕ) (before : ℕ) (h : Holds run before) (b : ℕ) where
    -- what a byte is, by the one before it, by itself and by how many are held
    abbrev meant : Bool → Bool → Bool → Hearing
    meant p q f = cond p Frame (cond q Restart (cond f TooLong Hold))

    meant_is : hearing m.mode (length run) (last_held (filled run)) (symbol b) ≡ meant (is 3 before) (is 1 b) (leb 63 (length run))
    unfolding is
    meant_is =
        hearing-is m.mode (length run) (last_held (filled run)) (symbol b) session h.some
        ∙ ap (λ (c : ℕ). meant (eqb c 3) (eqb (symbol b) 1) (leb 63 (length run))) h.last

    abbrev does : Bool → Bool → Bool → Outcome
    does p q f = heard (holds run) (symbol b) (damaged_at b) (meant p q f)

    does-is : character (holds run) room b ≡ does (is 3 before) (is 1 b) (leb 63 (length run))
    unfolding taken
    does-is = taken_is (holds run) b h.formed ∙ ap (heard (holds run) (symbol b) (damaged_at b)) meant_is

    -- the last byte
    finished : finishes_at (holds run) b ≡ true → Comes (character (holds run) room b) (length run) (run ++ (b ∷ []))
    finished e =
        record {
          outcome = taken_is (holds run) b h.formed ∙ sym (comes-whole run b h.some);
          formed = λ some. rw (run-whole run b) h.formed;
          ended = λ some. rw (run-whole run b, last_snoc run b) e;
        }

    last-by : (p q f : Bool) → finishes_at (holds run) b ≡ ends (meant p q f)
        → Comes (cond (ends (meant p q f)) (character (holds run) room b) (no_frame m)) (cond p (length run) (cond q 0 (cond f (length run) 0))) (run ++ (b ∷ []))
    unfolding ends
    last-by true q f e = finished e
    last-by false true f e = comes-none 0 (run ++ (b ∷ [])) refl
    last-by false false true e = finished e
    last-by false false false e = comes-none 0 (run ++ (b ∷ [])) refl

    ends_is : finishes_at (holds run) b ≡ ends (meant (is 3 before) (is 1 b) (leb 63 (length run)))
    unfolding finishes_at
    ends_is = ap ends meant_is

    at_last : Comes (at_the_last m (holds run) room (b ∷ [])) (held_at_last (length run) before b) (run ++ (b ∷ []))
    unfolding at_the_last held_at_last
    at_last = rw ends_is (last-by (is 3 before) (is 1 b) (leb 63 (length run)) ends_is)

    -- a whole frame is answered
    speaks : (q f : Bool) → eqb (does true q f).number 0 ≡ false
    unfolding heard
    speaks q f =
        let mark = marked (filled run) || damaged_at b in
        ne_eqb (does true q f).number 0
        (answered-all (λ (a : ℕ). a ≡ 0 → ⊥) (holds run) mark (symbol b) (never-zero mark) (λ z. omega (arith, z)) (λ z. omega (arith, z)) (λ z. omega (arith, z)))

    restarted : is 1 b ≡ true → (does false true true).next ≡ holds (b ∷ [])
    unfolding heard
    restarted e = ap (λ (r : Receiver). with_receiver m r) (anew b e)

    kept : length run < 63 → (does false false false).next ≡ holds (run ++ (b ∷ []))
    unfolding heard
    kept few = ap (λ (r : Receiver). with_receiver m r) (one_more run b (omega (arith, few)))

    stays : well_formed (character (holds run) room b).next ≡ true
    stays = character-stays (holds run) h.formed room b

    -- a byte before the last, by what it is
    goes_by : (rest : List ℕ) (n : ℕ) (bytes : List ℕ) (p q f : Bool) → is 1 b ≡ q → leb 63 (length run) ≡ f → character (holds run) room b ≡ does p q f
        → (p ≡ true → n ≡ 0) → (p ≡ false → q ≡ false → f ≡ true → n ≡ 0)
        → (p ≡ false → q ≡ true → Holds (b ∷ []) b → Comes (at_the_last m (holds (b ∷ [])) room rest) n bytes)
        → (p ≡ false → q ≡ false → f ≡ false → Holds (run ++ (b ∷ [])) b → Comes (at_the_last m (holds (run ++ (b ∷ []))) room rest) n bytes)
        → Comes (cond (eqb (character (holds run) room b).number 0) (at_the_last m (character (holds run) room b).next room rest) (no_frame m)) n bytes
    unfolding heard
    goes_by rest n bytes true q f eq ef e ended long restart hold = rw (e, speaks q f) (comes-none n bytes (ended refl))
    goes_by rest n bytes false true f eq ef e ended long restart hold =
        let next : (character (holds run) room b).next ≡ holds (b ∷ []) = ap (λ (o : Outcome). o.next) e ∙ restarted eq in
        let zero : (character (holds run) room b).number ≡ 0 = ap (λ (o : Outcome). o.number) e in
        rw (zero, next) (restart refl refl (record { some = omega arith; few = omega arith; last = last_one b; formed = rw next at stays }))
    goes_by rest n bytes false false true eq ef e ended long restart hold = rw e (comes-none n bytes (long refl refl refl))
    goes_by rest n bytes false false false eq ef e ended long restart hold =
        let room-left : length run < 63 = leb-false 63 (length run) ef in
        let next : (character (holds run) room b).next ≡ holds (run ++ (b ∷ [])) = ap (λ (o : Outcome). o.next) e ∙ kept room-left in
        let zero : (character (holds run) room b).number ≡ 0 = ap (λ (o : Outcome). o.number) e in
        rw (zero, next)
        (hold refl refl refl
        (record {
          some = omega (arith, length-append run (b ∷ []));
          few = omega (arith, length-append run (b ∷ []), room-left);
          last = last_more run b (omega (arith, room-left));
          formed = rw next at stays;
        }))

  -- a byte with more behind it
  more-is : (k : Meter) (b : ℕ) (bs : List ℕ) → eqb (length bs) 0 ≡ false
      → at_the_last m k room (b ∷ bs) ≡ cond (eqb (character k room b).number 0) (at_the_last m (character k room b).next room bs) (no_frame m)
  unfolding at_the_last
  more-is k b bs e = rw e

  next-is : (run : List ℕ) (before b : ℕ) → Holds run before → (p q f : Bool) → is 3 before ≡ p → is 1 b ≡ q → leb 63 (length run) ≡ f
      → held_next (length run) before b ≡ cond p 0 (cond q 1 (cond f 0 (length run + 1)))
  unfolding held_next
  next-is run before b h p q f ep eq ef = rw (ne_eqb (length run) 0 (λ e. omega (arith, h.some, e)), ep, eq, ef)

  -- any bytes before the last, z, from a run that is held
  held_then : (bs : List ℕ) (z : ℕ) (run : List ℕ) (before : ℕ) → Holds run before
      → Comes (at_the_last m (holds run) room (bs ++ (z ∷ []))) (held_at_last (held_after (length run) before bs) (last_byte before bs) z) (run ++ (bs ++ (z ∷ [])))
  unfolding held_after
  held_then [] z run before h = at_last run before h z
  held_then (b ∷ bs) z run before h =
      let rest = bs ++ (z ∷ []) in
      let bytes = run ++ (b ∷ rest) in
      let n : length rest ≡ length bs + 1 = length-append bs (z ∷ []) in
      let more : eqb (length rest) 0 ≡ false = ne_eqb (length rest) 0 (λ e. omega (arith, n, e)) in
      let after : ℕ → ℕ = λ k. held_at_last (held_after k b bs) (last_byte b bs) z in
      let next = held_next (length run) before b in
      let none : next ≡ 0 → after next ≡ 0 =
      λ e. ap (λ (j : ℕ). held_at_last j (last_byte b bs) z) (ap (λ (j : ℕ). held_after j b bs) e ∙ after_dead b bs) ∙ last-dead (last_byte b bs) z in
      rw (more-is (holds run) b rest more)
      (goes_by run before h b rest (after next) bytes (is 3 before) (is 1 b) (leb 63 (length run)) refl refl (does-is run before h b)
      (λ p. none (next-is run before b h true _ _ p refl refl))
      (λ p q f. none (next-is run before b h false false true p q f))
      (λ p q k.
      comes-as _ (after 1) (after next) bytes bytes (ap after (sym (next-is run before b h false true _ p q refl))) refl
      (comes-behind _ (after 1) run (b ∷ rest) (omega (arith, n, last-few (held_after 1 b bs) (last_byte b bs) z, (after-few 1 b bs).0)) (held_then bs z (b ∷ []) b k)))
      (λ p q f k.
      comes-as _ (after (length (run ++ (b ∷ [])))) (after next) ((run ++ (b ∷ [])) ++ rest) bytes
      (ap after (length-append run (b ∷ []) ∙ sym (next-is run before b h false false false p q f))) (append_assoc run (b ∷ []) rest) (held_then bs z (run ++ (b ∷ [])) b k)))

  -- the first byte, which is an SOH, upon an empty receiver
  module _ (formed : well_formed m ≡ true) (empty : m.receiver.count ≡ 0) (b : ℕ) (soh : is 1 b ≡ true) where
    opens-is : hearing m.mode m.receiver.count (last_held m.receiver) (symbol b) ≡ Restart
    unfolding hearing framing is
    opens-is = rw (ne_eqb m.mode 0 (λ e. omega (arith, session, e)), ne_eqb m.mode 1 (λ e. omega (arith, session, e)), empty, soh)

    opened : character m room b ≡ heard m (symbol b) (damaged_at b) Restart
    unfolding taken
    opened = taken_is m b formed ∙ ap (heard m (symbol b) (damaged_at b)) opens-is

    next-open : (character m room b).next ≡ holds (b ∷ [])
    unfolding heard
    next-open = ap (λ (o : Outcome). o.next) opened ∙ ap (λ (r : Receiver). with_receiver m r) (anew b soh)

    quiet-open : (character m room b).number ≡ 0
    unfolding heard
    quiet-open = ap (λ (o : Outcome). o.number) opened

    begun : Holds (b ∷ []) b
    begun = record { some = omega arith; few = omega arith; last = last_one b; formed = rw next-open at (character-stays m formed room b) }

    alone-none : at_the_last m m room (b ∷ []) ≡ no_frame m
    unfolding at_the_last finishes_at ends
    alone-none = ap (λ (x : Hearing). cond (ends x) (character m room b) (no_frame m)) opens-is

    from-soh : (bs : List ℕ) (z : ℕ) → Comes (at_the_last m m room (b ∷ (bs ++ (z ∷ [])))) (held_at_last (held_after 1 b bs) (last_byte b bs) z) (b ∷ (bs ++ (z ∷ [])))
    from-soh bs z =
        let more : eqb (length (bs ++ (z ∷ []))) 0 ≡ false = ne_eqb (length (bs ++ (z ∷ []))) 0 (λ e. omega (arith, e, length-append bs (z ∷ []))) in
        rw (more-is m b (bs ++ (z ∷ [])) more, quiet-open, next-open) (held_then bs z (b ∷ []) b begun)

    in_is : (bs : List ℕ) (z : ℕ) → held_in (b ∷ (bs ++ (z ∷ []))) ≡ held_at_last (held_after 1 b bs) (last_byte b bs) z
    unfolding held_in held_over
    in_is bs z =
        let n : suc (length (bs ++ (z ∷ []))) - 1 ≡ suc (length bs) = omega (arith, length-append bs (z ∷ [])) in
        let f : front (b ∷ (bs ++ (z ∷ []))) ≡ b ∷ bs = ap (λ (k : ℕ). take k (b ∷ (bs ++ (z ∷ [])))) n ∙ ap (λ (l : List ℕ). b ∷ l) (take-append_seam bs (z ∷ [])) in
        let l : last_of (b ∷ bs) ≡ last_byte b bs = ap (λ (k : ℕ). get_or (b ∷ bs) k 0) {x = suc (length bs) - 1} {y = length bs} (omega arith) in
        rw (soh, f, l, last_snoc (b ∷ bs) z)

    whole_is : (bs : List ℕ) → Comes (at_the_last m m room (b ∷ bs)) (held_in (b ∷ bs)) (b ∷ bs)
    whole_is [] = rw alone-none (comes-none (held_in (b ∷ [])) (b ∷ []) (short_none (b ∷ []) (omega arith)))
    whole_is (c ∷ bs) =
        let s = c ∷ bs in
        let e : s ≡ front s ++ (last_of s ∷ []) =
        sym (take_all (suc (length s - 1)) s (omega arith)) ∙ take-suc s (length s - 1) 0 (omega arith) in
        let o = from-soh (front s) (last_of s) in
        comes-as (at_the_last m m room (b ∷ s)) _ (held_in (b ∷ s)) _ (b ∷ s) (sym (in_is (front s) (last_of s)) ∙ ap (λ (l : List ℕ). held_in (b ∷ l)) (sym e)) (ap (λ (l : List ℕ). b ∷ l) (sym e))
        (rw (ap (λ (l : List ℕ). at_the_last m m room (b ∷ l)) e) o)

-- what is done with a slice is told by a look at the whole
module _ (m : Meter) (room : ℕ) (large : reply_room ≤ room) (formed : well_formed m ≡ true) (bytes : List ℕ) where
  pub taken_none : awaits m ≡ false → frame_taken m room bytes ≡ no_frame m
  unfolding frame_taken
  taken_none e = rw e

  starts : awaits m ≡ true → (p : Bool) → is 1 (get_or bytes 0 0) ≡ p → frame_taken m room bytes ≡ cond p (at_the_last m m room bytes) (no_frame m)
  unfolding frame_taken is
  starts e p s = rw (e, s)

  none-held : is 1 (get_or bytes 0 0) ≡ false → held_in bytes ≡ 0
  unfolding held_in
  none-held s = rw s

  pub taken-whole : (session : 2 ≤ m.mode) → m.receiver.count ≡ 0 → awaits m ≡ true → Comes m room session large (frame_taken m room bytes) (held_in bytes) bytes
  taken-whole session empty e = go (is 1 (get_or bytes 0 0)) refl
    where
      from : (l : List ℕ) → is 1 (get_or l 0 0) ≡ true → Comes m room session large (at_the_last m m room l) (held_in l) l
      from [] k = absurd (omega (arith, ap {B = ℕ} (λ (x : Bool). cond x 1 0) (sym (zero-none 0) ∙ k)))
      from (b ∷ bs) k = whole_is m room session large formed empty b k bs

      go : (p : Bool) → is 1 (get_or bytes 0 0) ≡ p → Comes m room session large (frame_taken m room bytes) (held_in bytes) bytes
      go false s = rw (starts e false s) (comes-none m room session large (held_in bytes) bytes (none-held s))
      go true s = rw (starts e true s) (from bytes s)

  module _ (e : awaits m ≡ true) where
    await-session : 2 ≤ m.mode
    unfolding awaits
    await-session = leb-true 2 m.mode (and_left (leb 2 m.mode) (eqb m.receiver.count 0) e)

    await-empty : m.receiver.count ≡ 0
    unfolding awaits
    await-empty = eqb-true m.receiver.count 0 (and_right (leb 2 m.mode) (eqb m.receiver.count 0) e)

    comes : Comes m room await-session large (frame_taken m room bytes) (held_in bytes) bytes
    comes = taken-whole await-session await-empty e

    -- no frame is finished at the last byte, or one is
    pub nothing-whole : held_in bytes ≡ 0 → frame_taken m room bytes ≡ no_frame m
    nothing-whole z = comes.outcome ∙ ap (λ (n : ℕ). comes_to m room await-session large n bytes) z

    pub frame-whole : (held_in bytes ≡ 0 → ⊥) → frame_taken m room bytes ≡ taken (with_receiver m (filled (run_of (held_in bytes) bytes))) (last_of bytes)
    frame-whole some = comes.outcome ∙ ap (λ (b : Bool). cond b (no_frame m) (taken (with_receiver m (filled (run_of (held_in bytes) bytes))) (last_of bytes))) (ne_eqb (held_in bytes) 0 some)

    pub frame-formed : (held_in bytes ≡ 0 → ⊥) → well_formed (with_receiver m (filled (run_of (held_in bytes) bytes))) ≡ true
    frame-formed some = comes.formed some

    pub frame-ended : (held_in bytes ≡ 0 → ⊥) → finishes_at (with_receiver m (filled (run_of (held_in bytes) bytes))) (last_of bytes) ≡ true
    frame-ended some = comes.ended some

-- the last byte, as the meter is told it
pub told-fits : (family room b : ℕ) → reply_room ≤ room → b < 256 → refusal family room (event_of 0 b) ≡ 0
unfolding event_of refusal
told-fits family room b h small = rw (le-leb b 255 (omega arith), le-ltb room reply_room h)

pub told_is : (m : Meter) (b : ℕ) → b < 256 → happened m (event_of 0 b) ≡ taken m b
unfolding event_of happened
told_is m b small = rw (le-leb b 255 (omega arith))

-- what finishes a frame is acted on, and comes of its deed
ends-acts : (h : Hearing) → ends h ≡ true → acts h ≡ true
unfolding ends acts
ends-acts Drop e = e
ends-acts Hold e = e
ends-acts Restart e = e
ends-acts Empty e = e
ends-acts Line e = refl
ends-acts Confirm e = refl
ends-acts Frame e = e
ends-acts TooLong e = e

pub ended-done : (m : Meter) (b : ℕ) → b < 256 → finishes_at m b ≡ true → taken m b ≡ done m (left_deed (standing_of m) m.receiver.held m.registers.clock (event_of 0 b))
unfolding finishes_at taken event_of left_deed character_deed
ended-done m b small e =
    let h = hearing m.mode m.receiver.count (last_held m.receiver) (symbol b) in
    rw (le-leb b 255 (omega arith)) (heard-done m (symbol b) (damaged_at b) h (ends-acts h e))
