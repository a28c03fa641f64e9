-- [2]: feed any run of bytes from an SOH on; if the frame is answered 3, the place is the index, counted from the last restart, of the
-- first damaged byte. The invariant (`Held`): the receiver holds as many characters as bytes came since the restart, its mark says
-- whether one of them is damaged, and its place where the first is. Assumes nothing.
use mathlib.Core.Path.{◌≡◌, refl, sym, ap, ◌∙◌}
use mathlib.Core.Bool.{Bool, true, false, cond, not, ◌&&◌, ◌||◌, and-true, and-false}
use mathlib.Core.List.{List, [], ◌∷◌, ◌++◌}
use Prim.Native.Nat.{ℕ, ◌+◌, ◌-◌, ◌<◌, ◌≤◌}
use native.Mathlib.Omega.{arith}
use borrow.Author.Tests.{eqb-true, ne_eqb, leb-false}
use lib.Dec.{eqb, leb}
use lib.ListN.{length, get_or, length-append}
use lib.Seq.{get_or-set_same, get_or-append_seam}
use Rattle.line.specs.Characters.{damaged_at, seven, undamaged_all}
use Rattle.line.specs.Runs.{every}
use Rattle.line.proofs.Runs.{and_left, and_right}
use Rattle.damage.specs.First.{first_damaged, HurtAt}
use Rattle.damage.proofs.First.{first-hurt, first-append, undamaged-append}
use Rattle.state.specs.Sizes.{reply_room, held_places}
use Rattle.state.specs.declared.Receiver.{Receiver}
use Rattle.state.specs.declared.Meter.{Meter}
use Rattle.state.specs.WellFormed.{well_formed, marked}
use Rattle.state.proofs.Parts.{formed, held-long, edition-good}
use Rattle.receiving.specs.declared.Hearing.{Hearing}
use Rattle.receiving.specs.declared.Hearing.TheVariants.{Drop, Hold, Restart, Empty, Line, Confirm, Frame, TooLong}
use Rattle.receiving.specs.Hearing.{framing, hearing}
use Rattle.receiving.specs.Receivers.{last_held, hurt_place, kept_receiver, restarted_receiver}
use Rattle.meter.specs.Outcomes.{Outcome}
use Rattle.meter.specs.Character.{symbol, heard, taken, character}
use Rattle.promises.specs.Hurt.{ends_in_etx, one_more, since, fed, quietly, HurtFrame}
use Rattle.promises.proofs.Verdicts.{FrameNumber, never-zero, parity, checksum, shape, unknown, not-allowed, content-wrong}
use Rattle.promises.proofs.Answering.{answered-all}
use Rattle.promises.proofs.Formed.{character-stays}

untrue : {A : Type 0} → false ≡ true → A
untrue h = absurd (omega (arith, ap {B = ℕ} (λ (b : Bool). cond b 1 0) h))

-- what a receiver holds of a run
record Held (r : Receiver) (run : List ℕ) : Type 0 where
  count : r.count ≡ length run
  some : 1 ≤ length run
  last : last_held r ≡ symbol (get_or run (length run - 1) 0)
  mark : marked r ≡ not (undamaged_all run)
  place : marked r ≡ true → r.place ≡ first_damaged run

-- the first damaged one of a run and one byte more
hurt-is : (r : Receiver) (run : List ℕ) (b : ℕ) → Held r run → (marked r || damaged_at b) ≡ true → hurt_place r (damaged_at b) ≡ first_damaged (run ++ (b ∷ []))
hurt-is r run b h any = go (undamaged_all run) (damaged_at b) (marked r) h.mark h.place any ∙ sym (first-append run b)
  where
    go : (u d k : Bool) → k ≡ not u → (k ≡ true → r.place ≡ first_damaged run) → (k || d) ≡ true
        → cond k r.place (cond d r.count 0) ≡ cond u (length run + cond d 0 1) (first_damaged run)
    go u d true e f a = rw (other u e) (f refl)
      where
        other : (u : Bool) → true ≡ not u → u ≡ false
        other true e = untrue (sym e)
        other false e = refl
    go true true false e f a = omega (arith, h.count)
    go true false false e f a = untrue a
    go false d false e f a = untrue e

-- marked after it just where one of them is damaged
mark-is : (mark : ℕ) (d u : Bool) → eqb mark 1 ≡ not u → eqb (cond d 1 mark) 1 ≡ not (u && not d)
mark-is mark true u e = ap not (sym (and-false u))
mark-is mark false u e = e ∙ ap not (sym (and-true u))

still_marked : (mark : ℕ) (d : Bool) → eqb (cond d 1 mark) 1 ≡ true → (eqb mark 1 || d) ≡ true
still_marked mark true e = or-true (eqb mark 1)
  where
    or-true : (k : Bool) → (k || true) ≡ true
    or-true true = refl
    or-true false = refl
still_marked mark false e = rw e

-- a held character
kept-held : (r : Receiver) (run : List ℕ) (b : ℕ) → length r.held ≡ held_places → r.count < held_places → Held r run
    → Held (kept_receiver r (symbol b) (damaged_at b)) (run ++ (b ∷ []))
kept-held r run b long room h =
    let n : length (run ++ (b ∷ [])) ≡ length run + 1 = length-append run (b ∷ []) in
    let at : length (run ++ (b ∷ [])) - 1 ≡ length run = omega (arith, n) in
    let seam : get_or (run ++ (b ∷ [])) (length (run ++ (b ∷ [])) - 1) 0 ≡ b = ap (λ (k : ℕ). get_or (run ++ (b ∷ [])) k 0) at ∙ get_or-append_seam run b [] 0 in
    let here : r.count + 1 - 1 ≡ r.count = omega arith in
    record {
      count = omega (arith, n, h.count);
      some = omega (arith, n);
      last = ap (λ (k : ℕ). get_or (kept_receiver r (symbol b) (damaged_at b)).held k 0) here ∙ get_or-set_same r.held r.count (symbol b) 0 (omega (arith, long, room)) ∙ ap symbol (sym seam);
      mark = mark-is r.mark (damaged_at b) (undamaged_all run) h.mark ∙ ap not (sym (undamaged-append run b));
      place = λ e. hurt-is r run b h (still_marked r.mark (damaged_at b) e);
    }

-- an SOH is undamaged
soh-whole : (b : ℕ) → eqb (symbol b) 1 ≡ true → damaged_at b ≡ false
unfolding symbol
soh-whole b h = go (damaged_at b) h
  where
    go : (d : Bool) → eqb (cond d 0 (seven b)) 1 ≡ true → d ≡ false
    go true e = untrue e
    go false e = refl

restarted-held : (b : ℕ) → eqb (symbol b) 1 ≡ true → Held (restarted_receiver (symbol b)) (b ∷ [])
unfolding undamaged_all every
restarted-held b h =
    record { count = refl; some = omega arith; last = refl; mark = rw (soh-whole b h); place = λ e. untrue e }

-- what a byte is in a session, once something is held
pub hearing-is : (mode count last c : ℕ) → 2 ≤ mode → 1 ≤ count
    → hearing mode count last c ≡ cond (eqb last 3) Frame (cond (eqb c 1) Restart (cond (leb 63 count) TooLong Hold))
unfolding hearing framing
hearing-is mode count last c m n = rw (ne_eqb mode 0 (λ e. omega arith), ne_eqb mode 1 (λ e. omega arith), ne_eqb count 0 (λ e. omega arith))

taken_is : (k : Meter) (b : ℕ) → well_formed k ≡ true → character k reply_room b ≡ taken k b
unfolding character
taken_is k b f = rw (edition-good k f, f)

-- a whole frame is answered 3 only where it is marked
three-marked : (mark : Bool) (n : ℕ) → FrameNumber mark n → n ≡ 3 → mark ≡ true
three-marked mark n (parity m) e = m
three-marked mark n checksum e = absurd (omega arith)
three-marked mark n shape e = absurd (omega arith)
three-marked mark n unknown e = absurd (omega arith)
three-marked mark n not-allowed e = absurd (omega arith)
three-marked mark n content-wrong e = absurd (omega arith)

-- a meter in a session that holds a run
record Begun (k : Meter) (run : List ℕ) : Type 0 where
  formed : well_formed k ≡ true
  session : 2 ≤ k.mode
  held : Held k.receiver run

module _ (k : Meter) (run : List ℕ) (begun : Begun k run) (b : ℕ) where
  abbrev r : Receiver
  r = k.receiver

  abbrev d : Bool
  d = damaged_at b

  -- what the byte does, by the run's last byte, by itself and by how many are held
  abbrev does : Bool → Bool → Bool → Outcome
  does p q f = heard k (symbol b) d (cond p Frame (cond q Restart (cond f TooLong Hold)))

  does-is : character k reply_room b ≡ does (ends_in_etx run) (eqb (symbol b) 1) (leb 63 r.count)
  unfolding taken
  does-is =
      let h = begun.held in
      taken_is k b begun.formed
      ∙ ap (heard k (symbol b) d) (hearing-is k.mode r.count (last_held r) (symbol b) begun.session (omega (arith, h.count, h.some)))
      ∙ ap (λ (c : ℕ). does (eqb c 3) (eqb (symbol b) 1) (leb 63 r.count)) h.last

  -- the next meter of a byte that is answered 0
  record Next (o : Outcome) (next : List ℕ) : Type 0 where
    session : 2 ≤ o.next.mode
    held : Held o.next.receiver next

  next-by : (p q f : Bool) → eqb (symbol b) 1 ≡ q → leb 63 r.count ≡ f → (does p q f).number ≡ 0
      → Next (does p q f) (cond p (run ++ (b ∷ [])) (cond q (b ∷ []) (run ++ (b ∷ []))))
  unfolding heard
  next-by true q f e g n =
      absurd (answered-all (λ (a : ℕ). a ≡ 0 → ⊥) k (marked r || d) (symbol b) (never-zero (marked r || d)) (λ z. omega (arith, z)) (λ z. omega (arith, z)) (λ z. omega (arith, z)) n)
  next-by false true f e g n = record { session = begun.session; held = restarted-held b e }
  next-by false false true e g n = absurd (omega (arith, n))
  next-by false false false e g n =
      record {
        session = begun.session;
        held = kept-held r run b (held-long k.mode r (formed k begun.formed).receiver) (omega (arith, leb-false 63 r.count g)) begun.held;
      }

  goes_on : (character k reply_room b).number ≡ 0 → Begun (character k reply_room b).next (one_more run b)
  goes_on n =
      let after = next-by (ends_in_etx run) (eqb (symbol b) 1) (leb 63 r.count) refl refl (sym (ap (λ (o : Outcome). o.number) does-is) ∙ n) in
      record {
        formed = character-stays k begun.formed reply_room b;
        session = rw does-is after.session;
        held = rw does-is after.held;
      }

  -- the place of a byte that is answered 3
  hurt-by : (p q f : Bool) → (does p q f).number ≡ 3 → HurtAt (cond p (run ++ (b ∷ [])) (cond q (b ∷ []) (run ++ (b ∷ [])))) (does p q f).place
  unfolding heard
  hurt-by true q f n =
      let mark = marked r || d in
      let any : mark ≡ true = answered-all (λ (a : ℕ). a ≡ 3 → mark ≡ true) k mark (symbol b) (three-marked mark) (λ z. absurd (omega (arith, z))) (λ z. absurd (omega (arith, z))) (λ z. absurd (omega (arith, z))) n in
      let some : undamaged_all (run ++ (b ∷ [])) ≡ false = undamaged-append run b ∙ damaged-one (undamaged_all run) d (rw begun.held.mark at any) in
      rw (hurt-is r run b begun.held any) (first-hurt (run ++ (b ∷ [])) some)
    where
      damaged-one : (u d : Bool) → (not u || d) ≡ true → (u && not d) ≡ false
      damaged-one true true e = refl
      damaged-one true false e = untrue e
      damaged-one false d e = refl
  hurt-by false true f n = absurd (omega (arith, n))
  hurt-by false false true n = absurd (omega (arith, n))
  hurt-by false false false n = absurd (omega (arith, n))

  hurt-here : (character k reply_room b).number ≡ 3 → HurtAt (one_more run b) (character k reply_room b).place
  hurt-here n = rw does-is (hurt-by (ends_in_etx run) (eqb (symbol b) 1) (leb 63 r.count) (sym (ap (λ (o : Outcome). o.number) does-is) ∙ n))

-- all of it
hurt-from : (k : Meter) (run bs : List ℕ) (b : ℕ) → Begun k run → quietly k bs ≡ true → (character (fed k bs) reply_room b).number ≡ 3
    → HurtAt (since run (bs ++ (b ∷ []))) (character (fed k bs) reply_room b).place
unfolding since fed quietly
hurt-from k run [] b begun q n = hurt-here k run begun b n
hurt-from k run (a ∷ bs) b begun q n =
    let zero = eqb-true (character k reply_room a).number 0 (and_left (eqb (character k reply_room a).number 0) (quietly (character k reply_room a).next bs) q) in
    let rest = and_right (eqb (character k reply_room a).number 0) (quietly (character k reply_room a).next bs) q in
    hurt-from (character k reply_room a).next (one_more run a) bs b (goes_on k run begun a zero) rest n

-- the SOH restarts
restarts : (m : Meter) (soh : ℕ) → well_formed m ≡ true → 2 ≤ m.mode → eqb (last_held m.receiver) 3 ≡ false → eqb (symbol soh) 1 ≡ true
    → Begun (character m reply_room soh).next (soh ∷ [])
unfolding taken heard hearing framing
restarts m soh f s e h =
    let is : character m reply_room soh ≡ heard m (symbol soh) (damaged_at soh) Restart =
    taken_is m soh f ∙ rw (ne_eqb m.mode 0 (λ z. omega (arith, s)), ne_eqb m.mode 1 (λ z. omega (arith, s)), e, and-false (not (eqb m.receiver.count 0)), h) in
    record {
      formed = character-stays m f reply_room soh;
      session = rw is s;
      held = rw is (restarted-held soh h);
    }

pub hurt-place : (m : Meter) (soh : ℕ) (bs : List ℕ) (b : ℕ) → HurtFrame m soh bs b
    → HurtAt (since (soh ∷ []) (bs ++ (b ∷ []))) (character (fed m (soh ∷ bs)) reply_room b).place
unfolding fed quietly
hurt-place m soh bs b h =
    let next = (character m reply_room soh).next in
    let quiet = and_right (eqb (character m reply_room soh).number 0) (quietly next bs) h.quiet in
    hurt-from next (soh ∷ []) bs b (restarts m soh h.formed h.session h.no-bcc h.starts) quiet h.answered
