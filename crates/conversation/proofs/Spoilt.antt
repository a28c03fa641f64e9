-- A meter that has seen damage, or that holds nothing: it says nothing or NAK, keeps its registers, and stays so until a line or a frame opens. Assumes nothing.
use mathlib.Core.Path.{◌≡◌, refl}
use mathlib.Core.Logic.{◌⊎◌, inl, inr, ⊎_elim}
use mathlib.Core.Bool.{Bool, true, false, cond, not, ◌&&◌, ◌||◌}
use mathlib.Core.List.{[]}
use Prim.Native.Nat.{ℕ, ◌≤◌}
use native.Mathlib.Omega.{arith}
use borrow.Author.Tests.{eqb-true, eqb-false, le-leb}
use lib.Dec.{eqb, leb}
use Rattle.line.specs.Characters.{damaged_at}
use Rattle.text.proofs.Beginnings.{le-or-lt}
use Rattle.state.specs.Sizes.{reply_room, most_held}
use Rattle.state.specs.declared.Meter.{Meter}
use Rattle.state.specs.WellFormed.{well_formed, marked}
use Rattle.state.proofs.Parts.{edition-good}
use Rattle.replies.specs.Fixed.{refused}
use Rattle.receiving.specs.declared.Hearing.{Hearing}
use Rattle.receiving.specs.declared.Hearing.TheVariants.{Drop, Hold, Restart, Empty, Line, Confirm, Frame, TooLong}
use Rattle.receiving.specs.Hearing.{hearing, listening, confirming, framing}
use Rattle.receiving.specs.Receivers.{last_held}
use Rattle.deciding.specs.Verdict.{verdict}
use Rattle.state.specs.Link.{link_of, is_wired}
use Rattle.meter.specs.Link.{refused_reply, after_refusal}
use Rattle.meter.specs.Outcomes.{Outcome, at_place, nak}
use Rattle.meter.specs.Acting.{acted}
use Rattle.meter.specs.Character.{symbol, line_ended, confirmed, heard, taken, character}
use Rattle.promises.proofs.Choices as choice
use Rattle.reading.proofs.Leading.{or_cases}

-- damage was seen, or nothing is held outside a confirmation
abbrev pub Spoilt : Meter → Type 0
Spoilt m = (marked m.receiver ≡ true) ⊎ ((m.receiver.count ≡ 0) × (m.mode ≡ 1 → ⊥))

-- what opens a line or a frame, in this mode or in the one that it falls to
unfoldable pub stray : ℕ → ℕ → Bool
stray mode c = (leb 2 mode && eqb c 1) || (leb mode 2 && eqb c 47)

-- nothing or NAK, no register anew, and no attempt counted
pub record Quiet (m : Meter) (c : ℕ) (o : Outcome) : Type 0 where
  pub registers : o.next.registers ≡ m.registers
  pub attempts : o.next.attempts ≡ m.attempts
  pub reply : (o.reply ≡ []) ⊎ (o.reply ≡ refused)
  pub spoilt : stray m.mode c ≡ false → Spoilt o.next
  pub modes : (x : ℕ) → stray m.mode x ≡ false → stray o.next.mode x ≡ false

pub not-both : {X : Type 0} (b : Bool) → b ≡ true → b ≡ false → X
not-both true h k = absurd (let z : ◌≡◌ {A = ℕ} 0 1 = cc in omega arith)
not-both false h k = absurd (let z : ◌≡◌ {A = ℕ} 0 1 = cc in omega arith)

pub or_right : (a b : Bool) → b ≡ true → (a || b) ≡ true
or_right true b h = refl
or_right false b h = h

-- a mode below 3 that falls to 0
falls : (mode x : ℕ) → mode ≤ 2 → stray mode x ≡ false → stray 0 x ≡ false
unfolding stray
falls mode x low h = second (leb 2 mode && eqb x 1) (eqb x 47) (rw (le-leb mode 2 low) at h)
  where
    second : (a b : Bool) → (a || b) ≡ false → b ≡ false
    second true b h = absurd (let z : ◌≡◌ {A = ℕ} 0 1 = cc in omega arith)
    second false b h = h

module _ (m : Meter) (c : ℕ) (d : Bool) (optical : is_wired (link_of m) ≡ false) where
  abbrev seen : Bool
  seen = marked m.receiver || d

  hold-quiet : seen ≡ true → Quiet m c (heard m c d Hold)
  unfolding heard
  hold-quiet h = record { registers = refl; attempts = refl; reply = inl refl; spoilt = λ e. inl (still d m.receiver.mark h); modes = λ x e. e }
    where
      still : (d : Bool) (mark : ℕ) → (eqb mark 1 || d) ≡ true → eqb (cond d 1 mark) 1 ≡ true
      still true mark h = refl
      still false mark h = ⊎_elim (λ e. e) (λ e. absurd (let z : ◌≡◌ {A = ℕ} 0 1 = cc in omega arith)) (or_cases (eqb mark 1) false h)

  drop-quiet : m.receiver.count ≡ 0 → (m.mode ≡ 1 → ⊥) → Quiet m c (heard m c d Drop)
  unfolding heard
  drop-quiet h k = record { registers = refl; attempts = refl; reply = inl refl; spoilt = λ e. inr (h, k); modes = λ x e. e }

  empty-quiet : (m.mode ≡ 1 → ⊥) → Quiet m c (heard m c d Empty)
  unfolding heard
  empty-quiet k = record { registers = refl; attempts = refl; reply = inl refl; spoilt = λ e. inr (refl, k); modes = λ x e. e }

  restart-quiet : stray m.mode c ≡ true → Quiet m c (heard m c d Restart)
  unfolding heard
  restart-quiet h = record { registers = refl; attempts = refl; reply = inl refl; spoilt = λ e. not-both (stray m.mode c) h e; modes = λ x e. e }

  line_quiet : m.mode ≡ 0 → marked m.receiver ≡ true → Quiet m c (heard m c d Line)
  unfolding heard line_ended
  line_quiet z h = rw h (record { registers = refl; attempts = refl; reply = inl refl; spoilt = λ e. inr (refl, λ q. omega arith); modes = λ x e. falls m.mode x (omega arith) e })

  confirm-quiet : m.mode ≡ 1 → seen ≡ true → Quiet m c (heard m c d Confirm)
  unfolding heard confirmed
  confirm-quiet z h = rw h (record { registers = refl; attempts = refl; reply = inl refl; spoilt = λ e. inr (refl, λ q. omega arith); modes = λ x e. falls m.mode x (omega arith) e })

  nak-quiet : (n : ℕ) → (m.mode ≡ 1 → ⊥) → Quiet m c (nak n m)
  unfolding after_refusal refused_reply
  nak-quiet n k =
      record {
        registers = refl;
        attempts = refl;
        reply = rw optical (inr refl);
        spoilt = λ e. inr (refl, rw optical (choice.told (λ (i : ℕ). i ≡ 1 → ⊥) (eqb m.mode 2) (λ two q. omega arith) (λ not-two. k)));
        modes = λ x e. rw optical (choice.told (λ (i : ℕ). stray i x ≡ false) (eqb m.mode 2) (λ two. falls m.mode x (omega (arith, eqb-true m.mode 2 two)) e) (λ not-two. e));
      }

  -- a place changes nothing of it
  placed-quiet : (o : Outcome) (place : ℕ) → Quiet m c o → Quiet m c (at_place o place)
  placed-quiet o place q = record { registers = q.registers; attempts = q.attempts; reply = q.reply; spoilt = q.spoilt; modes = q.modes }

  frame-quiet : (m.mode ≡ 1 → ⊥) → seen ≡ true → Quiet m c (heard m c d Frame)
  unfolding heard verdict acted
  frame-quiet k h = rw h (placed-quiet _ _ (nak-quiet 3 k))

  too-long-quiet : (m.mode ≡ 1 → ⊥) → Quiet m c (heard m c d TooLong)
  unfolding heard
  too-long-quiet k = nak-quiet 5 k

  module _ (zero_is : d ≡ true → c ≡ 0) (h : (seen ≡ true) ⊎ ((m.receiver.count ≡ 0) × (m.mode ≡ 1 → ⊥))) where
    abbrev P : Hearing → Type 0
    P x = Quiet m c (heard m c d x)

    -- something is held, or a confirmation is: then damage was seen
    seen-held : (m.receiver.count ≡ 0 → ⊥) → seen ≡ true
    seen-held k = ⊎_elim (λ e. e) (λ e. absurd (k e.0)) h

    seen_one : m.mode ≡ 1 → seen ≡ true
    seen_one k = ⊎_elim (λ e. e) (λ e. absurd (e.1 k)) h

    -- LF is no damaged character
    marked-line : eqb c 10 ≡ true → (m.receiver.count ≡ 0 → ⊥) → marked m.receiver ≡ true
    marked-line e k =
        ⊎_elim (λ q. q) (λ q. absurd (let z : c ≡ 0 = zero_is q in omega (arith, eqb-true c 10 e))) (or_cases (marked m.receiver) d (seen-held k))

    listening-quiet : m.mode ≡ 0 → P (listening m.receiver.count c)
    unfolding listening stray
    listening-quiet z =
        let other : m.mode ≡ 1 → ⊥ = λ q. omega arith in
        choice.told P (eqb c 47) (λ e. restart-quiet (rw (z, e)))
        (λ e47. choice.told P (eqb m.receiver.count 0) (λ e. drop-quiet (eqb-true m.receiver.count 0 e) other)
        (λ some. choice.told P (eqb c 10) (λ e. line_quiet z (marked-line e (eqb-false m.receiver.count 0 some)))
        (λ e10. choice.told P (leb 31 m.receiver.count) (λ e. empty-quiet other) (λ e. hold-quiet (seen-held (eqb-false m.receiver.count 0 some))))))

    confirming-quiet : m.mode ≡ 1 → P (confirming m.receiver.count)
    unfolding confirming
    confirming-quiet z = choice.told P (leb 5 m.receiver.count) (λ e. confirm-quiet z (seen_one z)) (λ e. hold-quiet (seen_one z))

    framing-quiet : 2 ≤ m.mode → P (framing m.receiver.count (last_held m.receiver) c)
    unfolding framing stray
    framing-quiet z =
        let count = m.receiver.count in
        let other : m.mode ≡ 1 → ⊥ = λ q. omega arith in
        choice.told P (not (eqb count 0) && eqb (last_held m.receiver) 3) (λ e. frame-quiet other (seen-held (held-some (eqb count 0) (eqb (last_held m.receiver) 3) refl e)))
        (λ e3. choice.told P (eqb c 1) (λ e. restart-quiet (rw (le-leb 2 m.mode z, e)))
        (λ e1. choice.told P (eqb count 0) (λ e. drop-quiet (eqb-true count 0 e) other)
        (λ some. choice.told P (leb most_held count) (λ e. too-long-quiet other) (λ e. hold-quiet (seen-held (eqb-false count 0 some))))))
      where
        held-some : (b l : Bool) → eqb m.receiver.count 0 ≡ b → (not b && l) ≡ true → m.receiver.count ≡ 0 → ⊥
        held-some true l e q = absurd (let z : ◌≡◌ {A = ℕ} 0 1 = cc in omega arith)
        held-some false l e q = eqb-false m.receiver.count 0 e

    pub heard-quiet : P (hearing m.mode m.receiver.count (last_held m.receiver) c)
    unfolding hearing
    heard-quiet =
        choice.told P (eqb m.mode 0) (λ e. listening-quiet (eqb-true m.mode 0 e))
        (λ n0. choice.told P (eqb m.mode 1) (λ e. confirming-quiet (eqb-true m.mode 1 e))
        (λ n1. framing-quiet (above (eqb-false m.mode 0 n0) (eqb-false m.mode 1 n1))))
      where
        above : (m.mode ≡ 0 → ⊥) → (m.mode ≡ 1 → ⊥) → 2 ≤ m.mode
        above a b = ⊎_elim (λ l. l) (λ l. ⊎_elim (λ k. absurd (b (omega arith))) (λ k. absurd (a (omega arith))) (le-or-lt 1 m.mode)) (le-or-lt 2 m.mode)

-- ---- a byte

module _ (m : Meter) (f : well_formed m ≡ true) (optical : is_wired (link_of m) ≡ false) (b : ℕ) where
  damaged-zero : damaged_at b ≡ true → symbol b ≡ 0
  unfolding symbol
  damaged-zero h = rw h

  byte-quiet : ((marked m.receiver || damaged_at b) ≡ true) ⊎ ((m.receiver.count ≡ 0) × (m.mode ≡ 1 → ⊥)) → Quiet m (symbol b) (character m reply_room b)
  unfolding character taken
  byte-quiet h = rw (edition-good m f, f) (heard-quiet m (symbol b) (damaged_at b) optical damaged-zero h)

  -- a damaged one, whatever is held
  pub damaged-quiet : damaged_at b ≡ true → Quiet m (symbol b) (character m reply_room b)
  damaged-quiet h = byte-quiet (inl (or_right (marked m.receiver) (damaged_at b) h))

  -- and any, once one was
  pub spoilt-quiet : Spoilt m → Quiet m (symbol b) (character m reply_room b)
  spoilt-quiet (inl h) = byte-quiet (inl (rw h))
  spoilt-quiet (inr h) = byte-quiet (inr h)
