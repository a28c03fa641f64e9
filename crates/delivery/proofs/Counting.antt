-- The loop that feeds bytes: what is counted so far with what is left is the whole, and so is the state. And what the export's answer comes to.
-- Assumes nothing.
use mathlib.Core.Path.{◌≡◌, refl, sym, ap, ap₂, subst, ◌∙◌}
use mathlib.Core.Bool.{Bool, true, false, cond}
use mathlib.Core.Logic.{inl, inr, ⊎_elim}
use mathlib.Core.List.{List, [], ◌∷◌, ◌++◌}
use Prim.Native.Nat.{ℕ, ◌+◌, ◌≤◌, ◌<◌}
use native.Mathlib.Omega.{arith}
use lib.Dec.{eqb}
use lib.ListN.{length, get_or, take, drop, replicate, drop_of_length-le}
use Rattle.line.proofs.Runs.{left-next}
use Rattle.state.specs.Sizes.{reply_room}
use Rattle.state.specs.WellFormed.{tables_in, edition_of}
use Rattle.values.proofs.Editions.{tables-most}
use Rattle.state.specs.declared.Meter.{Meter}
use Rattle.meter.specs.Character.{character}
use Rattle.post.specs.Grammar.{Entry, IsPost}
use Rattle.post.proofs.Reading.{good-rising, one-reading}
use Rattle.text.proofs.Beginnings.{one-longest}
use Rattle.export.specs.Frames.{frames_of, ExportedAs}
use Rattle.export.proofs.Answers.{room-enough, not-done}
use Rattle.std.specs.Prelude.{Result, Ok, Err, IsErrAnd}
use Rattle.export.specs.declared.Refusal.{Refusal}
use Rattle.export.specs.Refusals.{refusal_number, refusal_place, answer_number, answer_place}
use Rattle.delivery.specs.declared.Fed.{Fed}
use Rattle.delivery.specs.Outcome.{acknowledged_in, left_in}
use Rattle.dialogue.specs.Feeding.{Said, answered, left, full}
use Rattle.delivery.specs.Acknowledged.{nothing, acknowledgement, is_done, acknowledgements, acknowledged_once}
use Rattle.delivery.specs.Delivery.{Delivered, DeliveredAs}
use Rattle.delivery.proofs.Delivery.{entries-fed, delivery, exported-frames}

-- i bytes were fed: so many answers 1, and this state
pub record Feeding (m : Meter) (s : List ℕ) (i done : ℕ) (next : Meter) : Type 0 where
  pub within : i ≤ length s
  pub few : done ≤ i
  pub counted : done + acknowledgements (answered next full (drop i s)) ≡ acknowledgements (answered m full s)
  pub onward : left next full (drop i s) ≡ left m full s

pub feeding-none : (m : Meter) (s : List ℕ) → Feeding m s 0 0 m
feeding-none m s = record { within = omega arith; few = omega arith; counted = omega arith; onward = refl }

pub done-most : (n : ℕ) → is_done n ≤ 1
unfolding is_done
done-most n = pick (eqb n 1)
  where
    pick : (b : Bool) → cond b 1 0 ≤ 1
    pick true = omega arith
    pick false = omega arith

count_next : (m : Meter) (b : ℕ) (bs : List ℕ)
    → acknowledgements (answered m full (b ∷ bs)) ≡ is_done (character m reply_room b).number + acknowledgements (answered (character m reply_room b).next full bs)
unfolding answered acknowledgements
count_next m b bs = refl

left-cons : (m : Meter) (b : ℕ) (bs : List ℕ) → left m full (b ∷ bs) ≡ left (character m reply_room b).next full bs
unfolding left
left-cons m b bs = refl

pub feeding-next : (m : Meter) (s : List ℕ) (i done : ℕ) (next : Meter) (more : ℕ) (after : Meter) → i < length s
    → more ≡ done + is_done (character next reply_room (get_or s i 0)).number → after ≡ (character next reply_room (get_or s i 0)).next
    → Feeding m s i done next → Feeding m s (i + 1) more after
feeding-next m s i done next more after h e t f =
    let b = get_or s i 0 in
    let rest = drop (i + 1) s in
    let d = is_done (character next reply_room b).number in
    let l = left-next i s h in
    let count : acknowledgements (answered next full (drop i s)) ≡ d + acknowledgements (answered after full rest) =
    ap (λ (u : List ℕ). acknowledgements (answered next full u)) l
    ∙ count_next next b rest
    ∙ sym (ap (λ (x : Meter). d + acknowledgements (answered x full rest)) t) in
    let w = f.few in
    record {
      within = omega arith;
      few = omega (arith, done-most (character next reply_room b).number);
      counted = omega (arith, f.counted);
      onward = ap (λ (x : Meter). left x full rest) t ∙ sym (left-cons next b rest) ∙ sym (ap (left next full) l) ∙ f.onward;
    }

pub feeding-all : (m : Meter) (s : List ℕ) (i done : ℕ) (next : Meter) → length s ≤ i → Feeding m s i done next
    → (done ≡ acknowledgements (answered m full s)) × (next ≡ left m full s)
unfolding answered acknowledgements left
feeding-all m s i done next h f =
    let e : drop i s ≡ [] = drop_of_length-le s h in
    (omega (arith, rw e at f.counted), rw e at f.onward)

-- one acknowledgement a line
count-append : (a b : List Said) → acknowledgements (a ++ b) ≡ acknowledgements a + acknowledgements b
unfolding acknowledgements
count-append [] b = omega arith
count-append (x ∷ a) b = omega (arith, count-append a b)

frame-count : (speed : ℕ) → acknowledgements (replicate 35 (nothing speed) ++ (acknowledgement speed ∷ [])) ≡ 1
unfolding acknowledgements is_done
frame-count speed = refl

pub count-once : (speed : ℕ) (es : List Entry) → acknowledgements (acknowledged_once speed es) ≡ length es
unfolding acknowledged_once
count-once speed [] = unfold acknowledgements in refl
count-once speed (e ∷ es) =
    count-append (replicate 35 (nothing speed) ++ (acknowledgement speed ∷ [])) (acknowledged_once speed es) ∙ ap₂ ◌+◌ (frame-count speed) (count-once speed es) ∙ omega arith

-- what the export's answer comes to
module _ (m : Meter) (text out : List ℕ) (number size place : ℕ) (after : List ℕ) (room : 900 ≤ length out) where
  pub not-delivered : (number ≡ 1 → ⊥) → ExportedAs (tables_in m.registers) text out number size place after → DeliveredAs m text number place 0 m
  unfolding DeliveredAs ExportedAs
  not-delivered other (inl x) = absurd (other x.done)
  not-delivered other (inr (inl x)) =
      absurd (⊎_elim other (λ e. omega (arith, x.refused)) (room-enough (tables_in m.registers) text out number size place after (omega (arith, room, tables-most (edition_of m))) (inr (inl x))))
  not-delivered other (inr (inr x)) = inr (record { refused = x.refused; no-post = x.no-post; longest = x.longest; none = refl; kept = refl })

  pub was-delivered : (done : ℕ) (next : Meter) → number ≡ 1 → done ≡ acknowledgements (answered m full (take size after)) → next ≡ left m full (take size after)
      → ExportedAs (tables_in m.registers) text out number size place after → DeliveredAs m text 1 0 done next
  unfolding DeliveredAs ExportedAs
  was-delivered done next one c e (inl x) =
      let p = x.is-post in
      let f = exported-frames (tables_in m.registers) text out number size place after x in
      let count : done ≡ acknowledgements (answered m full (frames_of p.entries)) = c ∙ ap (λ (b : List ℕ). acknowledgements (answered m full b)) f in
      let fed : next ≡ left m full (frames_of p.entries) = e ∙ ap (left m full) f in
      inl
      (record {
        done = refl;
        is-post = p;
        no_place = refl;
        counted = count;
        fed = fed;
        each = λ r. count ∙ ap acknowledgements (entries-fed m r p.entries (good-rising (tables_in m.registers) p.entries p.good)).said-is ∙ count-once m.speed p.entries;
        delivered =
            λ r.
            subst (λ (y : Meter). Delivered m p.entries (answered m full (frames_of p.entries)) y) (sym fed)
            (delivery m r text p full (λ i. omega arith));
      })
  was-delivered done next one c e (inr (inl x)) = absurd (omega (arith, x.refused))
  was-delivered done next one c e (inr (inr x)) = absurd (omega (arith, x.refused))

-- a refusal of the export is the delivery's
pub refused : (m : Meter) (text out : List ℕ) (r : Refusal) (after : List ℕ) → 900 ≤ length out → ExportedAs (tables_in m.registers) text out (refusal_number r) 0 (refusal_place r) after
    → (answer : Result Fed Refusal) → IsErrAnd answer (λ e. e ≡ r) → DeliveredAs m text (answer_number answer) (answer_place answer) (acknowledged_in answer) (left_in m answer)
refused m text out r after room x (Ok fed) e = absurd e
refused m text out r after room x (Err why) e = rw e (not-delivered m text out (refusal_number r) 0 (refusal_place r) after room (not-done r) x)

-- any two answers that are right are equal, with the next state
pub one-delivery : (m : Meter) (text : List ℕ) (n p k : ℕ) (x : Meter) (i q j : ℕ) (y : Meter) → DeliveredAs m text n p k x → DeliveredAs m text i q j y
    → (n ≡ i) × (p ≡ q) × (k ≡ j) × (x ≡ y)
unfolding DeliveredAs
one-delivery m text n p k x i q j y (inl a) (inl b) =
    let u = a.is-post in
    let v = b.is-post in
    let same = one-reading (tables_in m.registers) u.entries v.entries (omega (arith, tables-most (edition_of m))) u.good v.good (u.spelt ∙ sym v.spelt) in (
      a.done ∙ sym b.done,
      a.no_place ∙ sym b.no_place,
      a.counted ∙ ap (λ (es : List Entry). acknowledgements (answered m full (frames_of es))) same ∙ sym b.counted,
      a.fed ∙ ap (λ (es : List Entry). left m full (frames_of es)) same ∙ sym b.fed,
    )
one-delivery m text n p k x i q j y (inl a) (inr b) = absurd (b.no-post a.is-post)
one-delivery m text n p k x i q j y (inr a) (inl b) = absurd (a.no-post b.is-post)
one-delivery m text n p k x i q j y (inr a) (inr b) =
    (a.refused ∙ sym b.refused, one-longest (IsPost (tables_in m.registers)) text p q a.longest b.longest, a.none ∙ sym b.none, a.kept ∙ sym b.kept)
