-- Two results that a look may have are the same: what is told of them leaves one settled event, and which refusal it is stands beside it. Assumes nothing.
use mathlib.Core.Path.{◌≡◌, refl, sym, ap, ◌∙◌}
use mathlib.Core.Bool.{Bool, true, false, cond}
use mathlib.Core.List.{List}
use Rattle.std.specs.Prelude.{Option, Some, None, Result, Ok, Err, IfErr}
use Prim.Native.Nat.{ℕ, ◌≤◌}
use native.Mathlib.Omega.{arith}
use lib.Dec.{eqb, ltb}
use Rattle.values.specs.Edition.{is_edition}
use Rattle.state.specs.Sizes.{reply_room}
use Rattle.meter.specs.declared.Event.{Event}
use Rattle.meter.specs.declared.Event.TheVariants.{Character, Silence, Tick, Pulse, PowerUp, PulseOut, Unknown}
use Rattle.meter.specs.Events.{pulse_refused}
use Rattle.meter.specs.Life.{refusal}
use Rattle.receiving.specs.declared.Holding.{Holding}
use Rattle.settling.specs.declared.Seen.{Seen}
use Rattle.settling.specs.declared.Moved.{Moved}
use Rattle.settling.specs.declared.Moved.TheVariants.{Second, CameIn, WentOut}
use Rattle.settling.specs.declared.Settled.{Settled}
use Rattle.settling.specs.declared.Refusal.{Refusal}
use Rattle.settling.specs.declared.Refusal.TheVariants.{NoEdition, Event as EventRefused, Malformed}
use Rattle.settling.specs.Settling.{Change, Stay, Time, In, Out, Heard, number_of, refusal_by, answered, change_of, counters_of, said, heard_or_left, told, settles_by}

-- what refuses an event has a number of its own, neither 0 nor 1
refusal-high : (family room : ℕ) (e : Event) → eqb (refusal family room e) 0 ≡ false → 2 ≤ refusal family room e
unfolding refusal
refusal-high family room (Character b) h = go (ltb room reply_room) h
  where
    go : (k : Bool) → eqb (cond k 12 0) 0 ≡ false → 2 ≤ cond k 12 0
    go true h = omega arith
    go false h = absurd (let z : ◌≡◌ {A = ℕ} 0 1 = cc in omega arith)
refusal-high family room Silence h = go (ltb room reply_room) h
  where
    go : (k : Bool) → eqb (cond k 12 0) 0 ≡ false → 2 ≤ cond k 12 0
    go true h = omega arith
    go false h = absurd (let z : ◌≡◌ {A = ℕ} 0 1 = cc in omega arith)
refusal-high family room Tick h = absurd (let z : ◌≡◌ {A = ℕ} 0 1 = cc in omega arith)
refusal-high family room (Pulse units) h = go (pulse_refused family false units) h
  where
    go : (k : Bool) → eqb (cond k 13 0) 0 ≡ false → 2 ≤ cond k 13 0
    go true h = omega arith
    go false h = absurd (let z : ◌≡◌ {A = ℕ} 0 1 = cc in omega arith)
refusal-high family room PowerUp h = absurd (let z : ◌≡◌ {A = ℕ} 0 1 = cc in omega arith)
refusal-high family room (PulseOut units) h = go (pulse_refused family true units) h
  where
    go : (k : Bool) → eqb (cond k 13 0) 0 ≡ false → 2 ≤ cond k 13 0
    go true h = omega arith
    go false h = absurd (let z : ◌≡◌ {A = ℕ} 0 1 = cc in omega arith)
refusal-high family room Unknown h = omega arith

named-high : (s : Seen) (room : ℕ) (e : Event) → 2 ≤ number_of (refusal_by s room e)
unfolding refusal_by
named-high s room e = go (is_edition s.edition) (eqb (refusal s.family room e) 0) (refusal-high s.family room e)
  where
    go : (k p : Bool) → (p ≡ false → 2 ≤ refusal s.family room e) → 2 ≤ number_of (cond k (cond p Malformed (EventRefused (refusal s.family room e))) NoEdition)
    go false p f = omega arith
    go true true f = omega arith
    go true false f = f refl

answered-low : (x : Option Moved) → answered x ≤ 1
answered-low None = omega arith
answered-low (Some x) = omega arith

one-moved : (s : Seen) (x y : Option Moved) → answered x ≡ answered y → change_of x ≡ change_of y → counters_of s.counters x ≡ counters_of s.counters y → x ≡ y
one-moved s None None n c k = refl
one-moved s None (Some y) n c k = absurd (omega (arith, n))
one-moved s (Some x) None n c k = absurd (omega (arith, n))
one-moved s (Some (Second t)) (Some (Second u)) n c k = cc
one-moved s (Some (Second t)) (Some (CameIn u)) n c k = absurd (let z : ◌≡◌ {A = ℕ} 0 1 = cc in omega arith)
one-moved s (Some (Second t)) (Some (WentOut u)) n c k = absurd (let z : ◌≡◌ {A = ℕ} 0 1 = cc in omega arith)
one-moved s (Some (CameIn t)) (Some (Second u)) n c k = absurd (let z : ◌≡◌ {A = ℕ} 0 1 = cc in omega arith)
one-moved s (Some (CameIn t)) (Some (CameIn u)) n c k = cc
one-moved s (Some (CameIn t)) (Some (WentOut u)) n c k = absurd (let z : ◌≡◌ {A = ℕ} 0 1 = cc in omega arith)
one-moved s (Some (WentOut t)) (Some (Second u)) n c k = absurd (let z : ◌≡◌ {A = ℕ} 0 1 = cc in omega arith)
one-moved s (Some (WentOut t)) (Some (CameIn u)) n c k = absurd (let z : ◌≡◌ {A = ℕ} 0 1 = cc in omega arith)
one-moved s (Some (WentOut t)) (Some (WentOut u)) n c k = cc

settled_of : Holding → ℕ → ℕ → ℕ → Option Moved → Settled
settled_of holding count mark place moved = record { kept = record { holding = holding; count = count; mark = mark; place = place }; moved = moved }

one-said : (s : Seen) (x y : Settled) → said s x ≡ said s y → x ≡ y
unfolding settled_of
one-said s x y e =
    let moved = one-moved s x.moved y.moved (ap (λ (h : Heard). h.number) e) (ap (λ (h : Heard). h.change) e) (ap (λ (h : Heard). h.counters) e) in
    let holding = ap (λ (h : Heard). h.holding) e in
    let count = ap (λ (h : Heard). h.count) e in
    let mark = ap (λ (h : Heard). h.mark) e in
    let place = ap (λ (h : Heard). h.place) e in
    let same : settled_of x.kept.holding x.kept.count x.kept.mark x.kept.place x.moved ≡ settled_of y.kept.holding y.kept.count y.kept.mark y.kept.place y.moved = cc in
    same

one-left : (s : Seen) (x y : Option Settled) → heard_or_left s x ≡ heard_or_left s y → x ≡ y
one-left s None None e = refl
one-left s None (Some y) e = absurd (let z = ap (λ (h : Heard). h.settled) e in let z : ◌≡◌ {A = ℕ} 0 1 = cc in omega arith)
one-left s (Some x) None e = absurd (let z = ap (λ (h : Heard). h.settled) e in let z : ◌≡◌ {A = ℕ} 0 1 = cc in omega arith)
one-left s (Some x) (Some y) e = ap Some (one-said s x y e)

-- what is settled or left tells of no refusal
never : (s : Seen) (room : ℕ) (e : Event) (x : Option Settled) (r : Refusal) → r ≡ refusal_by s room e → told s (Ok x) ≡ told s (Err r) → ⊥
never s room e None r n h = let z = ap (λ (h : Heard). h.settled) h in let z : ◌≡◌ {A = ℕ} 0 1 = cc in omega arith
never s room e (Some x) r n h = omega (arith, ap (λ (h : Heard). h.number) h, answered-low x.moved, rw (← n) at (named-high s room e))

pub one-look : (s : Seen) (formed : Bool) (held tables : List ℕ) (room : ℕ) (e : Event) (x y : Result (Option Settled) Refusal)
    → told s x ≡ settles_by s formed held tables room e → told s y ≡ settles_by s formed held tables room e
    → IfErr x (λ r. r ≡ refusal_by s room e) → IfErr y (λ r. r ≡ refusal_by s room e) → x ≡ y
one-look s formed held tables room e (Ok x) (Ok y) t u n m = ap Ok (one-left s x y (t ∙ sym u))
one-look s formed held tables room e (Ok x) (Err r) t u n m = absurd (never s room e x r m (t ∙ sym u))
one-look s formed held tables room e (Err r) (Ok y) t u n m = absurd (never s room e y r n (u ∙ sym t))
one-look s formed held tables room e (Err r) (Err q) t u n m = ap Err (n ∙ sym m)
