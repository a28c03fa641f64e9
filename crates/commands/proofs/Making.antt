-- The three ways out of a builder, and what the pieces of a command leave in the buffer, once over their lengths.
-- Assumes nothing.
use mathlib.Core.Path.{◌≡◌, refl, sym, ap, subst, ◌∙◌}
use mathlib.Core.Bool.{Bool, true, false}
use mathlib.Core.List.{List, [], ◌∷◌, ◌++◌, append_assoc}
use Prim.Native.Nat.{ℕ, ◌+◌, ◌<◌, ◌≤◌}
use native.Mathlib.Omega.{arith}
use borrow.Author.Tests.{lt-ltb, le-ltb, both_ways}
use lib.ListN.{length, take, drop, length-append, length-map}
use lib.Seq.{take_at, drop_at, drop-append-add, drop-drop}
use Rattle.line.specs.Characters.{sent}
use Rattle.text.specs.Writing.{stored, holding}
use Rattle.text.proofs.Writing.{and_then, stored-holding}
use Rattle.values.specs.Edition.{is_edition}
use Rattle.frames.specs.Frames.{sealed, on_wire}
use Rattle.frames.proofs.Closing.{sealed-length}
use Rattle.std.specs.Prelude.{Err, IsErrOf}
use Rattle.commands.specs.declared.Refusal.{Refusal}
use Rattle.commands.specs.declared.Refusal.TheVariants.{Field, NoEdition, Short}
use Rattle.commands.specs.Building.{Built, told, built_in, kept_or, Builds, BuildsFor, Made}

module _ (buf : List ℕ) (ok : Bool) (command : List ℕ) where
  pub too_short : (e : Refusal) → (length buf < 64) × IsErrOf {T = Unit {0}} (Err e) Short → Builds buf ok command (told (Err e)) buf
  unfolding built_in kept_or
  too_short e h =
      let is : e ≡ Short = cc h.1 in
      record { answer = rw (lt-ltb (length buf) 64 h.0, is); held = rw (lt-ltb (length buf) 64 h.0) }

  pub field-refused : (e : Refusal) → 64 ≤ length buf → ok ≡ false → IsErrOf {T = Unit {0}} (Err e) Field → Builds buf ok command (told (Err e)) buf
  unfolding built_in kept_or
  field-refused e h f k =
      let is : e ≡ Field = cc k in
      record { answer = rw (le-ltb (length buf) 64 h, f, is); held = rw (le-ltb (length buf) 64 h, f) }

  pub built : (r : Built) (after : List ℕ) → 64 ≤ length buf → ok ≡ true → Made buf command r after → Builds buf ok command r after
  unfolding built_in kept_or
  built r after h f m = record { answer = rw (le-ltb (length buf) 64 h, f) m.answer; held = rw (le-ltb (length buf) 64 h, f) m.held }

-- an edition that there is not
pub no-edition : (edition : ℕ) (buf : List ℕ) (ok : Bool) (command : List ℕ) (e : Refusal) → (is_edition edition ≡ false) × IsErrOf {T = ℕ} (Err e) NoEdition
    → BuildsFor edition buf ok command (told (Err e)) buf
no-edition edition buf ok command e h =
    let is : e ≡ NoEdition = cc h.1 in
    record { none = λ _. (rw is, refl); some = λ k. absurd (both_ways _ h.0 k) }

-- the field's test is what the rule says of it
pub judged : (buf : List ℕ) (ok good : Bool) (command : List ℕ) (r : Built) (after : List ℕ) → good ≡ ok → Builds buf good command r after → Builds buf ok command r after
judged buf ok good command r after e = subst (λ (b : Bool). Builds buf b command r after) e

-- a message put in from the front, with parity
pub said : (buf m : List ℕ) (n : ℕ) → length m ≤ length buf → n ≡ length m
    → on_wire (take n (stored buf 0 m)) ++ drop n (stored buf 0 m) ≡ holding buf (on_wire m)
unfolding holding
said buf m n h e =
    rw (
      stored-holding buf m h,
      take_at m (drop (length m) buf) n (sym e),
      drop_at m (drop (length m) buf) n (sym e),
      length-map m sent,
    )

-- a message put in from the front, closed
pub shut : (buf m : List ℕ) (n : ℕ) → 1 ≤ length m → length m + 2 ≤ length buf → n ≡ length m
    → holding (stored buf 0 m) (on_wire (sealed (take n (stored buf 0 m)))) ≡ holding buf (on_wire (sealed m))
unfolding holding
shut buf m n p h e =
    let fits : length m ≤ length buf = omega arith in
    rw (
      stored-holding buf m fits,
      take_at m (drop (length m) buf) n (sym e),
      length-map (sealed m) sent,
      sealed-length m p,
      drop-append-add m (drop (length m) buf) 2,
      drop-drop 2 (length m) buf,
    )

-- three texts put in one after the other
pub record Three (buf s t u b : List ℕ) (n : ℕ) : Type 0 where
  pub held : b ≡ stored buf 0 (s ++ (t ++ u))
  pub long : n ≡ length (s ++ (t ++ u))

pub three : (buf s t u b1 : List ℕ) (p1 : ℕ) (b2 : List ℕ) (p2 : ℕ) (b3 : List ℕ) (p3 : ℕ)
    → p1 ≡ 0 + length s → b1 ≡ stored buf 0 s
    → p2 ≡ p1 + length t → b2 ≡ stored b1 p1 t
    → p3 ≡ p2 + length u → b3 ≡ stored b2 p2 u → Three buf s t u b3 p3
three buf s t u b1 p1 b2 p2 b3 p3 q1 e1 q2 e2 q3 e3 =
    let l : length (s ++ t) ≡ length s + length t = length-append s t in
    let m : length (s ++ (t ++ u)) ≡ length s + (length t + length u) = length-append s (t ++ u) ∙ ap (λ (k : ℕ). length s + k) (length-append t u) in
    let place : p2 ≡ 0 + length (s ++ t) = omega arith in
    record {
      held = and_then buf 0 (s ++ t) b2 p2 u b3 (and_then buf 0 s b1 p1 t b2 e1 q1 e2) place e3 ∙ ap (stored buf 0) (append_assoc s t u);
      long = omega arith;
    }

-- a line that was put in from the front, with parity, is made
pub line_made : (buf m b : List ℕ) (n : ℕ) (after : List ℕ) → b ≡ stored buf 0 m → n ≡ length m → length m ≤ length buf
    → after ≡ on_wire (take n b) ++ drop n b → Made buf (on_wire m) (record { number = 1; length = n }) after
line_made buf m b n after e l h f =
    record { answer = rw (length-map m sent, l); held = f ∙ (rw e (said buf m n h l)) }

-- a frame that was put in from the front and closed is made
pub frame_made : (buf m b : List ℕ) (n whole : ℕ) (after : List ℕ) → b ≡ stored buf 0 m → n ≡ length m → 1 ≤ length m → length m + 2 ≤ length buf
    → whole ≡ n + 2 → after ≡ holding b (on_wire (sealed (take n b))) → Made buf (on_wire (sealed m)) (record { number = 1; length = whole }) after
frame_made buf m b n whole after e l p h w f =
    record { answer = rw (length-map (sealed m) sent, sealed-length m p, w, l); held = f ∙ (rw e (shut buf m n p h l)) }

three-long : (s t u : List ℕ) → length (s ++ (t ++ u)) ≡ length s + (length t + length u)
three-long s t u = length-append s (t ++ u) ∙ ap (λ (k : ℕ). length s + k) (length-append t u)

pub line-of-three : (buf s t u b : List ℕ) (n : ℕ) (after : List ℕ) → Three buf s t u b n → length s + (length t + length u) ≤ length buf
    → after ≡ on_wire (take n b) ++ drop n b → Made buf (on_wire (s ++ (t ++ u))) (record { number = 1; length = n }) after
line-of-three buf s t u b n after k h f = line_made buf (s ++ (t ++ u)) b n after k.held k.long (omega (arith, three-long s t u)) f

pub frame-of-three : (buf s t u b : List ℕ) (n whole : ℕ) (after : List ℕ) → Three buf s t u b n → 1 ≤ length s → length s + (length t + length u) + 2 ≤ length buf
    → whole ≡ n + 2 → after ≡ holding b (on_wire (sealed (take n b))) → Made buf (on_wire (sealed (s ++ (t ++ u)))) (record { number = 1; length = whole }) after
frame-of-three buf s t u b n whole after k p h w f =
    frame_made buf (s ++ (t ++ u)) b n whole after k.held k.long (omega (arith, three-long s t u)) (omega (arith, three-long s t u)) w f

-- a frame is three characters longer than its start and its content
pub frame-long : (s t : List ℕ) → 1 ≤ length s → length (on_wire (sealed (s ++ (t ++ (41 ∷ []))))) ≡ length s + length t + 3
frame-long s t p =
    let m = s ++ (t ++ (41 ∷ [])) in
    let n : length m ≡ length s + (length t + 1) = three-long s t (41 ∷ []) in
    length-map (sealed m) sent ∙ (rw (sealed-length m (omega arith), n) (omega arith))

-- what was made is what stands at the front
pub front : (other command : List ℕ) (r : Built) (made : List ℕ) → Made other command r made → take r.length made ≡ command
unfolding holding
front other command r made m =
    let n : r.length ≡ length command = ap (λ (b : Built). b.length) m.answer in
    rw m.held (take_at command (drop (length command) other) r.length (sym n))

-- and it is made in another buffer that it is put into
pub put-over : (other buf command : List ℕ) (r : Built) (made after : List ℕ) → Made other command r made
    → after ≡ stored buf 0 (take r.length made) → length command ≤ length buf → Made buf command r after
put-over other buf command r made after m e h =
    record { answer = m.answer; held = e ∙ (rw (front other command r made m) (stored-holding buf command h)) }
