-- What a good session is, what a builder says, and which energies can be asked for. Assumes nothing.
use mathlib.Core.Path.{◌≡◌, refl, sym, ap, ◌∙◌}
use mathlib.Core.Bool.{Bool, true, false, cond, ◌&&◌, ◌||◌}
use mathlib.Core.List.{List}
use Prim.Native.Nat.{ℕ, ◌+◌, ◌≤◌, ◌<◌}
use native.Mathlib.Omega.{arith}
use borrow.Author.Tests.{leb-true, le-ltb, eqb-true, eq-eqb, ne_eqb}
use lib.Dec.{eqb, leb}
use lib.ListN.{length, replicate}
use Rattle.line.proofs.Runs.{and_left, and_right}
use Rattle.text.specs.Writing.{holding}
use Rattle.values.specs.Edition.{tables_of}
use Rattle.values.specs.Family.{is_eqm}
use Rattle.values.specs.Registers.{good_digits, good_serial, good_zone}
use Rattle.commands.specs.Spoken.{read_total, read_zone, read_total_out, read_zone_out, good_fields}
use Rattle.values.proofs.Rules.{digits_long}
use Rattle.commands.specs.Messages.{call, call_to, good_message}
use Rattle.std.specs.Prelude.{Result, Ok, Err, IsOk, Option, Some, None, IfSome, IfNone, unwrap_or}
use mathlib.Core.Logic.{◌⊎◌, inl, inr}
use Rattle.commands.specs.declared.Refusal.{Refusal}
use Rattle.commands.specs.declared.Refusal.TheVariants.{Field, NoEdition, Short}
use Rattle.commands.specs.Building.{Built, number_of, told, built_in, kept_or, Builds}
use Rattle.session.proofs.Pairs.{and-all}
use Rattle.session.specs.declared.Session.{Session}
use Rattle.session.specs.Messages.{calling, read_of}
use Rattle.session.specs.Starting.{Told, session_of}
use Rattle.session.specs.declared.Fact.{Fact}
use Rattle.session.specs.declared.Fact.TheVariants.{Done, Nak, Wrong, Silent}
use Rattle.session.specs.Refusals.{fact_number}
use Rattle.session.specs.Turns.{ends}
use Rattle.session.specs.Standing.{told_good, work_good, place_good, fact_good, session_told, session_good}

module _ (s : Session) (good : session_good s ≡ true) where
  placed : place_good s.count s.sent ≡ true
  unfolding session_good
  placed =
      let told = session_told s && work_good (tables_of s.edition) s.work s.access s.count in
      let stands = fact_good s.count s.sent s.fact in
      and_left (place_good s.count s.sent) stands (and_right told (place_good s.count s.sent && stands) good)

  pub count_most : s.count ≤ 32
  unfolding place_good
  count_most = leb-true s.count 32 (and_right (leb 1 s.count) _ (and_left (leb 1 s.count && leb s.count 32) _ placed))

  pub sent-most : s.sent ≤ s.count + 4
  unfolding place_good
  sent-most = leb-true s.sent (s.count + 4) (and_right (leb 1 s.sent) _ (and_right (leb 1 s.count && leb s.count 32) _ placed))

  pub sent-least : 1 ≤ s.sent
  unfolding place_good
  sent-least = leb-true 1 s.sent (and_left (leb 1 s.sent) _ (and_right (leb 1 s.count && leb s.count 32) _ placed))

  stood : fact_good s.count s.sent s.fact ≡ true
  unfolding session_good
  stood =
      let told = session_told s && work_good (tables_of s.edition) s.work s.access s.count in
      and_right (place_good s.count s.sent) _ (and_right told (place_good s.count s.sent && fact_good s.count s.sent s.fact) good)

  pub fact-most : s.fact ≤ 4
  unfolding fact_good
  fact-most = leb-true s.fact 4 (and_left (leb s.fact 4) _ stood)

-- no end has the number of a session that goes on
pub some-end : (f : Fact) (n : ℕ) → fact_number f ≡ n → n ≡ 0 → ⊥
some-end Done n e z = omega arith
some-end Nak n e z = omega arith
some-end Wrong n e z = omega arith
some-end Silent n e z = omega arith

pub no-end : (n : ℕ) → (n ≡ 0) ⊎ (4 < n) → n ≤ 4 → n ≡ 0
no-end n (inl z) h = z
no-end n (inr k) h = absurd (omega arith)

-- an ended session says the same again, and silence ends another one
pub ends-again : (s : Session) (o : Option Fact) → IfSome o (λ f. fact_number f ≡ s.fact) → IfNone o ((s.fact ≡ 0) ⊎ (4 < s.fact)) → s.fact ≤ 4
    → ends s (fact_number (unwrap_or o Silent)) ≡ cond (eqb s.fact 0) (ends s 4) (ends s s.fact)
ends-again s (Some f) e none h = rw (ne_eqb s.fact 0 (some-end f s.fact e), e)
ends-again s None e none h = rw (eq-eqb s.fact 0 (no-end s.fact none h))

-- a builder with room: 1 just where the fields are good, and then the command stands at the front
module _ (buf command after : List ℕ) (good : Bool) (r : Built) (b : Builds buf good command r after) (room : 64 ≤ length buf) where
  abbrev built_as : Bool → Built
  built_as g = cond g (record { number = 1; length = length command }) (record { number = 9; length = 0 })

  answer-is : r ≡ built_as good
  unfolding built_in
  answer-is = rw (le-ltb (length buf) 64 room) at b.answer

  held-is : after ≡ cond good (holding buf command) buf
  unfolding kept_or
  held-is = rw (le-ltb (length buf) 64 room) at b.held

  settled : (g : Bool) → good ≡ g → r.number ≡ cond g 1 9
  settled g e = ap (λ (x : Built). x.number) answer-is ∙ ap (λ (k : Bool). (built_as k).number) e ∙ numbered g
    where
      numbered : (g : Bool) → (built_as g).number ≡ cond g 1 9
      numbered true = refl
      numbered false = refl

  is-good : (g : Bool) → good ≡ g → r.number ≡ 1 → good ≡ true
  is-good true e h = e
  is-good false e h = absurd (omega (arith, h, settled false e))

  is-not : (g : Bool) → good ≡ g → (r.number ≡ 1 → ⊥) → good ≡ false
  is-not true e h = absurd (h (settled true e))
  is-not false e h = e

  pub built-done : r.number ≡ 1 → (good ≡ true) × ((r.length ≡ length command) × (after ≡ holding buf command))
  built-done h =
      let e = is-good good refl h in
      let a : r ≡ record { number = 1; length = length command } = rw e at answer-is in
      (e, (ap (λ (x : Built). x.length) a, rw e at held-is))

  pub built-not : (r.number ≡ 1 → ⊥) → (good ≡ false) × (after ≡ buf)
  built-not h =
      let e = is-not good refl h in
      (e, rw e at held-is)

not_one : (e : Refusal) → number_of e ≡ 1 → ⊥
not_one Field h = omega arith
not_one NoEdition h = omega arith
not_one Short h = omega arith

ok-or : (r : Result ℕ Refusal) → (told r).number ≡ 1 → IsOk r
ok-or (Ok n) h = refl
ok-or (Err e) h = absurd (not_one e h)

-- the same of what the builder returns
module _ (buf command after : List ℕ) (good : Bool) (r : Result ℕ Refusal) (b : Builds buf good command (told r) after) (room : 64 ≤ length buf) where
  pub ok-done : (n : ℕ) → r ≡ Ok n → (good ≡ true) × ((n ≡ length command) × (after ≡ holding buf command))
  ok-done n e =
      let w = built-done buf command after good (told r) b room (ap (λ (x : Result ℕ Refusal). (told x).number) e) in
      (w.0, (sym (ap (λ (x : Result ℕ Refusal). (told x).length) e) ∙ w.1.0, w.1.1))

  pub err-not : ((n : ℕ) → r ≡ Ok n → ⊥) → (good ≡ false) × (after ≡ buf)
  err-not never = built-not buf command after good (told r) b room (λ h. not_ok r never (ok-or r h))
    where
      not_ok : (x : Result ℕ Refusal) → ((n : ℕ) → x ≡ Ok n → ⊥) → IsOk x → ⊥
      not_ok (Ok n) never h = never n refl
      not_ok (Err e) never h = cc

  pub good-ok : good ≡ true → IsOk r
  good-ok e = ok-or r (settled buf command after good (told r) b room true e)

-- an energy is the total or a zone
pub energy-good : (tables family n : ℕ) (b : Bool) → (b || good_zone n) ≡ good_fields tables family (cond b read_total (read_zone n))
unfolding good_fields
energy-good tables family n true = refl
energy-good tables family n false = refl

-- what went out too, of an EQM meter
pub export-good : (tables family n : ℕ) (b : Bool) → (is_eqm family && (b || good_zone n)) ≡ good_fields tables family (cond b read_total_out (read_zone_out n))
unfolding good_fields
export-good tables family n true = and-all (is_eqm family)
export-good tables family n false = refl

out-by : (n : ℕ) (tables : ℕ) (b : Bool) → good_fields tables 0 (cond b read_total_out (read_zone_out n)) ≡ false
unfolding good_fields is_eqm
out-by n tables true = refl
out-by n tables false = refl

-- and never of one of document 01's family
pub unsuited : (tables family n : ℕ) → family ≡ 0 → good_fields tables family (read_of 71 n) ≡ false
unfolding read_of
unsuited tables family n e = rw e (out-by n tables (eqb n 0))

-- what is not built is the same whatever it would have been
pub unbuilt : (buf one other after : List ℕ) (r : Built) → Builds buf false one r after → Builds buf false other r after
unfolding built_in kept_or
unbuilt buf one other after r b = record { answer = b.answer; held = b.held }

-- a builder with room and good fields
module _ (buf command after : List ℕ) (good : Bool) (r : Built) (b : Builds buf good command r after) (room : 64 ≤ length buf) (e : good ≡ true) where
  pub built-long : r.length ≡ length command
  built-long =
      let a : r ≡ record { number = 1; length = length command } = rw e at (answer-is buf command after good r b room) in
      ap (λ (x : Built). x.length) a

  pub built-held : after ≡ holding buf command
  built-held = rw e at (held-is buf command after good r b room)

-- what was told with 1 is good, and what is kept of it too
pub told_is : (flag : ℕ) (g : Bool) → told_good flag g ≡ true → flag ≡ 1 → g ≡ true
unfolding told_good
told_is flag g h e = rw e at h

pub digits-told : (n flag : ℕ) (s : List ℕ) → told_good flag (good_digits n s) ≡ true → flag ≡ 1 → length s ≡ n
digits-told n flag s h e = digits_long n s (told_is flag (good_digits n s) h e)

call_by : (tables family : ℕ) (k : Bool) (flag : ℕ) (serial other : List ℕ) → eqb flag 1 ≡ k → told_good flag (good_serial serial) ≡ true
    → good_message tables family (cond k (call_to (cond k serial other)) call) ≡ true
unfolding good_message
call_by tables family true flag serial other e h = told_is flag (good_serial serial) h (eqb-true flag 1 e)
call_by tables family false flag serial other e h = refl

-- so the sign-on can be built
pub call-good : (t : Told) (count : ℕ) → told_good t.named (good_serial t.serial) ≡ true → good_message (tables_of t.edition) t.decimals (calling (session_of t count)) ≡ true
unfolding calling session_of
call-good t count h = call_by (tables_of t.edition) t.decimals (eqb t.named 1) t.named t.serial (replicate 10 0) refl h
