-- A byte while listening. Assumes nothing.
use mathlib.Core.Path.{◌≡◌, refl, sym, ap, ◌∙◌}
use mathlib.Core.Bool.{Bool, true, false, cond, ◌&&◌, ◌||◌, and-false}
use mathlib.Core.List.{List, [], ◌∷◌, ◌++◌}
use Prim.Native.Nat.{ℕ, ◌+◌, ◌-◌}
use native.Mathlib.Omega.{arith}
use borrow.Author.Tests.{leb-false}
use lib.Dec.{eqb, leb}
use lib.ListN.{length}
use Rattle.line.specs.Characters.{damaged_at}
use Rattle.values.specs.Registers.{good_serial}
use Rattle.state.specs.declared.Receiver.{Receiver}
use Rattle.state.specs.declared.Registers.{Registers}
use Rattle.state.specs.declared.Meter.{Meter}
use Rattle.state.specs.Making.{empty_receiver}
use Rattle.state.specs.Link.{rest_speed}
use Rattle.state.specs.Setting.{in_mode}
use Rattle.receiving.specs.declared.Hearing.{Hearing}
use Rattle.receiving.specs.declared.Hearing.TheVariants.{Drop, Hold, Restart, Empty, Line}
use Rattle.receiving.specs.Hearing.{listening, hearing}
use Rattle.receiving.specs.Receivers.{kept_receiver, restarted_receiver}
use Rattle.meter.specs.Outcomes.{silent}
use Rattle.meter.specs.SignOn.{signs_on_by, closes_by}
use Rattle.meter.specs.Character.{symbol, signed_on, period_closed, line_ended, heard, taken}
use Rattle.promises.proofs.Lines.{closes-only}
use Rattle.whole.specs.Gathering.{filled}
use Rattle.whole.proofs.Filled.{one_more}
use Rattle.history.specs.Saying.{carries}
use Rattle.history.specs.Standing.{Standing, standing_as, anew, said_more, signs_on, closes_period}
use Rattle.history.specs.Deeds.{closed}
use Rattle.history.proofs.Saying.{more}
use Rattle.told.specs.Doing.{done, done_all}
use Rattle.told.proofs.Holding.{untrue, holding, Follows, symbol-carries, none_is, more-some, restarts, carries-one, nothing-held}
use Rattle.told.proofs.Lines.{line, live-snoc, line_held, line_whole, closes-is, signs-is, none-signs, none-closes}

module _ (failed speed : ℕ) (said : List ℕ) (g : Registers) (b : ℕ) (good : good_serial g.facts.serial ≡ true) where
  abbrev s : Standing
  s = standing_as 0 failed said

  abbrev m : Meter
  m = holding s speed g

  -- the byte is none that ends a sign-on: the receiver holds the line as it is then
  stays : (next : Meter) (r : Receiver) (speed' : ℕ) → next ≡ record { mode = 0; attempts = failed; speed = speed'; receiver = r; registers = g } → r ≡ filled (line (said ++ (b ∷ [])))
      → Follows (said_more s b) g next
  stays next r speed' e f = record { speed = speed'; is = rw (e, f) }

  -- what the four tests make of it
  abbrev does : Bool → Bool → Bool → Bool → Hearing
  does p q r f = cond p Restart (cond q Drop (cond r Line (cond f Empty Hold)))

  abbrev Goal : Bool → Bool → Meter → Type 0
  Goal signs closes next = Follows (cond signs (anew s 1) (said_more s b)) (done_all (cond closes (closed ∷ []) []) g) next

  -- the line ends
  ended : carries 10 b ≡ true → eqb (length (line said)) 0 ≡ false
      → Goal (line_whole said b && (signs_on_by g.facts.link (line_held said b) g.facts.serial || closes_by g.facts.link (line_held said b))) (line_whole said b && closes_by g.facts.link (line_held said b)) (line_ended m).next
  unfolding line_ended done_all done
  ended k some =
      go (line_whole said b) (signs_on_by g.facts.link (line_held said b) g.facts.serial) refl (closes_by g.facts.link (line_held said b)) refl
    where
      empty : empty_receiver ≡ filled (line (said ++ (b ∷ [])))
      empty = sym (ap filled (live-snoc said b ∙ rw (carries-one 10 47 b (λ z. omega (arith, z)) k, k)) ∙ nothing-held)

      go : (u p : Bool) → signs_on_by g.facts.link (line_held said b) g.facts.serial ≡ p → (c : Bool) → closes_by g.facts.link (line_held said b) ≡ c
          → Goal (u && (p || c)) (u && c) (cond (eqb (cond u 0 1) 1) (silent 0 (in_mode m 0)) (cond p (signed_on m) (cond c (signed_on (period_closed m)) (silent 0 (in_mode m 0))))).next
      go false p e c f = stays _ empty_receiver (rest_speed g.facts.link) refl empty
      go true true e true f = untrue (sym (closes-only g.facts.link (line_held said b) g.facts.serial f) ∙ e)
      go true true e false f = record { speed = rest_speed g.facts.link; is = rw nothing-held }
      go true false e true f = record { speed = rest_speed g.facts.link; is = rw nothing-held }
      go true false e false f = stays _ empty_receiver (rest_speed g.facts.link) refl empty

  pub listening-step : Goal (signs_on g.facts (said ++ (b ∷ []))) (closes_period g.facts (said ++ (b ∷ []))) (taken m b).next
  unfolding taken hearing listening heard done_all more
  listening-step =
      rw (signs-is said b g.facts good, closes-is said b g.facts, symbol-carries 46 b, symbol-carries 9 b)
      (go (carries 47 b) refl (eqb (length (line said)) 0) refl (carries 10 b) refl (leb 31 (length (line said))) refl)
    where
      then : line (said ++ (b ∷ [])) ≡ cond (carries 47 b) (b ∷ []) (cond (carries 10 b) [] (cond (leb 31 (length (line said))) [] (more (line said) b)))
      then = live-snoc said b

      -- what is held where nothing was held before, or where too much was
      go : (p : Bool) → carries 47 b ≡ p → (q : Bool) → eqb (length (line said)) 0 ≡ q → (r : Bool) → carries 10 b ≡ r → (f : Bool) → leb 31 (length (line said)) ≡ f
          → Goal (r && (line_whole said b && (signs_on_by g.facts.link (line_held said b) g.facts.serial || closes_by g.facts.link (line_held said b)))) (r && (line_whole said b && closes_by g.facts.link (line_held said b)))
          (heard m (symbol b) (damaged_at b) (does p q r f)).next
      go true e q h true k f l = untrue (sym (carries-one 47 10 b (λ z. omega (arith, z)) e) ∙ k)
      go true e q h false k f l = stays _ (restarted_receiver (symbol b)) speed refl (restarts 47 b e ∙ ap filled (sym (then ∙ rw e)))
      go false e true h true k f l =
          let none = none_is (line said) h in
          let signs : signs_on_by g.facts.link (line_held said b) g.facts.serial ≡ false = rw none (none-signs g.facts.link g.facts.serial) in
          let closes : closes_by g.facts.link (line_held said b) ≡ false = rw none (none-closes g.facts.link) in
          rw (signs, closes, and-false (line_whole said b)) (stays _ (filled (line said)) speed refl (ap filled (none ∙ sym (then ∙ rw (e, k)))))
      go false e true h false k f l =
          let none = none_is (line said) h in
          stays _ (filled (line said)) speed refl (ap filled (none ∙ sym (then ∙ rw (e, k, none))))
      go false e false h true k f l = ended k h
      go false e false h false k true l = stays _ empty_receiver speed refl (sym nothing-held ∙ ap filled (sym (then ∙ rw (e, k, l))))
      go false e false h false k false l =
          stays _ (kept_receiver (filled (line said)) (symbol b) (damaged_at b)) speed refl
          (one_more (line said) b (omega (arith, leb-false 31 (length (line said)) l)) ∙ ap filled (sym (then ∙ rw (e, k, l) (more-some (line said) b h))))
