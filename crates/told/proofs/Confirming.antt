-- A byte of a confirmation. Assumes nothing.
use mathlib.Core.Path.{◌≡◌, refl, ap, ◌∙◌}
use mathlib.Core.Bool.{Bool, true, false, cond, not, ◌&&◌, ◌||◌, and-false}
use mathlib.Core.List.{List, [], ◌∷◌, ◌++◌, map}
use Prim.Native.Nat.{ℕ, ◌+◌}
use native.Mathlib.Omega.{arith}
use borrow.Author.Tests.{leb-true, leb-false, lt-ltb, le-ltb, ne_eqb}
use lib.Dec.{eqb, leb}
use lib.ListN.{length, length-append}
use Rattle.line.specs.Characters.{damaged_at, seven, undamaged_all}
use Rattle.text.specs.Classes.{same_text, matching}
use Rattle.text.proofs.Matching.{same-is}
use Rattle.frames.specs.Session.{confirmation}
use Rattle.state.specs.declared.Registers.{Registers}
use Rattle.state.specs.declared.Meter.{Meter}
use Rattle.state.specs.Link.{is_wired, rest_speed}
use Rattle.state.specs.WellFormed.{tables_in}
use Rattle.state.specs.Setting.{in_mode, with_speed}
use Rattle.receiving.specs.declared.Hearing.TheVariants.{Hold, Confirm}
use Rattle.receiving.specs.Hearing.{confirming, hearing}
use Rattle.receiving.specs.Receivers.{held_text}
use Rattle.replies.specs.Block.{block_data}
use Rattle.replies.specs.Periods.{long_data}
use Rattle.replies.specs.Fixed.{password_ask}
use Rattle.meter.specs.Outcomes.{Outcome, silent, saying}
use Rattle.meter.specs.Link.{slow_too}
use Rattle.meter.specs.SignOn.{confirms, wants_block, wants_periods, wants_program}
use Rattle.meter.specs.Character.{symbol, confirmed_speed, read_out, confirmed, heard, taken}
use Rattle.whole.specs.Gathering.{filled}
use Rattle.whole.proofs.Filled.{one_more}
use Rattle.history.specs.Saying.{says}
use Rattle.history.specs.Standing.{Standing, standing_as, anew, asks_for_password}
use Rattle.history.specs.Standing as told
use Rattle.history.proofs.Saying.{map_snoc, undamaged-snoc}
use Rattle.told.proofs.Holding.{untrue, holding, Follows, symbols, held-is, fresh}

-- one choice is not another
one_choice : (link : ℕ) (five : List ℕ) (c y z : ℕ) → (y ≡ z → ⊥) → confirms link five c y ≡ true → confirms link five c z ≡ false
unfolding confirms confirmation same_text matching
one_choice link five c y z other h = go (slow_too link) (same_text (five ++ (c ∷ [])) (6 ∷ 48 ∷ 53 ∷ y ∷ 13 ∷ 10 ∷ [])) refl (same_text (five ++ (c ∷ [])) (6 ∷ 48 ∷ 48 ∷ y ∷ 13 ∷ 10 ∷ [])) refl h
  where
    go : (k p : Bool) → same_text (five ++ (c ∷ [])) (6 ∷ 48 ∷ 53 ∷ y ∷ 13 ∷ 10 ∷ []) ≡ p → (q : Bool) → same_text (five ++ (c ∷ [])) (6 ∷ 48 ∷ 48 ∷ y ∷ 13 ∷ 10 ∷ []) ≡ q
        → (p || (k && q)) ≡ true → (same_text (five ++ (c ∷ [])) (6 ∷ 48 ∷ 53 ∷ z ∷ 13 ∷ 10 ∷ []) || (k && same_text (five ++ (c ∷ [])) (6 ∷ 48 ∷ 48 ∷ z ∷ 13 ∷ 10 ∷ []))) ≡ false
    go k true e q f a = rw (same-is (five ++ (c ∷ [])) (6 ∷ 48 ∷ 53 ∷ y ∷ 13 ∷ 10 ∷ []) e, ne_eqb y z other) (and-false k)
    go true false e true f a = rw (same-is (five ++ (c ∷ [])) (6 ∷ 48 ∷ 48 ∷ y ∷ 13 ∷ 10 ∷ []) f, ne_eqb y z other)
    go true false e false f a = untrue a
    go false false e q f a = untrue a

either-one : (p q r : Bool) → (p ≡ true → r ≡ false) → (q ≡ true → r ≡ false) → (p || q) ≡ true → r ≡ false
either-one true q r f h e = f refl
either-one false q r f h e = h e

module _ (failed speed : ℕ) (said : List ℕ) (g : Registers) (b : ℕ) where
  abbrev s : Standing
  s = standing_as 1 failed said

  abbrev m : Meter
  m = holding s speed g

  abbrev five : List ℕ
  five = held_text (filled said)

  asks-is : asks_for_password g.facts (said ++ (b ∷ [])) ≡ ((undamaged_all said && not (damaged_at b)) && wants_program g.facts.link five (symbol b))
  unfolding asks_for_password says wants_program confirms slow_too symbol
  asks-is =
      ap (λ (u : Bool). (u && said-is 53) || (not (is_wired g.facts.link) && (u && said-is 48))) (undamaged-snoc said b)
      ∙ go (undamaged_all said) refl (damaged_at b) (not (is_wired g.facts.link))
    where
      said-is : ℕ → Bool
      said-is v = same_text (map seven (said ++ (b ∷ []))) (confirmation v 49)

      go : (u : Bool) → undamaged_all said ≡ u → (d k : Bool)
          → (((u && not d) && said-is 53) || (k && ((u && not d) && said-is 48)))
          ≡ ((u && not d) && (same_text (five ++ (cond d 0 (seven b) ∷ [])) (confirmation 53 49) || (k && same_text (five ++ (cond d 0 (seven b) ∷ [])) (confirmation 48 49))))
      go true e false k = rw (map_snoc seven said b, held-is said, symbols said e)
      go true e true k = and-false k
      go false e d k = and-false k

  abbrev Goal : Bool → Outcome → Type 0
  Goal asks o = Follows (cond asks (anew s 2) (anew s 0)) g o.next

  six-said : Goal (asks_for_password g.facts (said ++ (b ∷ []))) (confirmed m (symbol b) (damaged_at b))
  unfolding confirmed
  six-said =
      rw asks-is
      (go (undamaged_all said) (damaged_at b) (wants_block g.facts.link five (symbol b)) (wants_periods g.facts.link five (symbol b)) (wants_program g.facts.link five (symbol b))
      (λ e. unfold wants_block wants_program in
      (either-one (confirms g.facts.link five (symbol b) 48) (confirms g.facts.link five (symbol b) 55) (confirms g.facts.link five (symbol b) 49)
      (one_choice g.facts.link five (symbol b) 48 49 (λ z. omega (arith, z))) (one_choice g.facts.link five (symbol b) 55 49 (λ z. omega (arith, z))) e))
      (λ e. unfold wants_periods wants_program in (one_choice g.facts.link five (symbol b) 54 49 (λ z. omega (arith, z)) e)))
    where
      out : Follows (anew s 0) g (in_mode m 0)
      out = record { speed = rest_speed g.facts.link; is = rw (fresh 0) }

      go : (u d p q r : Bool) → (p ≡ true → r ≡ false) → (q ≡ true → r ≡ false)
          → Goal ((u && not d) && r)
          (cond (eqb (cond u 0 1) 1 || d) (silent 2 (in_mode m 0))
          (cond p (read_out m (confirmed_speed m) (block_data (tables_in g) g))
          (cond q (read_out m (confirmed_speed m) (long_data (tables_in g) g))
          (cond r (saying 1 (confirmed_speed m) password_ask (with_speed (in_mode m 2) (confirmed_speed m))) (silent 2 (in_mode m 0))))))
      go false d p q r f h = out
      go true true p q r f h = out
      go true false true q r f h = rw (f refl) out
      go true false false true r f h = rw (h refl) out
      go true false false false true f h = record { speed = confirmed_speed m; is = rw (fresh 2) }
      go true false false false false f h = out

  pub confirming-step : Follows (told.six_said g.facts s b) g (taken m b).next
  unfolding taken hearing confirming heard
  confirming-step = go (leb 5 (length said)) refl
    where
      go : (p : Bool) → leb 5 (length said) ≡ p → Follows (told.six_said g.facts s b) g (heard m (symbol b) (damaged_at b) (cond p Confirm Hold)).next
      go true e = rw (le-ltb (length (said ++ (b ∷ []))) 6 (omega (arith, length-append said (b ∷ []), leb-true 5 (length said) e))) six-said
      go false e =
          let few = leb-false 5 (length said) e in
          rw (lt-ltb (length (said ++ (b ∷ []))) 6 (omega (arith, length-append said (b ∷ []), few)))
          (record { speed = speed; is = rw (one_more said b (omega (arith, few))) })
