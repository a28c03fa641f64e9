-- [2]: what is done with a verdict has no place of its own, so a frame without damage answers as before. Assumes nothing.
use mathlib.Core.Path.{◌≡◌, refl, sym, ap}
use mathlib.Core.Bool.{Bool, true, false, cond, ◌||◌}
use native.Mathlib.Omega.{arith}
use lib.Dec.{eqb}
use Prim.Native.Nat.{ℕ}
use Rattle.text.specs.Classes.{same_text}
use Rattle.values.specs.Registers.{good_table}
use Rattle.state.specs.declared.Meter.{Meter}
use Rattle.state.specs.WellFormed.{tables_in, family_of, marked}
use Rattle.receiving.specs.Receivers.{held_text}
use Rattle.deciding.specs.Verdicts.{Verdict, Refuse, Leave, Enter, Password, Read, WriteClock, WriteAccount, WriteTable}
use Rattle.deciding.specs.Verdict.{verdict}
use Rattle.meter.specs.Outcomes.{Outcome, at_place}
use Rattle.meter.specs.Acting.{password_given, tried, acted}
use Rattle.meter.specs.Character.{frame_ended}

pub either-nowhere : (b : Bool) (x y : Outcome) → x.place ≡ 0 → y.place ≡ 0 → (cond b x y).place ≡ 0
either-nowhere true x y e f = e
either-nowhere false x y e f = f

pub acted-nowhere : (m : Meter) (v : Verdict) → (acted m v).place ≡ 0
unfolding acted tried
acted-nowhere m (Refuse n) = refl
acted-nowhere m Leave = refl
acted-nowhere m Enter = refl
acted-nowhere m Password =
    either-nowhere (eqb m.attempts 3) _ _ refl (either-nowhere (same_text (password_given m) m.registers.facts.password) _ _ refl refl)
acted-nowhere m (Read a) = refl
acted-nowhere m (WriteClock c) = refl
acted-nowhere m WriteAccount = refl
acted-nowhere m (WriteTable t) = either-nowhere (good_table (tables_in m.registers) t.0) _ _ refl refl

-- a place of 0 put where 0 was
pub at_none : (o : Outcome) → o.place ≡ 0 → at_place o 0 ≡ o
at_none o e = ap (at_place o) (sym e)

-- a frame without damage
pub whole-frame : (m : Meter) (c : ℕ) (d : Bool) → (marked m.receiver || d) ≡ false
    → frame_ended m c d ≡ acted m (verdict (tables_in m.registers) (family_of m) m.mode (held_text m.receiver) false c)
whole-frame m c d h = go (marked m.receiver) d h
  where
    go : (k d : Bool) → (k || d) ≡ false
        → at_place (acted m (verdict (tables_in m.registers) (family_of m) m.mode (held_text m.receiver) (k || d) c)) (cond k m.receiver.place (cond d m.receiver.count 0))
        ≡ acted m (verdict (tables_in m.registers) (family_of m) m.mode (held_text m.receiver) false c)
    go true d h = absurd (let z : ◌≡◌ {A = ℕ} 0 1 = cc in omega arith)
    go false true h = absurd (let z : ◌≡◌ {A = ℕ} 0 1 = cc in omega arith)
    go false false h = at_none (acted m (verdict (tables_in m.registers) (family_of m) m.mode (held_text m.receiver) false c)) (acted-nowhere m _)
