-- Whatever frame comes to a password, the characters that are compared are those that stand in its brackets. Assumes nothing.
use mathlib.Core.Path.{◌≡◌, refl, sym}
use mathlib.Core.Bool.{Bool, true, false}
use mathlib.Core.List.{[], ◌∷◌}
use Prim.Native.Nat.{ℕ}
use native.Mathlib.Omega.{arith}
use Rattle.values.proofs.Fields.{fits-long}
use Rattle.state.specs.WellFormed.{family_of, tables_in}
use Rattle.state.specs.declared.Meter.{Meter}
use Rattle.receiving.specs.Receivers.{held_text}
use Rattle.deciding.specs.Verdicts.{Verdict, Refuse, Leave, Enter, Password, Read, WriteClock, WriteAccount, WriteTable}
use Rattle.deciding.specs.Shape.{content}
use Rattle.deciding.specs.Verdict.{verdict}
use Rattle.meter.specs.Acting.{password_given}
use Rattle.promises.specs.Writes.{entered_in}
use Rattle.promises.proofs.Verdicts.{Known, Told, verdict-all}
use Rattle.promises.proofs.Pieces.{password-brought}

enters : Verdict → Bool
enters (Refuse n) = false
enters Leave = false
enters Enter = false
enters Password = true
enters (Read a) = false
enters (WriteClock c) = false
enters WriteAccount = false
enters (WriteTable t) = false

module _ (m : Meter) where
  -- if this is a password, it is the one in the brackets
  Compared : Verdict → Type 0
  Compared v = enters v ≡ true → password_given m ≡ entered_in m

  none : {X : Type 0} → ◌≡◌ {A = Bool} false true → X
  none h = absurd (let z : ◌≡◌ {A = ℕ} 0 1 = cc in omega arith)

  pub password-compared : (mark : Bool) (sum : ℕ) → verdict (tables_in m.registers) (family_of m) m.mode (held_text m.receiver) mark sum ≡ Password → password_given m ≡ entered_in m
  unfolding Compared enters
  password-compared mark sum e =
      let r = m.receiver in
      let all =
      verdict-all Compared (tables_in m.registers) (family_of m) m.mode (held_text r) mark sum
      (record {
        refuse = λ n k h. none h;
        leave = λ h. none h;
        enter = λ k h. none h;
        password = λ k f h. sym (password-brought r.count r.held (fits-long _ (content (held_text r)) f));
        read = λ a k h. none h;
        write = λ k w. record { clock = λ c i q h. none h; account = λ q h. none h; table = λ t i g q h. none h; wrong = λ h. none h };
      })
      in
      (rw e at all) refl
