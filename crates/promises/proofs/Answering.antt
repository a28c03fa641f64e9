-- The numbers that a whole frame is answered with: 1, 10, 11, or those of a refusal. Assumes nothing.
use mathlib.Core.Bool.{Bool}
use Prim.Native.Nat.{ℕ}
use lib.Dec.{eqb}
use Rattle.text.specs.Classes.{same_text}
use Rattle.values.specs.Registers.{good_table}
use Rattle.state.specs.WellFormed.{family_of, tables_in}
use Rattle.state.specs.declared.Meter.{Meter}
use Rattle.receiving.specs.Receivers.{held_text}
use Rattle.deciding.specs.Verdicts.{Verdict}
use Rattle.deciding.specs.Verdict.{verdict}
use Rattle.meter.specs.Outcomes.{Outcome}
use Rattle.meter.specs.Acting.{password_given, tried, acted}
use Rattle.promises.proofs.Choices as choice
use Rattle.promises.proofs.Verdicts.{FrameNumber, content-wrong, Told, Known, verdict-all}

-- a property of each of them is one of any answer to a frame
pub answered-all : (P : ℕ → Type 0) (m : Meter) (mark : Bool) (sum : ℕ) → ((n : ℕ) → FrameNumber mark n → P n) → P 1 → P 10 → P 11
    → P (acted m (verdict (tables_in m.registers) (family_of m) m.mode (held_text m.receiver) mark sum)).number
unfolding acted tried
answered-all P m mark sum refused one ten eleven =
    let Q : Outcome → Type 0 = λ (o : Outcome). P o.number in
    let nine = refused 9 content-wrong in
    verdict-all (λ (v : Verdict). P (acted m v).number) (tables_in m.registers) (family_of m) m.mode (held_text m.receiver) mark sum
    (record {
      refuse = refused;
      leave = one;
      enter = λ k. one;
      password = λ k w. choice.either Q (eqb m.attempts 3) eleven (choice.either Q (same_text (password_given m) m.registers.facts.password) one ten);
      read = λ a g. one;
      write = λ k f.
          record {
            clock = λ c i r. one;
            account = λ r. one;
            table = λ t i g r. choice.either Q (good_table (tables_in m.registers) t.0) one nine;
            wrong = nine;
          };
    })
