-- A list of reads, two characters at a time. Assumes nothing.
use mathlib.Core.Path.{◌≡◌, refl, ap, ◌∙◌}
use mathlib.Core.Bool.{Bool, true, false, ◌&&◌}
use mathlib.Core.List.{List, [], ◌∷◌}
use Prim.Native.Nat.{ℕ, suc, ◌-◌, ◌≤◌, ◌<◌}
use native.Mathlib.Omega.{arith}
use lib.Dec.{eqb}
use lib.ListN.{length, get_or, take, drop}
use lib.Seq.{take_all}
use Rattle.commands.specs.Spoken.{good_fields}
use Rattle.session.specs.Messages.{read_of, reads_good}

and_assoc : (a b c : Bool) → ((a && b) && c) ≡ (a && (b && c))
and_assoc true b c = refl
and_assoc false b c = refl

and-nothing : (a : Bool) → (a && false) ≡ false
and-nothing true = refl
and-nothing false = refl

pub and-all : (a : Bool) → (a && true) ≡ a
and-all true = refl
and-all false = refl

-- what was looked at and what is left decide: two more, and the end
module _ (tables family : ℕ) (good whole : Bool) where
  pub reads-turn : (rest : List ℕ) → 2 ≤ length rest → (good && reads_good tables family rest) ≡ whole
      → ((good && good_fields tables family (read_of (get_or rest 0 0) (get_or rest 1 0))) && reads_good tables family (take (length rest - 2) (drop 2 rest))) ≡ whole
  unfolding reads_good
  reads-turn [] h so = absurd (omega arith)
  reads-turn (x ∷ []) h so = absurd (omega arith)
  reads-turn (letter ∷ n ∷ more) h so =
      ap (λ (l : List ℕ). (good && good_fields tables family (read_of letter n)) && reads_good tables family l) (take_all (suc (suc (length more)) - 2) more (omega arith))
      ∙ and_assoc good (good_fields tables family (read_of letter n)) (reads_good tables family more) ∙ so

  pub reads_end : (rest : List ℕ) → length rest < 2 → (good && reads_good tables family rest) ≡ whole → (good && eqb (length rest) 0) ≡ whole
  unfolding reads_good
  reads_end [] h so = so
  reads_end (x ∷ []) h so = so
  reads_end (x ∷ y ∷ more) h so = absurd (omega arith)
