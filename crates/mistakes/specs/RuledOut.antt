-- What it is to rule an answer out.
use Rattle.std.specs.Prelude.{◌≡◌}

-- a promise `result ≡ right` does not allow the wrong result
abbrev pub RuledOut : {A : Type 0} → A → A → Type 0
RuledOut right wrong = wrong ≡ right → ⊥
