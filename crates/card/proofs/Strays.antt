-- Columns that each have a test of their own, of any kind of text: where one strays, the longest shared beginning ends. Assumes nothing.
use mathlib.Core.Path.{◌≡◌, sym, ap, ◌∙◌}
use mathlib.Core.Logic.{⊎_elim}
use mathlib.Core.Bool.{Bool, true, false}
use mathlib.Core.List.{List}
use Prim.Native.Nat.{ℕ, ◌<◌, ◌≤◌}
use native.Mathlib.Omega.{arith}
use lib.ListN.{length, get_or, take, length-take}
use lib.Seq.{get_or-take}
use Rattle.text.specs.Beginnings.{Shares, Longest}
use Rattle.text.proofs.Beginnings.{le-or-lt, same_at}
use Rattle.card.specs.Columns.{FirstStray}

-- where every text of the kind fits, and one of them shares what stands before the stray, there the longest shared beginning ends
pub longest-stray : (P : List ℕ → Type 0) (column : ℕ → ℕ → Bool) (width : ℕ) (text : List ℕ) (place : ℕ)
    → ((v : List ℕ) → P v → (j : ℕ) → j < width → j < length v → column j (get_or v j 0) ≡ true)
    → FirstStray column width text place → place < width → Shares P text place → Longest P text place
longest-stray P column width text place fits f short sh =
    record {
      shared = sh;
      most =
          λ k other.
          ⊎_elim (λ h. h)
          (λ h.
          let within = other.within in
          let within-other = other.within-other in
          let strays = f.stops short (omega arith) in
          let held = fits other.other other.is_whole place short (omega arith) in
          let same = ap (column place) (same_at k other.other text other.same place h) in
          absurd (let z : ◌≡◌ {A = ℕ} 0 1 = cc in omega arith)) (le-or-lt k place);
    }

-- the first stray of what a text has of the field is that of the text
pub stray-part : (column : ℕ → ℕ → Bool) (width : ℕ) (s part : List ℕ) (place : ℕ) → part ≡ take width s → place ≤ length part
    → ((j : ℕ) → j < place → column j (get_or part j 0) ≡ true) → (place < length part → column place (get_or part place 0) ≡ false) → FirstStray column width s place
stray-part column width s part place e h before stops =
    let short : length part ≤ width = rw (e, length-take width s) (omega arith) in
    let less : length part ≤ length s = rw (e, length-take width s) (omega arith) in
    let same : (j : ℕ) → j < width → get_or part j 0 ≡ get_or s j 0 = λ j k. ap (λ (l : List ℕ). get_or l j 0) e ∙ get_or-take width s j 0 k in
    record {
      in-text = omega arith;
      in_field = omega arith;
      before = λ j k. ap (column j) (sym (same j (omega arith))) ∙ before j k;
      stops = λ k l. ap (column place) (sym (same place k)) ∙ stops (all width s part place e k l);
    }
  where
    all : (width : ℕ) (s part : List ℕ) (place : ℕ) → part ≡ take width s → place < width → place < length s → place < length part
    all width s part place e k l = rw (e, length-take width s) (omega arith)
