-- The places of three texts that are no post, each the only right answer. Assumes nothing.
use mathlib.Core.Path.{◌≡◌, refl, sym, ap, ◌∙◌}
use mathlib.Core.Bool.{true, false}
use mathlib.Core.List.{List, [], ◌∷◌, ◌++◌}
use Prim.Native.Nat.{ℕ, zero, suc, ◌+◌, ◌≤◌, ◌<◌}
use native.Mathlib.Omega.{arith}
use lib.ListN.{length, get_or, drop, length-append}
use lib.Seq.{drop_at}
use Rattle.line.specs.Quoted.{chars}
use Rattle.text.specs.Classes.{between}
use Rattle.values.specs.Registers.{good_row}
use Rattle.post.specs.Grammar.{line_text, last_line}
use Rattle.post.specs.Place.{CheckedAs}
use Rattle.post.specs.Columns.{Column, LinePlace, FirstStray, column_fits, lowest, highest}
use Rattle.post.specs.Rest.{Passed, Scanned}
use Rattle.post.proofs.Lines.{length-line}
use Rattle.post.proofs.LinePlaces.{place_none}
use Rattle.post.proofs.Places.{Stands, passed_none, passed-more, longest-line}
use Rattle.post.proofs.Answers.{one_answer, refused}
use Rattle.facts.specs.Facts.{Answers}

pub only-answer : (text : List ℕ) (number place : ℕ) → CheckedAs 24 text number place → Answers text number place
only-answer text number place c = record { right = c; only = λ n p d. one_answer 24 text n p number place d c }

few : 24 < 100
few = omega arith

-- a text shorter than a line that strays at once
at_once : (text : List ℕ) → length text < 36 → FirstStray text 0 → LinePlace 24 0 text 0 → CheckedAs 24 text 20 0
at_once text short f p =
    refused 24 0 0 0 text few (record { passed = passed_none 24 text; stops = λ h. absurd (omega arith); strays = f }) 0 (λ h e. omega arith)
    (longest-line 24 0 text few 0 p (omega arith) (λ h. absurd (omega arith)) (omega arith) (omega arith))

pub empty-answer : CheckedAs 24 [] 20 0
empty-answer =
    at_once [] (omega arith)
    (record { in-text = omega arith; in-line = omega arith; before = λ j h. absurd (omega arith); stops = λ h i. absurd (omega arith) })
    (record { in-text = omega arith; in-line = omega arith; before = λ j h. absurd (omega arith); stops = λ h i c. omega arith })

no-line-there : Column 24 0 (chars "!") 0 → ⊥
unfolding column_fits lowest highest between
no-line-there c = let h : false ≡ true = c.held in let z : ◌≡◌ {A = ℕ} 0 1 = cc in omega arith

stray-there : column_fits (chars "!") 0 ≡ false
unfolding column_fits lowest highest between
stray-there = refl

pub last-answer : CheckedAs 24 (chars "!") 20 0
last-answer =
    at_once (chars "!") (omega arith)
    (record { in-text = omega arith; in-line = omega arith; before = λ j h. absurd (omega arith); stops = λ h i. stray-there })
    (record { in-text = omega arith; in-line = omega arith; before = λ j h. absurd (omega arith); stops = λ h i c. no-line-there c })

-- a '1' begins a line, and the text ends behind it
one-begins : FirstStray (chars "1") 1
unfolding column_fits lowest highest between
one-begins = record { in-text = omega arith; in-line = omega arith; before = first; stops = λ h i. absurd (omega arith) }
  where
    first : (j : ℕ) → j < 1 → column_fits (chars "1") j ≡ true
    first zero h = refl
    first (suc j) h = absurd (omega arith)

-- below table 24 only the last line may stand
module _ (row : List ℕ) (good : good_row row ≡ true) where
  abbrev text : List ℕ
  text = line_text 24 row ++ (chars "1")

  behind : drop 36 text ≡ chars "1"
  behind = drop_at (line_text 24 row) (chars "1") 36 (length-line 24 row good)

  text-long : length text ≡ 37
  text-long = length-append (line_text 24 row) (chars "1") ∙ ap (λ (n : ℕ). n + 1) (length-line 24 row good)

  passed : Passed 24 text 36 24
  passed =
      passed-more 24 0 0 24 text few (omega (arith, text-long)) (passed_none 24 text)
      (record { row = row; low = omega arith; high = omega arith; good-row = good; front = ap (λ (l : List ℕ). line_text 24 row ++ l) (sym behind) })

  no_last : drop 36 text ≡ last_line → ⊥
  unfolding last_line
  no_last e = omega (arith, ap (λ (l : List ℕ). get_or l 0 0) (sym behind ∙ e))

  pub past-answer : CheckedAs 24 text 20 36
  past-answer =
      let s = drop 36 text in
      refused 24 36 24 1 text few (record { passed = passed; stops = λ h. absurd (omega (arith, ap length behind)); strays = rw behind one-begins }) 0 (λ h e. no_last e)
      (longest-line 24 24 s few 0 (place_none 24 24 s (omega arith)) (omega arith) (λ h i e. omega (arith, ap (λ (l : List ℕ). get_or l 0 0) behind)) (omega arith) (omega arith))
