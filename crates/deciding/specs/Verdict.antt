-- Document 01, "Deciding a frame", in this order: mark 3, BCC 4, shape 6, known 7, allowed 8, data 9.
use Rattle.std.specs.Prelude.{Bool, cond, ◌&&◌, ◌||◌, List, [], ◌∷◌, ℕ, eqb, leb, get_or, drop}
use Rattle.line.specs.Quoted.{char, chars}
use Rattle.line.specs.Checksum.{bcc_of}
use Rattle.text.specs.Classes.{same_text}
use Rattle.text.specs.Layout.{fits}
use Rattle.deciding.specs.Shape.{bare_shape, framed_shape, content}
use Rattle.deciding.specs.Asking.{asked}
use Rattle.deciding.specs.Telling.{told}
use Rattle.deciding.specs.Verdicts.{Verdict, Refuse, Leave, Enter, Password}

-- P1: (), or eight digits in brackets
unfoldable pub entry : List ℕ → Verdict
entry d = cond (same_text d (chars "()")) Enter (cond (fits (chars "(########)") d) Password (Refuse 9))

-- without STX only B0 is known; it is allowed in modes 2 to 4
unfoldable pub bare_verdict : ℕ → ℕ → ℕ → Verdict
bare_verdict mode a b = cond (eqb a (char "B") && eqb b (char "0")) (cond (leb 2 mode && leb mode 4) Leave (Refuse 8)) (Refuse 7)

-- with STX: P1 in mode 2, R1 in 3 and 4, W1 in 4; of a meter with so many tables and of a family
unfoldable pub framed_verdict : ℕ → ℕ → ℕ → ℕ → ℕ → List ℕ → Verdict
framed_verdict tables family mode a b d =
    cond (eqb a (char "P") && eqb b (char "1")) (cond (eqb mode 2) (entry d) (Refuse 8))
    (cond (eqb a (char "R") && eqb b (char "1")) (cond (eqb mode 3 || eqb mode 4) (asked tables family d) (Refuse 8))
    (cond (eqb a (char "W") && eqb b (char "1")) (cond (eqb mode 4) (told tables d) (Refuse 8))
    (Refuse 7)))

unfoldable pub shape_verdict : ℕ → ℕ → ℕ → List ℕ → Verdict
shape_verdict tables family mode h =
    cond (bare_shape h) (bare_verdict mode (get_or h 1 0) (get_or h 2 0))
    (cond (framed_shape h) (framed_verdict tables family mode (get_or h 1 0) (get_or h 2 0) (content h))
    (Refuse 6))

-- the held characters through ETX, whether one was damaged, and the BCC
unfoldable pub verdict : ℕ → ℕ → ℕ → List ℕ → Bool → ℕ → Verdict
verdict tables family mode h mark sum = cond mark (Refuse 3) (cond (eqb sum (bcc_of (drop 1 h))) (shape_verdict tables family mode h) (Refuse 4))
