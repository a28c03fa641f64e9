-- A line and its LF, five characters and the sixth: what is held is compared without the character that is on its way. Assumes nothing.
use mathlib.Core.Path.{◌≡◌, refl, sym, ap, ap₂, ◌∙◌}
use mathlib.Core.Bool.{Bool, true, not, ◌&&◌, ◌||◌, and-true}
use mathlib.Core.List.{List, [], ◌∷◌, ◌++◌, append_assoc}
use Prim.Native.Nat.{ℕ}
use native.Mathlib.Omega.{arith}
use lib.Dec.{eqb}
use lib.ListN.{length, take, replicate, length-append}
use lib.Seq.{take_at}
use Rattle.text.specs.Classes.{same_text}
use Rattle.text.proofs.Matching.{same-snoc}
use Rattle.values.specs.Texts.{serial_text, wired_text}
use Rattle.values.proofs.Rules.{wired-text-long}
use Rattle.frames.specs.Session.{sign_on, closing_sign_on, sign_on_to, wired_line, wired_sign_on, confirmation}
use Rattle.state.specs.Link.{is_wired}
use Rattle.meter.specs.Link.{zeros, optical_call, wired_call, closes, slow_too}
use Rattle.meter.specs.SignOn.{our_line, closes_by, confirms}

line_same : (line x : List ℕ) → same_text (line ++ (10 ∷ [])) (x ++ (10 ∷ [])) ≡ same_text line x
line_same line x = same-snoc line x 10 10 ∙ and-true (same_text line x)

our-line-ends : (serial : List ℕ) → our_line serial ++ (10 ∷ []) ≡ sign_on_to serial
unfolding our_line sign_on_to
our-line-ends serial = ap (λ (l : List ℕ). 47 ∷ 63 ∷ l) (append_assoc (serial_text serial) (33 ∷ 13 ∷ []) (10 ∷ []))

zero-line : (line : List ℕ)
    → same_text line (47 ∷ 63 ∷ 48 ∷ 48 ∷ 48 ∷ 32 ∷ 48 ∷ 48 ∷ 48 ∷ 48 ∷ 48 ∷ 48 ∷ 48 ∷ 33 ∷ 13 ∷ []) ≡ same_text line (our_line zeros)
unfolding our_line serial_text
zero-line line = refl

pub called-by-held : (line serial : List ℕ)
    → ((same_text line (47 ∷ 63 ∷ 33 ∷ 13 ∷ []) || same_text line (our_line serial))
    || same_text line (47 ∷ 63 ∷ 48 ∷ 48 ∷ 48 ∷ 32 ∷ 48 ∷ 48 ∷ 48 ∷ 48 ∷ 48 ∷ 48 ∷ 48 ∷ 33 ∷ 13 ∷ []))
    ≡ optical_call (line ++ (10 ∷ [])) serial
unfolding optical_call sign_on
called-by-held line serial =
    let a = sym (line_same line (47 ∷ 63 ∷ 33 ∷ 13 ∷ [])) in
    let b = sym (line_same line (our_line serial)) ∙ ap (same_text (line ++ (10 ∷ []))) (our-line-ends serial) in
    let c = sym (line_same line (our_line zeros)) ∙ ap (same_text (line ++ (10 ∷ []))) (our-line-ends zeros) in
    ap₂ ◌||◌ (ap₂ ◌||◌ a b) (zero-line line ∙ c)

-- the wired sign-on without its LF, and with it again
wired-ends : (serial : List ℕ) → length serial ≡ 10 → take 14 (wired_sign_on serial) ++ (10 ∷ []) ≡ wired_sign_on serial
unfolding wired_line
wired-ends serial n =
    let w : List ℕ = wired_text serial in
    let x : List ℕ = 47 ∷ 65 ∷ (w ++ (13 ∷ [])) in
    let whole : 47 ∷ 65 ∷ (w ++ (13 ∷ 10 ∷ [])) ≡ x ++ (10 ∷ []) = ap (λ (l : List ℕ). 47 ∷ 65 ∷ l) (sym (append_assoc w (13 ∷ []) (10 ∷ []))) in
    let long : length x ≡ 14 = omega (arith, wired-text-long serial n, length-append w (13 ∷ [])) in
    ap (λ (l : List ℕ). take 14 l ++ (10 ∷ [])) whole ∙ ap (λ (l : List ℕ). l ++ (10 ∷ [])) (take_at x (10 ∷ []) 14 long) ∙ sym whole

wired-same : (line serial : List ℕ) → length serial ≡ 10 → same_text line (take 14 (wired_sign_on serial)) ≡ same_text (line ++ (10 ∷ [])) (wired_sign_on serial)
wired-same line serial n = sym (line_same line (take 14 (wired_sign_on serial))) ∙ ap (same_text (line ++ (10 ∷ []))) (wired-ends serial n)

wired-zeros : (line : List ℕ)
    → same_text line (47 ∷ 65 ∷ 48 ∷ 48 ∷ 48 ∷ 46 ∷ 48 ∷ 48 ∷ 48 ∷ 48 ∷ 48 ∷ 48 ∷ 48 ∷ 13 ∷ []) ≡ same_text line (take 14 (wired_sign_on zeros))
unfolding wired_line wired_text
wired-zeros line = refl

pub wired-by-held : (line serial : List ℕ) → length serial ≡ 10
    → (same_text line (take 14 (wired_sign_on serial)) || same_text line (47 ∷ 65 ∷ 48 ∷ 48 ∷ 48 ∷ 46 ∷ 48 ∷ 48 ∷ 48 ∷ 48 ∷ 48 ∷ 48 ∷ 48 ∷ 13 ∷ []))
    ≡ wired_call (line ++ (10 ∷ [])) serial
unfolding wired_call
wired-by-held line serial n = ap₂ ◌||◌ (wired-same line serial n) (wired-zeros line ∙ wired-same line zeros refl)

pub closes-by-held : (link : ℕ) (line : List ℕ) → (not (is_wired link) && same_text line (47 ∷ 67 ∷ 33 ∷ 13 ∷ [])) ≡ closes_by link line
unfolding closes closing_sign_on
closes-by-held link line = ap (λ (b : Bool). not (is_wired link) && b) (sym (line_same line (47 ∷ 67 ∷ 33 ∷ 13 ∷ [])))

pub confirms-by-held : (link : ℕ) (five : List ℕ) (c y : ℕ)
    → ((same_text five (6 ∷ 48 ∷ 53 ∷ y ∷ 13 ∷ []) && eqb c 10) || (slow_too link && (same_text five (6 ∷ 48 ∷ 48 ∷ y ∷ 13 ∷ []) && eqb c 10))) ≡ confirms link five c y
unfolding confirms confirmation
confirms-by-held link five c y =
    ap₂ ◌||◌ (sym (same-snoc five (6 ∷ 48 ∷ 53 ∷ y ∷ 13 ∷ []) c 10))
    (ap (λ (b : Bool). slow_too link && b) (sym (same-snoc five (6 ∷ 48 ∷ 48 ∷ y ∷ 13 ∷ []) c 10)))
