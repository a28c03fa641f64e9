-- `post::last_place` meets its contract: each arm is as much of the last line as its pattern names. Assumes nothing.
use Rattle.std.proofs.Common.{◌≡◌, ℕ, ◌<◌, true, eqb, ltb, List, [], ◌∷◌, length, get_or, take, sym, arith, rules, ltb-true, eqb-true}
use Rattle.line.proofs.Runs.{and_left, and_right}
use Rattle.post.specs.Grammar.{last_line}
use Rattle.post.specs.Columns.{begins_last, LastPlace}
use Rattle.post.proofs.last_place.Goals as goal

-- the first character is there, and is the last line's
first-is : (s : List ℕ) → begins_last 1 s ≡ true → (0 < length s) × (get_or s 0 0 ≡ 33)
unfolding begins_last
first-is s e =
    (ltb-true 0 (length s) (and_left (ltb 0 (length s)) (eqb (get_or s 0 0) 33) e), eqb-true (get_or s 0 0) 33 (and_right (ltb 0 (length s)) (eqb (get_or s 0 0) 33) e))

-- so much of it
same-one : (s : List ℕ) → 0 < length s → get_or s 0 0 ≡ 33 → take 1 last_line ≡ take 1 s
unfolding last_line
same-one [] h a = absurd (omega arith)
same-one (x ∷ s) h a = rw a

same-two : (s : List ℕ) → 1 < length s → get_or s 0 0 ≡ 33 → get_or s 1 0 ≡ 13 → take 2 last_line ≡ take 2 s
unfolding last_line
same-two [] h a b = absurd (omega arith)
same-two (x ∷ []) h a b = absurd (omega arith)
same-two (x ∷ y ∷ s) h a b = rw (a, b)

same-three : (s : List ℕ) → 2 < length s → get_or s 0 0 ≡ 33 → get_or s 1 0 ≡ 13 → get_or s 2 0 ≡ 10 → take 3 last_line ≡ take 3 s
unfolding last_line
same-three [] h a b d = absurd (omega arith)
same-three (x ∷ []) h a b d = absurd (omega arith)
same-three (x ∷ y ∷ []) h a b d = absurd (omega arith)
same-three (x ∷ y ∷ z ∷ s) h a b d = rw (a, b, d)

-- and no more
one : (s : List ℕ) → begins_last 1 s ≡ true → (1 < length s → get_or s 1 0 ≡ 13 → ⊥) → LastPlace s 1
unfolding last_line
one s e x =
    let f = first-is s e in
    record { some = omega arith; in-text = omega (arith, f.0); in-line = omega arith; same = same-one s f.0 f.1; stops = λ a b d. x b (sym d) }

two : (s : List ℕ) → begins_last 1 s ≡ true → 1 < length s → get_or s 1 0 ≡ 13 → (2 < length s → get_or s 2 0 ≡ 10 → ⊥) → LastPlace s 2
unfolding last_line
two s e h b x =
    let f = first-is s e in
    record { some = omega arith; in-text = omega arith; in-line = omega arith; same = same-two s h f.1 b; stops = λ a k d. x k (sym d) }

three : (s : List ℕ) → begins_last 1 s ≡ true → 2 < length s → get_or s 1 0 ≡ 13 → get_or s 2 0 ≡ 10 → LastPlace s 3
three s e h b d =
    let f = first-is s e in
    record { some = omega arith; in-text = omega arith; in-line = omega arith; same = same-three s h f.1 b d; stops = λ a. absurd (omega arith) }

pub returns-in-13 : goal.returns-in-13
returns-in-13 c = three c.args.s.now c.requires (omega arith) (search rules) (search rules)

pub returns-in-13-2 : goal.returns-in-13-2
returns-in-13-2 c = two c.args.s.now c.requires (omega arith) (search rules) (λ h. absurd (omega arith))

pub returns-in-13-2-2 : goal.returns-in-13-2-2
returns-in-13-2-2 c = two c.args.s.now c.requires (omega arith) (search rules) (λ h. search rules)

pub returns-in_default : goal.returns-in_default
returns-in_default c = one c.args.s.now c.requires (λ h. absurd (omega arith))

pub returns-in_default-2 : goal.returns-in_default-2
returns-in_default-2 c = one c.args.s.now c.requires (λ h. search rules)

pub returns-in_default-3 : goal.returns-in_default-3
returns-in_default-3 c = one c.args.s.now c.requires (λ h. search rules)
