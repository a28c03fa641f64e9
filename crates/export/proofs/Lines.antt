-- The lines of a post, changed one by one, are the frames of its entries. Assumes nothing.
use mathlib.Core.Path.{◌≡◌, refl, sym, ap, ap₂, ◌∙◌}
use mathlib.Core.Bool.{true}
use mathlib.Core.List.{List, [], ◌∷◌, ◌++◌, append_assoc}
use Prim.Native.Nat.{ℕ, zero, suc, ◌+◌, ◌*◌}
use native.Mathlib.Omega.{arith}
use native.Mathlib.Numerals.{add-one}
use lib.ListN.{length, drop, length-append}
use lib.Seq.{drop-append-add}
use Rattle.text.specs.Writing.{stored}
use Rattle.text.proofs.Writing.{stored-append}
use Rattle.post.specs.Grammar.{Entry, line_text, post_text, rising}
use Rattle.post.proofs.Lines.{length-line}
use Rattle.post.proofs.Reading.{post-cons, rising-row, rising-rest}
use Rattle.export.specs.Frames.{entry_frame, frames_of}
use Rattle.export.specs.Changed.{changed_to, changed_line, changed_lines}
use Rattle.export.proofs.Changed.{append-nil, length-changed, changed-is}

length-line-changed : (s : List ℕ) → length (changed_line s) ≡ 36
unfolding changed_line
length-line-changed s = length-append (changed_to s 35) _ ∙ (rw (length-changed s 35))

pub length-lines : (s : List ℕ) (n : ℕ) → length (changed_lines s n) ≡ 36 * n
unfolding changed_lines
length-lines s zero = refl
length-lines s (suc n) = omega (arith, length-append (changed_lines s n) (changed_line (drop (36 * n) s)), length-lines s n, length-line-changed (drop (36 * n) s))

-- one more line
pub lines_next : (buf s : List ℕ) (n : ℕ) → stored (stored buf 0 (changed_lines s n)) (36 * n) (changed_line (drop (36 * n) s)) ≡ stored buf 0 (changed_lines s (n + 1))
unfolding changed_lines
lines_next buf s n =
    ap (λ (k : ℕ). stored (stored buf 0 (changed_lines s n)) k (changed_line (drop (36 * n) s))) (omega (arith, length-lines s n))
    ∙ stored-append buf 0 (changed_lines s n) (changed_line (drop (36 * n) s))
    ∙ (rw (add-one n))

-- the first line apart
lines_cons : (l s : List ℕ) (n : ℕ) → length l ≡ 36 → changed_lines (l ++ s) (suc n) ≡ changed_line (l ++ s) ++ changed_lines s n
unfolding changed_lines
lines_cons l s zero h = sym (append-nil (changed_line (l ++ s)))
lines_cons l s (suc n) h =
    let k : 36 * suc n ≡ length l + 36 * n = omega arith in
    ap₂ (λ (a b : List ℕ). a ++ changed_line b) (lines_cons l s n h) (ap (λ (i : ℕ). drop i (l ++ s)) k ∙ drop-append-add l s (36 * n))
    ∙ append_assoc (changed_line (l ++ s)) (changed_lines s n) (changed_line (drop (36 * n) s))

pub lines_are : (tables above : ℕ) (es : List Entry) → rising tables above es ≡ true → changed_lines (post_text es) (length es) ≡ frames_of es
unfolding frames_of entry_frame
lines_are tables above [] g = unfold changed_lines in refl
lines_are tables above (e ∷ es) g =
    let l = line_text e.number e.row in
    let r = rising-row tables above e es g in
    ap (λ (s : List ℕ). changed_lines s (suc (length es))) (post-cons e es)
    ∙ lines_cons l (post_text es) (length es) (length-line e.number e.row r)
    ∙ ap₂ ◌++◌ (changed-is e.number e.row (post_text es) r) (lines_are tables e.number es (rising-rest tables above e es g))
