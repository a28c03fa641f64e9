-- The closed periods' lines: how long they are, and one turn of the loop over them. Assumes nothing.
use mathlib.Core.Path.{◌≡◌, refl, sym, ap, ◌∙◌}
use mathlib.Core.Bool.{Bool, true, false, cond, not}
use mathlib.Core.List.{List, [], ◌∷◌, ◌++◌, append-nil, append_assoc}
use Prim.Native.Nat.{ℕ, suc, ◌+◌, ◌*◌, ◌≤◌, ◌<◌}
use native.Mathlib.Omega.{arith}
use native.Mathlib.Nat.{add-zero, add_comm, zero-mul, suc-mul, mul-le-mul_left}
use native.Mathlib.Numerals.{add-one}
use lib.Dec.{eqb}
use lib.ListN.{length, get_or, take, length-append}
use lib.Seq.{take-suc, length-take-le}
use Rattle.text.specs.Writing.{stored}
use Rattle.state.specs.declared.Period.{Period}
use Rattle.state.specs.declared.Registers.{Registers}
use Rattle.state.specs.Closing.{periods_of}
use Rattle.state.specs.WellFormed.{family_in}
use Rattle.values.specs.Family.{is_eqm, counter_digits}
use Rattle.values.proofs.Families.{shown}
use Rattle.frames.specs.Frames.{block_of}
use Rattle.frames.proofs.Sealing.{block-length}
use Rattle.datasets.specs.Sets.{DataSet, lines_of, energy_name, closed_set, kept_set}
use Rattle.datasets.proofs.Lengths.{lines-append, lines_cons, name-long, closed-line, kept_line}
use Rattle.datasets.proofs.Joined.{Lines, joined}
use Rattle.replies.specs.Shown.{Lengths}
use Rattle.replies.specs.Block.{in_and_out, directions_long, block_sets}
use Rattle.replies.specs.Periods.{kept_in, kept_sets, period_sets, period_long, archive_sets, long_sets, long_data}
use Rattle.replies.proofs.Sizes.{sets-long, both_long, came-long, went-long}

pub kept-long : (family : ℕ) (out : Bool) (k : ℕ) (zones : List ℕ)
    → length (lines_of (kept_sets family out k zones)) ≡ 4 * (length (energy_name family out) + (counter_digits family + 13))
unfolding kept_sets lines_of
kept-long family out k zones =
    let line : ℕ → ℕ → DataSet = kept_set family out k in
    rw (
      lines_cons (line 1 (kept_in zones 1)) (line 2 (kept_in zones 2) ∷ line 3 (kept_in zones 3) ∷ line 4 (kept_in zones 4) ∷ []),
      lines_cons (line 2 (kept_in zones 2)) (line 3 (kept_in zones 3) ∷ line 4 (kept_in zones 4) ∷ []),
      lines_cons (line 3 (kept_in zones 3)) (line 4 (kept_in zones 4) ∷ []),
      lines_cons (line 4 (kept_in zones 4)) [],
      kept_line family out k 1 (kept_in zones 1),
      kept_line family out k 2 (kept_in zones 2),
      kept_line family out k 3 (kept_in zones 3),
      kept_line family out k 4 (kept_in zones 4),
    )
    (omega arith)

pub kept-most-of : (family : ℕ) (out : Bool) (k : ℕ) (zones : List ℕ) → length (lines_of (kept_sets family out k zones)) ≤ 108
kept-most-of family out k zones = omega (arith, kept-long family out k zones, name-long family out, (shown family).digits-most)

pub period-long : (family k : ℕ) (p : Period) → length (lines_of (period_sets family k p)) ≡ period_long family
unfolding period_sets period_long is_eqm
period-long family k p =
    let came = kept_sets family false k p.zones in
    let went = kept_sets family true k p.exported in
    lines_cons (closed_set k p.closed) (in_and_out family came went)
    ∙ rw (closed-line k p.closed, both_long family came went)
    (by (eqb family 0) _ _ (kept-long family false k p.zones ∙ omega (arith, came-long family)) (kept-long family true k p.exported ∙ omega (arith, went-long family)))
  where
    by : (b : Bool) (x y : ℕ) → x ≡ 52 + 4 * cond b 14 12 → y ≡ 52 + 4 * cond b 13 12 → 26 + (x + cond (not b) y 0) ≡ cond b 134 226
    by true x y h k = omega (arith, h)
    by false x y h k = omega (arith, h, k)

pub period-most : (family : ℕ) → period_long family ≤ 226
unfolding period_long
period-most family = by (eqb family 0)
  where
    by : (b : Bool) → cond b 134 226 ≤ 226
    by true = omega arith
    by false = omega arith

-- where a period's lines end
pub period-within : (family : ℕ) (ps : List Period) (d : Period) (i place next : ℕ)
    → next ≡ place + length (lines_of (period_sets family (i + 1) (get_or ps i d))) → next ≤ place + 226
period-within family ps d i place next e = omega (arith, e, period-long family (i + 1) (get_or ps i d), period-most family)

pub archive-long : (family k : ℕ) (ps : List Period) → length (lines_of (archive_sets family k ps)) ≡ length ps * period_long family
unfolding archive_sets lines_of
archive-long family k [] = sym (zero-mul (period_long family))
archive-long family k (p ∷ ps) =
    rw (lines-append (period_sets family k p) (archive_sets family (k + 1) ps), length-append (lines_of (period_sets family k p)) (lines_of (archive_sets family (k + 1) ps)), period-long family k p, archive-long family (k + 1) ps)
    (sym (suc-mul (length ps) (period_long family) ∙ add_comm (length ps * period_long family) (period_long family)))

pub archive-most : (family k : ℕ) (ps : List Period) → length (lines_of (archive_sets family k ps)) ≤ length ps * 226
archive-most family k ps = rw (archive-long family k ps) (mul-le-mul_left (length ps) (period-most family))

pub kept-many : (tables : ℕ) (g : Registers) → Lengths tables g → length (periods_of g.archive) ≡ g.archive.count
unfolding periods_of
kept-many tables g h = length-take-le g.archive.count g.archive.periods (omega (arith, h.kept, h.places))

pub long-content : (tables : ℕ) (g : Registers) → Lengths tables g
    → length (long_data tables g) ≡ 76 + directions_long (family_in g) + tables * 36 + g.archive.count * period_long (family_in g)
unfolding long_data long_sets
long-content tables g h =
    let b = block_sets tables g in
    let p = archive_sets (family_in g) 1 (periods_of g.archive) in
    let periods : length (lines_of p) ≡ g.archive.count * period_long (family_in g) =
    archive-long (family_in g) 1 (periods_of g.archive) ∙ ap (λ (n : ℕ). n * period_long (family_in g)) (kept-many tables g h) in
    length-append (lines_of (b ++ p)) (33 ∷ 13 ∷ 10 ∷ [])
    ∙ rw (lines-append b p, length-append (lines_of b) (lines_of p), periods, sets-long tables g h) (omega arith)

pub long-block-long : (tables : ℕ) (g : Registers) → Lengths tables g
    → length (block_of (long_data tables g)) ≡ 79 + directions_long (family_in g) + tables * 36 + g.archive.count * period_long (family_in g)
long-block-long tables g h = block-length (long_data tables g) ∙ rw (long-content tables g h) (omega arith)

-- one more period at the end has the next number
archive-more : (family k : ℕ) (ps : List Period) (p : Period) → archive_sets family k (ps ++ (p ∷ [])) ≡ archive_sets family k ps ++ period_sets family (k + length ps) p
unfolding archive_sets
archive-more family k [] p = append-nil (period_sets family k p) ∙ ap (λ (n : ℕ). period_sets family n p) (sym (add-zero k))
archive-more family k (q ∷ ps) p =
    ap (λ (l : List DataSet). period_sets family k q ++ l) (archive-more family (k + 1) ps p ∙ ap (λ (n : ℕ). archive_sets family (k + 1) ps ++ period_sets family n p) (along k (length ps)))
    ∙ sym (append_assoc (period_sets family k q) (archive_sets family (k + 1) ps) (period_sets family (k + length (q ∷ ps)) p))
  where
    along : (j n : ℕ) → j + 1 + n ≡ j + suc n
    along j n = omega arith

pub no-period : (family : ℕ) (ps : List Period) (buf : List ℕ) (at : ℕ) → Lines buf at (archive_sets family 1 (take 0 ps)) at buf
unfolding archive_sets lines_of stored
no-period family ps buf at = record { next = omega arith; held = refl }

pub next-period : (family : ℕ) (ps : List Period) (d : Period) (buf : List ℕ) (at i place : ℕ) (mid : List ℕ) (next : ℕ) (after : List ℕ) → i < length ps
    → Lines buf at (archive_sets family 1 (take i ps)) place mid → next ≡ place + length (lines_of (period_sets family (i + 1) (get_or ps i d)))
    → after ≡ stored mid place (lines_of (period_sets family (i + 1) (get_or ps i d))) → Lines buf at (archive_sets family 1 (take (i + 1) ps)) next after
next-period family ps d buf at i place mid next after h l q e =
    let p = get_or ps i d in
    let few : length (take i ps) ≡ i = length-take-le i ps (omega (arith, h)) in
    let number : 1 + length (take i ps) ≡ i + 1 = omega (arith, few) in
    rw (add-one i, take-suc ps i d h, archive-more family 1 (take i ps) p, number)
    (joined (archive_sets family 1 (take i ps)) (period_sets family (i + 1) p) buf at place mid next after l
    (record { next = q; held = e }))
