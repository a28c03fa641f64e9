-- `post::next_number` meets its contract: each way out is the case of the definition that its tests name. Assumes nothing.
use Rattle.std.proofs.Common.{◌≡◌, ℕ, ◌+◌, ◌-◌, ◌*◌, ◌<◌, ◌≤◌, true, false, List, get_or, drop, arith, length-drop, get_or-drop, le-ltb, lt-ltb}
use borrow.Author.Tests.{lt-leb}
use Rattle.post.specs.Columns.{columns_fit, number_of, may_follow, pick, next_number}
use Rattle.post.proofs.Places.{columns-each}
use Rattle.post.proofs.LinePlaces.{tens-fits, unit-fits, found}
use Rattle.post.proofs.Strays.{whole-fits, whole-strays}
use Rattle.post.proofs.next_number.Goals as goal

-- the digits of a line whose columns fit, where they stand in the text
digits : (text : List ℕ) (at : ℕ) → columns_fit (drop at text) 36 ≡ true
    → (48 ≤ get_or text (at + 6) 0) × (get_or text (at + 6) 0 ≤ 57) × (48 ≤ get_or text (at + 7) 0) × (get_or text (at + 7) 0 ≤ 57)
digits text at e =
    let f = columns-each (drop at text) 36 e in
    let t = tens-fits (drop at text) (f 6 (omega arith)) in
    let u = unit-fits (drop at text) (f 7 (omega arith)) in
    let p = get_or-drop at text 6 0 in
    let q = get_or-drop at text 7 0 in
    (omega arith, omega arith, omega arith, omega arith)

number_at : (text : List ℕ) (at : ℕ) → number_of (drop at text) ≡ (get_or text (at + 6) 0 - 48) * 10 + (get_or text (at + 7) 0 - 48)
unfolding number_of
number_at text at = rw (get_or-drop at text 6 0, get_or-drop at text 7 0)

-- the three ways to find none
strays : (tables above : ℕ) (s : List ℕ) → columns_fit s 36 ≡ false → next_number tables above s ≡ 0
unfolding next_number pick
strays tables above s e = rw e

too-low : (tables above n : ℕ) (s : List ℕ) → columns_fit s 36 ≡ true → number_of s ≡ n → n ≤ above → next_number tables above s ≡ 0
unfolding next_number pick may_follow
too-low tables above n s e q h = rw (e, q, le-ltb above n h)

too-high : (tables above n : ℕ) (s : List ℕ) → columns_fit s 36 ≡ true → number_of s ≡ n → above < n → tables < n → next_number tables above s ≡ 0
unfolding next_number pick may_follow
too-high tables above n s e q h k = rw (e, q, lt-ltb above n h, lt-leb n tables k)

pub returns-then-stray-lt36 : goal.returns-then-stray-lt36
returns-then-stray-lt36 c =
    let a = c.args in
    let s = drop a.at a.text.now in
    strays a.tables a.above s (whole-strays s a.stray (rw (length-drop a.at a.text.now) (omega (arith, c.requires.0))) c.requires.1 c.if-stray-lt36.true)

pub overflow_sub-n : goal.overflow_sub-n
overflow_sub-n c =
    let d = digits c.args.text.now c.args.at (whole-fits (drop c.args.at c.args.text.now) c.args.stray c.requires.1 c.if-stray-lt36.false) in
    omega (arith, d.0)

pub overflow_mul-n : goal.overflow_mul-n
overflow_mul-n c =
    let d = digits c.args.text.now c.args.at (whole-fits (drop c.args.at c.args.text.now) c.args.stray c.requires.1 c.if-stray-lt36.false) in
    omega (arith, d.1)

pub overflow_sub-n-2 : goal.overflow_sub-n-2
overflow_sub-n-2 c = let d = digits c.args.text.now c.args.at (whole-fits (drop c.args.at c.args.text.now) c.args.stray c.requires.1 c.if-stray-lt36.false) in
    omega (arith, d.2)

pub overflow_add-n-3 : goal.overflow_add-n-3
overflow_add-n-3 c = let d = digits c.args.text.now c.args.at (whole-fits (drop c.args.at c.args.text.now) c.args.stray c.requires.1 c.if-stray-lt36.false) in
    omega (arith, d.0, d.1, d.2, d.3)

pub returns-then-n-above : goal.returns-then-n-above
returns-then-n-above c = let a = c.args in
    too-low a.tables a.above _ (drop a.at a.text.now) (whole-fits (drop c.args.at c.args.text.now) c.args.stray c.requires.1 c.if-stray-lt36.false) (number_at a.text.now a.at) (omega (arith, c.if-n-above.true))

pub returns-then-tables-n : goal.returns-then-tables-n
returns-then-tables-n c = let a = c.args in
    too-high a.tables a.above _ (drop a.at a.text.now) (whole-fits (drop c.args.at c.args.text.now) c.args.stray c.requires.1 c.if-stray-lt36.false) (number_at a.text.now a.at) (omega (arith, c.if-n-above.false)) c.if-tables-n.true

pub returns : goal.returns
returns c = let a = c.args in (
  omega arith,
  found a.tables a.above _ (drop a.at a.text.now) (whole-fits (drop c.args.at c.args.text.now) c.args.stray c.requires.1 c.if-stray-lt36.false) (number_at a.text.now a.at) (omega (arith, c.if-n-above.false)) c.if-tables-n.false,
)
