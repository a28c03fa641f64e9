-- The archive: what is said of its periods one by one, and what one more period makes of it. Assumes nothing.
use Rattle.std.proofs.Common.{min, ◌≡◌, ℕ, zero, suc, ◌+◌, ◌-◌, ◌<◌, ◌≤◌, Bool, true, false, cond, ◌&&◌, eqb, ltb, leb, List, [], ◌∷◌, ◌++◌, length, get_or, take, drop, replicate, sym, refl, ap, ◌∙◌, add-one, arith, drop_of_length-le, length-take-le, take_all, drop-cons, take-take, ltb-false, ltb-true, eqb-true, leb-true}
use mathlib.Core.Bool.{and-true}
use Rattle.line.specs.Runs.{every}
use Rattle.line.proofs.Runs.{and_left, and_right}
use Rattle.clock.specs.Seconds.{date_of}
use Rattle.state.specs.declared.Period.{Period}
use Rattle.state.specs.declared.Archive.{Archive}
use Rattle.state.specs.Sizes.{period_places}
use Rattle.state.specs.WellFormed.{below, zones_below, both_below, no_time, period_good, unused, every_period, archive_good}
use Rattle.state.specs.Making.{no_period}
use Rattle.state.specs.Closing.{periods_of, closed_with, one_more}

-- what is left of a run of periods, one at a time
pub period-next : (i : ℕ) (s : List Period) (d : Period) → i < length s → drop i s ≡ get_or s i d ∷ drop (i + 1) s
period-next i s d h = rw add-one (drop-cons s i d h)

one_by_one : (q : List Period) (d : Period) → length q ≡ period_places
    → get_or q 0 d ∷ get_or q 1 d ∷ get_or q 2 d ∷ get_or q 3 d ∷ get_or q 4 d ∷ get_or q 5 d ∷ get_or q 6 d ∷ get_or q 7 d ∷ get_or q 8 d ∷ get_or q 9 d ∷ get_or q 10 d ∷ get_or q 11 d ∷ []
    ≡ drop 0 q
one_by_one q d n =
    let end : length q ≤ 12 = omega arith in
    rw (
      period-next 0 q d (omega arith),
      period-next 1 q d (omega arith),
      period-next 2 q d (omega arith),
      period-next 3 q d (omega arith),
      period-next 4 q d (omega arith),
      period-next 5 q d (omega arith),
      period-next 6 q d (omega arith),
      period-next 7 q d (omega arith),
      period-next 8 q d (omega arith),
      period-next 9 q d (omega arith),
      period-next 10 q d (omega arith),
      period-next 11 q d (omega arith),
      drop_of_length-le q end,
    )

-- an archive taken apart
pub record FormedArchive (family : ℕ) (a : Archive) : Type 0 where
  pub count : a.count ≤ period_places
  pub long : length a.periods ≡ period_places
  pub good : every_period (period_good family) (take a.count a.periods) ≡ true
  pub rest : every_period unused (drop a.count a.periods) ≡ true

pub formed-archive : (family : ℕ) (a : Archive) → archive_good family a ≡ true → FormedArchive family a
unfolding archive_good
formed-archive family a h =
    let c = leb a.count period_places in
    let l = eqb (length a.periods) period_places in
    let g = every_period (period_good family) (take a.count a.periods) in
    let u = every_period unused (drop a.count a.periods) in
    let front = and_left (c && l) (g && u) h in
    let back = and_right (c && l) (g && u) h in
    record {
      count = leb-true a.count period_places (and_left c l front);
      long = eqb-true (length a.periods) period_places (and_right c l front);
      good = and_left g u back;
      rest = and_right g u back;
    }

-- four counters below an end, named one by one
pub four_below : (end : ℕ) (z : List ℕ) → length z ≡ 4
    → (below end (get_or z 0 0) && (below end (get_or z 1 0) && (below end (get_or z 2 0) && below end (get_or z 3 0)))) ≡ zones_below end z
unfolding zones_below every
four_below end [] n = absurd (omega (arith, n))
four_below end (a ∷ []) n = absurd (omega (arith, n))
four_below end (a ∷ b ∷ []) n = absurd (omega (arith, n))
four_below end (a ∷ b ∷ c ∷ []) n = absurd (omega (arith, n))
four_below end (a ∷ b ∷ c ∷ d ∷ []) n = rw (and-true (below end d))
four_below end (a ∷ b ∷ c ∷ d ∷ e ∷ z) n = absurd (omega (arith, n))

-- an unused place is the one that holds nothing
zeros : (z : List ℕ) → every (below 1) z ≡ true → z ≡ replicate (length z) 0
unfolding every below
zeros [] h = refl
zeros (x ∷ z) h =
    let first : x ≡ 0 = omega (arith, ltb-true x 1 (and_left (ltb x 1) (every (below 1) z) h)) in
    ap (λ (n : ℕ). n ∷ z) first ∙ ap (λ (l : List ℕ). 0 ∷ l) (zeros z (and_right (ltb x 1) (every (below 1) z) h))

all-zero : (y m d h n : ℕ) (z o : List ℕ) → y ≡ 0 → m ≡ 0 → d ≡ 0 → h ≡ 0 → n ≡ 0 → z ≡ replicate 4 0 → o ≡ replicate 4 0
    → ◌≡◌ {A = Period} (record { closed = record { date = date_of y m d; hour = h; minute = n }; zones = z; exported = o }) no_period
all-zero y m d h n z o ey em ed eh en ez eo = rw (ey, em, ed, eh, en, ez, eo)

four-zeros : (z : List ℕ) → zones_below 1 z ≡ true → z ≡ replicate 4 0
unfolding zones_below
four-zeros z h =
    let four = eqb-true (length z) 4 (and_left (eqb (length z) 4) (every (below 1) z) h) in
    zeros z (and_right (eqb (length z) 4) (every (below 1) z) h) ∙ ap (λ (k : ℕ). replicate k 0) four

pub unused-is : (p : Period) → unused p ≡ true → p ≡ no_period
unfolding unused no_time both_below
unused-is p e =
    let y = eqb p.closed.date.year 0 in
    let m = eqb p.closed.date.month 0 in
    let d = eqb p.closed.date.day 0 in
    let h = eqb p.closed.hour 0 in
    let n = eqb p.closed.minute 0 in
    let z = zones_below 1 p.zones in
    let o = zones_below 1 p.exported in
    let time = and_left ((y && (m && d)) && (h && n)) (z && o) e in
    let both = and_right ((y && (m && d)) && (h && n)) (z && o) e in
    let date = and_left (y && (m && d)) (h && n) time in
    let hours = and_right (y && (m && d)) (h && n) time in
    all-zero _ _ _ _ _ _ _
    (eqb-true p.closed.date.year 0 (and_left y (m && d) date))
    (eqb-true p.closed.date.month 0 (and_left m d (and_right y (m && d) date)))
    (eqb-true p.closed.date.day 0 (and_right m d (and_right y (m && d) date)))
    (eqb-true p.closed.hour 0 (and_left h n hours))
    (eqb-true p.closed.minute 0 (and_right h n hours))
    (four-zeros p.zones (and_left z o both))
    (four-zeros p.exported (and_right z o both))

unused-all : (n : ℕ) (ps : List Period) → n ≤ length ps → every_period unused ps ≡ true → replicate n no_period ≡ take n ps
unfolding every_period
unused-all zero ps l h = refl
unused-all (suc n) [] l h = absurd (omega (arith, l))
unused-all (suc n) (p ∷ ps) l h =
    ap (λ (x : Period). x ∷ replicate n no_period) (sym (unused-is p (and_left (unused p) (every_period unused ps) h)))
    ∙ ap (λ (r : List Period). p ∷ r) (unused-all n ps (omega (arith, l)) (and_right (unused p) (every_period unused ps) h))

-- the kept ones and then unused places are the places as they are
padded : (n c : ℕ) (ps : List Period) → n ≤ length ps → every_period unused (drop c ps) ≡ true
    → take n (take c ps) ++ replicate (n - length (take n (take c ps))) no_period ≡ take n ps
padded zero c ps l h = refl
padded (suc n) c [] l h = absurd (omega (arith, l))
padded (suc n) zero (p ∷ ps) l h = rw (none-off (suc n)) (unused-all (suc n) (p ∷ ps) l h)
  where
    none-off : (k : ℕ) → k - 0 ≡ k
    none-off k = omega arith
padded (suc n) (suc c) (p ∷ ps) l h =
    rw (one-off n (length (take n (take c ps)))) (ap (λ (r : List Period). p ∷ r) (padded n c ps (omega (arith, l)) h))
  where
    one-off : (j k : ℕ) → suc j - suc k ≡ j - k
    one-off j k = omega arith

more : (c : ℕ) (ps : List Period) → length ps ≡ period_places → c ≤ period_places → one_more c ≡ suc (length (take 11 (take c ps)))
unfolding one_more
more c ps l h = go (ltb c period_places) refl
  where
    go : (b : Bool) → ltb c period_places ≡ b → cond b (c + 1) period_places ≡ suc (length (take 11 (take c ps)))
    go true e =
        let few : c ≤ 11 = omega (arith, ltb-true c period_places e) in
        let long : length (take c ps) ≡ c = length-take-le c ps (omega (arith, l, h)) in
        rw (take_all 11 (take c ps) (omega (arith, long, few)), long) (omega arith)
    go false e =
        let full : 11 ≤ c = omega (arith, ltb-false c period_places e) in
        rw (take-take 11 c ps full, length-take-le 11 ps (omega (arith, l))) (omega arith)

-- how many there are then, counted up to the end
pub counted-on : (c : ℕ) → min (c + 1) period_places ≡ one_more c
unfolding one_more
counted-on c = go (ltb c period_places) refl
  where
    go : (b : Bool) → ltb c period_places ≡ b → min (c + 1) period_places ≡ cond b (c + 1) period_places
    go true e = omega (arith, ltb-true c period_places e)
    go false e = omega (arith, ltb-false c period_places e)

-- the first eleven places, one by one
pub first-eleven : (q : List Period) (d : Period) → length q ≡ period_places
    → get_or q 0 d ∷ get_or q 1 d ∷ get_or q 2 d ∷ get_or q 3 d ∷ get_or q 4 d ∷ get_or q 5 d ∷ get_or q 6 d ∷ get_or q 7 d ∷ get_or q 8 d ∷ get_or q 9 d ∷ get_or q 10 d ∷ []
    ≡ take 11 (drop 0 q)
first-eleven q d n = ap (take 11) (one_by_one q d n)

abbrev archive_from : List Period → ℕ → Archive
archive_from ps count = record { periods = ps; count = count }

-- one more period: it comes first, and what stood at the first eleven places behind it
pub one-more-is : (p : Period) (a : Archive) → a.count ≤ period_places → length a.periods ≡ period_places → every_period unused (drop a.count a.periods) ≡ true
    → archive_from (p ∷ take 11 a.periods) (one_more a.count) ≡ closed_with p a
unfolding closed_with periods_of
one-more-is p a few long rest =
    let ps = a.periods in
    rw (more a.count ps long few, ← padded 11 a.count ps (omega (arith, long)) rest)
    (let kept = take 11 (take a.count ps) in
    ap (λ (k : ℕ). archive_from (p ∷ (kept ++ replicate k no_period)) (suc (length kept))) (one-off (length kept)))
  where
    one-off : (k : ℕ) → 11 - k ≡ 12 - suc k
    one-off k = omega arith
