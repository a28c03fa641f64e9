-- Lines that stand one below the other with rising numbers, from flags and raw digits, are passed one by one. Assumes nothing.
use Rattle.std.proofs.Common.{◌≡◌, ℕ, zero, suc, ◌+◌, ◌-◌, ◌*◌, ◌<◌, ◌≤◌, Bool, true, false, ◌&&◌, ltb, leb, List, length, get_or, drop, sym, refl, ◌∙◌, add-one, arith, length-drop, get_or-drop, below_more, ltb-true, leb-true}
use Rattle.line.proofs.Runs.{and_left, and_right}
use Rattle.post.specs.Grammar.{last_line, IsPost}
use Rattle.post.specs.Columns.{columns_fit, number_of, three, TookLine, raw_at, raw_before, LineRises}
use Rattle.post.specs.Rest.{Passed}
use Rattle.post.proofs.Places.{columns-each, columns-all, Stands, stands, passed_none, passed-more, ends-post}
use Rattle.post.proofs.Reading.{rest-post}
use Rattle.post.proofs.LinePlaces.{tens-fits, unit-fits, found}
use Rattle.post.proofs.Windows.{in_window}

-- what is known after l lines: the raw digits of the last, whether they rose so far, and which columns fitted in all of them
pub record Rose (tables : ℕ) (text : List ℕ) (l above : ℕ) (rise : Bool) (fits : List Bool) : Type 0 where
  pub long : length fits ≡ 16
  pub last : above ≡ raw_before text l
  pub rises : rise ≡ true → (k : ℕ) → k < l → (raw_before text k < raw_at text k) × (raw_at text k ≤ 528 + tables)
  pub held : (i : ℕ) → i < 16 → get_or fits i false ≡ true → (k : ℕ) → k < l → three (drop (36 * k) text) i ≡ true

pub rose-none : (tables : ℕ) (text : List ℕ) (fits : List Bool) → length fits ≡ 16 → Rose tables text 0 528 true fits
unfolding raw_before
rose-none tables text fits h = record { long = h; last = refl; rises = λ e k i. absurd (omega arith); held = λ i a e k b. absurd (omega arith) }

pub rose-more : (tables : ℕ) (text : List ℕ) (l above top raw : ℕ) (rise : Bool) (fits after : List Bool) → top ≡ 528 + tables → raw ≡ raw_at text l
    → TookLine (drop (36 * l) text) fits after 16 → Rose tables text l above rise fits
    → Rose tables text (l + 1) raw (rise && (ltb above raw && leb raw top)) after
unfolding raw_before
rose-more tables text l above top raw rise fits after t w took r =
    record {
      long = took.long ∙ r.long;
      last = w ∙ (rw (add-one l));
      rises =
          λ e.
          let b = and_right rise (ltb above raw && leb raw top) e in
          let lo = ltb-true above raw (and_left (ltb above raw) (leb raw top) b) in
          let hi = leb-true raw top (and_right (ltb above raw) (leb raw top) b) in
          below_more _ l (r.rises (and_left rise (ltb above raw && leb raw top) e)) (omega (arith, r.last), omega arith);
      held =
          λ i h e.
          let b : (get_or fits i false && three (drop (36 * l) text) i) ≡ true = sym (took.taken i h) ∙ e in
          below_more _ l (r.held i h (and_left (get_or fits i false) (three (drop (36 * l) text) i) b)) (and_right (get_or fits i false) (three (drop (36 * l) text) i) b);
    }

pub rose-end : (tables : ℕ) (text : List ℕ) (lines above : ℕ) (rise : Bool) (fits : List Bool) → Rose tables text lines above rise fits
    → ((i : ℕ) → i < 16 → get_or fits i false ≡ true) → rise ≡ true → (l : ℕ) → l < lines → LineRises tables text l
rose-end tables text lines above rise fits r all e l h =
    record {
      held = columns-all (drop (36 * l) text) 36 (in_window (drop (36 * l) text) (λ j k. r.held j k (all j k) l h));
      low = (r.rises e l h).0;
      high = (r.rises e l h).1;
    }

-- the raw digits of a line that fits
raw-number-is : (text : List ℕ) (l : ℕ) → columns_fit (drop (36 * l) text) 36 ≡ true → raw_at text l ≡ 528 + number_of (drop (36 * l) text)
unfolding raw_at number_of
raw-number-is text l e =
    let s = drop (36 * l) text in
    let f = columns-each s 36 e in
    let t = tens-fits s (f 6 (omega arith)) in
    let u = unit-fits s (f 7 (omega arith)) in
    let p = get_or-drop (36 * l) text 6 0 in
    let q = get_or-drop (36 * l) text 7 0 in
    omega arith

module _ (tables : ℕ) (text : List ℕ) (lines : ℕ) (few : tables < 100) (long : 36 * lines ≤ length text) (all : (l : ℕ) → l < lines → LineRises tables text l) where
  before-high : (k : ℕ) → k ≤ lines → 528 ≤ raw_before text k
  unfolding raw_before
  before-high zero i = omega arith
  before-high (suc k) i = omega (arith, raw-number-is text k (all k (omega arith)).held)

  -- one line further
  line-stands : (k : ℕ) → k < lines → Stands tables (raw_before text k - 528) (drop (36 * k) text) (raw_at text k - 528)
  line-stands k h =
      let r = all k h in
      let s = drop (36 * k) text in
      let e : number_of s ≡ raw_at text k - 528 = omega (arith, raw-number-is text k r.held) in
      let lo : raw_before text k - 528 < raw_at text k - 528 = omega (arith, r.low, before-high k (omega arith)) in
      stands tables (raw_before text k - 528) (raw_at text k - 528) s (rw (length-drop (36 * k) text) (omega arith))
      (sym (found tables (raw_before text k - 528) (raw_at text k - 528) s r.held e lo (omega (arith, r.high)))) (λ z. omega arith)

  passed-line : (k : ℕ) → k < lines → Passed tables text (36 * k) (raw_before text k - 528) → Passed tables text (36 * suc k) (raw_before text (suc k) - 528)
  unfolding raw_before
  passed-line k h p =
      let e : 36 * k + 36 ≡ 36 * suc k = omega arith in
      rw e at (passed-more tables (raw_before text k - 528) (36 * k) (raw_at text k - 528) text few (omega arith) p (line-stands k h))

  passed : (k : ℕ) → k ≤ lines → Passed tables text (36 * k) (raw_before text k - 528)
  passed zero h = unfold raw_before in passed_none tables text
  passed (suc k) h = passed-line k (omega arith) (passed k (omega arith))

  above-some : (k : ℕ) → 0 < k → k ≤ lines → 0 < raw_before text k - 528
  above-some zero i h = absurd (omega arith)
  above-some (suc k) i h = omega (arith, (line-stands k (omega arith)).low, same k)
    where
      same : (k : ℕ) → raw_before text (suc k) ≡ raw_at text k
      same k = unfold raw_before in refl

  -- and then the last line
  pub whole_post : 0 < lines → drop (36 * lines) text ≡ last_line → IsPost tables text
  whole_post some e =
      rest-post tables text ((passed lines (omega arith)).onward (ends-post tables (raw_before text lines - 528) (drop (36 * lines) text) (above-some lines some (omega arith)) e))
