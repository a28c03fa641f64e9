-- The longest shared beginning, line by line: a line that stands at the front is passed, and below the last of them the place
-- is that of the next line's columns, or of the last line. Assumes nothing.
use Rattle.std.proofs.Common.{◌≡◌, ℕ, zero, suc, ◌+◌, ◌<◌, ◌≤◌, Bool, true, false, ◌&&◌, ltb, leb, List, [], ◌∷◌, ◌++◌, length, get_or, take, drop, sym, refl, ap, ◌∙◌, ⊎_elim, zero-add, arith, length-append, take-append-drop, length-take-le, take_all, get_or-take, take-take, drop-drop, take_at, drop_at, ltb-true, lt-ltb, le-leb, leb-true}
use lib.Seq.{take-append-le}
use Rattle.line.proofs.Runs.{and_left, and_right, and_both}
use Rattle.text.specs.Beginnings.{Shares, Longest}
use Rattle.text.proofs.Beginnings.{le-or-lt, same_at, same-front, longest-below}
use Rattle.values.specs.Registers.{good_row}
use Rattle.post.specs.Grammar.{Entry, line_text, lines_text, last_line, post_text, rising}
use Rattle.post.specs.Columns.{column_fits, columns_fit, number_of, row_of, may_follow, pick, next_number, Column, LinePlace, LastPlace}
use Rattle.post.specs.Rest.{Rest, Passed}
use Rattle.post.proofs.Lines.{length-line, fits_line, fits-row}
use Rattle.post.proofs.Reading.{post-cons, rising-number, rising-rest, rising-table, rising-row, rising-cons, line_first, last-first, same_number, take-line, drop-line, length_last, length-post-none, length-post-cons}
use Rattle.post.proofs.Columns.{shared-column, line-column, complete, same-fits, same-number-of}

-- a line, with what may stand below it
module _ (tables above n : ℕ) (row : List ℕ) (few : tables < 100) (low : above < n) (high : n ≤ tables) (good : good_row row ≡ true) where
  line-long : length (line_text n row) ≡ 36
  line-long = length-line n row good

  pub put-line : (t : List ℕ) → Rest tables n t → Rest tables above (line_text n row ++ t)
  put-line t r =
      let e : Entry = record { number = n; row = row } in
      record {
        entries = e ∷ r.entries;
        good = rising-cons tables above e r.entries low high good r.good;
        some = λ z q. (let z : ◌≡◌ {A = ℕ} 0 1 = cc in omega arith);
        spelt = post-cons e r.entries ∙ ap (λ (l : List ℕ). line_text n row ++ l) r.spelt;
      }

  -- what stands below the line, in a text that begins with it
  below : (v : List ℕ) (es : List Entry) → rising tables above es ≡ true → post_text es ≡ v → take 36 v ≡ line_text n row → Rest tables n (drop 36 v)
  below v [] g t b =
      absurd (omega (arith, ap length b, line-long, ap length t, length-post-none, ap length (take_all 36 v (omega (arith, ap length t, length-post-none)))))
  below v (e ∷ es) g t b =
      let l : line_text e.number e.row ≡ line_text n row = sym (take-line tables above e es g) ∙ ap (take 36) t ∙ b in
      let same : e.number ≡ n = same_number e.number n e.row row (omega (arith, rising-table tables above e es g)) (omega arith) l in
      record {
        entries = es;
        good = ap (λ (m : ℕ). rising tables m es) (sym same) ∙ rising-rest tables above e es g;
        some = λ z q. omega arith;
        spelt = sym (drop-line tables above e es g) ∙ ap (drop 36) t;
      }

  pub take-off : (t : List ℕ) → Rest tables above (line_text n row ++ t) → Rest tables n t
  take-off t r =
      rw (drop_at (line_text n row) t 36 line-long) at (below (line_text n row ++ t) r.entries r.good r.spelt (take_at (line_text n row) t 36 line-long))

  -- the place below a line counts from its end
  pub longest-below-line : (t : List ℕ) (k : ℕ) → Longest (Rest tables n) t k → Longest (Rest tables above) (line_text n row ++ t) (36 + k)
  longest-below-line t k g =
      longest-below (Rest tables above) (Rest tables n) (line_text n row) 36 line-long put-line (λ v r b. below v r.entries r.good r.spelt b) t k g

-- all of the first n columns, each by itself
pub columns-each : (s : List ℕ) (n : ℕ) → columns_fit s n ≡ true → (j : ℕ) → j < n → column_fits s j ≡ true
unfolding columns_fit
columns-each s zero e j h = absurd (omega arith)
columns-each s (suc n) e j h =
    ⊎_elim (λ k. ap (column_fits s) (omega arith) ∙ and_right (columns_fit s n) (column_fits s n) e)
    (λ k. columns-each s n (and_left (columns_fit s n) (column_fits s n) e) j k) (le-or-lt n j)

pub columns-all : (s : List ℕ) (n : ℕ) → ((j : ℕ) → j < n → column_fits s j ≡ true) → columns_fit s n ≡ true
unfolding columns_fit
columns-all s zero h = refl
columns-all s (suc n) h = and_both (columns_fit s n) (column_fits s n) (columns-all s n (λ j k. h j (omega arith))) (h n (omega arith))

-- a text that begins with a line
pub record Stands (tables above : ℕ) (s : List ℕ) (n : ℕ) : Type 0 where
  pub row : List ℕ
  pub low : above < n
  pub high : n ≤ tables
  pub good-row : good_row row ≡ true
  pub front : s ≡ line_text n row ++ drop 36 s

picked : (b : Bool) (m n : ℕ) → pick b m ≡ n → (n ≡ 0 → ⊥) → (b ≡ true) × (m ≡ n)
unfolding pick
picked true m n e h = (refl, e)
picked false m n e h = absurd (h (sym e))

pub stands : (tables above n : ℕ) (s : List ℕ) → 36 ≤ length s → next_number tables above s ≡ n → (n ≡ 0 → ⊥) → Stands tables above s n
unfolding next_number may_follow
stands tables above n s h e z =
    let t = picked (columns_fit s 36 && may_follow tables above (number_of s)) (number_of s) n e z in
    let u = take 36 s in
    let f = columns-each s 36 (and_left (columns_fit s 36) (may_follow tables above (number_of s)) t.0) in
    let m = and_right (columns_fit s 36) (may_follow tables above (number_of s)) t.0 in
    let lo = ltb-true above (number_of s) (and_left (ltb above (number_of s)) (leb (number_of s) tables) m) in
    let hi = leb-true (number_of s) tables (and_right (ltb above (number_of s)) (leb (number_of s) tables) m) in
    let same : number_of s ≡ n = t.1 in
    let long : length u ≡ 36 = length-take-le 36 s h in
    let fu : (j : ℕ) → j < 36 → column_fits u j ≡ true = λ j k. same-fits u s j (get_or-take 36 s j 0 k) ∙ f j k in
    let nu : number_of u ≡ n = same-number-of u s (get_or-take 36 s 6 0 (omega arith)) (get_or-take 36 s 7 0 (omega arith)) ∙ same in
    record {
      row = row_of u;
      low = omega arith;
      high = omega arith;
      good-row = fits-row u long fu;
      front = sym (take-append-drop 36 s) ∙ ap (λ (l : List ℕ). l ++ drop 36 s) (fits_line u long fu ∙ ap (λ (m : ℕ). line_text m (row_of u)) nu);
    }

-- 36 good columns are a line
line-ends : (tables above : ℕ) (s : List ℕ) → 36 ≤ length s → ((j : ℕ) → j < 36 → Column tables above s j) → next_number tables above s ≡ 0 → ⊥
unfolding next_number may_follow pick
line-ends tables above s h c e =
    let u = (c 7 (omega arith)).unit refl in
    let f = columns-all s 36 (λ j k. (c j k).held) in
    let z : number_of s ≡ 0 = rw (f, lt-ltb above (number_of s) u.0, le-leb (number_of s) tables u.1) at e in
    omega (arith, u.0)

pub no_line : (tables above : ℕ) (s : List ℕ) (place : ℕ) → LinePlace tables above s place → (36 ≤ length s → next_number tables above s ≡ 0) → place < 36
no_line tables above s place p ends =
    ⊎_elim (λ h. absurd (line-ends tables above s (omega (arith, p.in-text)) (λ j k. p.before j (omega arith)) (ends (omega (arith, p.in-text))))) (λ h. h) (le-or-lt 36 place)

last-text : post_text [] ≡ last_line
unfolding post_text lines_text
last-text = refl

last_rest : (tables above : ℕ) → 0 < above → Rest tables above last_line
unfolding post_text lines_text rising
last_rest tables above h = record { entries = []; good = refl; some = λ z e. omega arith; spelt = refl }

-- where no line stands
module _ (tables above : ℕ) (s : List ℕ) (few : tables < 100) where
  -- a text that may stand here, and is no last line, begins with good columns
  line-columns-shared : (e : Entry) (es : List Entry) (k : ℕ) → rising tables above (e ∷ es) ≡ true → k ≤ 36 → take k (post_text (e ∷ es)) ≡ take k s → (j : ℕ) → j < k → Column tables above s j
  line-columns-shared e es k g h t j i =
      let l = line_text e.number e.row in
      let m : take k l ≡ take k s = ap (take k) (sym (take-line tables above e es g)) ∙ take-take k 36 (post_text (e ∷ es)) h ∙ t in
      shared-column tables above k l s m j i
      (line-column tables above e.number e.row few (rising-number tables above e es g) (rising-table tables above e es g) (rising-row tables above e es g) j (omega arith))

  module _ (place : ℕ) (p : LinePlace tables above s place) (ends : place < 36) (no_last : 0 < above → 0 < length s → get_or s 0 0 ≡ 33 → ⊥) where
    most-line : (k : ℕ) (es : List Entry) → rising tables above es ≡ true → (above ≡ 0 → es ≡ [] → ⊥) → k ≤ length s → take k (post_text es) ≡ take k s → k ≤ place
    most-line k [] g some h t =
        ⊎_elim (λ z. omega arith)
        (λ z. absurd (⊎_elim (λ a. some (omega arith) refl) (λ a. no_last a (omega arith) (sym (same_at k (post_text []) s t 0 z) ∙ last-first)) (le-or-lt above 0)))
        (le-or-lt k 0)
    most-line k (e ∷ es) g some h t =
        ⊎_elim (λ z. z)
        (λ z.
        absurd
        (p.stops ends (omega arith)
        (line-columns-shared e es (suc place) g (omega arith) (same-front (suc place) k (post_text (e ∷ es)) s z t) place (omega arith)))) (le-or-lt k place)

    shared-line : 0 < tables → above ≤ tables → Shares (Rest tables above) s place
    shared-line some h =
        ⊎_elim
        (λ full.
        let z : place ≡ 0 = ⊎_elim (λ q. omega arith) (λ q. absurd (omega (arith, (p.before 0 q).first refl))) (le-or-lt place 0) in
        record {
          other = last_line;
          is_whole = last_rest tables above (omega arith);
          within = p.in-text;
          within-other = omega (arith, length_last);
          same = rw z;
        })
        (λ room.
        let c = complete tables above place s few p.in-line p.in-text room p.before in
        let l = line_text c.number c.row in
        let long : length l ≡ 36 = length-line c.number c.row c.good-row in
        record {
          other = l ++ last_line;
          is_whole = put-line tables above c.number c.row few c.low c.high c.good-row last_line (last_rest tables c.number (omega (arith, c.low)));
          within = p.in-text;
          within-other = omega (arith, length-append l last_line, p.in-line);
          same = take-append-le place l last_line (omega (arith, p.in-line)) ∙ c.same;
        }) (le-or-lt tables above)

    pub longest-line : 0 < tables → above ≤ tables → Longest (Rest tables above) s place
    longest-line some h =
        record { shared = shared-line some h; most = λ k sh. most-line k sh.is_whole.entries sh.is_whole.good sh.is_whole.some sh.within (ap (take k) sh.is_whole.spelt ∙ sh.same) }

  -- where no line stands, nothing but the last line ends a post
  no-rest : (36 ≤ length s → next_number tables above s ≡ 0) → (0 < above → s ≡ last_line → ⊥) → (es : List Entry) → rising tables above es ≡ true → (above ≡ 0 → es ≡ [] → ⊥) → post_text es ≡ s → ⊥
  no-rest ends no_last [] g some t = ⊎_elim (λ a. some (omega arith) refl) (λ a. no_last a (sym t ∙ last-text)) (le-or-lt above 0)
  no-rest ends no_last (e ∷ es) g some t =
      let h : 36 ≤ length s = omega (arith, length-post-cons tables above e es g, ap length t) in
      line-ends tables above s h (λ j k. line-columns-shared e es 36 g (omega arith) (ap (take 36) t) j k) (ends h)

  pub no-rest-here : (36 ≤ length s → next_number tables above s ≡ 0) → (0 < above → s ≡ last_line → ⊥) → Rest tables above s → ⊥
  no-rest-here ends no_last r = no-rest ends no_last r.entries r.good r.some r.spelt

-- where a text begins like the last line
module _ (tables above : ℕ) (s : List ℕ) (place : ℕ) (h : 0 < above) (begins : get_or s 0 0 ≡ 33) (p : LastPlace s place) where
  most-last : (k : ℕ) (es : List Entry) → k ≤ length s → k ≤ length (post_text es) → take k (post_text es) ≡ take k s → k ≤ place
  unfolding post_text lines_text
  most-last k [] i j t =
      ⊎_elim (λ z. z)
      (λ z. absurd (p.stops (omega (arith, length_last)) (omega arith) (same_at k last_line s t place z))) (le-or-lt k place)
  most-last k (e ∷ es) i j t =
      ⊎_elim (λ z. omega (arith, p.some))
      (λ z. absurd (omega (arith, line_first e es, begins, same_at k (post_text (e ∷ es)) s t 0 z))) (le-or-lt k 0)

  pub longest-last : Longest (Rest tables above) s place
  longest-last =
      record {
        shared =
            record {
              other = last_line;
              is_whole = last_rest tables above h;
              within = p.in-text;
              within-other = omega (arith, length_last, p.in-line);
              same = p.same;
            };
        most =
            λ k sh.
            most-last k sh.is_whole.entries sh.within (rw sh.is_whole.spelt sh.within-other) (ap (take k) sh.is_whole.spelt ∙ sh.same);
      }

-- the last line ends a post wherever a line stands above it
pub ends-post : (tables above : ℕ) (s : List ℕ) → 0 < above → s ≡ last_line → Rest tables above s
ends-post tables above s h e = rw e (last_rest tables above h)

-- before the first line, and one line further
pub passed_none : (tables : ℕ) (text : List ℕ) → Passed tables text 0 0
passed_none tables text =
    record {
      in-text = omega arith;
      in_tables = omega arith;
      onward = λ r. r;
      back = λ r. r;
      longest = λ k g. (rw (zero-add k) g);
    }

pub passed-more : (tables above at n : ℕ) (text : List ℕ) → tables < 100 → at + 36 ≤ length text → Passed tables text at above → Stands tables above (drop at text) n → Passed tables text (at + 36) n
passed-more tables above at n text few long p st =
    let s = drop at text in
    let l = line_text n st.row in
    let d : drop 36 s ≡ drop (at + 36) text = drop-drop 36 at text in
    let f : s ≡ l ++ drop (at + 36) text = st.front ∙ ap (λ (x : List ℕ). l ++ x) d in
    record {
      in-text = long;
      in_tables = st.high;
      onward = λ r. p.onward (rw f (put-line tables above n st.row few st.low st.high st.good-row (drop (at + 36) text) r));
      back = λ r. take-off tables above n st.row few st.low st.high st.good-row (drop (at + 36) text) (rw f at (p.back r));
      longest =
          λ k g.
          let w : at + (36 + k) ≡ (at + 36) + k = omega arith in
          (rw w at (p.longest (36 + k) (rw f (longest-below-line tables above n st.row few st.low st.high st.good-row (drop (at + 36) text) k g))));
    }
