-- Entries line by line: what good entries are, one by one, and that a text has one reading. Assumes nothing.
use Rattle.std.proofs.Common.{◌≡◌, ℕ, ◌+◌, ◌*◌, ◌<◌, ◌≤◌, true, ◌&&◌, ltb, leb, List, [], ◌∷◌, ◌++◌, length, get_or, take, drop, sym, refl, ap, ◌∙◌, ap₂, append_assoc, arith, length-append, take_at, drop_at, ltb-true, lt-ltb, le-leb, leb-true}
use Rattle.line.proofs.Runs.{and_left, and_right}
use Rattle.text.specs.Classes.{between}
use Rattle.values.specs.Registers.{good_row, good_table}
use Rattle.post.specs.Grammar.{Entry, line_text, lines_text, last_line, post_text, good_entry, rising, good_entries, IsPost}
use Rattle.post.specs.Columns.{number_of, row_of}
use Rattle.post.specs.Rest.{Rest}
use Rattle.post.proofs.Lines.{line-columns, length-line, number-line, row_line}

pub post-cons : (e : Entry) (es : List Entry) → post_text (e ∷ es) ≡ line_text e.number e.row ++ post_text es
unfolding post_text lines_text
post-cons e es = append_assoc (line_text e.number e.row) (lines_text es) last_line

-- what is said of the first of good entries, and of the others
module _ (tables above : ℕ) (e : Entry) (es : List Entry) where
  pub rising-number : rising tables above (e ∷ es) ≡ true → above < e.number
  unfolding rising
  rising-number g =
      ltb-true above e.number
      (and_left (ltb above e.number) (rising tables e.number es) (and_right (good_entry tables e) (ltb above e.number && rising tables e.number es) g))

  pub rising-rest : rising tables above (e ∷ es) ≡ true → rising tables e.number es ≡ true
  unfolding rising
  rising-rest g =
      and_right (ltb above e.number) (rising tables e.number es) (and_right (good_entry tables e) (ltb above e.number && rising tables e.number es) g)

  pub rising-table : rising tables above (e ∷ es) ≡ true → e.number ≤ tables
  unfolding rising good_entry good_table between
  rising-table g =
      leb-true e.number tables
      (and_right (leb 1 e.number) (leb e.number tables) (and_left (good_table tables e.number) (good_row e.row) (and_left (good_entry tables e) (ltb above e.number && rising tables e.number es) g)))

  pub rising-row : rising tables above (e ∷ es) ≡ true → good_row e.row ≡ true
  unfolding rising good_entry
  rising-row g = and_right (good_table tables e.number) (good_row e.row) (and_left (good_entry tables e) (ltb above e.number && rising tables e.number es) g)

  pub rising-cons : above < e.number → e.number ≤ tables → good_row e.row ≡ true → rising tables e.number es ≡ true → rising tables above (e ∷ es) ≡ true
  unfolding rising good_entry good_table between
  rising-cons l h r g = rw (le-leb 1 e.number (omega arith), le-leb e.number tables h, r, lt-ltb above e.number l, g)

-- the first character tells a line from the last line
pub line_first : (e : Entry) (es : List Entry) → get_or (post_text (e ∷ es)) 0 0 ≡ 49
line_first e es = rw (post-cons e es, line-columns e.number e.row)

pub last-first : get_or (post_text []) 0 0 ≡ 33
unfolding post_text lines_text last_line
last-first = refl

-- two lines with the same text are the same
pub same_number : (n m : ℕ) (r q : List ℕ) → n < 100 → m < 100 → line_text n r ≡ line_text m q → n ≡ m
same_number n m r q h k e = sym (number-line n r h) ∙ ap number_of e ∙ number-line m q k

pub same_row : (n m : ℕ) (r q : List ℕ) → good_row r ≡ true → good_row q ≡ true → line_text n r ≡ line_text m q → r ≡ q
same_row n m r q h k e = sym (row_line n r h) ∙ ap row_of e ∙ row_line m q k

entry-is : (e f : Entry) → e.number ≡ f.number → e.row ≡ f.row → e ≡ f
entry-is e f p q = ap₂ (λ (n : ℕ) (r : List ℕ). record { number = n; row = r }) p q

-- the first line, and what stands below it
module _ (tables above : ℕ) (e : Entry) (es : List Entry) (g : rising tables above (e ∷ es) ≡ true) where
  pub take-line : take 36 (post_text (e ∷ es)) ≡ line_text e.number e.row
  take-line = rw (post-cons e es) (take_at (line_text e.number e.row) (post_text es) 36 (length-line e.number e.row (rising-row tables above e es g)))

  pub drop-line : drop 36 (post_text (e ∷ es)) ≡ post_text es
  drop-line = rw (post-cons e es) (drop_at (line_text e.number e.row) (post_text es) 36 (length-line e.number e.row (rising-row tables above e es g)))

reading : (tables a b : ℕ) (es fs : List Entry) → tables < 100 → rising tables a es ≡ true → rising tables b fs ≡ true → post_text es ≡ post_text fs → es ≡ fs
reading tables a b [] [] h g k t = refl
reading tables a b [] (f ∷ fs) h g k t = absurd (omega (arith, last-first, line_first f fs, ap (λ (l : List ℕ). get_or l 0 0) t))
reading tables a b (e ∷ es) [] h g k t = absurd (omega (arith, last-first, line_first e es, ap (λ (l : List ℕ). get_or l 0 0) t))
reading tables a b (e ∷ es) (f ∷ fs) h g k t =
    let l : line_text e.number e.row ≡ line_text f.number f.row = sym (take-line tables a e es g) ∙ ap (take 36) t ∙ take-line tables b f fs k in
    let r : post_text es ≡ post_text fs = sym (drop-line tables a e es g) ∙ ap (drop 36) t ∙ drop-line tables b f fs k in
    ap₂ ◌∷◌
    (entry-is e f
    (same_number e.number f.number e.row f.row (omega (arith, rising-table tables a e es g)) (omega (arith, rising-table tables b f fs k)) l)
    (same_row e.number f.number e.row f.row (rising-row tables a e es g) (rising-row tables b f fs k) l))
    (reading tables e.number f.number es fs h (rising-rest tables a e es g) (rising-rest tables b f fs k) r)

pub good-rising : (tables : ℕ) (es : List Entry) → good_entries tables es ≡ true → rising tables 0 es ≡ true
unfolding good_entries
good-rising tables [] g = absurd (let z : ◌≡◌ {A = ℕ} 0 1 = cc in omega arith)
good-rising tables (e ∷ es) g = g

-- one reading: two lists of good entries with the same text are the same list
pub one-reading : (tables : ℕ) (es fs : List Entry) → tables < 100 → good_entries tables es ≡ true → good_entries tables fs ≡ true → post_text es ≡ post_text fs → es ≡ fs
one-reading tables es fs h g k t = reading tables 0 0 es fs h (good-rising tables es g) (good-rising tables fs k) t

-- a post is what may stand from the very top on
pub post-rest : (tables : ℕ) (text : List ℕ) → IsPost tables text → Rest tables 0 text
unfolding good_entries
post-rest tables text p =
    record { entries = p.entries; good = good-rising tables p.entries p.good; some = λ z e. nothing p.entries p.good e; spelt = p.spelt }
  where
    nothing : (es : List Entry) → good_entries tables es ≡ true → es ≡ [] → ⊥
    nothing es g e = let z : ◌≡◌ {A = ℕ} 0 1 = cc in omega arith

pub rest-post : (tables : ℕ) (text : List ℕ) → Rest tables 0 text → IsPost tables text
unfolding good_entries
rest-post tables text r = record { entries = r.entries; good = good r.entries r.good (r.some refl); spelt = r.spelt }
  where
    good : (es : List Entry) → rising tables 0 es ≡ true → (es ≡ [] → ⊥) → good_entries tables es ≡ true
    good [] g h = absurd (h refl)
    good (e ∷ es) g h = g

pub length_last : length last_line ≡ 3
unfolding last_line
length_last = refl

pub length-post-cons : (tables above : ℕ) (e : Entry) (es : List Entry) → rising tables above (e ∷ es) ≡ true → length (post_text (e ∷ es)) ≡ 36 + length (post_text es)
length-post-cons tables above e es g =
    ap length (post-cons e es)
    ∙ length-append (line_text e.number e.row) (post_text es)
    ∙ ap (λ (k : ℕ). k + length (post_text es)) (length-line e.number e.row (rising-row tables above e es g))

pub length-post-none : length (post_text []) ≡ 3
unfolding post_text lines_text last_line
length-post-none = refl

-- 36 a line, and 3
pub length-post : (tables above : ℕ) (es : List Entry) → rising tables above es ≡ true → length (post_text es) ≡ 36 * length es + 3
length-post tables above [] g = length-post-none
length-post tables above (e ∷ es) g =
    omega (arith, length-post-cons tables above e es g, length-post tables e.number es (rising-rest tables above e es g))

-- no more lines than numbers are left
pub count_entries : (tables above : ℕ) (es : List Entry) → above ≤ tables → rising tables above es ≡ true → length es + above ≤ tables
count_entries tables above [] h g = omega arith
count_entries tables above (e ∷ es) h g =
    omega (arith, rising-number tables above e es g, count_entries tables e.number es (rising-table tables above e es g) (rising-rest tables above e es g))
