-- A line of a data set, followed by anything, is read as that set; so a list of lines reads back line by line. Assumes nothing.
use mathlib.Core.Path.{◌≡◌, refl, sym, ap, ap₂, ◌∙◌}
use mathlib.Core.Bool.{Bool, true, false, ◌&&◌}
use mathlib.Core.List.{List, [], ◌∷◌, ◌++◌, append_assoc, append-nil}
use Prim.Native.Nat.{ℕ, zero, suc, ◌+◌, ◌<◌, ◌≤◌}
use native.Mathlib.Omega.{arith}
use borrow.Author.Tests.{leb-true, le-leb}
use lib.Dec.{leb, eqb}
use lib.ListN.{length, drop, get_or, length-append}
use lib.Seq.{take_at, get_or_at, drop-append_seam, drop-append-add, get_or-append-add, drop-drop}
use Rattle.line.specs.Runs.{every}
use Rattle.line.proofs.Runs.{and_left, and_right}
use Rattle.text.specs.Classes.{between, is_digit, is_letter, is_printable, is_address, is_value}
use Rattle.datasets.specs.Sets.{DataSet, data_set, line_of, lines_of}
use Rattle.datasets.specs.Good.{good_set, good_sets}
use Rattle.reading.specs.Sets.{of_kind, leading, starts_with3, end_at, set_at, set_read}
use Rattle.reading.proofs.Deciding.{no_end, past_end, line-end, by_value}
use Rattle.reading.specs.Whole.{last_line, set_of, also, read_from, read_all}

-- a run of one kind, up to a character of another
pub leads : (p : ℕ → Bool) (xs : List ℕ) (c : ℕ) (rest : List ℕ) (most : ℕ) → every p xs ≡ true → length xs < most → p c ≡ false
    → leading p most (xs ++ (c ∷ rest)) ≡ length xs
unfolding leading every
leads p xs c rest zero h l n = absurd (omega arith)
leads p [] c rest (suc most) h l n = rw n
leads p (x ∷ xs) c rest (suc most) h l n =
    rw (and_left (p x) (every p xs) h) (ap suc (leads p xs c rest most (and_right (p x) (every p xs) h) (omega arith) n))

address-open : of_kind false 40 ≡ false
unfolding of_kind is_address is_letter is_digit between
address-open = refl

value-close : of_kind true 41 ≡ false
unfolding of_kind is_value is_printable between
value-close = refl

as-kind : (xs : List ℕ) → every is_address xs ≡ true → every (of_kind false) xs ≡ true
unfolding of_kind
as-kind xs h = h

as-value : (xs : List ℕ) → every is_value xs ≡ true → every (of_kind true) xs ≡ true
unfolding of_kind
as-value xs h = h

-- what a good set's rule says
pub record Sized (d : DataSet) : Type 0 where
  pub some : 1 ≤ length d.address
  pub short : length d.address ≤ 16
  pub address : every is_address d.address ≡ true
  pub small : length d.value ≤ 32
  pub value : every is_value d.value ≡ true

pub sized : (d : DataSet) → good_set d ≡ true → Sized d
unfolding good_set between
sized d h =
    let n = length d.address in
    let m = length d.value in
    let a = and_left ((leb 1 n && leb n 16) && every is_address d.address) (leb m 32 && every is_value d.value) h in
    let v = and_right ((leb 1 n && leb n 16) && every is_address d.address) (leb m 32 && every is_value d.value) h in
    let l = and_left (leb 1 n && leb n 16) (every is_address d.address) a in
    record {
      some = leb-true 1 n (and_left (leb 1 n) (leb n 16) l);
      short = leb-true n 16 (and_right (leb 1 n) (leb n 16) l);
      address = and_right (leb 1 n && leb n 16) (every is_address d.address) a;
      small = leb-true m 32 (and_left (leb m 32) (every is_value d.value) v);
      value = and_right (leb m 32) (every is_value d.value) v;
    }

-- a line and what follows it, opened up
abbrev pub after-value : DataSet → List ℕ → List ℕ
after-value d rest = d.value ++ (41 ∷ 13 ∷ 10 ∷ rest)

abbrev pub opened : DataSet → List ℕ → List ℕ
opened d rest = d.address ++ (40 ∷ after-value d rest)

pub line-opened : (d : DataSet) (rest : List ℕ) → line_of d ++ rest ≡ opened d rest
unfolding data_set
line-opened d rest =
    append_assoc d.address (40 ∷ (d.value ++ (41 ∷ 13 ∷ 10 ∷ []))) rest
    ∙ ap (λ (l : List ℕ). d.address ++ (40 ∷ l)) (append_assoc d.value (41 ∷ 13 ∷ 10 ∷ []) rest)

closes : (rest : List ℕ) → starts_with3 41 13 10 (41 ∷ 13 ∷ 10 ∷ rest) ≡ true
unfolding starts_with3
closes rest = rw (le-leb 3 (length (41 ∷ 13 ∷ 10 ∷ rest)) (omega arith))

ends : (rest : List ℕ) → starts_with3 33 13 10 (33 ∷ 13 ∷ 10 ∷ rest) ≡ true
unfolding starts_with3
ends rest = rw (le-leb 3 (length (33 ∷ 13 ∷ 10 ∷ rest)) (omega arith))

module _ (pre rest : List ℕ) (d : DataSet) (good : good_set d ≡ true) where
  from-here : drop (length pre) (pre ++ opened d rest) ≡ opened d rest
  from-here = drop-append_seam pre (opened d rest)

  inside : length pre < length (pre ++ opened d rest)
  inside =
      let l = length-append pre (opened d rest) in
      let k = length-append d.address (40 ∷ after-value d rest) in
      omega arith

  address-leads : length d.address ≡ leading (of_kind false) 17 (drop (length pre) (pre ++ opened d rest))
  address-leads =
      let z = sized d good in
      rw from-here (sym (leads (of_kind false) d.address 40 (after-value d rest) 17 (as-kind d.address z.address) (omega (arith, z.short)) address-open))

  no-last-line : starts_with3 33 13 10 (drop (length pre) (pre ++ opened d rest)) ≡ false
  no-last-line = no_end 17 (drop (length pre) (pre ++ opened d rest)) (λ e. let n : length d.address ≡ 0 = address-leads ∙ e in omega (arith, (sized d good).some))

  bracket : get_or (pre ++ opened d rest) (length pre + length d.address) 0 ≡ 40
  bracket = get_or-append-add pre (opened d rest) (length d.address) 0 ∙ get_or_at d.address 40 (after-value d rest) 0 (length d.address) refl

  pub value-here : drop (length pre + length d.address + 1) (pre ++ opened d rest) ≡ after-value d rest
  value-here =
      ap (λ (n : ℕ). drop n (pre ++ opened d rest)) {x = length pre + length d.address + 1} {y = length pre + (length d.address + 1)} (omega arith)
      ∙ drop-append-add pre (opened d rest) (length d.address + 1)
      ∙ drop-append-add d.address (40 ∷ after-value d rest) 1

  value-leads : length d.value ≡ leading (of_kind true) 33 (drop (length pre + length d.address + 1) (pre ++ opened d rest))
  value-leads =
      let z = sized d good in
      rw value-here (sym (leads (of_kind true) d.value 41 (13 ∷ 10 ∷ rest) 33 (as-value d.value z.value) (omega (arith, z.small)) value-close))

  close-here : drop (length pre + length d.address + 1 + length d.value) (pre ++ opened d rest) ≡ 41 ∷ 13 ∷ 10 ∷ rest
  close-here =
      sym (drop-drop (length d.value) (length pre + length d.address + 1) (pre ++ opened d rest))
      ∙ ap (drop (length d.value)) value-here
      ∙ drop-append_seam d.value (41 ∷ 13 ∷ 10 ∷ rest)

  -- the set at that place, by its lengths
  opened-reads : set_read (pre ++ opened d rest) (length pre) ≡ set_at (length pre) (length d.address) (length d.value)
  opened-reads =
      let z = sized d good in
      let n = length d.address in
      let m = length d.value in
      let address-good : ((leb 1 n && leb n 16) && eqb (get_or (pre ++ opened d rest) (length pre + n) 0) 40) ≡ true =
      rw (bracket, le-leb 1 n z.some, le-leb n 16 z.short) in
      let value-good : (leb m 32 && starts_with3 41 13 10 (drop (length pre + n + 1 + m) (pre ++ opened d rest))) ≡ true =
      rw (close-here, le-leb m 32 z.small) (closes rest) in
      sym (by_value (pre ++ opened d rest) (length pre) inside n address-leads no-last-line address-good m true value-leads value-good)

  pub line_reads : set_read (pre ++ (line_of d ++ rest)) (length pre) ≡ set_at (length pre) (length d.address) (length d.value)
  line_reads = rw (line-opened d rest) opened-reads

  -- and its characters
  pub line_set : set_of (pre ++ (line_of d ++ rest)) (length pre) (set_at (length pre) (length d.address) (length d.value)) ≡ d
  unfolding set_of
  line_set =
      rw (line-opened d rest, from-here, value-here, take_at d.address (40 ∷ after-value d rest) (length d.address) refl)
      (ap (λ (l : List ℕ). record { address = d.address; value = l }) (take_at d.value (41 ∷ 13 ∷ 10 ∷ rest) (length d.value) refl))

  line-next : length pre + length d.address + 1 + length d.value + 3 ≡ length (pre ++ line_of d)
  unfolding data_set
  line-next =
      let i = length-append pre (line_of d) in
      let j = length-append d.address (40 ∷ (d.value ++ (41 ∷ 13 ∷ 10 ∷ []))) in
      let k = length-append d.value (41 ∷ 13 ∷ 10 ∷ []) in
      omega arith

  -- one line, and the reader goes on behind it
  step : (more : ℕ) → read_from (suc more) (pre ++ (line_of d ++ rest)) (length pre) ≡ also d (read_from more ((pre ++ line_of d) ++ rest) (length (pre ++ line_of d)))
  unfolding read_from
  step more =
      rw line_reads
      (ap₂ also line_set (ap₂ (read_from more) (sym (append_assoc pre (line_of d) rest)) line-next))

-- what ends the reading, wherever it stands
abbrev pub Ends : List ℕ → Type 0
Ends tail = (pre : List ℕ) → set_read (pre ++ tail) (length pre) ≡ end_at (length pre)

-- the last line does, whatever follows
pub last-ends : (rest : List ℕ) → Ends (last_line ++ rest)
unfolding last_line
last-ends rest pre =
    let l = length-append pre (33 ∷ 13 ∷ 10 ∷ rest) in
    sym (line-end (pre ++ (33 ∷ 13 ∷ 10 ∷ rest)) (length pre) (omega arith) (rw (drop-append_seam pre (33 ∷ 13 ∷ 10 ∷ rest)) (ends rest)))

-- and so does the end of the data
pub none-ends : Ends []
none-ends pre = sym (past_end (pre ++ []) (length pre) (omega (arith, length-append pre [])))

place : (x y z : List ℕ) → length (x ++ y) + length z ≡ length x + length (y ++ z)
place x y z = omega (arith, length-append x y, length-append y z)

-- a list of lines reads back line by line, from any place on
pub lines-read : (ds : List DataSet) (pre tail : List ℕ) (more : ℕ) → Ends tail → good_sets ds ≡ true → length ds < more
    → read_from more (pre ++ (lines_of ds ++ tail)) (length pre) ≡ record { sets = ds; number = 0; place = length pre + length (lines_of ds) }
unfolding read_from lines_of good_sets also
lines-read ds pre tail zero e h l = absurd (omega arith)
lines-read [] pre tail (suc more) e h l =
    rw (e pre) (ap (λ (n : ℕ). record { sets = []; number = 0; place = n }) (omega arith))
lines-read (d ∷ ds) pre tail (suc more) e h l =
    let good = and_left (good_set d) (good_sets ds) h in
    let later = lines-read ds (pre ++ line_of d) tail more e (and_right (good_set d) (good_sets ds) h) (omega arith) in
    ap (λ (t : List ℕ). read_from (suc more) (pre ++ t) (length pre)) (append_assoc (line_of d) (lines_of ds) tail)
    ∙ step pre (lines_of ds ++ tail) d good more
    ∙ ap (also d) later
    ∙ ap (λ (n : ℕ). record { sets = d ∷ ds; number = 0; place = n }) (place pre (line_of d) (lines_of ds))

line-some : (d : DataSet) → good_set d ≡ true → 1 ≤ length (line_of d)
unfolding data_set
line-some d h = omega (arith, (sized d h).some, length-append d.address (40 ∷ (d.value ++ (41 ∷ 13 ∷ 10 ∷ []))))

pub lines_long : (ds : List DataSet) → good_sets ds ≡ true → length ds ≤ length (lines_of ds)
unfolding lines_of good_sets
lines_long [] h = omega arith
lines_long (d ∷ ds) h =
    omega (arith, lines_long ds (and_right (good_set d) (good_sets ds) h), length-append (line_of d) (lines_of ds), line-some d (and_left (good_set d) (good_sets ds) h))

-- lines up to what ends them read back, all of them, in order, and the reader stays there
all_read : (ds : List DataSet) (tail : List ℕ) → Ends tail → good_sets ds ≡ true → read_all (lines_of ds ++ tail) ≡ record { sets = ds; number = 0; place = length (lines_of ds) }
unfolding read_all
all_read ds tail e h =
    let enough : length ds < suc (length (lines_of ds ++ tail)) = omega (arith, lines_long ds h, length-append (lines_of ds) tail) in
    lines-read ds [] tail (suc (length (lines_of ds ++ tail))) e h enough
    ∙ ap (λ (n : ℕ). record { sets = ds; number = 0; place = n }) (omega arith)

-- the lines of a block, which a last line ends
pub sets-read-back : (ds : List DataSet) → good_sets ds ≡ true → read_all (lines_of ds ++ last_line) ≡ record { sets = ds; number = 0; place = length (lines_of ds) }
unfolding last_line
sets-read-back ds h = all_read ds last_line (last-ends []) h

-- the lines of an answer, which the data's own end ends
pub answer-reads-back : (ds : List DataSet) → good_sets ds ≡ true → read_all (lines_of ds) ≡ record { sets = ds; number = 0; place = length (lines_of ds) }
answer-reads-back ds h = ap read_all (sym (append-nil (lines_of ds))) ∙ all_read ds [] none-ends h
