-- A line, changed column by column, is the frame that sets its table. The BCC is the line's own but for what the fixed parts
-- differ in, by the exclusive-or law. Assumes nothing.
use mathlib.Core.Path.{◌≡◌, refl, sym, ap, ap₂, ◌∙◌}
use mathlib.Core.Bool.{true}
use mathlib.Core.List.{List, [], ◌∷◌, ◌++◌, map, append_assoc}
use Prim.Native.Nat.{ℕ, zero, suc, ◌+◌, ◌/◌, ◌%◌, ◌<◌, ◌≤◌}
use native.Mathlib.Omega.{arith}
use native.Mathlib.Numerals.{add-one}
use native.Mathlib.Nat.{le_of_suc-le-suc}
use lib.Bits.{bit_xor, xor_zero_r, xor_comm}
use lib.ListN.{length, get_or, take, set, replicate, length-append, length-map}
use lib.Seq.{take-suc, take_at, set-set}
use Rattle.line.specs.Characters.{sent, seven}
use Rattle.line.specs.Checksum.{bcc_of}
use Rattle.line.proofs.Xor.{xor_assoc, bcc-append}
use Rattle.text.specs.Writing.{stored}
use Rattle.text.proofs.Writing.{stored-append}
use Rattle.text.specs.Decimal.{decimal}
use Rattle.text.specs.Layout.{layout_text}
use Rattle.values.specs.Registers.{good_row}
use Rattle.values.specs.Texts.{table_text}
use Rattle.frames.specs.Frames.{frame_of, on_wire}
use Rattle.frames.specs.Commands.{W1, set_table}
use Rattle.frames.proofs.Table.{table_body, table-frame, length-body}
use Rattle.post.specs.Grammar.{line_text}
use Rattle.post.proofs.Lines.{line-columns, row-length, length-line}
use Rattle.export.specs.Changed.{differing, change, changed_to, changed_line}

pub append-nil : (l : List ℕ) → l ++ [] ≡ l
append-nil [] = refl
append-nil (x ∷ l) = ap (λ (r : List ℕ). x ∷ r) (append-nil l)

pub length-changed : (s : List ℕ) (n : ℕ) → length (changed_to s n) ≡ n
unfolding changed_to
length-changed s zero = refl
length-changed s (suc n) =
    omega (arith, length-append (changed_to s n) (sent (bit_xor (get_or s n 0) (get_or change n 0)) ∷ []), length-changed s n)

-- one more byte behind those that were written
pub stored-snoc : (buf : List ℕ) (at : ℕ) (xs : List ℕ) (x n : ℕ) → length xs ≡ n → set (stored buf at xs) (at + n) x ≡ stored buf at (xs ++ (x ∷ []))
unfolding stored
stored-snoc buf at xs x n h = ap (λ (k : ℕ). set (stored buf at xs) (at + k) x) (sym h) ∙ stored-append buf at xs (x ∷ [])

pub changed-next : (buf : List ℕ) (at : ℕ) (s : List ℕ) (j : ℕ)
    → set (stored buf at (changed_to s j)) (at + j) (sent (bit_xor (get_or s j 0) (get_or change j 0))) ≡ stored buf at (changed_to s (j + 1))
unfolding changed_to
changed-next buf at s j = stored-snoc buf at (changed_to s j) (sent (bit_xor (get_or s j 0) (get_or change j 0))) j (length-changed s j) ∙ (rw (add-one j))

-- the last byte, written over
pub changed-last : (buf : List ℕ) (at : ℕ) (s : List ℕ) (x : ℕ) → set (stored buf at (changed_to s 36)) (at + 35) x ≡ stored buf at (changed_to s 35 ++ (x ∷ []))
changed-last buf at s x =
    ap (λ (b : List ℕ). set b (at + 35) x) (sym (changed-next buf at s 35))
    ∙ set-set (stored buf at (changed_to s 35)) (at + 35) (sent (bit_xor (get_or s 35 0) (get_or change 35 0))) x
    ∙ stored-snoc buf at (changed_to s 35) x 35 (length-changed s 35)

pub differing-at : (s t : List ℕ) (n : ℕ) → n < length s → n < length t → get_or (differing s t) n 0 ≡ bit_xor (get_or s n 0) (get_or t n 0)
unfolding differing
differing-at [] t n h k = absurd (omega arith)
differing-at (c ∷ s) [] n h k = absurd (omega arith)
differing-at (c ∷ s) (d ∷ t) zero h k = refl
differing-at (c ∷ s) (d ∷ t) (suc n) h k = differing-at s t n (le_of_suc-le-suc h) (le_of_suc-le-suc k)

-- two texts, changed by one another all at once
unfoldable changes : List ℕ → List ℕ → List ℕ
changes [] ds = []
changes (c ∷ cs) [] = []
changes (c ∷ cs) (d ∷ ds) = sent (bit_xor c d) ∷ changes cs ds

changes-at : (s d : List ℕ) (n : ℕ) → n < length s → n < length d → get_or (changes s d) n 0 ≡ sent (bit_xor (get_or s n 0) (get_or d n 0))
unfolding changes
changes-at [] d n h k = absurd (omega arith)
changes-at (c ∷ s) [] n h k = absurd (omega arith)
changes-at (c ∷ s) (x ∷ d) zero h k = refl
changes-at (c ∷ s) (x ∷ d) (suc n) h k = changes-at s d n (le_of_suc-le-suc h) (le_of_suc-le-suc k)

length-changes : (s d : List ℕ) (n : ℕ) → n ≤ length s → n ≤ length d → n ≤ length (changes s d)
unfolding changes
length-changes [] d n h k = h
length-changes (c ∷ s) [] n h k = k
length-changes (c ∷ s) (x ∷ d) zero h k = omega arith
length-changes (c ∷ s) (x ∷ d) (suc n) h k = omega (arith, length-changes s d n (le_of_suc-le-suc h) (le_of_suc-le-suc k))

pub length-change : length change ≡ 36
unfolding change
length-change = refl

changed-take : (s : List ℕ) (n : ℕ) → n ≤ length s → n ≤ 36 → changed_to s n ≡ take n (changes s change)
unfolding changed_to
changed-take s zero h k = refl
changed-take s (suc n) h k =
    ap₂ (λ (l : List ℕ) (x : ℕ). l ++ (x ∷ [])) (changed-take s n (omega arith) (omega arith)) (sym (changes-at s change n (omega arith) (omega (arith, length-change))))
    ∙ sym (take-suc (changes s change) n 0 (length-changes s change (suc n) h (omega (arith, length-change))))

-- a row goes over as it is
changes-row : (row s d : List ℕ) → changes (row ++ s) (replicate (length row) 0 ++ d) ≡ map sent row ++ changes s d
unfolding changes
changes-row [] s d = refl
changes-row (c ∷ row) s d = ap₂ (λ (x : ℕ) (l : List ℕ). sent x ∷ l) (xor_zero_r c) (changes-row row s d)

map-append : (f : ℕ → ℕ) (s t : List ℕ) → map f (s ++ t) ≡ map f s ++ map f t
map-append f [] t = refl
map-append f (x ∷ s) t = ap (λ (l : List ℕ). f x ∷ l) (map-append f s t)

changes-none : (s : List ℕ) → changes s [] ≡ []
unfolding changes
changes-none [] = refl
changes-none (c ∷ s) = refl

-- the row and what follows it
changes-back : (row rest : List ℕ) → length row ≡ 24
    → changes ((row ++ (41 ∷ 13 ∷ 10 ∷ [])) ++ rest) (replicate 24 0 ++ (0 ∷ 14 ∷ 0 ∷ [])) ≡ map sent (row ++ (41 ∷ 3 ∷ 10 ∷ []))
unfolding changes
changes-back row rest h =
    ap₂ (λ (l : List ℕ) (k : ℕ). changes l (replicate k 0 ++ (0 ∷ 14 ∷ 0 ∷ []))) (append_assoc row (41 ∷ 13 ∷ 10 ∷ []) rest) (sym h)
    ∙ changes-row row (41 ∷ 13 ∷ 10 ∷ rest) (0 ∷ 14 ∷ 0 ∷ [])
    ∙ ap (λ (l : List ℕ). map sent row ++ (sent 41 ∷ sent 3 ∷ sent 10 ∷ l)) (changes-none rest)
    ∙ sym (map-append sent row (41 ∷ 3 ∷ 10 ∷ []))

changes-line : (n : ℕ) (row rest : List ℕ) → length row ≡ 24
    → changes (line_text n row ++ rest) change ≡ map sent (1 ∷ 87 ∷ 49 ∷ 2 ∷ 90 ∷ 40 ∷ (48 + n / 10 % 10) ∷ (48 + n % 10) ∷ 59 ∷ (row ++ (41 ∷ 3 ∷ 10 ∷ [])))
unfolding change changes
changes-line n row rest h =
    ap (λ (l : List ℕ). changes (l ++ rest) change) (line-columns n row)
    ∙ ap₂ (λ (x y : ℕ). sent 1 ∷ sent 87 ∷ sent 49 ∷ sent 2 ∷ sent 90 ∷ sent 40 ∷ sent x ∷ sent y ∷ sent 59 ∷ changes ((row ++ (41 ∷ 13 ∷ 10 ∷ [])) ++ rest) (replicate 24 0 ++ (0 ∷ 14 ∷ 0 ∷ [])))
    (xor_zero_r (48 + n / 10 % 10)) (xor_zero_r (48 + n % 10))
    ∙ ap (λ (l : List ℕ). sent 1 ∷ sent 87 ∷ sent 49 ∷ sent 2 ∷ sent 90 ∷ sent 40 ∷ sent (48 + n / 10 % 10) ∷ sent (48 + n % 10) ∷ sent 59 ∷ l) (changes-back row rest h)

-- the last column is left over
body-front : (n : ℕ) (row : List ℕ)
    → 1 ∷ 87 ∷ 49 ∷ 2 ∷ 90 ∷ 40 ∷ (48 + n / 10 % 10) ∷ (48 + n % 10) ∷ 59 ∷ (row ++ (41 ∷ 3 ∷ 10 ∷ [])) ≡ (1 ∷ table_body n row) ++ (10 ∷ [])
unfolding table_body table_text layout_text decimal
body-front n row =
    ap (λ (l : List ℕ). 1 ∷ 87 ∷ 49 ∷ 2 ∷ 90 ∷ 40 ∷ (48 + n / 10 % 10) ∷ (48 + n % 10) ∷ 59 ∷ l) (sym (append_assoc row (41 ∷ 3 ∷ []) (10 ∷ [])))

changed-front : (n : ℕ) (row rest : List ℕ) → good_row row ≡ true → changed_to (line_text n row ++ rest) 35 ≡ map sent (1 ∷ table_body n row)
changed-front n row rest g =
    let h = row-length row g in
    let long : length (map sent (1 ∷ table_body n row)) ≡ 35 = length-map (1 ∷ table_body n row) sent ∙ ap suc (length-body n row h) in
    changed-take (line_text n row ++ rest) 35 (omega (arith, length-append (line_text n row) rest, length-line n row g)) (omega arith)
    ∙ ap (take 35) (changes-line n row rest h ∙ ap (map sent) (body-front n row) ∙ map-append sent (1 ∷ table_body n row) (10 ∷ []))
    ∙ take_at (map sent (1 ∷ table_body n row)) (map sent (10 ∷ [])) 35 long

xor-swap : (a b c : ℕ) → bit_xor a (bit_xor b c) ≡ bit_xor b (bit_xor a c)
xor-swap a b c = sym (xor_assoc a b c) ∙ ap (λ (x : ℕ). bit_xor x c) (xor_comm a b) ∙ xor_assoc b a c

-- the sums of the fixed parts, gathered
gather : (a t b r c : ℕ) → bit_xor a (bit_xor t (bit_xor b (bit_xor r c))) ≡ bit_xor (bit_xor a (bit_xor b c)) (bit_xor t r)
gather a t b r c =
    ap (λ (x : ℕ). bit_xor a (bit_xor t (bit_xor b x))) (xor_comm r c)
    ∙ ap (bit_xor a) (xor-swap t b (bit_xor c r) ∙ ap (bit_xor b) (xor-swap t c r) ∙ sym (xor_assoc b c (bit_xor t r)))
    ∙ sym (xor_assoc a (bit_xor b c) (bit_xor t r))

gathered : (a t b r c : List ℕ) → bcc_of (a ++ (t ++ (b ++ (r ++ c)))) ≡ bit_xor (bit_xor (bcc_of a) (bit_xor (bcc_of b) (bcc_of c))) (bit_xor (bcc_of t) (bcc_of r))
gathered a t b r c =
    bcc-append a (t ++ (b ++ (r ++ c)))
    ∙ ap (bit_xor (bcc_of a)) (bcc-append t (b ++ (r ++ c)) ∙ ap (bit_xor (bcc_of t)) (bcc-append b (r ++ c) ∙ ap (bit_xor (bcc_of b)) (bcc-append r c)))
    ∙ gather (bcc_of a) (bcc_of t) (bcc_of b) (bcc_of r) (bcc_of c)

line-fixed : bit_xor (bcc_of (49 ∷ 51 ∷ 49 ∷ 46 ∷ 48 ∷ 46 ∷ [])) (bit_xor (bcc_of (40 ∷ [])) (bcc_of [])) ≡ 43
unfolding bcc_of seven
line-fixed = refl

body-fixed : bit_xor (bcc_of (87 ∷ 49 ∷ 2 ∷ 90 ∷ 40 ∷ [])) (bit_xor (bcc_of (59 ∷ [])) (bcc_of (41 ∷ 3 ∷ []))) ≡ 7
unfolding bcc_of seven
body-fixed = refl

-- a line up to its row's end
line-front : (n : ℕ) (row rest : List ℕ) → good_row row ≡ true
    → take 33 (line_text n row ++ rest) ≡ (49 ∷ 51 ∷ 49 ∷ 46 ∷ 48 ∷ 46 ∷ []) ++ (table_text n ++ ((40 ∷ []) ++ (row ++ [])))
unfolding table_text layout_text decimal
line-front n row rest g =
    ap (λ (l : List ℕ). take 33 (l ++ rest)) (line-columns n row)
    ∙ ap (λ (l : List ℕ). 49 ∷ 51 ∷ 49 ∷ 46 ∷ 48 ∷ 46 ∷ (48 + n / 10 % 10) ∷ (48 + n % 10) ∷ 40 ∷ l)
    (ap (take 24) (append_assoc row (41 ∷ 13 ∷ 10 ∷ []) rest) ∙ take_at row (41 ∷ 13 ∷ 10 ∷ rest) 24 (row-length row g) ∙ sym (append-nil row))

-- the BCC of the line and of its frame differ in what their fixed parts do
changed-bcc : (n : ℕ) (row rest : List ℕ) → good_row row ≡ true → bit_xor (bcc_of (take 33 (line_text n row ++ rest))) 44 ≡ bcc_of (table_body n row)
unfolding table_body
changed-bcc n row rest g =
    let s = bit_xor (bcc_of (table_text n)) (bcc_of row) in
    let sum : bcc_of (take 33 (line_text n row ++ rest)) ≡ bit_xor 43 s =
    ap bcc_of (line-front n row rest g)
    ∙ gathered (49 ∷ 51 ∷ 49 ∷ 46 ∷ 48 ∷ 46 ∷ []) (table_text n) (40 ∷ []) row []
    ∙ ap (λ (y : ℕ). bit_xor y s) line-fixed in
    ap (λ (x : ℕ). bit_xor x 44) sum
    ∙ xor_comm (bit_xor 43 s) 44
    ∙ sym (xor_assoc 44 43 s)
    ∙ sym (gathered (87 ∷ 49 ∷ 2 ∷ 90 ∷ 40 ∷ []) (table_text n) (59 ∷ []) row (41 ∷ 3 ∷ []) ∙ ap (λ (y : ℕ). bit_xor y s) body-fixed)

-- a line, changed, is the frame that sets its table
pub changed-is : (n : ℕ) (row rest : List ℕ) → good_row row ≡ true → changed_line (line_text n row ++ rest) ≡ on_wire (frame_of W1 (set_table n row))
unfolding changed_line
changed-is n row rest g =
    rw (changed-bcc n row rest g, changed-front n row rest g, table-frame n row)
    (sym (map-append sent (1 ∷ table_body n row) (bcc_of (table_body n row) ∷ [])))
