-- Both ways: the answer made from any four quantities, or from a code, reads back to them; and what is read determines the bytes.
-- Assumes nothing.
use mathlib.Core.Path.{◌≡◌, refl, sym, ap, ap₂, ◌∙◌}
use mathlib.Core.Bool.{Bool, true, false, cond, ◌&&◌}
use mathlib.Core.List.{List, [], ◌∷◌, ◌++◌}
use Prim.Native.Nat.{ℕ, zero, suc, ◌+◌, ◌*◌, ◌-◌, ◌≤◌}
use native.Mathlib.Omega.{arith}
use lib.Dec.{eqb}
use lib.ListN.{length, get_or, take, drop}
use borrow.Author.Tests.{eqb-true, eq-eqb}
use Rattle.std.specs.Prelude.{Ok, Err}
use Rattle.line.specs.Runs.{every}
use Rattle.line.proofs.Runs.{and_left, and_right, left-next, chosen}
use Rattle.crc.specs.Crc.{with_crc, checks, is_byte}
use Rattle.crc.proofs.Own.{own-checks, checks-is, byte_at}
use Rattle.mercury.specs.declared.answering.Energy.{Energy}
use Rattle.mercury.specs.declared.answering.Refusal.TheVariants.{Status, WrongLength, WrongCrc, OtherAddress}
use Rattle.mercury.specs.Asking.{good_fields, request_of}
use Rattle.mercury.specs.Answering.{Quantity, Answer, quantity_at, energy_of, good_length, read_of, quantity_bytes, answer_of, answer_code, status_of, good_quantity, good_energy}
use Rattle.mercury.proofs.Lengths.{just-nineteen}
use Rattle.mercury.proofs.Ranges.{fields_le}
use Rattle.mercury.proofs.Ways.{a-status, some-data}
use Rattle.mercury.proofs.Quantities.{quantity-reads-back, quantity-determines}

-- an energy is its four quantities
abbrev four : Quantity → Quantity → Quantity → Quantity → Energy
four a b c d = record { active_in = a; active_out = b; reactive_in = c; reactive_out = d }

same-four : (a b c d a' b' c' d' : Quantity) → a ≡ a' → b ≡ b' → c ≡ c' → d ≡ d' → four a b c d ≡ four a' b' c' d'
same-four a b c d a' b' c' d' p q r s = ap₂ (λ (x y : Quantity). four x y c d) p q ∙ ap₂ (λ (x y : Quantity). four a' b' x y) r s

-- an answer made from any four quantities reads back to them
module _ (address : ℕ) (e : Energy) (g : good_energy e ≡ true) where
  first_two : (good_quantity e.active_in && good_quantity e.active_out) ≡ true
  unfolding good_energy
  first_two =
      and_left (good_quantity e.active_in && good_quantity e.active_out) (good_quantity e.reactive_in && good_quantity e.reactive_out) g

  last-two : (good_quantity e.reactive_in && good_quantity e.reactive_out) ≡ true
  unfolding good_energy
  last-two =
      and_right (good_quantity e.active_in && good_quantity e.active_out) (good_quantity e.reactive_in && good_quantity e.reactive_out) g

  energy-back : energy_of (answer_of address e) ≡ e
  unfolding energy_of answer_of with_crc quantity_at quantity_bytes
  energy-back =
      same-four _ _ _ _ _ _ _ _
      (quantity-reads-back e.active_in (and_left (good_quantity e.active_in) (good_quantity e.active_out) first_two))
      (quantity-reads-back e.active_out (and_right (good_quantity e.active_in) (good_quantity e.active_out) first_two))
      (quantity-reads-back e.reactive_in (and_left (good_quantity e.reactive_in) (good_quantity e.reactive_out) last-two))
      (quantity-reads-back e.reactive_out (and_right (good_quantity e.reactive_in) (good_quantity e.reactive_out) last-two))

  sized : length (answer_of address e) ≡ 19
  unfolding answer_of with_crc quantity_bytes
  sized = refl

  checked : checks (answer_of address e) ≡ true
  unfolding answer_of
  checked =
      own-checks
      (address ∷ (quantity_bytes e.active_in ++ (quantity_bytes e.active_out ++ (quantity_bytes e.reactive_in ++ quantity_bytes e.reactive_out))))

  addressed : get_or (answer_of address e) 0 0 ≡ address
  unfolding answer_of with_crc
  addressed = refl

  pub energy-reads-back : read_of address (answer_of address e) ≡ Ok e
  unfolding good_length
  energy-reads-back =
      sym (some-data address (answer_of address e) (ap good_length sized) checked (eq-eqb _ _ addressed) (ap (λ (n : ℕ). eqb n 4) sized))
      ∙ ap Ok energy-back

-- and one made from a code to the code
pub status-reads-back : (address code : ℕ) → read_of address (status_of address code) ≡ Err (Status code)
unfolding status_of with_crc good_length
status-reads-back address code =
    sym (a-status address (status_of address code) refl (own-checks (address ∷ code ∷ [])) (eq-eqb address address refl) refl)

-- the elements of a list from a place on, one by one
spelled : ℕ → ℕ → List ℕ → List ℕ
spelled zero i s = []
spelled (suc n) i s = get_or s i 0 ∷ spelled n (i + 1) s

spells : (n i : ℕ) (s : List ℕ) → i + n ≤ length s → take n (drop i s) ≡ spelled n i s
unfolding spelled
spells zero i s h = refl
spells (suc n) i s h = rw (left-next i s (omega arith)) (ap (λ (t : List ℕ). get_or s i 0 ∷ t) (spells n (i + 1) s (omega arith)))

-- a choice that shows what only its second side shows was made for it
unchosen : {A : Type 0} (shows : A → Bool) (b : Bool) (x y : A) → shows x ≡ false → shows (cond b x y) ≡ true → b ≡ false
unchosen shows true x y e h = sym h ∙ e
unchosen shows false x y e h = refl

-- what is read of an answer with data
is_data : Answer → Bool
is_data (Ok e) = true
is_data (Err (Status code)) = false
is_data (Err WrongLength) = false
is_data (Err WrongCrc) = false
is_data (Err OtherAddress) = false

energy_in : Answer → Energy → Energy
energy_in (Ok e) other = e
energy_in (Err (Status code)) other = other
energy_in (Err WrongLength) other = other
energy_in (Err WrongCrc) other = other
energy_in (Err OtherAddress) other = other

is_status : Answer → Bool
is_status (Err (Status code)) = true
is_status (Ok e) = false
is_status (Err WrongLength) = false
is_status (Err WrongCrc) = false
is_status (Err OtherAddress) = false

-- what is read determines the bytes
module _ (address : ℕ) (s : List ℕ) (bytes : every is_byte s ≡ true) where
  inner : Answer
  inner = cond (eqb (get_or s 0 0) address) (cond (eqb (length s) 4) (Err (Status (get_or s 1 0))) (Ok (energy_of s))) (Err OtherAddress)

  -- what an answer that is taken has passed
  taken : (shows : Answer → Bool) → shows (Err WrongLength) ≡ false → shows (Err WrongCrc) ≡ false → shows (Err OtherAddress) ≡ false → shows (read_of address s) ≡ true
      → (good_length (length s) ≡ true) × (checks s ≡ true) × (eqb (get_or s 0 0) address ≡ true)
  unfolding read_of inner
  taken shows w1 w2 w3 shown =
      let n : good_length (length s) ≡ true = chosen shows (good_length (length s)) (cond (checks s) inner (Err WrongCrc)) (Err WrongLength) w1 shown in
      let shown1 : shows (cond (checks s) inner (Err WrongCrc)) ≡ true = rw n at shown in
      let k : checks s ≡ true = chosen shows (checks s) inner (Err WrongCrc) w2 shown1 in
      let shown2 : shows inner ≡ true = rw k at shown1 in
      (n, k, chosen shows (eqb (get_or s 0 0) address) (cond (eqb (length s) 4) (Err (Status (get_or s 1 0))) (Ok (energy_of s))) (Err OtherAddress) w3 shown2)

  last : (shows : Answer → Bool) → good_length (length s) ≡ true → checks s ≡ true → eqb (get_or s 0 0) address ≡ true → shows (read_of address s) ≡ true
      → shows (cond (eqb (length s) 4) (Err (Status (get_or s 1 0))) (Ok (energy_of s))) ≡ true
  unfolding read_of
  last shows n k a shown = rw (n, k, a) at shown

  -- the four bytes of a quantity
  bytes-at : (i : ℕ) → i + 4 ≤ length s → quantity_bytes (quantity_at s i) ≡ get_or s i 0 ∷ get_or s (i + 1) 0 ∷ get_or s (i + 2) 0 ∷ get_or s (i + 3) 0 ∷ []
  unfolding quantity_at
  bytes-at i h =
      quantity-determines (get_or s i 0) (get_or s (i + 1) 0) (get_or s (i + 2) 0) (get_or s (i + 3) 0) (byte_at s bytes i (omega arith))
      (byte_at s bytes (i + 1) (omega arith)) (byte_at s bytes (i + 2) (omega arith)) (byte_at s bytes (i + 3) (omega arith))

  made-of-data : length s ≡ 19 → with_crc (take 17 s) ≡ answer_of (get_or s 0 0) (energy_of s)
  unfolding answer_of energy_of spelled
  made-of-data n =
      ap with_crc
      (spells 17 0 s (omega arith)
      ∙ sym (rw (bytes-at 1 (omega arith), bytes-at 5 (omega arith), bytes-at 9 (omega arith), bytes-at 13 (omega arith))))

  made-of-status : length s ≡ 4 → with_crc (take 2 s) ≡ status_of (get_or s 0 0) (get_or s 1 0)
  unfolding status_of spelled
  made-of-status n = ap with_crc (spells 2 0 s (omega arith))

  pub energy-determines : (e : Energy) → read_of address s ≡ Ok e → s ≡ answer_of address e
  unfolding is_data energy_in
  energy-determines e r =
      let shown : is_data (read_of address s) ≡ true = ap is_data r in
      let (n, k, a) = taken is_data refl refl refl shown in
      let four : eqb (length s) 4 ≡ false = unchosen is_data (eqb (length s) 4) (Err (Status (get_or s 1 0))) (Ok (energy_of s)) refl (last is_data n k a shown) in
      let is : energy_of s ≡ e = ap (λ (x : Answer). energy_in x e) (some-data address s n k a four ∙ r) in
      let len : length s ≡ 19 = just-nineteen (length s) n four in
      let body : length s - 2 ≡ 17 = omega arith in
      checks-is s bytes k ∙ ap (λ (i : ℕ). with_crc (take i s)) body ∙ made-of-data len ∙ ap₂ answer_of (eqb-true (get_or s 0 0) address a) is

  pub status-determines : (code : ℕ) → read_of address s ≡ Err (Status code) → s ≡ status_of address code
  unfolding is_status answer_code
  status-determines code r =
      let shown : is_status (read_of address s) ≡ true = ap is_status r in
      let (n, k, a) = taken is_status refl refl refl shown in
      let four : eqb (length s) 4 ≡ true = chosen is_status (eqb (length s) 4) (Err (Status (get_or s 1 0))) (Ok (energy_of s)) refl (last is_status n k a shown) in
      let is : get_or s 1 0 ≡ code = ap answer_code (a-status address s n k a four ∙ r) in
      let len : length s ≡ 4 = eqb-true (length s) 4 four in
      let body : length s - 2 ≡ 2 = omega arith in
      checks-is s bytes k ∙ ap (λ (i : ℕ). with_crc (take i s)) body ∙ made-of-status len ∙ ap₂ status_of (eqb-true (get_or s 0 0) address a) is

-- a request determines its fields
pub request-determines : (a r m t a' r' m' t' : ℕ) → good_fields r m t ≡ true → good_fields r' m' t' ≡ true → request_of a r m t ≡ request_of a' r' m' t'
    → (a ≡ a') × (r ≡ r') × (m ≡ m') × (t ≡ t')
unfolding request_of with_crc
request-determines a r m t a' r' m' t' g g' e =
    let (hr, hm) = fields_le r m t g in
    let (hr', hm') = fields_le r' m' t' g' in
    let both : r * 16 + m ≡ r' * 16 + m' = ap (λ (s : List ℕ). get_or s 2 0) e in
    (ap (λ (s : List ℕ). get_or s 0 0) e, omega arith, omega arith, ap (λ (s : List ℕ). get_or s 3 0) e)
