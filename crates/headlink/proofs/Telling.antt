-- The two ways out of a function that tells characters, the size of these by another name, and what is told of each kind. Assumes nothing.
use mathlib.Core.Path.{◌≡◌, sym, ap, subst, ◌∙◌}
use mathlib.Core.Bool.{Bool, true, false}
use mathlib.Core.List.{List, ◌++◌}
use Prim.Native.Nat.{ℕ, ◌<◌, ◌≤◌}
use borrow.Author.Tests.{lt-ltb, le-ltb}
use lib.ListN.{length, take, drop, replicate}
use Rattle.text.specs.Layout.{pattern, fits}
use Rattle.text.specs.Writing.{stored}
use Rattle.text.proofs.Writing.{stored-holding}
use Rattle.values.specs.Edition.{row_length}
use Rattle.values.specs.Registers.{good_account, good_row}
use Rattle.values.specs.Serials.{SerialRead, AccountRead, RowRead, serial_form, no_serial, no_account, no_row, serial_read, account_read, row_read}
use Rattle.values.proofs.Serials.{serial-read-long, account-read-long, row-read-long}
use Rattle.headlink.specs.Telling.{value_number, Tells}

module _ (buf : List ℕ) (ok : Bool) (characters : List ℕ) where
  pub kept : length buf < length characters → Tells buf (length characters) ok characters 26 buf
  kept h = record { number = rw (lt-ltb (length buf) (length characters) h); held = rw (lt-ltb (length buf) (length characters) h) }

  pub told : (r : ℕ) (after : List ℕ) → length characters ≤ length buf → r ≡ value_number ok → after ≡ stored buf 0 characters → Tells buf (length characters) ok characters r after
  told r after h e f =
      record { number = rw (le-ltb (length buf) (length characters) h) e; held = rw (le-ltb (length buf) (length characters) h) (f ∙ stored-holding buf characters h) }

  pub sized : (size r : ℕ) (after : List ℕ) → length characters ≡ size → Tells buf (length characters) ok characters r after → Tells buf size ok characters r after
  sized size r after e = subst (λ (n : ℕ). Tells buf n ok characters r after) e

serial-good : (s : List ℕ) → fits (pattern serial_form) s ≡ true → serial_read s ≡ record { ok = true; serial = take 3 s ++ drop 4 s }
unfolding serial_read
serial-good s h = rw h

serial-none : (s : List ℕ) → fits (pattern serial_form) s ≡ false → serial_read s ≡ no_serial
unfolding serial_read
serial-none s h = rw h

account-good : (s : List ℕ) → good_account s ≡ true → account_read s ≡ record { ok = true; account = s }
unfolding account_read
account-good s h = rw h

account-none : (s : List ℕ) → good_account s ≡ false → account_read s ≡ no_account
unfolding account_read
account-none s h = rw h

row-good : (s : List ℕ) → good_row s ≡ true → row_read s ≡ record { ok = true; row = s }
unfolding row_read
row-good s h = rw h

row-none : (s : List ℕ) → good_row s ≡ false → row_read s ≡ no_row
unfolding row_read
row-none s h = rw h

-- what is told is what was read
module _ (buf : List ℕ) (r : ℕ) (after : List ℕ) where
  retold : (ok : Bool) (told : List ℕ) (good : Bool) (read : List ℕ) (size : ℕ) → ok ≡ good → told ≡ read → length read ≡ size
      → Tells buf (length told) ok told r after → Tells buf size good read r after
  retold ok told good read size e f n t =
      sized buf good read size r after n
      (subst (λ (b : Bool). Tells buf (length read) b read r after) e (subst (λ (l : List ℕ). Tells buf (length l) ok l r after) f t))

  pub serial-told : (s told : List ℕ) → fits (pattern serial_form) s ≡ true → told ≡ take 3 s ++ drop 4 s → Tells buf (length told) true told r after → Tells buf 10 (serial_read s).ok (serial_read s).serial r after
  serial-told s told h e =
      let read : serial_read s ≡ record { ok = true; serial = take 3 s ++ drop 4 s } = serial-good s h in
      retold true told (serial_read s).ok (serial_read s).serial 10 (sym (ap (λ (v : SerialRead). v.ok) read)) (e ∙ sym (ap (λ (v : SerialRead). v.serial) read)) (serial-read-long s)

  pub serial-untold : (s : List ℕ) → fits (pattern serial_form) s ≡ false → Tells buf 10 false (replicate 10 0) r after → Tells buf 10 (serial_read s).ok (serial_read s).serial r after
  serial-untold s h t =
      let read : serial_read s ≡ no_serial = serial-none s h in
      retold false (replicate 10 0) (serial_read s).ok (serial_read s).serial 10 (sym (ap (λ (v : SerialRead). v.ok) read)) (sym (ap (λ (v : SerialRead). v.serial) read)) (serial-read-long s) t

  pub account-told : (s told : List ℕ) → good_account s ≡ true → told ≡ s → Tells buf (length told) true told r after → Tells buf 10 (account_read s).ok (account_read s).account r after
  account-told s told h e =
      let read : account_read s ≡ record { ok = true; account = s } = account-good s h in
      retold true told (account_read s).ok (account_read s).account 10 (sym (ap (λ (v : AccountRead). v.ok) read)) (e ∙ sym (ap (λ (v : AccountRead). v.account) read)) (account-read-long s)

  pub account-untold : (s : List ℕ) → good_account s ≡ false → Tells buf 10 false (replicate 10 0) r after → Tells buf 10 (account_read s).ok (account_read s).account r after
  account-untold s h t =
      let read : account_read s ≡ no_account = account-none s h in
      retold false (replicate 10 0) (account_read s).ok (account_read s).account 10 (sym (ap (λ (v : AccountRead). v.ok) read)) (sym (ap (λ (v : AccountRead). v.account) read)) (account-read-long s) t

  pub row_told : (s told : List ℕ) → good_row s ≡ true → told ≡ s → Tells buf (length told) true told r after → Tells buf row_length (row_read s).ok (row_read s).row r after
  row_told s told h e =
      let read : row_read s ≡ record { ok = true; row = s } = row-good s h in
      retold true told (row_read s).ok (row_read s).row row_length (sym (ap (λ (v : RowRead). v.ok) read)) (e ∙ sym (ap (λ (v : RowRead). v.row) read)) (row-read-long s)

  pub row-untold : (s : List ℕ) → good_row s ≡ false → Tells buf row_length false (replicate row_length 0) r after → Tells buf row_length (row_read s).ok (row_read s).row r after
  row-untold s h t =
      let read : row_read s ≡ no_row = row-none s h in
      retold false (replicate row_length 0) (row_read s).ok (row_read s).row row_length (sym (ap (λ (v : RowRead). v.ok) read)) (sym (ap (λ (v : RowRead). v.row) read)) (row-read-long s) t
