-- The ways out of reading, each the case of the definition that its tests name. Assumes nothing.
use mathlib.Core.Path.{◌≡◌}
use mathlib.Core.Bool.{true, false}
use mathlib.Core.List.{List}
use Prim.Native.Nat.{ℕ}
use lib.Dec.{eqb}
use lib.ListN.{length, get_or}
use Rattle.std.specs.Prelude.{Ok, Err}
use Rattle.crc.specs.Crc.{checks}
use Rattle.mercury.specs.declared.answering.Refusal.TheVariants.{Status, WrongLength, WrongCrc, OtherAddress}
use Rattle.mercury.specs.Answering.{energy_of, good_length, read_of}

module _ (address : ℕ) (s : List ℕ) where
  pub wrong-length : good_length (length s) ≡ false → Err WrongLength ≡ read_of address s
  unfolding read_of
  wrong-length n = rw n

  pub wrong-crc : good_length (length s) ≡ true → checks s ≡ false → Err WrongCrc ≡ read_of address s
  unfolding read_of
  wrong-crc n k = rw (n, k)

  pub other-address : good_length (length s) ≡ true → checks s ≡ true → eqb (get_or s 0 0) address ≡ false → Err OtherAddress ≡ read_of address s
  unfolding read_of
  other-address n k a = rw (n, k, a)

  pub a-status : good_length (length s) ≡ true → checks s ≡ true → eqb (get_or s 0 0) address ≡ true → eqb (length s) 4 ≡ true → Err (Status (get_or s 1 0)) ≡ read_of address s
  unfolding read_of
  a-status n k a four = rw (n, k, a, four)

  pub some-data : good_length (length s) ≡ true → checks s ≡ true → eqb (get_or s 0 0) address ≡ true → eqb (length s) 4 ≡ false → Ok (energy_of s) ≡ read_of address s
  unfolding read_of
  some-data n k a four = rw (n, k, a, four)
