-- The three ways out of the builder. Assumes nothing.
use mathlib.Core.Path.{◌≡◌, refl, ◌∙◌}
use mathlib.Core.Bool.{Bool, true, false}
use mathlib.Core.List.{List}
use Prim.Native.Nat.{ℕ, ◌≤◌, ◌<◌}
use lib.ListN.{length}
use borrow.Author.Tests.{lt-ltb, le-ltb}
use Rattle.text.specs.Writing.{stored}
use Rattle.text.proofs.Writing.{stored-holding}
use Rattle.crc.specs.Crc.{with_crc}
use Rattle.mercury.specs.Asking.{request_of, asked_in, asked_into, Asks}

module _ (out : List ℕ) (good : Bool) (request : List ℕ) where
  pub out_of_range : good ≡ false → Asks out good request (record { number = 54; length = 0 }) out
  unfolding asked_in asked_into
  out_of_range g = record { answer = rw g; held = rw g }

  pub no_room : good ≡ true → length out < 6 → Asks out good request (record { number = 55; length = 0 }) out
  unfolding asked_in asked_into
  no_room g h = record { answer = rw (g, lt-ltb _ _ h); held = rw (g, lt-ltb _ _ h) }

  pub built : good ≡ true → 6 ≤ length out → length request ≡ 6 → (after : List ℕ) → after ≡ stored out 0 request → Asks out good request (record { number = 1; length = 6 }) after
  unfolding asked_in asked_into
  built g h n after e =
      let room : length request ≤ length out = rw n h in
      record { answer = rw (g, le-ltb _ _ h); held = rw (g, le-ltb _ _ h) (e ∙ stored-holding out request room) }

pub six : (address array month tariff : ℕ) → length (request_of address array month tariff) ≡ 6
unfolding request_of with_crc
six address array month tariff = refl
