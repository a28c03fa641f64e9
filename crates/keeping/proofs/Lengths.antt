-- A fact of another length is a bad fact. Assumes nothing.
use mathlib.Core.Path.{◌≡◌, refl}
use mathlib.Core.Bool.{Bool, true, false, ◌&&◌}
use mathlib.Core.List.{List}
use Prim.Native.Nat.{ℕ}
use lib.Dec.{eqb}
use lib.ListN.{length}
use Rattle.clock.specs.declared.Clock.{Clock}
use Rattle.values.specs.Edition.{is_edition}
use Rattle.values.specs.Family.{is_family}
use Rattle.values.specs.Registers.{good_digits, good_serial, good_account, good_password}
use Rattle.state.specs.declared.Facts.{Facts}
use Rattle.state.specs.WellFormed.{link_good, facts_good, factory_good}
use Rattle.state.specs.Making.{facts_of, not_made, made_of}

-- one of four that is false
second-off : (p r : Bool) → (p && false) && r ≡ false
second-off true r = refl
second-off false r = refl

third-off : (p : Bool) → p && false ≡ false
third-off true = refl
third-off false = refl

unsuited : (s : List ℕ) → eqb (length s) 8 ≡ false → good_password s ≡ false
unfolding good_digits
unsuited s e = rw e

module _ (serial account password : List ℕ) (clock : Clock) (edition link decimals : ℕ) where
  abbrev life : Facts
  life = facts_of serial password edition link decimals

  abbrev numbers : Bool
  numbers = is_edition edition && (link_good link && is_family decimals)

  pub serial-long : eqb (length serial) 10 ≡ false → made_of life account clock ≡ not_made edition decimals
  unfolding made_of factory_good facts_good good_digits
  serial-long e = rw e

  pub account-long : eqb (length account) 10 ≡ false → made_of life account clock ≡ not_made edition decimals
  unfolding made_of factory_good good_account
  account-long e = rw (e, third-off (facts_good life))

  pub password-long : eqb (length password) 8 ≡ false → made_of life account clock ≡ not_made edition decimals
  unfolding made_of factory_good facts_good
  password-long e = rw (unsuited password e, second-off (good_serial serial) numbers)
