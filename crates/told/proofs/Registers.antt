-- What is told of each register, deed by deed, is what the deeds do to all of them. Assumes nothing.
use mathlib.Core.Path.{◌≡◌, refl, ap, ◌∙◌}
use mathlib.Core.Bool.{Bool, true, false}
use mathlib.Core.List.{List, [], ◌∷◌, ◌++◌}
use Rattle.clock.specs.Seconds.{next_second}
use Rattle.state.specs.declared.Registers.{Registers}
use Rattle.tariff.specs.Months.{month_starts, month_closed}
use Rattle.history.specs.Frames.{clock, account, row}
use Rattle.history.specs.Deeds.{Deed, wrote, second, energy, energy_out, closed, writes_of}
use Rattle.history.specs.Told.{account_told, tables_told, clock_by, clock_told, counters_told, exported_told, archive_told, registers_told}
use Rattle.told.specs.Doing.{written, done, done_all}

module _ (factory : Registers) where
  one-done : (d : Deed) (ds : List Deed) → registers_told factory (d ∷ ds) ≡ done d (registers_told factory ds)
  unfolding writes_of account_told tables_told clock_by clock_told counters_told exported_told archive_told written done month_closed
  one-done (wrote (clock c)) ds = refl
  one-done (wrote (account a)) ds = refl
  one-done (wrote (row n r)) ds = refl
  one-done second ds = go (month_starts (next_second (clock_told factory.clock ds))) refl
    where
      go : (p : Bool) → month_starts (next_second (clock_told factory.clock ds)) ≡ p → registers_told factory (second ∷ ds) ≡ done second (registers_told factory ds)
      go true e = rw e
      go false e = rw e
  one-done (energy units) ds = refl
  one-done (energy_out units) ds = refl
  one-done closed ds = refl

  pub all_done : (xs ds : List Deed) → registers_told factory (xs ++ ds) ≡ done_all xs (registers_told factory ds)
  unfolding done_all
  all_done [] ds = refl
  all_done (x ∷ xs) ds = one-done x (xs ++ ds) ∙ ap (done x) (all_done xs ds)
