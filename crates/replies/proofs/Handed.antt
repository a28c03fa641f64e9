-- What is handed over and lent, as registers: how long they are, and that no archive is looked at where none is lent. Assumes nothing.
use mathlib.Core.Path.{◌≡◌, refl}
use mathlib.Core.List.{List}
use Prim.Native.Nat.{ℕ, ◌*◌, ◌≤◌}
use native.Mathlib.Omega.{arith}
use lib.ListN.{length}
use Rattle.state.specs.Sizes.{row_length, table_places}
use Rattle.state.specs.declared.Archive.{Archive}
use Rattle.replies.specs.declared.Ask.{Ask}
use Rattle.replies.specs.declared.Ask.TheVariants as ask
use Rattle.replies.specs.declared.Plain.{Plain}
use Rattle.replies.specs.Plain.{registers_of, without_archive}
use Rattle.replies.specs.Shown.{Lengths}
use Rattle.replies.specs.Answers.{asked_sets, asked_data}
use Rattle.replies.specs.Block.{block_sets, block_data}
use Rattle.replies.specs.Periods.{long_start}

-- with a serial and an account of ten characters the registers are as long as the writers' laws ask
pub lengths-without : (p : Plain) (rows : List ℕ) (tables : ℕ) → length p.facts.serial ≡ 10 → length p.account ≡ 10 → length rows ≡ table_places * row_length → tables ≤ table_places
    → Lengths tables (without_archive p rows)
lengths-without p rows tables serial account long few = record { serial = serial; account = account; rows = long; few = few; places = refl; kept = omega arith }

-- an answer, a block and the start of a long one are the same with any archive
module _ (p : Plain) (rows : List ℕ) (archive : Archive) where
  pub asked-alike : (a : Ask) → asked_data (without_archive p rows) a ≡ asked_data (registers_of p rows archive) a
  unfolding asked_data asked_sets
  asked-alike ask.Clock = refl
  asked-alike ask.Serial = refl
  asked-alike ask.Account = refl
  asked-alike (ask.Energy e) = refl
  asked-alike (ask.Export e) = refl
  asked-alike (ask.Table t) = refl

  pub sets-alike : (tables : ℕ) → block_sets tables (without_archive p rows) ≡ block_sets tables (registers_of p rows archive)
  unfolding block_sets
  sets-alike tables = refl

  pub block-alike : (tables : ℕ) → block_data tables (without_archive p rows) ≡ block_data tables (registers_of p rows archive)
  unfolding block_data block_sets
  block-alike tables = refl

  pub start-alike : (tables : ℕ) → long_start tables (without_archive p rows) ≡ long_start tables (registers_of p rows archive)
  unfolding long_start block_sets
  start-alike tables = refl
