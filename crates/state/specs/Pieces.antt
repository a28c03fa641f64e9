-- A state tested by its parts: what is small, and what its runs of characters hold. With a good archive they make it well-formed (`pieces-formed`).
use Rattle.std.specs.Prelude.{ℕ, Bool, ◌&&◌, List, nat_le}
use Rattle.clock.specs.declared.Clock.{Clock}
use Rattle.values.specs.Edition.{tables_of}
use Rattle.state.specs.declared.Receiver.{Receiver}
use Rattle.state.specs.declared.Facts.{Facts}
use Rattle.state.specs.declared.Counters.{Counters}
use Rattle.state.specs.WellFormed.{speed_good, factory_good, directions_good, receiver_good, tables_good}

-- mode, attempts and speed; what the meter was made from; its counters
unfoldable pub small_good : ℕ → ℕ → ℕ → Facts → List ℕ → Clock → Counters → Counters → Bool
small_good mode attempts speed facts account clock counters exported =
    ((nat_le mode 4 && nat_le attempts 3) && speed_good facts.link mode speed)
    && (factory_good facts account clock && directions_good facts.decimals counters exported)

-- a receiver, said by its fields
abbrev pub receiver_of : ℕ → List ℕ → ℕ → ℕ → Receiver
receiver_of count held mark place = record { count = count; held = held; mark = mark; place = place }

-- the receiver's characters and those of the tables
unfoldable pub runs_good : ℕ → Receiver → ℕ → List ℕ → Bool
runs_good mode r edition tables = receiver_good mode r && tables_good (tables_of edition) tables
