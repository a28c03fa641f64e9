-- Document 01, "The state": a new state, and the blank one.
use Rattle.std.specs.Prelude.{Result, Ok, Err, ℕ, ◌-◌, ◌*◌, cond, List, ◌++◌, replicate}
use Rattle.clock.specs.Seconds.{date_of, time_of}
use Rattle.clock.specs.declared.Clock.{Clock}
use Rattle.values.specs.Edition.{is_edition, tables_of}
use Rattle.values.specs.Family.{is_family}
use Rattle.state.specs.declared.Receiver.{Receiver}
use Rattle.state.specs.declared.Facts.{Facts}
use Rattle.state.specs.declared.Counters.{Counters}
use Rattle.state.specs.declared.Period.{Period}
use Rattle.state.specs.declared.Archive.{Archive}
use Rattle.state.specs.declared.Meter.{Meter}
use Rattle.state.specs.declared.Refusal.{Refusal}
use Rattle.state.specs.declared.Refusal.TheVariants.{NoEdition, NoFamily, BadFacts}
use Rattle.state.specs.Link.{rest_speed}
use Rattle.state.specs.Sizes.{held_places, row_length, table_places, period_places}
use Rattle.state.specs.WellFormed.{factory_good}

abbrev pub empty_receiver : Receiver
empty_receiver = record { count = 0; held = replicate held_places 0; mark = 0; place = 0 }

abbrev pub no_counters : Counters
no_counters = record { zones = replicate 4 0; total = 0 }

-- an unused place
abbrev pub no_period : Period
no_period = record { closed = record { date = date_of 0 0 0; hour = 0; minute = 0 }; zones = replicate 4 0; exported = replicate 4 0 }

abbrev pub empty_archive : Archive
empty_archive = record { periods = replicate period_places no_period; count = 0 }

abbrev pub facts_of : List ℕ → List ℕ → ℕ → ℕ → ℕ → Facts
facts_of serial password edition link decimals = record { serial = serial; password = password; edition = edition; link = link; decimals = decimals }

-- [3]: a row of '1' for each table of an edition, and 0 in the places behind them
unfoldable pub new_rows : ℕ → List ℕ
new_rows edition = replicate (tables_of edition * row_length) 49 ++ replicate ((table_places - tables_of edition) * row_length) 0

-- counters 0, attempts 0, all tables '1', no closed period, mode 0 at its speed, empty receiver
abbrev pub meter_of : Facts → List ℕ → Clock → Meter
meter_of facts account clock =
    record {
      mode = 0;
      attempts = 0;
      speed = rest_speed facts.link;
      receiver = empty_receiver;
      registers =
          record {
            facts = facts;
            account = account;
            clock = clock;
            counters = no_counters;
            exported = no_counters;
            tables = new_rows facts.edition;
            archive = empty_archive;
          };
    }

-- zeros, ten spaces and 2000-01-01 00:00:00; edition 1, link 1, document 01's family
abbrev pub blank_meter : Meter
blank_meter = meter_of (facts_of (replicate 10 48) (replicate 8 48) 1 1 0) (replicate 10 32) (record { date = date_of 2000 1 1; time = time_of 0 0 0 })

-- 16 for an edition, then 18 for decimals that no meter has, else 15
unfoldable pub facts_refused : ℕ → ℕ → ℕ
facts_refused edition decimals = cond (is_edition edition) (cond (is_family decimals) 15 18) 16

-- a meter that was made, with 1, or the blank one, with 15, 16 or 18
pub record Made : Type 0 where
  pub number : ℕ
  pub meter : Meter

abbrev pub not_made : ℕ → ℕ → Made
not_made edition decimals = record { number = facts_refused edition decimals; meter = blank_meter }

-- bad facts give their number and the blank state
unfoldable pub made_of : Facts → List ℕ → Clock → Made
made_of facts account clock =
    cond (factory_good facts account clock)
    (record { number = 1; meter = meter_of facts account clock })
    (not_made facts.edition facts.decimals)

-- what making answers, as these numbers
unfoldable pub number_of : Refusal → ℕ
number_of NoEdition = 16
number_of NoFamily = 18
number_of BadFacts = 15

unfoldable pub told : Result Meter Refusal → Made
told (Ok m) = record { number = 1; meter = m }
told (Err e) = record { number = number_of e; meter = blank_meter }
