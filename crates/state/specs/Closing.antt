-- [12], "Closed months": what an archive keeps, and a period closed.
use Rattle.std.specs.Prelude.{ℕ, ◌+◌, ◌-◌, cond, List, ◌∷◌, ◌++◌, length, take, replicate, nat_lt}
use Rattle.clock.specs.Seconds.{stamp_of}
use Rattle.clock.specs.declared.Clock.{Clock}
use Rattle.state.specs.declared.Counters.{Counters}
use Rattle.state.specs.declared.Period.{Period}
use Rattle.state.specs.declared.Archive.{Archive}
use Rattle.state.specs.declared.Registers.{Registers}
use Rattle.state.specs.Sizes.{period_places}
use Rattle.state.specs.Making.{no_period}
use Rattle.state.specs.Setting.{with_archive}

-- an archive of these periods, its other places unused
abbrev pub archive_of : List Period → Archive
archive_of ps = record { periods = ps ++ replicate (period_places - length ps) no_period; count = length ps }

-- the periods that are kept, the newest first
unfoldable pub periods_of : Archive → List Period
periods_of a = take a.count a.periods

-- one more: the new one first, the others behind it; a thirteenth pushes out the oldest
unfoldable pub closed_with : Period → Archive → Archive
closed_with p a = archive_of (take period_places (p ∷ periods_of a))

-- how many there are then
unfoldable pub one_more : ℕ → ℕ
one_more count = cond (nat_lt count period_places) (count + 1) period_places

-- a period: the time without its second, and the counters of both directions
abbrev pub period_of : Clock → Counters → Counters → Period
period_of clock counters exported = record { closed = stamp_of clock; zones = counters.zones; exported = exported.zones }

-- the registers with a period closed, at the time that their clock shows and with their counters, which stay
abbrev pub closing : Registers → Registers
closing g = with_archive g (closed_with (period_of g.clock g.counters g.exported) g.archive)
