-- Document 01, "The state": what is well-formed. A state outside these ranges is malformed.
use Rattle.std.specs.Prelude.{ℕ, ◌+◌, ◌*◌, ◌%◌, Bool, true, false, cond, not, ◌&&◌, ◌||◌, List, [], ◌∷◌, length, take, drop, ◌==◌, nat_le, nat_lt, slice_index}
use Rattle.line.specs.Runs.{every}
use Rattle.text.specs.Classes.{between}
use Rattle.clock.specs.Seconds.{real_clock, real_stamp}
use Rattle.clock.specs.declared.Clock.{Clock}
use Rattle.clock.specs.declared.Stamp.{Stamp}
use Rattle.values.specs.Edition.{is_edition, tables_of}
use Rattle.values.specs.Family.{is_family, counter_end, export_end}
use Rattle.values.specs.Registers.{good_serial, good_account, good_password}
use Rattle.state.specs.declared.Receiver.{Receiver}
use Rattle.state.specs.declared.Facts.{Facts}
use Rattle.state.specs.declared.Counters.{Counters}
use Rattle.state.specs.declared.Period.{Period}
use Rattle.state.specs.declared.Archive.{Archive}
use Rattle.state.specs.declared.Registers.{Registers}
use Rattle.state.specs.declared.Meter.{Meter}
use Rattle.state.specs.Link.{link_of, rest_speed}
use Rattle.state.specs.Sizes.{most_held, held_places, row_length, table_places, period_places}

-- at most 31 held in mode 0, 5 in mode 1, 63 in modes 2 to 4
unfoldable pub limit : ℕ → ℕ
limit mode = cond (mode == 0) 31 (cond (mode == 1) 5 most_held)

-- the first held is '/' in mode 0, SOH in modes 2 to 4
unfoldable pub first_good : ℕ → ℕ → ℕ → Bool
first_good mode count first = cond (mode == 0) (count == 0 || first == 47) (count == 0 || (mode == 1 || first == 1))

-- there are 64 places; held characters are 0 to 127, and unused places hold 0
unfoldable pub held_good : List ℕ → ℕ → Bool
held_good held count = length held == held_places && (every (between 0 127) held && every (between 0 0) (drop count held))

-- a mark is 0 or 1, and an empty receiver has none
unfoldable pub mark_good : ℕ → ℕ → Bool
mark_good count mark = nat_le mark 1 && (not (count == 0) || mark == 0)

-- [2]: with the mark the place is below the held count, without it it is 0
unfoldable pub hurt_good : ℕ → ℕ → ℕ → Bool
hurt_good count mark place = cond (mark == 1) (nat_lt place count) (place == 0)

-- damage was seen
abbrev pub marked : Receiver → Bool
marked r = r.mark == 1

unfoldable pub receiver_good : ℕ → Receiver → Bool
receiver_good mode r =
    cond (nat_le r.count (limit mode))
    (((first_good mode r.count (slice_index r.held 0) && mark_good r.count r.mark) && hurt_good r.count r.mark r.place) && held_good r.held r.count)
    false

-- four counters, each below where it rolls over
unfoldable pub below : ℕ → ℕ → Bool
below end n = nat_lt n end

unfoldable pub zones_below : ℕ → List ℕ → Bool
zones_below end zones = length zones == 4 && every (below end) zones

unfoldable pub sum_of : List ℕ → ℕ
sum_of [] = 0
sum_of (wh ∷ rest) = wh + sum_of rest

-- the sum of the four, which rolls over where they do
unfoldable pub total : ℕ → Counters → ℕ
total end c = sum_of c.zones % end

-- [4]: the total that is kept is that sum
abbrev pub counters_good : ℕ → Counters → Bool
counters_good end c = zones_below end c.zones && c.total == total end c

-- [10]: what came in and what went out, each with its own four and its own total
abbrev pub directions_good : ℕ → Counters → Counters → Bool
directions_good family counters exported = counters_good (counter_end family) counters && counters_good (export_end family) exported

-- [3]: a meter's edition says how many tables it has
abbrev pub tables_in : Registers → ℕ
tables_in g = tables_of g.facts.edition

abbrev pub edition_of : Meter → ℕ
edition_of m = m.registers.facts.edition

-- [10]: and its decimals are those of its family
abbrev pub family_in : Registers → ℕ
family_in g = g.facts.decimals

abbrev pub family_of : Meter → ℕ
family_of m = family_in m.registers

-- so many tables of 24 characters '1' to '4'; the places behind them hold 0
unfoldable pub tables_good : ℕ → List ℕ → Bool
tables_good n s =
    (length s == table_places * row_length) && (every (between 49 52) (take (n * row_length) s) && every (between 0 0) (drop (n * row_length) s))

-- [12]: a closed period has a real time and four counters, [10]: in each direction
unfoldable pub both_below : ℕ → ℕ → Period → Bool
both_below end out p = zones_below end p.zones && zones_below out p.exported

unfoldable pub period_good : ℕ → Period → Bool
period_good family p = real_stamp p.closed && both_below (counter_end family) (export_end family) p

-- an unused place is all 0
unfoldable pub no_time : Stamp → Bool
no_time s = (s.date.year == 0 && (s.date.month == 0 && s.date.day == 0)) && (s.hour == 0 && s.minute == 0)

unfoldable pub unused : Period → Bool
unused p = no_time p.closed && both_below 1 1 p

-- of a place, where so many periods are kept: it is one of them, or unused
unfoldable pub place_good : ℕ → ℕ → ℕ → Period → Bool
place_good family count i p = cond (nat_lt i count) (period_good family p) (unused p)

unfoldable pub every_period : (Period → Bool) → List Period → Bool
every_period p [] = true
every_period p (x ∷ xs) = p x && every_period p xs

-- 0 to 12 periods are kept, the others of the twelve places are unused
unfoldable pub archive_good : ℕ → Archive → Bool
archive_good family a =
    (nat_le a.count period_places && length a.periods == period_places)
    && (every_period (period_good family) (take a.count a.periods) && every_period unused (drop a.count a.periods))

-- a link that there is: 1, the optical one, or 2, the wired one
unfoldable pub link_good : ℕ → Bool
link_good link = link == 1 || link == 2

-- what a meter has for life: serial, password, edition, link and decimals
unfoldable pub facts_good : Facts → Bool
facts_good f =
    (good_serial f.serial && good_password f.password) && (is_edition f.edition && (link_good f.link && is_family f.decimals))

-- what a meter is made from: these, account and clock
unfoldable pub factory_good : Facts → List ℕ → Clock → Bool
factory_good facts account clock = facts_good facts && (good_account account && real_clock clock)

unfoldable pub registers_good : Registers → Bool
registers_good g =
    factory_good g.facts g.account g.clock
    && (directions_good (family_in g) g.counters g.exported && (tables_good (tables_in g) g.tables && archive_good (family_in g) g.archive))

-- speed identifier: on the optical link 0 in modes 0 and 1, 0 or 5 in modes 2 to 4; on the wired one 5
unfoldable pub speed_good : ℕ → ℕ → ℕ → Bool
speed_good link mode speed = speed == rest_speed link || (nat_le 2 mode && speed == 5)

unfoldable pub well_formed : Meter → Bool
well_formed m =
    (((nat_le m.mode 4 && nat_le m.attempts 3) && speed_good (link_of m) m.mode m.speed) && receiver_good m.mode m.receiver) && registers_good m.registers
