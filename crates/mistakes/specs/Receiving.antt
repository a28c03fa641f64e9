-- Two wrong answers for each call of `state::setting`, `state::closing`, `receiving`, `deciding` and `tariff`; but none where the promise is one record literal.
use Rattle.std.specs.Prelude.{true, false, [], ◌∷◌, ◌++◌, ◌*◌, get_or, take, drop, set, replicate}
use Rattle.line.specs.Controls.{SOH}
use Rattle.line.specs.Quoted.{chars}
use Rattle.text.specs.Writing.{stored}
use Rattle.clock.specs.Seconds.{date_of}
use Rattle.frames.specs.Frames.{frame_of, bare_frame}
use Rattle.values.specs.Family.{counter_end}
use Rattle.values.specs.Registers.{zone_energy}
use Rattle.frames.specs.Commands.{B0, P1, R1, W1, bracketed, ask_export, set_table}
use Rattle.state.specs.Sizes.{row_length, period_places}
use Rattle.state.specs.declared.Registers.{Registers}
use Rattle.state.specs.Making.{empty_receiver, no_counters, no_period}
use Rattle.state.specs.WellFormed.{archive_good}
use Rattle.state.specs.Closing.{closing}
use Rattle.receiving.specs.declared.Hearing.TheVariants.{Hold, Restart}
use Rattle.receiving.specs.Hearing.{hearing}
use Rattle.receiving.specs.Receivers.{last_held, hurt_place, kept_receiver, restarted_receiver, held_after}
use Rattle.receiving.specs.declared.Holding.TheVariants.{More, Anew}
use Rattle.deciding.specs.declared.Refusal.TheVariants.{NotAllowed, BadSum}
use Rattle.deciding.specs.Verdicts.{number_of, Refuse, Leave, Password, Read, WriteTable}
use Rattle.replies.specs.declared.Ask.TheVariants.{Energy, Export}
use Rattle.deciding.specs.Verdict.{verdict}
use Rattle.state.specs.Setting.{with_held, with_mark, with_receiver, in_mode, with_attempts, with_registers, with_clock, with_account, with_tables, with_counters, with_exported, with_zones, with_total, zone_place, counter_of, row_start, with_speed}
use Rattle.tariff.specs.Zones.{table_for, zone_at, zone_in, counted, counted_in, counted_out}
use Rattle.tariff.specs.Months.{month_starts, second_later}
use Rattle.mistakes.specs.RuledOut.{RuledOut}
use Rattle.mistakes.specs.Samples.{clock_at, serial, twos, new_meter, used, new_eqm, used_eqm, used_at, held_in, closed_twice, oldest_first}

-- of `receiving`
pub record Hearings : Type 0 where
  -- a BCC that is SOH as a new frame; a '/' within a line held
  pub hear : RuledOut (hearing 2 5 3 1) Restart × RuledOut (hearing 0 3 63 47) Hold
  -- the first one; one too many back where three are held
  pub wrong_last_held : RuledOut (last_held (held_in 2 (SOH ∷ chars "B0")).receiver) 1 × RuledOut (last_held (held_in 2 (SOH ∷ chars "B0")).receiver) 66
  -- a mark that the next good character takes away; held, and not counted
  pub keep : RuledOut (kept_receiver (kept_receiver (restarted_receiver 1) 0 true) 66 false) (kept_receiver (kept_receiver (restarted_receiver 1) 0 false) 66 false)
      × RuledOut (kept_receiver (restarted_receiver 1) 66 false) (with_held empty_receiver (set (restarted_receiver 1).held 1 66) 1)
  -- the mark kept at a restart; the start not held
  pub restart : RuledOut (restarted_receiver 1) (with_mark (restarted_receiver 1) 1 0) × RuledOut (restarted_receiver 1) empty_receiver
  -- the place of the last damaged one; 0 for a damaged BCC
  pub wrong_hurt_place : RuledOut (hurt_place (kept_receiver (restarted_receiver 1) 0 true) true) 2 × RuledOut (hurt_place (restarted_receiver 1) true) 0
  -- the place of the last damaged one kept; none kept
  pub keep-place : RuledOut (kept_receiver (kept_receiver (restarted_receiver 1) 0 true) 0 true) (with_mark (kept_receiver (kept_receiver (restarted_receiver 1) 0 true) 0 true) 1 2)
      × RuledOut (kept_receiver (restarted_receiver 1) 0 true) (with_mark (kept_receiver (restarted_receiver 1) 0 true) 1 0)
  -- a place early; the characters before a restart kept
  pub hold : RuledOut (held_after (More 1 66) (restarted_receiver 1).held) (set (restarted_receiver 1).held 0 66)
      × RuledOut (held_after (Anew 1) (kept_receiver (restarted_receiver 1) 66 false).held) (kept_receiver (restarted_receiver 1) 66 false).held
  -- a character over the one before it
  pub puts-it-a-place-early : RuledOut (kept_receiver (restarted_receiver 1) 66 false) (with_held empty_receiver (set empty_receiver.held 0 66) 2)

-- of `deciding`
pub record Decisions : Type 0 where
  -- three digits as a password, which would count an attempt; a write in the mode that only reads
  pub decide : RuledOut (verdict 24 0 2 (take 10 (frame_of P1 (bracketed (chars "123")))) false (get_or (frame_of P1 (bracketed (chars "123"))) 10 0)) Password
      × RuledOut (verdict 24 0 3 (take 35 (frame_of W1 (set_table 7 twos))) false (get_or (frame_of W1 (set_table 7 twos)) 35 0)) (WriteTable (record { 0 = 7 }))
  -- [10]: what went out told by a meter of document 01's family; what came in for it
  pub decide-out : RuledOut (verdict 24 0 3 (take 9 (frame_of R1 (ask_export 1))) false (get_or (frame_of R1 (ask_export 1)) 9 0)) (Read (Export (zone_energy 1)))
      × RuledOut (verdict 24 3 3 (take 9 (frame_of R1 (ask_export 1))) false (get_or (frame_of R1 (ask_export 1)) 9 0)) (Read (Energy (zone_energy 1)))
  -- SOH summed too: B0 refused; B0 taken with the BCC that would be
  pub sums-the-soh : RuledOut (verdict 24 0 2 (take 4 (bare_frame B0)) false (get_or (bare_frame B0) 4 0)) (Refuse 4)
      × RuledOut (verdict 24 0 2 (take 4 (bare_frame B0)) false 0x70) Leave

-- of `deciding::Refusal`
pub record Refusals : Type 0 where
  -- what is not allowed as bad data; a wrong BCC as damage
  pub wrong_number : RuledOut (number_of NotAllowed) 9 × RuledOut (number_of BadSum) 3

-- of `state::setting`
pub record Setting : Type 0 where
  -- the old receiver; mode 0 with it
  pub wrong_with_receiver : RuledOut (with_receiver new_meter (restarted_receiver 47)) new_meter
      × RuledOut (with_receiver (in_mode new_meter 1) (restarted_receiver 47)) (with_receiver new_meter (restarted_receiver 47))
  -- a slow session made fast; a fast one's speed kept in mode 0
  pub wrong_in_mode : RuledOut (in_mode (in_mode new_meter 2) 4) (with_speed (in_mode new_meter 4) 5)
      × RuledOut (in_mode (with_speed (in_mode new_meter 4) 5) 0) (with_speed new_meter 5)
  -- the old attempts; one more
  pub wrong_with_attempts : RuledOut (with_attempts new_meter 2) new_meter × RuledOut (with_attempts new_meter 2) (with_attempts new_meter 3)
  -- the old registers; mode 0 with the new
  pub wrong_with_registers : RuledOut (with_registers new_meter used) new_meter × RuledOut (with_registers (in_mode new_meter 4) used) (with_registers new_meter used)
  -- zeros; one character too far on
  pub ten : RuledOut serial (replicate 10 48) × RuledOut serial (drop 1 serial ++ (0 ∷ []))
  -- a row too far on; a character a table
  pub wrong_row_start : RuledOut (row_start 2) 48 × RuledOut (row_start 2) 1
  -- the first table's for every table
  pub one_place : RuledOut (row_start 2) 0
  -- the old counters; the first of the new ones alone
  pub wrong_with_zones : RuledOut (with_zones no_counters (1 ∷ 2 ∷ 4 ∷ 8 ∷ [])) no_counters
      × RuledOut (with_zones no_counters (1 ∷ 2 ∷ 4 ∷ 8 ∷ [])) (with_zones no_counters (1 ∷ 0 ∷ 0 ∷ 0 ∷ []))
  -- the old total; a total in a counter's place
  pub wrong_with_total : RuledOut (with_total no_counters 5) no_counters × RuledOut (with_total no_counters 5) (with_zones no_counters (5 ∷ 0 ∷ 0 ∷ 0 ∷ []))
  -- a place too far on; the first zone's for the last
  pub wrong_zone_place : RuledOut (zone_place 1) 1 × RuledOut (zone_place 4) 0
  -- the counter of the zone before; of the zone behind
  pub wrong_counter_of : RuledOut (counter_of used.counters 2) 1 × RuledOut (counter_of used.counters 2) 4

-- of `state::closing`
pub record Closing : Type 0 where
  -- a period without a time; a thirteenth
  pub wrong_archive_good : RuledOut (archive_good 0 (record { periods = replicate period_places no_period; count = 1 })) true
      × RuledOut (archive_good 0 (record { periods = replicate period_places no_period; count = 13 })) true
  -- nothing closed; the counters set back
  pub close : RuledOut (closing used) used × RuledOut (closing used) (with_counters (closing used) no_counters)
  -- the oldest first
  pub close-first : RuledOut closed_twice oldest_first

-- an EQM meter at the end of its first counter
unfoldable pub full_eqm : Registers
unfolding new_eqm
full_eqm = with_counters new_eqm.registers (with_total (with_zones no_counters (99999999 ∷ 0 ∷ 0 ∷ 0 ∷ [])) 99999999)

-- of `tariff`
pub record Tariff : Type 0 where
  -- edition 2: December's Saturday by table 24; a Sunday by table 25
  pub table-for-kilns : RuledOut (table_for 2 (date_of 2000 12 2)) 24 × RuledOut (table_for 2 (date_of 2000 1 2)) 25
  -- a working day's table on a Saturday; a Saturday's on a Monday
  pub wrong_table_for : RuledOut (table_for 1 (date_of 2000 1 1)) 1 × RuledOut (table_for 1 (date_of 2000 1 3)) 13
  -- the zone of the hour before; the character for its number
  pub wrong_zone_in : RuledOut (zone_in (with_tables used (stored new_meter.registers.tables 300 (chars "2")))) 1
      × RuledOut (zone_in (with_tables used (stored new_meter.registers.tables 300 (chars "2")))) 50
  -- the same of the rows alone
  pub wrong_zone_at : RuledOut (zone_at (stored new_meter.registers.tables 300 (chars "2")) 1 used.clock) 1
      × RuledOut (zone_at (stored new_meter.registers.tables 300 (chars "2")) 1 used.clock) 50
  -- the midnight before the second of a month; an hour after one that starts it
  pub wrong_month_starts : RuledOut (month_starts (clock_at 2000 2 2 0 0 0)) true × RuledOut (month_starts (clock_at 2000 2 1 1 0 0)) true
  -- the next zone's counter; 1,000,000,000 Wh and no return to 0
  pub count : RuledOut (counted (counter_end 0) no_counters 2 5) (with_zones no_counters (0 ∷ 0 ∷ 5 ∷ 0 ∷ []))
      × RuledOut (counted (counter_end 0) (with_zones no_counters (999999999 ∷ 0 ∷ 0 ∷ 0 ∷ [])) 1 1) (with_zones no_counters (1000000000 ∷ 0 ∷ 0 ∷ 0 ∷ []))
  -- the total of before the pulse; a total that does not roll over
  pub count-total : RuledOut (counted (counter_end 0) no_counters 2 5) (with_zones no_counters (0 ∷ 5 ∷ 0 ∷ 0 ∷ []))
      × RuledOut (counted (counter_end 0) (with_total (with_zones no_counters (999999999 ∷ 0 ∷ 0 ∷ 0 ∷ [])) 999999999) 1 1) (with_total no_counters 1000000000)
  -- [10]: 100,000,000 of an EQM meter and no return to 0; a total that goes on to 1,000,000,000
  pub count-eqm : RuledOut (counted (counter_end 3) (with_zones no_counters (99999999 ∷ 0 ∷ 0 ∷ 0 ∷ [])) 1 1) (with_zones no_counters (100000000 ∷ 0 ∷ 0 ∷ 0 ∷ []))
      × RuledOut (counted (counter_end 3) (with_total (with_zones no_counters (99999999 ∷ 0 ∷ 0 ∷ 0 ∷ [])) 99999999) 1 1) (with_total no_counters 100000000)
  -- counted as what goes out; the total of before the pulse
  pub count_in : RuledOut (counted_in used_eqm 5) (counted_out used_eqm 5)
      × RuledOut (counted_in used_eqm 5) (with_counters used_eqm (with_zones used_eqm.counters (6 ∷ 2 ∷ 4 ∷ 8 ∷ [])))
  -- counted as what comes in; in the total of what came in as well
  pub count_out : RuledOut (counted_out used_eqm 5) (counted_in used_eqm 5)
      × RuledOut (counted_out used_eqm 5) (with_counters (counted_out used_eqm 5) (with_total used_eqm.counters 20))
  -- what goes out counted on top of what came in
  pub counts-export-as-import : RuledOut (counted_out used_eqm 5) (with_exported used_eqm (with_total (with_zones no_counters (6 ∷ 2 ∷ 4 ∷ 8 ∷ [])) 20))
  -- nothing counted in zone 4
  pub forgets-the-fourth-zone : RuledOut (counted (counter_end 0) no_counters 4 5) no_counters
  -- an EQM meter's counter and total go on to 100,000,000
  pub rolls-over-a-digit-late : RuledOut (counted_in full_eqm 1) (with_counters full_eqm (with_total (with_zones no_counters (100000000 ∷ 0 ∷ 0 ∷ 0 ∷ [])) 100000000))
  -- closed a second late; on every midnight
  pub wrong_second_later : RuledOut (second_later (used_at (clock_at 2000 2 1 0 0 0))) (closing (used_at (clock_at 2000 2 1 0 0 1)))
      × RuledOut (second_later (used_at (clock_at 2000 2 1 23 59 59))) (closing (used_at (clock_at 2000 2 2 0 0 0)))
  -- not closed where a month starts; closed with the time before it
  pub second-later-month : RuledOut (second_later (used_at (clock_at 2000 1 31 23 59 59))) (used_at (clock_at 2000 2 1 0 0 0))
      × RuledOut (second_later (used_at (clock_at 2000 1 31 23 59 59))) (with_clock (closing (used_at (clock_at 2000 1 31 23 59 59))) (clock_at 2000 2 1 0 0 0))
