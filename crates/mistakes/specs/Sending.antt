-- Two wrong answers for each call of `frames`, `state`, `datasets` and `replies`.
use Rattle.std.specs.Prelude.{true, false, List, [], ◌∷◌, ◌++◌, ℕ, zero, suc, ◌*◌, take, drop, replicate}
use Rattle.line.specs.Controls.{ETX, SOH}
use Rattle.line.specs.Quoted.{chars}
use Rattle.text.specs.Writing.{stored, holding}
use Rattle.clock.specs.Seconds.{date_of, time_of}
use Rattle.values.specs.declared.Energy.TheVariants.{Total}
use Rattle.values.specs.Edition.{is_edition}
use Rattle.values.specs.Registers.{energy_no, zone_energy}
use Rattle.values.specs.Texts.{serial_text, time_text, date_text, energy_text}
use Rattle.frames.specs.Frames.{sealed, frame_of, bare_frame, block_of, on_wire}
use Rattle.frames.specs.Commands.{P0, P1, bracketed}
use Rattle.state.specs.Sizes.{row_length, reply_room, period_places, table_places}
use Rattle.state.specs.WellFormed.{edition_of, limit, well_formed}
use Rattle.state.specs.Closing.{closed_with}
use Rattle.state.specs.declared.Refusal.TheVariants.{NoEdition, NoFamily}
use Rattle.state.specs.Making.{number_of, empty_receiver, no_counters, no_period, facts_of, meter_of, blank_meter, not_made, made_of}
use Rattle.datasets.specs.Sets.{DataSet, data_set, lines_of, line_of, time_set, date_set, serial_set, account_set, energy_set, table_set, closed_set, kept_set}
use Rattle.replies.specs.declared.Ask.TheVariants.{Energy, Export, Table}
use Rattle.replies.specs.Answers.{asked_data}
use Rattle.replies.specs.Shown.{row_of}
use Rattle.replies.specs.Block.{fact_sets, direction_sets, block_sets, block_data}
use Rattle.replies.specs.Periods.{long_data}
use Rattle.replies.specs.Fixed.{identification, password_ask, accepted, refused}
use Rattle.state.specs.Setting.{with_mark, with_receiver, with_attempts, with_registers, with_account, with_tables, with_archive, with_counters, with_exported, with_zones, with_total}
use Rattle.mistakes.specs.RuledOut.{RuledOut}
use Rattle.mistakes.specs.Samples.{noon, stamp_at, serial, account, password, twos, new_meter, used, new_eqm, used_eqm, closed_twice, oldest_first, held_in}

-- of `frames`
pub record Frames : Type 0 where
  -- SOH summed into the BCC; the byte past the frame cleared
  pub seal : RuledOut (holding (SOH ∷ chars "B0" ++ 0 ∷ 0 ∷ 9 ∷ []) (on_wire (sealed (take 3 (SOH ∷ chars "B0" ++ 0 ∷ 0 ∷ 9 ∷ []))))) (129 ∷ chars "B0" ++ ETX ∷ 240 ∷ 9 ∷ [])
      × RuledOut (holding (SOH ∷ chars "B0" ++ 0 ∷ 0 ∷ 9 ∷ []) (on_wire (sealed (take 3 (SOH ∷ chars "B0" ++ 0 ∷ 0 ∷ 9 ∷ []))))) (129 ∷ chars "B0" ++ ETX ∷ chars "q" ++ 0 ∷ [])
  -- parity put on what follows as well; no parity
  pub send : RuledOut (on_wire (take 1 (chars "ab")) ++ drop 1 (chars "ab")) (0xE1 ∷ 0xE2 ∷ [])
      × RuledOut (on_wire (take 1 (chars "ab")) ++ drop 1 (chars "ab")) (chars "ab")

-- of `state`
pub record States : Type 0 where
  -- a 32nd character in mode 0; the sixth of a confirmation
  pub limit_of : RuledOut (limit 0) 32 × RuledOut (limit 1) 6
  -- the tables not looked at; a mark on an empty receiver
  pub is_well_formed : RuledOut (well_formed (with_registers new_meter (with_tables new_meter.registers (replicate (table_places * row_length) 53)))) true
      × RuledOut (well_formed (with_receiver new_meter (with_mark empty_receiver 1 0))) true
  -- with a mark a place that nothing is held at; a place without a mark
  pub is-well-formed-place : RuledOut (well_formed (with_receiver (held_in 2 (SOH ∷ chars "B")) (with_mark (held_in 2 (SOH ∷ chars "B")).receiver 1 2))) true
      × RuledOut (well_formed (with_receiver (held_in 2 (SOH ∷ chars "B")) (with_mark (held_in 2 (SOH ∷ chars "B")).receiver 0 1))) true
  -- a total that is off by one; a sum that is not rolled over
  pub is-well-formed-total : RuledOut (well_formed (with_registers new_meter (with_counters new_meter.registers (with_total no_counters 1)))) true
      × RuledOut (well_formed (with_registers new_meter (with_counters new_meter.registers (with_total (with_zones no_counters (999999999 ∷ 1 ∷ 0 ∷ 0 ∷ [])) 1000000000)))) true
  -- [10]: something gone out of a meter of document 01's family; one decimal
  pub is-well-formed-family : RuledOut (well_formed (with_registers new_meter (with_exported new_meter.registers (with_total (with_zones no_counters (1 ∷ 0 ∷ 0 ∷ 0 ∷ [])) 1)))) true
      × RuledOut (well_formed (meter_of (facts_of serial password 1 1 1) account noon)) true
  -- one total for both directions, kept of what went out; of what came in
  pub is-well-formed-directions : RuledOut (well_formed (with_registers new_eqm (with_exported (with_counters new_eqm.registers (with_total (with_zones no_counters (1 ∷ 0 ∷ 0 ∷ 0 ∷ [])) 1)) (with_total (with_zones no_counters (2 ∷ 0 ∷ 0 ∷ 0 ∷ [])) 3)))) true
      × RuledOut (well_formed (with_registers new_eqm (with_exported (with_counters new_eqm.registers (with_total (with_zones no_counters (1 ∷ 0 ∷ 0 ∷ 0 ∷ [])) 3)) (with_total (with_zones no_counters (2 ∷ 0 ∷ 0 ∷ 0 ∷ [])) 2)))) true
  -- an EQM meter's counter at 100,000,000; a period of document 01's family in which something went out
  pub is-well-formed-ends : RuledOut (well_formed (with_registers new_eqm (with_counters new_eqm.registers (with_total (with_zones no_counters (100000000 ∷ 0 ∷ 0 ∷ 0 ∷ [])) 0)))) true
      × RuledOut (well_formed (with_registers new_meter (with_archive new_meter.registers
      (closed_with (record { closed = stamp_at 2001 2 3 4 5; zones = replicate 4 0; exported = 1 ∷ 0 ∷ 0 ∷ 0 ∷ [] }) new_meter.registers.archive)))) true
  -- [12]: a period without a time; a thirteenth
  pub is-well-formed-archive : RuledOut (well_formed (with_registers new_meter (with_archive new_meter.registers (record { periods = replicate period_places no_period; count = 1 })))) true
      × RuledOut (well_formed (with_registers new_meter (with_archive new_meter.registers (record { periods = replicate period_places no_period; count = 13 })))) true
  -- [3]: an edition 3; a new meter without one
  pub has_edition : RuledOut (is_edition (edition_of (meter_of (facts_of serial password 3 1 0) account noon))) true × RuledOut (is_edition (edition_of new_meter)) false
  -- 15 for edition 3; 15 for decimals 1
  pub wrong_not_made : RuledOut (not_made 3 0) (record { number = 15; meter = blank_meter }) × RuledOut (not_made 1 1) (record { number = 15; meter = blank_meter })
  -- one failed attempt at the start; an account of zeros
  pub blank : RuledOut blank_meter (with_attempts blank_meter 1)
      × RuledOut blank_meter (with_registers blank_meter (with_account blank_meter.registers (replicate 10 48)))
  -- a serial of letters taken; 15 with a state of the bad facts
  pub make : RuledOut (made_of (facts_of account password 1 1 0) account noon) (record { number = 1; meter = meter_of (facts_of account password 1 1 0) account noon })
      × RuledOut (made_of (facts_of account password 1 1 0) account noon) (record { number = 15; meter = meter_of (facts_of account password 1 1 0) account noon })

-- of `state::Refusal`
pub record Refusals : Type 0 where
  -- a bad fact for an edition that there is none of; that for decimals that no family has
  pub wrong_number : RuledOut (number_of NoEdition) 15 × RuledOut (number_of NoFamily) 16

-- of `datasets`
pub record Sets : Type 0 where
  -- the date's address; no CR LF
  pub put_time_set : RuledOut (stored (replicate 17 0) 0 (line_of (time_set (time_of 1 2 3)))) (data_set (date_set (date_of 2001 2 3)).address (time_text (time_of 1 2 3)))
      × RuledOut (stored (replicate 17 0) 0 (line_of (time_set (time_of 1 2 3)))) (take 15 (line_of (time_set (time_of 1 2 3))) ++ (0 ∷ 0 ∷ []))
  -- the time's address; the day first
  pub put_date_set : RuledOut (stored (replicate 17 0) 0 (line_of (date_set (date_of 2001 2 3)))) (data_set (time_set (time_of 1 2 3)).address (date_text (date_of 2001 2 3)))
      × RuledOut (stored (replicate 17 0) 0 (line_of (date_set (date_of 2001 2 3)))) (line_of (date_set (date_of 2003 2 1)))
  -- the account's address; ten digits without the space
  pub put_serial_set : RuledOut (stored (replicate 20 0) 0 (line_of (serial_set serial))) (data_set (account_set account).address (serial_text serial))
      × RuledOut (stored (replicate 20 0) 0 (line_of (serial_set serial))) (data_set (serial_set serial).address serial ++ (0 ∷ []))
  -- the serial's address; an account of spaces left empty
  pub put_account_set : RuledOut (stored (replicate 19 0) 0 (line_of (account_set account))) (data_set (serial_set serial).address account)
      × RuledOut (stored (replicate 19 0) 0 (line_of (account_set (replicate 10 32)))) (line_of (account_set []) ++ replicate 10 0)
  -- the total's address for T1; Wh shown as kWh
  pub put_energy_set : RuledOut (stored (replicate 24 0) 0 (line_of (energy_set 0 false (energy_no (zone_energy 1)) 1500))) (line_of (energy_set 0 false 0 1500))
      × RuledOut (stored (replicate 24 0) 0 (line_of (energy_set 0 false (energy_no (zone_energy 1)) 1500))) (line_of (energy_set 0 false 1 1500000))
  -- [10]: what went out under the name of what came in; that under document 01's name
  pub put-energy-set-eqm : RuledOut (stored (replicate 22 0) 0 (line_of (energy_set 3 true (energy_no (zone_energy 1)) 1500))) (line_of (energy_set 3 false 1 1500))
      × RuledOut (stored (replicate 22 0) 0 (line_of (energy_set 3 false (energy_no (zone_energy 1)) 1500))) (data_set (chars "15.8.1") (energy_text 3 1500))
  -- the number of the next table; the row without its last character
  pub put_table_set : RuledOut (stored (replicate 36 0) 0 (line_of (table_set 7 twos))) (line_of (table_set 8 twos))
      × RuledOut (stored (replicate 36 0) 0 (line_of (table_set 7 twos))) (line_of (table_set 7 (take 23 twos)) ++ (0 ∷ []))
  -- the number of the next period; an hour late
  pub put_closed_set : RuledOut (stored (replicate 26 0) 0 (line_of (closed_set 7 (stamp_at 2001 2 3 4 5)))) (line_of (closed_set 8 (stamp_at 2001 2 3 4 5)))
      × RuledOut (stored (replicate 26 0) 0 (line_of (closed_set 7 (stamp_at 2001 2 3 4 5)))) (line_of (closed_set 7 (stamp_at 2001 2 3 5 5)))
  -- zone and period changed about; kWh for Wh
  pub put_kept_set : RuledOut (stored (replicate 27 0) 0 (line_of (kept_set 0 false 2 1 1500))) (line_of (kept_set 0 false 1 2 1500))
      × RuledOut (stored (replicate 27 0) 0 (line_of (kept_set 0 false 2 1 1500))) (line_of (kept_set 0 false 2 1 1500000))
  -- [10]: the same two of what went out
  pub put-kept-set-eqm : RuledOut (stored (replicate 25 0) 0 (line_of (kept_set 3 true 2 1 1500))) (line_of (kept_set 3 false 2 1 1500))
      × RuledOut (stored (replicate 25 0) 0 (line_of (kept_set 3 true 2 1 1500))) (line_of (kept_set 2 true 2 1 1500))

-- each row under the number before its own
unfoldable pub numbered_before : List ℕ → ℕ → List DataSet
numbered_before rows zero = []
numbered_before rows (suc n) = numbered_before rows n ++ (table_set n (row_of rows (suc n)) ∷ [])

unfoldable pub next_rows : List ℕ
next_rows =
    lines_of (fact_sets used.facts.serial used.clock used.account ++ (direction_sets 0 used.counters used.exported ++ numbered_before used.tables 24))
    ++ chars "!\r\n"

-- of `replies`
pub record Replies : Type 0 where
  -- no parity; edition 1's for edition 2
  pub identify : RuledOut (holding (replicate 19 0) (on_wire (identification 1))) (identification 1)
      × RuledOut (holding (replicate 19 0) (on_wire (identification 2))) (holding (replicate 19 0) (on_wire (identification 1)))
  -- NAK; odd parity
  pub acknowledge : RuledOut (holding (0 ∷ []) (on_wire accepted)) (on_wire refused) × RuledOut (holding (0 ∷ []) (on_wire accepted)) (0x86 ∷ [])
  -- ACK; no parity
  pub refuse : RuledOut (holding (0 ∷ []) (on_wire refused)) (on_wire accepted) × RuledOut (holding (0 ∷ []) (on_wire refused)) refused
  -- P1 for P0; no data
  pub ask_password : RuledOut (holding (replicate 12 0) (on_wire password_ask)) (on_wire (frame_of P1 (bracketed (chars "0000"))))
      × RuledOut (holding (replicate 12 0) (on_wire password_ask)) (holding (replicate 12 0) (on_wire (bare_frame P0)))
  -- a total without the fourth counter; the row of the next table
  pub answer : RuledOut (holding (replicate reply_room 0) (on_wire (block_of (asked_data used (Energy Total))))) (holding (replicate reply_room 0) (on_wire (block_of (line_of (energy_set 0 false 0 7)))))
      × RuledOut (holding (replicate reply_room 0) (on_wire (block_of (asked_data used (Table (record { 0 = 7 }))))))
      (holding (replicate reply_room 0) (on_wire (block_of (line_of (table_set 7 twos)))))
  -- [10]: a total of both directions; what came in for what went out
  pub answer-directions : RuledOut (holding (replicate reply_room 0) (on_wire (block_of (asked_data used_eqm (Energy Total))))) (holding (replicate reply_room 0) (on_wire (block_of (line_of (energy_set 3 false 0 255)))))
      × RuledOut (holding (replicate reply_room 0) (on_wire (block_of (asked_data used_eqm (Export (zone_energy 1)))))) (holding (replicate reply_room 0) (on_wire (block_of (line_of (energy_set 3 true 1 1)))))
  -- what came in shown again as what went out; the other way about
  pub data-block-directions : RuledOut (holding (replicate reply_room 0) (on_wire (block_of (block_data 24 used_eqm))))
      (holding (replicate reply_room 0) (on_wire (block_of (block_data 24 (with_exported used_eqm used_eqm.counters)))))
      × RuledOut (holding (replicate reply_room 0) (on_wire (block_of (block_data 24 used_eqm))))
      (holding (replicate reply_room 0) (on_wire (block_of (block_data 24 (with_counters used_eqm used_eqm.exported)))))
  -- one table too few; no last line
  pub data_block : RuledOut (holding (replicate reply_room 0) (on_wire (block_of (block_data 24 used)))) (holding (replicate reply_room 0) (on_wire (block_of (block_data 23 used))))
      × RuledOut (holding (replicate reply_room 0) (on_wire (block_of (block_data 24 used)))) (holding (replicate reply_room 0) (on_wire (block_of (lines_of (block_sets 24 used)))))
  -- each row under the number before its own
  pub next_row : RuledOut (holding (replicate reply_room 0) (on_wire (block_of (block_data 24 used)))) (holding (replicate reply_room 0) (on_wire (block_of next_rows)))
  -- no periods; the oldest first
  pub long_block : RuledOut (holding (replicate reply_room 0) (on_wire (block_of (long_data 24 closed_twice)))) (holding (replicate reply_room 0) (on_wire (block_of (block_data 24 closed_twice))))
      × RuledOut (holding (replicate reply_room 0) (on_wire (block_of (long_data 24 closed_twice)))) (holding (replicate reply_room 0) (on_wire (block_of (long_data 24 oldest_first))))
