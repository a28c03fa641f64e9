-- `firmware::settle` meets its contract: of each settled event what it changes is stored. Assumes nothing.
use Rattle.std.proofs.Common.{◌≡◌, Option, Some, refl, sym, subst, ap, ◌∙◌}
use Rattle.clock.specs.declared.Clock.{Clock}
use Rattle.state.specs.declared.Counters.{Counters}
use Rattle.state.specs.declared.Meter.{Meter}
use Rattle.state.specs.Setting.{with_registers, with_clock, with_counters, with_exported}
use Rattle.settling.specs.declared.Kept.{Kept}
use Rattle.settling.specs.declared.Moved.{Moved}
use Rattle.settling.specs.declared.Moved.TheVariants.{Second, CameIn, WentOut}
use Rattle.settling.specs.Settling.{seen_in, said, clock_after, counters_after, exported_after, settled_in}
use Rattle.firmware.specs.Replies.{silent_reply, settled_reply}
use Rattle.firmware.proofs.settle.Goals as goal

-- what is answered and stored where something is moved
abbrev Stored : Meter → Kept → Meter → Option Moved → Type 0
Stored m k next x =
    (silent_reply 1 m.speed ≡ settled_reply (said (seen_in m) (record { kept = k; moved = x }))) × (next ≡ settled_in m (said (seen_in m) (record { kept = k; moved = x })))

second : (m : Meter) (k : Kept) (next : Clock) → Stored m k (with_registers m (with_clock m.registers next)) (Some (Second next))
unfolding clock_after counters_after exported_after
second m k next = (refl, refl)

came_in : (m : Meter) (k : Kept) (next : Counters) → Stored m k (with_registers m (with_counters m.registers next)) (Some (CameIn next))
unfolding clock_after counters_after exported_after
came_in m k next = (refl, refl)

went_out : (m : Meter) (k : Kept) (next : Counters) → Stored m k (with_registers m (with_exported m.registers next)) (Some (WentOut next))
unfolding clock_after counters_after exported_after
went_out m k next = (refl, refl)

pub returns-in-Some-Second : goal.returns-in-Some-Second
returns-in-Some-Second c =
    let which = rw c.in-Some-Second.is at c.in-Some-Second.field-0-is in
    let is = c.in-Some-Second.is ∙ ap Some which in
    rw c.answer.ensures (subst (Stored c.args.m.now c.args.settled.kept _) (sym is) (second c.args.m.now c.args.settled.kept c.in-Some-Second.next))

pub returns-in-Some-CameIn : goal.returns-in-Some-CameIn
returns-in-Some-CameIn c =
    let which = rw c.in-Some-CameIn.is at c.in-Some-CameIn.field-0-is in
    let is = c.in-Some-CameIn.is ∙ ap Some which in
    rw c.answer-in-Some-CameIn.ensures (subst (Stored c.args.m.now c.args.settled.kept _) (sym is) (came_in c.args.m.now c.args.settled.kept c.in-Some-CameIn.counters))

pub returns-in-Some-WentOut : goal.returns-in-Some-WentOut
returns-in-Some-WentOut c =
    let which = rw c.in-Some-WentOut.is at c.in-Some-WentOut.field-0-is in
    let is = c.in-Some-WentOut.is ∙ ap Some which in
    rw c.answer-in-Some-WentOut.ensures (subst (Stored c.args.m.now c.args.settled.kept _) (sym is) (went_out c.args.m.now c.args.settled.kept c.in-Some-WentOut.exported))
