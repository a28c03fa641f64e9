-- `meter::events::room_refusal` meets its contract: each way out is the case of the definition that its tests name. Assumes nothing.
use Rattle.meter.specs.Life.{refusal}
use borrow.Author.Tests.{le-ltb, lt-ltb}
use borrow.Author.Rules.{rules}
use Rattle.meter.proofs.events.room_refusal.Goals as goal

pub returns-then-room-lt-REPLY_ROOM : goal.returns-then-room-lt-REPLY_ROOM
unfolding refusal
returns-then-room-lt-REPLY_ROOM c = rw (lt-ltb _ _ c.if-room-lt-REPLY_ROOM.true)

pub returns-else-room-lt-REPLY_ROOM : goal.returns-else-room-lt-REPLY_ROOM
unfolding refusal
returns-else-room-lt-REPLY_ROOM c = rw (le-ltb _ _ c.if-room-lt-REPLY_ROOM.false)
