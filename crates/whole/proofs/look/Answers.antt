-- `whole::look` meets its contract: each way out is the case of the definition that its tests name. Assumes nothing.
use borrow.Author.Tests.{lt-ltb, le-ltb}
use Rattle.whole.specs.Looking.{looked_by}
use Rattle.whole.proofs.look.Goals as goal

pub returns-then-not-is_edition : goal.returns-then-not-is_edition
unfolding looked_by
returns-then-not-is_edition c =
    rw (← c.is_edition.ensures, c.if-not-is_edition.true)

pub returns-then-room-lt-REPLY_ROOM : goal.returns-then-room-lt-REPLY_ROOM
unfolding looked_by
returns-then-room-lt-REPLY_ROOM c =
    rw (← c.is_edition.ensures, c.if-not-is_edition.false, lt-ltb _ _ c.if-room-lt-REPLY_ROOM.true)

pub returns-then-not-formed : goal.returns-then-not-formed
unfolding looked_by
returns-then-not-formed c =
    rw (← c.is_edition.ensures, c.if-not-is_edition.false, le-ltb _ _ c.if-room-lt-REPLY_ROOM.false, c.if-not-formed.true)

pub returns-then-not-awaits_frame : goal.returns-then-not-awaits_frame
unfolding looked_by
returns-then-not-awaits_frame c =
    rw (
      ← c.is_edition.ensures,
      c.if-not-is_edition.false,
      le-ltb _ _ c.if-room-lt-REPLY_ROOM.false,
      c.if-not-formed.false,
      ← c.awaits_frame.ensures,
      c.if-not-awaits_frame.true,
    )

pub returns : goal.returns
unfolding looked_by
returns c =
    rw (
      ← c.is_edition.ensures,
      c.if-not-is_edition.false,
      le-ltb _ _ c.if-room-lt-REPLY_ROOM.false,
      c.if-not-formed.false,
      ← c.awaits_frame.ensures,
      c.if-not-awaits_frame.false,
      c.gather.ensures,
    )
