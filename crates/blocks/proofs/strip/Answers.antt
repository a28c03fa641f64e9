-- `blocks::strip` meets its contract: too short a buffer, a damaged byte, or the seven bits of each. Assumes nothing.
use mathlib.Core.Path.{sym, ◌∙◌}
use borrow.Author.Tests.{lt-ltb, le-ltb}
use Rattle.blocks.specs.Stripping.{stripped_of, stripped_into}
use Rattle.blocks.proofs.strip.Goals as goal

pub returns-then-out-reply : goal.returns-then-out-reply
unfolding stripped_of stripped_into
returns-then-out-reply c =
    record { answer = rw (lt-ltb _ _ c.if-out-reply.true); held = rw (lt-ltb _ _ c.if-out-reply.true) }

pub returns-then-not-undamaged : goal.returns-then-not-undamaged
unfolding stripped_of stripped_into
returns-then-not-undamaged c =
    let d = sym c.undamaged.ensures ∙ c.if-not-undamaged.true in
    record { answer = rw (le-ltb _ _ c.if-out-reply.false, d, c.first_damaged.ensures); held = rw (le-ltb _ _ c.if-out-reply.false, d) }

pub returns : goal.returns
unfolding stripped_of stripped_into
returns c = let d = sym c.undamaged.ensures ∙ c.if-not-undamaged.false in record { answer = rw (le-ltb _ _ c.if-out-reply.false, d); held = rw (le-ltb _ _ c.if-out-reply.false, d) c.copy_seven.ensures }
