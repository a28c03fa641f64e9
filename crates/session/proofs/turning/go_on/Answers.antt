-- `session::turning::go_on` meets its contract: what the builder says of the next message decides. Assumes nothing.
use native.Mathlib.Omega.{arith}
use borrow.Author.Tests.{le-leb, lt-leb}
use lib.ListN.{length-map}
use Rattle.line.specs.Characters.{sent}
use Rattle.commands.specs.Messages.{text_of}
use Rattle.text.specs.Writing.{holding}
use Rattle.session.specs.Turns.{answered_right}
use Rattle.session.proofs.Laws.{count_most, ok-done, err-not}
use Rattle.session.proofs.turning.go_on.Goals as goal

pub overflow_add-s : goal.overflow_add-s
overflow_add-s c = omega (arith, count_most _ c.requires.0)

pub returns-then-s : goal.returns-then-s
unfolding answered_right holding
returns-then-s c = record { result = rw (le-leb _ _ c.if-s.true) c.end.ensures; held = rw (le-leb _ _ c.if-s.true) }

pub overflow_add-n : goal.overflow_add-n
overflow_add-n c = omega (arith, c.if-s.false, count_most _ c.requires.0)

pub build-requires : goal.build-requires
build-requires c = count_most _ c.requires.0

pub returns-in_default : goal.returns-in_default
unfolding answered_right holding
returns-in_default c =
    let w = err-not _ _ _ _ _ c.build.ensures c.requires.1 c.in_default.not-Ok in
    record { result = rw (lt-leb _ _ c.if-s.false, w.0); held = rw (lt-leb _ _ c.if-s.false, w.0) w.1 }

pub returns : goal.returns
unfolding answered_right
returns c =
    let w = ok-done _ _ _ _ _ c.build.ensures c.requires.1 _ c.in-Ok.is in
    record { result = rw (lt-leb _ _ c.if-s.false, w.0, c.stand.ensures, w.1.0, length-map (text_of _) sent); held = rw (lt-leb _ _ c.if-s.false, w.0) w.1.1 }
