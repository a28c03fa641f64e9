-- `session::starting::begin` meets its contract: 9 where something told is not good, else the sign-on, which then can be built. Assumes nothing.
use mathlib.Core.Bool.{◌&&◌}
use native.Mathlib.Omega.{arith}
use lib.ListN.{length-map}
use Rattle.line.specs.Characters.{sent}
use Rattle.line.proofs.Runs.{and_left, and_right}
use Rattle.text.specs.Writing.{holding}
use Rattle.commands.specs.Messages.{text_of}
use Rattle.session.specs.Messages.{calling}
use Rattle.session.specs.declared.Session.{Session}
use Rattle.session.specs.Starting.{told_of, session_of, opened}
use Rattle.session.proofs.Laws.{digits-told, call-good, good-ok, ok-done}
use Rattle.session.proofs.starting.begin.Goals as goal

pub returns-then-not-called-entered : goal.returns-then-not-called-entered
unfolding opened holding
returns-then-not-called-entered c =
    record { result = rw (← c.is_digits.ensures, ← c.told_good-called.ensures, ← c.is_digits-2.ensures, ← c.told_good-entered.ensures, c.if-not-called-entered.true); held = rw (← c.is_digits.ensures, ← c.told_good-called.ensures, ← c.is_digits-2.ensures, ← c.told_good-entered.ensures, c.if-not-called-entered.true) }

pub kept-requires : goal.kept-requires
kept-requires c = (omega arith, digits-told 10 _ _ (rw (c.told_good-called.ensures, c.is_digits.ensures) at (and_left c.told_good-called.result _ (and_left (c.told_good-called.result && c.told_good-entered.result) _ c.if-not-called-entered.false))))

pub kept-requires-2 : goal.kept-requires-2
kept-requires-2 c = (omega arith, digits-told 8 _ _ (rw (c.told_good-entered.ensures, c.is_digits-2.ensures) at (and_right c.told_good-called.result _ (and_left (c.told_good-called.result && c.told_good-entered.result) _ c.if-not-called-entered.false))))

pub unwrap-length-requires : goal.unwrap-length-requires
unfolding session_of
unwrap-length-requires c =
    let a = c.args.told in
    let t = told_of a.edition a.decimals a.named a.serial.now a.access a.password.now a.kind in
    let all = c.if-not-called-entered.false in
    let called = rw (c.told_good-called.ensures, c.is_digits.ensures) at (and_left c.told_good-called.result _ (and_left (c.told_good-called.result && c.told_good-entered.result) _ all)) in
    good-ok _ _ _ _ _ c.call.ensures c.requires (rw (c.kept.ensures, c.kept-2.ensures) (call-good t c.args.count called))

pub returns : goal.returns
unfolding opened session_of
returns c =
    let a = c.args.told in
    let all = c.if-not-called-entered.false in
    let made : Session = record { serial = c.kept.result; password = c.kept-2.result; named = a.named; access = a.access; work = a.kind; count = c.args.count; sent = 1; fact = 0; edition = a.edition; decimals = a.decimals } in
    let done = ok-done _ _ _ _ _ c.call.ensures c.requires _ c.unwrap-length.ensures in
    record { result = rw (← c.is_digits.ensures, ← c.told_good-called.ensures, ← c.is_digits-2.ensures, ← c.told_good-entered.ensures, all, done.1.0, length-map (text_of (calling made)) sent, c.kept.ensures, c.kept-2.ensures); held = rw (← c.is_digits.ensures, ← c.told_good-called.ensures, ← c.is_digits-2.ensures, ← c.told_good-entered.ensures, all, ← c.kept.ensures, ← c.kept-2.ensures) done.1.1 }
