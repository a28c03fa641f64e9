-- `values::is_whole_account` meets its contract: the flag, with what is left, says it of the whole. Assumes nothing.
use mathlib.Core.Path.{refl}
use native.Mathlib.Omega.{arith}
use borrow.Author.Tests.{eq-eqb}
use lib.ListN.{length}
use Rattle.line.proofs.Runs.{every-turn, every-end}
use Rattle.values.specs.Registers.{is_account_character, good_account}
use Rattle.values.proofs.Rules.{no-account}
use Rattle.values.proofs.is_whole_account.Goals as goal

pub returns-then-s-ne10 : goal.returns-then-s-ne10
returns-then-s-ne10 c = rw (no-account c.args.s.now c.if-s-ne10.true)

pub loop-c-init : goal.loop-c-init
loop-c-init c = refl

pub loop-c-preserved : goal.loop-c-preserved
loop-c-preserved c =
    rw c.is_account_character-ok.ensures (every-turn is_account_character c.args.s.now c.loop-c.c-index c.loop-c.ok _ (omega arith) c.loop-c.invariant)

pub returns : goal.returns
unfolding good_account
returns c =
    let s = c.args.s.now in
    rw (eq-eqb (length s) 10 c.if-s-ne10.false) (every-end is_account_character s c.loop-c.c-index c.loop-c.ok _ (omega arith) c.loop-c.invariant)
