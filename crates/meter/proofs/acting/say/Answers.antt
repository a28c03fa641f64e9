-- `meter::acting::say` meets its contract: each way out is the case of the definition that its tests name. Assumes nothing.
use mathlib.Core.Path.{sym, ap, ◌∙◌}
use native.Mathlib.Omega.{arith}
use lib.ListN.{length}
use Rattle.replies.proofs.Good.{password-ask-is}
use Rattle.text.specs.Writing.{holding}
use Rattle.values.proofs.Editions.{tables-most}
use Rattle.meter.specs.declared.Says.TheVariants.{Refusal, Identification, Block, Invitation, Accepted, Asked}
use Rattle.meter.specs.Deeds.{RoomFor, short_said}
use Rattle.meter.proofs.Done.{told-room}
use borrow.Author.Rules.{rules}
use Rattle.meter.proofs.acting.say.Goals as goal

pub refuse-requires : goal.refuse-requires
unfolding RoomFor
refuse-requires c =
    omega (arith, told-room c.args.says Refusal _ c.in-Refusal.is c.requires.1)

pub identify-requires : goal.identify-requires
unfolding RoomFor
identify-requires c =
    (c.requires.0, omega (arith, told-room c.args.says Identification _ c.in-Identification.is c.requires.1))

pub data_block-requires : goal.data_block-requires
unfolding RoomFor
data_block-requires c =
    (rw c.tables_of.ensures.value (tables-most c.args.p.facts.edition), told-room c.args.says Block _ c.in-Block.is c.requires.1)

pub ask_password-requires : goal.ask_password-requires
unfolding RoomFor
ask_password-requires c =
    omega (arith, told-room c.args.says Invitation _ c.in-Invitation.is c.requires.1)

pub acknowledge-requires : goal.acknowledge-requires
unfolding RoomFor
acknowledge-requires c =
    omega (arith, told-room c.args.says Accepted _ c.in-Accepted.is c.requires.1)

pub answer-requires : goal.answer-requires
unfolding RoomFor
answer-requires c =
    told-room c.args.says (Asked _) _ c.in-Asked.is c.requires.1

pub returns-in-Nothing : goal.returns-in-Nothing
unfolding short_said holding
returns-in-Nothing c = record { whole = rw c.in-Nothing.is; held = rw c.in-Nothing.is }

pub returns-in-Refusal : goal.returns-in-Refusal
unfolding short_said
returns-in-Refusal c =
    let said = c.refuse.ensures in let told = c.in-Refusal.is in
    record { whole = rw told said.whole; held = rw told said.held }

pub returns-in-Identification : goal.returns-in-Identification
unfolding short_said
returns-in-Identification c =
    let said = c.identify.ensures in let told = c.in-Identification.is in
    record { whole = rw told said.whole; held = rw told said.held }

pub returns-in-Block : goal.returns-in-Block
unfolding short_said
returns-in-Block c =
    let said = rw c.tables_of.ensures.value at c.data_block.ensures in let told = c.in-Block.is in
    record { whole = rw told said.whole; held = rw told said.held }

pub returns-in-Invitation : goal.returns-in-Invitation
unfolding short_said
returns-in-Invitation c =
    let said = c.ask_password.ensures in let told = c.in-Invitation.is in
    record { whole = rw told (said.whole ∙ sym (ap length password-ask-is)); held = rw told said.held }

pub returns-in-Accepted : goal.returns-in-Accepted
unfolding short_said
returns-in-Accepted c =
    let said = c.acknowledge.ensures in let told = c.in-Accepted.is in
    record { whole = rw told said.whole; held = rw told said.held }

pub returns-in-Asked : goal.returns-in-Asked
unfolding short_said
returns-in-Asked c =
    let said = c.answer.ensures in let told = c.in-Asked.is in
    record { whole = rw told said.whole; held = rw told said.held }
