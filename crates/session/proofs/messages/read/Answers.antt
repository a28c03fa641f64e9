-- `session::messages::read` meets its contract: each way out is the case of the definition that its tests name. Assumes nothing.
use mathlib.Core.Path.{◌≡◌}
use native.Mathlib.Omega.{arith}
use borrow.Author.Tests.{ne_eqb}
use Rattle.session.specs.Messages.{read_of}
use Rattle.commands.specs.Spoken.{good_fields, spoken, letters_of, data_of}
use Rattle.session.proofs.messages.read.Goals as goal

pub returns-in-84 : goal.returns-in-84
unfolding read_of good_fields spoken letters_of data_of
returns-in-84 c = rw c.in-84.is c.read_clock.ensures

pub returns-in-76 : goal.returns-in-76
unfolding read_of good_fields spoken letters_of data_of
returns-in-76 c = rw c.in-76.is c.read_serial.ensures

pub returns-in-75 : goal.returns-in-75
unfolding read_of good_fields spoken letters_of data_of
returns-in-75 c = rw c.in-75.is c.read_account.ensures

pub returns-in-69 : goal.returns-in-69
unfolding read_of good_fields spoken letters_of data_of
returns-in-69 c = rw c.in-69.is c.read_energy.ensures

pub returns-in-71 : goal.returns-in-71
unfolding read_of good_fields spoken letters_of data_of
returns-in-71 c = rw c.in-71.is c.read_export.ensures

pub returns-in-90 : goal.returns-in-90
unfolding read_of good_fields spoken letters_of data_of
returns-in-90 c = rw c.in-90.is c.read_table_of.ensures

pub returns-in_default : goal.returns-in_default
unfolding read_of good_fields spoken letters_of data_of
returns-in_default c =
    rw (ne_eqb c.args.letter 84 (λ (e : c.args.letter ≡ 84). omega (arith, e)), ne_eqb c.args.letter 76 (λ (e : c.args.letter ≡ 76). omega (arith, e)), ne_eqb c.args.letter 75 (λ (e : c.args.letter ≡ 75). omega (arith, e)), ne_eqb c.args.letter 69 (λ (e : c.args.letter ≡ 69). omega (arith, e)), ne_eqb c.args.letter 71 (λ (e : c.args.letter ≡ 71). omega (arith, e)), ne_eqb c.args.letter 90 (λ (e : c.args.letter ≡ 90). omega (arith, e))) c.read_table_of-in_default.ensures
