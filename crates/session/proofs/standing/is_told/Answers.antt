-- `session::standing::is_told` meets its contract: the tests of the definition, each by itself. Assumes nothing.
use Rattle.session.specs.Standing.{session_told}
use Rattle.session.proofs.standing.is_told.Goals as goal

pub returns : goal.returns
unfolding session_told
returns c = rw (c.is_edition.ensures, c.is_family.ensures, c.told_good.ensures, c.is_digits.ensures, c.kept_good.ensures, c.told_good-2.ensures, c.is_digits-2.ensures, c.kept_good-2.ensures)
