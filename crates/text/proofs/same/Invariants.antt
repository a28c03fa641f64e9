-- The test by which `text::same` has two texts agree.
use lib.Dec.{eqb}
use Rattle.text.proofs.same.Given as goal

abbrev pub ghost-agreeing : goal.ghost-agreeing
ghost-agreeing a = eqb
