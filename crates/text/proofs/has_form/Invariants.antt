-- The test by which `text::has_form` has two texts agree.
use Rattle.text.specs.Layout.{agrees}
use Rattle.text.proofs.has_form.Given as goal

abbrev pub ghost-agreeing : goal.ghost-agreeing
ghost-agreeing a = agrees
