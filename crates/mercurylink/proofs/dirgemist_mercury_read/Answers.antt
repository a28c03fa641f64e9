-- `mercurylink::dirgemist_mercury_read` meets its contract: what is read is told. Assumes nothing.
use mathlib.Core.Path.{ap, ◌∙◌}
use Rattle.mercurylink.specs.Telling.{told_of}
use Rattle.mercurylink.proofs.Telling.{tells}
use Rattle.mercurylink.proofs.dirgemist_mercury_read.Goals as goal

pub returns : goal.returns
returns c =
    rw (c.number_of.ensures, c.code_of.ensures, c.flags.ensures, c.unwrap_or.ensures, c.unwrap_or-2.ensures, c.unwrap_or-3.ensures, c.unwrap_or-4.ensures, c.unwrap_or-e.ensures)
    (tells _ ∙ ap told_of c.read-read.ensures)
