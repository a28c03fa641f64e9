-- `values::counter::is_counter` meets its contract: the first eight and the last are tested. Assumes nothing.
use Rattle.values.proofs.counter.is_counter.Goals as goal

pub returns : goal.returns
returns c = rw (c.keeps_form.ensures, c.first_of.ensures, c.keeps_form-2.ensures, c.last_of.ensures)
