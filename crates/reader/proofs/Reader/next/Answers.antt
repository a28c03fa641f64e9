-- `Reader::next` meets its contract: a malformed set leaves the reader where it stands. Assumes nothing.
use native.Mathlib.Omega.{arith}
use Rattle.std.proofs.lemmas.Result.{err_from_is_err_and}
use Rattle.reader.proofs.Staying.{last-stays}
use Rattle.reader.proofs.Reader.next.Goals as goal

pub returns-in_err-set : goal.returns-in_err-set
returns-in_err-set c =
    let e = c.in_err-set.ensures in
    let p = err_from_is_err_and c.from_residual.result c.from_residual.ensures.1 in
    (rw (p.1, p.2) e, last-stays c.args.self.now _ e (λ k. omega (arith, k)))
