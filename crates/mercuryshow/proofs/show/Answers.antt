-- `mercuryshow::show` meets its contract: what is read is what is put in. Assumes nothing.
use mathlib.Core.Path.{◌≡◌, ap, ap₂, ◌∙◌}
use native.Mathlib.Omega.{arith}
use lib.ListN.{length, get_or, drop}
use Rattle.std.specs.Prelude.{Ok}
use Rattle.std.specs.Result.{result_and}
use Rattle.text.specs.Writing.{stored}
use Rattle.text.proofs.Writing.{stored-holding}
use Rattle.numerals.proofs.Begun.{begun}
use Rattle.mercury.specs.Answering.{Answer, read_of}
use Rattle.mercuryshow.specs.Shown.{answer_text, exchange_read, shown_number, Shows}
use Rattle.mercuryshow.proofs.Sizes.{answer-few, numbered}
use Rattle.mercuryshow.proofs.show.Goals as goal

pub returns : goal.returns
unfolding exchange_read
returns c =
    let a = c.args in
    let read = c.read-a in
    let put = c.put_answer-length.ensures in
    let is : read.result ≡ read_of (get_or a.capture.now 0 0) (drop 6 a.capture.now) =
    read.ensures ∙ ap₂ read_of c.at.ensures c.rest.ensures.result_value in
    let outcome : c.and.result ≡ result_and (exchange_read a.capture.now) (Ok (tt {0})) = c.and.ensures ∙ ap (λ (x : Answer). result_and x (Ok tt)) is in
    let room = answer-few (exchange_read a.capture.now) in
    let s : Shows a.capture.now a.out.now (record { outcome = c.and.result; length = c.put_answer-length.result }) _ =
    record {
      outcome = outcome;
      number = ap shown_number outcome ∙ numbered _;
      long = put.next ∙ ap (λ (x : Answer). length (answer_text x)) is;
      held = put.held ∙ ap (λ (x : Answer). stored a.out.now 0 (answer_text x)) is ∙ stored-holding a.out.now (answer_text (exchange_read a.capture.now)) (omega (arith, room));
    } in
    record { shows = s; within = begun a.out.now _ _ s.long _ s.held }
