-- `showing::show_first` meets its contract: the line of what the lookup points at, or the refusal. Assumes nothing.
use mathlib.Core.Path.{refl, ap}
use native.Mathlib.Omega.{arith}
use Rattle.finding.specs.Finding.{Lookup}
use Rattle.showing.proofs.Replies.{refusal-shows}
use Rattle.showing.proofs.First.{miss-shown, hit-inside, hit-shows}
use Rattle.showing.proofs.show_first.Goals as goal

pub put_set-requires : goal.put_set-requires
put_set-requires c =
    let a = c.args in
    let inside = hit-inside a.sets.now a.address.now _ c.in-Ok.ensures refl in
    (inside, omega (arith, inside, c.requires))

pub returns-in-Ok-clause-shows : goal.returns-in-Ok-clause-shows
returns-in-Ok-clause-shows c =
    let a = c.args in
    let line = c.put_set.ensures in
    hit-shows a.sets.now a.address.now _ c.in-Ok.ensures refl a.out.now c.requires _ line.next _ line.held

pub returns-in-Err-Malformed-clause-shows : goal.returns-in-Err-Malformed-clause-shows
returns-in-Err-Malformed-clause-shows c =
    let a = c.args in
    let said = c.refuse.ensures in
    rw (miss-shown a.sets.now a.address.now _ (rw c.in-Err-Malformed.field-0-is at c.in-Err-Malformed.ensures) (λ k. omega (arith, k)))
    (refusal-shows a.out.now 25 c.in-Err-Malformed.place _ _ (omega (arith, c.requires)) said.value said.held)

pub returns-in-Err-Missing-clause-shows : goal.returns-in-Err-Missing-clause-shows
returns-in-Err-Missing-clause-shows c =
    let a = c.args in
    let said = c.refuse-in-Err-Missing.ensures in
    rw (miss-shown a.sets.now a.address.now _ (rw c.in-Err-Missing.field-0-is at c.in-Err-Missing.ensures) (λ k. omega (arith, k)))
    (refusal-shows a.out.now 27 0 _ _ (omega (arith, c.requires)) said.value said.held)

pub returns-in-Err-Malformed-clause-placed : goal.returns-in-Err-Malformed-clause-placed
returns-in-Err-Malformed-clause-placed c =
    rw c.refuse.ensures.refused (ap (λ (l : Lookup). l.place) (rw c.in-Err-Malformed.field-0-is at c.in-Err-Malformed.ensures))

pub returns-in-Err-Missing-clause-placed : goal.returns-in-Err-Missing-clause-placed
returns-in-Err-Missing-clause-placed c =
    rw c.refuse-in-Err-Missing.ensures.refused (ap (λ (l : Lookup). l.place) (rw c.in-Err-Missing.field-0-is at c.in-Err-Missing.ensures))
