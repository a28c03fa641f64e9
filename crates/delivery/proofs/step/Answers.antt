-- `delivery::step` meets its contract: the byte's answer counts where it is 1. Assumes nothing.
use Rattle.std.proofs.Common.{◌≡◌, ℕ, ◌+◌, Bool, true, false, cond, eqb, ap, refl, ◌∙◌, arith}
use Rattle.std.specs.Int.{from_bool}
use Rattle.meter.specs.declared.Answer.{Answer}
use Rattle.delivery.specs.Acknowledged.{is_done}
use Rattle.delivery.proofs.Counting.{done-most}
use Rattle.delivery.proofs.step.Goals as goal

done-is : (number : ℕ) → from_bool (eqb number 1) ≡ is_done number
unfolding is_done
done-is number = as-number (eqb number 1)
  where
    as-number : (b : Bool) → from_bool b ≡ cond b 1 0
    as-number true = refl
    as-number false = refl

pub overflow_add-result : goal.overflow_add-result
overflow_add-result c = omega (arith, done-most c.give-answer.result.number, c.from.ensures, done-is c.give-answer.result.number)

pub returns : goal.returns
returns c =
    let f = c.args.f in
    let g = c.give-answer in
    record {
      acknowledged = ap (λ (d : ℕ). f.acknowledged + d) (c.from.ensures ∙ done-is g.result.number ∙ ap (λ (a : Answer). is_done a.number) g.ensures);
      next = ap (λ (a : Answer). a.next) g.ensures;
    }
