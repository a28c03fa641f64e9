-- A value that a test lets through is told as a choice by that test. Assumes nothing.
use mathlib.Core.Path.{◌≡◌, refl}
use mathlib.Core.Bool.{Bool, true, false, cond}
use Rattle.std.specs.Prelude.{Option}
use Rattle.std.specs.Bool.{then_some}
use Rattle.std.specs.Prelude.{Some, None}

pub let-through : {A B : Type 0} (found : Option A → B) (b : Bool) (x : A) → found (then_some b x) ≡ cond b (found (Some x)) (found None)
let-through found true x = refl
let-through found false x = refl
