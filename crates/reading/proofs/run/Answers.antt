-- `reading::run` meets its contract: those passed, with those that lead what is left, are those that lead the whole. Assumes nothing.
use mathlib.Core.Path.{◌≡◌, refl, sym, ◌∙◌}
use mathlib.Core.Bool.{true, false}
use Prim.Native.Nat.{◌-◌, ◌<◌}
use native.Mathlib.Omega.{arith}
use lib.ListN.{length, length-drop}
use Rattle.reading.specs.Sets.{of_kind}
use Rattle.reading.proofs.Leading.{leading-turn, leading-stop, leading-all}
use Rattle.reading.proofs.run.Goals as goal

pub loop-i-init : goal.loop-i-init
loop-i-init c =
    let a = c.args in
    let pre = c.requires in
    (pre.from, omega arith, refl, omega arith, omega arith, pre.lead)

pub returns-then-not-of_kind : goal.returns-then-not-of_kind
returns-then-not-of_kind c =
    let a = c.args in
    let i = c.loop-i.i in
    let h : i < length a.s.now = omega arith in
    let no_kind : of_kind a.value _ ≡ false = sym c.of_kind.ensures ∙ c.if-not-of_kind.true in
    record {
      is = leading-stop (of_kind a.value) a.s.now a.at a.most i _ c.loop-i.invariant.0 c.loop-i.invariant.5 h no_kind;
      there = omega (arith, length-drop a.at a.s.now);
    }

pub loop-i-preserved : goal.loop-i-preserved
loop-i-preserved c =
    let a = c.args in
    let i = c.loop-i.i in
    let h : i < length a.s.now = omega arith in
    let m : i - a.at < a.most = omega arith in
    let of-kind : of_kind a.value _ ≡ true = sym c.of_kind.ensures ∙ c.if-not-of_kind.false in (
      omega arith,
      omega arith,
      refl,
      omega arith,
      omega arith,
      leading-turn (of_kind a.value) a.s.now a.at a.most i _ c.loop-i.invariant.0 c.loop-i.invariant.5 h m of-kind,
    )

pub returns : goal.returns
returns c =
    let a = c.args in
    let i = c.loop-i.i in
    let n = c.min-n.result in
    let e : i - a.at ≡ n = omega arith in
    let inv = c.loop-i.invariant in
    record {
      is = sym e ∙ leading-all (of_kind a.value) a.s.now a.at a.most i _ inv.0 inv.5 (omega (arith, e, c.min-n.ensures));
      there = omega (arith, length-drop a.at a.s.now);
    }
