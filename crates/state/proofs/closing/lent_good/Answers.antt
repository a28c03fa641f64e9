-- `state::closing::lent_good` meets its contract: the first places are as they have to be, and what is left of them says it of all. Assumes nothing.
use Rattle.std.proofs.Common.{◌≡◌, ◌<◌, true, false, length, sym, ◌∙◌, arith, rules, le-leb}
use Rattle.std.proofs.lemmas.Bool.{lt-leb}
use Rattle.state.specs.Sizes.{period_places}
use Rattle.state.proofs.Places.{place_kept, place-unused, places-start, places-turn, places-end}
use Rattle.state.proofs.closing.lent_good.Goals as goal

pub returns-then-count-gt-PLACES : goal.returns-then-count-gt-PLACES
returns-then-count-gt-PLACES c =
    let a = c.args.a.now in
    let long : length a.periods ≡ period_places = search rules in
    places-start c.args.family a false long (sym (lt-leb a.count period_places c.if-count-gt-PLACES.true))

pub loop-i-init : goal.loop-i-init
loop-i-init c =
    let a = c.args.a.now in
    let long : length a.periods ≡ period_places = search rules in
    (long, places-start c.args.family a true long (sym (le-leb a.count period_places (omega arith))))

pub returns-then-not-is_kept : goal.returns-then-not-is_kept
returns-then-not-is_kept c =
    let a = c.args.a.now in
    let l = c.loop-i in
    let inside : l.i < length a.periods = omega (arith, l.invariant.0, c.if-count-gt-PLACES.false, c.loop-i-test.true) in
    let lost = sym c.if-not-is_kept.true ∙ c.is_kept.ensures in
    places-turn c.args.family a.count a.periods l.i true _ _ false inside
    (place_kept c.args.family a.count l.i _ false _ _ c.loop-i-test.true c.counter_end-end.ensures.value c.export_end-out.ensures.value lost) l.invariant.1

pub loop-i-preserved : goal.loop-i-preserved
loop-i-preserved c =
    let a = c.args.a.now in
    let l = c.loop-i in
    let inside : l.i < length a.periods = omega (arith, l.invariant.0, c.if-count-gt-PLACES.false, c.loop-i-test.true) in
    let kept = sym c.if-not-is_kept.false ∙ c.is_kept.ensures in (
      l.invariant.0,
      places-turn c.args.family a.count a.periods l.i true _ _ true inside
          (place_kept c.args.family a.count l.i _ true _ _ c.loop-i-test.true c.counter_end-end.ensures.value c.export_end-out.ensures.value kept) l.invariant.1,
    )

pub returns-then-not-is_unused : goal.returns-then-not-is_unused
returns-then-not-is_unused c =
    let a = c.args.a.now in
    let l = c.loop-i-2 in
    let inside : l.i < length a.periods = omega (arith, l.invariant.0, c.loop-i-2-test.true) in
    places-turn c.args.family a.count a.periods l.i true _ _ false inside
    (place-unused c.args.family a.count l.i _ false l.auto.i (sym c.if-not-is_unused.true ∙ c.is_unused.ensures)) l.invariant.1

pub loop-i-2-preserved : goal.loop-i-2-preserved
loop-i-2-preserved c =
    let a = c.args.a.now in
    let l = c.loop-i-2 in
    let inside : l.i < length a.periods = omega (arith, l.invariant.0, c.loop-i-2-test.true) in (
      l.invariant.0,
      places-turn c.args.family a.count a.periods l.i true _ _ true inside
          (place-unused c.args.family a.count l.i _ true l.auto.i (sym c.if-not-is_unused.false ∙ c.is_unused.ensures)) l.invariant.1,
    )

pub returns : goal.returns
returns c =
    let a = c.args.a.now in
    let l = c.loop-i-2 in
    places-end c.args.family a.count a.periods l.i true _ (omega (arith, l.invariant.0, c.loop-i-2-test.false)) l.invariant.1
