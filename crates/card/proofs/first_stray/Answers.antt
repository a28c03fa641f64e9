-- `card::first_stray` meets its contract: every column passed fits. Assumes nothing.
use Rattle.std.proofs.Common.{get_or, length, sym, ◌∙◌, arith, below_more}
use Rattle.card.proofs.Strays.{stray-part}
use Rattle.card.proofs.first_stray.Goals as goal

pub loop-j-init : goal.loop-j-init
loop-j-init g c = (c.first-part.ensures.result_value, λ column p i h. absurd (omega arith))

pub returns-then-not-fits : goal.returns-then-not-fits
returns-then-not-fits g c =
    let l = c.loop-j in
    λ column p.
    stray-part column c.args.width c.args.s.now c.first-part.result.now l.j l.invariant.0 (omega arith) (l.invariant.1 column p)
    (λ h. sym (p l.j (get_or c.first-part.result.now l.j 0) c.fits.result c.fits.ensures) ∙ c.if-not-fits.true)

pub loop-j-preserved : goal.loop-j-preserved
loop-j-preserved g c =
    let l = c.loop-j in (
      l.invariant.0,
      λ column p.
          below_more _ _ (l.invariant.1 column p) (sym (p l.j (get_or c.first-part.result.now l.j 0) c.fits.result c.fits.ensures) ∙ c.if-not-fits.false),
    )

pub returns : goal.returns
returns g c =
    let l = c.loop-j in
    λ column p.
    stray-part column c.args.width c.args.s.now c.first-part.result.now (length c.first-part.result.now) l.invariant.0 (omega arith)
    (λ i h. l.invariant.1 column p i (omega arith)) (λ h. absurd (omega arith))
