-- `post::first_stray` meets its contract: every column passed fits. Assumes nothing.
use Rattle.std.proofs.Common.{◌≡◌, length, sym, refl, ◌∙◌, arith, below_more}
use Rattle.post.specs.Columns.{lowest, highest}
use Rattle.post.proofs.first_stray.Goals as goal

pub late_stray-requires : goal.late_stray-requires
late_stray-requires c = (c.if-s-ge16.true, c.requires)

pub returns-then-s-ge16 : goal.returns-then-s-ge16
returns-then-s-ge16 c = c.late_stray.ensures

pub loop-j-init : goal.loop-j-init
unfolding lowest highest
loop-j-init c = (refl, refl, c.requires, omega arith, λ i h. absurd (omega arith))

pub column_fits-requires : goal.column_fits-requires
column_fits-requires c = (c.loop-j.invariant.0, c.loop-j.invariant.1, omega arith, omega arith)

pub returns-then-not-column_fits : goal.returns-then-not-column_fits
returns-then-not-column_fits c =
    let l = c.loop-j in
    record {
      in-text = l.invariant.3;
      in-line = omega arith;
      before = l.invariant.4;
      stops = λ h k. sym c.column_fits.ensures ∙ c.if-not-column_fits.true;
    }

pub loop-j-preserved : goal.loop-j-preserved
loop-j-preserved c =
    let l = c.loop-j in
    (l.invariant.0, l.invariant.1, omega arith, omega arith, below_more _ _ l.invariant.4 (sym c.column_fits.ensures ∙ c.if-not-column_fits.false))

pub returns : goal.returns
returns c =
    let l = c.loop-j in
    let e : l.j ≡ length c.args.s.now = omega arith in
    record { in-text = omega arith; in-line = omega arith; before = λ j h. l.invariant.4 j (omega arith); stops = λ h k. absurd (omega arith) }
