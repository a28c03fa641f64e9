-- `post::take_line` meets its contract: the flags passed took the line in, the others are as they were. Assumes nothing.
use Rattle.std.proofs.Common.{◌≡◌, drop, arith, length-set}
use Rattle.post.proofs.Windows.{took-none, took_more}
use Rattle.post.proofs.take_line.Goals as goal

pub loop-j-init : goal.loop-j-init
loop-j-init c = (omega arith, c.requires.5, took-none _ _)

pub column_fits-first-requires : goal.column_fits-first-requires
column_fits-first-requires c = (c.requires.0, c.requires.1, omega arith, omega arith)

pub column_fits-second-requires : goal.column_fits-second-requires
column_fits-second-requires c = (c.requires.0, c.requires.1, omega arith, omega arith)

pub column_fits-third-requires : goal.column_fits-third-requires
column_fits-third-requires c = (c.requires.2, c.requires.3, omega arith, omega arith)

pub loop-j-preserved : goal.loop-j-preserved
loop-j-preserved c = let l = c.loop-j in
    let a = c.args in
    let s = drop a.at a.text.now in
    (omega arith, simp length-set l.invariant.1, took_more s a.fits.now l.fits l.j _ _ _ (omega arith) l.invariant.2 c.column_fits-first.ensures c.column_fits-second.ensures c.column_fits-third.ensures)

pub returns : goal.returns
returns c =
    let l = c.loop-j in
    let e : l.j ≡ 16 = omega arith in
    rw e at l.invariant.2
