-- `frames::seal` meets its contract: ETX stored, all through it sent, and the BCC sent behind it. Assumes nothing.
use mathlib.Core.Path.{refl, sym}
use native.Mathlib.Omega.{arith}
use lib.ListN.{length-set}
use Rattle.frames.proofs.Closing.{through-etx, kept-long, sealing-stores}
use Rattle.frames.proofs.seal.Goals as goal

pub slice_bounds-send_summed-end : goal.slice_bounds-send_summed-end
slice_bounds-send_summed-end c = simp length-set (omega arith)

pub slice_bounds-send_summed-end-2 : goal.slice_bounds-send_summed-end-2
slice_bounds-send_summed-end-2 c = sym (through-etx c.args.buf.now c.args.n c.requires.1)

pub send_summed-sum-requires : goal.send_summed-sum-requires
send_summed-sum-requires c = omega (arith, through-etx c.args.buf.now c.args.n c.requires.1)

pub bounds-buf-last : goal.bounds-buf-last
bounds-buf-last c =
    omega (arith, kept-long c.args.buf.now c.args.n _ c.requires.1 c.send_summed-sum.ensures.held, c.requires.1)

pub shape_of-buf : goal.shape_of-buf
shape_of-buf c =
    simp length-set (kept-long c.args.buf.now c.args.n _ c.requires.1 c.send_summed-sum.ensures.held)

pub returns : goal.returns
returns c =
    let summed = c.send_summed-sum.ensures in
    record { whole = refl; held = sealing-stores c.args.buf.now c.args.n _ _ _ c.requires.0 c.requires.1 summed.sum summed.held c.wire.ensures }
