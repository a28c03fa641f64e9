-- `post::late_stray` meets its contract: the last window ends where the text does, and the one before it leaves no gap. Assumes nothing.
use Rattle.std.proofs.Common.{◌+◌, ◌-◌, ◌≤◌, length, refl, arith}
use Rattle.post.specs.Columns.{lowest, highest}
use Rattle.post.proofs.Strays.{first_of}
use Rattle.post.proofs.late_stray.Goals as goal

pub stray_in-requires : goal.stray_in-requires
unfolding lowest highest
stray_in-requires c = let p = c.requires in
    let n = length c.args.s.now - 16 in
    let h : n ≤ 20 = omega (arith, p.1) in (
      refl,
      refl,
      refl,
      refl,
      omega (arith, c.min.ensures),
      omega (arith, c.min.ensures),
      h,
      omega (arith, p.0),
      omega (arith, c.min.ensures),
    )

pub returns : goal.returns
returns c = let p = c.requires in
    let s = c.args.s.now in
    first_of s (length s - 16 + 16) c.stray_in.result (omega (arith, p.1)) (omega (arith, p.0)) (λ h. omega arith) c.stray_in.ensures
