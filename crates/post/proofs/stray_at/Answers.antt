-- `post::stray_at` meets its contract: windows at 0, 16 and 20 hold a line. Assumes nothing.
use Rattle.std.proofs.Common.{drop, refl, arith, length-drop}
use Rattle.post.specs.Columns.{lowest, highest}
use Rattle.post.proofs.Strays.{first_of}
use Rattle.post.proofs.stray_at.Goals as goal

pub stray_in-requires : goal.stray_in-requires
unfolding lowest highest
stray_in-requires c = (refl, refl, refl, refl, omega arith, omega arith, omega arith, omega (arith, c.requires), omega arith)

pub returns : goal.returns
returns c = let a = c.args in
    let s = drop a.at a.text.now in
    first_of s 36 c.stray_in.result (omega arith) (rw (length-drop a.at a.text.now) (omega (arith, c.requires))) (λ h. absurd (omega arith)) c.stray_in.ensures
