-- `mercury::asking::request` meets its contract: four bytes and their CRC. Assumes nothing.
use mathlib.Core.Path.{◌≡◌}
use Prim.Native.Nat.{◌/◌, ◌%◌}
use native.Mathlib.Omega.{arith}
use Rattle.crc.specs.Crc.{with_crc}
use Rattle.mercury.specs.Asking.{request_of}
use Rattle.mercury.proofs.asking.request.Goals as goal

pub returns : goal.returns
unfolding request_of with_crc
returns c =
    let high : c.crc.result / 256 % 256 ≡ c.crc.result / 256 = omega arith in
    rw (c.to_le_bytes.ensures, high, c.crc.ensures)
