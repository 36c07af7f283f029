-- `load` reads the nine bytes.
use native.Mathlib.Omega.{arith}
use Prim.Native.Nat.{◌+◌, ◌*◌}
use mathlib.Core.Path.{◌≡◌, refl}
use lib.ListN.{get_or}
use Rattle.model.specs.Calls.Registers.{registers_of}
use Rattle.cabinet.proofs.block.load.Goals as goal

pub returns : goal.returns
unfolding registers_of
returns c =
    let b = c.args.block in
    let read = c.from_le_bytes in
    let left : read.result ≡ get_or b 4 0 + 256 * get_or b 5 0 + 65_536 * get_or b 6 0 = omega (arith, read.ensures) in
    rw left refl
