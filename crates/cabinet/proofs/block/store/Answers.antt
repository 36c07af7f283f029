-- `store` writes the nine bytes.
use native.Mathlib.Omega.{arith}
use Prim.Native.Nat.{◌/◌, ◌%◌}
use mathlib.Core.Path.{◌≡◌, refl}
use Rattle.model.specs.Calls.Registers.{block_of}
use Rattle.cabinet.proofs.block.store.Goals as goal

pub returns : goal.returns
unfolding block_of
returns c =
    let high : c.args.r.left / 65_536 % 256 ≡ c.args.r.left / 65_536 = omega (arith, c.requires) in
    rw (c.to_le_bytes.ensures, high) refl
