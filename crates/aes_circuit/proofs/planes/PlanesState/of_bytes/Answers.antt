use Rattle.std.proofs.Common.{◌≡◌, arith}
use Rattle.aes_circuit.proofs.PlaneBytes.{number, in_is}
use Rattle.aes_circuit.proofs.planes.PlanesState.of_bytes.Goals as goal

pub returns : goal.returns
returns c =
    let n : c.from_le_bytes.result ≡ number c.args.block.now = omega (arith, c.from_le_bytes.ensures) in
    in_is c.args.block.now c.from_le_bytes.result c.into_planes-x.result c.told-block (c.fits-block) n c.into_planes-x.ensures
