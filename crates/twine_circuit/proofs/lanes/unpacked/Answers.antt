use Rattle.std.proofs.Common.{rules}
use Rattle.std.proofs.lemmas.List.FromFn.{fill_by_all}
use Rattle.bits.specs.Lanes.{lane}
use Rattle.twine_circuit.specs.Halves.{place}
use Rattle.twine_circuit.proofs.Packing.{brought}
use Rattle.twine_circuit.proofs.lanes.unpacked.Goals as goal

pub returns : goal.returns
returns c =
    let x = c.args.x in
    let m = c.from_fn.ensures.items in
    fill_by_all (lane place x) c.from_fn.result 8 0 m.long (λ i h. let z = m.at i 0 h in let b = brought x i in search rules)
