use Rattle.std.proofs.Common.{◌≡◌, ◌*◌, ◌%◌, ◌^◌, sym, ap, ◌∙◌, ap₂, add-one, arith, rules}
use lib.Bits.{bit_xor}
use Rattle.twine_circuit.proofs.Packing.{first, packed_are}
use Rattle.twine_circuit.proofs.lanes.packed.Goals as goal

pub loop-i-preserved : goal.loop-i-preserved
loop-i-preserved c =
    let i = c.loop-i.i in
    ap₂ (λ x s. bit_xor x (s * 2 ^ i % 2 ^ 32)) c.loop-i.invariant c.spread.ensures ∙ ap (first c.args.words.values) (sym (add-one i))

pub returns : goal.returns
returns c =
    let n = c.args.words in
    let i : c.loop-i.i ≡ 8 = omega arith in
    packed_are n.values (search rules) n.small c.loop-i.x (c.loop-i.invariant ∙ ap (first n.values) i)
