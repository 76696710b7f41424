use Rattle.std.proofs.Common.{get_or, set, sym, ap, ◌∙◌, arith}
use lib.Bits.{bit_xor}
use Rattle.blocks.proofs.Xors.{xor_none, xor_more, xor_cut}
use Rattle.blocks.proofs.padding.xor_into.Goals as goal

pub loop-i-init : goal.loop-i-init
loop-i-init c = sym (xor_none c.args.block.now)

pub loop-i-preserved : goal.loop-i-preserved
loop-i-preserved c =
    let X = c.args.x.now in
    ap (λ Z. set Z c.loop-i.i (bit_xor (get_or Z c.loop-i.i 0) (get_or X c.loop-i.i 0))) c.loop-i.invariant
    ∙ xor_more c.args.block.now X c.loop-i.i (omega arith) (omega arith)

pub returns : goal.returns
returns c = c.loop-i.invariant ∙ xor_cut c.loop-i.i c.args.block.now c.args.x.now (omega arith)
