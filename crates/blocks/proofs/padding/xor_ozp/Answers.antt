use Rattle.std.proofs.Common.{length, get_or, set, ap, ◌∙◌, arith}
use lib.Bits.{bit_xor}
use Rattle.blocks.proofs.Xors.{xor_ozp_short}
use Rattle.blocks.proofs.padding.xor_ozp.Goals as goal

pub returns-then-x-block : goal.returns-then-x-block
returns-then-x-block c =
    ap (λ Z. set Z (length c.args.x.now) (bit_xor (get_or Z (length c.args.x.now) 0) 128)) c.xor_into.ensures
    ∙ xor_ozp_short c.args.block.now c.args.x.now (omega arith)
