use Rattle.std.proofs.Common.{arith}
use Rattle.present.proofs.Permutation.{permuted}
use Rattle.present.proofs.layers.p_layer.Goals as goal

pub returns : goal.returns
returns c =
    permuted c.args.x c.delta_swap-a.result c.delta_swap-b.result c.delta_swap-c.result c.delta_swap.result (omega arith)
    c.delta_swap-a.ensures c.delta_swap-b.ensures c.delta_swap-c.ensures c.delta_swap.ensures
