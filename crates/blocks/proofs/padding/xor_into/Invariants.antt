use Rattle.std.proofs.Common.{◌≡◌, take}
use Rattle.blocks.specs.Blocks.{◌⊕◌}
use Rattle.blocks.proofs.padding.xor_into.Given as goal

abbrev pub invariant-loop-i : goal.invariant-loop-i
invariant-loop-i l = l.block ≡ l.initial.block ⊕ take l.i l.x
