use Rattle.std.proofs.Common.{refl, arith}
use Rattle.ledger.proofs.Bit.{bit_ones}
use Rattle.ledger.proofs.ledger.Ledger.new.Goals as goal

pub invariant_of-result : goal.invariant_of-result
invariant_of-result c = record { order = (omega arith, omega arith); top = refl; below = λ i l h. bit_ones i l }
