use Rattle.std.proofs.Common.{◌≡◌, ℕ, ◌%◌, cond, eqb, List, length, get_or, sym, ap, ◌∙◌, ap₂, arith, rules}
use Rattle.bits.specs.Nibbles.{each, nibbles}
use Rattle.bits.proofs.Listed.{listed}
use Rattle.twine_circuit.specs.Halves.{slot}
use Rattle.twine_circuit.proofs.Packing.{eight_small}
use Rattle.twine_circuit.proofs.halves.Halves.of_block.Goals as goal

pub invariant_of-packed : goal.invariant_of-packed
invariant_of-packed c = record { small = eight_small (omega arith) (omega arith) (omega arith) (omega arith) (omega arith) (omega arith) (omega arith) (omega arith) }

pub returns : goal.returns
unfolding nibbles
returns c =
    let e : length c.args.b ≡ 8 = search rules in
    ap₂ (λ (l r : List ℕ). each 16 (λ h. get_or (cond (eqb (h % 2) 0) l r) (slot h) 0)) c.packed.ensures c.packed-2.ensures ∙ sym (ap nibbles (listed 8 c.args.b e))
