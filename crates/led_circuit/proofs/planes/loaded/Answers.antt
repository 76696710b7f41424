use Rattle.std.proofs.Common.{◌≡◌, length, get_or, ap, ◌∙◌, rules}
use Rattle.bits.specs.Linear.{value, exchange}
use Rattle.bits.specs.Moves.{swap}
use Rattle.bits.specs.Nibbles.{each}
use Rattle.bits.proofs.Listed.{AllBelow}
use Rattle.led_circuit.proofs.Bytes.{loaded_is}
use Rattle.led_circuit.proofs.planes.loaded.Goals as goal

pub returns : goal.returns
unfolding swap
returns c =
    let e : length c.args.block ≡ 8 = search rules in
    let small : AllBelow 256 (each 8 (λ i. get_or c.args.block i 0)) =
    (search rules, (search rules, (search rules, (search rules, (search rules, (search rules, (search rules, (search rules, tt)))))))) in
    loaded_is c.args.block e small c.from_le_bytes-w.result c.from_le_bytes-w.ensures _
    (c.delta_swap-2.ensures ∙ ap (value 64 (exchange 6 0x00cc_00cc_00cc_00cc)) c.delta_swap.ensures)
