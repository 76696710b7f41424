use Rattle.std.proofs.Common.{ℕ, ◌*◌, ◌/◌, ◌%◌, ◌^◌, ap, ◌∙◌, arith}
use lib.Bits.{bit_and, bit_xor}
use Rattle.bits.specs.Linear.{value, exchange}
use Rattle.bits.specs.Moves.{swap}
use Rattle.led_circuit.proofs.Bytes.{stored_is}
use Rattle.led_circuit.proofs.planes.stored.Goals as goal

abbrev swapped : ℕ → ℕ
swapped y = bit_xor (bit_and y 0x0f0f_0f0f_0f0f_0f0f * 2 ^ 4 % 2 ^ 64) (bit_and (y / 2 ^ 4) 0x0f0f_0f0f_0f0f_0f0f)

pub returns : goal.returns
unfolding swap
returns c =
    c.to_le_bytes.ensures
    ∙ stored_is c.args.x (swapped c.delta_swap-y.result) (omega arith)
    (ap swapped (c.delta_swap-y.ensures ∙ ap (value 64 (exchange 3 0x0a0a_0a0a_0a0a_0a0a)) c.delta_swap.ensures))
