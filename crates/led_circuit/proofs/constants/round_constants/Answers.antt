use Rattle.std.proofs.Common.{ℕ, ◌+◌, ◌*◌, ◌/◌, ◌%◌, ◌^◌, [], refl, ap, ◌∙◌, arith}
use Rattle.std.proofs.lemmas.List.FromFn.{get_or-map-range_with_len}
use Rattle.bits.specs.Lanes.{lane}
use Rattle.bits.proofs.Everywhere.{everywhere}
use Rattle.led.specs.Led.{rc, constants}
use Rattle.led_circuit.specs.Planes.{cells}
use Rattle.led_circuit.proofs.constants.round_constants.Goals as goal

-- three bits, 4 places apart
abbrev apart : ℕ → ℕ
apart v = v % 2 + v / 2 % 2 * 2 ^ 4 + v / 4 * 2 ^ 8

abbrev placed : ℕ → ℕ
placed n = 0x0011_0010_0100_0101 + (apart (rc n / 8) * (2 ^ 1 + 2 ^ 33) + apart (rc n % 8) * (2 ^ 17 + 2 ^ 49))

pub returns : goal.returns
unfolding rc lane
returns c =
    let n = c.args.n % 48 in
    ap cells (get_or-map-range_with_len placed 0 48 n n 0 (omega arith) (omega arith))
    ∙ everywhere [] 48 (λ i. cells (placed i)) (constants 80) refl n (omega arith)
