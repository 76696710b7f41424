use Rattle.std.proofs.Common.{◌≡◌, ℕ, ◌+◌, ◌*◌, ◌%◌, ◌<◌, List, get_or, refl, ap, ◌∙◌}
use Rattle.bits.specs.Lanes.{planes}
use Rattle.bits.proofs.Everywhere.{everywhere}
use Rattle.twine.specs.Twine.{S}
use Rattle.twine_circuit.specs.SBoxCircuit.{circuit}
use Rattle.twine_circuit.proofs.round_key.LaneKeyRoundKey.substitute.Goals as goal

abbrev low : List ℕ → ℕ
low ys = get_or ys 0 0 % 2 + get_or ys 1 0 % 2 * 2 + get_or ys 2 0 % 2 * 4 + get_or ys 3 0 % 2 * 8

is : (x : ℕ) → x < 16 → low (circuit 0xffff_ffff (planes 1 x)) ≡ S x
unfolding circuit
is = everywhere 0 16 (λ x. low (circuit 0xffff_ffff (planes 1 x))) S refl

pub returns : goal.returns
returns c = ap low c.sboxes.ensures ∙ is c.args.word.value c.args.word.small
