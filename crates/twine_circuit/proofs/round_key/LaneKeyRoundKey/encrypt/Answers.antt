use Rattle.std.proofs.Common.{ap, ◌∙◌}
use Rattle.bits.specs.Nibbles.{nibbles, bytes}
use Rattle.twine.specs.Twine.{RK, enc, twine80}
use Rattle.twine_circuit.proofs.round_key.LaneKeyRoundKey.encrypt.Goals as goal

pub returns : goal.returns
unfolding twine80
returns c =
    λ key scheduled.
    c.to_block.ensures ∙ ap (bytes 8) (c.encrypted.ensures key scheduled) ∙ ap (λ x. bytes 8 (enc (RK (nibbles key)) x)) c.of_block.ensures
