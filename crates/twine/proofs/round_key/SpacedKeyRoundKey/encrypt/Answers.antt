use Rattle.std.proofs.Common.{◌≡◌, get_or, length, ap, ◌∙◌, arith, rules}
use Rattle.bits.specs.Nibbles.{each, nibbles, bytes}
use Rattle.bits.proofs.Listed.{AllBelow}
use Rattle.twine.specs.Twine.{RK, enc, twine80}
use Rattle.twine.proofs.States.{state_of, block_of}
use Rattle.twine.proofs.round_key.SpacedKeyRoundKey.encrypt.Goals as goal

pub returns : goal.returns
unfolding twine80
returns c =
    λ key scheduled.
    let block = c.args.block.now in
    let l : length block ≡ 8 = omega (arith, c.told-block) in
    let small : AllBelow 256 (each 8 (λ i. get_or block i 0)) = (search rules, (search rules, (search rules, (search rules, (search rules, (search rules, (search rules, (search rules, tt)))))))) in
    let s = state_of block l small c.from_be_bytes.result c.from_be_bytes.ensures in
    c.to_be_bytes.ensures ∙ block_of c.encrypted.result ∙ ap (bytes 8) (c.encrypted.ensures key scheduled) ∙ ap (λ x. bytes 8 (enc (RK (nibbles key)) x)) s
