use Rattle.std.proofs.Common.{◌≡◌, ◌-◌, length, take, drop, ap, ◌∙◌, arith, length-drop}
use Rattle.std.specs.Int.{bytes_high_first}
use Rattle.std.proofs.lemmas.List.{take_all}
use Rattle.blocks.specs.Blocks.{◌⊕◌}
use Rattle.blocks.proofs.Padded.{number_in}
use Rattle.blocks.proofs.padding.xor_length.Goals as goal

pub returns : goal.returns
returns c =
    let B = c.args.block.now in
    let n = length c.args.x.now in
    let k = c.min-n.result in
    let m = c.min-n.ensures in
    let at = length B - k in
    let y : take (8 - (8 - k)) (drop (8 - k) c.to_be_bytes-number.result) ≡ drop (8 - k) (bytes_high_first 8 n) =
    ap (λ Z. take (8 - (8 - k)) (drop (8 - k) Z)) c.to_be_bytes-number.ensures ∙ take_all (8 - (8 - k)) (drop (8 - k) (bytes_high_first 8 n)) (omega (arith, length-drop (8 - k) (bytes_high_first 8 n))) in
    number_in B c.xor_into.new.block n k (omega arith) m (c.xor_into.ensures ∙ ap (λ Z. take (length B - at) (drop at B) ⊕ Z) y)
