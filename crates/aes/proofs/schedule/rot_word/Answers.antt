use Rattle.std.proofs.Common.{◌≡◌, ◌*◌, ◌/◌, ◌%◌, ◌^◌, ap, ◌∙◌, arith}
use Rattle.std.specs.Int.Bits.{bit_or}
use Rattle.std.proofs.lemmas.Nat.{or_shifted}
use Rattle.aes.proofs.schedule.rot_word.Goals as goal

pub returns : goal.returns
returns c =
    let w = c.args.word in
    let front : w * 2 ^ 8 % 2 ^ 32 ≡ w % 2 ^ 24 * 2 ^ 8 = omega arith in
    c.rotate_left.ensures ∙ ap (λ t. bit_or t (w / 2 ^ 24)) front ∙ or_shifted (w % 2 ^ 24) 8 (w / 2 ^ 24) (omega arith) ∙ omega arith
