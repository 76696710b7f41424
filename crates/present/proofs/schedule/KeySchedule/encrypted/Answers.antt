use Rattle.std.proofs.Common.{◌≡◌, ap, ◌∙◌, length, arith, rules}
use Rattle.present.specs.Present.{encrypt}
use Rattle.present.specs.Block.{number, bytes, present80}
use Rattle.present.specs.Bytes.{number_eight, bytes_eight}
use Rattle.present.proofs.schedule.KeySchedule.encrypted.Goals as goal

pub returns : goal.returns
unfolding present80
returns c =
    λ key whole.
    let l : length c.args.block ≡ 8 = search rules in
    let n = number_eight c.args.block l in
    let s : c.from_be_bytes.result ≡ number c.args.block = omega (arith, c.from_be_bytes.ensures) in
    c.to_be_bytes.ensures ∙ bytes_eight c.encrypted_state.result ∙ ap (bytes 8) (c.encrypted_state.ensures key whole ∙ ap (encrypt (number key)) s)
