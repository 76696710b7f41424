use Rattle.std.proofs.Common.{ap, ◌∙◌}
use Rattle.led.specs.Led.{step, addRoundKey, in_turn}
use Rattle.led.proofs.Turns.{steps_more}
use Rattle.led.proofs.rounds.encrypted.Goals as goal

pub loop-i-preserved : goal.loop-i-preserved
loop-i-preserved g c =
    let cells = g.S.State.cells in
    let SK = in_turn (cells c.args.first) (cells c.args.second) in
    let i = c.loop-i.i in
    c.step-x.ensures
    ∙ ap (step 80 i) (c.plus.ensures ∙ ap (λ k. addRoundKey k (cells c.loop-i.x)) c.subkey.ensures ∙ ap (addRoundKey (SK i)) c.loop-i.invariant)
    ∙ steps_more 80 SK (cells c.args.block) i
