use Rattle.std.proofs.Common.{◌≡◌, ap, ◌∙◌, arith}
use Rattle.present.specs.Present.{pLayer}
use Rattle.present.specs.RoundKeys.{pLayers}
use Rattle.present.proofs.Permutation.{thrice}
use Rattle.present.proofs.schedule.moved_back.Goals as goal

pub returns-then-layers-eq1 : goal.returns-then-layers-eq1
returns-then-layers-eq1 c =
    let l : c.args.layers ≡ 1 = omega arith in
    ap (λ n. pLayers n c.p_layer.result) l ∙ ap pLayer (c.p_layer.ensures ∙ ap pLayer c.p_layer-once.ensures) ∙ thrice c.args.key (omega arith)

pub returns-else-layers-eq1 : goal.returns-else-layers-eq1
returns-else-layers-eq1 c =
    let l : c.args.layers ≡ 2 = omega arith in
    ap (λ n. pLayers n c.p_layer-else-layers-eq1.result) l ∙ ap (λ n. pLayer (pLayer n)) c.p_layer-else-layers-eq1.ensures ∙ thrice c.args.key (omega arith)
