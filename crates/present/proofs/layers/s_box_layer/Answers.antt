use Rattle.std.proofs.Common.{◌∙◌, lit<}
use Rattle.present.proofs.SBoxes.{behind, fit_1}
use Rattle.present.proofs.layers.s_box_layer.Goals as goal

pub returns : goal.returns
returns c = c.sboxes_apart.ensures ∙ behind 0 1 0x1111_1111_1111_1111 fit_1 (lit< tt) c.args.x
