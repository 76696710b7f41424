use Rattle.std.proofs.Common.{◌%◌, ap, ◌∙◌}
use Rattle.present.proofs.LayerBits.{nibble_is}
use Rattle.present.proofs.schedule.sbox.Goals as goal

pub returns-clause-is : goal.returns-clause-is
returns-clause-is c = ap (λ n. n % 16) c.s_box_layer.ensures ∙ nibble_is c.args.word c.requires
