use Rattle.std.proofs.Common.{◌∙◌}
use Rattle.led.proofs.Xors.{columns_eq}
use Rattle.led.proofs.Matrix.{mixed_is, onward_is}
use Rattle.led.proofs.columns.ColumnsState.mixed.Goals as goal

pub returns : goal.returns
returns c =
    let a = c.args.self.a in let b = c.args.self.b in let d = c.args.self.d in let e = c.args.self.c in
    let S = c.crossed-s.ensures in let T = c.crossed-t.ensures in let U = c.crossed-u.ensures in let V = c.crossed-v.ensures in
    columns_eq
    (onward_is _ c.crossed-s.result c.crossed-u.result a b e d c.column.ensures S.0 S.1 U.2 U.3)
    (onward_is _ c.crossed-t.result c.crossed-v.result b e d a c.column-2.ensures T.0 T.1 V.2 V.3)
    (onward_is _ c.crossed-u.result c.crossed-s.result e d a b c.column-3.ensures U.0 U.1 S.2 S.3)
    (onward_is _ c.crossed-v.result c.crossed-t.result d a b e c.column-4.ensures V.0 V.1 T.2 T.3)
    ∙ mixed_is a b e d
