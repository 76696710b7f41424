use Rattle.std.proofs.Common.{◌+◌, ◌-◌, length, take, drop, ap, arith}
use Rattle.ledger.specs.Marks.{by_marks}
use Rattle.receiver.specs.Step.{verdict_at}
use Rattle.exchange.proofs.Cuts.{part_long, part_stands, part_rest}
use Rattle.exchange.proofs.Handed.{rest_handed, rest_refused}
use Rattle.exchange.proofs.Lines.{open_to}
use Rattle.exchange.proofs.receives.tried.Goals as goal

pub returns-in-Ok-clause-runs : goal.returns-in-Ok-clause-runs
returns-in-Ok-clause-runs g c =
    let h = c.in-Ok.ensures in
    let lr = part_long c.args.used c.args.room c.args.out.now c.requires in
    open_to _ _ _ _ _ _ _ _ _ _ _ _ lr
    (part_stands c.args.used _ c.in-Ok.pair.1.contents_len c.args.out.now c.open.new.out (omega (arith, c.requires)) (omega (arith, h.fits.1, c.open.auto.out, lr))) h.runs

pub returns-in-Ok-clause-rest : goal.returns-in-Ok-clause-rest
returns-in-Ok-clause-rest g c =
    let used = c.args.used in
    let out = c.args.out.now in
    let part = take (used + c.args.room - used) (drop used out) in
    let h = c.in-Ok.ensures in
    let a = c.in-Ok.pair.1 in
    let l = c.args.end in
    let lr = part_long used c.args.room out c.requires in
    part_rest used _ a.contents_len out c.open.new.out (omega (arith, c.requires)) (omega (arith, h.fits.1, c.open.auto.out, lr)) (omega (arith, h.fits.1, lr))
    (rest_handed (g.M.Mode.meaning c.args.mode.now) (g.met.M.Mode.lawful c.args.mode.now) (g.M.Allowance.remaining c.args.mode.now) l.set l.ledger.high (by_marks l.ledger.high l.ledger.marks) c.args.tube.now (length part) (length c.args.work.now) a part c.open.new.out h.did.answers h.did.written)

pub returns-in-Err-clause-rest : goal.returns-in-Err-clause-rest
returns-in-Err-clause-rest g c =
    let used = c.args.used in
    let out = c.args.out.now in
    let part = take (used + c.args.room - used) (drop used out) in
    let h = c.in-Err.ensures in
    part_rest used _ 0 out c.open.new.out (omega (arith, c.requires)) (omega arith) (omega arith)
    (ap (drop 0) (rest_refused (verdict_at (g.M.Mode.meaning c.args.mode.now) (g.M.Allowance.remaining c.args.mode.now) c.args.end c.args.tube.now (length part) (length c.args.work.now)) c.in-Err.pair.1 part c.open.new.out h.did.answers h.did.written))
