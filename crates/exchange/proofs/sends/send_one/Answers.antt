use Rattle.std.proofs.Common.{◌≡◌, ◌+◌, ◌-◌, ◌≤◌, true, cond, [], length, take, drop, sym, ap, ◌∙◌, subst, arith}
use borrow.Rule.Slice.PartMut.{put_mid}
use Rattle.std.proofs.lemmas.Bool.{cond-true}
use Rattle.tube.specs.Put.{Laid}
use Rattle.sender.specs.Send.{send_verdict, send_answer, send_out, send_left, send_next}
use Rattle.exchange.specs.Sends.{lies, label_of, contents_of, verdict_to, outcome_of, said_of, tube_in, len_of, work_by}
use Rattle.exchange.proofs.Cuts.{part_long, front_long, front_back}
use Rattle.exchange.proofs.Orders.{laid_sent, sent_long, sent_room, work_called}
use Rattle.exchange.proofs.sends.send_one.Goals as goal

pub returns : goal.returns
returns g c =
    let m = g.S.Mode.meaning c.args.mode.now in
    let left = g.S.Allowance.remaining c.args.mode.now in
    let s = c.args.end.now.set in
    let k = c.args.end.now.next in
    let o = c.args.order in
    let bytes = c.args.bytes.now in
    let A = label_of bytes o in
    let M = contents_of bytes o in
    let used = c.args.used in
    let wire = c.args.wire.now in
    let work = c.args.work.now in
    let b = lies (length bytes) (length wire - used) (length work) o in
    let t : b ≡ true = sym c.order_lies.ensures.is ∙ c.if-not-order_lies.false in
    let h = c.order_lies.ensures.parts c.if-not-order_lies.false in
    let room : used + o.room ≤ length wire = omega (arith, h.2, c.requires) in
    let er : used + o.room - used ≡ o.room = omega arith in
    let part = take (used + o.room - used) (drop used wire) in
    let lw : length part ≡ o.room = part_long used o.room wire room in
    let lk : length (take (o.work - 0) work) ≡ o.work = front_long o.work work h.3 in
    let V = verdict_to m left s k bytes o in
    let A' = c.part-label.result.now in
    let M' = c.part-contents.result.now in
    let ev : send_verdict m left s k A' M' (length part) (length (take (o.work - 0) work)) ≡ V =
    ap (λ x. send_verdict m left s k x M' (length part) (length (take (o.work - 0) work))) c.part-label.ensures
    ∙ ap (λ x. send_verdict m left s k A x (length part) (length (take (o.work - 0) work))) c.part-contents.ensures
    ∙ ap (λ x. send_verdict m left s k A M x (length (take (o.work - 0) work))) lw ∙ ap (λ x. send_verdict m left s k A M o.room x) lk in
    let ecame : c.from.result ≡ outcome_of V = c.from.ensures ∙ ap said_of (c.send-answer.ensures.answers ∙ ap send_answer ev) in
    let etube : tube_in V ≡ cond b (tube_in V) [] = sym (cond-true b _ _ t) in
    let laid = laid_sent V used (used + o.room - used) wire c.send-answer.new.out (omega arith) (c.send-answer.ensures.out ∙ ap (λ v. send_out v part) ev) (c.send-answer.auto.out ∙ lw ∙ sym er) in
    record {
      came = ecame ∙ sym (cond-true b _ _ t);
      wire = subst (λ x. Laid used x wire (put_mid used (used + o.room - used) wire c.send-answer.new.out)) etube laid;
      left = c.send-answer.ensures.left ∙ ap (λ v. send_left v left) ev ∙ sym (cond-true b _ _ t);
      next = c.send-answer.ensures.next ∙ ap (λ v. send_next v k) ev ∙ sym (cond-true b _ _ t);
      long = ap len_of ecame ∙ sent_long m left s k A M o.room o.work (g.met.S.Mode.lawful c.args.mode.now) ∙ ap length etube;
      fits = let q : len_of c.from.result ≤ o.room = subst (λ x. x ≤ o.room) (sym (ap len_of ecame)) (sent_room m left s k A M o.room o.work) in omega arith;
      work = front_back o.work work c.send-answer.new.work c.send-answer.ensures.work ∙ work_called V o.work work ∙ ap (λ x. work_by x o.work work) (sym ecame);
      kept = c.send-answer.ensures.kept;
      same = c.send-answer.ensures.same;
    }
