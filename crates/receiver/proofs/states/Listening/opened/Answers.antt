use Rattle.std.proofs.Common.{◌≡◌, length, IfOk, Err, sym, refl, ap, ◌∙◌, subst, rules}
use Rattle.std.proofs.lemmas.Result.{err_from_is_err_and}
use Rattle.ledger.specs.Marks.{by_marks}
use Rattle.receiver.specs.declared.answer.Opened.{Opened}
use Rattle.receiver.specs.Open.{answer_of, out_of, left_of}
use Rattle.receiver.specs.Step.{Due, Fits, verdict_at}
use Rattle.receiver.specs.Trace.{Ours}
use Rattle.receiver.proofs.Checks.{denied, open_undue, open_due}
use Rattle.receiver.proofs.Finish.{answered_of, may_due}
use Rattle.receiver.proofs.states.Listening.opened.Goals as goal

pub returns-in_err-read : goal.returns-in_err-read
returns-in_err-read g c =
    let m = g.M.Mode.meaning c.args.mode.now in
    let left = g.M.Allowance.remaining c.args.mode.now in
    let l = c.args.self.now in
    let high = l.ledger.high in
    let w : length c.args.work.now ≡ 64 = c.in_ok-check_work.ensures.admits in
    let a = c.in_ok-check_set.ensures.admits in
    let k : Ours m l.set = (a.0 ∙ c.code.ensures, a.1 ∙ c.width.ensures) in
    let p = err_from_is_err_and c.from_residual-in_err-read.result c.from_residual-in_err-read.ensures.1 in
    let e = open_undue m left l.set high (by_marks high l.ledger.marks) c.args.tube.now (length c.args.out.now) (length c.args.work.now) w k
    l.ledger.limit l.limit c.in_err-read.field-0.0 c.in_err-read.ensures.answers in
    let d = denied (verdict_at m left l c.args.tube.now (length c.args.out.now) (length c.args.work.now)) c.in_err-read.field-0.0 c.args.out.now left e.0 e.1 in
    record {
      answers = p.1 ∙ ap Err p.2 ∙ d.answers;
      out = d.stays;
      left = d.rests;
      work = search rules;
      same = refl;
      due = subst (λ r. IfOk r (λ (a : Opened). Due l.ledger a.number)) (sym p.1) tt;
      fits = subst (λ r. Fits (length c.args.tube.now) (length c.args.out.now) r) (sym p.1) tt;
    }

pub returns : goal.returns
returns g c =
    let m = g.M.Mode.meaning c.args.mode.now in
    let left = g.M.Allowance.remaining c.args.mode.now in
    let l = c.args.self.now in
    let high = l.ledger.high in
    let t = c.in_ok-read.read in
    let f = c.in_ok-read.ensures.admits in
    let w : length c.args.work.now ≡ 64 = c.in_ok-check_work.ensures.admits in
    let a = c.in_ok-check_set.ensures.admits in
    let k : Ours m l.set = (a.0 ∙ c.code.ensures, a.1 ∙ c.width.ensures) in
    let j = open_due m left l.set high (by_marks high l.ledger.marks) c.args.tube.now (length c.args.out.now) (length c.args.work.now) w k
    l.ledger.limit l.limit t c.in_ok-read.ensures.answers in
    record {
      answers = c.finish.ensures.answers ∙ ap answer_of j;
      out = c.finish.ensures.out ∙ ap (λ v. out_of v c.args.out.now) j;
      left = c.finish.ensures.left ∙ ap (λ v. left_of v left) j;
      work = search rules;
      same = c.finish.ensures.same;
      due = subst (λ r. IfOk r (λ (a : Opened). Due l.ledger a.number)) (sym c.finish.ensures.answers) (answered_of _ _ _ (λ a. Due l.ledger a.number) (may_due l.ledger t.number f.due));
      fits = c.finish.ensures.fits;
    }
