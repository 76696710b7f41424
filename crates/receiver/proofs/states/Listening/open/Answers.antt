use Rattle.std.proofs.Common.{length, sym, ◌∙◌, subst}
use Rattle.receiver.specs.Run.{opened, Opens, GoesOn, event_of, state_of, listening}
use Rattle.receiver.specs.Step.{answered, Fits}
use Rattle.receiver.proofs.Whole.{keeps}
use Rattle.receiver.proofs.states.Listening.open.Goals as goal

pub returns : goal.returns
returns g c =
    let m = g.M.Mode.meaning c.args.mode.now in
    let left = g.M.Allowance.remaining c.args.mode.now in
    let rest = g.M.Allowance.remaining c.opened-answer.new.mode in
    let l = c.args.self in
    let tube = c.args.tube.now in
    let out = c.args.out.now in
    let work = c.args.work.now in
    let after = c.opened-answer.new.out in
    let r = c.moved.result in
    let d : Opens m left l tube out work r after c.opened-answer.new.work rest = record {
      answers = c.moved.ensures.0 ∙ c.opened-answer.ensures.answers;
      written = c.opened-answer.ensures.out;
      spends = c.opened-answer.ensures.left;
      wiped = c.opened-answer.ensures.work;
      kept = c.moved.ensures.1;
    } in
    let go : GoesOn m (listening l) left (event_of tube out work (answered r) after) (state_of r) rest =
    λ s floor start past p. opened past l left rest tube out work after c.opened-answer.new.work r p d in
    record {
      did = d;
      same = c.opened-answer.ensures.same;
      fits = subst (λ a. Fits (length tube) (length out) a) (sym c.moved.ensures.0) c.opened-answer.ensures.fits;
      runs = go;
      promise = keeps m (listening l) left (event_of tube out work (answered r) after) (state_of r) rest (g.met.M.Mode.lawful c.args.mode.now) go;
    }
