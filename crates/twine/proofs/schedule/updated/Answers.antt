use Rattle.std.proofs.Common.{rules}
use Rattle.twine.proofs.Keys.{update_is, update_small}
use Rattle.twine.proofs.schedule.updated.Goals as goal

pub invariant_of-result : goal.invariant_of-result
invariant_of-result g c =
    let wk = c.args.register.now in
    record {
      small = update_small wk.values c.args.constant c.substitute-s.result.value c.substitute-t.result.value wk.small c.requires c.substitute-s.result.small c.substitute-t.result.small;
    }

pub returns : goal.returns
returns g c =
    update_is c.args.register.now.values c.args.constant c.substitute-s.result.value c.substitute-t.result.value (search rules) c.substitute-s.ensures c.substitute-t.ensures
