use Rattle.std.proofs.Common.{◌≡◌, sym, refl, ◌∙◌, subst, arith}
use Rattle.ledger.specs.Marks.{bit}
use Rattle.ledger.proofs.Kept.{marked_top, marked_below, marked_tells, by_history, open_near, open_positive}
use Rattle.ledger.proofs.ledger.Ledger.enter.Goals as goal

pub invariant_of-result : goal.invariant_of-result
invariant_of-result c = record {
  order = (omega arith, omega arith);
  top = subst (λ m. bit m 0 ≡ 1) (sym c.marked.ensures) (marked_top c.args.self.high c.args.self.marks c.args.number c.args.self.top);
  below = λ i l b. subst (λ m. bit m i ≡ 1) (sym c.marked.ensures)
      (marked_below c.args.self.floor c.args.self.high c.args.self.marks c.args.number c.args.self.order.0 c.args.self.below i l (omega arith));
}

pub returns : goal.returns
returns c =
    let high = c.args.self.high in
    let marks = c.args.self.marks in
    let k = c.args.number in
    let near = open_near high marks k c.requires.1 in
    let pos = open_positive c.args.self.floor high marks k c.args.self.below c.requires.1 in
    record {
      may = c.requires;
      floor = refl;
      high = c.max.ensures;
      marks = c.marked.ensures;
      limit = refl;
      stood = λ f ks r. sym (by_history high marks f ks r k) ∙ c.requires.1;
      history = λ f ks r. simp (c.max.ensures, c.marked.ensures) (marked_tells high marks f k ks r pos near);
    }
