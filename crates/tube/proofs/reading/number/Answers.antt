use Rattle.std.proofs.Common.{◌≡◌, ℕ, ◌+◌, ◌*◌, ◌^◌, ◌<◌, ◌≤◌, get_or, sym, ap, ◌∙◌, arith, pow-add}
use native.Mathlib.Nat.{pow-le-pow_right}
use Rattle.std.proofs.lemmas.List.Sums.{fold_more}
use Rattle.tube.proofs.reading.number.Goals as goal

-- eight bits more
eight : (i : ℕ) → 2 ^ (8 * (i + 1)) ≡ 2 ^ (8 * i) * 256
eight i = let e : 8 * (i + 1) ≡ 8 * i + 8 = omega arith in ap (λ x. 2 ^ x) e ∙ pow-add 2 (8 * i) 8

low : (i : ℕ) → i < 16 → 2 ^ (8 * i) ≤ 2 ^ 120
low i h = let l : 8 * i ≤ 120 = omega arith in let z : 0 < 2 = omega arith in pow-le-pow_right z l

pub overflow_mul-sum : goal.overflow_mul-sum
overflow_mul-sum c = omega (arith, c.loop-b.invariant.1, low c.loop-b.b-index (omega arith))

pub overflow_add-sum : goal.overflow_add-sum
overflow_add-sum c = omega (arith, c.loop-b.invariant.1, low c.loop-b.b-index (omega arith))

pub loop-b-preserved : goal.loop-b-preserved
loop-b-preserved c = (
  ap (λ x. x * 256 + get_or c.args.bytes.now c.loop-b.b-index 0) c.loop-b.invariant.0 ∙ sym (fold_more (λ a x. a * 256 + x) 0 c.args.bytes.now c.loop-b.b-index 0 c.loop-b-test.true),
  omega (arith, c.loop-b.invariant.1, eight c.loop-b.b-index),
)
