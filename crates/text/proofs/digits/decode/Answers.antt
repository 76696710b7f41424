use Rattle.std.proofs.Common.{◌≡◌, ℕ, List, ◌++◌, sym, ap, ◌∙◌, rules}
use Rattle.std.proofs.lemmas.List.{nil_from_length}
use Rattle.std.specs.Slice.Iter.{chunks_rest}
use Rattle.text.specs.Hex.{decoded}
use Rattle.text.proofs.Decoded.{all_read, err_by, even_part, part_read, part_refused, prepend, sized, sized_err, sized_ok, told, told_refused}
use Rattle.text.proofs.digits.decode.Goals as goal

pub returns-clause-ok : goal.returns-clause-ok
returns-clause-ok c =
    let none = nil_from_length _ c.in-None.ensures.steps.1.0 in
    all_read c.args.text.now _ _ none (search rules) c.loop-chunk.invariant.4

pub returns-in_err-decode_to_slice-clause-err : goal.returns-in_err-decode_to_slice-clause-err
returns-in_err-decode_to_slice-clause-err c =
    let chunk = c.in-Some.chunk.now in
    let steps = c.in-Some.ensures.steps in
    let size = c.loop-chunk.invariant.2 in
    let evens = even_part _ chunk _ steps.1.0 (rw size at steps.1.1) c.loop-chunk.invariant.3 in
    let refused = sized_err _ c.decode_to_slice.result c.decode_to_slice.new.out _ c.decode_to_slice.ensures.value c.in_err-decode_to_slice.was in
    let read = sym (sized chunk _ evens.0 (search rules)) ∙ refused in
    let part = part_refused _ chunk _ c.loop-chunk.bytes.items _ evens.0 steps.1.0 (ap decoded read) in
    err_by _ _ c.args.text.now c.from_residual-in_err-decode_to_slice.ensures.1
    (told_refused c.args.text.now _ (search rules) (sym c.loop-chunk.invariant.4 ∙ part))

pub loop-chunk-preserved : goal.loop-chunk-preserved
loop-chunk-preserved c =
    let chunk = c.in-Some.chunk.now in
    let steps = c.in-Some.ensures.steps in
    let size = c.loop-chunk.invariant.2 in
    let evens = even_part _ chunk _ steps.1.0 (rw size at steps.1.1) c.loop-chunk.invariant.3 in
    let passed = sized_ok _ c.decode_to_slice.result c.decode_to_slice.new.out _ c.decode_to_slice.ensures.value c.in_ok-decode_to_slice.was in
    let read = sym (sized chunk _ evens.0 (search rules)) ∙ passed in
    let joined : c.extend_from_slice.new.self.items ≡ c.loop-chunk.bytes.items ++ c.decode_to_slice.new.out = search rules in (
      search rules,
      tt,
      steps.0 ∙ size,
      evens.1,
      ap (λ (xs : List ℕ). prepend xs (told (chunks_rest c.next.new.self))) joined
          ∙ sym (part_read _ chunk _ c.loop-chunk.bytes.items _ evens.0 steps.1.0 (ap decoded read))
          ∙ c.loop-chunk.invariant.4,
    )
