use Rattle.std.proofs.Common.{◌≡◌, ℕ, List, ◌++◌, sym, ap, ◌∙◌, rules, append_assoc, append-nil}
use Rattle.std.proofs.Output.{has_written_append, has_written_of_eq}
use Rattle.std.proofs.lemmas.List.{nil_from_length}
use Rattle.std.proofs.lemmas.Str.{IsUtf8-from_ascii}
use Rattle.hex.specs.Hex.{encode_lower, lower_digits}
use Rattle.text.proofs.Encoded.{IsAscii-encode_lower, encode_none, encode_with_append, written}
use Rattle.text.proofs.digits.HexDisplay.fmt.Goals as goal

pub unreachable-requires-in_default : goal.unreachable-requires-in_default
unreachable-requires-in_default g c =
    let chunk = c.in-Some.chunk.now in
    let text = written chunk _ _ c.if-is_err.ensures.value c.encode_to_slice.ensures.written in
    c.in_default.ensures.cases.0 (rw text (IsUtf8-from_ascii (encode_lower chunk) (IsAscii-encode_lower chunk)))

pub loop-chunk-preserved : goal.loop-chunk-preserved
loop-chunk-preserved g c =
    let chunk = c.in-Some.chunk.now in
    let steps = c.in-Some.ensures.steps in
    let text = written chunk _ _ c.if-is_err.ensures.value c.encode_to_slice.ensures.written in
    let size = c.loop-chunk.invariant.2 in
    let shown : c.in-Ok.text.now ≡ encode_lower chunk = c.in-Ok.ensures.cases.0 ∙ text in (
      search rules,
      tt,
      steps.0 ∙ size,
      λ plain.
          let so_far = c.loop-chunk.invariant.3 plain in (
            so_far.0 ++ c.in-Ok.text.now,
            has_written_append _ _ _ _ _ _ so_far.1 (search rules),
            append_assoc so_far.0 _ _
                ∙ ap (λ (t : List ℕ). so_far.0 ++ t)
                (rw shown (sym (encode_with_append lower_digits chunk _) ∙ ap encode_lower (sym steps.1.0)))
                ∙ so_far.2,
          ),
    )

pub returns-clause-writes : goal.returns-clause-writes
returns-clause-writes g c = λ plain _.
    let so_far = c.loop-chunk.invariant.3 plain in
    let none = encode_none _ (nil_from_length _ c.in-None.ensures.steps.1.0) in
    has_written_of_eq _ _ _ _ _ (rw (none, append-nil) at so_far.2) so_far.1
