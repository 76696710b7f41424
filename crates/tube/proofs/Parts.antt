-- The bytes at a span.
use Rattle.std.proofs.Common.{◌≡◌, ℕ, ◌+◌, ◌≤◌, List, length, drop, arith, length-drop}
use Rattle.std.proofs.lemmas.List.{length-take-le}
use Rattle.tube.specs.declared.span.Span.{Span}
use Rattle.tube.specs.Part.{part}

pub length_part : (bytes : List ℕ) (s : Span) → s.at + s.len ≤ length bytes → length (part bytes s) ≡ s.len
length_part bytes s h = length-take-le s.len (drop s.at bytes) (omega (arith, length-drop s.at bytes))
