-- The bytes that stand at a span: so many from a place on.
use Rattle.std.specs.Prelude.{ℕ, List, take, drop}
use Rattle.tube.specs.declared.span.Span.{Span}

abbrev pub part : List ℕ → Span → List ℕ
part bytes s = take s.len (drop s.at bytes)
