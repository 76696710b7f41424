-- Two functions that agree at each number below n: by one computation, `refl`. `o` is any value of the type.
use Rattle.std.proofs.Common.{◌≡◌, ℕ, ◌<◌, map, get_or, sym, ap, ◌∙◌, arith}
use Rattle.std.specs.List.{range_with_len}
use Rattle.std.proofs.lemmas.List.FromFn.{get_or-map-range_with_len}

pub everywhere : {A : Type 0} (o : A) (n : ℕ) (f g : ℕ → A) → map f (range_with_len 0 n) ≡ map g (range_with_len 0 n) → (k : ℕ) → k < n → f k ≡ g k
everywhere o n f g e k h = sym (get_or-map-range_with_len f 0 n k k o h (omega arith)) ∙ ap (λ xs. get_or xs k o) e ∙ get_or-map-range_with_len g 0 n k k o h (omega arith)
