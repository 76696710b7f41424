-- The state before the first step, and one step more.
use Rattle.std.proofs.Common.{◌≡◌, ℕ, ◌+◌, List, sym, refl, ap, add-one}
use Rattle.led.specs.Led.{step, steps, addRoundKey}

pub steps_none : (ks : ℕ) (SK : ℕ → List ℕ) (m : List ℕ) → m ≡ steps ks SK m 0
unfolding steps
steps_none ks SK m = refl

pub steps_more : (ks : ℕ) (SK : ℕ → List ℕ) (m : List ℕ) (n : ℕ) → step ks n (addRoundKey (SK n) (steps ks SK m n)) ≡ steps ks SK m (n + 1)
unfolding steps
steps_more ks SK m n = sym (ap (steps ks SK m) (add-one n))
