-- Delta swaps one after another, as data. w is the width of the word.
use Rattle.std.specs.Prelude.{ℕ, List, [], ◌∷◌}
use Rattle.bits.specs.Moves.{swap, from}

-- the bits under the mask m change places with those s places above them
pub data Swap : Type 0 where
  by : ℕ → ℕ → Swap

abbrev pub swaps : ℕ → List Swap → ℕ → ℕ
swaps w [] x = x
swaps w (by s m ∷ ss) x = swaps w ss (swap w s m x)

-- the place that the bit at q comes from
abbrev pub source : ℕ → List Swap → ℕ → ℕ
source w [] q = q
source w (by s m ∷ ss) q = from w s m (source w ss q)
