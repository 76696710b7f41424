-- The steps of a round as one.
use Rattle.std.proofs.Common.{◌≡◌, ℕ, List, ap, ◌∙◌}
use Rattle.aes.specs.Fips197.{MixColumns, ShiftRows, SubBytes}
use Rattle.aes.specs.Rounds.{plus, round, last_round}

pub round_of : (s b h m k r : List ℕ) → b ≡ SubBytes s → h ≡ ShiftRows b → m ≡ MixColumns h → r ≡ plus m k → r ≡ round k s
round_of s b h m k r eb eh em er = er ∙ ap (λ t. plus t k) (em ∙ ap MixColumns (eh ∙ ap ShiftRows eb))

pub last_of : (s b h k r : List ℕ) → b ≡ SubBytes s → h ≡ ShiftRows b → r ≡ plus h k → r ≡ last_round k s
last_of s b h k r eb eh er = er ∙ ap (λ t. plus t k) (eh ∙ ap ShiftRows eb)
