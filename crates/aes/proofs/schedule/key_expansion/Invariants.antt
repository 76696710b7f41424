use Rattle.std.proofs.Common.{◌≡◌, ℕ, ◌+◌, ◌<◌, length, get_or, []}
use Rattle.aes.specs.Fips197.{KeyExpansion}
use Rattle.aes.specs.Rounds.{round_words}
use Rattle.aes.proofs.schedule.key_expansion.Given as goal

abbrev pub invariant-loop-round : goal.invariant-loop-round
invariant-loop-round g l = (length l.keys ≡ 11) × ((k : ℕ) → k < l.round + 1 → get_or l.keys k [] ≡ round_words (KeyExpansion l.key) k)
