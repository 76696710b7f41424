use Rattle.std.proofs.Common.{◌≡◌, ℕ, ◌<◌, length, get_or}
use Rattle.aes.specs.Fips197.{key_word}
use Rattle.aes.proofs.rounds.columns_of.Given as goal

abbrev pub invariant-loop-c : goal.invariant-loop-c
invariant-loop-c l = (length l.columns ≡ 4) × ((k : ℕ) → k < l.c → get_or l.columns k 0 ≡ key_word l.bytes k)
