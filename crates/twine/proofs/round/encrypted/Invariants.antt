use Rattle.std.proofs.Common.{◌≡◌, ℕ, List, map}
use Rattle.bits.specs.Nibbles.{nibbles}
use Rattle.twine.specs.Twine.{RK, rounds}
use Rattle.twine.specs.Split.{split, key_words, round_keys}
use Rattle.twine.proofs.round.encrypted.Given as goal

abbrev pub invariant-loop-key : goal.invariant-loop-key
invariant-loop-key l =
    (key : List ℕ) → map (λ k. key_words k.bits) l.keys ≡ round_keys key → split l.x ≡ rounds (RK (nibbles key)) (split l.initial.x) l.key-index
