use Rattle.std.proofs.Common.{◌≡◌, ℕ, List, map}
use Rattle.bits.specs.Nibbles.{nibbles}
use Rattle.twine.specs.Twine.{RK, rounds}
use Rattle.twine.specs.Split.{round_keys}
use Rattle.twine_circuit.specs.Halves.{words, key_words}
use Rattle.twine_circuit.proofs.round.encrypted.Given as goal

abbrev pub invariant-loop-key : goal.invariant-loop-key
invariant-loop-key l =
    (key : List ℕ) → map (λ k. key_words k.lanes) l.keys ≡ round_keys key → words l.x ≡ rounds (RK (nibbles key)) (words l.initial.x) l.key-index
