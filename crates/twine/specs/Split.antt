-- The words that the code keeps: a state in 64 bits, its nibble X_0 leftmost, and a round key at the even places of 64 bits.
use Rattle.std.specs.Prelude.{◌≡◌, ℕ, suc, ◌+◌, ◌-◌, ◌*◌, ◌/◌, ◌%◌, ◌<◌, List, map, replicate, bit_xor, slice_index}
use Rattle.std.specs.List.{range_with_len}
use Rattle.bits.specs.Digits.{word}
use Rattle.bits.specs.Nibbles.{each, nibbles}
use Rattle.twine.specs.Twine.{S, RK}

-- the sixteen nibbles of 64 bits
abbrev pub split : ℕ → List ℕ
split x = each 16 (λ i. word x (15 - i))

-- of sixteen nibbles, those at the even places and those at the odd ones
abbrev pub evens : List ℕ → List ℕ
evens x = each 8 (λ j. slice_index x (2 * j))

abbrev pub odds : List ℕ → List ℕ
odds x = each 8 (λ j. slice_index x (2 * j + 1))

-- 64 bits with zeros at the odd places
abbrev pub OddZero : ℕ → Type 0
OddZero k = odds (split k) ≡ replicate 8 0

-- the words of a round key in 64 bits, each of them followed by a zero
abbrev pub key_words : ℕ → List ℕ
key_words k = evens (split k)

-- the 36 round keys of a key, that of round 1 first
unfoldable pub round_keys : List ℕ → List (List ℕ)
round_keys key = map (λ i. RK (nibbles key) (suc i)) (range_with_len 0 36)

-- S of the left nibble of a byte, added to the right one
unfoldable pub mixed : ℕ → ℕ
mixed b = bit_xor (S (b / 16)) (b % 16)

-- a list of 4-bit words
abbrev pub Nibbles : List ℕ → Type 0
Nibbles xs = (i : ℕ) → slice_index xs i < 16
