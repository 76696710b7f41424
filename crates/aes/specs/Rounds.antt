-- The round keys and the rounds as the code takes them: a round key is four words, and a round adds the state whose columns they are.
use Rattle.std.specs.Prelude.{ℕ, ◌+◌, ◌*◌, List, map, slice_index}
use Rattle.std.specs.List.{range_with_len}
use Rattle.aes.specs.Field.{◌⊕◌}
use Rattle.aes.specs.Fips197.{at, state, state_of, key_word, SubBytes, ShiftRows, MixColumns}

-- the words w[4 round] to w[4 round + 3], and those of each of the eleven rounds
abbrev pub round_words : List ℕ → ℕ → List ℕ
round_words w round = map (λ c. slice_index w (4 * round + c)) (range_with_len 0 4)

unfoldable pub round_keys : List ℕ → List (List ℕ)
round_keys w = map (round_words w) (range_with_len 0 11)

-- the state that AddRoundKey adds in a round, and that of each of the eleven
abbrev pub round_key : List ℕ → ℕ → List ℕ
round_key w round = state_of (round_words w round)

unfoldable pub key_states : List ℕ → List (List ℕ)
key_states w = map (round_key w) (range_with_len 0 11)

-- the four words of sixteen bytes
abbrev pub columns_of : List ℕ → List ℕ
columns_of bytes = map (key_word bytes) (range_with_len 0 4)

-- the sum of two states
abbrev pub plus : List ℕ → List ℕ → List ℕ
plus s t = state (λ r c. at s r c ⊕ at t r c)

-- a state after a round and after the last round, whose round key is k
abbrev pub round : List ℕ → List ℕ → List ℕ
round k s = plus (MixColumns (ShiftRows (SubBytes s))) k

abbrev pub last_round : List ℕ → List ℕ → List ℕ
last_round k s = plus (ShiftRows (SubBytes s)) k
