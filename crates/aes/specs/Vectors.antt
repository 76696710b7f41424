-- Published values: FIPS 197 (appendices as numbered in the edition of 2001).
use Rattle.std.specs.Prelude.{◌≡◌, ℕ, ◌*◌, List, [], ◌∷◌, map, slice_index_or, refl}
use Rattle.std.specs.List.{range_with_len}
use Rattle.aes.specs.Field.{x_times, times, ◌•◌}
use Rattle.aes.specs.Sbox.{S}
use Rattle.aes.specs.Fips197.{rounds, Cipher, next, words, KeyExpansion, aes128}

-- 4.2: the examples of products
pub products : (0x57 • 0x83 ≡ 0xc1) × (0x57 • 0x13 ≡ 0xfe)
unfolding times x_times
products = (refl, refl)

-- 5.1.1: the example of a substitution
pub substitution : S 0x53 ≡ 0xed
unfolding S
substitution = refl

-- the key and the input of appendix B
abbrev pub key_b : List ℕ
key_b = 0x2b ∷ 0x7e ∷ 0x15 ∷ 0x16 ∷ 0x28 ∷ 0xae ∷ 0xd2 ∷ 0xa6 ∷ 0xab ∷ 0xf7 ∷ 0x15 ∷ 0x88 ∷ 0x09 ∷ 0xcf ∷ 0x4f ∷ 0x3c ∷ []

abbrev pub input_b : List ℕ
input_b = 0x32 ∷ 0x43 ∷ 0xf6 ∷ 0xa8 ∷ 0x88 ∷ 0x5a ∷ 0x30 ∷ 0x8d ∷ 0x31 ∷ 0x31 ∷ 0x98 ∷ 0xa2 ∷ 0xe0 ∷ 0x37 ∷ 0x07 ∷ 0x34 ∷ []

-- appendix A.1: the last word of the key expansion
pub A1 : slice_index_or (KeyExpansion key_b) 43 0 ≡ 0xb663_0ca6
unfolding S next words KeyExpansion
A1 = refl

-- appendix B: the output
pub B :
    aes128 key_b input_b ≡
    0x39 ∷ 0x25 ∷ 0x84 ∷ 0x1d ∷ 0x02 ∷ 0xdc ∷ 0x09 ∷ 0xfb ∷ 0xdc ∷ 0x11 ∷ 0x85 ∷ 0x97 ∷ 0x19 ∷ 0x6a ∷ 0x0b ∷ 0x32 ∷ []
unfolding x_times times S rounds Cipher next words KeyExpansion aes128
B = refl

-- appendix C.1: the key 00 01 .. 0f and the input 00 11 .. ff
pub C1 :
    aes128 (range_with_len 0 16) (map (λ i. 0x11 * i) (range_with_len 0 16)) ≡
    0x69 ∷ 0xc4 ∷ 0xe0 ∷ 0xd8 ∷ 0x6a ∷ 0x7b ∷ 0x04 ∷ 0x30 ∷ 0xd8 ∷ 0xcd ∷ 0xb7 ∷ 0x80 ∷ 0x70 ∷ 0xb4 ∷ 0xc5 ∷ 0x5a ∷ []
unfolding x_times times S rounds Cipher next words KeyExpansion aes128
C1 = refl
