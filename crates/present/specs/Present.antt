-- PRESENT with a key of 80 bits, as "PRESENT: An Ultra-Lightweight Block Cipher" (CHES 2007) defines it. The state b63 .. b0 is a number
-- below 2 ^ 64 and the key register k79 .. k0 one below 2 ^ 80: bit zero is on the right.
use Rattle.std.specs.Prelude.{ℕ, zero, suc, ◌+◌, ◌-◌, ◌*◌, ◌/◌, ◌%◌, ◌^◌, List, [], ◌∷◌, bit_xor, slice_index}
use Rattle.bits.specs.Digits.{sum, bit, word}

-- addRoundKey: each bit b_j becomes b_j xor κ_j
abbrev pub addRoundKey : ℕ → ℕ → ℕ
addRoundKey state κ = bit_xor state κ

-- the S-box S[x], in hexadecimal notation
abbrev pub sbox : List ℕ
sbox = 0xC ∷ 0x5 ∷ 0x6 ∷ 0xB ∷ 0x9 ∷ 0x0 ∷ 0xA ∷ 0xD ∷ 0x3 ∷ 0xE ∷ 0xF ∷ 0x8 ∷ 0x4 ∷ 0x7 ∷ 0x1 ∷ 0x2 ∷ []

abbrev pub S : ℕ → ℕ
S x = slice_index sbox x

-- sBoxLayer: the state is sixteen 4-bit words w15 .. w0, and each w_i becomes S[w_i]
unfoldable pub sBoxLayer : ℕ → ℕ
sBoxLayer state = sum 16 (λ i. S (word state i) * 16 ^ i)

-- the bit permutation P(i)
abbrev pub positions : List ℕ
positions =
    0 ∷ 16 ∷ 32 ∷ 48 ∷ 1 ∷ 17 ∷ 33 ∷ 49 ∷ 2 ∷ 18 ∷ 34 ∷ 50 ∷ 3 ∷ 19 ∷ 35 ∷ 51 ∷
    4 ∷ 20 ∷ 36 ∷ 52 ∷ 5 ∷ 21 ∷ 37 ∷ 53 ∷ 6 ∷ 22 ∷ 38 ∷ 54 ∷ 7 ∷ 23 ∷ 39 ∷ 55 ∷
    8 ∷ 24 ∷ 40 ∷ 56 ∷ 9 ∷ 25 ∷ 41 ∷ 57 ∷ 10 ∷ 26 ∷ 42 ∷ 58 ∷ 11 ∷ 27 ∷ 43 ∷ 59 ∷
    12 ∷ 28 ∷ 44 ∷ 60 ∷ 13 ∷ 29 ∷ 45 ∷ 61 ∷ 14 ∷ 30 ∷ 46 ∷ 62 ∷ 15 ∷ 31 ∷ 47 ∷ 63 ∷ []

abbrev pub P : ℕ → ℕ
P i = slice_index positions i

-- pLayer: bit i of the state is moved to bit position P(i)
unfoldable pub pLayer : ℕ → ℕ
pLayer state = sum 64 (λ i. bit state i * 2 ^ P i)

-- the key schedule: the key register is updated in three steps
-- 1. it is rotated by 61 bit positions to the left: [k79 k78 .. k1 k0] = [k18 k17 .. k20 k19]
abbrev pub rotated : ℕ → ℕ
rotated k = k % 2 ^ 19 * 2 ^ 61 + k / 2 ^ 19

-- 2. the left-most four bits are passed through the S-box: [k79 k78 k77 k76] = S[k79 k78 k77 k76]
abbrev pub leftmost : ℕ → ℕ
leftmost k = S (k / 2 ^ 76) * 2 ^ 76 + k % 2 ^ 76

-- 3. the round counter is xored to the bits k19 k18 k17 k16 k15
abbrev pub counted : ℕ → ℕ → ℕ
counted i k = bit_xor k (i * 2 ^ 15)

abbrev pub updated : ℕ → ℕ → ℕ
updated i k = counted i (leftmost (rotated k))

-- the register after i updates
unfoldable pub register : ℕ → ℕ → ℕ
register key zero = key
register key (suc i) = updated (suc i) (register key i)

-- the round key K_i, 1 ≤ i ≤ 32: the 64 left-most bits k79 .. k16 of the register at round i
unfoldable pub round_key : ℕ → ℕ → ℕ
round_key key i = register key (i - 1) / 2 ^ 16

-- for i = 1 to 31: addRoundKey(state, K_i), sBoxLayer(state), pLayer(state)
abbrev pub round : ℕ → ℕ → ℕ
round state κ = pLayer (sBoxLayer (addRoundKey state κ))

unfoldable pub rounds : ℕ → ℕ → ℕ → ℕ
rounds key state zero = state
rounds key state (suc i) = round (rounds key state i) (round_key key (suc i))

-- and then addRoundKey(state, K_32)
unfoldable pub encrypt : ℕ → ℕ → ℕ
encrypt key state = addRoundKey (rounds key state 31) (round_key key 32)
