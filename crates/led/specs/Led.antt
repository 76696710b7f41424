-- LED, as "The LED Block Cipher" (CHES 2011) defines it, and LED-80, as the CLOC and SILC v3 submission does. A state is the list of
-- its sixteen nibbles, row after row: the one of row r and column c stands at 4 r + c.
use Rattle.std.specs.Prelude.{ℕ, zero, suc, ◌+◌, ◌*◌, ◌/◌, ◌%◌, cond, List, [], ◌∷◌, ◌++◌, take, drop, replicate, ◌==◌, bit_xor, nat_lt, slice_index}
use Rattle.bits.specs.Nibbles.{each, nibbles, bytes}

-- the nibble of row r and column c, both counted modulo 4
abbrev pub at : List ℕ → ℕ → ℕ → ℕ
at m r c = slice_index m (4 * (r % 4) + c % 4)

-- the state that has f r c there
abbrev pub state : (ℕ → ℕ → ℕ) → List ℕ
state f = each 16 (λ i. f (i / 4) (i % 4))

-- the sum of two states: exclusive or
infixl 20 ◌⊕◌
abbrev pub ◌⊕◌ : List ℕ → List ℕ → List ℕ
m ⊕ k = each 16 (λ i. bit_xor (slice_index m i) (slice_index k i))

-- the six bits rc5 .. rc0 shifted by one to the left, with rc5 + rc4 + 1 as the new rc0
abbrev next : ℕ → ℕ
next c = 2 * c % 64 + (c / 32 + c / 16 + 1) % 2

-- rc of round n, counted from 0: the bits start as zeros, and are shifted before each round
unfoldable pub rc : ℕ → ℕ
rc zero = next 0
rc (suc n) = next (rc n)

-- the constants of round n, with ks, the size of the key in bits
abbrev pub constants : ℕ → ℕ → List ℕ
constants ks n =
    bit_xor 0 (ks / 16) ∷ rc n / 8 ∷ 0 ∷ 0 ∷
    bit_xor 1 (ks / 16) ∷ rc n % 8 ∷ 0 ∷ 0 ∷
    bit_xor 2 (ks % 16) ∷ rc n / 8 ∷ 0 ∷ 0 ∷
    bit_xor 3 (ks % 16) ∷ rc n % 8 ∷ 0 ∷ 0 ∷ []

-- the constants are added to the state
abbrev pub AddConstants : ℕ → ℕ → List ℕ → List ℕ
AddConstants ks n m = m ⊕ constants ks n

-- the S-box of PRESENT
abbrev pub S : ℕ → ℕ
S x = slice_index (0xC ∷ 0x5 ∷ 0x6 ∷ 0xB ∷ 0x9 ∷ 0x0 ∷ 0xA ∷ 0xD ∷ 0x3 ∷ 0xE ∷ 0xF ∷ 0x8 ∷ 0x4 ∷ 0x7 ∷ 0x1 ∷ 0x2 ∷ []) x

-- each nibble goes through the S-box
abbrev pub SubCells : List ℕ → List ℕ
SubCells m = state (λ r c. S (at m r c))

-- row r is rotated by r places to the left
abbrev pub ShiftRows : List ℕ → List ℕ
ShiftRows m = state (λ r c. at m r (c + r))

-- x times b in GF(2^4) with x^4 + x + 1
abbrev pub xtimes : ℕ → ℕ
xtimes b = cond (nat_lt b 8) (2 * b) (bit_xor (2 * b) 0x13)

-- the product there, by the n lowest bits of a
unfoldable pub times : ℕ → ℕ → ℕ → ℕ
times zero a b = 0
times (suc n) a b = bit_xor (cond (a % 2 == 1) b 0) (times n (a / 2) (xtimes b))

-- the product of two matrices over that field
infixl 20 ◌⊗◌
abbrev pub ◌⊗◌ : List ℕ → List ℕ → List ℕ
x ⊗ y =
    let term : ℕ → ℕ → ℕ → ℕ = λ r c k. times 4 (at x r k) (at y k c) in
    state (λ r c. bit_xor (bit_xor (bit_xor (term r c 0) (term r c 1)) (term r c 2)) (term r c 3))

-- the matrix that is applied serially, and M, its fourth power
abbrev pub A : List ℕ
A =
    0x0 ∷ 0x1 ∷ 0x0 ∷ 0x0 ∷
    0x0 ∷ 0x0 ∷ 0x1 ∷ 0x0 ∷
    0x0 ∷ 0x0 ∷ 0x0 ∷ 0x1 ∷
    0x4 ∷ 0x1 ∷ 0x2 ∷ 0x2 ∷ []

abbrev pub M : List ℕ
M =
    0x4 ∷ 0x1 ∷ 0x2 ∷ 0x2 ∷
    0x8 ∷ 0x6 ∷ 0x5 ∷ 0x6 ∷
    0xB ∷ 0xE ∷ 0xA ∷ 0x9 ∷
    0x2 ∷ 0x2 ∷ 0xF ∷ 0xB ∷ []

-- each column is multiplied by M
abbrev pub MixColumnsSerial : List ℕ → List ℕ
MixColumnsSerial m = M ⊗ m

-- round n
unfoldable pub round : ℕ → ℕ → List ℕ → List ℕ
round ks n m = MixColumnsSerial (ShiftRows (SubCells (AddConstants ks n m)))

-- step i, counted from 0: four rounds
unfoldable pub step : ℕ → ℕ → List ℕ → List ℕ
step ks i m = round ks (4 * i + 3) (round ks (4 * i + 2) (round ks (4 * i + 1) (round ks (4 * i) m)))

-- a subkey is added to the state
abbrev pub addRoundKey : List ℕ → List ℕ → List ℕ
addRoundKey k m = m ⊕ k

-- the state after n steps with the subkeys SK, each added before its step
unfoldable pub steps : ℕ → (ℕ → List ℕ) → List ℕ → ℕ → List ℕ
steps ks SK m zero = m
steps ks SK m (suc n) = step ks n (addRoundKey (SK n) (steps ks SK m n))

-- LED with s steps, and the last subkey after them
unfoldable pub led : ℕ → ℕ → (ℕ → List ℕ) → List ℕ → List ℕ
led s ks SK block = bytes 8 (addRoundKey (SK s) (steps ks SK (nibbles block) s))

-- the key of 80 bits is followed by 48 zero bits and split in two subkeys
abbrev pub K1 : List ℕ → List ℕ
K1 key = nibbles (take 8 key)

abbrev pub K2 : List ℕ → List ℕ
K2 key = nibbles (drop 8 key ++ replicate 6 0)

-- both in turn, K1 first
abbrev pub in_turn : List ℕ → List ℕ → ℕ → List ℕ
in_turn k1 k2 i = cond (i % 2 == 0) k1 k2

-- LED-80: twelve steps, so that K1 is the last subkey too. (LED's own subkeys for 80 bits are others, taken from the key cyclically.)
unfoldable pub led80 : List ℕ → List ℕ → List ℕ
led80 key block = led 12 80 (in_turn (K1 key) (K2 key)) block
