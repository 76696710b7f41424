-- FIPS 197, section 5, for AES-128: Nk = 4 words of key, Nr = 10 rounds. A state is the list of its sixteen bytes, column after
-- column: s[r, c] stands at r + 4 c. A word is a number of 32 bits; its byte 0 is the most significant.
use Rattle.std.specs.Prelude.{ℕ, zero, suc, ◌+◌, ◌-◌, ◌*◌, ◌/◌, ◌%◌, ◌^◌, cond, List, [], ◌∷◌, ◌++◌, map, ◌==◌, slice_index, slice_index_or}
use Rattle.std.specs.List.{range_with_len}
use Rattle.aes.specs.Field.{◌⊕◌, ◌•◌}
use Rattle.aes.specs.Sbox.{S}

-- byte r of a word, and the word of four bytes
abbrev pub byte : ℕ → ℕ → ℕ
byte w r = w / 256 ^ (3 - r) % 256

abbrev pub pack : ℕ → ℕ → ℕ → ℕ → ℕ
pack a b c d = a * 2 ^ 24 + b * 2 ^ 16 + c * 2 ^ 8 + d

-- s[r, c], with r and c taken modulo 4, and the state that has f r c there
abbrev pub at : List ℕ → ℕ → ℕ → ℕ
at s r c = slice_index s (r % 4 + 4 * (c % 4))

abbrev pub state : (ℕ → ℕ → ℕ) → List ℕ
state f = map (λ i. f (i % 4) (i / 4)) (range_with_len 0 16)

-- the state whose columns are four words
abbrev pub state_of : List ℕ → List ℕ
state_of columns = state (λ r c. byte (slice_index columns c) r)

-- 5.1.1: the S-box at each byte
abbrev pub SubBytes : List ℕ → List ℕ
SubBytes s = state (λ r c. S (at s r c))

-- 5.1.2: row r turned left by r places
abbrev pub ShiftRows : List ℕ → List ℕ
ShiftRows s = state (λ r c. at s r (c + r))

-- 5.1.3: row r of the column s0, s1, s2, s3 after MixColumns
abbrev pub mixed : ℕ → ℕ → ℕ → ℕ → ℕ → ℕ
mixed s0 s1 s2 s3 r =
    slice_index_or
    ((0x02 • s0 ⊕ 0x03 • s1 ⊕ s2 ⊕ s3) ∷
    (s0 ⊕ 0x02 • s1 ⊕ 0x03 • s2 ⊕ s3) ∷
    (s0 ⊕ s1 ⊕ 0x02 • s2 ⊕ 0x03 • s3) ∷
    (0x03 • s0 ⊕ s1 ⊕ s2 ⊕ 0x02 • s3) ∷ []) r 0

abbrev pub MixColumns : List ℕ → List ℕ
MixColumns s = state (λ r c. mixed (at s 0 c) (at s 1 c) (at s 2 c) (at s 3 c) r)

-- 5.1.4: the words w[4 round] to w[4 round + 3] added to the columns
abbrev pub AddRoundKey : List ℕ → ℕ → List ℕ → List ℕ
AddRoundKey w round s = state (λ r c. at s r c ⊕ byte (slice_index w (4 * round + c)) r)

-- 5.1: the state after the first key and n equal rounds
unfoldable pub rounds : List ℕ → List ℕ → ℕ → List ℕ
rounds w s zero = AddRoundKey w 0 s
rounds w s (suc n) = AddRoundKey w (suc n) (MixColumns (ShiftRows (SubBytes (rounds w s n))))

-- 5.1: nine equal rounds, and a last one that mixes no columns
unfoldable pub Cipher : List ℕ → List ℕ → List ℕ
Cipher w s = AddRoundKey w 10 (ShiftRows (SubBytes (rounds w s 9)))

-- 5.2: the bytes of a word turned left by one place, and the S-box at each byte of a word
abbrev pub RotWord : ℕ → ℕ
RotWord w = pack (byte w 1) (byte w 2) (byte w 3) (byte w 0)

abbrev pub SubWord : ℕ → ℕ
SubWord w = pack (S (byte w 0)) (S (byte w 1)) (S (byte w 2)) (S (byte w 3))

-- 5.2: the round constants, of which Rcon[j] is the word of the bytes x^(j - 1), 0, 0, 0
abbrev pub Rcon : ℕ → ℕ
Rcon j = slice_index (0x01 ∷ 0x02 ∷ 0x04 ∷ 0x08 ∷ 0x10 ∷ 0x20 ∷ 0x40 ∷ 0x80 ∷ 0x1b ∷ 0x36 ∷ []) (j - 1) * 2 ^ 24

-- 5.2: temp of the step i, of w[i - 1], and w[i], of the words before it
abbrev pub temp : ℕ → ℕ → ℕ
temp i before = cond (i % 4 == 0) (SubWord (RotWord before) ⊕ Rcon (i / 4)) before

unfoldable pub next : ℕ → List ℕ → ℕ
next i w = slice_index_or w (i - 4) 0 ⊕ temp i (slice_index w (i - 1))

-- 5.2: w[c] for c < 4, the key's own words
abbrev pub key_word : List ℕ → ℕ → ℕ
key_word key c = pack (slice_index key (4 * c)) (slice_index key (4 * c + 1)) (slice_index key (4 * c + 2)) (slice_index key (4 * c + 3))

-- 5.2: the words w[0] to w[n + 3]
unfoldable pub words : List ℕ → ℕ → List ℕ
words key zero = map (key_word key) (range_with_len 0 4)
words key (suc n) = words key n ++ next (n + 4) (words key n) ∷ []

unfoldable pub KeyExpansion : List ℕ → List ℕ
KeyExpansion key = words key 40

-- AES-128 of a key of 16 bytes, at a block of 16 bytes
unfoldable pub aes128 : List ℕ → List ℕ → List ℕ
aes128 key block = Cipher (KeyExpansion key) block
