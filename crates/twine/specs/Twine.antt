-- TWINE-80 of "TWINE: A Lightweight Block Cipher for Multiple Platforms" (SAC 2012). A state X is the list of its 4-bit words X_0 to
-- X_15, the key register WK that of WK_0 to WK_19, a round key RK that of RK_0 to RK_7; + between words is bitwise. Rounds count from 1.
use Rattle.std.specs.Prelude.{ℕ, zero, suc, ◌-◌, ◌*◌, ◌/◌, ◌%◌, cond, List, [], ◌∷◌, ◌++◌, map, take, drop, replicate, ◌==◌, bit_xor, nat_lt, slice_index, slice_set}
use Rattle.bits.specs.Nibbles.{each, nibbles, bytes}

-- the S-box
abbrev pub S : ℕ → ℕ
S x = slice_index (0xC ∷ 0x0 ∷ 0xF ∷ 0xA ∷ 0x2 ∷ 0xB ∷ 0x9 ∷ 0x5 ∷ 0x8 ∷ 0x3 ∷ 0xD ∷ 0x7 ∷ 0x1 ∷ 0xE ∷ 0x6 ∷ 0x4 ∷ []) x

-- the block shuffle
abbrev pub π : ℕ → ℕ
π h = slice_index (5 ∷ 0 ∷ 1 ∷ 4 ∷ 7 ∷ 12 ∷ 3 ∷ 8 ∷ 13 ∷ 6 ∷ 9 ∷ 2 ∷ 15 ∷ 10 ∷ 11 ∷ 14 ∷ []) h

-- the F-function: a word of the round key is added, then the S-box applied
abbrev pub F : ℕ → ℕ → ℕ
F k x = S (bit_xor x k)

-- for j = 0 to 7: X_2j+1 becomes F(X_2j, RK_j) + X_2j+1
abbrev pub substituted : List ℕ → List ℕ → List ℕ
substituted rk x =
    each 16 (λ h. cond (h % 2 == 0) (slice_index x h) (bit_xor (F (slice_index rk (h / 2)) (slice_index x (h - 1))) (slice_index x h)))

-- for h = 0 to 15: X_π(h) of the next state becomes X_h; here for the h below a bound
abbrev pub placed : List ℕ → ℕ → List ℕ
placed x zero = replicate 16 0
placed x (suc h) = slice_set (placed x h) (π h) (slice_index x h)

abbrev pub permuted : List ℕ → List ℕ
permuted x = placed x 16

-- the state after i rounds, RK i being the key of round i
unfoldable pub rounds : (ℕ → List ℕ) → List ℕ → ℕ → List ℕ
rounds RK x zero = x
rounds RK x (suc i) = permuted (substituted (RK (suc i)) (rounds RK x i))

-- encryption: 36 rounds, the last without the shuffle
unfoldable pub enc : (ℕ → List ℕ) → List ℕ → List ℕ
enc RK x = substituted (RK 36) (rounds RK x 35)

-- the powers of z in GF(2^6) with z^6 + z + 1
unfoldable pub power : ℕ → ℕ
power zero = 0x01
power (suc n) = let c = power n in cond (nat_lt c 0x20) (2 * c) (bit_xor (2 * c) 0x43)

-- the constant of round r: z^(r-1)
abbrev pub CON : ℕ → ℕ
CON zero = 0
CON (suc r) = power r

-- the words of the register that are the round key
abbrev pub round_key : List ℕ → List ℕ
round_key wk = map (λ i. slice_index wk i) (1 ∷ 3 ∷ 4 ∷ 6 ∷ 13 ∷ 14 ∷ 15 ∷ 16 ∷ [])

-- WK_i becomes WK_i + v
abbrev pub added : ℕ → ℕ → List ℕ → List ℕ
added i v wk = slice_set wk i (bit_xor (slice_index wk i) v)

-- Rot: words, cyclically shifted to the left by n of them
abbrev pub rot : ℕ → List ℕ → List ℕ
rot n xs = drop n xs ++ take n xs

-- the register's update with a constant of 3 high and 3 low bits
unfoldable pub update : ℕ → List ℕ → List ℕ
update con wk =
    let a = added 1 (S (slice_index wk 0)) wk in
    let b = added 4 (S (slice_index a 16)) a in
    let c = added 7 (con / 8) b in
    let d = added 19 (con % 8) c in
    rot 4 (rot 1 (take 4 d) ++ drop 4 d)

-- the register after r rounds, and the key of round r
unfoldable pub WK : List ℕ → ℕ → List ℕ
WK K zero = K
WK K (suc r) = update (CON (suc r)) (WK K r)

abbrev pub RK : List ℕ → ℕ → List ℕ
RK K zero = []
RK K (suc r) = round_key (WK K r)

-- E on blocks of 8 bytes under a key of 10
unfoldable pub twine80 : List ℕ → List ℕ → List ℕ
twine80 key block = bytes 8 (enc (RK (nibbles key)) (nibbles block))
