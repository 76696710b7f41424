-- Byte strings and their blocks, in the notation of the CLOC and SILC v3 submission. Lengths are in bytes, b is the block length.
use Rattle.std.specs.Prelude.{ℕ, zero, suc, ◌+◌, ◌-◌, ◌/◌, Bool, false, List, [], ◌∷◌, ◌++◌, length, take, drop, bit_xor, nat_le}

abbrev pub Bytes : Type 0
Bytes = List ℕ

-- X ⊕ Y: exclusive or. It has the length of X: what Y has beyond that is cut off, as by msb, and where Y ends X stays.
infixl 55 ◌⊕◌
abbrev pub ◌⊕◌ : Bytes → Bytes → Bytes
[] ⊕ Y = []
(x ∷ X) ⊕ [] = x ∷ X
(x ∷ X) ⊕ (y ∷ Y) = bit_xor x y ∷ (X ⊕ Y)

-- msb_n(X): the leftmost n bytes of X
abbrev pub msb : ℕ → Bytes → Bytes
msb n X = take n X

-- msb_1(X) = 1: the first bit of X is set
abbrev pub msb1 : Bytes → Bool
msb1 [] = false
msb1 (x ∷ X) = nat_le 0x80 x

-- ⌈n / b⌉: how many blocks n bytes have
abbrev pub parts : ℕ → ℕ → ℕ
parts b n = (n + (b - 1)) / b

-- the first n blocks of X
abbrev pub cut : ℕ → ℕ → Bytes → List Bytes
cut zero b X = []
cut (suc n) b X = take b X ∷ cut n b (drop b X)

-- (X[1], …, X[x]) ← X: each block has b bytes, the last 1 to b. The empty string has no block.
abbrev pub blocks : ℕ → Bytes → List Bytes
blocks b X = cut (parts b (length X)) b X

-- X[1], …, X[x − 1]: all blocks but the last
abbrev pub front : List Bytes → List Bytes
front [] = []
front (X ∷ []) = []
front (X ∷ (Y ∷ Ys)) = X ∷ front (Y ∷ Ys)

-- X[x]: the last block, empty where there is none
abbrev pub last : List Bytes → Bytes
last [] = []
last (X ∷ []) = X
last (X ∷ (Y ∷ Ys)) = last (Y ∷ Ys)

-- X[1] ‖ … ‖ X[x]
abbrev pub join : List Bytes → Bytes
join [] = []
join (X ∷ Xs) = X ++ join Xs
