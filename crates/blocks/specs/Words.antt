-- The tweak functions: CLOC's on the four equal words of a block, SILC's on its bytes.
use Rattle.std.specs.Prelude.{ℕ, zero, suc, ◌*◌, ◌/◌, ◌%◌, [], ◌∷◌, ◌++◌, ◌≡◌, ◌⊎◌, length, take, drop, slice_index, bit_xor}
use Rattle.blocks.specs.Blocks.{Bytes, ◌⊕◌}

-- a block has 8 or 16 bytes
abbrev pub IsBlock : Bytes → Type 0
IsBlock X = (length X ≡ 8) ⊎ (length X ≡ 16)

-- X[i + 1] of (X[1], X[2], X[3], X[4]) ← X
abbrev pub word : ℕ → Bytes → Bytes
word i X = take (length X / 4) (drop (i * (length X / 4)) X)

abbrev pub on_words : (Bytes → Bytes → Bytes → Bytes → Bytes) → Bytes → Bytes
on_words f X = f (word 0 X) (word 1 X) (word 2 X) (word 3 X)

abbrev pub four : Bytes → Bytes → Bytes → Bytes → Bytes
four a b c d = a ++ (b ++ (c ++ d))

abbrev pub f1 : Bytes → Bytes
f1 = on_words (λ w1 w2 w3 w4. four (w1 ⊕ w3) (w2 ⊕ w4) (w1 ⊕ w2 ⊕ w3) (w2 ⊕ w3 ⊕ w4))

abbrev pub f2 : Bytes → Bytes
f2 = on_words (λ w1 w2 w3 w4. four w2 w3 w4 (w1 ⊕ w2))

abbrev pub g1 : Bytes → Bytes
g1 = on_words (λ w1 w2 w3 w4. four w3 w4 (w1 ⊕ w2) (w2 ⊕ w3))

abbrev pub g2 : Bytes → Bytes
g2 = f2

abbrev pub h : Bytes → Bytes
h = on_words (λ w1 w2 w3 w4. four (w1 ⊕ w2) (w2 ⊕ w3) (w3 ⊕ w4) (w1 ⊕ w2 ⊕ w4))

-- SILC's: one byte to the left, and behind it the exclusive or of the first two
abbrev pub g : Bytes → Bytes
g [] = []
g (x ∷ []) = x ∷ []
g (x ∷ (y ∷ X)) = y ∷ (X ++ (bit_xor x y ∷ []))

-- f applied n times
abbrev pub power : ℕ → (Bytes → Bytes) → Bytes → Bytes
power zero f X = X
power (suc n) f X = f (power n f X)

-- a word of q bytes as the number that the code holds it in, the lowest byte first
abbrev pub little : ℕ → ℕ → Bytes
little q n = take q (n % 256 ∷ n / 256 % 256 ∷ n / 65536 % 256 ∷ n / 16777216 % 256 ∷ [])

-- the block whose words these four numbers hold
abbrev pub held : ℕ → Bytes → Bytes
held q w = four (little q (slice_index w 0)) (little q (slice_index w 1)) (little q (slice_index w 2)) (little q (slice_index w 3))
