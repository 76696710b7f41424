-- Values worked by hand.
use Rattle.std.specs.Prelude.{◌≡◌, [], ◌∷◌, refl}
use Rattle.blocks.specs.Blocks.{Bytes, ◌⊕◌, blocks, last}
use Rattle.blocks.specs.Pads.{str, ozp, zap, zpp, Len, fix0}
use Rattle.blocks.specs.Words.{f1, f2, g1, h, g, power}
use Rattle.blocks.specs.Chain.{enc, dec}

-- words (1, 2, 4, 8)
f1_words : f1 (1 ∷ 2 ∷ 4 ∷ 8 ∷ []) ≡ 5 ∷ 10 ∷ 7 ∷ 14 ∷ []
f1_words = refl

f2_words : f2 (1 ∷ 2 ∷ 4 ∷ 8 ∷ []) ≡ 2 ∷ 4 ∷ 8 ∷ 3 ∷ []
f2_words = refl

g1_words : g1 (1 ∷ 2 ∷ 4 ∷ 8 ∷ []) ≡ 4 ∷ 8 ∷ 3 ∷ 6 ∷ []
g1_words = refl

h_words : h (1 ∷ 2 ∷ 4 ∷ 8 ∷ []) ≡ 3 ∷ 6 ∷ 12 ∷ 11 ∷ []
h_words = refl

f1_power : power 8 f2 (1 ∷ 2 ∷ 4 ∷ 8 ∷ []) ≡ 5 ∷ 10 ∷ 7 ∷ 14 ∷ []
f1_power = refl

g_bytes : g (1 ∷ 2 ∷ 4 ∷ 8 ∷ []) ≡ 2 ∷ 4 ∷ 8 ∷ 3 ∷ []
g_bytes = refl

some_blocks : blocks 2 (1 ∷ 2 ∷ 3 ∷ []) ≡ (1 ∷ 2 ∷ []) ∷ (3 ∷ []) ∷ []
some_blocks = refl

full_blocks : blocks 2 (1 ∷ 2 ∷ 3 ∷ 4 ∷ []) ≡ (1 ∷ 2 ∷ []) ∷ (3 ∷ 4 ∷ []) ∷ []
full_blocks = refl

last_block : last (blocks 2 (1 ∷ 2 ∷ 3 ∷ [])) ≡ 3 ∷ []
last_block = refl

ozp_empty : ozp 4 [] ≡ 0x80 ∷ 0 ∷ 0 ∷ 0 ∷ []
ozp_empty = refl

ozp_short : ozp 4 (7 ∷ []) ≡ 7 ∷ 0x80 ∷ 0 ∷ 0 ∷ []
ozp_short = refl

ozp_full : ozp 2 (7 ∷ 9 ∷ []) ≡ 7 ∷ 9 ∷ []
ozp_full = refl

zpp_short : zpp 4 (7 ∷ 9 ∷ []) ≡ 0 ∷ 0 ∷ 7 ∷ 9 ∷ []
zpp_short = refl

zap_short : zap 4 (7 ∷ 9 ∷ []) ≡ 7 ∷ 9 ∷ 0 ∷ 0 ∷ []
zap_short = refl

-- Len of five bytes is 0 … 0101
Len_five : Len 4 (1 ∷ 1 ∷ 1 ∷ 1 ∷ 1 ∷ []) ≡ 0 ∷ 0 ∷ 0 ∷ 5 ∷ []
Len_five = refl

str_bytes : str 4 0x10203 ≡ 0 ∷ 1 ∷ 2 ∷ 3 ∷ []
str_bytes = refl

fixed : fix0 (0xff ∷ 1 ∷ []) ≡ 0x7f ∷ 1 ∷ []
fixed = refl

-- ENC and DEC over the small cipher E(X) = X ⊕ (5, 6): C[1] = (1, 2) ⊕ E(V), C[2] = 3 ⊕ E(fix1(C[1]))
abbrev small : Bytes → Bytes
small X = X ⊕ (5 ∷ 6 ∷ [])

enc_small : enc 2 small (9 ∷ 9 ∷ []) (1 ∷ 2 ∷ 3 ∷ []) ≡ 0x0d ∷ 0x0d ∷ 0x8b ∷ []
enc_small = refl

dec_small : dec 2 small (9 ∷ 9 ∷ []) (0x0d ∷ 0x0d ∷ 0x8b ∷ []) ≡ 1 ∷ 2 ∷ 3 ∷ []
dec_small = refl
