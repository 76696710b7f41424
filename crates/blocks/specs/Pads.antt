-- Padding of a string of at most b bytes to a block of b, and fixing the first bit of a block.
use Rattle.std.specs.Prelude.{ℕ, zero, suc, ◌-◌, ◌/◌, ◌%◌, cond, [], ◌∷◌, ◌++◌, length, replicate, bit_and, bit_or, nat_lt}
use Rattle.blocks.specs.Blocks.{Bytes}

-- n as a big-endian integer of b bytes, modulo 256 ^ b
abbrev pub str : ℕ → ℕ → Bytes
str zero n = []
str (suc b) n = str b (n / 256) ++ (n % 256 ∷ [])

module _ (b : ℕ) where
  -- one-zero padding: a full block stays, a shorter one gets a bit 1 and then zeros
  abbrev pub ozp : Bytes → Bytes
  ozp X = cond (nat_lt (length X) b) (X ++ (0x80 ∷ replicate (b - length X - 1) 0)) X

  -- zero appending
  abbrev pub zap : Bytes → Bytes
  zap X = X ++ replicate (b - length X) 0

  -- zero prepending
  abbrev pub zpp : Bytes → Bytes
  zpp X = replicate (b - length X) 0 ++ X

  -- the length of X in bytes, as a block
  abbrev pub Len : Bytes → Bytes
  Len X = str b (length X)

-- the first bit set to 0
abbrev pub fix0 : Bytes → Bytes
fix0 [] = []
fix0 (x ∷ X) = bit_and x 0x7f ∷ X

-- the first bit set to 1
abbrev pub fix1 : Bytes → Bytes
fix1 [] = []
fix1 (x ∷ X) = bit_or x 0x80 ∷ X
