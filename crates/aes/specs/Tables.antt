-- What each byte of a column adds to the column after SubBytes and MixColumns, as a word: its product by a column of the matrix of
-- 5.1.3. Of the bytes 0 to 3 it is te0 to te3, and the column is the sum of the four.
use Rattle.std.specs.Prelude.{ℕ}
use Rattle.aes.specs.Field.{◌•◌}
use Rattle.aes.specs.Sbox.{S}
use Rattle.aes.specs.Fips197.{pack}

unfoldable pub te0 : ℕ → ℕ
te0 x = pack (0x02 • S x) (S x) (S x) (0x03 • S x)

unfoldable pub te1 : ℕ → ℕ
te1 x = pack (0x03 • S x) (0x02 • S x) (S x) (S x)

unfoldable pub te2 : ℕ → ℕ
te2 x = pack (S x) (0x03 • S x) (0x02 • S x) (S x)

unfoldable pub te3 : ℕ → ℕ
te3 x = pack (S x) (S x) (0x03 • S x) (0x02 • S x)
