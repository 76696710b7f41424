-- PRESENT-80 on bytes: byte 0 of a key or a block is the most significant.
use Rattle.std.specs.Prelude.{ℕ, zero, suc, ◌+◌, ◌*◌, ◌/◌, ◌%◌, ◌^◌, List, [], ◌∷◌}
use Rattle.present.specs.Present.{encrypt}

-- the number that the bytes xs write, behind n
unfoldable pub number_from : ℕ → List ℕ → ℕ
number_from n [] = n
number_from n (x ∷ xs) = number_from (n * 256 + x) xs

abbrev pub number : List ℕ → ℕ
number xs = number_from 0 xs

-- the k bytes of a number
abbrev pub bytes : ℕ → ℕ → List ℕ
bytes zero n = []
bytes (suc k) n = n / 256 ^ k % 256 ∷ bytes k n

-- the function E of the cipher under a key of ten bytes, on blocks of eight
unfoldable pub present80 : List ℕ → List ℕ → List ℕ
present80 key block = bytes 8 (encrypt (number key) (number block))
