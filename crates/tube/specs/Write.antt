-- A tube is five sections in a fixed order, each after its count of four bytes: set (code, param), nonce, label, ciphertext, tag.
use Rattle.std.specs.Prelude.{ℕ, zero, suc, ◌+◌, ◌/◌, ◌%◌, List, [], ◌∷◌, ◌++◌, length}

-- a count in four bytes, the highest first
abbrev pub four : ℕ → List ℕ
four n = (n / 16777216) ∷ (n / 65536 % 256) ∷ (n / 256 % 256) ∷ (n % 256) ∷ []

-- a section: its bytes after their count
abbrev pub sectioned : List ℕ → List ℕ
sectioned xs = four (length xs) ++ xs

abbrev pub tube_of : ℕ → ℕ → List ℕ → List ℕ → List ℕ → List ℕ → List ℕ
tube_of code param nonce label ciphertext tag =
    sectioned (code ∷ param ∷ []) ++ (sectioned nonce ++ (sectioned label ++ (sectioned ciphertext ++ sectioned tag)))

-- how many bytes it has, by the lengths of nonce, label, ciphertext and tag
abbrev pub size_of : ℕ → ℕ → ℕ → ℕ → ℕ
size_of n a m t = 22 + n + t + a + m

-- the nonce of a number: the number in n bytes, the highest first, zeros in front
abbrev pub nonce_of : ℕ → ℕ → List ℕ
nonce_of zero k = []
nonce_of (suc n) k = nonce_of n (k / 256) ++ (k % 256 ∷ [])
