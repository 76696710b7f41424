-- Values worked by hand. The submission has no test vector of SILC.
use Rattle.std.specs.Prelude.{◌≡◌, [], ◌∷◌, Some, None, refl}
use Rattle.blocks.specs.Blocks.{Bytes, ◌⊕◌}
use Rattle.blocks.specs.Words.{g}
use Rattle.silc.specs.Silc.{HASH, PRF, silc_seal, silc_open, silc_of}

-- runs at b = 8: label and contents empty, then nine bytes each, and there with a wrong tag
runs_empty : (silc_of 8 (λ X. X)).seal_runs 0 0 ≡ 3
runs_empty = refl

runs_nine : (silc_of 8 (λ X. X)).seal_runs 9 9 ≡ 9
runs_nine = refl

runs_opened : (silc_of 8 (λ X. X)).open_runs 9 9 ≡ 9
runs_opened = refl

runs_wrong : (silc_of 8 (λ X. X)).refused_runs 9 9 ≡ 7
runs_wrong = refl

-- a small cipher of four bytes: E(X) = g(X ⊕ (1, 2, 3, 4))
abbrev small : Bytes → Bytes
small X = g (X ⊕ (1 ∷ 2 ∷ 3 ∷ 4 ∷ []))

-- param is 0xc0, N = (1, 2), A = (5, 6, 7, 8, 9), M = (10, …, 14), t = 3
hash_small : HASH 4 small 0xc0 (1 ∷ 2 ∷ []) (5 ∷ 6 ∷ 7 ∷ 8 ∷ 9 ∷ []) ≡ 204 ∷ 196 ∷ 11 ∷ 204 ∷ []
unfolding HASH
hash_small = refl

seal_small : silc_seal 4 small 3 0xc0 (1 ∷ 2 ∷ []) (5 ∷ 6 ∷ 7 ∷ 8 ∷ 9 ∷ []) (10 ∷ 11 ∷ 12 ∷ 13 ∷ 14 ∷ []) ≡ record { ciphertext = 204 ∷ 3 ∷ 196 ∷ 6 ∷ 15 ∷ []; tag = 12 ∷ 15 ∷ 0 ∷ [] }
unfolding HASH PRF
seal_small = refl

open_small : silc_open 4 small 3 0xc0 (1 ∷ 2 ∷ []) (5 ∷ 6 ∷ 7 ∷ 8 ∷ 9 ∷ []) (204 ∷ 3 ∷ 196 ∷ 6 ∷ 15 ∷ []) (12 ∷ 15 ∷ 0 ∷ []) ≡ Some (10 ∷ 11 ∷ 12 ∷ 13 ∷ 14 ∷ [])
unfolding HASH PRF
open_small = refl

-- the last byte of the tag differs
open_wrong : silc_open 4 small 3 0xc0 (1 ∷ 2 ∷ []) (5 ∷ 6 ∷ 7 ∷ 8 ∷ 9 ∷ []) (204 ∷ 3 ∷ 196 ∷ 6 ∷ 15 ∷ []) (12 ∷ 15 ∷ 1 ∷ []) ≡ None
unfolding HASH PRF
open_wrong = refl

-- label and contents empty
seal_empty : silc_seal 4 small 4 0xc0 (1 ∷ 2 ∷ []) [] [] ≡ record { ciphertext = []; tag = 2 ∷ 197 ∷ 6 ∷ 192 ∷ [] }
unfolding HASH PRF
seal_empty = refl
