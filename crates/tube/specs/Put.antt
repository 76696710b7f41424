-- Writing a tube into the first bytes of an output part.
use Rattle.std.specs.Prelude.{◌≡◌, ℕ, ◌+◌, Bool, cond, ◌&&◌, List, ◌++◌, length, drop, Some, None, Option, nat_le}
use Rattle.tube.specs.Part.{part}
use Rattle.tube.specs.Write.{tube_of, size_of}

-- the lengths of nonce, label, ciphertext and tag are within their ranges
abbrev pub in_range : ℕ → ℕ → ℕ → ℕ → Bool
in_range n a m t = (nat_le 1 n && nat_le n 16) && ((nat_le a 4096 && nat_le m 1048576) && (nat_le 1 t && nat_le t 16))

-- and so many bytes are room for the tube
abbrev pub fits : ℕ → ℕ → ℕ → ℕ → ℕ → Bool
fits n a m t room = in_range n a m t && nat_le (size_of n a m t) room

-- the answer: the length of the tube, or none
abbrev pub wrote : ℕ → ℕ → ℕ → ℕ → ℕ → Option ℕ
wrote n a m t room = cond (fits n a m t room) (Some (size_of n a m t)) None

-- the output part afterwards: the tube, and the bytes beyond it as they were; or all as it was
abbrev pub written : ℕ → ℕ → List ℕ → List ℕ → List ℕ → List ℕ → List ℕ → List ℕ
written code param n a c t out =
    cond (fits (length n) (length a) (length c) (length t) (length out))
    (tube_of code param n a c t ++ drop (size_of (length n) (length a) (length c) (length t)) out)
    out

-- the same where the ciphertext is m bytes that stand in their place already
abbrev pub enclosed : ℕ → ℕ → List ℕ → List ℕ → ℕ → List ℕ → List ℕ → List ℕ
enclosed code param n a m t out =
    cond (fits (length n) (length a) m (length t) (length out))
    (tube_of code param n a (part out (record { at = 18 + length n + length a; len = m })) t ++ drop (size_of (length n) (length a) m (length t)) out)
    out

-- bytes xs were put at a place: after what stood in front of it, and the rest as it was
abbrev pub Laid : ℕ → List ℕ → List ℕ → List ℕ → Type 0
Laid at xs before after = (pre old : List ℕ) → before ≡ pre ++ drop (length pre) old → at ≡ length pre → after ≡ (pre ++ xs) ++ drop (length (pre ++ xs)) old
