-- The digits of bytes, a part at a time.
use Rattle.std.proofs.Common.{◌≡◌, ℕ, ◌/◌, ◌%◌, Bool, true, false, ◌&&◌, List, [], ◌∷◌, ◌++◌, slice_index, refl, ap, Result, OnOk, IsAscii, rules}
use Rattle.std.proofs.Math.Dec.{ltb}
use Rattle.std.proofs.lemmas.Bool.{and_parts, ltb-true}
use Rattle.std.proofs.lemmas.Str.Ascii.{IsAscii-cons, IsAscii-nil}
use Rattle.std.specs.Result.{is_err}
use Rattle.hex.specs.Hex.{encode_with, encode_lower, lower_digits}
use Rattle.hex.specs.declared.error.FromHexError.{FromHexError}
use Rattle.hex.proofs.HexLemmas.{IsAscii-encode_with}

pub encode_with_append : (t xs ys : List ℕ) → encode_with t (xs ++ ys) ≡ encode_with t xs ++ encode_with t ys
unfolding encode_with
encode_with_append t [] ys = refl
encode_with_append t (x ∷ xs) ys = ap (λ (r : List ℕ). slice_index t (x / 16) ∷ slice_index t (x % 16) ∷ r) (encode_with_append t xs ys)

pub encode_none : (xs : List ℕ) → xs ≡ [] → encode_lower xs ≡ []
unfolding encode_with
encode_none xs none = ap encode_lower none

-- every byte is below 128, as a test that computes
abbrev all_below : List ℕ → Bool
all_below [] = true
all_below (b ∷ bs) = ltb b 128 && all_below bs

ascii_of_below : (bs : List ℕ) → all_below bs ≡ true → IsAscii bs
ascii_of_below [] h = IsAscii-nil
ascii_of_below (b ∷ bs) h =
    let parts = and_parts (ltb b 128) (all_below bs) h in
    IsAscii-cons b bs (ltb-true b 128 parts.0) (ascii_of_below bs parts.1)

pub IsAscii-encode_lower : (xs : List ℕ) → IsAscii (encode_lower xs)
IsAscii-encode_lower xs = IsAscii-encode_with lower_digits xs (ascii_of_below lower_digits refl)

-- where nothing was refused, what was written is the digits
pub written : (xs out : List ℕ) (r : Result Unit FromHexError) → false ≡ is_err r → OnOk r (out ≡ encode_lower xs) → out ≡ encode_lower xs
written xs out r passed digits = search rules
