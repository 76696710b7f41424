-- Lengths of parts, and how large a number is.
use Rattle.std.proofs.Common.{◌≡◌, ℕ, zero, suc, ◌+◌, ◌-◌, ◌*◌, ◌^◌, ◌<◌, ◌≤◌, min, List, [], ◌∷◌, ◌++◌, length, take, drop, refl, ap, ◌∙◌, pow-suc, arith, length-append, length-drop, pow_pos, pow-add}
use native.Mathlib.Nat.{pow-le-pow_right}
use borrow.Rule.Slice.PartMut.{put_mid}
use Rattle.std.proofs.lemmas.List.{length-take-le}
use Rattle.mode.specs.declared.set.ParameterSet.{ParameterSet}
use Rattle.link.specs.Numbers.{last_of}

-- sixteen bytes of a local array, of which the first t are lent
abbrev pub zeros : List ℕ
zeros = 0 ∷ 0 ∷ 0 ∷ 0 ∷ 0 ∷ 0 ∷ 0 ∷ 0 ∷ 0 ∷ 0 ∷ 0 ∷ 0 ∷ 0 ∷ 0 ∷ 0 ∷ 0 ∷ []

pub lent_length : (t : ℕ) → t ≤ 16 → length (take t zeros) ≡ t
lent_length t h = length-take-le t zeros h

-- a part from a place on
pub part_length : (at k : ℕ) (out : List ℕ) → at + k ≤ length out → length (take (at + k - at) (drop at out)) ≡ k
part_length at k out h =
    let e : at + k - at ≡ k = omega arith in
    ap (λ x. length (take x (drop at out))) e ∙ length-take-le k (drop at out) (omega (arith, length-drop at out))

pub put_length : (at k : ℕ) (out ys : List ℕ) → at + k ≤ length out → length ys ≡ k → length (put_mid at k out ys) ≡ length out
put_length at k out ys h e =
    omega (
      arith,
      length-append (take at out) (ys ++ drop k (drop at out)),
      length-append ys (drop k (drop at out)),
      length-take-le at out (omega arith),
      length-drop k (drop at out),
      length-drop at out,
    )

bits_bytes : (n : ℕ) → 2 ^ (8 * n) ≡ 256 ^ n
bits_bytes zero = refl
bits_bytes (suc n) =
    let e : 8 * suc n ≡ 8 * n + 8 = omega arith in
    let a : 2 ^ (8 * n + 8) ≡ 2 ^ (8 * n) * 256 = pow-add 2 (8 * n) 8 in
    ap (λ x. 2 ^ x) e ∙ omega (arith, a, pow-suc 256 n, bits_bytes n)

-- a number up to the last fits the nonce
pub number_fits : (s : ParameterSet) (k : ℕ) → k ≤ last_of s → k < 256 ^ s.nonce
number_fits s k h =
    let z : 0 < 2 = omega arith in
    let l : 8 * min s.nonce 6 ≤ 8 * s.nonce = omega arith in
    let a : 2 ^ (8 * min s.nonce 6) ≤ 2 ^ (8 * s.nonce) = pow-le-pow_right z l in
    let b : 0 < 2 ^ (8 * min s.nonce 6) = pow_pos (8 * min s.nonce 6) in
    omega (arith, a, b, bits_bytes s.nonce)
