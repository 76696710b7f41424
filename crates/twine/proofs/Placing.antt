-- A round as the code computes it: sixteen nibbles, each at its place.
use Rattle.std.proofs.Common.{◌≡◌, ℕ, ◌-◌, ◌+◌, ◌*◌, ◌/◌, ◌%◌, ◌^◌, cond, eqb, List, get_or, replicate, sym, ap, ◌∙◌, subst, ap₂, arith, shr-shr}
use lib.Bits.{bit_xor, xor_shr, xor_mod, xor_zero_r}
use Rattle.bits.specs.Nibbles.{each}
use Rattle.bits.specs.Digits.{sum}
use Rattle.bits.proofs.Listed.{below_at, eight_eq}
use Rattle.twine.specs.Twine.{S, permuted, substituted}
use Rattle.twine.specs.Split.{split, evens, odds, OddZero, key_words, mixed, Nibbles}
use Rattle.twine.proofs.States.{each_below, split_small, octets}

nibble_xor : (x y t : ℕ) → bit_xor x y / 2 ^ t % 16 ≡ bit_xor (x / 2 ^ t % 16) (y / 2 ^ t % 16)
nibble_xor x y t = ap (λ v. v % 16) (xor_shr x y t) ∙ xor_mod (x / 2 ^ t) (y / 2 ^ t) 4

-- a byte of x + key through the table, where the key's right nibble is 0
mixed_xor :
    (x key s : ℕ) → key / 2 ^ s % 16 ≡ 0 →
    mixed (bit_xor x key / 2 ^ s % 256) ≡ bit_xor (S (bit_xor (x / 2 ^ (s + 4) % 16) (key / 2 ^ (s + 4) % 16))) (x / 2 ^ s % 16)
unfolding mixed
mixed_xor x key s z =
    let y : ℕ = bit_xor x key / 2 ^ s in
    let left : y % 256 / 16 ≡ y / 16 % 16 = omega arith in
    let right : y % 256 % 16 ≡ y % 16 = omega arith in
    ap₂ (λ u v. bit_xor (S u) v) (left ∙ ap (λ v. v % 16) (shr-shr (bit_xor x key) s 4) ∙ nibble_xor x key (s + 4))
    (right ∙ nibble_xor x key s ∙ ap (bit_xor (x / 2 ^ s % 16)) z ∙ xor_zero_r (x / 2 ^ s % 16))

pub sums_are :
    (x key : ℕ) → OddZero key → (b : List ℕ) → b ≡ octets (bit_xor x key) → each 8 (λ j. mixed (get_or b j 0)) ≡ odds (substituted (key_words key) (split x))
sums_are x key odd b e =
    let z : (j : ℕ) → get_or (odds (split key)) j 0 ≡ get_or (replicate 8 0) j 0 = λ j. ap (λ xs. get_or xs j 0) odd in
    let one : bit_xor x key % 256 ≡ bit_xor x key / 1 % 256 = omega arith in
    ap (λ xs. each 8 (λ j. mixed (get_or xs j 0))) e
    ∙ eight_eq (mixed_xor x key 56 (z 0)) (mixed_xor x key 48 (z 1)) (mixed_xor x key 40 (z 2)) (mixed_xor x key 32 (z 3)) (mixed_xor x key 24 (z 4))
    (mixed_xor x key 16 (z 5)) (mixed_xor x key 8 (z 6)) (ap mixed one ∙ mixed_xor x key 0 (z 7))

pub kept_is : (x : ℕ) (a : List ℕ) → a ≡ octets x → each 8 (λ j. get_or a j 0 / 16) ≡ evens (split x)
kept_is x a e =
    ap (λ xs. each 8 (λ j. get_or xs j 0 / 16)) e
    ∙ eight_eq (omega arith) (omega arith) (omega arith) (omega arith) (omega arith) (omega arith) (omega arith) (omega arith)

pub kept_small : (x : ℕ) (r : List ℕ) → r ≡ evens (split x) → Nibbles r
kept_small x r e =
    let f : ℕ → ℕ = λ j. get_or (split x) (2 * j) 0 in
    subst Nibbles (sym e) (below_at 16 (omega arith) (each 8 f) (each_below 16 f (λ j. split_small x (2 * j)) 0 8))

-- what is left to add of the sum of the nibbles n, the last k of them
abbrev pub rest : List ℕ → ℕ → ℕ
rest n k = sum k (λ j. get_or n (15 - j) 0 * 16 ^ j)

-- the state before the shuffle, of the nibbles at the even places and those at the odd ones
abbrev pub woven : List ℕ → List ℕ → List ℕ
woven h m = each 16 (λ i. cond (eqb (i % 2) 0) (get_or h (i / 2) 0) (get_or m (i / 2) 0))

module _ (h m : List ℕ) (H : Nibbles h) (M : Nibbles m) where
  pub woven_small : Nibbles (woven h m)
  woven_small =
      below_at 16 (omega arith) (woven h m) (H 0, (M 0, (H 1, (M 1, (H 2, (M 2, (H 3, (M 3, (H 4, (M 4, (H 5, (M 5, (H 6, (M 6, (H 7, (M 7, tt))))))))))))))))

  pub permuted_small : Nibbles (permuted (woven h m))
  permuted_small =
      below_at 16 (omega arith) (permuted (woven h m))
      (M 0, (H 1, (M 5, (H 3, (M 1, (H 0, (M 4, (H 2, (M 3, (H 5, (M 6, (H 7, (M 2, (H 4, (M 7, (H 6, tt))))))))))))))))
