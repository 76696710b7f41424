-- 64 bits and their sixteen nibbles.
use Rattle.std.proofs.Common.{◌≡◌, ℕ, zero, suc, ◌+◌, ◌-◌, ◌*◌, ◌/◌, ◌%◌, ◌^◌, ◌<◌, List, [], ◌∷◌, map, length, get_or, sym, ap, ◌∙◌, arith}
use Rattle.std.specs.List.{range_with_len}
use Rattle.std.proofs.lemmas.List.FromFn.{fill_by_all, length-map-range_with_len, get_or-map-range_with_len}
use Rattle.bits.specs.Digits.{sum, word}
use Rattle.bits.specs.Nibbles.{each, nibbles, bytes}
use Rattle.bits.proofs.Listed.{listed, AllBelow, below_at, eight_eq}
use Rattle.bits.proofs.Sums.{digit}
use Rattle.twine.specs.Split.{split, Nibbles}

each_eq : (n : ℕ) (f g : ℕ → ℕ) → ((i : ℕ) → i < n → f i ≡ g i) → each n f ≡ each n g
each_eq n f g h = fill_by_all g (each n f) n 0 (length-map-range_with_len f 0 n) (λ k l. get_or-map-range_with_len f 0 n k k 0 l (omega arith) ∙ h k l)

pub each_below : (n : ℕ) (f : ℕ → ℕ) → ((i : ℕ) → f i < n) → (a k : ℕ) → AllBelow n (map f (range_with_len a k))
each_below n f h a zero = tt
each_below n f h a (suc k) = (h a, each_below n f h (a + 1) k)

-- a sum of sixteen digits, the leftmost first
pub split_is : (ys : List ℕ) → Nibbles ys → (v : ℕ) → v ≡ sum 16 (λ j. get_or ys (15 - j) 0 * 16 ^ j) → split v ≡ each 16 (λ i. get_or ys i 0)
split_is ys small v e =
    each_eq 16 (λ i. word v (15 - i)) (λ i. get_or ys i 0)
    (λ i h. let back : 15 - (15 - i) ≡ i = omega arith in
    ap (λ n. word n (15 - i)) e ∙ digit 15 (λ j. get_or ys (15 - j) 0) (λ j. small (15 - j)) 16 (15 - i) (omega arith) ∙ ap (λ k. get_or ys k 0) back)

pub split_small : (v : ℕ) → Nibbles (split v)
split_small v = below_at 16 (omega arith) (split v) (each_below 16 (λ i. word v (15 - i)) (λ i. omega arith) 0 16)

-- the bytes of 64 bits
abbrev pub octets : ℕ → List ℕ
octets v =
    (v / 2 ^ 56 % 256) ∷ (v / 2 ^ 48 % 256) ∷ (v / 2 ^ 40 % 256) ∷ (v / 2 ^ 32 % 256) ∷ (v / 2 ^ 24 % 256) ∷ (v / 2 ^ 16 % 256) ∷ (v / 2 ^ 8 % 256) ∷ (v % 256) ∷ []

pub nibbles_small : (xs : List ℕ) → AllBelow 256 xs → AllBelow 16 (nibbles xs)
unfolding nibbles
nibbles_small [] h = tt
nibbles_small (x ∷ xs) h = let l = h.0 in (omega arith, (omega arith, nibbles_small xs h.1))

-- a block as a state, and a state as a block
pub state_of :
    (xs : List ℕ) → length xs ≡ 8 → AllBelow 256 (each 8 (λ i. get_or xs i 0)) → (v : ℕ) →
    v ≡ get_or xs 0 0 * 2 ^ 56 + get_or xs 1 0 * 2 ^ 48 + get_or xs 2 0 * 2 ^ 40 + get_or xs 3 0 * 2 ^ 32 + get_or xs 4 0 * 2 ^ 24 + get_or xs 5 0 * 2 ^ 16 + get_or xs 6 0 * 2 ^ 8 + get_or xs 7 0 →
    split v ≡ nibbles xs
unfolding nibbles
state_of xs e small v ev =
    let ys : List ℕ = each 8 (λ i. get_or xs i 0) in
    split_is (nibbles ys) (below_at 16 (omega arith) (nibbles ys) (nibbles_small ys small)) v (omega arith) ∙ sym (ap nibbles (listed 8 xs e))

pub block_of : (v : ℕ) → octets v ≡ bytes 8 (split v)
block_of v = eight_eq (omega arith) (omega arith) (omega arith) (omega arith) (omega arith) (omega arith) (omega arith) (omega arith)
