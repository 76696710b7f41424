-- A number in bytes.
use Rattle.std.proofs.Common.{◌≡◌, ℕ, zero, suc, ◌+◌, ◌-◌, ◌*◌, ◌/◌, ◌%◌, ◌^◌, ◌<◌, List, [], ◌∷◌, ◌++◌, length, reverse, take, set, sym, refl, ap, ◌∙◌, subst, append_assoc, pow-suc, arith, length-append}
use Rattle.std.proofs.lemmas.List.{reverse-append, take_more_set}
use Rattle.std.proofs.lemmas.List.Sums.{fold_push}
use Rattle.std.proofs.lemmas.Nat.{div_below}
use Rattle.tube.specs.Write.{nonce_of}
use Rattle.tube.specs.Read.{value}

pub nonce_length : (n k : ℕ) → length (nonce_of n k) ≡ n
nonce_length zero k = refl
nonce_length (suc n) k = length-append (nonce_of n (k / 256)) (k % 256 ∷ []) ∙ omega (arith, nonce_length n (k / 256))

-- the number comes back where its bytes hold it
pub nonce_value : (n k : ℕ) → k < 256 ^ n → value (nonce_of n k) ≡ k
nonce_value zero k h = omega arith
nonce_value (suc n) k h =
    let b : k / 256 < 256 ^ n = div_below k 256 (256 ^ n) (omega arith) (subst (λ x. k < x) (pow-suc 256 n) h) in
    fold_push (λ a x. a * 256 + x) 0 (nonce_of n (k / 256)) (k % 256) ∙ omega (arith, nonce_value n (k / 256) b)

-- one byte more of it, from the lowest on
pub filled : (n i rest : ℕ) (xs : List ℕ) → i < n → n ≡ length xs
    → nonce_of (n - i) rest ++ reverse (take i xs) ≡ nonce_of (n - (i + 1)) (rest / 256) ++ reverse (take (i + 1) (set xs i (rest % 256)))
filled n i rest xs h l =
    let j = n - (i + 1) in
    let e : n - i ≡ suc j = omega arith in
    ap (λ x. nonce_of x rest ++ reverse (take i xs)) e
    ∙ append_assoc (nonce_of j (rest / 256)) (rest % 256 ∷ []) (reverse (take i xs))
    ∙ ap (λ x. nonce_of j (rest / 256) ++ x) (sym (ap reverse (take_more_set xs i (rest % 256) (omega arith)) ∙ reverse-append (take i xs) (rest % 256 ∷ [])))
