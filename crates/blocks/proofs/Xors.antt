-- Exclusive or of blocks, byte by byte and padded.
use Rattle.std.proofs.Common.{◌≡◌, ℕ, zero, suc, ◌+◌, ◌-◌, ◌<◌, ◌≤◌, min, [], ◌∷◌, ◌++◌, length, get_or, take, drop, set, replicate, sym, refl, ap, ◌∙◌, add-one, arith}
use lib.Bits.{bit_xor, xor_zero_r, xor_zero_l, xor_comm, xor_assoc, xor_self}
use Rattle.std.proofs.lemmas.Bool.{lt-ltb}
use Rattle.blocks.specs.Blocks.{Bytes, ◌⊕◌}
use Rattle.blocks.specs.Pads.{zap, ozp}

pub length_xor : (X Y : Bytes) → length (X ⊕ Y) ≡ length X
length_xor [] Y = refl
length_xor (x ∷ X) [] = refl
length_xor (x ∷ X) (y ∷ Y) = ap suc (length_xor X Y)

pub xor_none : (B : Bytes) → B ⊕ [] ≡ B
xor_none [] = refl
xor_none (x ∷ B) = refl

xor_suc : (B X : Bytes) (i : ℕ) → i < length X → i < length B → set (B ⊕ take i X) i (bit_xor (get_or (B ⊕ take i X) i 0) (get_or X i 0)) ≡ B ⊕ take (suc i) X
xor_suc B [] i h k = absurd (omega arith)
xor_suc [] (y ∷ X) i h k = absurd (omega arith)
xor_suc (x ∷ B) (y ∷ X) zero h k = ap (λ Z. bit_xor x y ∷ Z) (sym (xor_none B))
xor_suc (x ∷ B) (y ∷ X) (suc i) h k = ap (λ Z. bit_xor x y ∷ Z) (xor_suc B X i (omega arith) (omega arith))

-- one byte more
pub xor_more : (B X : Bytes) (i : ℕ) → i < length X → i < length B → set (B ⊕ take i X) i (bit_xor (get_or (B ⊕ take i X) i 0) (get_or X i 0)) ≡ B ⊕ take (i + 1) X
xor_more B X i h k = xor_suc B X i h k ∙ ap (λ n. B ⊕ take n X) (sym (add-one i))

-- what lies beyond the shorter side does not matter
pub xor_cut : (n : ℕ) (B X : Bytes) → min (length B) (length X) ≤ n → B ⊕ take n X ≡ B ⊕ X
xor_cut n [] X h = refl
xor_cut zero (x ∷ B) [] h = refl
xor_cut (suc n) (x ∷ B) [] h = refl
xor_cut zero (x ∷ B) (y ∷ X) h = absurd (omega arith)
xor_cut (suc n) (x ∷ B) (y ∷ X) h = ap (λ Z. bit_xor x y ∷ Z) (xor_cut n B X (omega arith))

pub take_xor : (n : ℕ) (X Y : Bytes) → take n (X ⊕ Y) ≡ take n X ⊕ take n Y
take_xor zero X Y = refl
take_xor (suc n) [] Y = refl
take_xor (suc n) (x ∷ X) [] = refl
take_xor (suc n) (x ∷ X) (y ∷ Y) = ap (λ Z. bit_xor x y ∷ Z) (take_xor n X Y)

pub drop_xor : (n : ℕ) (X Y : Bytes) → drop n (X ⊕ Y) ≡ drop n X ⊕ drop n Y
drop_xor zero X Y = refl
drop_xor (suc n) [] Y = refl
drop_xor (suc n) (x ∷ X) [] = sym (xor_none (drop n X))
drop_xor (suc n) (x ∷ X) (y ∷ Y) = drop_xor n X Y

pub xor_append : (P P' Q Q' : Bytes) → length P ≡ length P' → (P ++ Q) ⊕ (P' ++ Q') ≡ (P ⊕ P') ++ (Q ⊕ Q')
xor_append [] [] Q Q' e = refl
xor_append [] (y ∷ P') Q Q' e = absurd (omega arith)
xor_append (x ∷ P) [] Q Q' e = absurd (omega arith)
xor_append (x ∷ P) (y ∷ P') Q Q' e = ap (λ Z. bit_xor x y ∷ Z) (xor_append P P' Q Q' (omega arith))

pub xor_zeros : (n : ℕ) (B : Bytes) → B ⊕ replicate n 0 ≡ B
xor_zeros zero B = xor_none B
xor_zeros (suc n) [] = refl
xor_zeros (suc n) (x ∷ B) = ap (λ z. z ∷ (B ⊕ replicate n 0)) (xor_zero_r x) ∙ ap (λ Z. x ∷ Z) (xor_zeros n B)

-- zeros behind change nothing
xor_padded : (B X : Bytes) (n : ℕ) → B ⊕ (X ++ replicate n 0) ≡ B ⊕ X
xor_padded [] X n = refl
xor_padded (x ∷ B) [] n = xor_zeros n (x ∷ B)
xor_padded (x ∷ B) (y ∷ X) n = ap (λ Z. bit_xor x y ∷ Z) (xor_padded B X n)

pub xor_zap : (b : ℕ) (B X : Bytes) → B ⊕ zap b X ≡ B ⊕ X
xor_zap b B X = xor_padded B X (b - length X)

-- a byte 0x80 behind X, and zeros
xor_one : (S X : Bytes) (k : ℕ) → length X < length S → set (S ⊕ X) (length X) (bit_xor (get_or (S ⊕ X) (length X) 0) 128) ≡ S ⊕ (X ++ (128 ∷ replicate k 0))
xor_one [] X k h = absurd (omega arith)
xor_one (s ∷ S) [] k h = ap (λ Z. bit_xor s 128 ∷ Z) (sym (xor_zeros k S))
xor_one (s ∷ S) (x ∷ X) k h = ap (λ Z. bit_xor s x ∷ Z) (xor_one S X k (omega arith))

pub xor_ozp_short : (S X : Bytes) → length X < length S → set (S ⊕ X) (length X) (bit_xor (get_or (S ⊕ X) (length X) 0) 128) ≡ S ⊕ ozp (length S) X
xor_ozp_short S X h = let t = lt-ltb (length X) (length S) h in xor_one S X (length S - length X - 1) h ∙ rw t

-- into zeros
pub zeros_xor : (n : ℕ) (Y : Bytes) → length Y ≡ n → replicate n 0 ⊕ Y ≡ Y
zeros_xor zero [] e = refl
zeros_xor zero (y ∷ Y) e = absurd (omega arith)
zeros_xor (suc n) [] e = absurd (omega arith)
zeros_xor (suc n) (y ∷ Y) e = ap (λ z. z ∷ (replicate n 0 ⊕ Y)) (xor_zero_l y) ∙ ap (λ Z. y ∷ Z) (zeros_xor n Y (omega arith))

-- twice the same changes nothing
pub xor_back : (X Y : Bytes) → (X ⊕ Y) ⊕ Y ≡ X
xor_back [] Y = refl
xor_back (x ∷ X) [] = refl
xor_back (x ∷ X) (y ∷ Y) =
    let e : bit_xor (bit_xor x y) y ≡ x = xor_assoc x y y ∙ ap (bit_xor x) (xor_self y) ∙ xor_zero_r x in
    ap (λ z. z ∷ ((X ⊕ Y) ⊕ Y)) e ∙ ap (λ Z. x ∷ Z) (xor_back X Y)

-- the other way round, cut to the shorter
pub xor_swap : (S Y : Bytes) → length Y ≤ length S → take (length Y) (S ⊕ Y) ≡ Y ⊕ S
xor_swap S [] h = refl
xor_swap [] (y ∷ Y) h = absurd (omega arith)
xor_swap (s ∷ S) (y ∷ Y) h = ap (λ z. z ∷ take (length Y) (S ⊕ Y)) (xor_comm s y) ∙ ap (λ Z. bit_xor y s ∷ Z) (xor_swap S Y (omega arith))

pub xor_swaps : (X Y : Bytes) → length X ≡ length Y → X ⊕ Y ≡ Y ⊕ X
xor_swaps [] [] e = refl
xor_swaps [] (y ∷ Y) e = absurd (omega arith)
xor_swaps (x ∷ X) [] e = absurd (omega arith)
xor_swaps (x ∷ X) (y ∷ Y) e = ap (λ z. z ∷ (X ⊕ Y)) (xor_comm x y) ∙ ap (λ Z. bit_xor y x ∷ Z) (xor_swaps X Y (omega arith))

-- what stands in both goes out
pub xor_mid : (X Y Z : Bytes) → length X ≡ length Y → length Y ≡ length Z → (X ⊕ Y) ⊕ (Y ⊕ Z) ≡ X ⊕ Z
xor_mid [] Y Z e f = refl
xor_mid (x ∷ X) [] Z e f = absurd (omega arith)
xor_mid (x ∷ X) (y ∷ Y) [] e f = absurd (omega arith)
xor_mid (x ∷ X) (y ∷ Y) (z ∷ Z) e f =
    let n : bit_xor (bit_xor x y) (bit_xor y z) ≡ bit_xor x z =
    xor_assoc x y (bit_xor y z) ∙ ap (bit_xor x) (sym (xor_assoc y y z) ∙ ap (λ k. bit_xor k z) (xor_self y) ∙ xor_zero_l z) in
    ap (λ k. k ∷ ((X ⊕ Y) ⊕ (Y ⊕ Z))) n ∙ ap (λ W. bit_xor x z ∷ W) (xor_mid X Y Z (omega arith) (omega arith))
