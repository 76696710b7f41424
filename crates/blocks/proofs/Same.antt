-- Comparing strings by the bits in which they differ.
use Rattle.std.proofs.Common.{◌≡◌, ℕ, zero, suc, ◌+◌, ◌<◌, Bool, true, false, ◌&&◌, eqb, [], ◌∷◌, length, get_or, take, sym, refl, ap, ◌∙◌, ⊎_elim, add-one, arith}
use lib.Bits.{bit_xor, bit_or, or_add_and, and_le_r, xor_self, xor_assoc, xor_zero_r, xor_zero_l, or_zero_l}
use Rattle.std.specs.Str.{bytes_eq}
use Rattle.std.proofs.lemmas.Bool.{cases_Bool, eqb-true, eq-eqb, ne_eqb}
use Rattle.blocks.specs.Blocks.{Bytes}

-- bits stand out where one of two numbers has any
or_none : (d e : ℕ) → eqb (bit_or d e) 0 ≡ (eqb d 0 && eqb e 0)
or_none d e = ⊎_elim
    (λ t. let z : d ≡ 0 = eqb-true d 0 t in rw t (ap (λ q. eqb (bit_or q e) 0) z ∙ ap (λ q. eqb q 0) (or_zero_l e)))
    (λ f. let n : bit_or d e ≡ 0 → ⊥ = (λ z. let s = or_add_and d e in let l = and_le_r d e in ne d f (omega arith)) in rw f (ne_eqb (bit_or d e) 0 n))
    (cases_Bool (eqb d 0))
  where
    ne : (d : ℕ) → eqb d 0 ≡ false → d ≡ 0 → ⊥
    ne d f z = let o : ◌≡◌ {A = Bool} true false = sym (eq-eqb d 0 z) ∙ f in let y : ◌≡◌ {A = ℕ} 0 1 = cc in omega arith

xor_none : (x y : ℕ) → eqb (bit_xor x y) 0 ≡ eqb x y
xor_none x y = ⊎_elim
    (λ t. let e = eqb-true x y t in rw t (eq-eqb (bit_xor x y) 0 (ap (λ q. bit_xor q y) e ∙ xor_self y)))
    (λ f. rw f (ne_eqb (bit_xor x y) 0 (λ z. differs f (x_is z))))
    (cases_Bool (eqb x y))
  where
    x_is : bit_xor x y ≡ 0 → x ≡ y
    x_is z = sym (xor_zero_r x) ∙ ap (bit_xor x) (sym (xor_self y)) ∙ sym (xor_assoc x y y) ∙ ap (λ q. bit_xor q y) z ∙ xor_zero_l y

    differs : eqb x y ≡ false → x ≡ y → ⊥
    differs f e = let o : ◌≡◌ {A = Bool} true false = sym (eq-eqb x y e) ∙ f in let k : ◌≡◌ {A = ℕ} 0 1 = cc in omega arith

-- one byte more of both
same_suc : (X Y : Bytes) (i : ℕ) → i < length X → i < length Y → bytes_eq (take (suc i) X) (take (suc i) Y) ≡ (bytes_eq (take i X) (take i Y) && eqb (get_or X i 0) (get_or Y i 0))
same_suc [] Y i h k = absurd (omega arith)
same_suc (x ∷ X) [] i h k = absurd (omega arith)
same_suc (x ∷ X) (y ∷ Y) zero h k = and_true (eqb x y)
  where
    and_true : (t : Bool) → (t && true) ≡ t
    and_true true = refl
    and_true false = refl
same_suc (x ∷ X) (y ∷ Y) (suc i) h k =
    ap (λ t. eqb x y && t) (same_suc X Y i (omega arith) (omega arith)) ∙ and_assoc (eqb x y) (bytes_eq (take i X) (take i Y)) (eqb (get_or X i 0) (get_or Y i 0))
  where
    and_assoc : (a b c : Bool) → (a && (b && c)) ≡ ((a && b) && c)
    and_assoc true b c = refl
    and_assoc false b c = refl

pub same_more : (X Y : Bytes) (i d : ℕ) → i < length X → i < length Y → eqb d 0 ≡ bytes_eq (take i X) (take i Y) →
    eqb (bit_or d (bit_xor (get_or X i 0) (get_or Y i 0))) 0 ≡ bytes_eq (take (i + 1) X) (take (i + 1) Y)
same_more X Y i d h k e =
    or_none d (bit_xor (get_or X i 0) (get_or Y i 0)) ∙ ap (λ t. eqb d 0 && t) (xor_none (get_or X i 0) (get_or Y i 0)) ∙ ap (λ t. t && eqb (get_or X i 0) (get_or Y i 0)) e
    ∙ sym (same_suc X Y i h k) ∙ ap (λ n. bytes_eq (take n X) (take n Y)) (sym (add-one i))
