-- The steps keep the length of a block.
use Rattle.std.proofs.Common.{◌≡◌, ℕ, suc, ◌+◌, ◌-◌, ◌≤◌, List, [], ◌∷◌, length, replicate, refl, ap, ◌∙◌, arith, length-append}
use lib.ListN.{length-replicate}
use lib.Bits.{bit_xor}
use Rattle.blocks.specs.Blocks.{Bytes, ◌⊕◌}
use Rattle.blocks.specs.Pads.{zpp, fix0, fix1}
use Rattle.blocks.specs.Words.{g}
use Rattle.blocks.specs.Chain.{chain}
use Rattle.blocks.proofs.Xors.{length_xor}

pub length_fix0 : (X : Bytes) → length (fix0 X) ≡ length X
length_fix0 [] = refl
length_fix0 (x ∷ X) = refl

pub length_fix1 : (X : Bytes) → length (fix1 X) ≡ length X
length_fix1 [] = refl
length_fix1 (x ∷ X) = refl

pub length_g : (X : Bytes) → length (g X) ≡ length X
length_g [] = refl
length_g (x ∷ []) = refl
length_g (x ∷ (y ∷ X)) = ap suc (length-append X (bit_xor x y ∷ []) ∙ (let z : length X + 1 ≡ suc (length X) = omega arith in z))

pub length_zpp : (b : ℕ) (X : Bytes) → length X ≤ b → length (zpp b X) ≡ b
length_zpp b X h = length-append (replicate (b - length X) 0) X ∙ (let r = length-replicate {A = ℕ} (b - length X) 0 in let z : length (replicate {A = ℕ} (b - length X) 0) + length X ≡ b = omega arith in z)

-- where E keeps the length of a block
pub length_chain : (b : ℕ) (E : Bytes → Bytes) → ((X : Bytes) → length X ≡ b → length (E X) ≡ b) → (S : Bytes) (Xs : List Bytes) → length S ≡ b → length (chain E S Xs) ≡ b
length_chain b E k S [] h = h
length_chain b E k S (X ∷ Xs) h = length_chain b E k (E (S ⊕ X)) Xs (k (S ⊕ X) (length_xor S X ∙ h))
