-- The chain of HASH and PRF as a loop over all blocks: zeros behind the last change nothing.
use Rattle.std.specs.Prelude.{◌≡◌, ℕ, ◌<◌, length}
use Rattle.std.proofs.Common.{arith, sym, ap, ◌∙◌, ⊎_elim}
use Rattle.std.proofs.lemmas.Bool.{cases_lt, eq-eqb, ne_eqb}
use Rattle.blocks.specs.Blocks.{Bytes, blocks, front, last}
use Rattle.blocks.specs.Chain.{chain}
use Rattle.blocks.proofs.Xors.{xor_zap}
use Rattle.blocks.proofs.Cuts.{blocks_none, chain_last}
use Rattle.silc.specs.Silc.{chained}

pub chained_loop : (b : ℕ) (E : Bytes → Bytes) (S X : Bytes) → 0 < b → chained b E S X ≡ chain E S (blocks b X)
chained_loop b E S X hb = ⊎_elim
    (λ h. let n : length X ≡ 0 → ⊥ = (λ z. omega arith) in
    let t = ne_eqb (length X) 0 n in
    rw t (ap E (xor_zap b (chain E S (front (blocks b X))) (last (blocks b X))) ∙ sym (chain_last E S b X hb h)))
    (λ h. let z : length X ≡ 0 = omega arith in
    let t = eq-eqb (length X) 0 z in rw t (ap (chain E S) (sym (blocks_none b X hb z))))
    (cases_lt 0 (length X))
