-- Sixteen S-boxes over bits that are d places apart, on a state that is n pLayers behind.
use Rattle.std.proofs.Common.{◌≡◌, ℕ, ◌+◌, ◌*◌, ◌/◌, ◌%◌, ◌^◌, ◌<◌, List, [], ◌∷◌, get_or, sym, refl, ap, ◌∙◌, lt_of_le_of_lt, mod-lt, arith, pow_pos}
use lib.Bits.{bit_and, or_lt, and_le_r}
use Rattle.bits.specs.Digits.{bit, word}
use Rattle.bits.specs.Lanes.{lane, planes, gathered}
use Rattle.bits.proofs.Everywhere.{everywhere}
use Rattle.bits.proofs.Ext.{ext}
use Rattle.bits.proofs.Lanes.{Fit, Lifts, Is, four, found, wanted, lane_bit, lane_lt, substituted}
use Rattle.bits.proofs.Lift.{lift_outs}
use Rattle.present.specs.Present.{S, sBoxLayer}
use Rattle.present.specs.SBoxCircuit.{gates, places, circuit}
use Rattle.present.specs.RoundKeys.{pLayers}
use Rattle.present.proofs.LayerBits.{sources, pLayers_bit, pLayers_lt, S_lt, sBoxLayer_bit, sBoxLayer_lt, word_bit}

-- the circuit is the S-box
pub circuit_is : Is circuit S
unfolding circuit
circuit_is = everywhere [] 16 (λ v. circuit 1 (four v)) (λ v. four (S v)) refl

pub circuit_lifts : Lifts circuit
unfolding circuit
circuit_lifts o x y z t i = lift_outs places gates (x ∷ y ∷ z ∷ t ∷ o ∷ []) i

abbrev ones : ℕ
ones = 0xffff_ffff_ffff_ffff

pub fit_1 : Fit 64 16 (sources 0) 1 0x1111_1111_1111_1111 ones
fit_1 = everywhere [] 64 (found 64 (sources 0) 1 0x1111_1111_1111_1111 ones) (wanted (sources 0) 1) refl

pub fit_4 : Fit 64 16 (sources 1) 4 0x000f_000f_000f_000f ones
fit_4 = everywhere [] 64 (found 64 (sources 1) 4 0x000f_000f_000f_000f ones) (wanted (sources 1) 4) refl

pub fit_16 : Fit 64 16 (sources 2) 16 0xffff ones
fit_16 = everywhere [] 64 (found 64 (sources 2) 16 0xffff ones) (wanted (sources 2) 16) refl

gathered_lt : (d m : ℕ) (ys : List ℕ) → m < 2 ^ 64 → gathered 64 d m ys < 2 ^ 64
gathered_lt d m ys h =
    or_lt 64 _ _
    (or_lt 64 _ _ (or_lt 64 _ _ (lt_of_le_of_lt (and_le_r (get_or ys 0 0) m) h) (mod-lt (bit_and (get_or ys 1 0) m * 2 ^ d) (pow_pos 64))) (mod-lt (bit_and (get_or ys 2 0) m * 2 ^ (2 * d)) (pow_pos 64)))
    (mod-lt (bit_and (get_or ys 3 0) m * 2 ^ (3 * d)) (pow_pos 64))

lane_word : (n x i : ℕ) → i < 16 → lane (sources n) x i ≡ word (pLayers n x) i
lane_word n x i h =
    ext 4 (lane (sources n) x i) (word (pLayers n x) i) (lane_lt (sources n) x i) (mod-lt (pLayers n x / 16 ^ i) (omega arith))
    (λ k g. lane_bit (sources n) x i k g ∙ sym (pLayers_bit n x (4 * i + k) (omega arith)) ∙ sym (word_bit (pLayers n x) i k g))

pub behind : (n d m : ℕ) → Fit 64 16 (sources n) d m ones → m < 2 ^ 64 → (x : ℕ) → pLayers n (gathered 64 d m (circuit ones (planes d x))) ≡ sBoxLayer (pLayers n x)
behind n d m fit h x =
    let R : ℕ = gathered 64 d m (circuit ones (planes d x)) in
    let X : ℕ = pLayers n x in
    ext 64 (pLayers n R) (sBoxLayer X) (pLayers_lt n R (gathered_lt d m (circuit ones (planes d x)) h)) (sBoxLayer_lt X)
    (λ l g.
    let i : ℕ = l / 4 in let k : ℕ = l % 4 in
    let e : 4 * (l / 4) + l % 4 ≡ l = omega arith in
    let s : lane (sources n) R i ≡ S (word X i) =
    substituted 64 16 (sources n) d m ones fit circuit circuit_lifts S circuit_is (λ v _. S_lt v) x i (omega arith) ∙ ap S (lane_word n x i (omega arith)) in
    pLayers_bit n R l g ∙ ap (λ t. bit R (sources n t)) (sym e) ∙ sym (lane_bit (sources n) R i k (omega arith)) ∙ ap (λ v. bit v k) s
    ∙ sym (sBoxLayer_bit X i k (omega arith) (omega arith)) ∙ ap (bit (sBoxLayer X)) e)
