-- A round on all lanes at once.
use Rattle.std.proofs.Common.{◌≡◌, ℕ, ◌-◌, ◌^◌, ◌<◌, List, [], ◌∷◌, get_or, refl, ap, ◌∙◌, ap₂, arith}
use lib.Bits.{bit_xor, xor_comm}
use Rattle.bits.specs.Lanes.{lane, planes, gathered}
use Rattle.bits.specs.Linear.{value}
use Rattle.bits.proofs.Everywhere.{everywhere}
use Rattle.bits.proofs.Lanes.{Fit, Lifts, Is, four, found, wanted, substituted as lane-substituted, lane_xor, lanes_agree}
use Rattle.bits.proofs.Lift.{lift_outs}
use Rattle.bits.proofs.Listed.{sixteen_eq}
use Rattle.twine_circuit.specs.declared.halves.Halves.{Halves}
use Rattle.twine.specs.Twine.{S, permuted, substituted}
use Rattle.twine_circuit.specs.SBoxCircuit.{gates, places, circuit}
use Rattle.twine_circuit.specs.Halves.{place, words, key_words, turning, crossing}

-- the circuit is the S-box
pub circuit_is : Is circuit S
unfolding circuit
circuit_is = everywhere [] 16 (λ v. circuit 1 (four v)) (λ v. four (S v)) refl

pub circuit_lifts : Lifts circuit
unfolding circuit
circuit_lifts o x y z t i = lift_outs places gates (x ∷ y ∷ z ∷ t ∷ o ∷ []) i

pub S_small : (v : ℕ) → v < 16 → S v < 16
S_small v h = let z : S v - 15 ≡ 0 = everywhere 0 16 (λ k. S k - 15) (λ k. 0) refl v h in omega arith

fits : Fit 32 8 place 8 0xff 0xffff_ffff
fits = everywhere [] 32 (found 32 place 8 0xff 0xffff_ffff) (wanted place 8) refl

pub sub_lane : (x : ℕ) (ys : List ℕ) → ys ≡ circuit 0xffff_ffff (planes 8 x) → (i : ℕ) → i < 8 → lane place (gathered 32 8 0xff ys) i ≡ S (lane place x i)
sub_lane x ys e i h =
    ap (λ v. lane place (gathered 32 8 0xff v) i) e ∙ lane-substituted 32 8 place 8 0xff 0xffff_ffff fits circuit circuit_lifts S circuit_is S_small x i h

-- the lanes that the two moves take their words from
abbrev behind : ℕ → ℕ
behind i = get_or (3 ∷ 0 ∷ 1 ∷ 2 ∷ 7 ∷ 4 ∷ 5 ∷ 6 ∷ []) i 0

abbrev across : ℕ → ℕ
across i = get_or (0 ∷ 5 ∷ 2 ∷ 7 ∷ 6 ∷ 3 ∷ 4 ∷ 1 ∷ []) i 0

turned_lane : (x : ℕ) → x < 2 ^ 32 → (i : ℕ) → i < 8 → lane place (value 32 turning x) i ≡ lane place x (behind i)
unfolding lane
turned_lane = lanes_agree 32 8 place turning (λ i x. lane place x (behind i)) (λ i. lane_xor place (behind i)) refl

crossed_lane : (x : ℕ) → x < 2 ^ 32 → (i : ℕ) → i < 8 → lane place (value 32 crossing x) i ≡ lane place x (across i)
unfolding lane
crossed_lane = lanes_agree 32 8 place crossing (λ i x. lane place x (across i)) (λ i. lane_xor place (across i)) refl

across_small : (i : ℕ) → i < 8 → across i < 8
across_small i h = let z : across i - 7 ≡ 0 = everywhere 0 8 (λ k. across k - 7) (λ k. 0) refl i h in omega arith

module _ (x : Halves) (key s n : ℕ) (hr : x.right < 2 ^ 32) (hs : s < 2 ^ 32) (sub : (i : ℕ) → i < 8 → lane place s i ≡ S (lane place (bit_xor x.left key) i))
    (is : n ≡ bit_xor (value 32 turning x.right) (value 32 crossing s)) where
  new : (i : ℕ) → i < 8 → lane place n i ≡ bit_xor (S (bit_xor (lane place x.left (across i)) (lane place key (across i)))) (lane place x.right (behind i))
  new i h =
      ap (λ v. lane place v i) is ∙ lane_xor place i (value 32 turning x.right) (value 32 crossing s)
      ∙ ap₂ bit_xor (turned_lane x.right hr i h) (crossed_lane s hs i h ∙ sub (across i) (across_small i h) ∙ ap S (lane_xor place (across i) x.left key))
      ∙ xor_comm (lane place x.right (behind i)) (S (bit_xor (lane place x.left (across i)) (lane place key (across i))))

  pub round_is : words (record { left = n; right = x.left }) ≡ permuted (substituted (key_words key) (words x))
  round_is =
      sixteen_eq (new 0 (omega arith)) refl (new 3 (omega arith)) refl (new 5 (omega arith)) refl (new 4 (omega arith)) refl (new 6 (omega arith)) refl (new 7 (omega arith)) refl
      (new 1 (omega arith)) refl (new 2 (omega arith)) refl
