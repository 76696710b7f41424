-- The circuit is the S-box: antt runs it on each byte, and one lemma carries this to every lane.
use Rattle.std.proofs.Common.{◌≡◌, ℕ, ◌<◌, List, ◌∷◌, ◌++◌, get_or, sym, refl, ap, ◌∙◌, subst, ap₂}
use Rattle.bits.specs.Digits.{bit}
use Rattle.bits.specs.Circuit.{run, outs}
use Rattle.bits.specs.BytePlanes.{eight, byte_of, bits_of, lane, wires}
use Rattle.bits.proofs.Everywhere.{everywhere}
use Rattle.bits.proofs.Ext.{bit_lt}
use Rattle.bits.proofs.BytePlanes.{bits_wires, bits_append, lane_bits, bits_of_byte, byte_lt}
use Rattle.bits.proofs.Lift.{bits, wire_bits, lift_outs}
use Rattle.aes.specs.Sbox.{S}
use Rattle.aes_circuit.specs.SboxCircuit.{top_gates, low_outs, high_outs, sum_outs, low, high, sums, norm_gates, norm_outs, norm, inverse_gates, inverse_outs, inverse, products_gates, products_outs, products, bottom_gates, bottom_outs, bottom, finish, below, sboxes}

circuit_is : (x : ℕ) → x < 256 → byte_of (sboxes 1 (bits_of x)) ≡ S x
unfolding sboxes S
circuit_is = everywhere 0 256 (λ x. byte_of (sboxes 1 (bits_of x))) S refl

circuit_byte : (v : ℕ → ℕ) → ((j : ℕ) → v j < 2) → byte_of (sboxes 1 (eight v)) ≡ S (byte_of (eight v))
circuit_byte v h = sym (ap (λ q. byte_of (sboxes 1 q)) (bits_of_byte v h)) ∙ circuit_is (byte_of (eight v)) (byte_lt v h)

-- lane i of each stage
two_bits : (m n : ℕ) (p q : List ℕ) (i : ℕ) → bits i (wires m p ++ wires n q) ≡ wires m (bits i p) ++ wires n (bits i q)
two_bits m n p q i = bits_append (wires m p) (wires n q) i ∙ ap₂ ◌++◌ (bits_wires m p i) (bits_wires n q i)

top_bits : (ks : List ℕ) (p : List ℕ) (i : ℕ) → bits i (outs ks (run top_gates (wires 8 p))) ≡ outs ks (run top_gates (wires 8 (bits i p)))
top_bits ks p i = lift_outs ks top_gates (wires 8 p) i ∙ ap (λ e. outs ks (run top_gates e)) (bits_wires 8 p i)

norm_bits : (l h s : List ℕ) (i : ℕ) → bits i (norm l h s) ≡ norm (bits i l) (bits i h) (bits i s)
norm_bits l h s i =
    lift_outs norm_outs norm_gates (wires 9 l ++ (wires 9 h ++ wires 4 s)) i
    ∙ ap (λ e. outs norm_outs (run norm_gates e)) (bits_append (wires 9 l) (wires 9 h ++ wires 4 s) i ∙ ap₂ ◌++◌ (bits_wires 9 l i) (two_bits 9 4 h s i))

inverse_bits : (p : List ℕ) (i : ℕ) → bits i (inverse p) ≡ inverse (bits i p)
inverse_bits p i = lift_outs inverse_outs inverse_gates (wires 4 p) i ∙ ap (λ e. outs inverse_outs (run inverse_gates e)) (bits_wires 4 p i)

products_bits : (y t : List ℕ) (i : ℕ) → bits i (products y t) ≡ products (bits i y) (bits i t)
products_bits y t i =
    lift_outs products_outs products_gates (wires 9 y ++ wires 9 t) i ∙ ap (λ e. outs products_outs (run products_gates e)) (two_bits 9 9 y t i)

bottom_bits : (n : ℕ) (z w : List ℕ) (i : ℕ) → bits i (bottom n z w) ≡ bottom (bit n i) (bits i z) (bits i w)
bottom_bits n z w i =
    lift_outs bottom_outs bottom_gates (n ∷ (wires 9 z ++ wires 9 w)) i ∙ ap (λ e. outs bottom_outs (run bottom_gates (bit n i ∷ e))) (two_bits 9 9 z w i)

finish_bits : (n : ℕ) (l h t : List ℕ) (i : ℕ) → bits i (finish n l h t) ≡ finish (bit n i) (bits i l) (bits i h) (bits i t)
finish_bits n l h t i =
    bottom_bits n (products l t) (products h t) i ∙ ap₂ (bottom (bit n i)) (products_bits l t i) (products_bits h t i)

below_bits : (n : ℕ) (l h s : List ℕ) (i : ℕ) → bits i (below n l h s) ≡ below (bit n i) (bits i l) (bits i h) (bits i s)
below_bits n l h s i =
    finish_bits n l h (inverse (norm l h s)) i ∙ ap (finish (bit n i) (bits i l) (bits i h)) (inverse_bits (norm l h s) i ∙ ap inverse (norm_bits l h s i))

below_eq : (n : ℕ) {l h s l' h' s' : List ℕ} → l ≡ l' → h ≡ h' → s ≡ s' → below n l h s ≡ below n l' h' s'
below_eq n p q r = cc

sboxes_bits : (n : ℕ) (p : List ℕ) (i : ℕ) → bits i (sboxes n p) ≡ sboxes (bit n i) (bits i p)
unfolding sboxes
sboxes_bits n p i =
    below_bits n (low p) (high p) (sums p) i ∙ below_eq (bit n i) (top_bits low_outs p i) (top_bits high_outs p i) (top_bits sum_outs p i)

-- the stages one after another, as the code calls them
pub staged :
    (n : ℕ) (p : List ℕ) {l h s u t y z r : List ℕ} → l ≡ low p → h ≡ high p → s ≡ sums p → u ≡ norm l h s → t ≡ inverse u → y ≡ products l t → z ≡ products h t → r ≡ bottom n y z →
    r ≡ sboxes n p
unfolding sboxes
staged n p {l} {h} {s} {u} {t} {y} {z} {r} el eh es eu et ey ez er =
    er ∙ ap₂ (bottom n) ey ez ∙ ap (finish n l h) (et ∙ ap inverse eu) ∙ below_eq n el eh es

-- S in every lane where the word of ones has a one
pub sboxes_lane : (n : ℕ) (p : List ℕ) (i : ℕ) → bit n i ≡ 1 → lane (sboxes n p) i ≡ S (lane p i)
unfolding sboxes
sboxes_lane n p i one =
    let v : ℕ → ℕ = λ j. get_or (bits i p) j 0 in
    let h : (j : ℕ) → v j < 2 = λ j. subst (λ x. x < 2) (wire_bits p j i) (bit_lt (get_or p j 0) i) in
    lane_bits (sboxes n p) i ∙ ap byte_of (sboxes_bits n p i ∙ ap (λ b. sboxes b (bits i p)) one)
    ∙ circuit_byte v h ∙ ap S (sym (lane_bits p i))
