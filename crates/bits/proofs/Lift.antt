-- The lifting lemma, once for every circuit: taking bit i of every wire commutes with running the circuit.
use Rattle.std.proofs.Common.{◌≡◌, ℕ, zero, suc, ◌%◌, ◌^◌, List, [], ◌∷◌, map, refl, ap, ◌∙◌, ap₂}
use native.Mathlib.Nat.{zero-div}
use lib.Bits.{bit_and, bit_or, bit_xor}
use Rattle.bits.specs.Circuit.{Gate, xor, and, or, wire, gate, run, outs}
use Rattle.bits.specs.Digits.{bit}
use Rattle.bits.proofs.Ext.{bit_of_xor, bit_of_and, bit_of_or}

abbrev pub bits : ℕ → List ℕ → List ℕ
bits i env = map (λ w. bit w i) env

pub wire_bits : (env : List ℕ) (k i : ℕ) → bit (wire env k) i ≡ wire (bits i env) k
wire_bits [] k i = ap (λ x. x % 2) (zero-div (2 ^ i))
wire_bits (x ∷ xs) zero i = refl
wire_bits (x ∷ xs) (suc k) i = wire_bits xs k i

pub gate_bits : (g : Gate) (env : List ℕ) (i : ℕ) → bit (gate g env) i ≡ gate g (bits i env)
gate_bits (xor j k) env i = bit_of_xor (wire env j) (wire env k) i ∙ ap₂ bit_xor (wire_bits env j i) (wire_bits env k i)
gate_bits (and j k) env i = bit_of_and (wire env j) (wire env k) i ∙ ap₂ bit_and (wire_bits env j i) (wire_bits env k i)
gate_bits (or j k) env i = bit_of_or (wire env j) (wire env k) i ∙ ap₂ bit_or (wire_bits env j i) (wire_bits env k i)

pub lift : (c : List Gate) (env : List ℕ) (i : ℕ) → bits i (run c env) ≡ run c (bits i env)
lift [] env i = refl
lift (g ∷ gs) env i = lift gs (gate g env ∷ env) i ∙ ap (λ x. run gs (x ∷ bits i env)) (gate_bits g env i)

pub lift_wire : (c : List Gate) (env : List ℕ) (k i : ℕ) → bit (wire (run c env) k) i ≡ wire (run c (bits i env)) k
lift_wire c env k i = wire_bits (run c env) k i ∙ ap (λ e. wire e k) (lift c env i)

pub lift_outs : (ks : List ℕ) (c : List Gate) (env : List ℕ) (i : ℕ) → bits i (outs ks (run c env)) ≡ outs ks (run c (bits i env))
lift_outs [] c env i = refl
lift_outs (k ∷ ks) c env i = ap₂ (λ x xs. x ∷ xs) (lift_wire c env k i) (lift_outs ks c env i)
