-- Words put into lanes, and taken out.
use Rattle.std.proofs.Common.{◌≡◌, ℕ, zero, suc, ◌+◌, ◌*◌, ◌/◌, ◌%◌, ◌^◌, ◌<◌, cond, eqb, List, [], ◌∷◌, length, get_or, sym, refl, ap, ◌∙◌, arith}
use lib.Bits.{bit_xor, xor_zero_l}
use Rattle.bits.specs.Digits.{bit}
use Rattle.bits.specs.Lanes.{lane}
use Rattle.bits.specs.Linear.{value}
use Rattle.bits.specs.Nibbles.{each}
use Rattle.bits.proofs.Everywhere.{everywhere}
use Rattle.bits.proofs.Ext.{ext, bit_shr}
use Rattle.bits.proofs.Lanes.{lane_bit, lane_lt, lanes_are, each_at, xors, filled}
use Rattle.bits.proofs.Listed.{below_at}
use Rattle.twine.specs.Split.{Nibbles}
use Rattle.twine_circuit.specs.Halves.{place, lanes, spreading}

-- a word spread and shifted by j stands in lane j: computed at each word and each j
alone : (t : ℕ) → t < 128 → each 8 (lane place (value 32 spreading (t % 16) * 2 ^ (t / 16) % 2 ^ 32)) ≡ each 8 (λ i. cond (eqb (t / 16) i) (t % 16) 0)
unfolding lane
alone = everywhere [] 128 (λ t. each 8 (lane place (value 32 spreading (t % 16) * 2 ^ (t / 16) % 2 ^ 32))) (λ t. each 8 (λ i. cond (eqb (t / 16) i) (t % 16) 0)) refl

shifted : (v j i : ℕ) → v < 16 → j < 8 → i < 8 → lane place (value 32 spreading v * 2 ^ j % 2 ^ 32) i ≡ cond (eqb j i) v 0
shifted v j i hv hj hi =
    let a : (16 * j + v) % 16 ≡ v = omega arith in
    let b : (16 * j + v) / 16 ≡ j = omega arith in
    let e = alone (16 * j + v) (omega arith) in
    let f : each 8 (lane place (value 32 spreading v * 2 ^ j % 2 ^ 32)) ≡ each 8 (λ i. cond (eqb j i) v 0) =
    sym (ap (λ n. each 8 (lane place (value 32 spreading n * 2 ^ ((16 * j + v) / 16) % 2 ^ 32))) a ∙ ap (λ n. each 8 (lane place (value 32 spreading v * 2 ^ n % 2 ^ 32))) b)
    ∙ e ∙ ap (λ n. each 8 (λ i. cond (eqb ((16 * j + v) / 16) i) n 0)) a ∙ ap (λ n. each 8 (λ i. cond (eqb n i) v 0)) b in
    each_at 8 (lane place (value 32 spreading v * 2 ^ j % 2 ^ 32)) (λ i. cond (eqb j i) v 0) f i hi

-- the sum of the first i words of n, each spread and shifted into its lane
abbrev placed : List ℕ → ℕ → ℕ
placed n j = value 32 spreading (get_or n j 0) * 2 ^ j % 2 ^ 32

abbrev pub first : List ℕ → ℕ → ℕ
first n zero = 0
first n (suc i) = bit_xor (first n i) (placed n i)

first_xors : (n : List ℕ) (i : ℕ) → first n (suc i) ≡ xors i (placed n)
first_xors n zero = xor_zero_l (placed n 0)
first_xors n (suc i) = ap (λ v. bit_xor v (placed n (suc i))) (first_xors n i)

pub packed_are : (n : List ℕ) → length n ≡ 8 → Nibbles n → (x : ℕ) → x ≡ first n 8 → lanes x ≡ n
packed_are n e small x ex =
    lanes_are place 8 x n e
    (λ i h. ap (λ y. lane place y i) (ex ∙ first_xors n 7)
    ∙ filled place 7 (placed n) (λ j. get_or n j 0) (λ j k hj hk. shifted (get_or n j 0) j k (small j) (omega arith) (omega arith)) i (omega arith))

-- a lane, shifted into lane 0
pub brought : (x j : ℕ) → lane place (x / 2 ^ j) 0 ≡ lane place x j
brought x j =
    ext 4 (lane place (x / 2 ^ j) 0) (lane place x j) (lane_lt place (x / 2 ^ j) 0) (lane_lt place x j)
    (λ k h. let e : j + place (4 * 0 + k) ≡ place (4 * j + k) = omega arith in
    lane_bit place (x / 2 ^ j) 0 k h ∙ bit_shr x j (place (4 * 0 + k)) ∙ ap (bit x) e ∙ sym (lane_bit place x j k h))

pub eight_small :
    {a b c d e f g h : ℕ} → a < 16 → b < 16 → c < 16 → d < 16 → e < 16 → f < 16 → g < 16 → h < 16 → Nibbles (a ∷ b ∷ c ∷ d ∷ e ∷ f ∷ g ∷ h ∷ [])
eight_small {a} {b} {c} {d} {e} {f} {g} {h} p q r s t u v w = below_at 16 (omega arith) (a ∷ b ∷ c ∷ d ∷ e ∷ f ∷ g ∷ h ∷ []) (p, (q, (r, (s, (t, (u, (v, (w, tt))))))))
