-- What the steps on one block leave.
use Rattle.std.proofs.Common.{◌≡◌, ℕ, zero, suc, ◌+◌, ◌-◌, ◌/◌, ◌%◌, ◌<◌, ◌≤◌, min, ◌^◌, [], ◌∷◌, ◌++◌, length, get_or, take, drop, set, replicate, sym, refl, ap, ◌∙◌, ⊎_elim, arith, length-append, length-drop, length-set, length-take}
use lib.ListN.{length-replicate}
use native.Mathlib.Nat.{pow-succ', div-div-eq-div-mul, div-eq_of_lt, pow-le-pow_right}
use Rattle.std.specs.Int.{byte_at, bytes_high_first}
use lib.Bits.{bit_xor}
use borrow.Rule.Slice.PartMut.{put_mid}
use Rattle.std.proofs.lemmas.List.{append-nil, append_assoc, take_more_set, take-append-drop, take-replicate, nil_from_length, take_all, drop_all, get_or_at, set_at}
use Rattle.std.proofs.lemmas.Bool.{cases_lt, lt-ltb, le-ltb}
use Rattle.blocks.specs.Blocks.{Bytes, ◌⊕◌}
use Rattle.blocks.specs.Pads.{ozp, zpp, str}
use Rattle.blocks.specs.Words.{g}
use Rattle.blocks.proofs.Xors.{xor_zeros, xor_append, zeros_xor}

pub length_ozp : (b : ℕ) (X : Bytes) → length X ≤ b → length (ozp b X) ≡ b
length_ozp b X h = ⊎_elim
    (λ k. let t = lt-ltb (length X) b k in
    rw t (length-append X (128 ∷ replicate (b - length X - 1) 0) ∙ (let r = length-replicate {A = ℕ} (b - length X - 1) 0 in let z : length X + suc (length (replicate {A = ℕ} (b - length X - 1) 0)) ≡ b = omega arith in z)))
    (λ k. let t = le-ltb (length X) b k in rw t (let z : length X ≡ b = omega arith in z))
    (cases_lt (length X) b)

-- a block of zeros takes ozp X in
pub laid : (b : ℕ) (F X : Bytes) → length X ≤ b → F ≡ replicate b 0 → F ⊕ ozp b X ≡ ozp b X
laid b F X h f = ap (λ q. q ⊕ ozp b X) f ∙ zeros_xor b (ozp b X) (length_ozp b X h)

ozp_cons : (b p : ℕ) (N : Bytes) → ozp (suc b) (p ∷ N) ≡ p ∷ ozp b N
ozp_cons b p N = ⊎_elim
    (λ k. let t = lt-ltb (length N) b k in
    let u = lt-ltb (suc (length N)) (suc b) (omega arith) in
    let z : suc b - suc (length N) - 1 ≡ b - length N - 1 = omega arith in
    let l : ozp (suc b) (p ∷ N) ≡ p ∷ (N ++ (128 ∷ replicate (suc b - suc (length N) - 1) 0)) = rw u in
    let r : ozp b N ≡ N ++ (128 ∷ replicate (b - length N - 1) 0) = rw t in
    l ∙ ap (λ m. p ∷ (N ++ (128 ∷ replicate m 0))) z ∙ ap (λ Z. p ∷ Z) (sym r))
    (λ k. let t = le-ltb (length N) b k in
    let u = le-ltb (suc (length N)) (suc b) (omega arith) in
    let l : ozp (suc b) (p ∷ N) ≡ p ∷ N = rw u in
    let r : ozp b N ≡ N = rw t in
    l ∙ ap (λ Z. p ∷ Z) (sym r))
    (cases_lt (length N) b)

-- the parameter goes into the first byte, and the nonce behind it
pub nonce_in : (B N Q : Bytes) (param : ℕ) → length N < length B →
    Q ≡ take (length (set B 0 (bit_xor (get_or B 0 0) param)) - 1) (drop 1 (set B 0 (bit_xor (get_or B 0 0) param))) ⊕ ozp (length (take (length (set B 0 (bit_xor (get_or B 0 0) param)) - 1) (drop 1 (set B 0 (bit_xor (get_or B 0 0) param))))) N →
    put_mid 1 (length (set B 0 (bit_xor (get_or B 0 0) param)) - 1) (set B 0 (bit_xor (get_or B 0 0) param)) Q ≡ B ⊕ ozp (length B) (param ∷ N)
nonce_in [] N Q param h e = absurd (omega arith)
nonce_in (x ∷ S) N Q param h e =
    let k = suc (length S) - 1 in
    let t : take k S ≡ S = take_all k S (omega arith) in
    let q : Q ≡ S ⊕ ozp (length S) N = e ∙ ap (λ Z. Z ⊕ ozp (length Z) N) t in
    let d : drop k S ≡ [] = drop_all k S (omega arith) in
    ap (λ Z. bit_xor x param ∷ (Q ++ Z)) d ∙ ap (λ Z. bit_xor x param ∷ Z) (append-nil Q ∙ q)
    ∙ ap (λ Z. (x ∷ S) ⊕ Z) (sym (ozp_cons (length S) param N))

-- zeros, the parameter, the nonce
pub started : (B F N P : Bytes) (param k : ℕ) → length N < length B → F ≡ replicate (length B) 0 → P ≡ N → length F - (length F - length N) ≤ k →
    put_mid (length F - length N) k (set F (length F - length N - 1) param) P ≡ zpp (length B) (param ∷ N)
started B F N P param k h f p hk =
    let b = length B in
    let j = b - suc (length N) in
    let at = length F - length N in
    let lf : length F ≡ b = ap length f ∙ length-replicate b 0 in
    let ea : at ≡ j + 1 = omega arith in
    let eb : j + 1 - 1 ≡ j = omega arith in
    let xs = set F (at - 1) param in
    let t1 : take at xs ≡ replicate j 0 ++ (param ∷ []) =
    ap (λ a. take a (set F (a - 1) param)) ea ∙ ap (λ i. take (j + 1) (set F i param)) eb ∙ take_more_set F j param (omega arith)
    ∙ ap (λ Z. take j Z ++ (param ∷ [])) f ∙ ap (λ Z. Z ++ (param ∷ [])) (take-replicate j b 0 (omega arith)) in
    let t2 : drop k (drop at xs) ≡ [] = nil_from_length (drop k (drop at xs))
    (length-drop k (drop at xs) ∙ (let q : length (drop at xs) ≡ length F - at = length-drop at xs ∙ ap (λ n. n - at) (length-set F (at - 1) param) in let z : length (drop at xs) - k ≡ 0 = omega arith in z)) in
    ap (λ Z. Z ++ (P ++ drop k (drop at xs))) t1
    ∙ ap (λ Z. (replicate j 0 ++ (param ∷ [])) ++ (P ++ Z)) t2
    ∙ ap (λ Z. (replicate j 0 ++ (param ∷ [])) ++ Z) (append-nil P ∙ p)
    ∙ append_assoc (replicate j 0) (param ∷ []) N

pub length_str : (b n : ℕ) → length (str b n) ≡ b
length_str zero n = refl
length_str (suc b) n = length-append (str b (n / 256)) (n % 256 ∷ []) ∙ (let q = length_str b (n / 256) in let z : length (str b (n / 256)) + 1 ≡ suc b = omega arith in z)

-- the bytes of a number one more: the lowest stands behind those of the rest
high_more : (k n : ℕ) → bytes_high_first (suc k) n ≡ bytes_high_first k (n / 256) ++ (n % 256 ∷ [])
high_more zero n = refl
high_more (suc k) n = ap (λ z. z ∷ bytes_high_first (suc k) n) (shifted k) ∙ ap (λ Z. byte_at k (n / 256) ∷ Z) (high_more k n)
  where
    shifted : (k : ℕ) → byte_at (suc k) n ≡ byte_at k (n / 256)
    shifted zero = refl
    shifted (suc k) = ap (λ z. n / z % 256) (pow-succ' 256 (suc k)) ∙ ap (λ z. z % 256) (sym (div-div-eq-div-mul n 256 (256 ^ suc k)))

str_high : (b n : ℕ) → str b n ≡ bytes_high_first b n
str_high zero n = refl
str_high (suc b) n = ap (λ Z. Z ++ (n % 256 ∷ [])) (str_high b (n / 256)) ∙ sym (high_more b n)

-- without the highest bytes, and with zeros above
high_drop : (j m b n : ℕ) → m ≡ j + b → drop j (bytes_high_first m n) ≡ bytes_high_first b n
high_drop zero m b n e = ap (λ k. bytes_high_first k n) (let z : m ≡ b = omega arith in z)
high_drop (suc j) zero b n e = absurd (omega arith)
high_drop (suc j) (suc m) b n e = high_drop j m b n (omega arith)

high_zeros : (j m n : ℕ) → m ≡ j + 8 → n < 256 ^ 8 → bytes_high_first m n ≡ replicate j 0 ++ bytes_high_first 8 n
high_zeros zero m n e h = ap (λ k. bytes_high_first k n) (let z : m ≡ 8 = omega arith in z)
high_zeros (suc j) zero n e h = absurd (omega arith)
high_zeros (suc j) (suc zero) n e h = absurd (omega arith)
high_zeros (suc j) (suc (suc m)) n e h =
    let p = pow-le-pow_right {n = 256} (omega arith) {i = 8} {j = suc m} (omega arith) in
    let d : n / 256 ^ suc m ≡ 0 = div-eq_of_lt (omega arith) in
    ap (λ z. z % 256 ∷ bytes_high_first (suc m) n) d ∙ ap (λ Z. 0 ∷ Z) (high_zeros j (suc m) n (omega arith) h)

-- a number below 2 ^ 64 as a block of b bytes, of which 8 or fewer are its bytes
str_end : (b n k : ℕ) → n < 256 ^ 8 → k ≡ min b 8 → str b n ≡ replicate (b - k) 0 ++ drop (8 - k) (bytes_high_first 8 n)
str_end b n k h e = str_high b n ∙ ⊎_elim few many (cases_lt b 8)
  where
    few : b < 8 → bytes_high_first b n ≡ replicate (b - k) 0 ++ drop (8 - k) (bytes_high_first 8 n)
    few l = let z : b - k ≡ 0 = omega arith in rw z (sym (high_drop (8 - k) 8 b n (omega arith)))

    many : 8 ≤ b → bytes_high_first b n ≡ replicate (b - k) 0 ++ drop (8 - k) (bytes_high_first 8 n)
    many l = let z : 8 - k ≡ 0 = omega arith in rw z (high_zeros (b - k) b n (omega arith) h)

-- the last k bytes of a block take Y in
pub taken_in : (B Q Y : Bytes) (k : ℕ) → Q ≡ take (length B - (length B - k)) (drop (length B - k) B) ⊕ Y →
    put_mid (length B - k) (length B - (length B - k)) B Q ≡ B ⊕ (replicate (length B - k) 0 ++ Y)
taken_in B Q Y k e =
    let b = length B in
    let at = b - k in
    let l : length (drop at B) ≡ b - at = length-drop at B in
    let t : take (b - at) (drop at B) ≡ drop at B = take_all (b - at) (drop at B) (omega arith) in
    let d : drop (b - at) (drop at B) ≡ [] = drop_all (b - at) (drop at B) (omega arith) in
    let n : length (take at B) ≡ length (replicate {A = ℕ} at 0) = (let x = length-take at B in let y = length-replicate {A = ℕ} at 0 in omega arith) in
    ap (λ Z. take at B ++ (Q ++ Z)) d ∙ ap (λ Z. take at B ++ Z) (append-nil Q ∙ e ∙ ap (λ Z. Z ⊕ Y) t)
    ∙ ap (λ Z. Z ++ (drop at B ⊕ Y)) (sym (xor_zeros at (take at B)))
    ∙ sym (xor_append (take at B) (replicate at 0) (drop at B) Y n)
    ∙ ap (λ Z. Z ⊕ (replicate at 0 ++ Y)) (take-append-drop at B)

pub number_in : (B Q : Bytes) (n k : ℕ) → n < 256 ^ 8 → k ≡ min (length B) 8 →
    Q ≡ take (length B - (length B - k)) (drop (length B - k) B) ⊕ drop (8 - k) (bytes_high_first 8 n) →
    put_mid (length B - k) (length B - (length B - k)) B Q ≡ B ⊕ str (length B) n
number_in B Q n k h e q = taken_in B Q _ k q ∙ ap (λ Z. B ⊕ Z) (sym (str_end (length B) n k h e))

-- turned one place to the left, with the exclusive or of the first two at the end
pub g_turned : (X R : Bytes) → 2 ≤ length X → R ≡ drop 1 X ++ take 1 X → set R (length X - 1) (bit_xor (get_or R (length X - 1) 0) (get_or R 0 0)) ≡ g X
g_turned [] R n e = absurd (omega arith)
g_turned (x ∷ []) R n e = absurd (omega arith)
g_turned (x ∷ (y ∷ X)) R n e =
    let z : suc (suc (length X)) - 1 ≡ suc (length X) = omega arith in
    rw (e, z) (ap (λ v. set ((y ∷ X) ++ (x ∷ [])) (suc (length X)) (bit_xor v y)) (get_or_at (y ∷ X) x [] 0 (suc (length X)) refl)
    ∙ set_at (y ∷ X) x [] (bit_xor x y) (suc (length X)) refl)
