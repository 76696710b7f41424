-- The columns of the state after a round, as words, by the tables.
use Rattle.std.proofs.Common.{◌≡◌, ℕ, ◌+◌, ◌*◌, ◌/◌, ◌%◌, ◌^◌, ◌<◌, ◌≤◌, T, leb, List, [], ◌∷◌, map, length, get_or, sym, refl, ap, ◌∙◌, subst, ⊎_elim, arith}
use lib.Bits.{xor_shr, xor_mod}
use Rattle.std.specs.List.{range_with_len}
use Rattle.std.proofs.lemmas.List.FromFn.{get_or-map-range_with_len, fill_by_all}
use Rattle.std.proofs.lemmas.List.{get_or_past}
use Rattle.std.proofs.lemmas.Bool.{cases_lt}
use Rattle.bits.proofs.Table.{both, every, table_le}
use Rattle.aes.specs.Field.{x_times, times, ◌•◌, ◌⊕◌}
use Rattle.aes.specs.Sbox.{S, sbox}
use Rattle.aes.specs.Fips197.{byte, pack, key_word, mixed, state_of}
use Rattle.aes.specs.Rounds.{columns_of, plus, round, last_round}
use Rattle.aes.specs.Tables.{te0, te1, te2, te3}

-- what S and the two products of MixColumns give is a byte: by computation at each byte
S_le : (x : ℕ) → S x ≤ 255
unfolding S
S_le x =
    ⊎_elim (λ l. table_le 255 256 sbox x l tt) (λ g. subst (λ t. t ≤ 255) (sym (get_or_past sbox x 0 g)) (omega arith)) (cases_lt x 256)

abbrev multiples : ℕ → List ℕ
multiples a = map (◌•◌ a) (range_with_len 0 256)

product_le : (a : ℕ) → T (both (leb 256 (length (multiples a))) (every (λ i x. leb x 255) 0 (multiples a))) → (x : ℕ) → x ≤ 255 → a • x ≤ 255
product_le a t x l =
    let h : x < 256 = omega arith in
    subst (λ t. t ≤ 255) (get_or-map-range_with_len (◌•◌ a) 0 256 x x 0 h (omega arith)) (table_le 255 256 (multiples a) x h t)

double_le : (x : ℕ) → 0x02 • S x ≤ 255
unfolding x_times times
double_le x = product_le 0x02 tt (S x) (S_le x)

triple_le : (x : ℕ) → 0x03 • S x ≤ 255
unfolding x_times times
triple_le x = product_le 0x03 tt (S x) (S_le x)

-- a byte of a sum of words is the sum of their bytes
byte_xor : (x y k : ℕ) → (x ⊕ y) / 2 ^ k % 256 ≡ (x / 2 ^ k % 256) ⊕ (y / 2 ^ k % 256)
byte_xor x y k = ap (λ t. t % 256) (xor_shr x y k) ∙ xor_mod (x / 2 ^ k) (y / 2 ^ k) 8

-- the same of five words, the bytes of four of which are known
byte_xor_five :
    (x y z u v k : ℕ) {a b c d : ℕ} → x / 2 ^ k % 256 ≡ a → y / 2 ^ k % 256 ≡ b → z / 2 ^ k % 256 ≡ c → u / 2 ^ k % 256 ≡ d →
    (x ⊕ y ⊕ z ⊕ u ⊕ v) / 2 ^ k % 256 ≡ a ⊕ b ⊕ c ⊕ d ⊕ (v / 2 ^ k % 256)
byte_xor_five x y z u v k ha hb hc hd =
    let e = byte_xor x y k in let f = byte_xor (x ⊕ y) z k in let g = byte_xor (x ⊕ y ⊕ z) u k in let h = byte_xor (x ⊕ y ⊕ z ⊕ u) v k in cc

-- a word has these four bytes
abbrev Bytes : ℕ → ℕ → ℕ → ℕ → ℕ → Type 0
Bytes w a b c d = (byte w 0 ≡ a) × (byte w 1 ≡ b) × (byte w 2 ≡ c) × (byte w 3 ≡ d)

pack_bytes : (a b c d : ℕ) → a ≤ 255 → b ≤ 255 → c ≤ 255 → d ≤ 255 → Bytes (pack a b c d) a b c d
pack_bytes a b c d ha hb hc hd = (omega arith, omega arith, omega arith, omega arith)

-- the same with a word of the key added
added_bytes : (a b c d k : ℕ) → a ≤ 255 → b ≤ 255 → c ≤ 255 → d ≤ 255 → Bytes (pack a b c d ⊕ k) (a ⊕ byte k 0) (b ⊕ byte k 1) (c ⊕ byte k 2) (d ⊕ byte k 3)
added_bytes a b c d k ha hb hc hd =
    let P = pack_bytes a b c d ha hb hc hd in (
      byte_xor (pack a b c d) k 24 ∙ ap (λ x. x ⊕ byte k 0) P.0,
      byte_xor (pack a b c d) k 16 ∙ ap (λ x. x ⊕ byte k 1) P.1,
      byte_xor (pack a b c d) k 8 ∙ ap (λ x. x ⊕ byte k 2) P.2,
      byte_xor (pack a b c d) k 0 ∙ ap (λ x. x ⊕ byte k 3) P.3,
    )

-- row r of a column whose bytes were p, q, u, v, after SubBytes, MixColumns and AddRoundKey
abbrev entry : ℕ → ℕ → ℕ → ℕ → ℕ → ℕ → ℕ
entry p q u v k r = mixed (S p) (S q) (S u) (S v) r ⊕ byte k r

table_bytes : (p q u v k : ℕ) → Bytes (te0 p ⊕ te1 q ⊕ te2 u ⊕ te3 v ⊕ k) (entry p q u v k 0) (entry p q u v k 1) (entry p q u v k 2) (entry p q u v k 3)
unfolding te0 te1 te2 te3
table_bytes p q u v k =
    let P = pack_bytes (0x02 • S p) (S p) (S p) (0x03 • S p) (double_le p) (S_le p) (S_le p) (triple_le p) in
    let Q = pack_bytes (0x03 • S q) (0x02 • S q) (S q) (S q) (triple_le q) (double_le q) (S_le q) (S_le q) in
    let U = pack_bytes (S u) (0x03 • S u) (0x02 • S u) (S u) (S_le u) (triple_le u) (double_le u) (S_le u) in
    let V = pack_bytes (S v) (S v) (0x03 • S v) (0x02 • S v) (S_le v) (S_le v) (triple_le v) (double_le v) in (
      byte_xor_five (te0 p) (te1 q) (te2 u) (te3 v) k 24 P.0 Q.0 U.0 V.0,
      byte_xor_five (te0 p) (te1 q) (te2 u) (te3 v) k 16 P.1 Q.1 U.1 V.1,
      byte_xor_five (te0 p) (te1 q) (te2 u) (te3 v) k 8 P.2 Q.2 U.2 V.2,
      byte_xor_five (te0 p) (te1 q) (te2 u) (te3 v) k 0 P.3 Q.3 U.3 V.3,
    )

-- a column after a round, from the columns before it, and after the last round
abbrev mixed_column : ℕ → ℕ → ℕ → ℕ → ℕ → ℕ
mixed_column a b c d k = te0 (byte a 0) ⊕ te1 (byte b 1) ⊕ te2 (byte c 2) ⊕ te3 (byte d 3) ⊕ k

abbrev last_column : ℕ → ℕ → ℕ → ℕ → ℕ → ℕ
last_column a b c d k = pack (S (byte a 0)) (S (byte b 1)) (S (byte c 2)) (S (byte d 3)) ⊕ k

-- a state from the bytes of its columns
gathered :
    (a b c d : ℕ) {p q r s e f g h i j k l t u v w : ℕ} → Bytes a p q r s → Bytes b e f g h → Bytes c i j k l → Bytes d t u v w →
    p ∷ q ∷ r ∷ s ∷ e ∷ f ∷ g ∷ h ∷ i ∷ j ∷ k ∷ l ∷ t ∷ u ∷ v ∷ w ∷ [] ≡ state_of (a ∷ b ∷ c ∷ d ∷ [])
gathered a b c d x y z o = cc

-- the columns of a state give it back
pub columns_back : (s : List ℕ) → length s ≡ 16 → ((i : ℕ) → get_or s i 0 < 256) → state_of (columns_of s) ≡ s
columns_back s n small =
    let le : (i : ℕ) → get_or s i 0 ≤ 255 = λ i. omega (arith, small i) in
    let column : (c : ℕ) → Bytes (key_word s c) (get_or s (4 * c) 0) (get_or s (4 * c + 1) 0) (get_or s (4 * c + 2) 0) (get_or s (4 * c + 3) 0)
    = λ c. pack_bytes (get_or s (4 * c) 0) (get_or s (4 * c + 1) 0) (get_or s (4 * c + 2) 0) (get_or s (4 * c + 3) 0) (le (4 * c)) (le (4 * c + 1)) (le (4 * c + 2)) (le (4 * c + 3)) in
    sym (fill_by_all (λ i. get_or s i 0) s 16 0 n (λ k h. refl) ∙ gathered _ _ _ _ (column 0) (column 1) (column 2) (column 3))

-- the state of the columns a to d and a round key i to l, after each kind of step
module _ (a b c d i j k l : ℕ) where
  pub plus_is : state_of ((a ⊕ i) ∷ (b ⊕ j) ∷ (c ⊕ k) ∷ (d ⊕ l) ∷ []) ≡ plus (state_of (a ∷ b ∷ c ∷ d ∷ [])) (state_of (i ∷ j ∷ k ∷ l ∷ []))
  plus_is =
      let sum : (x y : ℕ) → Bytes (x ⊕ y) (byte x 0 ⊕ byte y 0) (byte x 1 ⊕ byte y 1) (byte x 2 ⊕ byte y 2) (byte x 3 ⊕ byte y 3)
      = λ x y. (byte_xor x y 24, byte_xor x y 16, byte_xor x y 8, byte_xor x y 0) in
      sym (gathered _ _ _ _ (sum a i) (sum b j) (sum c k) (sum d l))

  pub round_is :
      state_of (mixed_column a b c d i ∷ mixed_column b c d a j ∷ mixed_column c d a b k ∷ mixed_column d a b c l ∷ []) ≡
      round (state_of (i ∷ j ∷ k ∷ l ∷ [])) (state_of (a ∷ b ∷ c ∷ d ∷ []))
  round_is =
      sym
      (gathered _ _ _ _ (table_bytes (byte a 0) (byte b 1) (byte c 2) (byte d 3) i) (table_bytes (byte b 0) (byte c 1) (byte d 2) (byte a 3) j)
      (table_bytes (byte c 0) (byte d 1) (byte a 2) (byte b 3) k) (table_bytes (byte d 0) (byte a 1) (byte b 2) (byte c 3) l))

  pub last_is :
      state_of (last_column a b c d i ∷ last_column b c d a j ∷ last_column c d a b k ∷ last_column d a b c l ∷ []) ≡
      last_round (state_of (i ∷ j ∷ k ∷ l ∷ [])) (state_of (a ∷ b ∷ c ∷ d ∷ []))
  last_is =
      let sub : (p q u v x : ℕ) → Bytes (pack (S p) (S q) (S u) (S v) ⊕ x) (S p ⊕ byte x 0) (S q ⊕ byte x 1) (S u ⊕ byte x 2) (S v ⊕ byte x 3)
      = λ p q u v x. added_bytes (S p) (S q) (S u) (S v) x (S_le p) (S_le q) (S_le u) (S_le v) in
      sym
      (gathered _ _ _ _ (sub (byte a 0) (byte b 1) (byte c 2) (byte d 3) i) (sub (byte b 0) (byte c 1) (byte d 2) (byte a 3) j)
      (sub (byte c 0) (byte d 1) (byte a 2) (byte b 3) k) (sub (byte d 0) (byte a 1) (byte b 2) (byte c 3) l))
