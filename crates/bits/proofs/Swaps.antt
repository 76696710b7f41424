-- Where each bit of a word comes from after delta swaps: a test that antt computes.
use Rattle.std.proofs.Common.{◌≡◌, ℕ, ◌*◌, ◌%◌, ◌^◌, Bool, true, T, eqb, ltb, List, [], ◌∷◌, sym, refl, ◌∙◌, subst, eqb→eq, ltb→lt}
use lib.Bits.{bit_and}
use Rattle.bits.specs.Digits.{bit}
use Rattle.bits.specs.Moves.{swap}
use Rattle.bits.specs.Swaps.{Swap, by, swaps, source}
use Rattle.bits.proofs.Table.{both, both_left, both_right}
use Rattle.bits.proofs.Swap.{swap_bit}

-- the place r is in the word, and the mask and the mask moved up are apart there
abbrev fits : ℕ → ℕ → ℕ → ℕ → Bool
fits w s m r = both (ltb r w) (eqb (bit_and (bit m r) (bit (m * 2 ^ s % 2 ^ w) r)) 0)

abbrev pub sound : ℕ → List Swap → ℕ → Bool
sound w [] q = true
sound w (by s m ∷ ss) q = both (fits w s m (source w ss q)) (sound w ss q)

moved : (w : ℕ) (ss : List Swap) (x q : ℕ) → T (sound w ss q) → bit (swaps w ss x) q ≡ bit x (source w ss q)
moved w [] x q t = refl
moved w (by s m ∷ ss) x q t =
    let r : ℕ = source w ss q in
    let u = both_left (fits w s m r) (sound w ss q) t in
    let a = both_left (ltb r w) (eqb (bit_and (bit m r) (bit (m * 2 ^ s % 2 ^ w) r)) 0) u in
    let b = both_right (ltb r w) (eqb (bit_and (bit m r) (bit (m * 2 ^ s % 2 ^ w) r)) 0) u in
    moved w ss (swap w s m x) q (both_right (fits w s m r) (sound w ss q) t)
    ∙ swap_bit w x s m r (ltb→lt r w a) (eqb→eq (bit_and (bit m r) (bit (m * 2 ^ s % 2 ^ w) r)) 0 b)

pub swaps_bit : (w : ℕ) (ss : List Swap) (x q : ℕ) → sound w ss q ≡ true → bit (swaps w ss x) q ≡ bit x (source w ss q)
swaps_bit w ss x q e = moved w ss x q (subst T (sym e) tt)
