-- A state as the code keeps it: the words at the even places are the eight lanes of `left`, those at the odd places the lanes of
-- `right`. The lanes are in such an order that the block shuffle puts the words of `left` into `right` lane by lane.
use Rattle.std.specs.Prelude.{ℕ, ◌+◌, ◌*◌, ◌/◌, ◌%◌, cond, List, [], ◌∷◌, ◌==◌, slice_index}
use Rattle.bits.specs.Lanes.{lane}
use Rattle.bits.specs.Linear.{Linear, whole, plus, under, up, down}
use Rattle.bits.specs.Nibbles.{each}
use Rattle.twine_circuit.specs.declared.halves.Halves.{Halves}
use Rattle.twine.specs.Twine.{π}

-- bit k of lane i, counted from the right: the bits of a lane are 8 places apart
abbrev pub place : ℕ → ℕ
place l = 8 * (l % 4) + l / 4

-- the eight lanes of 32 bits
abbrev pub lanes : ℕ → List ℕ
lanes w = each 8 (lane place w)

-- the lane of X_h, in left for an even h: X_0 X_12 X_14 X_2 X_6 X_4 X_8 X_10; in right for an odd one: X_5 X_15 X_11 X_1 X_3 X_7 X_13 X_9
abbrev pub slot : ℕ → ℕ
slot h = slice_index (0 ∷ 3 ∷ 3 ∷ 4 ∷ 5 ∷ 0 ∷ 4 ∷ 5 ∷ 6 ∷ 7 ∷ 7 ∷ 2 ∷ 1 ∷ 6 ∷ 2 ∷ 1 ∷ []) h

-- the state X_0 to X_15
abbrev pub words : Halves → List ℕ
words x = each 16 (λ h. slice_index (lanes (cond (h % 2 == 0) x.left x.right)) (slot h))

-- a round key, each of its words in the lane of the word that it is added to
abbrev pub key_words : ℕ → List ℕ
key_words k = each 8 (λ j. slice_index (lanes k) (slot (2 * j)))

-- the state before a block shuffle: X_h is what X_π(h) is after it
abbrev pub unshuffled : List ℕ → List ℕ
unshuffled x = each 16 (λ h. slice_index x (π h))

-- the bits of a word of 4 bits, 8 places apart
abbrev pub spreading : Linear
spreading = plus (plus (plus (under 0x1 whole) (under 0x100 (up 7 whole))) (under 0x1_0000 (up 14 whole))) (under 0x100_0000 (up 21 whole))

-- where a round puts the lanes of right into left, and the sums of the S-boxes
abbrev pub turning : Linear
turning = plus (under 0xeeee_eeee (up 1 whole)) (under 0x1111_1111 (down 3 whole))

abbrev pub crossing : Linear
crossing =
    plus (plus (plus (plus (under 0x0505_0505 whole) (under 0x0a0a_0a0a (down 4 whole))) (under 0x6060_6060 (up 2 whole))) (under 0x8080_8080 (up 6 whole)))
    (under 0x1010_1010 (down 2 whole))
