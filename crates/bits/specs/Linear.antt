-- Linear maps of words as data: sums of shifted and masked words.
use Rattle.std.specs.Prelude.{ℕ, ◌*◌, ◌/◌, ◌%◌, ◌^◌, bit_and, bit_xor}

pub data Linear : Type 0 where
  -- the word itself
  whole : Linear
  -- the exclusive or of two
  plus : Linear → Linear → Linear
  -- the bits under a mask
  under : ℕ → Linear → Linear
  -- shifted to the left, within the width, and to the right
  up : ℕ → Linear → Linear
  down : ℕ → Linear → Linear
  -- the first map after the second
  after : Linear → Linear → Linear

-- what the map gives of a word of w bits
abbrev pub value : ℕ → Linear → ℕ → ℕ
value w whole x = x
value w (plus e f) x = bit_xor (value w e x) (value w f x)
value w (under m e) x = bit_and (value w e x) m
value w (up s e) x = value w e x * 2 ^ s % 2 ^ w
value w (down s e) x = value w e x / 2 ^ s
value w (after e f) x = value w e (value w f x)

-- a delta swap: the bits under the mask change places with those s places above them
abbrev pub exchange : ℕ → ℕ → Linear
exchange s m =
    let t : Linear = under m (plus whole (down s whole)) in
    plus (plus whole t) (up s t)
