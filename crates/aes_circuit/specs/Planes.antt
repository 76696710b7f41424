-- The state on bit planes, as the code keeps it, and the steps of a round on states.
use Rattle.std.specs.Prelude.{ℕ, ◌+◌, ◌*◌, ◌/◌, ◌%◌, ◌^◌, List, [], ◌∷◌, map}
use Rattle.std.specs.List.{range_with_len}
use Rattle.bits.specs.BytePlanes.{lane}
use Rattle.bits.specs.Moves.{swap}
use Rattle.bits.specs.Shifts.{Shift, stay, right, left, union}
use Rattle.bits.specs.Swaps.{Swap, by}
use Rattle.aes_circuit.specs.declared.planes.Planes.{Planes}
use Rattle.aes.specs.Field.{x_times}
use Rattle.aes.specs.Fips197.{at, state}

-- the eight planes: plane j is the 16 lowest bits of word j
abbrev pub planes : ℕ → ℕ → List ℕ
planes even odd = even ∷ odd ∷ even / 2 ^ 16 ∷ odd / 2 ^ 16 ∷ even / 2 ^ 32 ∷ odd / 2 ^ 32 ∷ even / 2 ^ 48 ∷ odd / 2 ^ 48 ∷ []

-- the sixteen bytes that stand in the planes: byte i in lane i
unfoldable pub bytes_of : ℕ → ℕ → List ℕ
bytes_of even odd = map (lane (planes even odd)) (range_with_len 0 16)

abbrev pub bytes : Planes → List ℕ
bytes s = bytes_of s.even s.odd

-- each byte that of n rows further on in its column
abbrev pub rows_on : ℕ → List ℕ → List ℕ
rows_on n s = state (λ r c. at s (r + n) c)

-- x times each byte
abbrev pub doubled : List ℕ → List ℕ
doubled s = state (λ r c. x_times (at s r c))

-- how the bits go from the bytes, byte 0 the lowest, to the planes, `odd` above `even`; and back
abbrev pub inward : List Swap
inward =
    by 56 0xff00_ff00_ff00_ff00 ∷ by 63 0xaaaa_aaaa_aaaa_aaaa ∷ by 28 0x0000_0000_f0f0_f0f0_0000_0000_f0f0_f0f0 ∷ by 14 0x0000_cccc_0000_cccc_0000_cccc_0000_cccc ∷ []

abbrev pub outward : List Swap
outward =
    by 14 0x0000_cccc_0000_cccc_0000_cccc_0000_cccc ∷ by 28 0x0000_0000_f0f0_f0f0_0000_0000_f0f0_f0f0 ∷ by 63 0xaaaa_aaaa_aaaa_aaaa ∷ by 56 0xff00_ff00_ff00_ff00 ∷ []

-- four planes in one word
abbrev pub packed : ℕ → ℕ → ℕ → ℕ → ℕ
packed a b c d = a % 2 ^ 16 + b % 2 ^ 16 * 2 ^ 16 + c % 2 ^ 16 * 2 ^ 32 + d % 2 ^ 16 * 2 ^ 48

-- ShiftRows on four planes: rows 2 and 3 turned by two places, then rows 1 and 3 by one
abbrev pub turn : List Shift
turn = stay 0x5555_5555_5555_5555 ∷ right 4 0x0aaa_0aaa_0aaa_0aaa ∷ left 12 0xa000_a000_a000_a000 ∷ []

abbrev pub shifted : ℕ → ℕ
shifted x = union 64 turn (swap 64 8 0x00cc_00cc_00cc_00cc x)

-- the next row of a column, and the row after it, on four planes
abbrev pub next : List Shift
next = right 1 0x7777_7777_7777_7777 ∷ left 3 0x8888_8888_8888_8888 ∷ []

abbrev pub second : List Shift
second = right 2 0x3333_3333_3333_3333 ∷ left 2 0xcccc_cccc_cccc_cccc ∷ []
