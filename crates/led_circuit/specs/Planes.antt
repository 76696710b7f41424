-- A state as the code keeps it: the sixteen nibbles are the lanes of 64 bits. Row r stands in the 16 bits from 16 r on; in them bit k of
-- the nibble of column c is bit 4 k + c.
use Rattle.std.specs.Prelude.{ℕ, ◌+◌, ◌*◌, ◌/◌, ◌%◌, List}
use Rattle.bits.specs.Lanes.{lane}
use Rattle.bits.specs.Linear.{Linear, whole, plus, under, up, down, after, exchange}
use Rattle.bits.specs.Nibbles.{each}

-- where bit k of nibble i stands, for l = 4 i + k
abbrev pub place : ℕ → ℕ
place l = 16 * (l / 16) + 4 * (l % 4) + l / 4 % 4

-- the state
abbrev pub cells : ℕ → List ℕ
cells x = each 16 (lane place x)

-- from a block, its byte 0 in the lowest bits, and back: the nibbles of each byte change places, then rows and columns of four times four bits
abbrev nibbles_swapped : Linear
nibbles_swapped = plus (up 4 (under 0x0f0f_0f0f_0f0f_0f0f whole)) (under 0x0f0f_0f0f_0f0f_0f0f (down 4 whole))

abbrev pub loading : Linear
loading = after (exchange 6 0x00cc_00cc_00cc_00cc) (after (exchange 3 0x0a0a_0a0a_0a0a_0a0a) nibbles_swapped)

abbrev pub storing : Linear
storing = after nibbles_swapped (after (exchange 3 0x0a0a_0a0a_0a0a_0a0a) (exchange 6 0x00cc_00cc_00cc_00cc))

-- ShiftRows: the rows 1 and 3 go round by one column, then the rows 2 and 3 by two
abbrev by_one : Linear
by_one = plus (plus (under 0x0000_ffff_0000_ffff whole) (under 0x7777_0000_7777_0000 (down 1 whole))) (under 0x8888_0000_8888_0000 (up 3 whole))

abbrev by_two : Linear
by_two = plus (plus (under 0x0000_0000_ffff_ffff whole) (under 0x3333_3333_0000_0000 (down 2 whole))) (under 0xcccc_cccc_0000_0000 (up 2 whole))

abbrev pub shifting : Linear
shifting = after by_two by_one

-- every nibble times 2, 4 and 8 in GF(2^4)
abbrev pub doubling : Linear
doubling =
    let t : Linear = under 0x000f_000f_000f_000f (down 12 whole) in
    plus (plus (under 0xfff0_fff0_fff0_fff0 (up 4 whole)) t) (up 4 t)

abbrev pub fourfold : Linear
fourfold =
    let t : Linear = under 0x00ff_00ff_00ff_00ff (down 8 whole) in
    plus (plus (under 0xff00_ff00_ff00_ff00 (up 8 whole)) t) (up 4 t)

abbrev pub eightfold : Linear
eightfold =
    let t : Linear = under 0x0fff_0fff_0fff_0fff (down 4 whole) in
    plus (plus (under 0xf000_f000_f000_f000 (up 12 whole)) t) (up 4 t)

-- the rows d below
abbrev below : ℕ → ℕ → Linear
below d e = plus (down d whole) (up e whole)

-- MixColumnsSerial: of the rows 0, 1, 2 and 3 below each row, those whose coefficient in M has the bit 1, 2, 4 or 8
abbrev weighted : ℕ → ℕ → ℕ → ℕ → Linear
weighted p q r s = plus (plus (plus (under p whole) (under q (below 16 48))) (under r (below 32 32))) (under s (below 48 16))

abbrev pub mixing : Linear
mixing =
    plus
    (plus
    (plus (weighted 0xffff_0000_0000_0000 0x0000_ffff_ffff_ffff 0x0000_ffff_0000_0000 0xffff_0000_0000_0000)
    (after doubling (weighted 0xffff_ffff_ffff_0000 0xffff_0000_0000_0000 0xffff_ffff_ffff_ffff 0xffff_ffff_0000_ffff)))
    (after fourfold (weighted 0x0000_0000_ffff_ffff 0x0000_0000_ffff_0000 0x0000_0000_ffff_0000 0xffff_ffff_0000_0000)))
    (after eightfold (weighted 0xffff_ffff_0000_0000 0x0000_ffff_0000_0000 0x0000_ffff_0000_0000 0xffff_ffff_ffff_0000))
