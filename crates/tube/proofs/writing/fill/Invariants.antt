use Rattle.std.proofs.Common.{◌≡◌, ◌-◌, ◌++◌, length, take, reverse}
use Rattle.tube.specs.Write.{nonce_of}
use Rattle.tube.proofs.writing.fill.Given as goal

abbrev pub invariant-loop-byte : goal.invariant-loop-byte
invariant-loop-byte l = nonce_of (length l.initial.bytes) l.number ≡ nonce_of (length l.initial.bytes - l.byte-index) l.rest ++ reverse (take l.byte-index l.bytes)
