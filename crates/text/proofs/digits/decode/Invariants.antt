use Rattle.std.proofs.Common.{◌≡◌, ◌%◌, length}
use Rattle.std.specs.Slice.Iter.{chunks_rest, chunks_size}
use Rattle.text.proofs.Decoded.{prepend, told}
use Rattle.text.proofs.digits.decode.Given as goal

abbrev pub invariant-loop-chunk : goal.invariant-loop-chunk
invariant-loop-chunk l =
    goal.iterator-loop-chunk.can_next l.chunk-iterator
    × goal.iterator-loop-chunk.is_finite l.chunk-iterator
    × (chunks_size l.chunk-iterator ≡ 256)
    × (length (chunks_rest l.chunk-iterator) % 2 ≡ 0)
    × (prepend l.bytes.items (told (chunks_rest l.chunk-iterator)) ≡ told l.fn.text)
