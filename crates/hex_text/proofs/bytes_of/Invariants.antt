use Rattle.std.proofs.Common.{◌≡◌, vec_items}
use Rattle.std.specs.Slice.Iter.{chunks_rest, chunks_size}
use Rattle.hex_text.specs.Digits.{bytes_of}
use Rattle.hex_text.proofs.Pairs.{front}
use Rattle.hex_text.proofs.bytes_of.Given as goal

abbrev pub invariant-loop-digits : goal.invariant-loop-digits
invariant-loop-digits l =
    goal.iterator-loop-digits.can_next l.digits-iterator
    × goal.iterator-loop-digits.is_finite l.digits-iterator
    × (chunks_size l.digits-iterator ≡ 2)
    × (bytes_of l.text ≡ front (vec_items l.bytes) (bytes_of (chunks_rest l.digits-iterator)))
