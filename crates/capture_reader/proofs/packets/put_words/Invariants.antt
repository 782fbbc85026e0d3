use Rattle.std.proofs.Common.{◌≡◌, ◌≤◌, ◌+◌, ◌++◌, length, take, map}
use Rattle.std.specs.Vec.{vec_len, vec_capacity}
use Rattle.packet_codec.specs.Reading.{word_from}
use Rattle.capture_reader.proofs.packets.put_words.Given as goal

-- the words of the chunks so far are written, and there is room for the others
abbrev pub invariant-loop-chunk : goal.invariant-loop-chunk
invariant-loop-chunk l =
    (l.words.items ≡ l.fn.words.items ++ map (word_from l.order) (take l.chunk-index l.chunks))
    × (vec_len l.words + length l.chunks ≤ vec_capacity l.words + l.chunk-index)
