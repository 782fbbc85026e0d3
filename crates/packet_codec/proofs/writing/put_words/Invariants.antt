use Rattle.std.proofs.Common.{◌≡◌, ◌≤◌, ◌+◌, ◌*◌, ◌++◌, length, take}
use Rattle.std.specs.List.{flat_map}
use Rattle.std.specs.Vec.{vec_len, vec_capacity}
use Rattle.packet_codec.specs.Packet.{word_in_order}
use Rattle.packet_codec.proofs.writing.put_words.Given as goal

-- the words so far are written, and there is room for the others
abbrev pub invariant-loop-word : goal.invariant-loop-word
invariant-loop-word l =
    (l.out.items ≡ (l.fn.out.items ++ word_in_order l.order l.header) ++ flat_map (word_in_order l.order)
    (take l.word-index l.body))
    × (vec_len l.out + 4 * length l.body ≤ vec_capacity l.out + 4 * l.word-index)
