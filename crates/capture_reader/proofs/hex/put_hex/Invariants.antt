use Rattle.std.proofs.Common.{◌≡◌, ◌≤◌, ◌+◌, ◌*◌, ◌++◌, length, take}
use Rattle.std.specs.List.{flat_map}
use Rattle.std.specs.Vec.{vec_len, vec_capacity}
use Rattle.capture_reader.specs.CaptureText.{byte_text}
use Rattle.capture_reader.proofs.hex.put_hex.Given as goal

-- the digits of the bytes so far are written, and there is room for the others
abbrev pub invariant-loop-byte : goal.invariant-loop-byte
invariant-loop-byte l =
    (l.out.items ≡ l.fn.out.items ++ flat_map byte_text (take l.byte-index l.bytes))
    × (vec_len l.out + 2 * length l.bytes ≤ vec_capacity l.out + 2 * l.byte-index)
