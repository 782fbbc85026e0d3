use Rattle.std.proofs.Common.{◌≡◌, ◌++◌, drop, string_bytes}
use Rattle.std.specs.List.{flat_map}
use Rattle.std.specs.FinMap as map
use Rattle.transcript.specs.Listing as spec
use Rattle.transcript.proofs.listing.push_registers.Given as goal

-- the text so far, and the registers that are left
abbrev pub invariant-loop-i : goal.invariant-loop-i
invariant-loop-i l =
    string_bytes l.text ++ flat_map spec.register_text (drop l.i (map.entries l.index))
    ≡ string_bytes l.fn.text ++ flat_map spec.register_text (map.entries l.index)
