use Rattle.std.proofs.Common.{◌≡◌, ◌++◌, drop, string_bytes}
use Rattle.std.specs.List.{flat_map}
use Rattle.std.specs.FinMap as map
use Rattle.transcript.specs.Listing as spec
use Rattle.transcript.proofs.listing.push_overlaps.Given as goal

-- the text so far, and the pairs that are left
abbrev pub invariant-loop-pair : goal.invariant-loop-pair
invariant-loop-pair l =
    string_bytes l.text ++ flat_map (spec.overlap_text (map.entries l.index)) (drop l.pair-index l.pairs)
    ≡ string_bytes l.fn.text ++ flat_map (spec.overlap_text (map.entries l.index)) l.pairs
