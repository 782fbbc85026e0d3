use Rattle.std.proofs.Common.{◌≡◌, ◌++◌, codes, string_bytes, drop}
use Rattle.std.specs.List.{flat_map}
use Rattle.std.specs.Fmt.{decimal}
use Rattle.session_input.proofs.lines.push_positions.Given as goal

-- the text so far and the positions that are left
abbrev pub invariant-loop-position : goal.invariant-loop-position
invariant-loop-position l =
    string_bytes l.text ++ flat_map (λ position. codes "." ++ decimal position) (drop l.position-index l.path)
    ≡ string_bytes l.initial.text ++ flat_map (λ position. codes "." ++ decimal position) l.path
