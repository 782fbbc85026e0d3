use Rattle.std.proofs.Common.{◌≡◌, ◌++◌, drop, map, take}
use Rattle.masked_fields.specs.Field.{field}
use Rattle.transcript.proofs.results.show_fields.Given as goal

-- the fields so far, and those of the words that are left
abbrev pub invariant-loop-at : goal.invariant-loop-at
invariant-loop-at l =
    take l.at l.words ++ map (λ word. field word l.mask) (drop l.at l.words)
    ≡ map (λ word. field word l.mask) l.fn.words
