use Rattle.std.proofs.Common.{◌≡◌, ◌++◌, drop, string_bytes}
use Rattle.transcript.specs.Text as spec
use Rattle.transcript_reader.proofs.writing.push_more_places.Given as goal

-- the text so far, and the places that are left
abbrev pub invariant-loop-place : goal.invariant-loop-place
invariant-loop-place l =
    string_bytes l.text ++ spec.more_places (drop l.place-index l.places)
    ≡ string_bytes l.fn.text ++ spec.more_places l.places
