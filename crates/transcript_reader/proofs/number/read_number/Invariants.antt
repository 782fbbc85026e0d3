use Rattle.std.proofs.Common.{◌≡◌, length}
use Rattle.transcript_reader.specs.Reading.{number_from, number_at}
use Rattle.transcript_reader.proofs.number.read_number.Given as goal

-- the value so far, and the digits that are left
abbrev pub invariant-digits : goal.invariant-digits
invariant-digits l = number_from l.base l.value l.rest ≡ number_at l.base l.text

abbrev pub decreases-digits : goal.decreases-digits
decreases-digits l = length l.rest
