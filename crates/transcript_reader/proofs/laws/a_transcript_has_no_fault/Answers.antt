use Rattle.transcript_reader.proofs.LawPlaces.{without_fault}
use Rattle.transcript_reader.proofs.laws.a_transcript_has_no_fault.Goals as goal

pub returns : goal.returns
returns c = without_fault
