use Rattle.transcript.proofs.Denials.{no_places, rules_told}
use Rattle.transcript.proofs.laws.lines_tell_what_is_denied.Goals as goal

pub returns-clause-rules : goal.returns-clause-rules
returns-clause-rules c = rules_told

pub returns-clause-places : goal.returns-clause-places
returns-clause-places c = λ scripts runs. no_places runs 0 scripts
