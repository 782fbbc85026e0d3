use Rattle.audit_laws.proofs.Results.{results_hold}
use Rattle.audit_laws.proofs.laws.results_are_those_of_the_replay.Goals as goal

pub returns : goal.returns
returns c = λ session steps runs links told whole.
    results_hold c.each_body_has_a_piece.ensures.function session steps runs links told whole
