use Rattle.links.proofs.Receives.{given_up_received, handed_out_received, heard_received, nothing_received}
use Rattle.links.proofs.Receives.{received_then}
use Rattle.links.proofs.laws.a_receive_goes_step_by_step.Goals as goal

pub returns-clause-nothing : goal.returns-clause-nothing
returns-clause-nothing c = nothing_received

pub returns-clause-heard : goal.returns-clause-heard
returns-clause-heard c = heard_received

pub returns-clause-given_up : goal.returns-clause-given_up
returns-clause-given_up c = given_up_received

pub returns-clause-handed_out : goal.returns-clause-handed_out
returns-clause-handed_out c = handed_out_received

pub returns-clause-then : goal.returns-clause-then
returns-clause-then c = received_then
