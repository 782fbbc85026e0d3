use Rattle.world_model.proofs.Greetings.{request_starts, heard_starts, handed_status}
use Rattle.world_model.proofs.laws.links.a_greeting_goes_on.Goals as goal

pub returns-clause-sent : goal.returns-clause-sent
returns-clause-sent c = request_starts c.laws_below.ensures

pub returns-clause-heard : goal.returns-clause-heard
returns-clause-heard c = heard_starts c.laws_below.ensures

pub returns-clause-handed : goal.returns-clause-handed
returns-clause-handed c = handed_status c.laws_below.ensures
