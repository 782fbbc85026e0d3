use Rattle.world_model.proofs.Links.{offer_joined, send_joined, heard_in_one, handed_joined, quiet_joined, fate_joined}
use Rattle.world_model.proofs.Links.{late_joined}
use Rattle.world_model.proofs.laws.links.each_event_keeps_them_joined.Goals as goal

pub returns-clause-offered : goal.returns-clause-offered
returns-clause-offered c = offer_joined c.laws_below.ensures

pub returns-clause-sent : goal.returns-clause-sent
returns-clause-sent c = send_joined c.laws_below.ensures

pub returns-clause-heard : goal.returns-clause-heard
returns-clause-heard c = heard_in_one c.laws_below.ensures

pub returns-clause-handed : goal.returns-clause-handed
returns-clause-handed c = handed_joined c.laws_below.ensures

pub returns-clause-quiet : goal.returns-clause-quiet
returns-clause-quiet c = quiet_joined c.laws_below.ensures

pub returns-clause-handed_out : goal.returns-clause-handed_out
returns-clause-handed_out c = fate_joined c.laws_below.ensures

pub returns-clause-late : goal.returns-clause-late
returns-clause-late c = late_joined c.laws_below.ensures
