use Rattle.world_model.proofs.Greetings.{refused_sound, send_short}
use Rattle.world_model.proofs.laws.links.a_send_may_be_refused.Goals as goal

pub returns-clause-refused : goal.returns-clause-refused
returns-clause-refused c = refused_sound c.laws_below.ensures

pub returns-clause-length : goal.returns-clause-length
returns-clause-length c = send_short c.laws_below.ensures
