use Rattle.std.proofs.Common.{◌∙◌}
use Rattle.reliable_engine.proofs.InSlots.{none_executed}
use Rattle.reliable_engine.proofs.open_places.OpenPlaces.want_all.Goals as goal

pub returns : goal.returns
returns c = c.recover_all.ensures ∙ none_executed c.args.self.now
