use Rattle.world_model.proofs.HeldReplies.{among_last, not_held}
use Rattle.world_model.proofs.laws.boards.the_last_replies_alone_are_held.Goals as goal

pub returns-clause-held : goal.returns-clause-held
returns-clause-held c = among_last

pub returns-clause-not_held : goal.returns-clause-not_held
returns-clause-not_held c = not_held
