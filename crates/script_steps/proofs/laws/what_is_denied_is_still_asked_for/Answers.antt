use Rattle.script_steps.proofs.StillAsked.{still_asked}
use Rattle.script_steps.proofs.laws.what_is_denied_is_still_asked_for.Goals as goal

pub returns : goal.returns
returns c = still_asked
