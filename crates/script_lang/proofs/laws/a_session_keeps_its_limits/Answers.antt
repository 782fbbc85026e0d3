use Rattle.script_lang.proofs.InRanges.{within}
use Rattle.script_lang.proofs.laws.a_session_keeps_its_limits.Goals as goal

pub returns : goal.returns
returns c = within
