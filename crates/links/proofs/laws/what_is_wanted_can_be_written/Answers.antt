use Rattle.links.proofs.Sends.{writable}
use Rattle.links.proofs.laws.what_is_wanted_can_be_written.Goals as goal

pub returns : goal.returns
returns c = writable
