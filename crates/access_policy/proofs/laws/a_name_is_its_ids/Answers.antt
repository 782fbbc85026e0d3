use Rattle.access_policy.proofs.NamesBack.{name_back}
use Rattle.access_policy.proofs.laws.a_name_is_its_ids.Goals as goal

pub returns : goal.returns
returns c item items are = name_back item items are
