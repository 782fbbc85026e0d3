use Rattle.access_policy.proofs.Written.{pattern_back}
use Rattle.access_policy.proofs.laws.a_pattern_is_written_as_it_stood.Goals as goal

pub returns : goal.returns
returns c text pattern is = pattern_back text pattern is
