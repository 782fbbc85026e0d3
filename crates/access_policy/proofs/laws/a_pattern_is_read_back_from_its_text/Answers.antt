use Rattle.access_policy.proofs.Reread.{pattern_kept, pattern_read}
use Rattle.access_policy.proofs.laws.a_pattern_is_read_back_from_its_text.Goals as goal

pub returns-clause-kept : goal.returns-clause-kept
returns-clause-kept c text pattern is = pattern_kept text pattern is

pub returns-clause-back : goal.returns-clause-back
returns-clause-back c pattern is = pattern_read pattern is
