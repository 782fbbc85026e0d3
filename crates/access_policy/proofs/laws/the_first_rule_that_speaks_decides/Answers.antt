use Rattle.access_policy.specs.Decisions.{speaks_of}
use Rattle.access_policy.proofs.FirstRule.{first_decides, none_decides}
use Rattle.access_policy.proofs.laws.the_first_rule_that_speaks_decides.Goals as goal

pub returns-clause-first : goal.returns-clause-first
returns-clause-first c before rule after client board items access =
    first_decides (speaks_of access client board items) 1 before rule after

pub returns-clause-none : goal.returns-clause-none
returns-clause-none c policy client board items access = none_decides (speaks_of access client board items) 1 policy
