use Rattle.access_policy.proofs.RuleNumbers.{denied_by, step_denied_by}
use Rattle.access_policy.proofs.laws.a_denial_names_a_rule_of_the_policy.Goals as goal

pub returns-clause-register : goal.returns-clause-register
returns-clause-register c policy client board name needs rule is = denied_by policy client board name needs rule is

pub returns-clause-step : goal.returns-clause-step
returns-clause-step c policy client boards step rule is = step_denied_by policy client boards step rule is
