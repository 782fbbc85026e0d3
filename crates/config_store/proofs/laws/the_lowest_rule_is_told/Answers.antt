use Rattle.config_store.specs.Refusals.{value_rules}
use Rattle.config_store.proofs.LowestRules.{first_lowest, lowest_first}
use Rattle.config_store.proofs.laws.the_lowest_rule_is_told.Goals as goal

pub returns : goal.returns
returns c = λ boards entries fault. (lowest_first boards entries value_rules fault, first_lowest boards entries value_rules fault)
