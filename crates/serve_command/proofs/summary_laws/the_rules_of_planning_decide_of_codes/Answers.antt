use Rattle.serve_command.proofs.ByRules.{coded_by_rules}
use Rattle.serve_command.proofs.summary_laws.the_rules_of_planning_decide_of_codes.Goals as goal

pub returns : goal.returns
returns c = λ settings specs links came back connections lines is.
    coded_by_rules is.boards is.conversations is.by_rules
