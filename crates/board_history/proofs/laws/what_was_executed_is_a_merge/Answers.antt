use Rattle.std.proofs.Common.{sym, subst}
use Rattle.board_history.specs.Merges.{IsMergeOfAll}
use Rattle.board_history.proofs.Merging.{executed_some, executed_whole, order_whole}
use Rattle.board_history.proofs.laws.what_was_executed_is_a_merge.Goals as goal

pub returns-clause-some : goal.returns-clause-some
returns-clause-some c = executed_some

pub returns-clause-all : goal.returns-clause-all
returns-clause-all c = λ bodies outcomes lates executed shape one keeps replied once.
    subst (IsMergeOfAll bodies) (sym (executed_whole bodies outcomes lates executed one replied once))
    (order_whole bodies outcomes shape keeps replied)
