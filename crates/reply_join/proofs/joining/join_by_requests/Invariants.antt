use Rattle.std.proofs.Common.{length}
use Rattle.reply_join.proofs.Steps.{Underway}
use Rattle.reply_join.proofs.joining.join_by_requests.Given as goal

-- what is left gives what the whole gives
abbrev pub invariant-loop-asked : goal.invariant-loop-asked
invariant-loop-asked l = Underway l.body l.reply l.asked l.rest l.answers.items

abbrev pub decreases-loop-asked : goal.decreases-loop-asked
decreases-loop-asked l = length l.asked
