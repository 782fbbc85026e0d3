use Rattle.std.proofs.Common.{◌∙◌, sym}
use Rattle.session_run.proofs.LateAnswers.{none_came, some_came}
use Rattle.session_run.proofs.late_answers.late_list.Goals as goal

pub returns-in_ok-copy_lates : goal.returns-in_ok-copy_lates
returns-in_ok-copy_lates g c = c.from_vec.ensures ∙ (c.in_ok-copy_lates.ensures
    ∙ some_came c.args.lane.now.lates c.args.outcomes.now (sym c.came_late.ensures ∙ c.if-came_late.true))

pub returns-else-came_late : goal.returns-else-came_late
returns-else-came_late g c = c.from_vec-else-came_late.ensures ∙ (c.new.ensures.items
    ∙ none_came c.args.lane.now.lates c.args.outcomes.now (sym c.came_late.ensures ∙ c.if-came_late.false))
