use Rattle.std.proofs.Common.{[]}
use Rattle.std.proofs.lemmas.Result.{IfOk-weaker}
use Rattle.world_core.proofs.world.run_world.Goals as goal

pub returns-clause-history : goal.returns-clause-history
returns-clause-history c = IfOk-weaker c.run.result _ _
    (λ w ran. c.each_body_is_executed_once.ensures.history c.args.settings.window c.args.settings.rounds c.args.board []
    c.args.moves.now w ran) c.run.ensures.ran

pub returns-clause-replied : goal.returns-clause-replied
returns-clause-replied c = IfOk-weaker c.run.result _ _
    (λ w ran tag place words. c.a_fate_is_that_of_its_place.ensures.replied c.args.settings.window
    c.args.settings.rounds c.args.board [] c.args.moves.now w tag place words ran) c.run.ensures.ran

pub returns-clause-timed_out : goal.returns-clause-timed_out
returns-clause-timed_out c = IfOk-weaker c.run.result _ _
    (λ w ran tag place after. c.a_fate_is_that_of_its_place.ensures.timed_out c.args.settings.window
    c.args.settings.rounds c.args.board [] c.args.moves.now w tag place after ran) c.run.ensures.ran

pub returns-clause-late : goal.returns-clause-late
returns-clause-late c = IfOk-weaker c.run.result _ _
    (λ w ran place words. c.a_late_answer_of_a_run_is_of_a_timed_out_body.ensures.late c.args.settings.window
    c.args.settings.rounds c.args.board [] c.args.moves.now w place words ran) c.run.ensures.ran

pub returns-clause-late_once : goal.returns-clause-late_once
returns-clause-late_once c = IfOk-weaker c.run.result _ _
    (λ w ran place one other words again. c.a_late_answer_of_a_run_is_of_a_timed_out_body.ensures.once
    c.args.settings.window c.args.settings.rounds c.args.board [] c.args.moves.now w place one other words again ran)
    c.run.ensures.ran
