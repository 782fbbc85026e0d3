use Rattle.links.specs.States.{world_of_both}
use Rattle.links.proofs.States.{all_fates, all_lates, caught_up_here, run_of, same_board}
use Rattle.links.proofs.laws.a_state_of_a_run_tells_the_truth.Goals as goal

pub returns-clause-all_fates : goal.returns-clause-all_fates
returns-clause-all_fates c = λ hub told so_far. all_fates (world_of_both hub told so_far)

pub returns-clause-all_lates : goal.returns-clause-all_lates
returns-clause-all_lates c = λ hub told so_far. all_lates (world_of_both hub told so_far)

pub returns-clause-same_board : goal.returns-clause-same_board
returns-clause-same_board c = λ hub told so_far. same_board (world_of_both hub told so_far)

pub returns-clause-nothing_waits : goal.returns-clause-nothing_waits
returns-clause-nothing_waits c = λ hub told so_far none out.
    caught_up_here c.sends_go_one_by_one.ensures.end (world_of_both hub told so_far) none out

pub returns-clause-history : goal.returns-clause-history
returns-clause-history c = λ window rounds board air so_far hub told begins is.
    let run = run_of window rounds board air so_far hub told begins is in
    c.each_body_is_executed_once.ensures.history window rounds board air run.0 _ run.1

pub returns-clause-replied : goal.returns-clause-replied
returns-clause-replied c = λ window rounds board air so_far hub told tag place words begins is handed.
    let run = run_of window rounds board air so_far hub told begins is in
    c.a_fate_is_that_of_its_place.ensures.replied window rounds board air run.0 _ tag place words run.1 handed

pub returns-clause-timed_out : goal.returns-clause-timed_out
returns-clause-timed_out c = λ window rounds board air so_far hub told tag place after begins is handed.
    let run = run_of window rounds board air so_far hub told begins is in
    c.a_fate_is_that_of_its_place.ensures.timed_out window rounds board air run.0 _ tag place after run.1 handed

pub returns-clause-late : goal.returns-clause-late
returns-clause-late c = λ window rounds board air so_far hub told place words begins is handed.
    let run = run_of window rounds board air so_far hub told begins is in
    c.a_late_answer_of_a_run_is_of_a_timed_out_body.ensures.late window rounds board air run.0 _ place words run.1
    handed

pub returns-clause-late_once : goal.returns-clause-late_once
returns-clause-late_once c = λ window rounds board air so_far hub told place one other words again begins is here there.
    let run = run_of window rounds board air so_far hub told begins is in
    c.a_late_answer_of_a_run_is_of_a_timed_out_body.ensures.once window rounds board air run.0 _ place one other words
    again run.1 here there
