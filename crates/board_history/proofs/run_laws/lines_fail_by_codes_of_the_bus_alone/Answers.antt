use Rattle.std.proofs.Common.{sym, subst}
use Rattle.std.specs.List.{AllByRecursion}
use Rattle.script_plans.specs.declared.board_run.BoardRun.{BoardRun}
use Rattle.board_history.specs.Runs.{opens_with, plans_on, greeting_of}
use Rattle.board_history.specs.Answering.{AskRequests}
use Rattle.board_history.specs.Lines.{IsBusResult}
use Rattle.board_history.proofs.Shown.{only_run}
use Rattle.board_history.proofs.Answering.{ToldPart, parts_told}
use Rattle.board_history.proofs.BusResults.{pieces_fit}
use Rattle.board_history.proofs.BusLines.{Telling, session_bus}
use Rattle.board_history.proofs.Readiness.{all_verbs_kept, are_ready}
use Rattle.board_history.proofs.Spelled.{runs_spelled}
use Rattle.board_history.proofs.run_laws.lines_fail_by_codes_of_the_bus_alone.Goals as goal

telling : goal.After-operations_of_words_are_packed → Telling
telling c = λ spec board scripts run is ready.
    let same = only_run c.a_history_of_clients_in_turn_is_the_only_one.ensures spec board scripts run is in
    subst (λ (r : BoardRun). AskRequests r → AllByRecursion ToldPart r.parts) (sym same)
    (parts_told c.a_reply_answers_its_body.ensures.requests c.a_reply_answers_its_body.ensures.any
    c.words_stay_words.ensures.after c.words_stay_words.ensures.after_all c.joining_is_a_function.ensures.none
    c.joining_is_a_function.ensures.joined
    1 (opens_with spec.link) (plans_on board (greeting_of spec.link) scripts) ready.words)

pub returns : goal.returns
returns c = λ specs scripts runs is here words can.
    let ready = are_ready c.operations_of_words_are_packed.ensures 0 specs scripts here words can in
    session_bus
    (λ part op pieces told asked. pieces_fit IsBusResult (λ r bus. bus) c.each_request_has_one_answer.ensures
    c.each_answer_is_that_of_its_request.ensures c.one_list_for_words.ensures.requests part op pieces told asked.each)
    (telling c) specs scripts runs is ready
    (runs_spelled c.packed_bodies_spell_requests.ensures 0 specs scripts runs is ready) (all_verbs_kept scripts can)
