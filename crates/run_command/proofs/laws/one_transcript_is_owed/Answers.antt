use Rattle.run_command.proofs.OneTranscript.{one_answer}
use Rattle.run_command.proofs.laws.one_transcript_is_owed.Goals as goal

pub returns : goal.returns
returns c = λ bytes given others s t a b own.
    one_answer c.the_terms_of_run.ensures c.bytes_have_one_answer_to_run.ensures.session
    c.a_document_can_run_its_steps.ensures c.clients_with_boards_of_their_own_have_one_session_run.ensures
    bytes given others s t a b own
