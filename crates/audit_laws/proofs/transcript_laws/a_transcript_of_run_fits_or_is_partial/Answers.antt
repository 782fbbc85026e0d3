use Rattle.audit_laws.proofs.Transcripts.{yes_or_partial}
use Rattle.audit_laws.proofs.transcript_laws.a_transcript_of_run_fits_or_is_partial.Goals as goal

pub returns : goal.returns
returns c =
    yes_or_partial c.an_input_has_one_document.ensures c.bytes_have_one_answer_to_run.ensures.session
    c.a_run_fits_unless_it_is_partial.ensures (record {
      can = c.sessions_can_be_audited.ensures.can;
      words = c.sessions_can_be_audited.ensures.words;
      names = c.names_are_on_one_line.ensures;
      rounds = c.sessions_can_be_audited.ensures.rounds;
      clients = c.sessions_can_be_audited.ensures.clients;
    })
