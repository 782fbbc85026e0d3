use Rattle.session_input.specs.Deserved.{session_part}
use Rattle.audit_laws.proofs.Sessions.{can_be_audited, few_clients, few_rounds}
use Rattle.audit_laws.proofs.session_laws.sessions_can_be_audited.Goals as goal

pub returns-clause-can : goal.returns-clause-can
returns-clause-can c bytes session steps runnable simulated =
    can_be_audited c.a_session_keeps_its_limits.ensures c.what_is_denied_asks_for_less.ensures.few
    c.what_is_denied_asks_for_less.ensures.count bytes session steps runnable simulated
    (c.what_can_be_run_can_be_executed.ensures bytes session steps runnable)

pub returns-clause-rounds : goal.returns-clause-rounds
returns-clause-rounds c = few_rounds

pub returns-clause-clients : goal.returns-clause-clients
returns-clause-clients c = few_clients c.a_session_keeps_its_limits.ensures

pub returns-clause-words : goal.returns-clause-words
returns-clause-words c bytes session steps runnable =
    c.the_ranges_of_a_session_name_words.ensures (session_part runnable.stands.document) session
    runnable.stands.is_session
