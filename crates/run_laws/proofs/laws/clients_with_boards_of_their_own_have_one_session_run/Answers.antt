use Rattle.run_laws.proofs.laws.clients_with_boards_of_their_own_have_one_session_run.Goals as goal

pub returns : goal.returns
returns c = λ session steps runs links can run calm own.
    c.clients_with_boards_of_their_own_have_one_run.ensures session.settings 0 session.boards steps runs links
    (c.a_session_keeps_its_limits.ensures can.document session can.is_session).settings.some_rounds calm run.boards own
