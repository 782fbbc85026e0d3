use Rattle.board_history.proofs.BusLines.{session_holds}
use Rattle.board_history.proofs.Readiness.{all_verbs_kept}
use Rattle.board_history.specs.LinkRuns.{IsLineOfRounds}
use Rattle.board_history.proofs.Rounds.{rounds_of_ask}
use Rattle.board_history.proofs.runs.lines_show_the_rounds_of_the_session.Goals as goal

pub returns : goal.returns
returns c = λ settings specs scripts runs links is can.
    session_holds scripts runs (IsLineOfRounds settings.rounds)
    (λ client steps before later ask run at same keeps there.
    rounds_of_ask settings specs scripts runs links is run client before ask.op ask.denied there)
    (all_verbs_kept scripts can)
