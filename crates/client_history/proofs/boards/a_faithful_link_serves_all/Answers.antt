use Rattle.client_history.proofs.Calm.{calm_board}
use Rattle.client_history.proofs.boards.a_faithful_link_serves_all.Goals as goal

pub returns-clause-live : goal.returns-clause-live
returns-clause-live c = λ settings spec served link some calm is.
    (calm_board settings spec served link some calm is).live

pub returns-clause-replied : goal.returns-clause-replied
returns-clause-replied c = λ settings spec served link some calm is.
    (calm_board settings spec served link some calm is).replied
