use Rattle.config_laws.proofs.TextApart.{can_be_read_back}
use Rattle.config_laws.proofs.reading_back.configurations_of_a_session_can_be_read_back.Goals as goal

pub returns : goal.returns
returns c =
    can_be_read_back c.a_session_keeps_its_limits.ensures c.the_boards_of_a_session_have_their_own_names.ensures
