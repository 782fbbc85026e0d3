use Rattle.lane_record.proofs.Hearing.{message_settles, quiet_settles}
use Rattle.lane_record.proofs.laws.offers.what_a_hub_hears_settles_asks.Goals as goal

pub returns-clause-message : goal.returns-clause-message
returns-clause-message c = λ hub message claims outcomes window none is.
    message_settles hub message claims outcomes none window is

pub returns-clause-quiet : goal.returns-clause-quiet
returns-clause-quiet c = λ hub claims outcomes window none is. quiet_settles hub claims outcomes none window is
