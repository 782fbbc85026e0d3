use Rattle.lane_record.proofs.Events.{ask_lost_agrees, lost_agrees}
use Rattle.lane_record.proofs.Offers.{adds_lost, keeps_lost}
use Rattle.lane_record.proofs.laws.offers.a_failed_link_loses_what_waits.Goals as goal

pub returns-clause-agrees : goal.returns-clause-agrees
returns-clause-agrees c = lost_agrees

pub returns-clause-keeps : goal.returns-clause-keeps
returns-clause-keeps c = λ sent outcomes. keeps_lost 0 sent outcomes

pub returns-clause-adds : goal.returns-clause-adds
returns-clause-adds c = λ sent outcomes. adds_lost 0 sent outcomes

pub returns-clause-later : goal.returns-clause-later
returns-clause-later c = ask_lost_agrees
