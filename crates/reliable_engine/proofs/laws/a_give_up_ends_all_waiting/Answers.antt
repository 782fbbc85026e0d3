use Rattle.world_model.specs.Hub.{new_hub}
use Rattle.reliable_engine.proofs.Rests.{give_up_rests, new_rests, offer_leaves, offer_wants, rest_sends, rest_waits}
use Rattle.reliable_engine.proofs.Rests.{stays_at_rest}
use Rattle.reliable_engine.proofs.laws.a_give_up_ends_all_waiting.Goals as goal

pub returns-clause-at_once : goal.returns-clause-at_once
returns-clause-at_once c = give_up_rests

pub returns-clause-until_an_offer : goal.returns-clause-until_an_offer
returns-clause-until_an_offer c = λ first window rounds events can.
    stays_at_rest (new_hub first window rounds) events can (new_rests first window rounds)

pub returns-clause-nothing_to_send : goal.returns-clause-nothing_to_send
returns-clause-nothing_to_send c = rest_sends

pub returns-clause-nobody_waits : goal.returns-clause-nobody_waits
returns-clause-nobody_waits c = rest_waits

pub returns-clause-next_offer : goal.returns-clause-next_offer
returns-clause-next_offer c = offer_wants

pub returns-clause-later_offers : goal.returns-clause-later_offers
returns-clause-later_offers c = offer_leaves
