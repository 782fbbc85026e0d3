use Rattle.lossy_network.proofs.Deliveries.{all_in_order, text_delivers}
use Rattle.lossy_network.proofs.laws.where_every_fate_delivers_all_are_taken_in_order.Goals as goal

pub returns-clause-text : goal.returns-clause-text
returns-clause-text c = text_delivers

pub returns-clause-in_order : goal.returns-clause-in_order
returns-clause-in_order c = λ board fates fail calls all.
    (all_in_order fates all c.a_link_forgets_nothing.ensures.board board fail calls).places

pub returns-clause-none_held : goal.returns-clause-none_held
returns-clause-none_held c = λ board fates fail calls all few.
    ((all_in_order fates all c.a_link_forgets_nothing.ensures.board board fail calls).few few).0

pub returns-clause-all_heard : goal.returns-clause-all_heard
returns-clause-all_heard c = λ board fates fail calls all few.
    ((all_in_order fates all c.a_link_forgets_nothing.ensures.board board fail calls).few few).1
