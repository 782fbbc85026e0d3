use Rattle.std.proofs.Common.{ℕ, List, [], length, sym, ◌∙◌, subst, arith, append-nil}
use Rattle.std.specs.List.{AllByRecursion}
use Rattle.board_bus.specs.Bodies.{replay}
use Rattle.lane_record.specs.Lists.{CountsFrom}
use Rattle.board_history.specs.Order.{Placed, places_of}
use Rattle.board_history.specs.Parts.{IsReplyOf}
use Rattle.board_history.specs.InTurn.{in_turn}
use Rattle.board_history.proofs.Turns.{all_of, same_shape, all_replied, places_count, order_is, scripts_kept}
use Rattle.board_history.proofs.Turns.{order_bodies, all_replies, all_executed}
use Rattle.board_history.proofs.laws.clients_in_turn_make_a_history.Goals as goal

pub returns-clause-history : goal.returns-clause-history
returns-clause-history c = λ opening bodies. record {
  shape = same_shape 1 opening bodies;
  one_order = subst (λ (ps : List Placed). CountsFrom 1 (places_of ps)) (sym (order_is 1 opening bodies))
      (places_count 1 opening bodies);
  script_order = scripts_kept 1 opening bodies (omega arith);
  replies = subst (λ (all : List (List ℕ)). AllByRecursion (AllByRecursion (IsReplyOf (replay opening all).replies))
      (in_turn 1 opening bodies))
      (sym (order_bodies 1 opening bodies)) (all_replies [] opening bodies);
  late = tt;
}

pub returns-clause-replied : goal.returns-clause-replied
returns-clause-replied c = λ opening bodies. all_replied 1 opening bodies

pub returns-clause-in_turn : goal.returns-clause-in_turn
returns-clause-in_turn c = λ opening bodies. places_count 1 opening bodies

pub returns-clause-order : goal.returns-clause-order
returns-clause-order c = λ opening bodies. order_bodies 1 opening bodies

pub returns-clause-executed : goal.returns-clause-executed
returns-clause-executed c = λ opening bodies. record {
  front = ([], order_bodies 1 opening bodies ∙ sym (append-nil (all_of bodies)));
  replied = all_executed (length (all_of bodies)) 1 opening bodies (omega arith);
  late = tt;
}
