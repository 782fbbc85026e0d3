use Rattle.std.proofs.Common.{◌∙◌, ap, List}
use Rattle.lane_record.specs.declared.outcome.Outcome.{Outcome}
use Rattle.board_history.specs.Order.{bodies_in, order}
use Rattle.board_history.specs.History.{bodies_by_client}
use Rattle.board_history.specs.Runs.{opens_with}
use Rattle.board_history.proofs.Shown.{turn_of}
use Rattle.board_history.proofs.run_laws.the_order_is_client_by_client.Goals as goal

pub returns : goal.returns
returns c = λ spec board scripts run is.
    ap (λ (outcomes : List (List Outcome)). bodies_in (order (bodies_by_client run) outcomes))
    (turn_of c.a_history_of_clients_in_turn_is_the_only_one.ensures spec board scripts run is)
    ∙ c.clients_in_turn_make_a_history.ensures.order (opens_with spec.link) (bodies_by_client run)
