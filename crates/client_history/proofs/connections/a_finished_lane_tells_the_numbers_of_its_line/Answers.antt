use Rattle.std.proofs.Common.{◌≡◌, ℕ, List, length, map, sym, ap, ◌∙◌}
use Rattle.std.specs.List.{count_by}
use Rattle.std.proofs.lemmas.List.{length-map}
use Rattle.world_model.specs.declared.offered.Offered.{Offered}
use Rattle.world_model.specs.Facts.{bodies_of as bodies_sent_of}
use Rattle.lane_record.specs.declared.outcome.Outcome.{Outcome}
use Rattle.lane_record.specs.FirstSends.{bodies_sent, first_sends}
use Rattle.lane_record.specs.Outcomes.{is_replied, is_timed_out}
use Rattle.hub_lane.specs.Calls as lane
use Rattle.script_plans.specs.declared.greeting.Greeting.TheVariants.{Live}
use Rattle.transcript.specs.declared.line.BoardLine.TheVariants as board_lines
use Rattle.transcript.specs.Lines.{is_lost}
use Rattle.board_history.specs.Order.{Placed, bodies_in, order}
use Rattle.board_history.specs.Records.{has_become}
use Rattle.board_history.proofs.Waits.{timeouts_counted}
use Rattle.client_history.specs.Boards.{run_of}
use Rattle.client_history.specs.Connections.{submitted_bodies, dispatches_of}
use Rattle.client_history.proofs.Numbers.{lost_alike, replied_alike, same_count}
use Rattle.client_history.proofs.Parts.{bodies_shown, dispatches_shown, flat_again, outcomes_shown, record_shown}
use Rattle.client_history.proofs.Parts.{same_joined, same_lengths}
use Rattle.client_history.proofs.connections.a_finished_lane_tells_the_numbers_of_its_line.Goals as goal

pub returns : goal.returns
returns c =
    λ settings status hub items outcomes lates give_ups down spent telling faults quiets spec payload connections is of.
    let run = run_of spec (record { told = Live payload; connections = connections }) in
    let legal = is.kept.legal in
    let bodies = map submitted_bodies connections in
    let dispatches = map dispatches_of connections in
    let shown = record_shown connections items of in
    let finished = c.a_clients_record_is_finished.ensures bodies dispatches items outcomes of legal in
    let sent_bodies : bodies_sent_of hub.sent ≡ bodies_sent (first_sends items) =
    c.a_hub_has_sent_what_a_finished_record_tells.ensures.sent items outcomes hub.sent _ _ legal finished is.agrees in
    let flat = flat_again connections in
    let replied = ap (count_by is_replied) (sym flat)
    ∙ c.a_record_counts_what_became_of_bodies.ensures is_replied bodies dispatches items outcomes of legal
    ∙ same_count (has_become is_replied) lane.is_replied outcomes replied_alike in
    let timed_out = ap (count_by is_timed_out) (sym flat)
    ∙ c.a_record_counts_what_became_of_bodies.ensures is_timed_out bodies dispatches items outcomes of legal
    ∙ timeouts_counted outcomes in
    let lost = ap (count_by is_lost) (sym flat)
    ∙ c.a_record_counts_what_became_of_bodies.ensures is_lost bodies dispatches items outcomes of legal
    ∙ same_count (has_become is_lost) lane.is_lost_at_place outcomes lost_alike in
    let in_order = order (bodies_shown connections) (outcomes_shown connections) in
    let sends : bodies_in in_order ≡ bodies_sent (first_sends items) =
    ap (λ (oss : List (List Outcome)). bodies_in (order (bodies_shown connections) oss)) (sym (same_joined connections))
    ∙ c.the_order_is_the_first_sends.ensures.sends (bodies_shown connections) (dispatches_shown connections) items
    outcomes shown legal in
    let sent = c.the_first_sends_are_the_order.ensures run (same_lengths connections)
    ∙ sym (length-map in_order (λ (p : Placed). p.body))
    ∙ ap (λ (l : List (List ℕ)). length l) (sends ∙ sym sent_bodies)
    ∙ length-map hub.sent (λ (o : Offered). o.body) in
    λ i. board_lines.Live spec.name (sent i) (replied i) (timed_out i) (lost i)
