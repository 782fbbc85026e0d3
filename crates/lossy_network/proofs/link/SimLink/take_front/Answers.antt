use Rattle.std.proofs.Common.{◌≡◌, ◌≤◌, ◌+◌, ◌∙◌, subst, sym, arith, List, ℕ, length}
use Rattle.std.specs.List.{slice_get}
use Rattle.board_node.specs.Answers.{answer_bytes}
use Rattle.world_model.specs.Board.{Board, hear}
use Rattle.links.specs.declared.link.TheConstants.{MAX_DATAGRAM}
use Rattle.lossy_network.specs.Network.{Network, Taken, Taking, front}
use Rattle.lossy_network.specs.Inside.{IsDrawn, network_of, traffic_of}
use Rattle.lossy_network.proofs.Hearing.{air_grows, air_short, hub_bytes_none, when_none}
use Rattle.lossy_network.proofs.Fronts.{answered_is, dropped_is, unanswered_is}
use Rattle.lossy_network.proofs.link.SimLink.take_front.Goals as goal

pub invariant_of-self-then-answer-len : goal.invariant_of-self-then-answer-len
invariant_of-self-then-answer-len c =
    let i = c.self.inside in
    let place = c.in-Some.place in
    let by_board = rw c.if-not-is_heard.false at c.in_ok-is_heard.ensures.heard in
    let grows = air_grows i.air c.hear.new.self (slice_get i.air.air place) by_board in
    let fits : (datagram : List ℕ) → length (answer_bytes (hear i.air.board datagram).answer) ≤ MAX_DATAGRAM =
    (λ datagram. subst (λ (b : Board). length (answer_bytes (hear b datagram).answer) ≤ MAX_DATAGRAM)
    c.board-board.ensures (omega (arith, c.answers_fit.ensures datagram, c.keeps_its_ranges.ensures.mtu.1))) in
    let size : c.len-answer.result + 1 ≡ length c.hear.new.self.air = omega (arith, grows) in
    record {
      drawn = subst (λ (n : ℕ). IsDrawn i.fates n c.next_fate-fate.new.noise) size c.next_fate-fate.ensures.drawn;
      short = air_short i.air c.hear.new.self (slice_get i.air.air place) fits c.self.invariant.short by_board;
    }

pub returns-then-not-is_heard-clause-taken : goal.returns-then-not-is_heard-clause-taken
returns-then-not-is_heard-clause-taken c =
    let i = c.self.inside in
    let place = c.in-Some.place in
    let found = c.in-Some.ensures.some in
    let none = hub_bytes_none i.air place (when_none c.for_hub.result _ (sym c.is_some.ensures ∙ c.if-is_some.false)
    c.for_hub.ensures.none) in
    let heard = rw c.if-not-is_heard.true at c.in_ok-is_heard.ensures.heard in
    subst (λ (net : Network). (taking : Taking) × (front net ≡ Taken taking
    (record (network_of i) { told = c.hear.new.self; traffic = traffic_of c.count_dropped.new.self }))) c.self.view_is
    (dropped_is (network_of i) place found.0 c.pop_front.new.self.items c.hear.new.self (traffic_of c.reserve.new.self)
    (traffic_of c.count_dropped.new.self) found.1
    none heard.0 heard.1 c.reserve.ensures.same c.pop_front.ensures.rest
    c.count_dropped.ensures)

pub returns-then-answer-len-clause-taken : goal.returns-then-answer-len-clause-taken
returns-then-answer-len-clause-taken c =
    let i = c.self.inside in
    let place = c.in-Some.place in
    let found = c.in-Some.ensures.some in
    let none = hub_bytes_none i.air place (when_none c.for_hub.result _ (sym c.is_some.ensures ∙ c.if-is_some.false)
    c.for_hub.ensures.none) in
    let heard = rw c.if-not-is_heard.false at c.in_ok-is_heard.ensures.heard in
    subst (λ (net : Network). (taking : Taking) × (front net ≡ Taken taking
    (record (network_of i) { told = c.hear.new.self; traffic = traffic_of c.put.new.self }))) c.self.view_is
    (answered_is (network_of i) place found.0 c.pop_front.new.self.items c.hear.new.self
    (traffic_of c.reserve.new.self) (traffic_of c.put.new.self) c.next_fate-fate.result c.len-answer.result found.1
    none heard c.reserve.ensures.same c.pop_front.ensures.rest
    c.len-answer.ensures (omega arith) c.next_fate-fate.ensures.fate c.put.ensures)

pub returns-else-answer-len-clause-taken : goal.returns-else-answer-len-clause-taken
returns-else-answer-len-clause-taken c =
    let i = c.self.inside in
    let place = c.in-Some.place in
    let found = c.in-Some.ensures.some in
    let none = hub_bytes_none i.air place (when_none c.for_hub.result _ (sym c.is_some.ensures ∙ c.if-is_some.false)
    c.for_hub.ensures.none) in
    let heard = rw c.if-not-is_heard.false at c.in_ok-is_heard.ensures.heard in
    subst (λ (net : Network). (taking : Taking) × (front net ≡ Taken taking (record (network_of i) {
      told = c.hear.new.self;
      traffic = record {
        queue = c.pop_front.new.self.items;
        delayed = c.reserve.new.self.delayed.items;
        held = c.reserve.new.self.held;
      };
    }))) c.self.view_is
    (unanswered_is (network_of i) place found.0 c.pop_front.new.self.items c.hear.new.self
    (traffic_of c.reserve.new.self) c.len-answer.result found.1
    none heard c.reserve.ensures.same c.pop_front.ensures.rest
    c.len-answer.ensures (omega arith))
