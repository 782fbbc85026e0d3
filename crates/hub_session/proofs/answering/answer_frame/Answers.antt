use Rattle.std.proofs.Common.{◌≡◌, ℕ, List, ◌++◌, Option, Some, rules, sym, ap, ◌∙◌, subst, inr, arith}
use Rattle.std.proofs.lemmas.Grind.{common_steps}
use Rattle.std.specs.List.{slice_get}
use Rattle.packet_codec.specs.declared.packet.Packet.{Packet}
use Rattle.hub_lane.specs.declared.answers.BoardState.{BoardState}
use Rattle.hub_multiplexer.specs.Seats.{SeatState}
use Rattle.hub_framing.specs.Frames.{RequestFrame, reply_bytes}
use Rattle.hub_session.specs.declared.got.Got.{Got}
use Rattle.hub_session.specs.Answers.{answer, control_packet, reply_of_packet}
use Rattle.hub_session.specs.Exchanges.{Exchanges, ExchangesFor, request_in}
use Rattle.hub_session.specs.Serving.{Reached, ReachesFor}
use Rattle.hub_session.specs.Inside.{StandsOf}
use Rattle.hub_session.proofs.Results.{on_err_follows, on_ok_follows}
use Rattle.hub_session.proofs.answering.answer_frame.Goals as goal

answered_by : (map : List BoardState) (frame : RequestFrame) (board : ℕ) (packet : Packet) (state : Option BoardState)
    (old new : SeatState) (before after : List ℕ) → board ≡ frame.board → control_packet frame.packet ≡ Some packet
    → state ≡ slice_get map frame.board
    → ((got : Got) × ExchangesFor (request_in (Some packet) state) got old new
    × (after ≡ before ++ reply_bytes (reply_of_packet board (Some packet) state got)))
    → ((got : Got) × Exchanges map (record { frame = frame; got = got }) old new
    × (after ≡ before ++ answer map frame got))
answered_by map frame board packet state old new before after at read is a = (
  a.0,
  subst (λ (s : Option BoardState). ExchangesFor (request_in (control_packet frame.packet) s) a.0 old new) is
      (subst (λ (p : Option Packet). ExchangesFor (request_in p state) a.0 old new) (sym read) a.1),
  a.2 ∙ (ap (λ (b : ℕ). before ++ reply_bytes (reply_of_packet b (Some packet) state a.0)) at
      ∙ (ap (λ (p : Option Packet). before ++ reply_bytes (reply_of_packet frame.board p state a.0)) (sym read)
      ∙ ap (λ (s : Option BoardState). before
      ++ reply_bytes (reply_of_packet frame.board (control_packet frame.packet) s a.0)) is)),
)

stands_by : (map : List BoardState) (frame : RequestFrame) (packet : Packet) (state : Option BoardState)
    (old new : SeatState) → control_packet frame.packet ≡ Some packet → state ≡ slice_get map frame.board
    → ((reached : Reached) × ReachesFor (request_in (Some packet) state) reached old new)
    → StandsOf map frame old new
stands_by map frame packet state old new read is r = inr (
  r.0,
  subst (λ (s : Option BoardState). ReachesFor (request_in (control_packet frame.packet) s) r.0 old new) is
      (subst (λ (p : Option Packet). ReachesFor (request_in p state) r.0 old new) (sym read) r.1),
)

pub returns-in-Some-clause-answered : goal.returns-in-Some-clause-answered
returns-in-Some-clause-answered g c =
    let map = c.args.boards.now.map.now in
    let frame = c.args.frame.now in
    let read : control_packet frame.packet ≡ Some c.in-Some.packet = search rules in
    let is : c.state_at-state.result ≡ slice_get map frame.board = search rules in
    let at : c.frame.inside.board ≡ frame.board = search rules in
    on_ok_follows c.answer_packet.result c.answer_packet.ensures.answered
    (answered_by map frame c.frame.inside.board c.in-Some.packet c.state_at-state.result c.args.seat.now c.answer_packet.new.seat
    c.args.out.now.items c.answer_packet.new.out.items at read is)

pub returns-in-Some-clause-stands : goal.returns-in-Some-clause-stands
returns-in-Some-clause-stands g c =
    let map = c.args.boards.now.map.now in
    let frame = c.args.frame.now in
    let read : control_packet frame.packet ≡ Some c.in-Some.packet = search rules in
    let is : c.state_at-state.result ≡ slice_get map frame.board = search rules in
    on_err_follows c.answer_packet.result c.answer_packet.ensures.reached
    (stands_by map frame c.in-Some.packet c.state_at-state.result c.args.seat.now c.answer_packet.new.seat read is)

pub returns-in_err-packet-clause-settled : goal.returns-in_err-packet-clause-settled
returns-in_err-packet-clause-settled g c = grind (arith, common_steps)

pub returns-in_err-packet-clause-stands : goal.returns-in_err-packet-clause-stands
returns-in_err-packet-clause-stands g c = grind (arith, common_steps)

pub returns-in-Some-clause-settled : goal.returns-in-Some-clause-settled
returns-in-Some-clause-settled g c = grind (arith, common_steps)

pub returns-in-None-clause-answered : goal.returns-in-None-clause-answered
returns-in-None-clause-answered g c = grind (arith, common_steps)

pub returns-in-None-clause-settled : goal.returns-in-None-clause-settled
returns-in-None-clause-settled g c = grind (arith, common_steps)

pub returns-in-None-clause-stands : goal.returns-in-None-clause-stands
returns-in-None-clause-stands g c = grind (arith, common_steps)
