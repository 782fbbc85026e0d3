use Rattle.std.proofs.Common.{◌≡◌, ℕ, rules, subst}
use Rattle.ipb_base.specs.Faults.{Rose}
use Rattle.hub_multiplexer.specs.OwnItems.{asked_by, planned_by}
use Rattle.hub_session.specs.Inside.{IsSettled}
use Rattle.hub_session.proofs.Seats.{all_map, if_some_at}
use Rattle.hub_session.proofs.Told.{by_input, told_end}
use Rattle.hub_session.proofs.session.serve_one.Goals as goal

pub returns-clause-asked_all : goal.returns-clause-asked_all
returns-clause-asked_all g c = λ ne board.
    if_some_at (λ k. asked_by k ≡ planned_by k) c.serve_pieces-served.new.seat.knows board
    (all_map IsSettled (λ k. asked_by k ≡ planned_by k) c.serve_pieces-served.new.seat.knows (λ k s. s.all_asked)
    (c.serve_pieces-served.ensures.settled ne))

pub returns-clause-told : goal.returns-clause-told
returns-clause-told g c = told_end c.args.map.now c.args.seat.now c.serve_pieces-served.new.seat
    (g.S.Source.left c.args.src.now) (g.S.Source.left c.serve_pieces-served.new.src)
    (g.O.Sink.written c.args.sink.now) _ c.serve_pieces-served.result c.serve_pieces-served.ensures.served

pub returns-clause-faultless : goal.returns-clause-faultless
returns-clause-faultless g c = λ not_read not_write memory. by_input c.serve_pieces-served.result.end
    (λ e. not_read (c.serve_pieces-served.ensures.read_faults.0 e))
    (λ e. not_write (subst (λ (n : ℕ). Rose (g.O.Sink.faults c.args.sink.now) n) (search rules)
    (c.serve_pieces-served.ensures.write_faults.0 e))) memory
