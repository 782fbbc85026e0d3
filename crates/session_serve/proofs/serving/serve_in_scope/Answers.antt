use Rattle.std.proofs.lemmas.Grind.{common_steps}
use Rattle.std.proofs.Common.{rules, ◌≡◌, ◌∙◌, List, ap, length, length-append, map, subst, sym, arith}
use Rattle.std.proofs.lemmas.List.{length-map}
use Rattle.std.specs.List.{AllByRecursion}
use Rattle.std.specs.Vec.Iter.{into_iter_items}
use Rattle.ipb_outside.specs.Pairs.{pair_shown}
use Rattle.hub_multiplexer.specs.Seats.{SeatState}
use Rattle.hub_lane.specs.declared.answers.BoardState.{BoardState}
use Rattle.session_serve.specs.Seats.{IsDoneOf}
use Rattle.session_serve.proofs.Lists.{zip_long}
use Rattle.session_serve.proofs.EachDone.{each_done}
use Rattle.session_serve.proofs.serving.serve_in_scope.Goals as goal

pub returns-clause-served : goal.returns-clause-served
returns-clause-served g c =
    let accepted = c.accept_all-is_whole in
    let running = accepted.new.running.items in
    let shows = pair_shown g.D.Incoming.Source g.D.Outgoing.Sink in
    let boards : c.work.inside.states.now ≡ c.args.work.boards = search rules in
    let seats : into_iter_items c.work.inside.seats ≡ c.args.work.seats = search rules in
    record {
      befores = map (λ r. r.seat) running;
      came = map (λ r. r.pair) running;
      came' = accepted.ensures.came;
      seats' = sym seats ∙ accepted.ensures.seats;
      each = each_done shows c.args.work.boards running c.wait_for_all.new.done.items c.wait_for_all.ensures
          (subst (λ (bs : List BoardState). AllByRecursion (λ r. r.boards ≡ bs) running) boards
          accepted.ensures.boards);
      all = accepted.ensures.all;
    }

pub returns-clause-out : goal.returns-clause-out
returns-clause-out g c =
    let shows = pair_shown g.D.Incoming.Source g.D.Outgoing.Sink in
    let out = c.accept_all-is_whole.ensures.out in
    let long = zip_long (IsDoneOf shows) c.accept_all-is_whole.new.running.items c.wait_for_all.new.done.items
    c.wait_for_all.ensures in
    omega (arith, out, long)

pub returns-clause-door_faults : goal.returns-clause-door_faults
returns-clause-door_faults g c = c.accept_all-is_whole.ensures.door_faults

pub returns-clause-kept : goal.returns-clause-kept
returns-clause-kept g c = c.accept_all-is_whole.ensures.kept

pub returns-clause-ports : goal.returns-clause-ports
returns-clause-ports g c = c.accept_all-is_whole.ensures.ports

pub accept_all-is_whole-requires-clause-room : goal.accept_all-is_whole-requires-clause-room
accept_all-is_whole-requires-clause-room g c = grind (arith, common_steps)

pub accept_all-is_whole-requires-clause-lanes : goal.accept_all-is_whole-requires-clause-lanes
accept_all-is_whole-requires-clause-lanes g c = grind (arith, common_steps)

pub accept_all-is_whole-requires-clause-fresh : goal.accept_all-is_whole-requires-clause-fresh
accept_all-is_whole-requires-clause-fresh g c = grind (arith, common_steps)

pub accept_all-is_whole-requires-clause-empty : goal.accept_all-is_whole-requires-clause-empty
accept_all-is_whole-requires-clause-empty g c = grind (arith, common_steps)

pub wait_for_all-requires-clause-room : goal.wait_for_all-requires-clause-room
wait_for_all-requires-clause-room g c =
    let accepted = c.accept_all-is_whole in
    let running = accepted.new.running.items in
    let seats = ap (λ (l : List SeatState). length l) accepted.ensures.seats in
    let long = length-append (map (λ r. r.seat) running) (into_iter_items accepted.new.seats) in
    let same = length-map running (λ r. r.seat) in
    let room = c.work.invariant.5 in
    omega (arith, seats, long, same, room)
