use Rattle.std.proofs.Common.{◌∙◌, ◌∷◌, ◌++◌, [], List, ap, append_assoc, sym}
use Rattle.std.specs.Vec.Iter.{into_iter_items}
use Rattle.hub_multiplexer.specs.Seats.{SeatState}
use Rattle.session_serve.specs.Seats.{IsBack}
use Rattle.session_serve.proofs.Lists.{all_middle}
use Rattle.session_serve.proofs.Seating.{one_taken, taken_more}
use Rattle.session_serve.proofs.seats.join_all.Goals as goal

pub join-requires-clause-seat : goal.join-requires-clause-seat
join-requires-clause-seat g c κs within =
    let all = ap (λ (l : List SeatState). c.loop-seat.yielded ++ l) (sym c.in-Some.ensures.steps.0)
    ∙ c.loop-seat.invariant.all in
    (all_middle (IsBack c.args.hub.now.turns) c.loop-seat.yielded c.in-Some.seat (into_iter_items c.next.new.self)
    (into_iter_items c.args.seats) c.requires.back all).turns'

pub loop-seat-preserved : goal.loop-seat-preserved
loop-seat-preserved g c =
    let i = c.loop-seat.invariant in
    let seat = c.in-Some.seat in
    let rest = into_iter_items c.next.new.self in
    let all = ap (λ (l : List SeatState). c.loop-seat.yielded ++ l) (sym c.in-Some.ensures.steps.0) ∙ i.all in
    let back = all_middle (IsBack c.args.hub.now.turns) c.loop-seat.yielded seat rest (into_iter_items c.args.seats)
    c.requires.back all in
    record {
      all = append_assoc c.loop-seat.yielded (seat ∷ []) rest ∙ all;
      joined = one_taken c.args.hub.now.turns c.args.master.now c.loop-seat.master c.join.new.self c.loop-seat.yielded
          seat i.joined back c.requires.known c.join.ensures.joined;
      taken_in = λ client of h. taken_more client c.loop-seat.yielded seat c.args.master.now c.loop-seat.master
          c.join.new.self i.taken_in c.join.ensures.taken_in of h;
    }
