use Rattle.std.proofs.Common.{[], List, ap, length, refl, subst, sym, arith}
use Rattle.std.proofs.lemmas.Grind.{common_steps}
use Rattle.std.specs.List.{AllByRecursion}
use Rattle.ipb_outside.specs.Pairs.{pair_shown}
use Rattle.hub_multiplexer.specs.Ends.{HasTakenIn}
use Rattle.hub_multiplexer.specs.Seats.{MasterState, SeatState}
use Rattle.session_serve.specs.Hubs.{AllBack}
use Rattle.session_serve.specs.Seats.{AreOfClientsFrom, AreTakenIn, IsBack, with_seats}
use Rattle.session_serve.proofs.EachDone.{fresh_all_back, none_back}
use Rattle.session_serve.proofs.Seating.{no_seats, none_taken}
use Rattle.session_serve.proofs.hub.serve_under_seats.Goals as goal

pub returns-in_err-room-clause-all_back : goal.returns-in_err-room-clause-all_back
returns-in_err-room-clause-all_back g c =
    let shows = pair_shown g.D.Incoming.Source g.D.Outgoing.Sink in
    let m = c.args.master.now in (
      [],
      none_back shows c.args.states.now c.args.hub.now.turns [] (with_seats m 0) m
          (g.D.Door.coming c.args.door.now) (g.D.Door.coming c.args.door.now) (g.D.Door.kept c.args.door.now)
          (g.D.Door.kept c.args.door.now) refl refl tt tt
          (subst (λ (s : MasterState). AreTakenIn s m []) (no_seats m) (none_taken m)),
    )

pub join_all-requires-clause-back : goal.join_all-requires-clause-back
join_all-requires-clause-back g c κs within =
    let turns = c.args.hub.now.turns in
    subst (AllByRecursion (IsBack turns)) (sym c.into_iter.ensures.rest)
    (fresh_all_back turns c.seat_all.new.seats.items c.seat_all.ensures.fresh)

pub returns-in-Ok-clause-all_back : goal.returns-in-Ok-clause-all_back
returns-in-Ok-clause-all_back g c =
    let shows = pair_shown g.D.Incoming.Source g.D.Outgoing.Sink in
    let seats = c.seat_all.new.seats.items in (
      seats,
      subst (λ (s : MasterState). AllBack shows c.args.states.now c.args.hub.now.turns seats s c.serve_seats.new.master
          (g.D.Door.coming c.args.door.now) (g.D.Door.coming c.serve_seats.new.door) (g.D.Door.kept c.args.door.now)
          (g.D.Door.kept c.serve_seats.new.door)) c.seat_all.ensures.made c.serve_seats.ensures.all_back,
    )

pub returns-in-Ok-clause-taken_in : goal.returns-in-Ok-clause-taken_in
returns-in-Ok-clause-taken_in g c =
    let seats = ap (λ (m : MasterState). m.seats) c.serve_seats.ensures.all_back.taken_in.rest_same in
    let made = ap (λ (m : MasterState). m.seats) c.seat_all.ensures.made in
    let none = c.requires.none in
    λ from. subst (λ n. HasTakenIn n c.serve_seats.new.master) (omega (arith, seats, made, none))
    (c.serve_seats.ensures.taken_in (c.seat_all.ensures.taken_in 1 from))

pub returns-in-Err-clause-all_back : goal.returns-in-Err-clause-all_back
returns-in-Err-clause-all_back g c =
    let shows = pair_shown g.D.Incoming.Source g.D.Outgoing.Sink in
    let turns = c.args.hub.now.turns in
    let seats = c.seat_all.new.seats.items in
    let rest = c.into_iter.ensures.rest in
    let joined = subst (AreTakenIn c.seat_all.new.master c.join_all.new.master) rest c.join_all.ensures.joined in (
      seats,
      none_back shows c.args.states.now turns seats (with_seats c.args.master.now (length seats)) c.join_all.new.master
          (g.D.Door.coming c.args.door.now) (g.D.Door.coming c.args.door.now) (g.D.Door.kept c.args.door.now)
          (g.D.Door.kept c.args.door.now) refl refl c.seat_all.ensures.fresh c.seat_all.ensures.clients
          (subst (λ (s : MasterState). AreTakenIn s c.join_all.new.master seats) c.seat_all.ensures.made joined),
    )

pub returns-in-Err-clause-taken_in : goal.returns-in-Err-clause-taken_in
returns-in-Err-clause-taken_in g c =
    let rest = c.into_iter.ensures.rest in
    let long = ap (λ (l : List SeatState). length l) rest in
    let seats = ap (λ (m : MasterState). m.seats) c.join_all.ensures.joined.rest_same in
    let made = ap (λ (m : MasterState). m.seats) c.seat_all.ensures.made in
    let none = c.requires.none in
    λ from. subst (λ n. HasTakenIn n c.join_all.new.master) (omega (arith, long, seats, made, none))
    (c.join_all.ensures.taken_in 1 (subst (λ l. AreOfClientsFrom 1 l) (sym rest) c.seat_all.ensures.clients)
    (c.seat_all.ensures.taken_in 1 from))

pub returns-in-Ok-clause-had_memory : goal.returns-in-Ok-clause-had_memory
returns-in-Ok-clause-had_memory g c = c.serve_seats.ensures.had_memory

pub returns-in-Ok-clause-none_out : goal.returns-in-Ok-clause-none_out
returns-in-Ok-clause-none_out g c = c.serve_seats.ensures.none_out

pub returns-in-Ok-clause-listens : goal.returns-in-Ok-clause-listens
returns-in-Ok-clause-listens g c = c.serve_seats.ensures.listens

pub returns-in-Ok-clause-door_faults : goal.returns-in-Ok-clause-door_faults
returns-in-Ok-clause-door_faults g c = c.serve_seats.ensures.door_faults

pub returns-in-Ok-clause-not_rack : goal.returns-in-Ok-clause-not_rack
returns-in-Ok-clause-not_rack g c = c.serve_seats.ensures.not_rack

pub returns-in-Err-clause-listens : goal.returns-in-Err-clause-listens
returns-in-Err-clause-listens g c = grind (arith, common_steps)

pub returns-in-Err-clause-door_faults : goal.returns-in-Err-clause-door_faults
returns-in-Err-clause-door_faults g c = grind (arith, common_steps)

pub returns-in-Err-clause-not_rack : goal.returns-in-Err-clause-not_rack
returns-in-Err-clause-not_rack g c = grind (arith, common_steps)

pub returns-in_err-room-clause-taken_in : goal.returns-in_err-room-clause-taken_in
returns-in_err-room-clause-taken_in g c = grind (arith, common_steps)

pub returns-in_err-room-clause-listens : goal.returns-in_err-room-clause-listens
returns-in_err-room-clause-listens g c = grind (arith, common_steps)

pub returns-in_err-room-clause-door_faults : goal.returns-in_err-room-clause-door_faults
returns-in_err-room-clause-door_faults g c = grind (arith, common_steps)

pub returns-in_err-room-clause-not_rack : goal.returns-in_err-room-clause-not_rack
returns-in_err-room-clause-not_rack g c = grind (arith, common_steps)

pub serve_seats-requires-clause-hub : goal.serve_seats-requires-clause-hub
serve_seats-requires-clause-hub g c = grind (arith, common_steps)

pub serve_seats-requires-clause-known : goal.serve_seats-requires-clause-known
serve_seats-requires-clause-known g c = grind (arith, common_steps)

pub serve_seats-requires-clause-lanes : goal.serve_seats-requires-clause-lanes
serve_seats-requires-clause-lanes g c κs within = c.requires.lanes

pub serve_seats-requires-clause-seats : goal.serve_seats-requires-clause-seats
serve_seats-requires-clause-seats g c = grind (arith, common_steps)

pub join_all-requires-clause-hub : goal.join_all-requires-clause-hub
join_all-requires-clause-hub g c = grind (arith, common_steps)

pub join_all-requires-clause-known : goal.join_all-requires-clause-known
join_all-requires-clause-known g c = grind (arith, common_steps)

pub seat_all-requires-clause-hub : goal.seat_all-requires-clause-hub
seat_all-requires-clause-hub g c κs within = c.requires.hub

pub seat_all-requires-clause-none : goal.seat_all-requires-clause-none
seat_all-requires-clause-none g c κs within = c.requires.none

pub seat_all-requires-clause-opens : goal.seat_all-requires-clause-opens
seat_all-requires-clause-opens g c κs within = c.requires.opens

pub seat_all-requires-clause-empty : goal.seat_all-requires-clause-empty
seat_all-requires-clause-empty g c κs within = c.in_ok-room.ensures.no_seats

pub seat_all-requires-clause-room : goal.seat_all-requires-clause-room
seat_all-requires-clause-room g c κs within = c.in_ok-room.ensures.seats'
