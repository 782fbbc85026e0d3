use Rattle.std.proofs.Common.{◌≡◌, ◌≤◌, ◌∙◌, ℕ, inr, true, List, Vec, Global, ap, length, arith}
use Rattle.std.proofs.lemmas.Grind.{common_steps}
use Rattle.std.proofs.Common.{subst, sym, true≢false}
use Rattle.std.specs.List.{AllByRecursion}
use Rattle.std.proofs.lemmas.List.{length-map}
use Rattle.std.proofs.lemmas.Result.{IfOk-weaker}
use Rattle.ipb_base.specs.Faults.{Rose}
use Rattle.ipb_outside.specs.Pairs.{pair_shown}
use Rattle.hub_multiplexer.specs.Seats.{SeatState}
use Rattle.hub_session.specs.declared.served.Served.{Served}
use Rattle.session_serve.specs.Hubs.{ServesAll}
use Rattle.session_serve.specs.Seats.{AreTakenIn, IsFresh}
use Rattle.session_serve.proofs.EachDone.{all_back, all_in_turn, none_back, opened_of, seats_back, seats_long, with_ok}
use Rattle.session_serve.proofs.hub.serve_seats.Goals as goal

pub returns-then-is_err-clause-all_back : goal.returns-then-is_err-clause-all_back
returns-then-is_err-clause-all_back g c =
    let shows = pair_shown g.D.Incoming.Source g.D.Outgoing.Sink in
    none_back shows c.args.states.now c.args.hub.now.turns c.args.room.seats.items c.args.master.now
    c.join_all.new.master (g.D.Door.coming c.args.door.now) (g.D.Door.coming c.listen.new.self)
    (g.D.Door.kept c.args.door.now) (g.D.Door.kept c.listen.new.self) c.listen.ensures.coming_kept
    c.listen.ensures.others_kept c.requires.seats.fresh c.requires.seats.clients
    (subst (AreTakenIn c.args.master.now c.join_all.new.master) c.into_iter.ensures.rest c.join_all.ensures.joined)

pub give_back-requires-clause-back : goal.give_back-requires-clause-back
give_back-requires-clause-back g c κs within =
    let turns = c.args.hub.now.turns in
    (seats_back turns c.serve_all-ended.ensures.served
    (subst (AllByRecursion (IsFresh turns)) (sym c.into_iter-2.ensures.rest) c.requires.seats.fresh)).0

pub give_back-requires-clause-room : goal.give_back-requires-clause-room
give_back-requires-clause-room g c κs within =
    let all = seats_long c.serve_all-ended.ensures.served in
    let same = ap (λ (l : List SeatState). length l) c.into_iter-2.ensures.rest in
    let room = c.requires.seats.served' in
    omega (arith, all, same, room)

pub join_all-requires-2-clause-back : goal.join_all-requires-2-clause-back
join_all-requires-2-clause-back g c κs within =
    let turns = c.args.hub.now.turns in
    (seats_back turns c.serve_all-ended.ensures.served
    (subst (AllByRecursion (IsFresh turns)) (sym c.into_iter-2.ensures.rest) c.requires.seats.fresh)).1

pub returns-clause-all_back : goal.returns-clause-all_back
returns-clause-all_back g c =
    all_back c.args.hub.now.turns (g.D.Door.kept c.give_back.new.door) c.serve_all-ended.ensures.served
    c.into_iter-2.ensures.rest c.listen.ensures.coming_kept c.give_back.ensures.coming c.listen.ensures.others_kept
    c.serve_all-ended.ensures.kept c.give_back.ensures.went c.requires.seats.fresh c.requires.seats.clients
    c.give_back.ensures.joined c.join_all-2.ensures.joined

pub returns-clause-served : goal.returns-clause-served
returns-clause-served g c =
    let turns = c.args.hub.now.turns in
    let ended = c.serve_all-ended in
    let back = all_back turns (g.D.Door.kept c.give_back.new.door) ended.ensures.served
    c.into_iter-2.ensures.rest c.listen.ensures.coming_kept c.give_back.ensures.coming c.listen.ensures.others_kept
    ended.ensures.kept c.give_back.ensures.went c.requires.seats.fresh c.requires.seats.clients
    c.give_back.ensures.joined c.join_all-2.ensures.joined in
    IfOk-weaker c.conclude.result (λ there. (there ≡ c.give_back.new.served) × (ended.result.is_whole ≡ true))
    (λ (there : Vec Served Global). ServesAll g.D.Door g.D.Incoming.Source g.D.Outgoing.Sink c.args.states.now turns
    c.args.room.seats.items c.args.master.now c.join_all-2.new.master c.args.door.now c.give_back.new.door there.items)
    (λ there is. record {
      all_back = back;
      lines = ap (λ (v : Vec Served Global). v.items) is.0 ∙ c.give_back.ensures.served;
      no_others = ended.ensures.served.all is.1;
    })
    (with_ok (λ there. there ≡ c.give_back.new.served) (ended.result.is_whole ≡ true) c.conclude.result
    c.conclude.ensures.served c.conclude.ensures.whole)

pub returns-clause-all : goal.returns-clause-all
returns-clause-all g c =
    let ended = c.serve_all-ended.result in
    let h = c.serve_all-ended.ensures.served in
    let all = seats_long h in
    let same = ap (λ (l : List SeatState). length l) c.into_iter-2.ensures.rest in
    let lines = ap (λ (l : List Served). length l) c.give_back.ensures.served
    ∙ length-map ended.done.items (λ done. done.served) in
    IfOk-weaker c.conclude.result (λ there. (there ≡ c.give_back.new.served) × (ended.is_whole ≡ true))
    (λ (there : Vec Served Global). length there.items ≡ length c.args.room.seats.items)
    (λ there is. (let none = ap (λ (l : List SeatState). length l) (h.all is.1) in
    let here = ap (λ (v : Vec Served Global). length v.items) is.0 in omega (arith, all, same, lines, none, here)))
    (with_ok (λ there. there ≡ c.give_back.new.served) (ended.is_whole ≡ true) c.conclude.result
    c.conclude.ensures.served c.conclude.ensures.whole)

pub returns-clause-taken_in : goal.returns-clause-taken_in
returns-clause-taken_in g c =
    all_in_turn c.args.master.now c.give_back.new.master c.join_all-2.new.master c.serve_all-ended.ensures.served
    c.into_iter-2.ensures.rest c.requires.seats.clients c.give_back.ensures.taken_in c.join_all-2.ensures.taken_in

pub returns-clause-door_faults : goal.returns-clause-door_faults
returns-clause-door_faults g c =
    let faults = g.D.Door.faults in
    let ended = c.serve_all-ended.ensures.door_faults in
    let same : faults c.listen.new.self ≡ faults c.args.door.now = c.listen.ensures.faults.2 (λ failed.
    true≢false (sym failed ∙ (sym c.is_err.ensures.value ∙ c.if-is_err.false))) in
    let back : faults c.give_back.new.door ≡ faults c.serve_all-ended.new.door = c.give_back.ensures.faults in (
      λ failed. subst (λ (count : ℕ). Rose count (faults c.give_back.new.door)) same
          (subst (Rose (faults c.listen.new.self)) (sym back) (ended.0 (c.conclude.ensures.door failed))),
      subst (λ (count : ℕ). count ≤ faults c.give_back.new.door) same
          (subst (λ (count : ℕ). faults c.listen.new.self ≤ count) (sym back) ended.1),
      λ no_door. back ∙ (ended.2 (λ failed. true≢false (sym (c.conclude.ensures.no_door no_door) ∙ failed)) ∙ same),
    )

pub returns-clause-listens : goal.returns-clause-listens
returns-clause-listens g c =
    let opened = c.give_back.ensures.ports ∙ (c.serve_all-ended.ensures.ports
    ∙ opened_of c.args.port (g.D.Door.ports c.args.door.now) (g.D.Door.ports c.listen.new.self) c.listen.result
    c.listen.ensures.opened c.is_err.ensures.value c.if-is_err.false) in
    (λ done. opened, inr opened)

pub returns-clause-had_memory : goal.returns-clause-had_memory
returns-clause-had_memory g c = c.conclude.ensures.had_memory

pub returns-clause-not_rack : goal.returns-clause-not_rack
returns-clause-not_rack g c = c.conclude.ensures.not_rack

pub returns-clause-none_out : goal.returns-clause-none_out
returns-clause-none_out g c = grind (arith, common_steps)

pub returns-then-is_err-clause-taken_in : goal.returns-then-is_err-clause-taken_in
returns-then-is_err-clause-taken_in g c = grind (arith, common_steps)

pub returns-then-is_err-clause-none_out : goal.returns-then-is_err-clause-none_out
returns-then-is_err-clause-none_out g c = grind (arith, common_steps)

pub returns-then-is_err-clause-listens : goal.returns-then-is_err-clause-listens
returns-then-is_err-clause-listens g c = grind (arith, common_steps)

pub returns-then-is_err-clause-door_faults : goal.returns-then-is_err-clause-door_faults
returns-then-is_err-clause-door_faults g c = grind (arith, common_steps)

pub returns-then-is_err-clause-not_rack : goal.returns-then-is_err-clause-not_rack
returns-then-is_err-clause-not_rack g c = grind (arith, common_steps)

pub give_back-requires-clause-hub : goal.give_back-requires-clause-hub
give_back-requires-clause-hub g c κs within = c.requires.hub

pub give_back-requires-clause-known : goal.give_back-requires-clause-known
give_back-requires-clause-known g c κs within = c.requires.known

pub give_back-requires-clause-out : goal.give_back-requires-clause-out
give_back-requires-clause-out g c = grind (arith, common_steps)

pub give_back-requires-clause-empty : goal.give_back-requires-clause-empty
give_back-requires-clause-empty g c κs within = c.requires.seats.none_served

pub serve_all-ended-requires-clause-lanes : goal.serve_all-ended-requires-clause-lanes
serve_all-ended-requires-clause-lanes g c κs within = c.requires.lanes

pub serve_all-ended-requires-clause-fresh : goal.serve_all-ended-requires-clause-fresh
serve_all-ended-requires-clause-fresh g c κs within =
    subst (AllByRecursion (IsFresh c.args.hub.now.turns)) (sym c.into_iter-2.ensures.rest) c.requires.seats.fresh

pub serve_all-ended-requires-clause-none_running : goal.serve_all-ended-requires-clause-none_running
serve_all-ended-requires-clause-none_running g c κs within = c.requires.seats.none_running

pub serve_all-ended-requires-clause-none_done : goal.serve_all-ended-requires-clause-none_done
serve_all-ended-requires-clause-none_done g c κs within = c.requires.seats.none_done

pub serve_all-ended-requires-clause-room_running : goal.serve_all-ended-requires-clause-room_running
serve_all-ended-requires-clause-room_running g c = grind (arith, common_steps)

pub serve_all-ended-requires-clause-room_done : goal.serve_all-ended-requires-clause-room_done
serve_all-ended-requires-clause-room_done g c = grind (arith, common_steps)

pub join_all-requires-clause-hub : goal.join_all-requires-clause-hub
join_all-requires-clause-hub g c κs within = c.requires.hub

pub join_all-requires-clause-known : goal.join_all-requires-clause-known
join_all-requires-clause-known g c κs within = c.requires.known

pub join_all-requires-2-clause-hub : goal.join_all-requires-2-clause-hub
join_all-requires-2-clause-hub g c = grind (arith, common_steps)

pub join_all-requires-2-clause-known : goal.join_all-requires-2-clause-known
join_all-requires-2-clause-known g c = grind (arith, common_steps)
