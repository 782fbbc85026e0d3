use denote.Param.Send.{sendable}
use Rattle.std.proofs.Common.{◌≡◌, ◌∙◌, ◌∷◌, ◌++◌, ◌+◌, [], ℕ, List, ap, append_assoc, length, length-append, refl}
use Rattle.std.proofs.Common.{subst, sym, arith}
use Rattle.std.proofs.lemmas.Grind.{common_steps}
use Rattle.std.proofs.lemmas.List.{length-map, map-append}
use Rattle.ipb_outside.specs.Pairs.{Went}
use Rattle.hub_multiplexer.proofs.Shares.{lane_send}
use Rattle.hub_multiplexer.specs.Ends.{HasTakenIn}
use Rattle.hub_multiplexer.specs.Seats.{SeatState}
use Rattle.session_serve.specs.Hubs.{pairs_of, seats_of}
use Rattle.session_serve.specs.Seats.{AreOfClientsFrom, AreTakenIn, IsBack}
use Rattle.session_serve.proofs.Lists.{all_middle, all_so_far, went_more, went_none}
use Rattle.session_serve.proofs.Seating.{none_taken, one_taken, taken_more}
use Rattle.session_serve.proofs.hub.give_back.Given.{Over}
use Rattle.session_serve.proofs.hub.give_back.Goals as goal

pub loop-one-init : goal.loop-one-init
loop-one-init g c = record {
  all = c.into_iter-one-iterator.ensures.into_iter_gives.0;
  joined = none_taken c.args.master.now;
  taken_in = λ client of h. subst (λ (n : ℕ). HasTakenIn n c.args.master.now) (omega arith) h;
  lines = c.requires.empty;
  room = refl;
  went = went_none (g.D.Door.kept c.args.door.now);
  out = omega arith;
  coming = refl;
  ports = refl;
  faults = refl;
}

pub join-requires-clause-seat : goal.join-requires-clause-seat
join-requires-clause-seat g c κs within =
    let all = ap (λ l. c.loop-one.yielded ++ l) (sym c.in-Some.ensures.steps.0) ∙ c.loop-one.invariant.all in
    (all_middle (λ one. IsBack c.args.hub.now.turns one.seat) c.loop-one.yielded c.in-Some.one
    c.next.new.self.rest.items
    c.args.done.items c.requires.back all).turns'

pub loop-one-preserved : goal.loop-one-preserved
loop-one-preserved g c =
    let i = c.loop-one.invariant in
    let one = c.in-Some.one in
    let yielded = c.loop-one.yielded in
    let rest = c.next.new.self.rest.items in
    let old = c.args.master.now in
    let new = c.join.new.self in
    let all = ap (λ l. yielded ++ l) (sym c.in-Some.ensures.steps.0) ∙ i.all in
    let back = all_middle (λ one. IsBack c.args.hub.now.turns one.seat) yielded one rest c.args.done.items
    c.requires.back all in
    let seats : seats_of (yielded ++ one ∷ []) ≡ seats_of yielded ++ one.seat ∷ [] =
    map-append (λ done. done.seat) yielded (one ∷ []) in
    let out = i.out in
    let counted = c.keep.ensures.counted in
    let longer = length-append yielded (one ∷ []) in
    record {
      all = append_assoc yielded (one ∷ []) rest ∙ all;
      joined = subst (AreTakenIn old new) (sym seats) (one_taken c.args.hub.now.turns old c.loop-one.master new
          (seats_of yielded) one.seat i.joined back c.requires.known c.join.ensures.joined);
      taken_in = λ client. subst (λ (l : List SeatState). AreOfClientsFrom client l → HasTakenIn client old
          → HasTakenIn (client + length l) new) (sym seats)
          (taken_more client (seats_of yielded) one.seat old c.loop-one.master new i.taken_in c.join.ensures.taken_in);
      lines = c.push_reserved.ensures.items ∙ (ap (λ l. l ++ one.served ∷ []) i.lines
          ∙ sym (map-append (λ done. done.served) yielded (one ∷ [])));
      room = c.push_reserved.ensures.capacity ∙ i.room;
      went = subst (Went (g.D.Door.kept c.args.door.now) (g.D.Door.kept c.keep.new.self))
          (sym (map-append (λ done. (done.src, done.sink)) yielded (one ∷ [])))
          (went_more (g.D.Door.kept c.args.door.now) (g.D.Door.kept c.loop-one.door) (g.D.Door.kept c.keep.new.self)
          (pairs_of yielded) (one.src, one.sink) i.went c.keep.ensures.given);
      out = omega (arith, out, counted, longer);
      coming = c.keep.ensures.coming_kept ∙ i.coming;
      ports = c.keep.ensures.ports_kept ∙ i.ports;
      faults = c.keep.ensures.faults_kept ∙ i.faults;
    }

-- behind the last step all were given back
all_back : (g : Over) (c : goal.After-drop-one-iterator g) → c.loop-one.yielded ≡ c.args.done.items
all_back g c =
    let rest = c.loop-one.one-iterator.rest in
    let none : length rest.items ≡ 0 = omega (arith, rest.ok.0, c.in-None.ensures.steps.0) in
    all_so_far c.loop-one.yielded rest.items c.args.done.items none c.loop-one.invariant.all

pub returns-clause-joined : goal.returns-clause-joined
returns-clause-joined g c = rw (← all_back g c) c.loop-one.invariant.joined

pub returns-clause-taken_in : goal.returns-clause-taken_in
returns-clause-taken_in g c =
    let back = all_back g c in
    let counted : length (seats_of c.loop-one.yielded) ≡ length c.args.done.items =
    length-map c.loop-one.yielded (λ done. done.seat) ∙ ap (λ l. length l) back in
    λ client of had. subst (λ (n : ℕ). HasTakenIn (client + n) c.loop-one.master) counted
    (c.loop-one.invariant.taken_in client (subst (λ all. AreOfClientsFrom client (seats_of all)) (sym back) of) had)

pub returns-clause-served : goal.returns-clause-served
returns-clause-served g c = rw (← all_back g c) c.loop-one.invariant.lines

pub returns-clause-went : goal.returns-clause-went
returns-clause-went g c = rw (← all_back g c) c.loop-one.invariant.went

pub returns-clause-out : goal.returns-clause-out
returns-clause-out g c = rw (← all_back g c) c.loop-one.invariant.out

pub returns-clause-coming : goal.returns-clause-coming
returns-clause-coming g c = c.loop-one.invariant.coming

pub returns-clause-ports : goal.returns-clause-ports
returns-clause-ports g c = c.loop-one.invariant.ports

pub returns-clause-faults : goal.returns-clause-faults
returns-clause-faults g c = c.loop-one.invariant.faults

pub push_reserved-requires : goal.push_reserved-requires
push_reserved-requires g c = grind (arith, common_steps)

pub join-requires-clause-hub : goal.join-requires-clause-hub
join-requires-clause-hub g c κs within = grind (arith, common_steps)

pub keep-requires : goal.keep-requires
keep-requires g c = grind (arith, common_steps)

pub join-requires-send-V : goal.join-requires-send-V
join-requires-send-V g c κs within = search (lane_send, sendable)
