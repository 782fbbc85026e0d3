use Rattle.std.proofs.Common.{◌≡◌, ◌∙◌, ◌∷◌, [], ◌+◌, ℕ, List, ap, length, length-append, refl, subst, sym, arith}
use Rattle.std.specs.List.{AllByRecursion}
use Rattle.ipb_base.proofs.AllLemmas.{AllByRecursion-append}
use Rattle.hub_multiplexer.specs.Seats.{SeatState}
use Rattle.session_serve.specs.Seats.{AreOfClientsFrom, IsFresh, with_seats}
use Rattle.session_serve.proofs.Seating.{clients_push, fresh_seat, no_seats, one_more_seat}
use Rattle.session_serve.proofs.seats.seat_all.Goals as goal

pub loop-init : goal.loop-init
loop-init g c =
    let none = ap (λ (l : List SeatState). length l) c.requires.empty in
    let m = c.args.master.now in
    record {
      fresh = subst (AllByRecursion (IsFresh c.args.hub.now.turns)) (sym c.requires.empty) tt;
      clients = subst (AreOfClientsFrom 1) (sym c.requires.empty) tt;
      many = none;
      made = no_seats m ∙ ap (λ (n : ℕ). with_seats m n) (sym none);
      room = refl;
      taken_in = λ n h. h;
    }

pub returns-in_err-seat-clause-taken_in : goal.returns-in_err-seat-clause-taken_in
returns-in_err-seat-clause-taken_in g c =
    λ n h. c.in_err-seat.ensures.taken_in n (c.loop.invariant.taken_in n h)

pub loop-preserved : goal.loop-preserved
loop-preserved g c =
    let i = c.loop.invariant in
    let turns = c.args.hub.now.turns in
    let m = c.args.master.now in
    let seats = c.loop.seats.items in
    let seat = c.in_ok-seat.seat in
    let n = length seats in
    let pushed = c.push_reserved.ensures.items in
    let many = i.many in
    let longer : length c.push_reserved.new.self.items ≡ n + 1 =
    ap (λ (l : List SeatState). length l) pushed ∙ length-append seats (seat ∷ []) in
    let new = fresh_seat turns m c.loop.master n seat i.made c.requires.none c.requires.opens
    c.in_ok-seat.ensures.seat c.is_of_its_client.ensures.numbers c.is_of_its_client.ensures.boards in
    let client = new.1 in
    record {
      fresh = subst (AllByRecursion (IsFresh turns)) (sym pushed)
          (AllByRecursion-append (IsFresh turns) seats (seat ∷ []) i.fresh (new.0, tt));
      clients = subst (AreOfClientsFrom 1) (sym pushed) (clients_push 1 seats seat i.clients (omega (arith, client)));
      many = omega (arith, longer, many);
      made = one_more_seat m c.loop.master c.seat.new.self n i.made c.in_ok-seat.ensures.made
          ∙ ap (λ (k : ℕ). with_seats m k) (sym longer);
      room = c.push_reserved.ensures.capacity ∙ i.room;
      taken_in = λ k h. c.in_ok-seat.ensures.taken_in k (i.taken_in k h);
    }
