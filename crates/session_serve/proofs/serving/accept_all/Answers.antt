use Rattle.std.proofs.Common.{◌≡◌, ◌∙◌, ◌∷◌, ◌++◌, [], List, ap, append_assoc, length, length-append, map, subst, sym}
use Rattle.std.proofs.Common.{arith, true≢false}
use Rattle.std.proofs.lemmas.Grind.{common_steps}
use Rattle.std.specs.List.{AllByRecursion}
use Rattle.std.specs.Vec.Iter.{into_iter_items}
use Rattle.std.proofs.lemmas.List.{map-append}
use Rattle.ipb_base.proofs.AllLemmas.{AllByRecursion-append}
use Rattle.ipb_outside.specs.Pairs.{Came}
use Rattle.hub_multiplexer.specs.Seats.{SeatState}
use Rattle.session_serve.specs.Seats.{IsFresh}
use Rattle.session_serve.proofs.Lists.{all_middle, came_more}
use Rattle.session_serve.proofs.serving.accept_all.Goals as goal

pub begin-requires-clause-seat : goal.begin-requires-clause-seat
begin-requires-clause-seat g c κs within =
    let seats = map (λ r. r.seat) c.loop.running.items in
    let all = ap (λ (l : List SeatState). seats ++ l) (sym c.in-Some.ensures.items) ∙ sym c.loop.invariant.seats' in
    (all_middle (IsFresh c.args.hub.now.turns) seats c.in-Some.seat (into_iter_items c.next.new.self)
    (into_iter_items c.args.seats.now) c.requires.fresh all).turns'

pub begin-requires-clause-unused : goal.begin-requires-clause-unused
begin-requires-clause-unused g c κs within =
    let seats = map (λ r. r.seat) c.loop.running.items in
    let all = ap (λ (l : List SeatState). seats ++ l) (sym c.in-Some.ensures.items) ∙ sym c.loop.invariant.seats' in
    (all_middle (IsFresh c.args.hub.now.turns) seats c.in-Some.seat (into_iter_items c.next.new.self)
    (into_iter_items c.args.seats.now) c.requires.fresh all).unused

pub loop-preserved : goal.loop-preserved
loop-preserved g c =
    let i = c.loop.invariant in
    let running = c.loop.running.items in
    let begun = c.begin.result in
    let seat = c.in-Some.seat in
    let rest = into_iter_items c.next.new.self in
    let pushed = c.push_reserved.ensures.items in
    let longer = ap (λ l. length l) pushed ∙ length-append running (begun ∷ []) in
    let many = i.so_many in
    let out = i.out in
    let counted = c.in-Ok.ensures.counted in
    let pairs = ap (λ l. map (λ r. r.pair) l) pushed ∙ (map-append (λ r. r.pair) running (begun ∷ [])
    ∙ ap (λ p. map (λ r. r.pair) running ++ p ∷ []) c.begin.ensures.pair) in
    let seats = ap (λ l. map (λ r. r.seat) l) pushed ∙ (map-append (λ r. r.seat) running (begun ∷ [])
    ∙ ap (λ (s : SeatState). map (λ r. r.seat) running ++ s ∷ []) c.begin.ensures.seat) in
    record {
      came = subst (Came (g.D.Door.coming c.args.door.now) (g.D.Door.coming c.accept.new.self)) (sym pairs)
          (came_more (g.D.Door.coming c.args.door.now) (g.D.Door.coming c.loop.door) (g.D.Door.coming c.accept.new.self)
          (map (λ r. r.pair) running) (c.in-Ok.src, c.in-Ok.sink) i.came c.in-Ok.ensures.first);
      seats' = i.seats' ∙ (ap (λ (l : List SeatState). map (λ r. r.seat) running ++ l) c.in-Some.ensures.items
          ∙ (sym (append_assoc (map (λ r. r.seat) running) (seat ∷ []) rest)
          ∙ ap (λ (l : List SeatState). l ++ rest) (sym seats)));
      boards = subst (AllByRecursion (λ r. r.boards ≡ c.args.states.now)) (sym pushed)
          (AllByRecursion-append (λ r. r.boards ≡ c.args.states.now) running (begun ∷ []) i.boards
          (c.begin.ensures.boards, tt));
      so_many = omega (arith, longer, many);
      room = (let cap = c.push_reserved.ensures.capacity in let room = i.room in omega (arith, cap, room));
      out = omega (arith, longer, out, counted);
      kept = c.accept.ensures.others_kept ∙ i.kept;
      ports = c.accept.ensures.ports_kept ∙ i.ports;
      faults = c.in-Ok.ensures.faults.2 (λ e. true≢false (sym e)) ∙ i.faults;
    }

pub loop-init : goal.loop-init
loop-init g c = grind (arith, common_steps)

pub returns-in_default-clause-came : goal.returns-in_default-clause-came
returns-in_default-clause-came g c = grind (arith, common_steps)

pub returns-in_default-clause-seats : goal.returns-in_default-clause-seats
returns-in_default-clause-seats g c = c.loop.invariant.seats'

pub returns-in_default-clause-boards : goal.returns-in_default-clause-boards
returns-in_default-clause-boards g c = c.loop.invariant.boards

pub returns-in_default-clause-all : goal.returns-in_default-clause-all
returns-in_default-clause-all g c = λ never. absurd (true≢false (sym never))

pub returns-in_default-clause-door_faults : goal.returns-in_default-clause-door_faults
returns-in_default-clause-door_faults g c = grind (arith, common_steps)

pub returns-in_default-clause-out : goal.returns-in_default-clause-out
returns-in_default-clause-out g c = grind (arith, common_steps)

pub returns-in_default-clause-kept : goal.returns-in_default-clause-kept
returns-in_default-clause-kept g c = c.accept.ensures.others_kept ∙ c.loop.invariant.kept

pub returns-in_default-clause-ports : goal.returns-in_default-clause-ports
returns-in_default-clause-ports g c = c.accept.ensures.ports_kept ∙ c.loop.invariant.ports

pub returns-clause-came : goal.returns-clause-came
returns-clause-came g c = c.loop.invariant.came

pub returns-clause-seats : goal.returns-clause-seats
returns-clause-seats g c = c.loop.invariant.seats'

pub returns-clause-boards : goal.returns-clause-boards
returns-clause-boards g c = c.loop.invariant.boards

pub returns-clause-all : goal.returns-clause-all
returns-clause-all g c = grind (arith, common_steps)

pub returns-clause-door_faults : goal.returns-clause-door_faults
returns-clause-door_faults g c = grind (arith, common_steps)

pub returns-clause-out : goal.returns-clause-out
returns-clause-out g c = c.loop.invariant.out

pub returns-clause-kept : goal.returns-clause-kept
returns-clause-kept g c = c.loop.invariant.kept

pub returns-clause-ports : goal.returns-clause-ports
returns-clause-ports g c = c.loop.invariant.ports

pub push_reserved-requires : goal.push_reserved-requires
push_reserved-requires g c = grind (arith, common_steps)
