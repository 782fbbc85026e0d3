use Rattle.std.proofs.Common.{rules, ◌≡◌, ◌∙◌, ◌+◌, ◌++◌, ◌∷◌, [], ℕ, List, ap, length, length-append, refl, subst}
use Rattle.std.proofs.Common.{arith}
use Rattle.std.specs.Vec.Iter.{into_iter_items}
use Rattle.board_greeting.specs.Boards.{LeavesRoom}
use Rattle.board_greeting.proofs.Boards.{room_for_less, room_for_one}
use Rattle.session_serve.proofs.Finishing.{all_finished, next_here, none_finished, one_finished, some_left}
use Rattle.session_serve.proofs.finish.finish_boards.Goals as goal

pub loop-name-init : goal.loop-name-init
loop-name-init g c =
    let link = g.R.L.Link in
    let same : into_iter_items c.into_iter-name-iterator.result ≡ c.args.names.items =
    c.into_iter-name-iterator.ensures.into_iter_gives.0 in
    let place = c.requires.place in
    let none = ap (λ l. length l) c.requires.empty in
    let many = ap (λ (l : List (List ℕ)). length l) same in
    record {
      so_far =
          rw (same, c.into_iter-boards.ensures.rest) (none_finished link c.args.names.items
          c.args.boards.items c.args.lines.now.items
          (g.R.Rack.kept c.args.rack.now) c.requires.all c.requires.here c.requires.empty);
      room = rw c.into_iter-boards.ensures.rest c.requires.room;
      place = omega (arith, place, none, many);
      made = refl;
      faults = refl;
    }

pub unreachable-requires : goal.unreachable-requires
unreachable-requires g c =
    let some = some_left c.loop-name.invariant.so_far c.in-Some.ensures.steps.0 in
    let none = c.next-in-loop-name.ensures.cases in
    grind (arith, some, none)

pub finish_board-link-requires : goal.finish_board-link-requires
finish_board-link-requires g c = (next_here c.loop-name.invariant.so_far c.in-Some-next.ensures.items).0

pub keep-requires : goal.keep-requires
keep-requires g c =
    let kept = length (g.R.Rack.kept c.loop-name.rack) in
    let made = length (g.R.Rack.made c.loop-name.rack) in
    let one = room_for_one kept made (length (into_iter_items c.next-in-loop-name.new.self))
    (subst (λ (n : ℕ). LeavesRoom kept made n) (ap (λ l. length l) c.in-Some-next.ensures.items) c.loop-name.invariant.room) in
    omega (arith, one)

pub loop-name-preserved : goal.loop-name-preserved
loop-name-preserved g c =
    let kept = g.R.Rack.kept c.loop-name.rack in
    let made = length (g.R.Rack.made c.loop-name.rack) in
    let board = c.in-Some-next.board in
    let link = c.finish_board-link.result.0 in
    let given = c.keep.ensures.kept in
    let pushed = c.push_reserved.ensures.items ∙ ap (λ l. c.loop-name.lines.items ++ l ∷ [])
    c.finish_board-link.ensures.line in
    let one : length (g.R.Rack.kept c.keep.new.self) ≡ length kept + 1 =
    ap (λ l. length l) given ∙ length-append kept (link ∷ []) in
    let steps = ap (λ (l : List (List ℕ)). length l) c.in-Some.ensures.steps.0 in
    record {
      so_far = one_finished link c.loop-name.invariant.so_far c.in-Some.ensures.steps.0 c.in-Some-next.ensures.items pushed
          c.finish_board-link.ensures.link given
          c.finish_board-link.ensures.sound;
      room = room_for_less (length kept) (length (g.R.Rack.kept c.keep.new.self)) made
          (length (g.R.Rack.made c.keep.new.self)) (length (into_iter_items c.next-in-loop-name.new.self)) one
          (ap (λ l. length l) c.keep.ensures.made)
          (subst (λ (n : ℕ). LeavesRoom (length kept) made n) (ap (λ l. length l) c.in-Some-next.ensures.items)
          c.loop-name.invariant.room);
      place = (let len = c.push_reserved.ensures.len in let cap = c.push_reserved.ensures.capacity in
          let before = c.loop-name.invariant.place in omega (arith, len, cap, before, steps));
      made = c.keep.ensures.made ∙ c.loop-name.invariant.made;
      faults = c.keep.ensures.faults ∙ c.loop-name.invariant.faults;
    }

pub returns : goal.returns
returns g c =
    let i = c.loop-name.invariant in
    let all = all_finished i.so_far (search rules) in
    record { lines = all.lines'; kept = all.links; sound = all.sound; made = i.made; faults = i.faults }
