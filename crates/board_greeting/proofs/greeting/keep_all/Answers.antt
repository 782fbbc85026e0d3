use Rattle.std.proofs.Common.{◌≡◌, ◌∙◌, ◌++◌, ℕ, List, ap, length, length-append, refl, subst, sym}
use Rattle.std.proofs.Common.{arith}
use Rattle.std.proofs.lemmas.Grind.{common_steps}
use Rattle.std.specs.Vec.Iter.{into_iter_items}
use Rattle.board_greeting.specs.Boards.{LeavesRoom}
use Rattle.board_greeting.specs.Standings.{link_in, links_in}
use Rattle.board_greeting.specs.declared.standing.Standing.{Standing}
use Rattle.board_greeting.proofs.Boards.{links_kept, room_behind, room_in_front}
use Rattle.board_greeting.proofs.greeting.keep_all.Goals as goal

pub keep_board-requires-clause-room : goal.keep_board-requires-clause-room
keep_board-requires-clause-room g c κs within =
    let kept = length (g.R.Rack.kept c.loop-board.rack) in
    let made = length (g.R.Rack.made c.loop-board.rack) in
    let one = link_in c.in-Some.board in
    let rest = links_in (into_iter_items c.next.new.self) in
    room_in_front kept made (length one) (length rest)
    (subst (λ (n : ℕ). LeavesRoom kept made n) (ap (λ (bs : List (Standing _)). length (links_in bs)) c.in-Some.ensures.steps.0
    ∙ length-append one rest) c.loop-board.invariant.room)

pub loop-board-preserved : goal.loop-board-preserved
loop-board-preserved g c =
    let kept = g.R.Rack.kept c.loop-board.rack in
    let now = g.R.Rack.kept c.keep_board.new.rack in
    let made = length (g.R.Rack.made c.loop-board.rack) in
    let one = link_in c.in-Some.board in
    let rest = links_in (into_iter_items c.next.new.self) in
    let steps = c.in-Some.ensures.steps.0 in
    record {
      split = links_kept (g.R.Rack.kept c.args.rack.now) kept now one rest (links_in c.args.boards.items)
          c.keep_board.ensures.kept
          (ap (λ (bs : List (Standing _)). kept ++ links_in bs) (sym steps) ∙ c.loop-board.invariant.split);
      made = c.keep_board.ensures.made ∙ c.loop-board.invariant.made;
      faults = c.keep_board.ensures.faults ∙ c.loop-board.invariant.faults;
      room = room_behind (length kept) (length now) made (length (g.R.Rack.made c.keep_board.new.rack)) (length one)
          (length rest) (ap length c.keep_board.ensures.kept ∙ length-append kept one) (ap length c.keep_board.ensures.made)
          (subst (λ (n : ℕ). LeavesRoom (length kept) made n)
          (ap (λ (bs : List (Standing _)). length (links_in bs)) steps ∙ length-append one rest)
          c.loop-board.invariant.room);
    }

pub loop-board-init : goal.loop-board-init
loop-board-init g c =
    let same : into_iter_items c.into_iter-board-iterator.result ≡ c.args.boards.items =
    c.into_iter-board-iterator.ensures.into_iter_gives.0 in
    record {
      split = ap (λ (bs : List (Standing _)). g.R.Rack.kept c.args.rack.now ++ links_in bs) same;
      made = refl;
      faults = refl;
      room = subst (λ (bs : List (Standing _)). LeavesRoom (length (g.R.Rack.kept c.args.rack.now))
          (length (g.R.Rack.made c.args.rack.now)) (length (links_in bs))) (sym same) c.requires.room;
    }

pub returns-clause-kept : goal.returns-clause-kept
returns-clause-kept g c = grind (arith, common_steps)
