use Rattle.std.proofs.Common.{◌∙◌, ◌+◌, ◌++◌, List, ap, drop, length, map, refl, subst, sym, arith}
use Rattle.std.proofs.lemmas.Grind.{common_steps}
use Rattle.std.proofs.lemmas.List.{length-map, take_all}
use Rattle.board_specs.specs.declared.spec.BoardSpec.{BoardSpec}
use Rattle.board_specs.specs.declared.spec.LinkSpec.{LinkSpec}
use Rattle.board_history.specs.LinkRuns.{AreRunsOver}
use Rattle.std.specs.Vec.Iter.{into_iter_items}
use Rattle.board_greeting.specs.Reports.{shown_by}
use Rattle.board_greeting.specs.Standings.{numbers_in}
use Rattle.board_greeting.specs.declared.standing.Standing.{Standing}
use Rattle.board_greeting.proofs.Numbers.{number_more, numbers_end}
use Rattle.session_run.specs.Places.{AreCameOf, IsCameOf}
use Rattle.session_run.proofs.Sessions.{board_more, left_within, next_board, none_left, none_ran}
use Rattle.session_run.proofs.Sessions.{room_for_one, some_left}
use Rattle.session_run.proofs.finish.finish_boards.Goals as goal

pub loop-position-init : goal.loop-position-init
loop-position-init g c =
    let shows = shown_by g.R.L.Link in
    record {
      so_far = rw c.new-runs.ensures.items (none_ran shows c.args.settings c.args.specs.now c.args.scripts.now
          (g.R.Rack.kept c.args.rack.now));
      left = subst (λ bs. AreCameOf shows c.args.settings c.args.scripts.now 0 c.args.specs.now bs
          (into_iter_items c.into_iter-parts.result)) (sym c.into_iter-boards.ensures.rest)
          (subst (AreCameOf shows c.args.settings c.args.scripts.now 0 c.args.specs.now c.args.boards.items)
          (sym c.into_iter-parts.ensures.rest) c.requires.came);
      numbers = ap (λ (bs : List (Standing _)). map g.R.L.Link.number (g.R.Rack.kept c.args.rack.now)
          ++ numbers_in g.R.L.Link.number bs) c.into_iter-boards.ensures.rest;
      made = refl;
      faults = refl;
    }

pub unreachable-requires : goal.unreachable-requires
unreachable-requires g c =
    let shows = shown_by g.R.L.Link in
    let some = some_left shows c.args.settings c.args.scripts.now c.loop-position.position c.args.specs.now
    (into_iter_items c.loop-position.boards) (into_iter_items c.loop-position.parts) c.loop-position.invariant.left
    c.loop-position-test.true in
    let none = c.next.ensures.cases in
    grind (arith, common_steps, some, none)

pub keep-requires : goal.keep-requires
keep-requires g c =
    let shows = shown_by g.R.L.Link in
    let made = ap (λ (l : List LinkSpec). length l) c.loop-position.invariant.made in
    let less = room_for_one shows c.args.settings c.loop-position.position c.args.specs.now c.args.scripts.now
    c.loop-position.runs.items c.loop-position.is_whole (g.R.Rack.kept c.args.rack.now)
    (g.R.Rack.kept c.loop-position.rack) (length (g.R.Rack.made c.args.rack.now)) c.loop-position.invariant.so_far
    c.requires.room c.loop-position-test.true in
    omega (arith, made, less)

pub finish_board-link-requires-clause-came : goal.finish_board-link-requires-clause-came
finish_board-link-requires-clause-came g c =
    let shows = shown_by g.R.L.Link in
    let next = next_board shows c.args.settings c.args.scripts.now c.loop-position.position c.args.specs.now
    c.index-specs-position.result (into_iter_items c.loop-position.boards) (into_iter_items c.next.new.self)
    c.in-Some.board (into_iter_items c.loop-position.parts) c.loop-position.invariant.left c.loop-position-test.true
    c.index-specs-position.is c.in-Some.ensures.items in
    subst (IsCameOf shows c.args.settings c.args.scripts.now c.loop-position.position c.index-specs-position.result
    c.in-Some.board) (sym c.next_parts-came.ensures.parts) next.came

pub loop-position-preserved : goal.loop-position-preserved
loop-position-preserved g c =
    let shows = shown_by g.R.L.Link in
    let k = c.loop-position.position in
    let next = next_board shows c.args.settings c.args.scripts.now c.loop-position.position c.args.specs.now
    c.index-specs-position.result (into_iter_items c.loop-position.boards) (into_iter_items c.next.new.self)
    c.in-Some.board (into_iter_items c.loop-position.parts) c.loop-position.invariant.left c.loop-position-test.true
    c.index-specs-position.is c.in-Some.ensures.items in
    record {
      so_far = board_more shows c.args.settings k c.args.specs.now c.args.scripts.now c.loop-position.runs.items
          c.add_run-is_whole.new.runs.items c.loop-position.is_whole c.add_run-is_whole.result (g.R.Rack.kept
          c.args.rack.now)
          (g.R.Rack.kept c.loop-position.rack) (g.R.Rack.kept c.keep.new.self) c.index-specs-position.result
          c.finish_board-link.result.0 c.finish_board-link.result.1 c.loop-position.invariant.so_far
          c.loop-position-test.true c.index-specs-position.is c.keep.ensures.kept c.finish_board-link.ensures.left
          c.finish_board-link.ensures.ran c.add_run-is_whole.ensures.whole c.add_run-is_whole.ensures.added;
      left = subst (AreCameOf shows c.args.settings c.args.scripts.now (k + 1) (drop (k + 1) c.args.specs.now)
          (into_iter_items c.next.new.self)) (sym c.next_parts-came.ensures.others) next.later;
      numbers = number_more g.R.L.Link.number (g.R.Rack.kept c.loop-position.rack) (g.R.Rack.kept c.keep.new.self)
          c.finish_board-link.result.0 c.in-Some.board (into_iter_items c.loop-position.boards)
          (into_iter_items c.next.new.self) _ c.keep.ensures.kept c.finish_board-link.ensures.number
          c.in-Some.ensures.items c.loop-position.invariant.numbers;
      made = c.keep.ensures.made ∙ c.loop-position.invariant.made;
      faults = c.keep.ensures.faults ∙ c.loop-position.invariant.faults;
    }

pub returns-then-is_whole-clause-ran : goal.returns-then-is_whole-clause-ran
returns-then-is_whole-clause-ran g c =
    let shows = shown_by g.R.L.Link in
    let so_far = c.loop-position.invariant.so_far in (
      so_far.links,
      so_far.grown,
      subst (λ (specs : List BoardSpec). AreRunsOver c.args.settings 0 specs c.args.scripts.now
          c.loop-position.runs.items
          (map shows so_far.links)) (take_all c.loop-position.position c.args.specs.now c.loop-position-test.false)
          (so_far.ran c.if-is_whole.true),
    )

pub returns-then-is_whole-clause-left : goal.returns-then-is_whole-clause-left
returns-then-is_whole-clause-left g c =
    let inv = c.loop-position.invariant in
    let shows = shown_by g.R.L.Link in
    let over = c.loop-position-test.false in
    let within = left_within 0 c.args.specs.now c.args.scripts.now (map shows inv.so_far.links) inv.so_far.left in
    let mapped = length-map inv.so_far.links shows in
    let many = inv.so_far.many in (
      inv.so_far.links,
      inv.so_far.grown,
      (
        inv.so_far.left,
        omega (arith, many, over, within, mapped),
        numbers_end g.R.L.Link (g.R.Rack.kept c.args.rack.now) (g.R.Rack.kept c.loop-position.rack) inv.so_far.links
            c.args.boards.items (into_iter_items c.loop-position.boards) inv.so_far.grown
            (none_left shows c.args.settings c.args.scripts.now c.loop-position.position c.args.specs.now
            (into_iter_items c.loop-position.boards) (into_iter_items c.loop-position.parts) inv.left over)
            inv.numbers,
      ),
    )

pub returns-then-is_whole-clause-made : goal.returns-then-is_whole-clause-made
returns-then-is_whole-clause-made g c = c.loop-position.invariant.made

pub returns-then-is_whole-clause-faults : goal.returns-then-is_whole-clause-faults
returns-then-is_whole-clause-faults g c = c.loop-position.invariant.faults

pub returns-clause-left : goal.returns-clause-left
returns-clause-left g c =
    let inv = c.loop-position.invariant in
    let shows = shown_by g.R.L.Link in
    let over = c.loop-position-test.false in
    let within = left_within 0 c.args.specs.now c.args.scripts.now (map shows inv.so_far.links) inv.so_far.left in
    let mapped = length-map inv.so_far.links shows in
    let many = inv.so_far.many in (
      inv.so_far.links,
      inv.so_far.grown,
      (
        inv.so_far.left,
        omega (arith, many, over, within, mapped),
        numbers_end g.R.L.Link (g.R.Rack.kept c.args.rack.now) (g.R.Rack.kept c.loop-position.rack) inv.so_far.links
            c.args.boards.items (into_iter_items c.loop-position.boards) inv.so_far.grown
            (none_left shows c.args.settings c.args.scripts.now c.loop-position.position c.args.specs.now
            (into_iter_items c.loop-position.boards) (into_iter_items c.loop-position.parts) inv.left over)
            inv.numbers,
      ),
    )

pub returns-clause-made : goal.returns-clause-made
returns-clause-made g c = c.loop-position.invariant.made

pub returns-clause-faults : goal.returns-clause-faults
returns-clause-faults g c = c.loop-position.invariant.faults

pub finish_board-link-requires-clause-can : goal.finish_board-link-requires-clause-can
finish_board-link-requires-clause-can g c = grind (arith, common_steps)

pub finish_board-link-requires-clause-few : goal.finish_board-link-requires-clause-few
finish_board-link-requires-clause-few g c = grind (arith, common_steps)

pub returns-clause-ran : goal.returns-clause-ran
returns-clause-ran g c = grind (arith, common_steps)
