use Rattle.std.proofs.Common.{◌∙◌, ◌++◌, ℕ, List, ap, length, map, refl, subst, sym}
use Rattle.std.proofs.lemmas.List.{length-map}
use Rattle.std.specs.List.{AllByRecursion}
use Rattle.std.specs.Prelude.{IfOk}
use Rattle.hub_lane.specs.Lanes.{LaneState}
use Rattle.board_greeting.specs.Boards.{HasNoEntry, LeavesRoom}
use Rattle.board_greeting.specs.Reports.{shown_by}
use Rattle.board_greeting.specs.Standings.{all_at_hub, lanes_in, links_in, numbers_in, positions_at_hub, with_lanes}
use Rattle.board_greeting.specs.declared.standing.Standing.{Standing}
use Rattle.board_greeting.proofs.Boards.{fresh_links, reached_fresh}
use Rattle.board_greeting.proofs.Lanes.{lanes_unused}
use Rattle.board_greeting.proofs.Numbers.{numbers_back}
use Rattle.board_greeting.proofs.Standings.{positions_long, written_whole}
use Rattle.session_run.specs.Lanes.{AllThree, HasGoneOn, IsRunOn}
use Rattle.session_run.specs.Places.{AreCameOf}
use Rattle.session_run.proofs.Returning.{boards_came, gone_numbers}
use Rattle.session_run.proofs.Sessions.{fresh_are_left}
use Rattle.session_run.proofs.Sides.{items_or_none}
use Rattle.session_run.proofs.session.run_greeted.Goals as goal

pub keep_all-requires-clause-room : goal.keep_all-requires-clause-room
keep_all-requires-clause-room g c κs within =
    let boards = c.args.boards.items in
    let value = c.deref_mut.ensures.value in
    let same = written_whole c.take_lanes.new.boards c.deref_mut.ensures.len value c.take_lanes.auto.boards
    ∙ (c.in_default.ensures.unchanged ∙ value) in
    let specs = c.args.specs.now in
    let fresh = fresh_links (shown_by g.R.L.Link) c.args.settings specs boards
    (reached_fresh (shown_by g.R.L.Link) c.args.settings specs boards c.requires.reached) in
    subst (λ (n : ℕ). LeavesRoom (length (g.R.Rack.kept c.args.rack.now)) (length (g.R.Rack.made c.args.rack.now)) n)
    (sym (ap (λ (bs : List (Standing _)). length (links_in bs)) same ∙ (fresh.1 ∙ c.requires.all))) c.requires.room

pub returns-in_default-clause-left : goal.returns-in_default-clause-left
returns-in_default-clause-left g c =
    let shows = shown_by g.R.L.Link in
    let settings = c.args.settings in
    let specs = c.args.specs.now in
    let boards = c.args.boards.items in
    let value = c.deref_mut.ensures.value in
    let same = written_whole c.take_lanes.new.boards c.deref_mut.ensures.len value c.take_lanes.auto.boards
    ∙ (c.in_default.ensures.unchanged ∙ value) in
    let fresh = fresh_links shows settings specs boards (reached_fresh shows settings specs boards c.requires.reached) in
    let links = links_in boards in (
      links,
      c.keep_all.ensures.kept ∙ ap (λ (bs : List (Standing _)). g.R.Rack.kept c.args.rack.now ++ links_in bs) same,
      (
        fresh_are_left c.a_fresh_link_is_left.ensures settings 0 specs c.args.scripts.now (map shows links) fresh.0,
        length-map links shows ∙ (fresh.1 ∙ c.requires.all),
        refl,
      ),
    )

pub run_lanes-lanes-requires-clause-positions : goal.run_lanes-lanes-requires-clause-positions
run_lanes-lanes-requires-clause-positions g c κs within =
    let boards = c.args.boards.items in
    let value = c.deref_mut.ensures.value in
    let left = written_whole c.take_lanes.new.boards c.deref_mut.ensures.len value c.take_lanes.auto.boards
    ∙ (c.in-Ok.ensures.left ∙ ap (λ bs. all_at_hub bs) value) in
    ap (λ (bs : List (Standing _)). length (positions_at_hub 0 bs)) (c.deref.ensures.value ∙ left)
    ∙ (positions_long 0 boards (shown_by g.R.L.Link) c.args.settings c.args.specs.now c.requires.reached
    ∙ sym (ap (λ (l : List (LaneState _)). length l) (c.in-Ok.ensures.lanes ∙ ap (λ bs. lanes_in bs) value)))

pub run_lanes-lanes-requires-clause-unused : goal.run_lanes-lanes-requires-clause-unused
run_lanes-lanes-requires-clause-unused g c κs within =
    subst (AllByRecursion HasNoEntry) (sym (c.in-Ok.ensures.lanes ∙ ap (λ bs. lanes_in bs) c.deref_mut.ensures.value))
    (lanes_unused (shown_by g.R.L.Link) c.args.settings c.args.specs.now c.args.boards.items c.requires.reached)

pub finish_boards-requires-clause-came : goal.finish_boards-requires-clause-came
finish_boards-requires-clause-came g c κs within =
    let link = g.R.L.Link in
    let scripts = c.args.scripts.now in
    let specs = c.args.specs.now in
    let boards = c.args.boards.items in
    let news = c.run_lanes-lanes.result.0.items in
    let parts = c.parts_or_none-parts.result.items in
    let value = c.deref_mut.ensures.value in
    let left = written_whole c.take_lanes.new.boards c.deref_mut.ensures.len value c.take_lanes.auto.boards
    ∙ (c.in-Ok.ensures.left ∙ ap (λ bs. all_at_hub bs) value) in
    let at_hub = c.deref.ensures.value ∙ left in
    let positions = positions_at_hub 0 (all_at_hub boards) in
    let gone = subst (λ (l : List (LaneState _)). AllThree (HasGoneOn link.telling scripts) positions l news)
    (c.in-Ok.ensures.lanes ∙ ap (λ bs. lanes_in bs) value)
    (subst (λ (bs : List (Standing _)). AllThree (HasGoneOn link.telling scripts) (positions_at_hub 0 bs)
    c.in-Ok.lanes.items news) at_hub c.run_lanes-lanes.ensures.gone_on) in
    let ran = subst (λ (bs : List (Standing _)). IfOk c.run_lanes-lanes.result.1
    (λ there. AllThree (IsRunOn scripts) (positions_at_hub 0 bs) news there.items)) at_hub
    c.run_lanes-lanes.ensures.ran in
    let there = items_or_none c.run_lanes-lanes.result.1 (λ there. there.items) parts
    (AllThree (IsRunOn scripts) positions news) c.parts_or_none-parts.ensures.all c.parts_or_none-parts.ensures.none ran in
    let back = written_whole c.put_back.new.boards c.deref_mut-2.ensures.len c.deref_mut-2.ensures.value
    c.put_back.auto.boards
    ∙ (c.put_back.ensures ∙ ap (λ (bs : List (Standing _)). with_lanes bs news) (c.deref_mut-2.ensures.value ∙ left)) in
    subst (λ (bs : List (Standing _)). AreCameOf (shown_by link) c.args.settings scripts 0 specs bs parts) (sym back)
    (boards_came link c.args.settings scripts specs boards news parts c.requires.all c.requires.reached gone there)

pub returns-clause-left : goal.returns-clause-left
returns-clause-left g c =
    let link = g.R.L.Link in
    let scripts = c.args.scripts.now in
    let specs = c.args.specs.now in
    let boards = c.args.boards.items in
    let news = c.run_lanes-lanes.result.0.items in
    let value = c.deref_mut.ensures.value in
    let taken = written_whole c.take_lanes.new.boards c.deref_mut.ensures.len value c.take_lanes.auto.boards
    ∙ (c.in-Ok.ensures.left ∙ ap (λ bs. all_at_hub bs) value) in
    let at_hub = c.deref.ensures.value ∙ taken in
    let positions = positions_at_hub 0 (all_at_hub boards) in
    let gone = subst (λ (l : List (LaneState _)). AllThree (HasGoneOn link.telling scripts) positions l news)
    (c.in-Ok.ensures.lanes ∙ ap (λ bs. lanes_in bs) value)
    (subst (λ (bs : List (Standing _)). AllThree (HasGoneOn link.telling scripts) (positions_at_hub 0 bs)
    c.in-Ok.lanes.items news) at_hub c.run_lanes-lanes.ensures.gone_on) in
    let back = written_whole c.put_back.new.boards c.deref_mut-2.ensures.len c.deref_mut-2.ensures.value
    c.put_back.auto.boards
    ∙ (c.put_back.ensures ∙ ap (λ (bs : List (Standing _)). with_lanes bs news) (c.deref_mut-2.ensures.value ∙ taken)) in
    let left = c.finish_boards.ensures.left in (
      left.0,
      left.1,
      (
        left.2.0,
        left.2.1,
        left.2.2 ∙ (ap (λ (bs : List (Standing _)). numbers_in link.number bs) back
            ∙ numbers_back link c.args.settings specs boards news c.requires.reached
            (gone_numbers link.telling scripts positions (lanes_in boards) news gone)),
      ),
    )
