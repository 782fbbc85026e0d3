use Rattle.std.proofs.Common.{◌∙◌, ◌++◌, drop, take, ℕ, List, Vec, Global, Err, ap, length, map, refl, subst, sym, arith, true≢false}
use Rattle.std.specs.List.{AllByRecursion}
use Rattle.std.specs.Prelude.{IfOk}
use Rattle.std.proofs.lemmas.List.{length-map}
use Rattle.ipb_outside.specs.Pairs.{GivesBack}
use Rattle.hub_session.specs.declared.served.Served.{Served}
use Rattle.hub_session.specs.Serving.{IsLaneBelow}
use Rattle.board_greeting.specs.Boards.{HasNoEntry, LeavesRoom}
use Rattle.board_greeting.specs.Reports.{shown_by}
use Rattle.board_greeting.specs.Standings.{lanes_in, links_in}
use Rattle.board_greeting.proofs.Lanes.{lanes_unused}
use Rattle.session_serve.specs.Hubs.{AreServedAt}
use Rattle.session_serve.specs.Prepared.{told_by}
use Rattle.session_serve.proofs.EachDone.{err_same, ok_not_err}
use Rattle.session_serve.proofs.Executing.{came_in_frames}
use Rattle.session_serve.proofs.Reporting.{are_served, boards_back, boards_here, boards_long, links_back, numbers_still}
use Rattle.session_serve.proofs.Reporting.{put_whole}
use Rattle.session_serve.proofs.Standing.{all_here, back_as_told, ready_states, states_within}
use Rattle.session_serve.proofs.session.serve_prepared.Goals as goal

pub serve_at_hub-lanes-requires-clause-unused : goal.serve_at_hub-lanes-requires-clause-unused
serve_at_hub-lanes-requires-clause-unused g c κs within =
    let ready = c.requires.ready in
    subst (AllByRecursion HasNoEntry) (sym ready.prepared'.lanes')
    (lanes_unused (shown_by g.R.L.Link) c.args.settings c.args.specs.now ready.boards ready.reached)

pub serve_at_hub-lanes-requires-clause-lanes : goal.serve_at_hub-lanes-requires-clause-lanes
serve_at_hub-lanes-requires-clause-lanes g c κs within =
    let ready = c.requires.ready in
    let boards = ready.boards in
    subst (λ l. AllByRecursion (IsLaneBelow (length l)) c.args.prepared.states) (sym ready.prepared'.lanes')
    (subst (AllByRecursion (IsLaneBelow (length (lanes_in boards)))) (sym ready.prepared'.states')
    (states_within boards (all_here (shown_by g.R.L.Link) c.args.settings c.args.specs.now boards ready.reached)))

pub finish_boards-requires-clause-all : goal.finish_boards-requires-clause-all
finish_boards-requires-clause-all g c κs within =
    let ready = c.requires.ready in
    let back = boards_back g.R.L.Link ready c.serve_at_hub-lanes.ensures.heads (put_whole c.serve_at_hub-lanes.result.0.items c.put_back.new.boards c.deref_mut.ensures.len c.deref_mut.ensures.value c.put_back.auto.boards
    c.put_back.ensures) in
    ap (λ (l : List (List ℕ)). length l) ready.prepared'.names' ∙ (length-map c.args.specs.now (λ s. s.name)
    ∙ sym (boards_long back))

pub finish_boards-requires-clause-here : goal.finish_boards-requires-clause-here
finish_boards-requires-clause-here g c κs within =
    boards_here (boards_back g.R.L.Link c.requires.ready c.serve_at_hub-lanes.ensures.heads
    (put_whole c.serve_at_hub-lanes.result.0.items c.put_back.new.boards c.deref_mut.ensures.len c.deref_mut.ensures.value c.put_back.auto.boards
    c.put_back.ensures))

pub finish_boards-requires-clause-room : goal.finish_boards-requires-clause-room
finish_boards-requires-clause-room g c κs within =
    let back = boards_back g.R.L.Link c.requires.ready c.serve_at_hub-lanes.ensures.heads (put_whole c.serve_at_hub-lanes.result.0.items c.put_back.new.boards c.deref_mut.ensures.len c.deref_mut.ensures.value c.put_back.auto.boards
    c.put_back.ensures) in
    subst (LeavesRoom (length (g.R.Rack.kept c.args.rack.now)) (length (g.R.Rack.made c.args.rack.now)))
    (sym (boards_long back)) c.requires.room

pub returns-in-Err-clause-links : goal.returns-in-Err-clause-links
returns-in-Err-clause-links g c =
    let back = boards_back g.R.L.Link c.requires.ready c.serve_at_hub-lanes.ensures.heads (put_whole c.serve_at_hub-lanes.result.0.items c.put_back.new.boards c.deref_mut.ensures.len c.deref_mut.ensures.value c.put_back.auto.boards
    c.put_back.ensures) in (
      links_in (take c.args.boards.len (c.put_back.new.boards ++ drop (length c.put_back.new.boards) c.args.boards.items)),
      c.finish_boards.ensures.kept,
      (let links = links_back back c.finish_boards.ensures.sound in
          (links.0, links.1, numbers_still g.R.L.Link c.requires.ready back c.finish_boards.ensures.sound)),
    )

pub returns-in-Ok-clause-links : goal.returns-in-Ok-clause-links
returns-in-Ok-clause-links g c =
    let back = boards_back g.R.L.Link c.requires.ready c.serve_at_hub-lanes.ensures.heads (put_whole c.serve_at_hub-lanes.result.0.items c.put_back.new.boards c.deref_mut.ensures.len c.deref_mut.ensures.value c.put_back.auto.boards
    c.put_back.ensures) in (
      links_in (take c.args.boards.len (c.put_back.new.boards ++ drop (length c.put_back.new.boards) c.args.boards.items)),
      c.finish_boards.ensures.kept,
      (let links = links_back back c.finish_boards.ensures.sound in
          (links.0, links.1, numbers_still g.R.L.Link c.requires.ready back c.finish_boards.ensures.sound)),
    )

pub returns-in-Ok-clause-served : goal.returns-in-Ok-clause-served
returns-in-Ok-clause-served g c =
    let link = g.R.L.Link in
    let ready = c.requires.ready in
    let back = boards_back link ready c.serve_at_hub-lanes.ensures.heads (put_whole c.serve_at_hub-lanes.result.0.items c.put_back.new.boards c.deref_mut.ensures.len c.deref_mut.ensures.value c.put_back.auto.boards
    c.put_back.ensures) in
    let given = subst (λ r. IfOk r (λ (served : Vec Served Global). GivesBack g.D.Door g.D.Incoming.Source
    g.D.Outgoing.Sink c.args.door.now c.serve_at_hub-lanes.new.door
    (λ came back. AreServedAt link.telling c.args.prepared.states c.args.prepared.lanes.items
    c.serve_at_hub-lanes.result.0.items came back served.items))) c.in-Ok.is c.serve_at_hub-lanes.ensures.served in (
      links_in (take c.args.boards.len (c.put_back.new.boards ++ drop (length c.put_back.new.boards) c.args.boards.items)),
      c.finish_boards.ensures.kept,
      (
        given.0,
        given.1,
        given.2,
        given.3,
        are_served c.laws_of_reports.ensures link ready _ _ c.in-Ok.connections.items c.finish_boards.new.lines.items
            back c.finish_boards.ensures.sound c.finish_boards.ensures.lines given.4,
      ),
    )

pub returns-in-Err-clause-door_faults : goal.returns-in-Err-clause-door_faults
returns-in-Err-clause-door_faults g c =
    let served = c.serve_at_hub-lanes.ensures.door_faults in (
      λ failed. served.0 (c.in-Err.is ∙ ap Err (err_same _ refl failed)),
      served.1,
      λ no_door. served.2 (λ failed. no_door (ap Err (err_same _ c.in-Err.is failed))),
    )

-- the boards stood as their greetings told
pub returns-in-Ok-clause-pairs : goal.returns-in-Ok-clause-pairs
returns-in-Ok-clause-pairs g c =
    let ready = c.requires.ready in
    back_as_told g.D.Door g.D.Incoming.Source g.D.Outgoing.Sink c.args.door.now
    c.serve_at_hub-lanes.new.door c.args.prepared.states
    (map (λ b. told_by b) ready.boards) (ready_states ready) c.serve_at_hub-lanes.ensures.pairs

pub returns-in-Err-clause-pairs : goal.returns-in-Err-clause-pairs
returns-in-Err-clause-pairs g c =
    let ready = c.requires.ready in
    back_as_told g.D.Door g.D.Incoming.Source g.D.Outgoing.Sink c.args.door.now
    c.serve_at_hub-lanes.new.door c.args.prepared.states
    (map (λ b. told_by b) ready.boards) (ready_states ready) c.serve_at_hub-lanes.ensures.pairs

-- a server that has no report
pub returns-in-Err-clause-listens : goal.returns-in-Err-clause-listens
returns-in-Err-clause-listens g c =
    (λ never. absurd (true≢false (sym never)), c.serve_at_hub-lanes.ensures.listens.1)

-- no board executed a body of its own
pub returns-in-Ok-clause-in_frames : goal.returns-in-Ok-clause-in_frames
returns-in-Ok-clause-in_frames g c =
    let link = g.R.L.Link in
    let ready = c.requires.ready in
    let back = boards_back link ready c.serve_at_hub-lanes.ensures.heads (put_whole c.serve_at_hub-lanes.result.0.items c.put_back.new.boards c.deref_mut.ensures.len c.deref_mut.ensures.value c.put_back.auto.boards
    c.put_back.ensures) in
    let planned = c.serve_at_hub-lanes.ensures.planned in (
      links_in (take c.args.boards.len (c.put_back.new.boards ++ drop (length c.put_back.new.boards) c.args.boards.items)),
      c.finish_boards.ensures.kept,
      (
        planned.0,
        planned.1,
        planned.2,
        planned.3,
        came_in_frames c.laws_of_reports.ensures link ready _ _ back c.finish_boards.ensures.sound planned.4,
      ),
    )

pub returns-in-Err-clause-in_frames : goal.returns-in-Err-clause-in_frames
returns-in-Err-clause-in_frames g c =
    let link = g.R.L.Link in
    let ready = c.requires.ready in
    let back = boards_back link ready c.serve_at_hub-lanes.ensures.heads (put_whole c.serve_at_hub-lanes.result.0.items c.put_back.new.boards c.deref_mut.ensures.len c.deref_mut.ensures.value c.put_back.auto.boards
    c.put_back.ensures) in
    let planned = c.serve_at_hub-lanes.ensures.planned in (
      links_in (take c.args.boards.len (c.put_back.new.boards ++ drop (length c.put_back.new.boards) c.args.boards.items)),
      c.finish_boards.ensures.kept,
      (
        planned.0,
        planned.1,
        planned.2,
        planned.3,
        came_in_frames c.laws_of_reports.ensures link ready _ _ back c.finish_boards.ensures.sound planned.4,
      ),
    )

pub returns-in-Ok-clause-none_out : goal.returns-in-Ok-clause-none_out
returns-in-Ok-clause-none_out g c = c.serve_at_hub-lanes.ensures.none_out

pub returns-in-Ok-clause-made : goal.returns-in-Ok-clause-made
returns-in-Ok-clause-made g c = c.finish_boards.ensures.made

pub returns-in-Ok-clause-rack_faults : goal.returns-in-Ok-clause-rack_faults
returns-in-Ok-clause-rack_faults g c = c.finish_boards.ensures.faults

pub returns-in-Ok-clause-not_rack : goal.returns-in-Ok-clause-not_rack
returns-in-Ok-clause-not_rack g c = λ never. ok_not_err never

pub returns-in-Err-clause-none_out : goal.returns-in-Err-clause-none_out
returns-in-Err-clause-none_out g c = c.serve_at_hub-lanes.ensures.none_out

pub returns-in-Err-clause-made : goal.returns-in-Err-clause-made
returns-in-Err-clause-made g c = c.finish_boards.ensures.made

pub returns-in-Err-clause-rack_faults : goal.returns-in-Err-clause-rack_faults
returns-in-Err-clause-rack_faults g c = c.finish_boards.ensures.faults

pub returns-in-Err-clause-not_rack : goal.returns-in-Err-clause-not_rack
returns-in-Err-clause-not_rack g c failed =
    c.serve_at_hub-lanes.ensures.not_rack (c.in-Err.is ∙ ap Err (err_same _ refl failed))

pub finish_boards-requires-clause-empty : goal.finish_boards-requires-clause-empty
finish_boards-requires-clause-empty g c κs within = c.requires.ready.prepared'.no_lines

pub finish_boards-requires-clause-place : goal.finish_boards-requires-clause-place
finish_boards-requires-clause-place g c κs within =
    let names = ap (λ (l : List (List ℕ)). length l) c.requires.ready.prepared'.names' in
    let room = c.requires.ready.prepared'.room in
    let long = length-map c.args.specs.now (λ s. s.name) in
    omega (arith, names, room, long)

pub returns-in-Ok-clause-all : goal.returns-in-Ok-clause-all
returns-in-Ok-clause-all g c = rw c.in-Ok.is at c.serve_at_hub-lanes.ensures.all

pub returns-in-Ok-clause-had_memory : goal.returns-in-Ok-clause-had_memory
returns-in-Ok-clause-had_memory g c = rw c.in-Ok.is at c.serve_at_hub-lanes.ensures.had_memory

pub returns-in-Ok-clause-listens : goal.returns-in-Ok-clause-listens
returns-in-Ok-clause-listens g c = rw c.in-Ok.is at c.serve_at_hub-lanes.ensures.listens

pub returns-in-Ok-clause-door_faults : goal.returns-in-Ok-clause-door_faults
returns-in-Ok-clause-door_faults g c =
    let served = c.serve_at_hub-lanes.ensures.door_faults in
    let is = c.in-Ok.is in
    (λ failed. absurd (ok_not_err failed), served.1, λ no_door. served.2 (λ failed. ok_not_err (sym is ∙ failed)))
