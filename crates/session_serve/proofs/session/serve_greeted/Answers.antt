use Rattle.std.proofs.Common.{◌≡◌, ◌∙◌, ◌++◌, ℕ, List, ap, length, map, refl, subst, sym, arith}
use Rattle.std.proofs.lemmas.Grind.{common_steps}
use Rattle.board_greeting.specs.Boards.{LeavesRoom}
use Rattle.board_greeting.specs.Reports.{shown_by}
use Rattle.board_greeting.specs.Standings.{all_at_hub, lanes_in, links_in, numbers_in, with_lanes}
use Rattle.hub_lane.specs.Lanes.{LaneState}
use Rattle.board_greeting.proofs.Numbers.{numbers_back}
use Rattle.board_greeting.specs.declared.standing.Standing.{Standing}
use Rattle.board_greeting.proofs.Boards.{fresh_links, reached_fresh}
use Rattle.session_serve.specs.Executed.{CameInFrames}
use Rattle.session_serve.specs.Prepared.{IsPrepared}
use Rattle.session_serve.specs.Serving.{AreBack}
use Rattle.session_serve.proofs.Executing.{none_executed}
use Rattle.board_greeting.proofs.Standings.{written_whole}
use Rattle.session_serve.proofs.Reporting.{greeted_links}
use Rattle.session_serve.proofs.Standing.{gives_none, none_served}
use Rattle.session_serve.proofs.session.serve_greeted.Goals as goal

pub serve_prepared-requires-clause-ready : goal.serve_prepared-requires-clause-ready
serve_prepared-requires-clause-ready g c κs within =
    let value = c.deref_mut.ensures.value in
    record {
      boards = c.args.boards.items;
      left' = written_whole c.prepare.new.boards c.deref_mut.ensures.len value c.prepare.auto.boards
          ∙ (c.in-Ok.ensures.left ∙ ap (λ (bs : List (Standing _)). all_at_hub bs) value);
      all = c.requires.all;
      reached = c.requires.reached;
      prepared' = subst (λ (bs : List (Standing _)). IsPrepared c.args.specs.now bs c.in-Ok.prepared) value
          c.in-Ok.ensures.prepared;
    }

pub keep_all-requires-clause-room : goal.keep_all-requires-clause-room
keep_all-requires-clause-room g c κs within =
    let specs = c.args.specs.now in
    let boards = c.args.boards.items in
    let value = c.deref_mut.ensures.value in
    let same = written_whole c.prepare.new.boards c.deref_mut.ensures.len value c.prepare.auto.boards
    ∙ (c.in-Err.ensures.unchanged ∙ value) in
    let fresh = fresh_links (shown_by g.R.L.Link) c.args.settings specs boards
    (reached_fresh (shown_by g.R.L.Link) c.args.settings specs boards c.requires.reached) in
    subst (λ (n : ℕ). LeavesRoom (length (g.R.Rack.kept c.args.rack.now)) (length (g.R.Rack.made c.args.rack.now)) n)
    (sym (ap (λ (bs : List (Standing _)). length (links_in bs)) same ∙ (fresh.1 ∙ c.requires.all))) c.requires.room

pub returns-in-Err-clause-links : goal.returns-in-Err-clause-links
returns-in-Err-clause-links g c =
    let specs = c.args.specs.now in
    let boards = c.args.boards.items in
    let value = c.deref_mut.ensures.value in
    let same = written_whole c.prepare.new.boards c.deref_mut.ensures.len value c.prepare.auto.boards
    ∙ (c.in-Err.ensures.unchanged ∙ value) in
    let told = greeted_links (shown_by g.R.L.Link) c.args.settings specs boards c.requires.reached c.requires.all in (
      links_in boards,
      c.keep_all.ensures.kept ∙ ap (λ (bs : List (Standing _)). g.R.Rack.kept c.args.rack.now ++ links_in bs) same,
      (told.0, told.1, refl),
    )

pub returns-in-Err-clause-pairs : goal.returns-in-Err-clause-pairs
returns-in-Err-clause-pairs g c =
    gives_none g.D.Door g.D.Incoming.Source g.D.Outgoing.Sink c.args.door.now AreBack none_served

pub returns-in-Err-clause-in_frames : goal.returns-in-Err-clause-in_frames
returns-in-Err-clause-in_frames g c =
    let specs = c.args.specs.now in
    let boards = c.args.boards.items in
    let value = c.deref_mut.ensures.value in
    let same = written_whole c.prepare.new.boards c.deref_mut.ensures.len value c.prepare.auto.boards
    ∙ (c.in-Err.ensures.unchanged ∙ value) in
    let shows = shown_by g.R.L.Link in
    let links = links_in boards in
    let told = greeted_links shows c.args.settings specs boards c.requires.reached c.requires.all in (
      links,
      c.keep_all.ensures.kept ∙ ap (λ (bs : List (Standing _)). g.R.Rack.kept c.args.rack.now ++ links_in bs) same,
      gives_none g.D.Door g.D.Incoming.Source g.D.Outgoing.Sink c.args.door.now (CameInFrames (map shows links))
          (none_executed (map shows links) told.2),
    )

pub returns-in-Err-clause-none_out : goal.returns-in-Err-clause-none_out
returns-in-Err-clause-none_out g c = grind (arith, common_steps)

pub returns-in-Err-clause-listens : goal.returns-in-Err-clause-listens
returns-in-Err-clause-listens g c = grind (arith, common_steps)

pub returns-in-Err-clause-made : goal.returns-in-Err-clause-made
returns-in-Err-clause-made g c = grind (arith, common_steps)

pub returns-in-Err-clause-rack_faults : goal.returns-in-Err-clause-rack_faults
returns-in-Err-clause-rack_faults g c = grind (arith, common_steps)

pub returns-in-Err-clause-door_faults : goal.returns-in-Err-clause-door_faults
returns-in-Err-clause-door_faults g c = grind (arith, common_steps)

pub returns-in-Err-clause-not_rack : goal.returns-in-Err-clause-not_rack
returns-in-Err-clause-not_rack g c = grind (arith, common_steps)

pub returns-in-Ok : goal.returns-in-Ok
returns-in-Ok g c =
    let link = g.R.L.Link in
    let boards = c.args.boards.items in
    let value = c.deref_mut.ensures.value in
    let left = written_whole c.prepare.new.boards c.deref_mut.ensures.len value c.prepare.auto.boards
    ∙ (c.in-Ok.ensures.left ∙ ap (λ (bs : List (Standing _)). all_at_hub bs) value) in
    let lanes = c.in-Ok.ensures.prepared.lanes' ∙ ap (λ (bs : List (Standing _)). lanes_in bs) value in
    let links = c.serve_prepared.ensures.links in
    record {
      served = c.serve_prepared.ensures.served;
      all = c.serve_prepared.ensures.all;
      had_memory = c.serve_prepared.ensures.had_memory;
      links = (
        links.0,
        links.1,
        (
          links.2.0,
          links.2.1,
          links.2.2
              ∙ (ap (λ (bs : List (Standing _)). numbers_in link.number (with_lanes bs c.in-Ok.prepared.lanes.items)) left
              ∙ (ap (λ (ls : List (LaneState _)). numbers_in link.number (with_lanes (all_at_hub boards) ls)) lanes
              ∙ numbers_back link c.args.settings c.args.specs.now boards (lanes_in boards) c.requires.reached refl)),
        ),
      );
      pairs = c.serve_prepared.ensures.pairs;
      in_frames = c.serve_prepared.ensures.in_frames;
      none_out = c.serve_prepared.ensures.none_out;
      listens = c.serve_prepared.ensures.listens;
      made = c.serve_prepared.ensures.made;
      rack_faults = c.serve_prepared.ensures.rack_faults;
      door_faults = c.serve_prepared.ensures.door_faults;
      not_rack = c.serve_prepared.ensures.not_rack;
    }
