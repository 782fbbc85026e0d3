use Rattle.std.proofs.Common.{◌≡◌, ◌∙◌, ◌++◌, List, ap, arith, map}
use Rattle.std.proofs.lemmas.Grind.{common_steps}
use Rattle.std.proofs.lemmas.Result.{IfOk-weaker}
use Rattle.board_greeting.specs.Reports.{shown_by}
use Rattle.board_greeting.specs.Standings.{links_in}
use Rattle.board_greeting.proofs.Boards.{made_still}
use Rattle.session_serve.specs.Executed.{CameInFrames}
use Rattle.session_serve.specs.Serving.{AreBack}
use Rattle.session_serve.proofs.Executing.{none_executed}
use Rattle.session_serve.proofs.Reporting.{untouched_links}
use Rattle.session_serve.proofs.Standing.{gives_none, none_served}
use Rattle.session_serve.proofs.session.serve_session.Goals as goal

-- what stands behind a list stands behind what the list was before
since_then : {L : Type 0} (before old new links : List L) → new ≡ old ++ links → old ≡ before → new ≡ before ++ links
since_then {L} before old new links behind same = behind ∙ ap (λ (l : List L). l ++ links) same

pub returns-in_err-boards-clause-links : goal.returns-in_err-boards-clause-links
returns-in_err-boards-clause-links g c =
    let shows = shown_by g.R.L.Link in
    let left = c.in_err-boards.ensures.left in
    (left.0, left.1, ((untouched_links c.args.settings c.args.specs.now (map shows left.0) left.2.0).0, left.2.1))

pub returns-in_err-boards-clause-pairs : goal.returns-in_err-boards-clause-pairs
returns-in_err-boards-clause-pairs g c =
    gives_none g.D.Door g.D.Incoming.Source g.D.Outgoing.Sink c.args.door.now AreBack none_served

pub returns-in_err-boards-clause-untouched : goal.returns-in_err-boards-clause-untouched
returns-in_err-boards-clause-untouched g c =
    let shows = shown_by g.R.L.Link in
    let left = c.in_err-boards.ensures.left in
    λ fault. (left.0, left.1, (untouched_links c.args.settings c.args.specs.now (map shows left.0) left.2.0).1)

pub returns-clause-served : goal.returns-clause-served
returns-clause-served g c =
    IfOk-weaker c.serve_greeted.result _ _ (λ report is. (is.0, since_then _ _ _ is.0 is.1 c.in_ok-boards.ensures.kept, is.2))
    c.serve_greeted.ensures.served

pub returns-clause-links : goal.returns-clause-links
returns-clause-links g c =
    let shows = shown_by g.R.L.Link in
    let left = c.serve_greeted.ensures.links in (
      left.0,
      since_then _ _ _ left.0 left.1 c.in_ok-boards.ensures.kept,
      (
        left.2.0,
        made_still c.args.specs.now (map shows (links_in c.in_ok-boards.boards.items)) (map shows left.0)
            (g.R.Rack.made c.args.rack.now) (g.R.Rack.made c.greet_boards.new.rack)
            (g.R.Rack.made c.serve_greeted.new.rack) c.in_ok-boards.ensures.made left.2.2
            c.serve_greeted.ensures.made,
      ),
    )

pub returns-clause-rack_faults : goal.returns-clause-rack_faults
returns-clause-rack_faults g c =
    let same = c.serve_greeted.ensures.rack_faults ∙ c.in_ok-boards.ensures.faults.2 (λ e. cc) in
    (λ failed. absurd (c.serve_greeted.ensures.not_rack failed), omega (arith, same), λ other. same)

pub returns-in_err-boards-clause-in_frames : goal.returns-in_err-boards-clause-in_frames
returns-in_err-boards-clause-in_frames g c =
    let shows = shown_by g.R.L.Link in
    let left = c.in_err-boards.ensures.left in (
      left.0,
      left.1,
      gives_none g.D.Door g.D.Incoming.Source g.D.Outgoing.Sink c.args.door.now (CameInFrames (map shows left.0))
          (none_executed (map shows left.0)
          (untouched_links c.args.settings c.args.specs.now (map shows left.0) left.2.0).1),
    )

pub returns-clause-in_frames : goal.returns-clause-in_frames
returns-clause-in_frames g c =
    let is = c.serve_greeted.ensures.in_frames in
    (is.0, since_then _ _ _ is.0 is.1 c.in_ok-boards.ensures.kept, is.2)

pub returns-in_err-boards-clause-none_out : goal.returns-in_err-boards-clause-none_out
returns-in_err-boards-clause-none_out g c = grind (arith, common_steps)

pub returns-in_err-boards-clause-listens : goal.returns-in_err-boards-clause-listens
returns-in_err-boards-clause-listens g c = grind (arith, common_steps)

pub returns-in_err-boards-clause-rack_faults : goal.returns-in_err-boards-clause-rack_faults
returns-in_err-boards-clause-rack_faults g c = grind (arith, common_steps)

pub returns-in_err-boards-clause-not_listened : goal.returns-in_err-boards-clause-not_listened
returns-in_err-boards-clause-not_listened g c = grind (arith, common_steps)

pub returns-in_err-boards-clause-door_faults : goal.returns-in_err-boards-clause-door_faults
returns-in_err-boards-clause-door_faults g c = grind (arith, common_steps)

pub returns-clause-all : goal.returns-clause-all
returns-clause-all g c = c.serve_greeted.ensures.all

pub returns-clause-had_memory : goal.returns-clause-had_memory
returns-clause-had_memory g c = c.serve_greeted.ensures.had_memory

pub returns-clause-pairs : goal.returns-clause-pairs
returns-clause-pairs g c = c.serve_greeted.ensures.pairs

pub returns-clause-none_out : goal.returns-clause-none_out
returns-clause-none_out g c = c.serve_greeted.ensures.none_out

pub returns-clause-listens : goal.returns-clause-listens
returns-clause-listens g c = c.serve_greeted.ensures.listens

pub returns-clause-door_faults : goal.returns-clause-door_faults
returns-clause-door_faults g c = c.serve_greeted.ensures.door_faults

pub returns-clause-untouched : goal.returns-clause-untouched
returns-clause-untouched g c = λ failed. absurd (c.serve_greeted.ensures.not_rack failed)

pub returns-clause-not_listened : goal.returns-clause-not_listened
returns-clause-not_listened g c = λ failed. absurd (c.serve_greeted.ensures.not_rack failed)
