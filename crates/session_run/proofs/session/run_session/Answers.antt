use Rattle.std.proofs.Common.{◌∙◌, ◌++◌, Vec, Global, ap, map, arith}
use Rattle.std.proofs.lemmas.Grind.{common_steps}
use Rattle.std.proofs.lemmas.Result.{IfOk-from_err, IfOk-weaker}
use Rattle.script_plans.specs.declared.board_run.BoardRun.{BoardRun}
use Rattle.board_history.specs.LinkRuns.{AreRunsOver}
use Rattle.board_greeting.specs.Reports.{shown_by}
use Rattle.board_greeting.specs.Standings.{links_in}
use Rattle.board_greeting.proofs.Boards.{made_still}
use Rattle.session_run.specs.Links.{Keeps}
use Rattle.session_run.proofs.Sessions.{fresh_are_left, rack_stands, ran_still, untouched_all}
use Rattle.session_run.proofs.session.run_session.Goals as goal

pub returns-in_err-boards-clause-left : goal.returns-in_err-boards-clause-left
returns-in_err-boards-clause-left g c =
    let shows = shown_by g.R.L.Link in
    let left = c.in_err-boards.ensures.left in (
      left.0,
      left.1,
      fresh_are_left c.a_fresh_link_is_left.ensures c.args.settings 0 c.args.specs.now c.args.scripts.now
          (map shows left.0) left.2.0,
    )

pub returns-in_err-boards-clause-ran : goal.returns-in_err-boards-clause-ran
returns-in_err-boards-clause-ran g c = IfOk-from_err c.from_residual.result _ c.from_residual.ensures.0

pub returns-in_err-boards-clause-untouched : goal.returns-in_err-boards-clause-untouched
returns-in_err-boards-clause-untouched g c =
    let shows = shown_by g.R.L.Link in
    let left = c.in_err-boards.ensures.left in
    λ fault. (left.0, left.1, untouched_all c.args.settings c.args.specs.now (map shows left.0) left.2.0)

pub returns-in_err-boards-clause-made : goal.returns-in_err-boards-clause-made
returns-in_err-boards-clause-made g c =
    let left = c.in_err-boards.ensures.left in (left.0, left.1, left.2.1)

pub returns-clause-left : goal.returns-clause-left
returns-clause-left g c =
    let left = c.run_greeted.ensures.left in
    (left.0, left.1 ∙ ap (λ kept. kept ++ left.0) c.in_ok-boards.ensures.kept, left.2.0)

pub returns-clause-made : goal.returns-clause-made
returns-clause-made g c =
    let shows = shown_by g.R.L.Link in
    let left = c.run_greeted.ensures.left in (
      left.0,
      left.1 ∙ ap (λ kept. kept ++ left.0) c.in_ok-boards.ensures.kept,
      made_still c.args.specs.now (map shows (links_in c.in_ok-boards.boards.items)) (map shows left.0)
          (g.R.Rack.made c.args.rack.now) (g.R.Rack.made c.greet_boards.new.rack)
          (g.R.Rack.made c.run_greeted.new.rack) c.in_ok-boards.ensures.made left.2.2 c.run_greeted.ensures.made,
    )

pub returns-clause-rack_faults : goal.returns-clause-rack_faults
returns-clause-rack_faults g c =
    let same = c.run_greeted.ensures.faults ∙ c.in_ok-boards.ensures.faults.2 (λ e. cc) in (
      λ failed. absurd (rack_stands c.run_greeted.result c.map_err.result c.map_err.ensures.cases failed),
      omega (arith, same),
      λ other. same,
    )

pub returns-clause-untouched : goal.returns-clause-untouched
returns-clause-untouched g c =
    λ failed. absurd (rack_stands c.run_greeted.result c.map_err.result c.map_err.ensures.cases failed)

pub returns-clause-ran : goal.returns-clause-ran
returns-clause-ran g c =
    let settings = c.args.settings in
    let specs = c.args.specs.now in
    let scripts = c.args.scripts.now in
    let new = c.run_greeted.new.rack in
    let kept = c.in_ok-boards.ensures.kept in
    ran_still _ _ c.run_greeted.result c.map_err.result c.map_err.ensures.cases c.map_err.ensures.variant
    (IfOk-weaker c.run_greeted.result
    (λ (runs : Vec BoardRun Global). Keeps g.R.Rack g.R.L.Link c.greet_boards.new.rack new (AreRunsOver settings 0 specs
    scripts runs.items))
    (λ (runs : Vec BoardRun Global). Keeps g.R.Rack g.R.L.Link c.args.rack.now new (AreRunsOver settings 0 specs
    scripts runs.items))
    (λ runs ran. (ran.0, ran.1 ∙ ap (λ now. now ++ ran.0) kept, ran.2)) c.run_greeted.ensures.ran)

pub greet_boards-requires-clause-reached : goal.greet_boards-requires-clause-reached
greet_boards-requires-clause-reached g c = grind (arith, common_steps)

pub returns-in_err-boards-clause-rack_faults : goal.returns-in_err-boards-clause-rack_faults
returns-in_err-boards-clause-rack_faults g c = grind (arith, common_steps)

pub run_greeted-requires-clause-few_boards : goal.run_greeted-requires-clause-few_boards
run_greeted-requires-clause-few_boards g c = grind (arith, common_steps)

pub run_greeted-requires-clause-can : goal.run_greeted-requires-clause-can
run_greeted-requires-clause-can g c = grind (arith, common_steps)

pub run_greeted-requires-clause-all : goal.run_greeted-requires-clause-all
run_greeted-requires-clause-all g c = grind (arith, common_steps)

pub run_greeted-requires-clause-reached : goal.run_greeted-requires-clause-reached
run_greeted-requires-clause-reached g c = grind (arith, common_steps)
