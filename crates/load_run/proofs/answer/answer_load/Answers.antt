use Rattle.std.proofs.Common.{◌∙◌, map}
use Rattle.board_greeting.specs.Reports.{shown_by}
use Rattle.load_run.proofs.Answered.{load_done, load_stopped}
use Rattle.load_run.proofs.answer.answer_load.Goals as goal

pub returns-in_err-load-clause-leaves : goal.returns-in_err-load-clause-leaves
returns-in_err-load-clause-leaves g c = λ bytes.
    let left = c.in_err-load.ensures.leaves in
    let shown = shown_by g.R.L.Link in (
      left.0,
      left.1,
      load_stopped c.args.count bytes (g.R.Rack.made c.args.rack.now) (g.R.Rack.made c.run_load.new.rack)
          (map shown left.0) c.in_err-load.field-0.0 c.from_residual.result c.from_residual.ensures.0
          c.from_residual.ensures.1 left.2,
    )

pub returns-clause-leaves : goal.returns-clause-leaves
returns-clause-leaves g c = λ bytes.
    let left = c.in_ok-load.ensures.leaves in
    let shown = shown_by g.R.L.Link in (
      left.0,
      left.1,
      load_done c.args.count bytes (g.R.Rack.made c.args.rack.now) (g.R.Rack.made c.run_load.new.rack) (map shown left.0)
          c.in_ok-load.load c.new.result (c.new.ensures.status ∙ c.done_status.ensures.status) c.new.ensures.text left.2,
    )
