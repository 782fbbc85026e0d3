use Rattle.std.proofs.Common.{ap, map, subst, sym, ◌∙◌}
use Rattle.run_audit.specs.Steps.{asking}
use Rattle.run_audit.proofs.InTime.{IsTold, none_allowed, told_in_time}
use Rattle.run_audit.proofs.Verdicts.{all_replayed}
use Rattle.run_audit.proofs.in_time.shown_in_time.Goals as goal

pub returns-in_default : goal.returns-in_default
returns-in_default c =
    λ result.
    none_allowed c.as_slice.result.now c.args.session.now.boards c.args.scripts.now c.args.shown.now c.args.line result
    (sym c.allowed_at.ensures ∙ c.in_default.is) (ap (map asking) c.as_slice.ensures.value ∙ c.in_ok-asked.ensures)

pub returns : goal.returns
returns c =
    let boards = c.args.session.now.boards in
    let replayed = all_replayed c.args.scripts.now c.args.shown.now c.requires.shown.1 c.as_slice-boards.ensures
    c.in_ok-plans.ensures.plans c.in_ok-asked.ensures c.as_slice.ensures.value c.as_slice-2.ensures.value
    c.as_slice-3.ensures.value (c.in_ok-runs.ensures c.args.scripts.now c.args.shown.now) in
    subst (IsTold boards c.args.scripts.now c.args.shown.now c.args.line) (sym c.result_at.ensures)
    (told_in_time boards c.args.scripts.now c.args.shown.now c.args.line c.as_slice-3.result.now c.as_slice.result.now
    c.in_ok-lines.lines.items c.in-Some.at replayed (sym c.allowed_at.ensures ∙ c.in-Some.is) c.in_ok-lines.ensures)
