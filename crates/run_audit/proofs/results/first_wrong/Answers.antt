use Rattle.std.proofs.Common.{◌≡◌, List, map, subst, sym}
use Rattle.script_plans.specs.declared.board_run.BoardRun.{BoardRun}
use Rattle.run_audit.specs.Replaying.{AreReplayed}
use Rattle.run_audit.specs.Results.{IsWrongAt}
use Rattle.run_audit.specs.Steps.{IsFirstBroken, asking}
use Rattle.run_audit.proofs.Verdicts.{replayed_as_shown}
use Rattle.run_audit.proofs.Wrong.{first_of_both}
use Rattle.run_audit.proofs.results.first_wrong.Goals as goal

pub returns : goal.returns
returns c =
    λ text shown is are.
    let rounds = c.args.session.now.settings.rounds in
    let boards = c.args.session.now.boards in
    let scripts = c.args.scripts.now in
    let lines = map asking c.args.asked.now in
    let made = replayed_as_shown is are c.as_slice.ensures (c.in_ok-runs.ensures scripts shown) in
    let replayed = λ (runs : List BoardRun) (same : runs ≡ c.in_ok-runs.runs.items).
    subst (λ runs. AreReplayed boards scripts shown runs lines) (sym same) made in
    subst (λ found. IsFirstBroken (IsWrongAt rounds boards scripts shown) found) (sym c.earliest.ensures)
    (first_of_both rounds boards scripts shown lines are.lines' c.in_ok-unreplayed.unreplayed c.in_ok-apart.apart
    (c.in_ok-unreplayed.ensures shown (replayed c.as_slice-2.result.now c.as_slice-2.ensures.value))
    (c.in_ok-apart.ensures shown (replayed c.as_slice-3.result.now c.as_slice-3.ensures.value)))
