use Rattle.std.proofs.Common.{◌≡◌, Err, refl, ap, arith, subst}
use Rattle.std.proofs.lemmas.Grind.{common_steps}
use Rattle.session_run.proofs.Faults.{no_memory_is_no_rack}
use Rattle.transcript.specs.Lines.{transcript_of, run_status}
use Rattle.transcript.specs.Text.{transcript_text}
use Rattle.board_greeting.specs.Reports.{shown_by}
use Rattle.run_laws.proofs.Leaving.{run_answered_over, run_failed_over}
use Rattle.run_command.specs.Steps.{Prints}
use Rattle.run_command.proofs.run.transcript.Goals as goal

pub returns-in_err-runs-clause-leaves : goal.returns-in_err-runs-clause-leaves
returns-in_err-runs-clause-leaves g c =
    run_failed_over (Prints c.args.session.now c.args.steps.now) c.args.session.now c.args.steps.now _ _
    (shown_by g.R.L.Link) _ _ _ c.as_slice-boards.ensures c.run_session.ensures.left c.run_session.ensures.made
    c.from_residual.result c.in_err-runs.field-0.0 c.from_residual.ensures.0 c.from_residual.ensures.1
    (λ rack. c.in_err-runs.ensures.untouched (ap Err rack))

pub returns-in_err-printed-clause-leaves : goal.returns-in_err-printed-clause-leaves
returns-in_err-printed-clause-leaves g c =
    run_failed_over (Prints c.args.session.now c.args.steps.now) c.args.session.now c.args.steps.now _ _
    (shown_by g.R.L.Link) _ _ _ c.as_slice-boards.ensures c.run_session.ensures.left c.run_session.ensures.made
    c.from_residual-in_err-printed.result _ c.from_residual-in_err-printed.ensures.0
    c.from_residual-in_err-printed.ensures.1 (λ rack. absurd (no_memory_is_no_rack _ refl rack))

pub returns-clause-leaves : goal.returns-clause-leaves
returns-clause-leaves g c =
    let steps = c.args.steps.now in
    let answer = c.in_ok-printed.field-0 in
    run_answered_over (Prints c.args.session.now steps) c.args.session.now steps _ _ (shown_by g.R.L.Link) _ _ _
    c.as_slice-boards.ensures c.run_session.ensures.left c.run_session.ensures.made c.in_ok-runs.runs.items
    c.in_ok-runs.ensures.ran answer
    (λ links boards. record {
      runs = c.in_ok-runs.runs.items;
      boards = boards;
      spelled = subst (λ runs. answer.text.items ≡ transcript_text (transcript_of steps runs)) c.deref.ensures.value
          c.in_ok-printed.ensures.text;
      told = subst (λ runs. answer.status ≡ run_status (transcript_of steps runs).clients) c.deref.ensures.value
          c.in_ok-printed.ensures.status;
    })

pub returns-in_err-runs-clause-rack_faults : goal.returns-in_err-runs-clause-rack_faults
returns-in_err-runs-clause-rack_faults g c = grind (arith, common_steps)

pub returns-in_err-printed-clause-rack_faults : goal.returns-in_err-printed-clause-rack_faults
returns-in_err-printed-clause-rack_faults g c = grind (arith, common_steps)

pub returns-clause-rack_faults : goal.returns-clause-rack_faults
returns-clause-rack_faults g c = grind (arith, common_steps)
