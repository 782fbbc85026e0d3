use Rattle.std.proofs.Common.{◌≡◌, Err, refl, ap, arith, subst}
use Rattle.std.proofs.lemmas.Grind.{common_steps}
use Rattle.session_run.proofs.Faults.{no_memory_is_no_rack}
use Rattle.transcript.specs.Lines.{client_lines, transcript_of, run_status}
use Rattle.config_store.specs.Text.{state_text}
use Rattle.board_greeting.specs.Reports.{shown_by}
use Rattle.run_laws.proofs.Leaving.{run_answered_over, run_failed_over}
use Rattle.config_commands.specs.Steps.{Writes, first_of}
use Rattle.config_commands.proofs.run.write_configuration.Goals as goal

pub returns-in_err-runs-clause-leaves : goal.returns-in_err-runs-clause-leaves
returns-in_err-runs-clause-leaves g c =
    run_failed_over (Writes c.args.session.now c.args.steps.now) c.args.session.now c.args.steps.now _ _
    (shown_by g.R.L.Link) _ _ _ c.as_slice-boards.ensures c.run_session.ensures.left c.run_session.ensures.made
    c.from_residual.result c.in_err-runs.field-0.0 c.from_residual.ensures.0 c.from_residual.ensures.1
    (λ rack. c.in_err-runs.ensures.untouched (ap Err rack))

pub returns-in_err-written-clause-leaves : goal.returns-in_err-written-clause-leaves
returns-in_err-written-clause-leaves g c =
    run_failed_over (Writes c.args.session.now c.args.steps.now) c.args.session.now c.args.steps.now _ _
    (shown_by g.R.L.Link) _ _ _ c.as_slice-boards.ensures c.run_session.ensures.left c.run_session.ensures.made
    c.from_residual-in_err-written.result _ c.from_residual-in_err-written.ensures.0
    c.from_residual-in_err-written.ensures.1 (λ rack. absurd (no_memory_is_no_rack _ refl rack))

pub returns-clause-leaves : goal.returns-clause-leaves
returns-clause-leaves g c =
    let steps = c.args.steps.now in
    let boards = c.as_slice-boards.ensures in
    let answer = c.in_ok-written.field-0 in
    run_answered_over (Writes c.args.session.now steps) c.args.session.now steps _ _ (shown_by g.R.L.Link) _ _ _ boards
    c.run_session.ensures.left c.run_session.ensures.made c.in_ok-runs.runs.items c.in_ok-runs.ensures.ran answer
    (λ links over. record {
      runs = c.in_ok-runs.runs.items;
      boards = over;
      spelled =
          subst
          (λ boards. answer.text.items ≡ state_text boards (client_lines c.in_ok-runs.runs.items 0 (first_of steps)))
          boards
          (subst
          (λ runs. answer.text.items ≡ state_text c.as_slice-boards.result.now (client_lines runs 0 (first_of steps)))
          c.deref.ensures.value c.in_ok-written.ensures.text);
      told = subst (λ runs. answer.status ≡ run_status (transcript_of steps runs).clients) c.deref.ensures.value
          c.in_ok-written.ensures.status;
    })

pub returns-in_err-runs-clause-rack_faults : goal.returns-in_err-runs-clause-rack_faults
returns-in_err-runs-clause-rack_faults g c = grind (arith, common_steps)

pub returns-in_err-written-clause-rack_faults : goal.returns-in_err-written-clause-rack_faults
returns-in_err-written-clause-rack_faults g c = grind (arith, common_steps)

pub returns-clause-rack_faults : goal.returns-clause-rack_faults
returns-clause-rack_faults g c = grind (arith, common_steps)
