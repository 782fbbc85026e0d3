use Rattle.std.proofs.Common.{◌≡◌, ◌∙◌, ◌==◌, ◌&&◌, ℕ, List, Result, ap, subst, sym}
use Rattle.std.specs.Global.{Vec}
use Rattle.script_plans.specs.declared.board_run.BoardRun.{BoardRun}
use Rattle.transcript.specs.Lines.{all_good, transcript_of}
use Rattle.command_terms.specs.Numbers.{told_status}
use Rattle.record_command.specs.Headline.{body_count}
use Rattle.record_command.specs.Steps.{WritesOf}
use Rattle.record_command.proofs.Tapped.{both_true, one_false}
use Rattle.record_command.proofs.record.written.Goals.{then-printed, else-printed}
use Rattle.record_command.proofs.record.written.Goals as goal

pub returns-clause-writes : goal.returns-clause-writes
returns-clause-writes c =
    let steps = c.args.steps.now in
    let runs = c.in_ok-runs.runs in
    let place = c.proved-place.result in
    let good = c.in_ok-printed.printed.all_good in
    let all : c.if-printed.all ≡ (good && (place == c.in-Some.bodies)) =
    elim c.if-printed.branch [
      | then-printed w ↦ both_true _ _ _ w.if-printed.true w.all-is
      | else-printed w ↦ one_false _ _ _ w.if-printed.false w.all-is
    ] in
    let lines = c.in_ok-printed.ensures.good
    ∙ ap (λ (rs : List BoardRun). all_good (transcript_of steps rs).clients) c.deref.ensures.value in
    let bodies = c.in-Some.ensures ∙ ap body_count c.deref-2.ensures.value in
    let spelled = ap (λ (text : Vec ℕ). text.items) c.new.ensures.text in
    subst (λ (found : Result (Vec BoardRun) _). WritesOf steps found c.args.capture.now c.new.result)
    (sym c.in_ok-runs.was) (record {
      has_text = c.in_ok-text.ensures.capture;
      spelled = spelled ∙ c.in_ok-text.ensures.spelling;
      proved = place;
      is_proved = c.proved-place.ensures;
      told = c.new.ensures.status ∙ (c.done_status.ensures.status ∙ ap told_status (all ∙ (ap (λ b. b && (place == c.in-Some.bodies)) lines
          ∙ ap (λ (n : ℕ). all_good (transcript_of steps runs.items).clients && (place == n)) bodies)));
    })
