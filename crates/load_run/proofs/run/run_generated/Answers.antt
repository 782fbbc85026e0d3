use Rattle.std.proofs.Common.{◌≡◌, List, length, map, Err, refl, ap, subst}
use Rattle.std.specs.List.{AllByRecursion}
use Rattle.board_greeting.specs.Reports.{shown_by}
use Rattle.board_specs.specs.declared.spec.BoardSpec.{BoardSpec}
use Rattle.world_model.specs.Settings.{Limits}
use Rattle.script_steps.specs.declared.operation.Step.{Step}
use Rattle.board_history.specs.Links.{IsUntouched}
use Rattle.board_history.specs.LinkRuns.{AreRunsOver}
use Rattle.load_run.specs.Generated.{boards, steps}
use Rattle.load_run.specs.Summary.{all_done, summary_of, summary_text}
use Rattle.session_run.specs.Links.{AreLeft, AreMadeFor}
use Rattle.session_run.proofs.Faults.{no_memory_is_no_rack}
use Rattle.transcript.specs.Lines.{transcript_of}
use Rattle.load_run.specs.Loading.{PrintsLoad}
use Rattle.command_terms.proofs.Leaving.{at_links}
use Rattle.load_run.proofs.Loads.{load_failed, load_told}
use Rattle.load_run.proofs.run.run_generated.Goals as goal

pub returns-in_err-runs-clause-leaves : goal.returns-in_err-runs-clause-leaves
returns-in_err-runs-clause-leaves g c =
    let left = c.run_session.ensures.left in
    let shown = shown_by g.R.L.Link in
    let links = map shown left.0 in
    let made = g.R.Rack.made c.args.rack.now in
    let makes = g.R.Rack.made c.run_session.new.rack in (
      left.0,
      left.1,
      load_failed PrintsLoad c.args.count made makes c.from_residual.result c.in_err-runs.field-0.0 links
          (subst (λ scripts. AreLeft 0 (boards c.args.count) scripts links) c.requires.scripts'
          (subst (λ specs. AreLeft 0 specs c.args.steps.now links) c.requires.specs' left.2))
          (subst (λ specs. AreMadeFor specs links made makes) c.requires.specs'
          (at_links shown _ _ left.0 left.1 (λ links. AreMadeFor c.args.boards.now links made makes)
          c.run_session.ensures.made))
          c.from_residual.ensures.0 c.from_residual.ensures.1
          (λ rack. at_links shown _ _ left.0 left.1 (AllByRecursion IsUntouched)
          (c.in_err-runs.ensures.untouched (ap Err rack))),
    )

pub returns-in_err-printed-clause-leaves : goal.returns-in_err-printed-clause-leaves
returns-in_err-printed-clause-leaves g c =
    let left = c.run_session.ensures.left in
    let shown = shown_by g.R.L.Link in
    let links = map shown left.0 in
    let made = g.R.Rack.made c.args.rack.now in
    let makes = g.R.Rack.made c.run_session.new.rack in (
      left.0,
      left.1,
      load_failed PrintsLoad c.args.count made makes c.from_residual-in_err-printed.result _ links
          (subst (λ scripts. AreLeft 0 (boards c.args.count) scripts links) c.requires.scripts'
          (subst (λ specs. AreLeft 0 specs c.args.steps.now links) c.requires.specs' left.2))
          (subst (λ specs. AreMadeFor specs links made makes) c.requires.specs'
          (at_links shown _ _ left.0 left.1 (λ links. AreMadeFor c.args.boards.now links made makes)
          c.run_session.ensures.made))
          c.from_residual-in_err-printed.ensures.0 c.from_residual-in_err-printed.ensures.1
          (λ rack. absurd (no_memory_is_no_rack _ refl rack)),
    )

pub returns-clause-leaves : goal.returns-clause-leaves
returns-clause-leaves g c =
    let left = c.run_session.ensures.left in
    let shown = shown_by g.R.L.Link in
    let links = map shown left.0 in
    let made = g.R.Rack.made c.args.rack.now in
    let makes = g.R.Rack.made c.run_session.new.rack in
    let count = c.args.count in
    let runs = c.in_ok-runs.runs.items in
    let load = c.in_ok-printed.field-0 in
    let over : AreRunsOver c.args.settings 0 c.args.boards.now c.args.steps.now runs links =
    at_links shown _ _ left.0 left.1 (AreRunsOver c.args.settings 0 c.args.boards.now c.args.steps.now runs)
    c.in_ok-runs.ensures.ran in
    let parts = c.requires in (
      left.0,
      left.1,
      load_told PrintsLoad count made makes load links
          (subst (λ scripts. AreLeft 0 (boards count) scripts links) parts.scripts'
          (subst (λ specs. AreLeft 0 specs c.args.steps.now links) parts.specs' left.2))
          (subst (λ specs. AreMadeFor specs links made makes) parts.specs'
          (at_links shown _ _ left.0 left.1 (λ links. AreMadeFor c.args.boards.now links made makes)
          c.run_session.ensures.made))
          (record {
            runs = runs;
            over =
                subst (λ (limits : Limits). AreRunsOver limits 0 (boards count) (steps count) runs links) parts.limits'
                (subst (λ (scripts : List (List Step)). AreRunsOver c.args.settings 0 (boards count) scripts runs links)
                parts.scripts'
                (subst (λ (specs : List BoardSpec). AreRunsOver c.args.settings 0 specs c.args.steps.now runs links)
                parts.specs' over));
            spelled =
                subst (λ scripts. load.text.items ≡ summary_text (summary_of count (transcript_of scripts runs)))
                parts.scripts'
                (subst (λ runs. load.text.items ≡ summary_text (summary_of count (transcript_of c.args.steps.now runs)))
                c.deref.ensures.value c.in_ok-printed.ensures.text);
            told =
                subst (λ scripts. load.done ≡ all_done (summary_of count (transcript_of scripts runs)))
                parts.scripts'
                (subst (λ runs. load.done ≡ all_done (summary_of count (transcript_of c.args.steps.now runs)))
                c.deref.ensures.value c.in_ok-printed.ensures.done);
          }),
    )
