use Rattle.std.proofs.Common.{List, map, refl, sym, subst, arith, ◌∙◌}
use Rattle.board_greeting.specs.Reports.{shown_by}
use Rattle.board_specs.specs.declared.spec.BoardSpec.{BoardSpec}
use Rattle.world_model.specs.Settings.{Limits}
use Rattle.script_steps.specs.declared.operation.Step.{Step}
use Rattle.load_run.specs.Generated.{boards, settings, steps}
use Rattle.load_run.specs.Loading.{IsGenerated, IsLoadOf}
use Rattle.load_run.proofs.Loads.{no_load, reached_of, rightly_left}
use Rattle.load_run.proofs.run.run_load.Goals as goal

pub run_generated-requires-after_bounds : goal.run_generated-requires-after_bounds
run_generated-requires-after_bounds g c κs bounds =
    let can = c.a_generated_session_can_be_run.ensures in
    let count = c.args.count in
    let one = can.one_board count in
    let four = can.four_clients count in
    let ready : IsGenerated count settings (boards count) (steps count) = record {
      limits' = refl;
      specs' = refl;
      scripts' = refl;
      few_boards = omega (arith, one);
      reached = reached_of (boards count) (can.here count c.requires) (can.words count);
      can = record {
        few_clients = omega (arith, four);
        packed = can.packed count;
        few = can.few count c.requires;
        executable = can.executable count;
        limits = can.within count c.requires;
      };
      short = can.short count c.requires;
    } in
    subst (λ (limits : Limits). IsGenerated count limits c.as_slice-boards.result.now c.as_slice-steps.result.now)
    (sym c.in_ok-session.ensures.settings)
    (subst (λ (specs : List BoardSpec). IsGenerated count settings specs c.as_slice-steps.result.now)
    (sym (c.as_slice-boards.ensures.value ∙ c.in_ok-session.ensures.boards))
    (subst (λ (scripts : List (List Step)). IsGenerated count settings (boards count) scripts)
    (sym (c.as_slice-steps.ensures.value ∙ c.in_ok-session.ensures.steps)) ready))

pub returns-in_err-session-clause-leaves : goal.returns-in_err-session-clause-leaves
returns-in_err-session-clause-leaves g c =
    let shown = shown_by g.R.L.Link in
    no_load shown _ IsLoadOf c.args.count _ c.from_residual.result c.from_residual.ensures.0 c.from_residual.ensures.1

pub returns-clause-leaves : goal.returns-clause-leaves
returns-clause-leaves g c =
    let shown = shown_by g.R.L.Link in
    let left = c.run_generated.ensures.leaves in (
      left.0,
      left.1,
      rightly_left c.the_run_of_a_generated_session.ensures c.args.count (g.R.Rack.made c.args.rack.now)
          (g.R.Rack.made c.run_generated.new.rack) c.requires c.run_generated.result (map shown left.0) left.2,
    )
