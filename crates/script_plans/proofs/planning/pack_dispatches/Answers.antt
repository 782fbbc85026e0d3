use Rattle.std.proofs.Common.{◌+◌, ◌∙◌, drop, sym, subst}
use Rattle.script_plans.specs.declared.planning.Planning.{Planning}
use Rattle.std.specs.List.{AllByRecursion}
use Rattle.mtu_packer.specs.Packed.{FitsPackets}
use Rattle.script_plans.specs.Plan.{AreSound, ClientBodies}
use Rattle.script_plans.specs.Steps.{IsPlanning, so_far}
use Rattle.script_plans.proofs.PlanLemmas.{after_denied, after_dispatch, after_operation, at_start}
use Rattle.script_plans.proofs.PlanLemmas.{few_waiting, planned_at_end}
use Rattle.script_plans.proofs.planning.pack_dispatches.Goals as goal
use Rattle.script_plans.proofs.planning.pack_dispatches.Goals.{in-Denied, in-Do+in_ok-queue-in-Do}
use Rattle.script_plans.proofs.planning.pack_dispatches.Goals.{in-Dispatch+in_ok-dispatch-in-Dispatch}

pub loop-step-init : goal.loop-step-init
loop-step-init c =
    rw (c.new-planning.ensures.planned, c.new-planning.ensures.queued)
    (at_start c.args.payload c.args.board c.args.steps.now c.requires.can c.requires.payload_low c.requires.few)

pub loop-step-preserved : goal.loop-step-preserved
loop-step-preserved c =
    let Holds : Planning → Type 0 =
    λ p. IsPlanning c.args.payload c.args.board c.args.steps.now (c.loop-step.step-index + 1) (so_far p) p.queued.items
    in
    elim c.match-step.branch [
      | in-Do+in_ok-queue-in-Do w ↦ subst Holds (sym w.planning-is) (
          rw w.in_ok-queue-in-Do.ensures
          (after_operation c.args.payload c.args.board c.args.steps.now c.loop-step.step-index _ _ c.step-item.result
          c.loop-step.invariant c.loop-step-test.true c.step-item.is w.in-Do.op w.in-Do.is))
      | in-Denied w ↦ subst Holds (sym w.planning-is) (
          after_denied c.args.payload c.args.board c.args.steps.now c.loop-step.step-index _ _ c.step-item.result
          c.loop-step.invariant c.loop-step-test.true c.step-item.is w.in-Denied.rule w.in-Denied.op w.in-Denied.is)
      | in-Dispatch+in_ok-dispatch-in-Dispatch w ↦ subst Holds (sym w.planning-is) (
          let e = w.in_ok-dispatch-in-Dispatch.ensures in
          rw (e.planned, e.emptied)
          (after_dispatch c.args.payload c.args.board c.args.steps.now c.loop-step.step-index _ _ c.step-item.result
          c.loop-step.invariant c.loop-step-test.true c.step-item.is w.in-Dispatch.is (subst AreSound e.planned e.sound)
          (subst (λ (all : ClientBodies). AllByRecursion (FitsPackets c.args.payload) all.bodies) e.planned e.room)))
    ]

pub dispatch-requires-clause-few : goal.dispatch-requires-clause-few
dispatch-requires-clause-few c =
    few_waiting c.args.payload c.loop-step.planning.queued.items (drop c.loop-step.step-index c.args.steps.now)
    c.loop-step.invariant.few

pub dispatch-requires-2-clause-few : goal.dispatch-requires-2-clause-few
dispatch-requires-2-clause-few c =
    few_waiting c.args.payload c.loop-step.planning.queued.items (drop c.loop-step.step-index c.args.steps.now)
    c.loop-step.invariant.few

pub returns-clause-planned : goal.returns-clause-planned
returns-clause-planned c =
    c.into_planned.ensures ∙ (c.in_ok-dispatch.ensures.planned
    ∙ planned_at_end c.args.payload c.args.board c.args.steps.now c.loop-step.step-index _ _ c.loop-step.invariant
    c.loop-step-test.false)
