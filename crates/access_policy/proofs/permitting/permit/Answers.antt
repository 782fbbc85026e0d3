use Rattle.std.proofs.Common.{map, ap, ◌∙◌, arith}
use Rattle.std.proofs.lemmas.Grind.{common_steps}
use Rattle.std.proofs.lemmas.List.{take_all}
use Rattle.access_policy.specs.Candidates.{candidates_from, step_said}
use Rattle.access_policy.specs.Decisions.{names_of}
use Rattle.access_policy.proofs.Decided.{all_steps}
use Rattle.access_policy.proofs.permitting.permit.Goals as goal

pub loop-step-preserved : goal.loop-step-preserved
loop-step-preserved c = grind (arith, common_steps)

pub returns : goal.returns
returns c =
    let policy = c.args.policy.now in
    let boards = names_of c.args.session.now.boards in
    let steps = c.args.steps.now in
    c.loop-step.invariant.said
    ∙ ap (map (step_said (map (candidates_from 1 policy c.args.client) boards)))
    (take_all c.loop-step.step-index steps (omega (arith, c.loop-step-test.false)))
    ∙ all_steps policy c.args.client boards steps
