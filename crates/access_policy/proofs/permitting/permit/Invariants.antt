use Rattle.std.proofs.Common.{◌≡◌, map, take}
use Rattle.access_policy.specs.Candidates.{candidates_from, step_said}
use Rattle.access_policy.specs.Decisions.{names_of}
use Rattle.access_policy.proofs.permitting.permit.Given as goal

-- the judges have the rules of their boards, and what they say of the steps so far
abbrev pub invariant-loop-step : goal.invariant-loop-step
invariant-loop-step l =
    let meant = map (candidates_from 1 l.policy l.client) (names_of l.session.boards) in
    record {
      rules : l.judges.items ≡ meant;
      said : l.said.items ≡ map (step_said meant) (take l.step-index l.steps);
    }
