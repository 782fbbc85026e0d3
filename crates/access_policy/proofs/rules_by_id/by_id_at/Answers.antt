use Rattle.std.proofs.Common.{arith}
use Rattle.std.proofs.lemmas.Grind.{common_steps}
use Rattle.access_policy.proofs.rules_by_id.by_id_at.Goals as goal

pub loop-candidate-preserved : goal.loop-candidate-preserved
loop-candidate-preserved c = record {
  own = λ id. grind (arith, common_steps, c.loop-candidate.invariant.own id);
  none = grind (arith, common_steps);
}
