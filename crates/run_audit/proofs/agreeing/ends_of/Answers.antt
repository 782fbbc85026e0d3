use Rattle.std.proofs.Common.{arith}
use Rattle.std.proofs.lemmas.Grind.{common_steps}
use Rattle.std.proofs.Common.{rules}
use Rattle.run_audit.proofs.Fields.{no_late}
use Rattle.run_audit.proofs.agreeing.ends_of.Goals as goal

pub loop-i-init : goal.loop-i-init
loop-i-init c = record {
  ends = search rules;
  spelled = search rules;
  in_time = no_late c.args.bodies.now c.args.outcomes.now;
}

pub loop-i-preserved : goal.loop-i-preserved
loop-i-preserved c = grind (arith, common_steps)

pub returns-in_default-clause-ends : goal.returns-in_default-clause-ends
returns-in_default-clause-ends c = grind (arith, common_steps)

pub returns-clause-ends : goal.returns-clause-ends
returns-clause-ends c = grind (arith, common_steps)
