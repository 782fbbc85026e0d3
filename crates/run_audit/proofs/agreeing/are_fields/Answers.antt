use Rattle.std.proofs.Common.{arith, rules}
use Rattle.std.proofs.lemmas.Grind.{common_steps}
use Rattle.run_audit.proofs.Fields.{all_fields}
use Rattle.run_audit.proofs.agreeing.are_fields.Goals as goal

pub returns : goal.returns
returns c = (
  λ _. all_fields c.args.mask c.args.told.now c.args.words.now c.loop-i.invariant.long
      (λ k within. c.loop-i.invariant.same k (omega arith)),
  λ _. search rules,
)

pub loop-i-preserved : goal.loop-i-preserved
loop-i-preserved c = grind (arith, common_steps)
