use Rattle.std.proofs.Common.{subst}
use Rattle.toml.specs.View.{view}
use Rattle.script_lang.specs.Walk.{below}
use Rattle.script_lang.specs.declared.steps.PathStep.TheVariants.{Item}
use Rattle.access_policy.specs.Reading.{TellsShape, rule_faults}
use Rattle.access_policy.proofs.RuleFaults.{first-rule}
use Rattle.access_policy.proofs.reading.check_rules.Goals as goal

pub returns-in-Err-clause-first : goal.returns-in-Err-clause-first
returns-in-Err-clause-first c =
    let told : TellsShape (below (Item c.loop-i.i) (rule_faults (view c.index-items-i.result))) c.refused_at.result =
    c.refused_at.ensures (rule_faults (view c.index-items-i.result)) c.in-Err.ensures.first in
    subst (λ ways. TellsShape ways c.refused_at.result) c.loop-i.invariant
    (first-rule c.args.items.now c.loop-i.i c.index-items-i.result c.refused_at.result c.loop-i-test.true
    c.index-items-i.is told)
