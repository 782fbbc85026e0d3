use Rattle.access_policy.specs.declared.policy.Access.TheVariants.{Reading, Writing}
use Rattle.access_policy.proofs.judging.Judge.of.Goals as goal

pub invariant_of-result : goal.invariant_of-result
invariant_of-result c =
    (c.requires, (tt, (c.new.ensures Reading c.args.rules.items, c.new-2.ensures Writing c.args.rules.items)))
