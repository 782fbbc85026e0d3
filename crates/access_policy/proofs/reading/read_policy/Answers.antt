use Rattle.std.proofs.Common.{◌≡◌, [], subst, sym, IfErr, IfOk, OnOk}
use Rattle.toml.specs.View.{view}
use Rattle.access_policy.specs.Reading.{TellsShape}
use Rattle.access_policy.proofs.RuleFaults.{array_rules, few_rules, many_rules}
use Rattle.access_policy.proofs.reading.read_policy.Goals as goal

pub returns-then-items-gt-MAX_RULES-clause-refused : goal.returns-then-items-gt-MAX_RULES-clause-refused
returns-then-items-gt-MAX_RULES-clause-refused c =
    many_rules (view c.args.value.now) c.as_slice-items.result.now c.in-Some.items.now
    c.refused_whole-then-items-gt-MAX_RULES.result c.in-Some.ensures c.as_slice-items.ensures.value
    c.if-items-gt-MAX_RULES.true c.refused_whole-then-items-gt-MAX_RULES.ensures

pub returns-clause-refused : goal.returns-clause-refused
returns-clause-refused c =
    subst (λ ways. IfErr c.read_rules.result (TellsShape ways))
    (few_rules (view c.args.value.now) c.as_slice-items.result.now c.in-Some.items.now c.in-Some.ensures
    c.as_slice-items.ensures.value c.if-items-gt-MAX_RULES.false)
    c.read_rules.ensures.refused

pub returns-clause-policy : goal.returns-clause-policy
returns-clause-policy c =
    subst (λ rules. IfOk c.read_rules.result (λ policy. policy ≡ rules))
    (sym (array_rules (view c.args.value.now) c.as_slice-items.result.now c.in-Some.items.now c.in-Some.ensures
    c.as_slice-items.ensures.value))
    c.read_rules.ensures.policy

pub returns-clause-faultless : goal.returns-clause-faultless
returns-clause-faultless c =
    subst (λ ways. OnOk c.read_rules.result (ways ≡ []))
    (few_rules (view c.args.value.now) c.as_slice-items.result.now c.in-Some.items.now c.in-Some.ensures
    c.as_slice-items.ensures.value c.if-items-gt-MAX_RULES.false)
    c.read_rules.ensures.faultless
