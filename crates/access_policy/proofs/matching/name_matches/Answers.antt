use Rattle.std.proofs.Common.{map, option_copied, ap, sym, ◌∙◌, arith}
use Rattle.std.proofs.lemmas.Grind.{common_steps}
use Rattle.std.proofs.lemmas.List.{at_drop_all}
use mathlib.Core.Bool.{beq}
use Rattle.access_policy.specs.Cutting.{parts_left}
use Rattle.access_policy.specs.Names.{item_of}
use Rattle.access_policy.specs.Patterns.{items_match}
use Rattle.access_policy.proofs.LeftOver.{left_matches}
use Rattle.access_policy.proofs.matching.name_matches.Goals as goal

pub returns-in_default : goal.returns-in_default
returns-in_default c = grind (arith, common_steps)

pub returns-then-not-item_matches : goal.returns-then-not-item_matches
returns-then-not-item_matches c = grind (arith, common_steps)

pub loop-pattern-preserved : goal.loop-pattern-preserved
loop-pattern-preserved c = grind (arith, common_steps)

pub returns : goal.returns
returns c =
    let left = map item_of (parts_left (option_copied c.loop-pattern.left)) in
    ap (beq c.args.rest) c.is_some.ensures ∙ left_matches c.args.rest c.loop-pattern.left
    ∙ sym (at_drop_all (λ patterns. items_match patterns c.args.rest left) c.args.patterns.now
    c.loop-pattern.pattern-index (omega (arith, c.loop-pattern-test.false)))
    ∙ c.loop-pattern.invariant
