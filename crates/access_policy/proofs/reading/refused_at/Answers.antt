use Rattle.std.proofs.Common.{◌≡◌, [], ◌∷◌, IfOk, subst, sym}
use Rattle.script_lang.specs.Paths.{path}
use Rattle.script_lang.specs.Walk.{below}
use Rattle.script_lang.specs.declared.steps.PathStep.TheVariants.{Key, Item}
use Rattle.access_policy.specs.Cutting.{TellsFirst}
use Rattle.access_policy.specs.Reading.{TellsShape}
use Rattle.access_policy.proofs.RuleFaults.{told_below}
use Rattle.access_policy.proofs.reading.refused_at.Goals as goal

pub returns-in-AtRule : goal.returns-in-AtRule
returns-in-AtRule c ways told =
    subst (TellsShape (below (Item c.args.position) ways)) (sym c.refusal.ensures)
    (told_below (Item c.args.position) ways [] c.rule_path.result (subst (TellsFirst ways) c.in-AtRule.is told)
    c.rule_path.ensures)

pub returns-in-AtKey : goal.returns-in-AtKey
returns-in-AtKey c ways told =
    subst (TellsShape (below (Item c.args.position) ways)) (sym c.refusal-in-AtKey.ensures)
    (told_below (Item c.args.position) ways (Key c.in-AtKey.key ∷ []) c.key_path.result
    (subst (TellsFirst ways) c.in-AtKey.is told)
    (subst (λ key. IfOk c.key_path.result (λ text. text ≡ path (Item c.args.position ∷ Key key ∷ [])))
    c.as_str.ensures c.key_path.ensures))
