use Rattle.std.proofs.Common.{refl, ◌∙◌}
use Rattle.std.proofs.lemmas.Bool.{false≢true}
use Rattle.node_tree.proofs.CycleLemmas.{not_itself}
use Rattle.node_tree.proofs.cycles.leads_to_itself.Goals as goal

pub returns-then-is_below_modules : goal.returns-then-is_below_modules
returns-then-is_below_modules c =
    not_itself c.args.tables.now c.args.ranks.now c.args.name.now c.requires.rising (c.if-is_below_modules.ensures refl)

pub returns : goal.returns
returns c = λ loop. false≢true (c.if-contains.ensures ∙ c.in_ok-reached.ensures.all c.args.name.now loop)
