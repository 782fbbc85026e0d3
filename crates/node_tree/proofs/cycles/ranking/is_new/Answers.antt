use Rattle.std.proofs.Common.{◌≡◌, Bool, true, false, not, refl, sym, ◌∙◌}
use Rattle.node_tree.proofs.cycles.ranking.is_new.Goals as goal

not_true : (b : Bool) → not b ≡ true → b ≡ false
not_true true h = cc
not_true false h = refl

pub returns-in-Some : goal.returns-in-Some
returns-in-Some c =
    λ fresh. (sym c.contains.ensures ∙ not_true c.contains.result fresh, (c.in-Some.field-0.now, sym c.in-Some.ensures))
