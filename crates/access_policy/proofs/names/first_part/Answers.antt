use Rattle.std.proofs.Common.{◌<◌, ℕ, List, length, IfSome, ap, subst, sym, ◌∙◌}
use Rattle.access_policy.proofs.Parts.{cut_shorter, split_as, split_first}
use Rattle.access_policy.proofs.names.first_part.Goals as goal

pub returns-in-Some-clause-parts : goal.returns-in-Some-clause-parts
returns-in-Some-clause-parts c = split_first c.args.text.now ∙ ap (split_as c.args.text.now) (sym c.in-Some.ensures)

pub returns-in-None-clause-parts : goal.returns-in-None-clause-parts
returns-in-None-clause-parts c = split_first c.args.text.now ∙ ap (split_as c.args.text.now) (sym c.in-None.ensures)

pub returns-in-Some-clause-shorter : goal.returns-in-Some-clause-shorter
returns-in-Some-clause-shorter c =
    subst (λ r. IfSome {T = List ℕ × List ℕ} r (λ p. length p.1 < length c.args.text.now)) (sym c.in-Some.ensures)
    (cut_shorter 46 c.args.text.now)
