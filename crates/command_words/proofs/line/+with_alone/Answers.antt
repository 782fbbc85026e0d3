use Rattle.std.proofs.Common.{◌∙◌, subst, sym}
use Rattle.std.specs.List.{AllByRecursion}
use Rattle.command_words.specs.App.{HasShapeBelow}
use Rattle.command_words.proofs.Below.{first_alone, shape_behind}
use Rattle.command_words.proofs.line.+with_alone.Goals as goal

pub returns-in-len1-up-clause-apps : goal.returns-in-len1-up-clause-apps
returns-in-len1-up-clause-apps t c =
    c.with_alone.ensures.apps
    ∙ first_alone c.args.commands.items c.push_reserved.new.self.items c.new.result c.args.names.now _
    c.in-len1-up.len_at_least c.push_reserved.ensures.items c.new.ensures.app

pub returns-in-len1-up-clause-below : goal.returns-in-len1-up-clause-below
returns-in-len1-up-clause-below t c = λ all.
    c.with_alone.ensures.below (subst (AllByRecursion HasShapeBelow) (sym c.push_reserved.ensures.items)
    (shape_behind c.args.commands.items c.new.result all (λ old new added. added.shape c.new.ensures.local)))
