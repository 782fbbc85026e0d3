use Rattle.std.proofs.Common.{rules, not}
use Rattle.std.proofs.lemmas.Fn.{filter_same}
use Rattle.lossy_network.specs.Traffic.{is_due}
use Rattle.lossy_network.proofs.under_way.keep_late.Goals as goal

pub returns : goal.returns
returns c = filter_same _ (λ late. not (is_due c.args.place late)) _ (λ x b f h. search rules) _ _
    c.retain.ensures.filtered
