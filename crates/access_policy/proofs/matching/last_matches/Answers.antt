use Rattle.std.proofs.Common.{◌-◌, ◌<◌, length, sym, ◌∙◌, arith}
use Rattle.access_policy.proofs.Lengths.{misfit_at, some_items}
use Rattle.access_policy.proofs.matching.last_matches.Goals as goal

pub returns : goal.returns
returns c bad rest =
    let some : 0 < length c.args.patterns.now =
    some_items (length c.args.patterns.now) (sym c.is_empty.ensures ∙ c.if-is_empty.false) in
    misfit_at c.args.patterns.now rest c.args.parts.now (length c.args.patterns.now - 1) c.index-patterns-last.result
    c.index-parts-last.result (omega (arith, some)) (omega (arith, some, c.requires.long)) c.index-patterns-last.is
    c.index-parts-last.is (sym c.item_matches.ensures ∙ bad)
