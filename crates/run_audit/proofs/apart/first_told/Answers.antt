use Rattle.std.proofs.Common.{ap, sym, ◌∙◌}
use Rattle.std.specs.BTreeMap as tree
use Rattle.std.specs.Option.{unwrap_or}
use Rattle.run_audit.specs.Apart.{fate_of, row_cmp}
use Rattle.run_audit.proofs.ApartBodies.{others_kept, row_items, same_key}
use Rattle.run_audit.proofs.apart.first_told.Goals as goal

pub returns-clause-first : goal.returns-clause-first
returns-clause-first c =
    let same = same_key c.in-Some.known c.args.body (sym c.eq.ensures ∙ c.if-eq.true) in
    sym (ap (λ found. unwrap_or found c.args.fate)
    (ap (fate_of c.args.told.now) (sym same) ∙ c.requires (c.in-Some.known, c.in-Some.first) c.in-Some.is))

pub returns-clause-here : goal.returns-clause-here
returns-clause-here c =
    let same = same_key c.in-Some.known c.args.body (sym c.eq.ensures ∙ c.if-eq.true) in
    ap (fate_of c.args.told.now) (sym same) ∙ c.requires (c.in-Some.known, c.in-Some.first) c.in-Some.is

pub returns-2-clause-others : goal.returns-2-clause-others
returns-2-clause-others c =
    others_kept c.args.told.now c.remove.new.self c.insert.new.self c.args.body.0 c.args.body.1 c.args.body.2
    c.unwrap_or-row.result c.first_in.new.row
    (row_items (tree.get row_cmp c.args.told.now (c.args.body.0, c.args.body.1)) c.unwrap_or-row.result c.new.result
    (c.unwrap_or-row.ensures ∙ ap (λ found. unwrap_or found c.new.result) c.remove.ensures.value) c.new.ensures.items)
    c.remove.ensures.updates.0 c.in_ok-insert.ensures.updates.0 c.in_ok-first.ensures.others
