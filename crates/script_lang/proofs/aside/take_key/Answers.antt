use Rattle.std.proofs.Common.{ap, option_map, sym, ◌∙◌}
use Rattle.std.specs.Map.{lookup}
use Rattle.std.specs.BTreeMap.{is_at}
use Rattle.toml.specs.View.{members_view, view}
use Rattle.script_lang.proofs.TakenOut.{is_key, left, seen}
use Rattle.script_lang.proofs.aside.take_key.Goals as goal

pub returns-clause-taken : goal.returns-clause-taken
returns-clause-taken c =
    ap (option_map view) c.remove.ensures.value ∙ seen c.args.key.now c.args.document.now.entries

pub returns-clause-left : goal.returns-clause-left
returns-clause-left c =
    let removed = c.remove.ensures.entries in
    ap members_view removed
    ∙ left c.args.key.now c.args.document.now.entries
    (ap (lookup (is_at (is_key c.args.key.now))) (sym removed) ∙ c.remove.ensures.updates.1)
