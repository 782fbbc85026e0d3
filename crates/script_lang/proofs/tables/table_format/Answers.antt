use Rattle.std.proofs.Common.{sym, subst}
use Rattle.address_table.specs.Limits.{IsFormat}
use Rattle.toml.specs.View.{table_view}
use Rattle.script_lang.proofs.Numbers.{is_format}
use Rattle.script_lang.proofs.tables.table_format.Goals as goal

pub returns-clause-range : goal.returns-clause-range
returns-clause-range c =
    subst IsFormat (sym c.number_at.ensures) (is_format (table_view c.args.document.now))
