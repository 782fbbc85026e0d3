use Rattle.toml.specs.Data.{no_members}
use Rattle.toml.specs.View.{table_view}
use Rattle.script_lang.specs.Sessions.{format_of}
use Rattle.script_lang.proofs.TableLists.{are_pending}
use Rattle.script_lang.proofs.tables.tables.Goals as goal

pub returns-in-None-clause-read : goal.returns-in-None-clause-read
returns-in-None-clause-read c =
    rw (← c.in-None.ensures, c.new.ensures) (are_pending (format_of (table_view c.args.document.now)) no_members)
