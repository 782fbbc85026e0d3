use Rattle.toml.proofs.Views.{table_get}
use Rattle.script_lang.proofs.fields.value_at.Goals as goal

pub returns : goal.returns
returns c = table_get c.get.result c.args.name.now c.args.members.now.entries c.get.ensures.value
