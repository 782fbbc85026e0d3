use Rattle.std.proofs.lemmas.Result.{IfOk-weaker}
use Rattle.toml.specs.View.{table_view}
use Rattle.script_lang.specs.Document.{IsSession}
use Rattle.script_lang.specs.Limits.{IsWithin}
use Rattle.script_lang.proofs.Answered.{only}
use Rattle.script_lang.proofs.InRanges.{within}
use Rattle.script_lang.proofs.document.read_session_table.Goals as goal

pub returns-clause-only : goal.returns-clause-only
returns-clause-only c =
    only (table_view c.args.document) c.session.result c.session.ensures.found c.session.ensures.first

pub returns-clause-within : goal.returns-clause-within
returns-clause-within c =
    let document = table_view c.args.document in
    IfOk-weaker c.session.result (IsSession document) IsWithin (λ read found. within document read found)
    c.session.ensures.found
