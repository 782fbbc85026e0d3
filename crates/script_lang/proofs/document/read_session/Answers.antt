use Rattle.toml.specs.View.{table_view}
use Rattle.script_lang.proofs.Answered.{memory_alone, not_toml, of_document, refused}
use Rattle.script_lang.proofs.document.read_session.Goals as goal

pub returns-in-Err-clause-only : goal.returns-in-Err-clause-only
returns-in-Err-clause-only c =
    λ session stands. memory_alone c.args.bytes.now c.in-Err.refusal session c.in-Err.ensures.refused stands

pub returns-in-Err-clause-refused : goal.returns-in-Err-clause-refused
returns-in-Err-clause-refused c = not_toml c.args.bytes.now c.in-Err.refusal c.in-Err.ensures.refused

pub returns-in-Ok-clause-only : goal.returns-in-Ok-clause-only
returns-in-Ok-clause-only c =
    λ session stands. c.read_session_table.ensures.only session
    (of_document c.args.bytes.now (table_view c.in-Ok.document) c.in-Ok.ensures.document session stands)

pub returns-in-Ok-clause-refused : goal.returns-in-Ok-clause-refused
returns-in-Ok-clause-refused c =
    refused c.args.bytes.now
    (table_view c.in-Ok.document) c.in-Ok.ensures.document c.read_session_table.result
    c.read_session_table.ensures.refused
