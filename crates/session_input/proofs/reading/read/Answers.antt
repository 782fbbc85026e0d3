use Rattle.std.proofs.Common.{IfErr, rules}
use Rattle.session_input.specs.Deserved.{DeservesUnread, IsNoText, Tells}
use Rattle.session_input.proofs.NoText.{no_text}
use Rattle.session_input.proofs.Told.{told_by}
use Rattle.session_input.proofs.reading.read.Goals as goal

pub returns-in_err-document-clause-refused : goal.returns-in_err-document-clause-refused
returns-in_err-document-clause-refused c =
    let bytes = c.args.bytes.now in
    let told : IfErr c.from_residual.result (Tells (IsNoText bytes)) = search rules in
    told_by c.from_residual.result (IsNoText bytes) (DeservesUnread bytes) (no_text bytes) told
