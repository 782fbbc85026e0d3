use Rattle.std.proofs.Common.{◌∷◌, []}
use Rattle.std.proofs.lemmas.Result.{err_from_is_err_and}
use Rattle.script_steps.specs.Rulings.{asked_operations}
use Rattle.transcript_reader.specs.Entries.{Heading, lines_of, operations_from}
use Rattle.transcript_reader.proofs.Walked.{behind_more, client_refused}
use Rattle.transcript_reader.proofs.reading.Reader.read_client.Goals as goal

pub returns-in_err-read_heading-clause-stuck : goal.returns-in_err-read_heading-clause-stuck
returns-in_err-read_heading-clause-stuck c =
    let p = err_from_is_err_and c.from_residual.result c.from_residual.ensures.1 in
    rw (p.1, p.2)
    (behind_more c.args.session.now.boards.now c.args.session.now.told.now (Heading c.args.client ∷ [])
    (operations_from 1 (asked_operations c.args.steps.now)) (lines_of c.args.self.now.text.now) c.args.self.now.line _
    (c.in_err-read_heading.ensures.stuck c.args.session.now.boards.now c.args.session.now.told.now))

pub returns-clause-stuck : goal.returns-clause-stuck
returns-clause-stuck c =
    client_refused c.args.session.now.boards.now c.args.session.now.told.now c.args.client c.args.steps.now c.args.self.now
    c.read_heading.new.self c.read_operations.result c.in_ok-read_heading.ensures.taken c.read_operations.ensures.stuck
