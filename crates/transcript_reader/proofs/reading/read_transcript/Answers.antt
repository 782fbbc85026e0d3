use Rattle.std.proofs.Common.{◌∙◌, [], refl, arith}
use Rattle.std.proofs.lemmas.Grind.{common_steps}
use Rattle.std.proofs.lemmas.Result.{err_from_is_err_and}
use Rattle.transcript_reader.specs.declared.reading.Reader.{Reader}
use Rattle.transcript_reader.proofs.Whole.{boards_unshown, clients_unshown, found, left_unshown}
use Rattle.transcript_reader.proofs.reading.read_transcript.Goals as goal

pub told_boards-requires-clause-few : goal.told_boards-requires-clause-few
told_boards-requires-clause-few c = grind (arith, common_steps)

pub returns-in_err-clients-clause-refused : goal.returns-in_err-clients-clause-refused
returns-in_err-clients-clause-refused c =
    let p = err_from_is_err_and c.from_residual-in_err-clients.result c.from_residual-in_err-clients.ensures.1 in
    let old : Reader = record { text = c.args.text; line = 0; written = c.told_boards.new.written } in
    rw (p.1, p.2)
    (clients_unshown c.args.boards.now c.args.scripts.now c.args.text.now c.as_slice.result.now old old []
    (c.as_slice.ensures.value ∙ c.in_ok-told.ensures.greetings) refl refl _ c.in_err-clients.ensures.stuck)

pub returns-in_err-lines-clause-refused : goal.returns-in_err-lines-clause-refused
returns-in_err-lines-clause-refused c =
    let p = err_from_is_err_and c.from_residual-in_err-lines.result c.from_residual-in_err-lines.ensures.1 in
    let old : Reader = record { text = c.args.text; line = 0; written = c.told_boards.new.written } in
    rw (p.1, p.2)
    (boards_unshown c.args.boards.now c.args.scripts.now c.args.text.now c.as_slice.result.now old
    c.read_clients.new.self c.in_ok-clients.clients (c.as_slice.ensures.value ∙ c.in_ok-told.ensures.greetings) refl refl _
    c.in_ok-clients.ensures.shows (c.in_err-lines.ensures.stuck c.as_slice.result.now))

pub returns-in_err-finish-clause-refused : goal.returns-in_err-finish-clause-refused
returns-in_err-finish-clause-refused c =
    let p = err_from_is_err_and c.from_residual-in_err-finish.result c.from_residual-in_err-finish.ensures.1 in
    let old : Reader = record { text = c.args.text; line = 0; written = c.told_boards.new.written } in
    rw (p.1, p.2)
    (left_unshown c.args.boards.now c.args.scripts.now c.args.text.now c.as_slice.result.now old
    c.read_clients.new.self c.in_ok-clients.clients (c.as_slice.ensures.value ∙ c.in_ok-told.ensures.greetings) refl refl
    c.read_boards.new.self c.in_ok-lines.lines _ c.in_ok-clients.ensures.shows c.in_ok-lines.ensures.shows
    c.in_err-finish.ensures.left)

pub returns-clause-found : goal.returns-clause-found
returns-clause-found c =
    let old : Reader = record { text = c.args.text; line = 0; written = c.told_boards.new.written } in
    found c.args.boards.now c.args.scripts.now c.args.text.now c.as_slice.result.now old c.read_clients.new.self
    c.in_ok-clients.clients (c.as_slice.ensures.value ∙ c.in_ok-told.ensures.greetings) refl refl c.read_boards.new.self
    c.in_ok-lines.lines c.in_ok-clients.ensures.shows c.in_ok-lines.ensures.shows c.in_ok-finish.ensures.done
