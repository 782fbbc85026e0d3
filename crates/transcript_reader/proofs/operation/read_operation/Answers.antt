use Rattle.std.proofs.Common.{◌≡◌, ℕ, List, ◌++◌, ap, ◌∙◌, arith}
use Rattle.std.proofs.lemmas.Grind.{common_steps}
use Rattle.script_steps.specs.Rulings.{Asked}
use Rattle.transcript.specs.Lines.{line_with, never_sent}
use Rattle.transcript.specs.Text.{asked_text}
use Rattle.transcript_reader.proofs.OperationLines.{front_of, looked_up, no_front, read_line}
use Rattle.ipb_base.proofs.FrontWords.{behind_found}
use Rattle.transcript_reader.proofs.operation.read_operation.Goals as goal

pub returns-in_default-behind : goal.returns-in_default-behind
returns-in_default-behind c shows can e =
    let ask : Asked = record { op = c.args.op.now; denied = c.args.denied } in
    let front : c.as_bytes.result.now ≡ front_of c.args.boards.now c.args.number ask =
    c.as_bytes.ensures.value
    ∙ (c.in_ok-push_asked.ensures
    ∙ (ap (λ (bytes : List ℕ). bytes ++ asked_text (line_with c.args.number c.args.op.now c.name_at.result.now never_sent))
    c.clear.ensures.bytes
    ∙ ap (λ (name : List ℕ). asked_text (line_with c.args.number c.args.op.now name never_sent)) c.name_at.ensures)) in
    no_front c.args.boards.now c.args.number ask c.args.line.now shows (rw front at c.in_default-behind.ensures) e

pub read_shown-requires-clause-room : goal.read_shown-requires-clause-room
read_shown-requires-clause-room c = grind (arith, common_steps)

pub returns : goal.returns
returns c =
    let ask : Asked = record { op = c.args.op.now; denied = c.args.denied } in
    let front : c.as_bytes.result.now ≡ front_of c.args.boards.now c.args.number ask =
    c.as_bytes.ensures.value
    ∙ (c.in_ok-push_asked.ensures
    ∙ (ap (λ (bytes : List ℕ). bytes ++ asked_text (line_with c.args.number c.args.op.now c.name_at.result.now never_sent))
    c.clear.ensures.bytes
    ∙ ap (λ (name : List ℕ). asked_text (line_with c.args.number c.args.op.now name never_sent)) c.name_at.ensures)) in
    read_line c.args.boards.now c.args.told.now c.args.number ask c.args.line.now c.in-Some-behind.text.now
    c.in-Some.told.now
    (looked_up c.args.told.now c.args.op.now.board c.in-Some.told.now c.in-Some.ensures.lookup.3.0
    c.in-Some.ensures.lookup.1)
    (behind_found _ c.args.line.now c.in-Some-behind.text.now (rw front at c.in-Some-behind.ensures))
    c.read_shown.result c.read_shown.ensures
