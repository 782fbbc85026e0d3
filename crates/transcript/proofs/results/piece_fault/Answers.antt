use Rattle.std.proofs.Common.{◌≡◌, ◌++◌, ◌∙◌, List, Option, Some, ap, refl, slice_get, subst, sym}
use Rattle.std.specs.Option.{option_map}
use Rattle.std.specs.Prelude.{IfOk, OnOk}
use Rattle.reply_join.specs.declared.answer.Answer.{Answer}
use Rattle.transcript.specs.declared.line.LateAnswer.{LateAnswer}
use Rattle.transcript.specs.declared.line.OpResult.{OpResult}
use Rattle.transcript.specs.declared.line.OpResult.TheVariants.{Late}
use Rattle.transcript.specs.Ends.{answer_result, piece_result}
use Rattle.transcript.specs.Results.{shown_not_done, values_in}
use Rattle.transcript.specs.Steps.{not_done_in}
use Rattle.transcript.proofs.LatePieces.{in_time}
use Rattle.transcript.proofs.PiecesSoFar.{end_at, fault_at, no_words}
use Rattle.transcript.proofs.results.piece_fault.Goals as goal

pub returns-in-Answered-clause-fault : goal.returns-in-Answered-clause-fault
returns-in-Answered-clause-fault c =
    let same : answer_result (slice_get c.as_slice.result.now c.args.piece.index)
    ≡ piece_result c.args.ends.now c.args.piece =
    ap (λ (list : List Answer). answer_result (slice_get list c.args.piece.index)) c.as_slice.ensures
    ∙ sym (end_at c.args.ends.now c.args.piece.body c.args.piece.index c.in-Some.end.now _ c.in-Some.ensures.lookup.3.0
    c.in-Some.ensures.lookup.1 c.in-Answered.is) in
    let op = c.args.op.now in
    let shown = sym (in_time op.verb op.mask (slice_get c.as_slice.result.now c.args.piece.index))
    ∙ ap (λ (r : OpResult). option_map (shown_not_done op.verb op.mask) (not_done_in r)) same in
    subst (λ (o : Option OpResult). IfOk c.answer_fault.result (λ fault. fault ≡ o)) shown c.answer_fault.ensures.fault

pub returns-in-Answered-clause-values : goal.returns-in-Answered-clause-values
returns-in-Answered-clause-values c =
    let same : answer_result (slice_get c.as_slice.result.now c.args.piece.index)
    ≡ piece_result c.args.ends.now c.args.piece =
    ap (λ (list : List Answer). answer_result (slice_get list c.args.piece.index)) c.as_slice.ensures
    ∙ sym (end_at c.args.ends.now c.args.piece.body c.args.piece.index c.in-Some.end.now _ c.in-Some.ensures.lookup.3.0
    c.in-Some.ensures.lookup.1 c.in-Answered.is) in
    subst (λ (r : OpResult). OnOk c.answer_fault.result
    (c.answer_fault.new.words.items ≡ c.args.words.now.items ++ values_in r)) same c.answer_fault.ensures.values

pub returns-in-Garbled-clause-fault : goal.returns-in-Garbled-clause-fault
returns-in-Garbled-clause-fault c =
    sym (fault_at c.args.op.now.verb c.args.op.now.mask c.args.ends.now c.args.piece.body c.args.piece.index
    c.in-Some.end.now _ c.in-Some.ensures.lookup.3.0 c.in-Some.ensures.lookup.1 c.in-Garbled.is)

pub returns-in-Garbled-clause-values : goal.returns-in-Garbled-clause-values
returns-in-Garbled-clause-values c =
    no_words c.args.words.now.items (piece_result c.args.ends.now c.args.piece) _
    (end_at c.args.ends.now c.args.piece.body c.args.piece.index c.in-Some.end.now _ c.in-Some.ensures.lookup.3.0
    c.in-Some.ensures.lookup.1 c.in-Garbled.is) refl

pub returns-in-TimedOut-clause-fault : goal.returns-in-TimedOut-clause-fault
returns-in-TimedOut-clause-fault c =
    sym (fault_at c.args.op.now.verb c.args.op.now.mask c.args.ends.now c.args.piece.body c.args.piece.index
    c.in-Some.end.now _ c.in-Some.ensures.lookup.3.0 c.in-Some.ensures.lookup.1 c.in-TimedOut.is)

pub returns-in-TimedOut-clause-values : goal.returns-in-TimedOut-clause-values
returns-in-TimedOut-clause-values c =
    no_words c.args.words.now.items (piece_result c.args.ends.now c.args.piece) _
    (end_at c.args.ends.now c.args.piece.body c.args.piece.index c.in-Some.end.now _ c.in-Some.ensures.lookup.3.0
    c.in-Some.ensures.lookup.1 c.in-TimedOut.is) refl

pub returns-in-Unsent-clause-fault : goal.returns-in-Unsent-clause-fault
returns-in-Unsent-clause-fault c =
    sym (fault_at c.args.op.now.verb c.args.op.now.mask c.args.ends.now c.args.piece.body c.args.piece.index
    c.in-Some.end.now _ c.in-Some.ensures.lookup.3.0 c.in-Some.ensures.lookup.1 c.in-Unsent.is)

pub returns-in-Unsent-clause-values : goal.returns-in-Unsent-clause-values
returns-in-Unsent-clause-values c =
    no_words c.args.words.now.items (piece_result c.args.ends.now c.args.piece) _
    (end_at c.args.ends.now c.args.piece.body c.args.piece.index c.in-Some.end.now _ c.in-Some.ensures.lookup.3.0
    c.in-Some.ensures.lookup.1 c.in-Unsent.is) refl

pub returns-in-LinkLost-clause-fault : goal.returns-in-LinkLost-clause-fault
returns-in-LinkLost-clause-fault c =
    sym (fault_at c.args.op.now.verb c.args.op.now.mask c.args.ends.now c.args.piece.body c.args.piece.index
    c.in-Some.end.now _ c.in-Some.ensures.lookup.3.0 c.in-Some.ensures.lookup.1 c.in-LinkLost.is)

pub returns-in-LinkLost-clause-values : goal.returns-in-LinkLost-clause-values
returns-in-LinkLost-clause-values c =
    no_words c.args.words.now.items (piece_result c.args.ends.now c.args.piece) _
    (end_at c.args.ends.now c.args.piece.body c.args.piece.index c.in-Some.end.now _ c.in-Some.ensures.lookup.3.0
    c.in-Some.ensures.lookup.1 c.in-LinkLost.is) refl

pub returns-in_ok-shown_late-in-Late-clause-fault : goal.returns-in_ok-shown_late-in-Late-clause-fault
returns-in_ok-shown_late-in-Late-clause-fault c =
    ap (λ (answer' : LateAnswer). Some (Late c.in-Late.rounds answer')) c.in_ok-shown_late-in-Late.ensures
    ∙ sym (fault_at c.args.op.now.verb c.args.op.now.mask c.args.ends.now c.args.piece.body c.args.piece.index
    c.in-Some.end.now _ c.in-Some.ensures.lookup.3.0 c.in-Some.ensures.lookup.1 c.in-Late.is)

pub returns-in_ok-shown_late-in-Late-clause-values : goal.returns-in_ok-shown_late-in-Late-clause-values
returns-in_ok-shown_late-in-Late-clause-values c =
    no_words c.args.words.now.items (piece_result c.args.ends.now c.args.piece) _
    (end_at c.args.ends.now c.args.piece.body c.args.piece.index c.in-Some.end.now _ c.in-Some.ensures.lookup.3.0
    c.in-Some.ensures.lookup.1 c.in-Late.is) refl
