use Rattle.std.proofs.Common.{◌++◌, ◌∙◌, List, ℕ, Option, ap, refl, sym, slice_get}
use Rattle.reply_join.specs.declared.answer.Answer.{Answer}
use Rattle.transcript.specs.Ends.{answer_result}
use Rattle.transcript.specs.Results.{values_in}
use Rattle.transcript.specs.Steps.{not_done_in}
use Rattle.transcript.proofs.PiecesSoFar.{answer_at, no_words}
use Rattle.transcript.proofs.results.answer_fault.Goals as goal

pub returns-in_ok-extend_from_slice-in-Some-Values-clause-fault :
    goal.returns-in_ok-extend_from_slice-in-Some-Values-clause-fault
returns-in_ok-extend_from_slice-in-Some-Values-clause-fault c =
    let found = c.in-Some-Values in
    sym (ap (λ (r : Option Answer). not_done_in (answer_result r)) (answer_at c.args.answers.now c.args.index
    found.field-0.now _ found.ensures.lookup.3.0 found.ensures.lookup.1 found.field-0-is))

pub returns-in_ok-extend_from_slice-in-Some-Values-clause-values :
    goal.returns-in_ok-extend_from_slice-in-Some-Values-clause-values
returns-in_ok-extend_from_slice-in-Some-Values-clause-values c =
    let found = c.in-Some-Values in
    let words = c.args.words.now.items in
    c.in_ok-extend_from_slice-in-Some-Values.ensures.items
    ∙ (ap (λ (more : List ℕ). words ++ more) c.as_slice.ensures
    ∙ ap (λ (r : Option Answer). words ++ values_in (answer_result r)) (sym (answer_at c.args.answers.now c.args.index
    found.field-0.now _ found.ensures.lookup.3.0 found.ensures.lookup.1 found.field-0-is)))

pub returns-in-Some-Done-clause-fault : goal.returns-in-Some-Done-clause-fault
returns-in-Some-Done-clause-fault c =
    let found = c.in-Some-Done in
    sym (ap (λ (r : Option Answer). not_done_in (answer_result r)) (answer_at c.args.answers.now c.args.index
    found.field-0.now _ found.ensures.lookup.3.0 found.ensures.lookup.1 found.field-0-is))

pub returns-in-Some-Done-clause-values : goal.returns-in-Some-Done-clause-values
returns-in-Some-Done-clause-values c =
    let found = c.in-Some-Done in
    no_words c.args.words.now.items (answer_result (slice_get c.args.answers.now c.args.index)) _
    (ap answer_result (answer_at c.args.answers.now c.args.index found.field-0.now _ found.ensures.lookup.3.0
    found.ensures.lookup.1 found.field-0-is)) refl

pub returns-in-Some-Fault-clause-fault : goal.returns-in-Some-Fault-clause-fault
returns-in-Some-Fault-clause-fault c =
    let found = c.in-Some-Fault in
    sym (ap (λ (r : Option Answer). not_done_in (answer_result r)) (answer_at c.args.answers.now c.args.index
    found.field-0.now _ found.ensures.lookup.3.0 found.ensures.lookup.1 found.field-0-is))

pub returns-in-Some-Fault-clause-values : goal.returns-in-Some-Fault-clause-values
returns-in-Some-Fault-clause-values c =
    let found = c.in-Some-Fault in
    no_words c.args.words.now.items (answer_result (slice_get c.args.answers.now c.args.index)) _
    (ap answer_result (answer_at c.args.answers.now c.args.index found.field-0.now _ found.ensures.lookup.3.0
    found.ensures.lookup.1 found.field-0-is)) refl

pub returns-in-Some-Skipped-clause-fault : goal.returns-in-Some-Skipped-clause-fault
returns-in-Some-Skipped-clause-fault c =
    let found = c.in-Some-Skipped in
    sym (ap (λ (r : Option Answer). not_done_in (answer_result r)) (answer_at c.args.answers.now c.args.index
    found.field-0.now _ found.ensures.lookup.3.0 found.ensures.lookup.1 found.field-0-is))

pub returns-in-Some-Skipped-clause-values : goal.returns-in-Some-Skipped-clause-values
returns-in-Some-Skipped-clause-values c =
    let found = c.in-Some-Skipped in
    no_words c.args.words.now.items (answer_result (slice_get c.args.answers.now c.args.index)) _
    (ap answer_result (answer_at c.args.answers.now c.args.index found.field-0.now _ found.ensures.lookup.3.0
    found.ensures.lookup.1 found.field-0-is)) refl
