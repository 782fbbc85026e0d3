use Rattle.std.proofs.Common.{arith, ap, sym, Err}
use Rattle.ipb_base.proofs.WordLemmas.{AreWords-at}
use Rattle.transcript.proofs.body_end.answers_in.Goals as goal

pub returns-in-Ok : goal.returns-in-Ok
returns-in-Ok c =
    let body = AreWords-at c.args.body.now (λ i. omega (arith, c.type_inv.body i)) in
    let words = AreWords-at c.args.words.now (λ i. omega (arith, c.type_inv.words i)) in
    let law = c.joining_is_a_function.ensures.joined c.args.body.now c.args.words.now c.in-Ok.list body words in
    sym (law.0 c.in-Ok.ensures.joined)

pub returns-in-Err-Garbled : goal.returns-in-Err-Garbled
returns-in-Err-Garbled c =
    let body = AreWords-at c.args.body.now (λ i. omega (arith, c.type_inv.body i)) in
    let words = AreWords-at c.args.words.now (λ i. omega (arith, c.type_inv.words i)) in
    let at = c.in-Err-Garbled.ensures.garbled c.in-Err-Garbled.field-0-0 (ap Err c.in-Err-Garbled.field-0-is) in
    let law = c.joining_is_a_function.ensures.garbled c.args.body.now c.args.words.now _ body words at in
    rw law
