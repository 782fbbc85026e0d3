use Rattle.std.proofs.Common.{◌≤◌, ◌++◌, ◌∷◌, [], List, length, sym, ap, ◌∙◌, append_assoc, arith}
use Rattle.std.proofs.lemmas.Bool.Decides.{nat_tests}
use Rattle.std.proofs.lemmas.List.{append-nil}
use Rattle.transaction_codec.specs.First.{request_of}
use Rattle.reply_join.specs.declared.answer.Answer.{Answer}
use Rattle.reply_join.specs.declared.answer.Answer.TheVariants.{Skipped}
use Rattle.reply_join.proofs.Joined.{skipped_more, none_skipped}
use Rattle.reply_join.proofs.joining.skip.Goals as goal

pub loop-rest-preserved : goal.loop-rest-preserved
loop-rest-preserved c =
    let request = c.next_request in
    record {
      body = request.ensures.rest;
      skipped = λ later skipped.
          let whole = c.loop-rest.invariant.skipped (Skipped ∷ later) (skipped_more (request_of request.result)
          c.loop-rest.rest.now request.result.rest.now later request.ensures.is request.ensures.parts skipped) in (
            whole.0,
            whole.1,
            ap (λ (front : List Answer). front ++ later) c.in_ok-push.ensures.ok
                ∙ append_assoc c.loop-rest.answers.items (Skipped ∷ []) later ∙ whole.2,
          );
    }

pub returns : goal.returns
returns c =
    let none : length c.loop-rest.rest.now ≤ 0 = grind (arith, nat_tests) in
    let whole = c.loop-rest.invariant.skipped [] (none_skipped c.loop-rest.rest.now none) in
    (whole.0, whole.1, sym (append-nil c.loop-rest.answers.items) ∙ whole.2)
