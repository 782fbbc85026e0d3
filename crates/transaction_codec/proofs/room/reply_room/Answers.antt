use Rattle.std.proofs.Common.{◌≡◌, [], subst, sym, arith}
use Rattle.std.proofs.lemmas.List.{nil_from_length}
use Rattle.std.proofs.lemmas.Bool.Decides.{nat_tests}
use Rattle.transaction_codec.specs.First.{request_of, op_of}
use Rattle.transaction_codec.specs.Answer.{IsLongestAnswer}
use Rattle.transaction_codec.proofs.Longest.{longest_step, longest_nothing, longest_at_fault, longest_unique}
use Rattle.transaction_codec.proofs.Longest.{reply_room_longest, values_small}
use Rattle.transaction_codec.proofs.Steps.{words_fit}
use Rattle.transaction_codec.proofs.room.reply_room.Goals as goal

pub loop-rest-preserved : goal.loop-rest-preserved
loop-rest-preserved c =
    let first = c.in-Ok.first in
    let found = c.in-Ok.ensures.found in
    let few = values_small (op_of first.op) found.0.count in
    record {
      whole = λ more longest.
          let here = longest_step (request_of first) c.loop-rest.rest.now first.rest.now more found.0 found.1 longest in
          subst (IsLongestAnswer c.args.body.now) (omega (arith, c.values_done.ensures))
          (c.loop-rest.invariant.whole _ here);
      small = omega (arith, few, c.values_done.ensures, c.loop-rest.invariant.small, c.in-Ok.ensures.shorter);
    }

pub returns-in-Err-clause-longest : goal.returns-in-Err-clause-longest
returns-in-Err-clause-longest c = c.loop-rest.invariant.whole 1 (longest_at_fault c.loop-rest.rest.now _
    (grind (arith, nat_tests)) c.in-Err.ensures.exact)

pub returns-clause-longest : goal.returns-clause-longest
returns-clause-longest c =
    let none : c.loop-rest.rest.now ≡ [] = nil_from_length _ (grind (arith, nat_tests)) in
    let here = c.loop-rest.invariant.whole 0 (subst (λ words. IsLongestAnswer words 0) (sym none) longest_nothing) in
    subst (IsLongestAnswer c.args.body.now) (omega arith) here

pub returns-in-Err-clause-value : goal.returns-in-Err-clause-value
returns-in-Err-clause-value c =
    longest_unique c.args.body.now _ _ (returns-in-Err-clause-longest c) (reply_room_longest c.args.body.now
    (words_fit c.args.body.now c.type_inv.body))

pub returns-clause-value : goal.returns-clause-value
returns-clause-value c =
    longest_unique c.args.body.now _ _ (returns-clause-longest c) (reply_room_longest c.args.body.now
    (words_fit c.args.body.now c.type_inv.body))
