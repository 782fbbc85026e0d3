use Rattle.std.proofs.Common.{◌≡◌, ◌<◌, length, arith}
use Rattle.std.proofs.lemmas.Bool.Decides.{nat_tests}
use Rattle.transaction_codec.specs.First.{request_of, reply_of}
use Rattle.reply_join.proofs.Headers.{kind_is}
use Rattle.reply_join.proofs.Steps.{underway_at_first, answer_pushed, step, none_at, words_left, all_joined, joined_is}
use Rattle.reply_join.proofs.joining.join_by_requests.Goals as goal

pub loop-asked-init : goal.loop-asked-init
loop-asked-init c = underway_at_first c.args.body.now c.args.reply.now c.new-answers.result.items c.requires
    c.new-answers.ensures.items

pub loop-asked-preserved : goal.loop-asked-preserved
loop-asked-preserved c =
    let request = c.next_request-request in
    let first = c.in-Ok.first in
    let pushed = answer_pushed c.loop-asked.answers.items c.push.new.self.items _ _ c.in_ok-push-in-Ok.ensures.ok
    c.in_ok-answer_of-in-Ok.ensures in
    step c.args.body.now c.args.reply.now c.loop-asked.asked.now c.loop-asked.rest.now request.result.rest.now
    first.rest.now c.loop-asked.answers.items (request_of request.result) (reply_of first)
    c.loop-asked.invariant request.ensures.is c.in-Ok.ensures.found.0 request.ensures.parts c.in-Ok.ensures.found.1
    c.push.new.self.items c.skip_behind_fault.new.answers.items c.in_ok-asked-in-Ok.asked.now pushed
    request.ensures.rest
    c.in_ok-asked-in-Ok.ensures

pub answer_of-requires : goal.answer_of-requires
answer_of-requires c = kind_is (request_of c.next_request-request.result) (reply_of c.in-Ok.first)
    c.in-Ok.ensures.found.0

pub returns-in-Err-clause-refused : goal.returns-in-Err-clause-refused
returns-in-Err-clause-refused c =
    let request = c.next_request-request in
    rw c.refusal_at.ensures (none_at c.args.body.now c.args.reply.now c.loop-asked.asked.now c.loop-asked.rest.now
    request.result.rest.now c.in-Err.why c.loop-asked.answers.items
    (request_of request.result) c.loop-asked.invariant request.ensures.is request.ensures.parts request.ensures.rest
    c.in-Err.ensures.none)

pub returns-in-Err-clause-only : goal.returns-in-Err-clause-only
returns-in-Err-clause-only c is =
    let garbled = rw c.refusal_at.ensures at (returns-in-Err-clause-refused c) in
    absurd (garbled.is_none is)

pub returns-then-not-is_empty-clause-refused : goal.returns-then-not-is_empty-clause-refused
returns-then-not-is_empty-clause-refused c =
    let none : length c.loop-asked.asked.now ≡ 0 = grind (arith, nat_tests) in
    let some : 0 < length c.loop-asked.rest.now = grind (arith, nat_tests) in
    rw c.refusal_at-then-not-is_empty.ensures (words_left c.args.body.now c.args.reply.now c.loop-asked.asked.now
    c.loop-asked.rest.now c.loop-asked.answers.items c.loop-asked.invariant none some)

pub returns-then-not-is_empty-clause-only : goal.returns-then-not-is_empty-clause-only
returns-then-not-is_empty-clause-only c is =
    let garbled = rw c.refusal_at-then-not-is_empty.ensures at (returns-then-not-is_empty-clause-refused c) in
    absurd (garbled.is_none is)

pub returns-clause-joined : goal.returns-clause-joined
returns-clause-joined c =
    let none : length c.loop-asked.asked.now ≡ 0 = grind (arith, nat_tests) in
    let over : length c.loop-asked.rest.now ≡ 0 = grind (arith, nat_tests) in
    all_joined c.args.body.now c.args.reply.now c.loop-asked.asked.now c.loop-asked.rest.now
    c.loop-asked.answers.items c.loop-asked.invariant none over

pub returns-clause-only : goal.returns-clause-only
returns-clause-only c is = joined_is c.args.body.now c.args.reply.now c.loop-asked.answers.items
    (returns-clause-joined c) is
