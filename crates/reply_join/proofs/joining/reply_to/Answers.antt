use Rattle.std.proofs.Common.{◌-◌, length, take, drop, get_or, arith}
use Rattle.transaction_codec.specs.First.{request_of}
use Rattle.transaction_codec.proofs.Steps.{words_fit}
use Rattle.reply_join.proofs.Headers.{first_and_rest, to_its_end, found_of, short_of_slice}
use Rattle.reply_join.proofs.Parts.{no_words_short}
use Rattle.reply_join.proofs.joining.reply_to.Goals as goal

pub returns-in_default-clause-none : goal.returns-in_default-clause-none
returns-in_default-clause-none c = no_words_short (request_of c.args.request.now) c.args.words.now c.requires
    c.in_default.len_below

pub returns-then-after-carried-clause-none : goal.returns-then-after-carried-clause-none
returns-then-after-carried-clause-none c =
    let words = c.args.words.now in
    let outcome = c.in-Some.outcome in
    short_of_slice (request_of c.args.request.now) words (take (length words - 1) (drop 1 words)) (get_or words 0 0)
    outcome.count outcome.code c.values_after-carried.result c.requires
    (words_fit words c.type_inv.words) (first_and_rest words (omega (arith, c.in-len1-up.len_at_least)))
    c.in-Some.ensures c.values_after-carried.ensures c.if-after-carried.true

pub returns-clause-found : goal.returns-clause-found
returns-clause-found c =
    let words = c.args.words.now in
    let after = take (length words - 1) (drop 1 words) in
    let outcome = c.in-Some.outcome in
    let n = c.values_after-carried.result in
    found_of (request_of c.args.request.now) words after (take (length after - n) (drop n after)) (get_or words 0 0)
    outcome.count outcome.code c.kind.result n c.requires
    (words_fit words c.type_inv.words) (first_and_rest words (omega (arith, c.in-len1-up.len_at_least)))
    c.in-Some.ensures c.kind.ensures.value c.values_after-carried.ensures
    c.if-after-carried.false (to_its_end n after)
