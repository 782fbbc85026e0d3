use Rattle.std.proofs.Common.{arith}
use Rattle.std.proofs.lemmas.List.{nil_from_length}
use Rattle.std.proofs.lemmas.Bool.Decides.{nat_tests}
use Rattle.transaction_codec.specs.First.{reply_of}
use Rattle.transaction_codec.proofs.Formats.{replies_format}
use Rattle.capture_reader.proofs.AddedLines.{none_written, write_more, all_written, no_more_written}
use Rattle.capture_reader.proofs.texts.push_replies.Goals as goal

pub loop-rest-init : goal.loop-rest-init
loop-rest-init c = none_written c.args.words.now c.args.out.now.items

pub loop-rest-preserved : goal.loop-rest-preserved
loop-rest-preserved c =
    write_more _ _ (reply_of c.in-Ok.first) c.loop-rest.invariant c.in-Ok.ensures.found.0 c.in-Ok.ensures.found.1
    c.in_ok-push_reply-in-Ok.ensures

pub returns-in-Err : goal.returns-in-Err
returns-in-Err c =
    no_more_written replies_format c.loop-rest.invariant c.in-Err.field-0 (grind (arith, nat_tests)) c.in-Err.ensures.exact

pub returns : goal.returns
returns c = all_written c.loop-rest.invariant (nil_from_length _ (grind (arith, nat_tests)))
