use Rattle.reply_join.proofs.Parts.{has_request, rest_is_body}
use Rattle.transaction_codec.specs.First.{request_of}
use Rattle.reply_join.proofs.joining.next_request.Goals as goal

pub unreachable-requires : goal.unreachable-requires
unreachable-requires c = has_request c.args.body.now c.requires.body _ c.requires.some c.in_default.ensures.exact

pub returns-clause-rest : goal.returns-clause-rest
returns-clause-rest c =
    let first = c.in-Ok.first in
    let found = c.in-Ok.ensures.found in
    rest_is_body c.args.body.now c.requires.body (request_of first) first.rest.now found.0 found.1
