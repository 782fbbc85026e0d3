use Rattle.reply_join.proofs.Refusals.{garbled_at, refused_at}
use Rattle.reply_join.proofs.joining.join_reply.Goals as goal

pub returns-clause-garbled : goal.returns-clause-garbled
returns-clause-garbled c =
    garbled_at c.args.body.now c.args.reply.now c.join_by_requests.result c.join_by_requests.ensures.refused

pub returns-clause-refused : goal.returns-clause-refused
returns-clause-refused c =
    refused_at (λ answers. answers) c.args.body.now c.args.reply.now c.join_by_requests.result
    c.join_by_requests.ensures.joined c.join_by_requests.ensures.refused
