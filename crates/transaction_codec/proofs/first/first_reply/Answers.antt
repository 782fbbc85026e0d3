use Rattle.transaction_codec.specs.First.{reply_of}
use Rattle.transaction_codec.proofs.Steps.{words_fit}
use Rattle.transaction_codec.proofs.Transactions.{first_found, first_shorter, first_fault_is}
use Rattle.transaction_codec.proofs.Replies.{replies_read}
use Rattle.transaction_codec.proofs.first.first_reply.Goals as goal

pub returns-clause-found : goal.returns-clause-found
returns-clause-found c = first_found replies_read reply_of (λ first. first.rest.now) c.args.words.now
    c.reply_by_rules.result (words_fit c.args.words.now c.type_inv.words) c.reply_by_rules.ensures

pub returns-clause-shorter : goal.returns-clause-shorter
returns-clause-shorter c = first_shorter replies_read reply_of (λ first. first.rest.now) c.args.words.now
    c.reply_by_rules.result c.reply_by_rules.ensures

pub returns-clause-refused : goal.returns-clause-refused
returns-clause-refused c = first_fault_is replies_read reply_of (λ first. first.rest.now) c.args.words.now
    c.reply_by_rules.result c.reply_by_rules.ensures
