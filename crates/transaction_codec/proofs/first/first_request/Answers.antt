use Rattle.transaction_codec.specs.First.{request_of}
use Rattle.transaction_codec.proofs.Steps.{words_fit}
use Rattle.transaction_codec.proofs.Transactions.{first_found, first_shorter, first_fault_is}
use Rattle.transaction_codec.proofs.Requests.{requests_read}
use Rattle.transaction_codec.proofs.first.first_request.Goals as goal

pub returns-clause-found : goal.returns-clause-found
returns-clause-found c = first_found requests_read request_of (λ first. first.rest.now) c.args.words.now
    c.request_by_rules.result (words_fit c.args.words.now c.type_inv.words) c.request_by_rules.ensures

pub returns-clause-shorter : goal.returns-clause-shorter
returns-clause-shorter c = first_shorter requests_read request_of (λ first. first.rest.now) c.args.words.now
    c.request_by_rules.result c.request_by_rules.ensures

pub returns-clause-refused : goal.returns-clause-refused
returns-clause-refused c = first_fault_is requests_read request_of (λ first. first.rest.now) c.args.words.now
    c.request_by_rules.result c.request_by_rules.ensures
