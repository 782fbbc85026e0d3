use Rattle.std.proofs.Common.{rules, ◌≡◌, true, false}
use Rattle.hub_session.proofs.Packets.{are_bytes, no_control}
use Rattle.hub_session.proofs.answering.read_control.Goals as goal

pub returns-else-eq-clause-read : goal.returns-else-eq-clause-read
returns-else-eq-clause-read c = no_control c.args.bytes.now (λ packet is.
    let found = c.reading_is_the_grammar.ensures.found c.args.bytes.now packet
    (are_bytes c.args.bytes.now (λ k. search rules)) is in
    let same = c.in-Err.ensures.only packet found.0 found.1 in
    let untrue : false ≡ true = rw same at c.if-eq.ensures in
    absurd cc)
