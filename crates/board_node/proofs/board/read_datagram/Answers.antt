use Rattle.std.proofs.Common.{rules, ◌≡◌, ◌∙◌, ap, true, false}
use Rattle.packet_codec.specs.Reading.{packet_of}
use Rattle.board_node.proofs.Lists.{are_bytes}
use Rattle.board_node.proofs.Reading.{said_by_packet, nothing_said}
use Rattle.board_node.proofs.board.read_datagram.Goals as goal

pub returns-in-Ok-clause-said : goal.returns-in-Ok-clause-said
returns-in-Ok-clause-said c =
    let found = c.in-Ok.ensures.found in
    said_by_packet c.args.bytes.now c.in-Ok.packet (ap packet_of found.1
    ∙ c.reading_is_the_grammar.ensures.again c.in-Ok.packet found.0)

pub returns-else-eq-clause-said : goal.returns-else-eq-clause-said
returns-else-eq-clause-said c = nothing_said c.args.bytes.now (λ packet is.
    let found = c.reading_is_the_grammar.ensures.found c.args.bytes.now packet
    (are_bytes c.args.bytes.now (λ k. search rules)) is in
    let same = c.in-Err.ensures.only packet found.0 found.1 in
    let untrue : false ≡ true = rw same at c.if-eq.ensures in
    absurd cc)
