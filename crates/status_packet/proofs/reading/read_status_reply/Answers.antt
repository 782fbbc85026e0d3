use Rattle.std.proofs.Common.{rules, tests}
use Rattle.status_packet.specs.StatusBytes.{IsStatusRequest}
use Rattle.status_packet.proofs.StatusLemmas.{found, only, range}
use Rattle.status_packet.proofs.reading.read_status_reply.Goals as goal

pub returns-clause-found : goal.returns-clause-found
returns-clause-found c =
    let is : IsStatusRequest c.args.bytes.now = search (rules, tests) in
    rw c.ok_or.ensures.value (found c.args.bytes.now c.type_inv.bytes is c.word_at.result c.word_at-2.result
    c.word_at-3.result c.word_at.ensures c.word_at-2.ensures c.word_at-3.ensures
    c.status_of.result c.status_of.ensures.mtu c.status_of.ensures.buffers c.status_of.ensures.next
    c.status_of.ensures.none)

pub returns-clause-only : goal.returns-clause-only
returns-clause-only c =
    let is : IsStatusRequest c.args.bytes.now = search (rules, tests) in
    rw c.ok_or.ensures.value (only c.args.bytes.now c.type_inv.bytes is c.word_at.result c.word_at-2.result
    c.word_at-3.result c.word_at.ensures c.word_at-2.ensures c.word_at-3.ensures
    c.status_of.result c.status_of.ensures.mtu c.status_of.ensures.buffers c.status_of.ensures.next
    c.status_of.ensures.none)

pub returns-clause-range : goal.returns-clause-range
returns-clause-range c =
    let is : IsStatusRequest c.args.bytes.now = search (rules, tests) in
    rw c.ok_or.ensures.value (range c.args.bytes.now c.type_inv.bytes is c.word_at.result c.word_at-2.result
    c.word_at-3.result c.word_at.ensures c.word_at-2.ensures c.word_at-3.ensures
    c.status_of.result c.status_of.ensures.mtu c.status_of.ensures.buffers c.status_of.ensures.next
    c.status_of.ensures.none)
