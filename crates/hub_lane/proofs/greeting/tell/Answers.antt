use Rattle.std.proofs.Common.{rules}
use Rattle.world_model.specs.Messages.{to_hub}
use Rattle.hub_lane.proofs.Listened.{are_bytes, says_none}
use Rattle.hub_lane.proofs.greeting.tell.Goals as goal

pub returns-in-Ok-clause-said : goal.returns-in-Ok-clause-said
returns-in-Ok-clause-said c =
    let s = c.in-Ok.status in
    (c.what_a_hub_reads.ensures.status c.args.bytes.now s.mtu s.buffers s.next
    (are_bytes c.args.bytes.now (λ k. search rules))).1
    (s.mtu_in_range, s.buffers_in_range, c.get-next.ensures.range, c.in-Ok.ensures.found)

pub returns-in-Err-clause-said : goal.returns-in-Err-clause-said
returns-in-Err-clause-said c =
    let bytes = c.args.bytes.now in
    says_none (to_hub bytes) (λ mtu buffers next said.
    let told = (c.what_a_hub_reads.ensures.status bytes mtu buffers next
    (are_bytes bytes (λ k. search rules))).0 said in
    c.in-Err.ensures.only mtu buffers next told.0 told.1 told.2 told.3)
