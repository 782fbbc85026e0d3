use Rattle.std.proofs.Common.{arith}
use Rattle.capture_reader.proofs.Places.{no_status, status_greatest}
use Rattle.capture_reader.proofs.executed.shown_by_status.Goals as goal

pub returns : goal.returns
returns c =
    let status = c.in-Ok.status in
    status_greatest c.args.first c.args.sent c.last_place.result c.saturating_sub.result status.mtu status.buffers
    status.next c.args.bytes.now status.mtu_in_range status.buffers_in_range c.get-next.ensures.range c.in-Ok.ensures.found
    (λ mtu buffers next m b n told. (c.in-Ok.ensures.only mtu buffers next m b n told).2) c.last_place.ensures
    (omega (arith, c.saturating_sub.ensures))

pub returns-in_default : goal.returns-in_default
returns-in_default c = no_status c.args.first c.args.sent c.args.bytes.now c.in_default.ensures.only
