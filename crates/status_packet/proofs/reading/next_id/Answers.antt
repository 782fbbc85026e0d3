use Rattle.std.proofs.Common.{arith, lit<}
use Rattle.status_packet.proofs.reading.next_id.Goals as goal

-- a word that is no packet header is not that of a control packet
pub returns-in_err-header-clause-none : goal.returns-in_err-header-clause-none
returns-in_err-header-clause-none c =
    rw c.from_residual.ensures
    (λ is. absurd (let same = c.in_err-header.ensures.only is.0 0 (omega (arith, is.1.up_to_end)) (lit< tt) is.2 in cc))
