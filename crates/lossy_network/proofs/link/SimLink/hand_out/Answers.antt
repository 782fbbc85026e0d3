use Rattle.std.proofs.Common.{◌≤◌, ◌∙◌, sym, ap, subst, List, ℕ, length}
use Rattle.links.specs.declared.link.TheConstants.{MAX_DATAGRAM}
use Rattle.lossy_network.specs.Network.{Network, front}
use Rattle.lossy_network.specs.Inside.{IsShort, network_of, stands}
use Rattle.lossy_network.proofs.Hearing.{all_at, hub_bytes_none}
use Rattle.lossy_network.proofs.Fronts.{nothing_left}
use Rattle.lossy_network.proofs.link.SimLink.hand_out.Goals as goal

pub unreachable-requires : goal.unreachable-requires
unreachable-requires c =
    let i = c.self.inside in
    let found = c.in-Some.ensures.some in
    nothing_left (network_of i) c.in-Some.place found.0 found.1
    (hub_bytes_none i.air c.in-Some.place c.in_default-for_hub.ensures.none)
    (ap (λ (net : Network). stands (front net)) c.self.view_is ∙ c.requires.stands)

pub returns-clause-short : goal.returns-clause-short
returns-clause-short c =
    let i = c.self.inside in
    let there = c.in-Some-for_hub.ensures.some in
    let short = all_at IsShort i.air.air c.in-Some.place _ c.self.invariant.short there.there in
    subst (λ (xs : List ℕ). length xs ≤ MAX_DATAGRAM) (sym c.in_ok-hand_over.ensures.bytes) short
