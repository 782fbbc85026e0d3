use Rattle.std.proofs.Common.{◌≤◌, ℕ, subst, sym}
use Rattle.lossy_network.proofs.Tellings.{AreCounts, IsReceipt, ReceiveSteps, carried, counts, gots_rise, held_rises}
use Rattle.lossy_network.proofs.Tellings.{quiets_rise, receives, rises_by}
use Rattle.lossy_network.proofs.telling.SimLinkLink.receive.Goals as goal

-- what the receive says, the steps of one, and its counts
receipt : (c : goal.After-receive)
    → IsReceipt c.receive.result c.receive.new.into.items c.args.self.now c.receive.new.self
receipt c = record {
  after = c.receive.ensures.received;
  answer = c.receive.ensures.answer;
  bytes_are = c.receive.ensures.bytes;
  fault = c.receive.ensures.failed;
  no_memory = c.receive.ensures.no_memory;
}

steps : goal.After-receive → ReceiveSteps
steps c = record {
  nothing = c.a_receive_goes_step_by_step.ensures.nothing;
  one_heard = c.a_receive_goes_step_by_step.ensures.heard;
  given_up = c.a_receive_goes_step_by_step.ensures.given_up;
  handed = c.a_receive_goes_step_by_step.ensures.handed_out;
  one_then = c.a_receive_goes_step_by_step.ensures.then;
}

counted : (c : goal.After-receive)
    → AreCounts c.receive.result c.receive.new.into.items c.args.self.now c.receive.new.self
counted c = counts c.receive.result c.receive.new.into.items c.args.self.now c.receive.new.self (receipt c)

pub returns-clause-datagram : goal.returns-clause-datagram
returns-clause-datagram c = carried c.receive.result c.receive.new.into.items c.args.self.now c.receive.new.self
    (receipt c) c.receive.ensures.short c.receive.ensures.empty

pub returns-clause-received : goal.returns-clause-received
returns-clause-received c = receives (steps c) c.receive.result c.receive.new.into.items c.args.self.now
    c.receive.new.self c.counts_fit.ensures.held (receipt c)

pub returns-clause-faults : goal.returns-clause-faults
returns-clause-faults c =
    rises_by c.args.self.now.faults c.receive.new.self.faults c.counts_fit.ensures.faults (counted c).faults

pub returns-clause-unfaulted : goal.returns-clause-unfaulted
returns-clause-unfaulted c = (counted c).unfaulted

pub returns-clause-quiets : goal.returns-clause-quiets
returns-clause-quiets c = (counted c).quiets

pub returns-clause-quiets_rise : goal.returns-clause-quiets_rise
returns-clause-quiets_rise c = subst (λ (n : ℕ). c.args.self.now.quiets ≤ n) (sym (counted c).quiets)
    (quiets_rise c.receive.result c.args.self.now.quiets c.counts_fit.ensures.quiets)

pub returns-clause-gots : goal.returns-clause-gots
returns-clause-gots c = (counted c).gots

pub returns-clause-gots_rise : goal.returns-clause-gots_rise
returns-clause-gots_rise c = subst (λ (n : ℕ). c.args.self.now.gots ≤ n) (sym (counted c).gots)
    (gots_rise c.receive.result c.args.self.now.gots c.counts_fit.ensures.gots)

pub returns-clause-traffic : goal.returns-clause-traffic
returns-clause-traffic c = (counted c).passed

pub returns-clause-number : goal.returns-clause-number
returns-clause-number c = (counted c).number

pub returns-clause-held : goal.returns-clause-held
returns-clause-held c = held_rises (steps c) c.receive.result c.receive.new.into.items c.args.self.now
    c.receive.new.self c.counts_fit.ensures.held (receipt c)
