use Rattle.lossy_network.proofs.Tellings.{rises_by, send_faults, send_holds, send_keeps_number, send_passes}
use Rattle.lossy_network.proofs.Tellings.{send_unfaulted, sends}
use Rattle.lossy_network.proofs.telling.SimLinkLink.send.Goals as goal

pub returns-clause-sent : goal.returns-clause-sent
returns-clause-sent c =
    sends c.send.result c.args.bytes.now c.args.self.now c.send.new.self c.send.ensures.sent

pub returns-clause-faults : goal.returns-clause-faults
returns-clause-faults c = rises_by c.args.self.now.faults c.send.new.self.faults c.counts_fit.ensures.faults
    (send_faults c.send.result c.args.bytes.now c.args.self.now c.send.new.self (record {
      after = c.send.ensures.sent;
      fault = c.send.ensures.failed;
      no_memory = c.send.ensures.no_memory;
    }))

pub returns-clause-unfaulted : goal.returns-clause-unfaulted
returns-clause-unfaulted c = send_unfaulted c.send.result c.args.bytes.now c.args.self.now c.send.new.self (record {
  after = c.send.ensures.sent;
  fault = c.send.ensures.failed;
  no_memory = c.send.ensures.no_memory;
})

pub returns-clause-held : goal.returns-clause-held
returns-clause-held c =
    send_holds c.send.result c.args.bytes.now c.args.self.now c.send.new.self c.counts_fit.ensures.held (record {
      after = c.send.ensures.sent;
      fault = c.send.ensures.failed;
      no_memory = c.send.ensures.no_memory;
    })

pub returns-clause-traffic : goal.returns-clause-traffic
returns-clause-traffic c = send_passes c.send.result c.args.bytes.now c.args.self.now c.send.new.self (record {
  after = c.send.ensures.sent;
  fault = c.send.ensures.failed;
  no_memory = c.send.ensures.no_memory;
})

pub returns-clause-number : goal.returns-clause-number
returns-clause-number c =
    send_keeps_number c.send.result c.args.bytes.now c.args.self.now c.send.new.self (record {
      after = c.send.ensures.sent;
      fault = c.send.ensures.failed;
      no_memory = c.send.ensures.no_memory;
    })
