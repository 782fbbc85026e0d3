use Rattle.links.proofs.Sends.{short_send}
use Rattle.links.proofs.sending.append_sending.Goals as goal

pub returns-in-Control-clause-short : goal.returns-in-Control-clause-short
returns-in-Control-clause-short c = short_send c.args.hub.now c.args.send c.requires
