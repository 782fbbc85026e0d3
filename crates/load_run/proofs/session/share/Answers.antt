use Rattle.std.proofs.Common.{sym}
use Rattle.load_run.proofs.Shares.{share-is}
use Rattle.load_run.proofs.session.share.Goals as goal

pub returns-clause-share : goal.returns-clause-share
returns-clause-share c = sym (share-is c.args.count c.args.client c.requires.client)
