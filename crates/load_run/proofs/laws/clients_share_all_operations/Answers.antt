use Rattle.load_run.proofs.Shares.{all-shares}
use Rattle.load_run.proofs.laws.clients_share_all_operations.Goals as goal

pub returns : goal.returns
returns c = all-shares
