use Rattle.config_store.proofs.KeptMeaning.{is_kept_so, so_is_kept}
use Rattle.config_store.proofs.laws.a_register_is_kept_by_what_it_is.Goals as goal

pub returns : goal.returns
returns c index name r = (is_kept_so index name r, so_is_kept index name r)
