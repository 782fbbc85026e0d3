use Rattle.std.proofs.Common.{refl}
use Rattle.config_store.proofs.LineMeanings.{read_means, write_means}
use Rattle.config_store.proofs.laws.lines_mean_what_they_say.Goals as goal

pub returns-clause-read : goal.returns-clause-read
returns-clause-read c boards indexes i line b name r own at board word is =
    read_means boards indexes own i line b at board name r word is

pub returns-clause-write : goal.returns-clause-write
returns-clause-write c boards indexes i line b name r value own at board word is small fits =
    write_means boards indexes own i line b at board name r word is value small fits

pub returns-clause-between : goal.returns-clause-between
returns-clause-between c boards indexes line = refl
