use Rattle.std.proofs.Common.{refl}
use Rattle.std.specs.Fmt.{digits}
use Rattle.script_lang.proofs.laws.paths_are_dotted.Goals as goal

pub returns : goal.returns
unfolding digits
returns c = refl
