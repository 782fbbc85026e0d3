use Rattle.std.proofs.Common.{arith, append-nil}
use Rattle.std.proofs.lemmas.Grind.{common_steps}
use Rattle.std.proofs.lemmas.Option.{gets}
use Rattle.transcript.proofs.results.push_place.Goals as goal

pub returns-in_default : goal.returns-in_default
returns-in_default c = grind (arith, common_steps, gets, append-nil)

pub returns-in_ok-push-in-Some-place : goal.returns-in_ok-push-in-Some-place
returns-in_ok-push-in-Some-place c = grind (arith, common_steps, gets)

pub returns-in-None : goal.returns-in-None
returns-in-None c = grind (arith, common_steps, gets, append-nil)
