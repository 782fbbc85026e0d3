use Rattle.std.proofs.Common.{arith}
use Rattle.world_model.proofs.Histories.{facts, in_window}
use Rattle.world_model.proofs.Patience.{run_steady}
use Rattle.world_model.proofs.laws.history.the_window_is_never_passed.Goals as goal

pub returns : goal.returns
returns c = λ window rounds board air moves w is.
    let below = c.laws_below.ensures in
    let steady = run_steady window rounds board air moves w is in
    omega (arith, in_window below w (facts below window rounds board air moves w is), steady.window_is)
