use Rattle.std.proofs.Common.{◌≡◌, subst, sym, arith}
use Rattle.std.proofs.lemmas.Grind.{common_steps}
use Rattle.access_policy.specs.ById.{IsRisingFrom}
use Rattle.access_policy.specs.Candidates.{candidates_from}
use Rattle.access_policy.proofs.FoundById.{candidates_rise}
use Rattle.access_policy.proofs.permitting.judge_of.Goals as goal

pub loop-i-preserved : goal.loop-i-preserved
loop-i-preserved c = grind (arith, common_steps)

pub of-requires : goal.of-requires
of-requires c =
    let meant = candidates_from 1 c.args.policy.now c.args.client c.args.board.now in
    let same : c.loop-i.items.items ≡ meant = grind (arith, common_steps) in
    subst (IsRisingFrom 1) (sym same) (candidates_rise 1 c.args.policy.now c.args.client c.args.board.now)

pub returns : goal.returns
returns c = grind (arith, common_steps)
