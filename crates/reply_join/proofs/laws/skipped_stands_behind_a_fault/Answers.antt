use Rattle.reply_join.proofs.EachAnswer.{skipped_behind, behind_skipped}
use Rattle.reply_join.proofs.laws.skipped_stands_behind_a_fault.Goals as goal

pub returns : goal.returns
returns c body reply answers i answer joined here =
    (skipped_behind body reply answers i answer joined here, behind_skipped body reply answers i answer joined here)
