use Rattle.std.proofs.Common.{◌≡◌, List, ◌++◌, length}
use Rattle.reply_join.specs.declared.answer.Answer.{Answer}
use Rattle.transaction_codec.specs.Request.{SpellsRequests}
use Rattle.reply_join.specs.Progress.{AreSkipped}
use Rattle.reply_join.proofs.joining.skip.Given as goal

-- what skips the requests that are left skips all of them
abbrev pub invariant-loop-rest : goal.invariant-loop-rest
invariant-loop-rest l = record {
  body : SpellsRequests l.rest;
  skipped : (later : List Answer) → AreSkipped l.rest later → (more : List Answer) × AreSkipped l.requests more
      × (l.answers.items ++ later ≡ l.initial.answers.items ++ more);
}

abbrev pub decreases-loop-rest : goal.decreases-loop-rest
decreases-loop-rest l = length l.rest
