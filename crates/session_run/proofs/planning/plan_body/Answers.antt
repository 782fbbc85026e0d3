use Rattle.std.proofs.Common.{arith}
use Rattle.std.proofs.lemmas.Grind.{common_steps}
use Rattle.session_run.proofs.planning.plan_body.Goals as goal

pub returns-in_err-to_vec-clause-planned : goal.returns-in_err-to_vec-clause-planned
returns-in_err-to_vec-clause-planned g c = grind (arith, common_steps)

pub returns-in_err-to_vec-clause-unchanged : goal.returns-in_err-to_vec-clause-unchanged
returns-in_err-to_vec-clause-unchanged g c = grind (arith, common_steps)

pub reply_room-reply_words-requires : goal.reply_room-reply_words-requires
reply_room-reply_words-requires g c = grind (arith, common_steps)

pub plan-requires-clause-client : goal.plan-requires-clause-client
plan-requires-clause-client g c = grind (arith, common_steps)

pub plan-requires-clause-reply : goal.plan-requires-clause-reply
plan-requires-clause-reply g c = grind (arith, common_steps)

pub returns-in-Ok-clause-planned : goal.returns-in-Ok-clause-planned
returns-in-Ok-clause-planned g c = grind (arith, common_steps)

pub returns-in-Ok-clause-unchanged : goal.returns-in-Ok-clause-unchanged
returns-in-Ok-clause-unchanged g c = grind (arith, common_steps)

pub returns-in-Err-NoMemory-clause-planned : goal.returns-in-Err-NoMemory-clause-planned
returns-in-Err-NoMemory-clause-planned g c = grind (arith, common_steps)

pub returns-in-Err-NoMemory-clause-unchanged : goal.returns-in-Err-NoMemory-clause-unchanged
returns-in-Err-NoMemory-clause-unchanged g c = grind (arith, common_steps)
