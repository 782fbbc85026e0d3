use Rattle.script_lang.proofs.TakenOut.{gone, others, unchanged}
use Rattle.script_lang.proofs.laws.a_key_taken_out_leaves_the_others.Goals as goal

pub returns-clause-others : goal.returns-clause-others
returns-clause-others c = others

pub returns-clause-gone : goal.returns-clause-gone
returns-clause-gone c = gone

pub returns-clause-unchanged : goal.returns-clause-unchanged
returns-clause-unchanged c = unchanged
