use Rattle.reliable_engine.specs.ToldFates.{all_fates}
use Rattle.reliable_engine.proofs.AllFates.{all_stand, fate_waits, handed_first, stands_among}
use Rattle.reliable_engine.proofs.laws.a_fate_never_changes.Goals as goal

pub returns-clause-in_order : goal.returns-clause-in_order
returns-clause-in_order c = all_stand

pub returns-clause-among : goal.returns-clause-among
returns-clause-among c = λ hub events more tag fate is.
    stands_among (tag, fate) (all_fates hub events) _ (all_stand hub events more) is

pub returns-clause-handed_out : goal.returns-clause-handed_out
returns-clause-handed_out c = handed_first

pub returns-clause-waits : goal.returns-clause-waits
returns-clause-waits c = λ hub events tag fate none is. fate_waits hub events (tag, fate) none is
