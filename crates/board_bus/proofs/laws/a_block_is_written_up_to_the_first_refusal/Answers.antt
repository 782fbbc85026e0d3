use Rattle.std.proofs.Common.{refl}
use Rattle.board_bus.proofs.Writes.{block_written}
use Rattle.board_bus.proofs.laws.a_block_is_written_up_to_the_first_refusal.Goals as goal

pub returns-clause-written : goal.returns-clause-written
returns-clause-written c =
    λ cells base place words cell below there. (block_written words cells base).written place _ cell refl below there

pub returns-clause-elsewhere : goal.returns-clause-elsewhere
returns-clause-elsewhere c = λ cells base other words apart. (block_written words cells base).elsewhere other apart

pub returns-clause-allowed : goal.returns-clause-allowed
returns-clause-allowed c = λ cells base place words below. (block_written words cells base).allowed place _ refl below

pub returns-clause-ends : goal.returns-clause-ends
returns-clause-ends c = λ cells base words. (block_written words cells base).ends
