use Rattle.std.proofs.Common.{refl}
use Rattle.board_bus.proofs.ReadBack.{block_read}
use Rattle.board_bus.proofs.laws.a_block_is_read_up_to_the_first_refusal.Goals as goal

pub returns-clause-words : goal.returns-clause-words
returns-clause-words c = λ cells base count place below. (block_read count cells base).words place _ refl below

pub returns-clause-ends : goal.returns-clause-ends
returns-clause-ends c = λ cells base count. (block_read count cells base).ends
