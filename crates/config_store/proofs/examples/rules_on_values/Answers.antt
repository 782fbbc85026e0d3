use Rattle.std.proofs.Common.{refl}
use Rattle.config_store.proofs.SmallTables.{small, small_get}
use Rattle.config_store.proofs.examples.rules_on_values.Goals as goal

pub returns-clause-kept : goal.returns-clause-kept
unfolding lib.Count.count_trailing_zeros
returns-clause-kept c = simp (small, small_get) refl

pub returns-clause-outside : goal.returns-clause-outside
unfolding lib.Count.count_trailing_zeros
returns-clause-outside c = simp (small, small_get) refl

pub returns-clause-above : goal.returns-clause-above
unfolding lib.Count.count_trailing_zeros
returns-clause-above c = simp (small, small_get) refl

pub returns-clause-name : goal.returns-clause-name
unfolding lib.Count.count_trailing_zeros
returns-clause-name c = simp (small, small_get) refl

pub returns-clause-other_board : goal.returns-clause-other_board
unfolding lib.Count.count_trailing_zeros
returns-clause-other_board c = simp (small, small_get) refl

pub returns-clause-lowest : goal.returns-clause-lowest
unfolding lib.Count.count_trailing_zeros
returns-clause-lowest c = simp (small, small_get) refl
