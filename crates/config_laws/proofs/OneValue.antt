-- One value that is given for a register.
use Rattle.std.proofs.Common.{◌≡◌, ℕ, zero, suc, [], ◌∷◌, codes, slice_get, Some, inl, inr, refl, ap, arith}
use Rattle.address_table.specs.declared.kinds.Mode.TheVariants.{Single}
use Rattle.address_table.specs.declared.kinds.Permission.TheVariants.{Rw}
use Rattle.config_store.specs.declared.state.StateEntry.{StateEntry}
use Rattle.config_store.specs.Examples.{register, small_board, value_for}
use Rattle.config_store.specs.Kept.{KeptRegister, kept_register}
use Rattle.config_laws.specs.Applied.{IsApplied}
use Rattle.config_laws.proofs.AppliedValues.{contains}
use Rattle.config_laws.proofs.Whole.{at_place}
use Rattle.std.proofs.lemmas.Option.{same_Some}

abbrev top : KeptRegister
top = kept_register (codes "b0") (register (codes "a.top") 8 0x80000000 Rw Single)

abbrev one : ℕ → StateEntry
one value = value_for (codes "b0") (codes "a.top") value

pub one_given : IsApplied (small_board.0 ∷ []) (one 1 ∷ []) top (one 1)
one_given = inl (contains (one 1 ∷ []) 0 (one 1) refl, record { board' = refl; name' = refl })

pub none_other : ¬ IsApplied (small_board.0 ∷ []) (one 1 ∷ []) top (one 0)
none_other (inl (has, is)) = first (at_place (one 1 ∷ []) (one 0) has).0 (at_place (one 1 ∷ []) (one 0) has).1 where
  first : (k : ℕ) → slice_get (one 1 ∷ []) k ≡ Some (one 0) → ⊥
  first zero at =
      let same = ap (λ (e : StateEntry). e.value) (same_Some (one 1) (one 0) at) in omega (arith, same)
  first (suc k) at = absurd cc
none_other (inr (none, saved)) = none.0 (record { board' = refl; name' = refl })
