-- On which port a server listened, by what it answered.
use Rattle.std.proofs.Common.{◌≡◌, ◌≢◌, ◌⊎◌, ◌++◌, ◌∷◌, [], ℕ, List, Result, Ok, Err, refl}
use Rattle.std.specs.Result.{IsErr, IsOk, IsOkAnd}
use Rattle.ipb_outside.specs.Doors.{Listens}
use Rattle.command_terms.specs.declared.answer.Answer.{Answer}
use Rattle.command_terms.specs.Numbers.{refused_status}

-- an answer that is no refusal
abbrev pub IsNoRefusal : Answer → Type 0
IsNoRefusal answer = answer.status ≢ refused_status

module _ {E : Type 0} (port : ℕ) (old new : List ℕ) where
  -- who has no answer listened once or not at all
  pub failed_once : (result : Result Answer E) → IsErr result → (new ≡ old) ⊎ (new ≡ old ++ port ∷ [])
      → Listens port (IsOk result) old new
  failed_once (Ok answer) failed told = absurd cc
  failed_once (Err why) failed told = (λ never. absurd cc, told)

  pub failed_listens : (result : Result Answer E) → IsErr result → (new ≡ old) ⊎ (new ≡ old ++ port ∷ [])
      → Listens port (IsOkAnd result IsNoRefusal) old new
  failed_listens (Ok answer) failed told = absurd cc
  failed_listens (Err why) failed told = (λ never. absurd never, told)

  -- who has one listened
  pub answered_listens : (result : Result Answer E) → Listens port (IsOk result) old new
      → Listens port (IsOkAnd result IsNoRefusal) old new
  answered_listens (Ok answer) told = (λ done. told.0 refl, told.1)
  answered_listens (Err why) told = (λ never. absurd never, told.1)
