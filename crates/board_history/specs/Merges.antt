-- Bodies of several clients in one list: each client's stand in its order. Profile.
use Rattle.std.specs.Prelude.{◌≡◌, ◌⊎◌, ℕ, ◌+◌, ◌≤◌, ◌==◌, if◌then◌else◌, List, [], ◌∷◌, length, map}
use Rattle.std.specs.List.{AllByRecursion}

-- the items of the first list stand in the second in their order, with others among them
abbrev pub IsSubsequence : {A : Type 0} → List A → List A → Type 0
IsSubsequence [] ys = Unit {0}
IsSubsequence (x ∷ xs) [] = ⊥
IsSubsequence (x ∷ xs) (y ∷ ys) = ((x ≡ y) × IsSubsequence xs ys) ⊎ IsSubsequence (x ∷ xs) ys

-- a body, and the number of its client, from 1
pub record Owned : Type 0 where
  pub client : ℕ
  pub body : List ℕ

-- the bodies of one client, in order
abbrev pub bodies_by : ℕ → List Owned → List (List ℕ)
bodies_by client [] = []
bodies_by client (o ∷ os) = if o.client == client then o.body ∷ bodies_by client os else bodies_by client os

abbrev pub bodies_owned : List Owned → List (List ℕ)
bodies_owned os = map (λ (o : Owned). o.body) os

-- one of so many clients
abbrev pub IsOfClients : ℕ → Owned → Type 0
IsOfClients many o = (1 ≤ o.client) × (o.client ≤ many)

-- of each client from a number on, some of its bodies stand there, in its order
abbrev pub AreSubsequences : ℕ → List (List (List ℕ)) → List Owned → Type 0
AreSubsequences client [] os = Unit {0}
AreSubsequences client (bodies ∷ later) os =
    IsSubsequence (bodies_by client os) bodies × AreSubsequences (client + 1) later os

-- of each client from a number on, all of its bodies stand there, in its order
abbrev pub AreMerged : ℕ → List (List (List ℕ)) → List Owned → Type 0
AreMerged client [] os = Unit {0}
AreMerged client (bodies ∷ later) os = (bodies_by client os ≡ bodies) × AreMerged (client + 1) later os

-- The list can be dealt out to the clients so that each gets some of its bodies, in their order.
pub record IsMergeOfSome (bodies : List (List (List ℕ))) (merged : List (List ℕ)) : Type 0 where
  pub owned : List Owned
  pub same : merged ≡ bodies_owned owned
  pub each : AreSubsequences 1 bodies owned
  pub nobody_else : AllByRecursion (IsOfClients (length bodies)) owned

-- The list is a merge of the clients' bodies, all of each.
pub record IsMergeOfAll (bodies : List (List (List ℕ))) (merged : List (List ℕ)) : Type 0 where
  pub owned : List Owned
  pub same : merged ≡ bodies_owned owned
  pub each : AreMerged 1 bodies owned
  pub nobody_else : AllByRecursion (IsOfClients (length bodies)) owned
