-- The ports that a door listens on, and the connections that it lets in and takes back. A door either tells these
-- (`Some`) or it does not (`None`); each relation here keeps that as it is. Profile.
use Rattle.std.specs.Prelude.{◌≡◌, ◌⊎◌, ℕ, List, [], ◌∷◌, ◌++◌, Option, option_map, Result, MatchResult}
use Rattle.ipb_outside.specs.Calls.{Calls}
use Rattle.ipb_outside.specs.Memory.{MemSourceState, MemSinkState}

-- One listen. At `Ok` the port is one more that is listened on, at a failure none is.
abbrev pub Opens : {A E : Type 0} → ℕ → List ℕ → List ℕ → Result A E → Type 0
Opens port old new result = MatchResult result (λ _. new ≡ old ++ port ∷ []) (λ _. new ≡ old)

-- A server listened on this port once where it is done, and otherwise once or not at all. It listened on no other.
abbrev pub Listens : ℕ → Type 0 → List ℕ → List ℕ → Type 0
Listens port Done old new = (Done → new ≡ old ++ port ∷ []) × ((new ≡ old) ⊎ (new ≡ old ++ port ∷ []))

-- One accept. At `Ok` the connection is the first of those that were coming; at a failure all are still to come.
abbrev pub Accepts : {C E : Type 0} → Option (List C) → Option (List C) → Result C E → Type 0
Accepts old new result = MatchResult result (λ connection. old ≡ option_map (λ rest. connection ∷ rest) new)
    (λ _. new ≡ old)

-- The connection went behind those that were given back before.
abbrev pub Keeps : {C : Type 0} → Option (List C) → Option (List C) → C → Type 0
Keeps old new connection = new ≡ option_map (λ before. before ++ connection ∷ []) old

-- a connection in memory: what comes from a client, and what goes to it
abbrev pub MemConnection : Type 0
MemConnection = MemSourceState × MemSinkState

-- a door in memory
pub record MemDoorState : Type 0 where
  -- the connections that are still to be accepted, in order
  pub coming : List MemConnection
  -- those that were given back, in order
  pub kept : List MemConnection
  -- how many were accepted and not yet given back
  pub out : ℕ
  -- the port that it listens on, if it does
  pub port : Option ℕ
  -- its calls of `listen` and `accept` so far
  pub calls : Calls
