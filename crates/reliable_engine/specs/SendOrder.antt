-- In which order a hub sends. Profile.
use Rattle.std.specs.Prelude.{◌≡◌, ℕ, ◌<◌, true, false, List}
use Rattle.std.specs.List.{AllByRecursion}
use Rattle.packet_ids.specs.Identifier.{identifier_at}
use Rattle.world_model.specs.declared.offered.OpenPlace.{OpenPlace}
use Rattle.world_model.specs.declared.sending.Sending.{Sending}
use Rattle.world_model.specs.declared.sending.Sending.TheVariants as sends
use Rattle.world_model.specs.Hub.{Hub, places}
use Rattle.world_model.specs.Facts.{has}
use Rattle.reliable_engine.specs.Answers.{IsQuiet}

-- no status request is wanted, and nothing for an open place
pub record HasNothingWanted (hub : Hub) : Type 0 where
  pub no_status : hub.status_wanted ≡ false
  pub quiet : AllByRecursion IsQuiet hub.open_places

-- below a place nothing is wanted
abbrev pub IsQuietBelow : ℕ → List OpenPlace → Type 0
IsQuietBelow place os = AllByRecursion (λ (o : OpenPlace). o.place < place → IsQuiet o) os

-- a re-send request is for the open place with its identifier
pub record AsksLowest (first id : ℕ) (os : List OpenPlace) : Type 0 where
  pub place : ℕ
  pub there : has place (places os) ≡ true
  pub identifier : identifier_at first place ≡ id
  pub lowest : IsQuietBelow place os

-- a control packet goes after the re-send request of its place
pub record RepeatsLowest (place : ℕ) (os : List OpenPlace) : Type 0 where
  pub lowest : IsQuietBelow place os
  pub asked : AllByRecursion (λ (o : OpenPlace). o.place ≡ place → o.resend ≡ false) os

-- what is sent for a place goes after what is wanted for lower places
abbrev pub IsForLowest : ℕ → List OpenPlace → Sending → Type 0
IsForLowest first os sends.Status = Unit {0}
IsForLowest first os (sends.Resend id) = AsksLowest first id os
IsForLowest first os (sends.Control place id) = RepeatsLowest place os

abbrev pub GoesByPlace : Hub → Sending → Type 0
GoesByPlace hub send = IsForLowest hub.first hub.open_places send
