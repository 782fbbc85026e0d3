-- What the links of a session show once it ended. Profile.
use Rattle.std.specs.Prelude.{ℕ, ◌+◌, Bool, List, [], ◌∷◌, Option, IfSome}
use Rattle.world_model.specs.Facts.{bodies_of}
use Rattle.world_model.specs.Hub.{Hub}
use Rattle.world_model.specs.Settings.{Limits}
use Rattle.links.specs.Telling.{Telling}
use Rattle.board_specs.specs.declared.spec.BoardSpec.{BoardSpec}
use Rattle.lane_record.specs.declared.outcome.Outcome.{Outcome}
use Rattle.script_steps.specs.declared.operation.Step.{Step}
use Rattle.hub_lane.specs.Standing.{IsStanding}
use Rattle.board_history.specs.Links.{IsBoardOf, LinkReport, board_there}
use Rattle.board_history.specs.LinkRuns.{IsMergeOfAsked}
pub use Rattle.board_greeting.specs.Links.{AreMadeFor, CanBeReached, Keeps, link_specs}

-- How a hub stood to a link that tells this when the session let go of it: both are a state of a run of the world, also
-- where the hub had stopped, and what the hub sent is a merge of bodies that the scripts ask of the board at this
-- position, each client's in its order. So what the board executed is one too (`a_board_left_executed_a_merge`).
pub record HasStood (spec : BoardSpec) (board : ℕ) (scripts : List (List Step)) (telling : Telling) : Type 0 where
  pub stopped : Bool
  pub limits : Limits
  pub hub : Hub
  pub outcomes : List (Option Outcome)
  pub lates : List (Option (List ℕ))
  pub standing : IsStanding stopped limits hub outcomes lates telling
  pub sent : IsMergeOfAsked spec board scripts (bodies_of hub.sent)

-- the link of the board at this position
pub record IsLeft (spec : BoardSpec) (board : ℕ) (scripts : List (List Step)) (link : LinkReport) : Type 0 where
  pub board' : IsBoardOf spec.link (board_there link.telling)
  pub stood : IfSome link.telling (HasStood spec board scripts)

-- The links are those of the first boards, in order, and each is so; there may be fewer links than boards.
abbrev pub AreLeft : ℕ → List BoardSpec → List (List Step) → List LinkReport → Type 0
AreLeft board specs scripts [] = Unit {0}
AreLeft board [] scripts (link ∷ links) = ⊥
AreLeft board (spec ∷ specs) scripts (link ∷ links) =
    IsLeft spec board scripts link × AreLeft (board + 1) specs scripts links
