-- What is shown of boards whose clients are connections. Profile.
use Rattle.std.specs.Prelude.{◌≡◌, ℕ, List, [], ◌∷◌, map, Some}
use Rattle.std.specs.List.{AllByRecursion, slice_get}
use Rattle.board_specs.specs.declared.spec.BoardSpec.{BoardSpec}
use Rattle.world_model.specs.Settings.{Limits}
use Rattle.lane_record.specs.Submissions.{Submission}
use Rattle.script_plans.specs.declared.greeting.Greeting.{Greeting}
use Rattle.script_plans.specs.declared.greeting.Greeting.TheVariants.{Live, Silent, Down}
use Rattle.script_plans.specs.declared.board_run.ClientPart.{ClientPart}
use Rattle.script_plans.specs.declared.board_run.BoardRun.{BoardRun}
use Rattle.board_history.specs.Links.{IsBoardOf, LinkReport, board_there}
use Rattle.board_history.specs.LinkRuns.{IsAsTold}
use Rattle.client_history.specs.Connections.{submitted_bodies, outcomes_of}

-- A board after its connections were served: what greeting it told, and what each connection submitted to it, in the
-- order in which the connections were accepted.
pub record ServedBoard : Type 0 where
  pub told : Greeting
  pub connections : List (List Submission)

-- A connection as a client of a run: each dispatch has one body. A body comes as it is, so there are no operations of
-- which it has pieces. A connection is told of its body once, so it is shown no late answer.
abbrev pub part_of : List Submission → ClientPart
part_of submissions = record {
  planned = record {
    bodies = submitted_bodies submissions;
    pieces = [];
    counts = map (λ (s : Submission). 1) submissions;
  };
  outcomes = outcomes_of submissions;
  lates = [];
}

-- a served board as a run of its connections
abbrev pub run_of : BoardSpec → ServedBoard → BoardRun
run_of spec served =
    record { name = spec.name; greeting = served.told; parts = map part_of served.connections }

-- a board that is not live was asked nothing
abbrev pub IsAskedOnlyIfLive : Greeting → List (List Submission) → Type 0
IsAskedOnlyIfLive (Live payload) connections = Unit {0}
IsAskedOnlyIfLive Silent connections = AllByRecursion (λ (submissions : List Submission). submissions ≡ []) connections
IsAskedOnlyIfLive Down connections = AllByRecursion (λ (submissions : List Submission). submissions ≡ []) connections

-- What is shown of a board that was served over this link: the same as of a board in a run.
pub record IsServedOver (settings : Limits) (spec : BoardSpec) (served : ServedBoard) (link : LinkReport) : Type 0
  where
    pub asked : IsAskedOnlyIfLive served.told served.connections
    pub board' : IsBoardOf spec.link (board_there link.telling)
    pub as_told : IsAsTold settings spec (run_of spec served) link served.told

-- The same of all boards, in order: there is one link for each.
abbrev pub AreServedOver : Limits → List BoardSpec → List ServedBoard → List LinkReport → Type 0
AreServedOver settings [] [] [] = Unit {0}
AreServedOver settings (spec ∷ specs) (served ∷ others) (link ∷ links) =
    IsServedOver settings spec served link × AreServedOver settings specs others links
AreServedOver settings specs boards links = ⊥

-- the board at a position, its entry in the document and its link
pub record IsServedAt (settings : Limits) (specs : List BoardSpec) (links : List LinkReport) (position : ℕ)
    (served : ServedBoard) : Type 0 where
  pub spec : BoardSpec
  pub link : LinkReport
  pub document : slice_get specs position ≡ Some spec
  pub link_there : slice_get links position ≡ Some link
  pub served_over : IsServedOver settings spec served link
