-- How boards stand to the connections that are served.
use Rattle.std.proofs.Common.{◌≡◌, ◌∙◌, ℕ, ◌+◌, List, [], ◌∷◌, map, length, refl, ap, subst, arith}
use Rattle.std.specs.List.{AllByRecursion}
use Rattle.ipb_outside.specs.declared.door.Door.{Ghosts as DoorGhosts}
use Rattle.ipb_outside.specs.declared.sink.Sink.{Ghosts as SinkGhosts}
use Rattle.ipb_outside.specs.declared.source.Source.{Ghosts as SourceGhosts}
use Rattle.ipb_outside.specs.Pairs.{GivesBack, PairReport, pair_shown}
use Rattle.board_specs.specs.declared.spec.BoardSpec.{BoardSpec}
use Rattle.world_model.specs.Settings.{Limits}
use Rattle.hub_lane.specs.declared.answers.BoardState.{BoardState}
use Rattle.hub_lane.specs.declared.answers.BoardState.TheVariants as stands
use Rattle.hub_session.specs.Serving.{IsLaneBelow}
use Rattle.script_plans.specs.declared.greeting.Greeting.{Greeting}
use Rattle.board_history.specs.Links.{LinkReport}
use Rattle.board_greeting.specs.Boards.{AreReached}
use Rattle.board_greeting.specs.Standings.{lanes_in, states_at}
use Rattle.board_greeting.specs.declared.standing.Standing.{Standing}
use Rattle.board_greeting.specs.declared.standing.Standing.TheVariants.{Live, AtHub, Silent, Down}
use Rattle.session_serve.specs.Boards.{states_from}
use Rattle.session_serve.specs.Finish.{IsHere}
use Rattle.session_serve.specs.Prepared.{IsReady, told_by}
use Rattle.session_serve.specs.declared.prepared.Prepared.{Prepared}
use Rattle.session_serve.specs.Serving.{AreBack, AreBackFrom}
use Rattle.session_serve.proofs.Lists.{came_none, went_none}

-- boards stand as they told
pub states_told : {L : Type 0} (lane : ℕ) (boards : List (Standing L))
    → states_at lane boards ≡ states_from lane (map (λ (b : Standing L). told_by b) boards)
states_told lane [] = refl
states_told lane (Live ready ∷ boards) =
    ap (λ (l : List BoardState). stands.Lane lane ∷ l) (states_told (lane + 1) boards)
states_told lane (AtHub ∷ boards) =
    ap (λ (l : List BoardState). stands.Lane lane ∷ l) (states_told (lane + 1) boards)
states_told lane (Silent link ∷ boards) = ap (λ (l : List BoardState). stands.Silent ∷ l) (states_told lane boards)
states_told lane (Down link ∷ boards) = ap (λ (l : List BoardState). stands.Down ∷ l) (states_told lane boards)

pub ready_states : {L : Type 0} {shows : L → LinkReport} {settings : Limits} {specs : List BoardSpec}
    {left : List (Standing L)} {prepared : Prepared L} (ready : IsReady shows settings specs left prepared)
    → prepared.states ≡ states_from 0 (map (λ (b : Standing L). told_by b) ready.boards)
ready_states ready = ready.prepared'.states' ∙ states_told 0 ready.boards

-- the lane of each is in its place
pub all_here : {L : Type 0} (shows : L → LinkReport) (settings : Limits) (specs : List BoardSpec)
    (boards : List (Standing L)) → AreReached shows settings specs boards → AllByRecursion IsHere boards
all_here shows settings specs [] are = tt
all_here shows settings [] (b ∷ boards) are = absurd are
all_here shows settings (s ∷ specs) (Live ready ∷ boards) are = (tt, all_here shows settings specs boards are.1)
all_here shows settings (s ∷ specs) (AtHub ∷ boards) are = absurd are.0
all_here shows settings (s ∷ specs) (Silent link ∷ boards) are = (tt, all_here shows settings specs boards are.1)
all_here shows settings (s ∷ specs) (Down link ∷ boards) are = (tt, all_here shows settings specs boards are.1)

states_below : {L : Type 0} (lane : ℕ) (boards : List (Standing L)) → AllByRecursion IsHere boards
    → AllByRecursion (IsLaneBelow (lane + length (lanes_in boards))) (states_at lane boards)
states_below lane [] here = tt
states_below lane (Live ready ∷ boards) here = (
  omega arith,
  subst (λ (n : ℕ). AllByRecursion (IsLaneBelow n) (states_at (lane + 1) boards)) (omega arith)
      (states_below (lane + 1) boards here.1),
)
states_below lane (AtHub ∷ boards) here = absurd here.0
states_below lane (Silent link ∷ boards) here = (tt, states_below lane boards here.1)
states_below lane (Down link ∷ boards) here = (tt, states_below lane boards here.1)

pub states_within : {L : Type 0} (boards : List (Standing L)) → AllByRecursion IsHere boards
    → AllByRecursion (IsLaneBelow (length (lanes_in boards))) (states_at 0 boards)
states_within boards here =
    let same : 0 + length (lanes_in boards) ≡ length (lanes_in boards) = omega arith in
    subst (λ (n : ℕ). AllByRecursion (IsLaneBelow n) (states_at 0 boards)) same (states_below 0 boards here)

-- pairs came and went back where the boards stood as these greetings told
pub back_as_told : {D I O : Type 0} (seen : DoorGhosts D I O) (source : SourceGhosts I) (sink : SinkGhosts O)
    (door door_now : D) (states : List BoardState) (told : List Greeting) → states ≡ states_from 0 told
    → GivesBack seen source sink door door_now (AreBackFrom states)
    → GivesBack seen source sink door door_now AreBack
back_as_told {D} {I} {O} seen source sink door door_now states told is back =
    let shows : I × O → PairReport = pair_shown source sink in (
      back.0,
      back.1,
      back.2,
      back.3,
      (told, subst (λ (s : List BoardState). AreBackFrom s (map shows back.0) (map shows back.1)) is back.4),
    )

-- no pair came, so none went back
pub gives_none : {D I O : Type 0} (seen : DoorGhosts D I O) (source : SourceGhosts I) (sink : SinkGhosts O) (door : D)
    (holds : List PairReport → List PairReport → Type 0) → holds [] [] → GivesBack seen source sink door door holds
gives_none seen source sink door holds none =
    ([], [], came_none (seen.coming door), went_none (seen.kept door), none)

pub none_served : AreBack [] []
none_served = ([], record { served = []; each = tt })
