-- What a run shows of boards whose links may lose, repeat, delay and reorder datagrams, and fail. Profile.
use Rattle.std.specs.Prelude.{◌≡◌, ◌≢◌, ℕ, ◌+◌, ◌*◌, ◌≤◌, true, List, [], ◌∷◌, length, map, count_by, None, IfSome}
use Rattle.std.specs.Prelude.{is_some}
use Rattle.std.specs.List.{AllByRecursion, AllZip}
use Rattle.ipb_base.specs.Numbers.{most_others, payload_of}
use Rattle.mtu_packer.specs.declared.packing.TheConstants.{MIN_PAYLOAD, MAX_PAYLOAD}
use Rattle.board_bus.specs.Cells.{CellMap}
use Rattle.board_specs.specs.declared.spec.BoardSpec.{BoardSpec}
use Rattle.board_specs.specs.declared.spec.LinkSpec.{LinkSpec}
use Rattle.board_specs.specs.declared.spec.LinkSpec.TheVariants.{Sim, Udp}
use Rattle.world_model.specs.Board.{Board, bodies_executed}
use Rattle.world_model.specs.Settings.{Limits}
use Rattle.links.specs.Receives.{first_status, receives_in}
use Rattle.hub_lane.specs.Run.{AreVainRounds, IsGreetingCutOff}
use Rattle.lane_record.specs.declared.outcome.Outcome.{Outcome}
use Rattle.lane_record.specs.Outcomes.{TellsRounds, is_replied}
use Rattle.script_steps.specs.declared.operation.Step.{Step}
use Rattle.script_plans.specs.declared.greeting.Greeting.{Greeting}
use Rattle.script_plans.specs.declared.greeting.Greeting.TheVariants.{Live, Silent, Down}
use Rattle.transcript.specs.declared.body_end.Told.TheVariants.{Garbled, Late}
use Rattle.transcript.specs.declared.body_end.BodyEnd.{BodyEnd}
use Rattle.transcript.specs.declared.line.LateAnswer.TheVariants as late_answer
use Rattle.transcript.specs.declared.line.OpResult.{OpResult}
use Rattle.transcript.specs.declared.line.OpResult.TheVariants as result
use Rattle.transcript.specs.declared.line.OpLine.{OpLine}
use Rattle.transcript.specs.declared.line.BoardLine.{BoardLine}
use Rattle.transcript.specs.declared.line.BoardLine.TheVariants as board_lines
use Rattle.script_plans.specs.declared.board_run.ClientPart.{ClientPart}
use Rattle.script_plans.specs.declared.board_run.BoardRun.{BoardRun}
use Rattle.transcript.specs.Ends.{ends_of}
use Rattle.script_plans.specs.Runs.{outcomes_on, IsPlanned}
use Rattle.script_plans.specs.Plan.{ClientBodies, plans_on}
use Rattle.board_history.specs.Order.{order}
use Rattle.board_history.specs.Parts.{HasOneOrder, KeepsScripts, AreRepliesOf, AreLateRepliesOf, IsExecutedOnce}
use Rattle.board_history.specs.Parts.{AllReplied, AreBeside}
use Rattle.board_history.specs.History.{ShowsHistory, bodies_by_client, outcomes_by_client, dispatches_by_client}
use Rattle.board_history.specs.History.{lates_by_client}
use Rattle.board_history.specs.GiveUps.{GaveUpOnlyAfter, IsExact, time_outs, times_given_up}
use Rattle.board_history.specs.Merges.{IsMergeOfSome, IsMergeOfAll}
use Rattle.board_history.specs.InTurn.{IsUsedByOne}
use Rattle.board_history.specs.Runs.{board_run, greeting_of, opens_with}
use Rattle.board_history.specs.Lates.{AreLateExactly, AreLateOnlyIfTimedOut}
use Rattle.board_history.specs.Links.{LinkReport, HasFailed, IsBoardOf, IsLostOnlyIfFailed}
use Rattle.board_history.specs.Links.{IsUntouched, board_there}
use Rattle.board_history.specs.Machine.{IsMachineBoard, ShowsEachLate}
use Rattle.board_history.specs.Receives.{HasToldPayload, IsLateBrought, IsReplyBrought, quiets_since_status}

-- ---- what the scripts ask

-- The run is of the board at this position, and shows an outcome for each body that the clients' scripts ask of it.
pub record ShowsScripts (spec : BoardSpec) (board : ℕ) (scripts : List (List Step)) (run : BoardRun) : Type 0 where
  pub name : run.name ≡ spec.name
  pub plans : IsPlanned board scripts run
  pub shape : map length (outcomes_by_client run) ≡ map length (bodies_by_client run)

-- what a live board told of the packets that it takes: a simulated one takes those of its MTU
abbrev pub TellsPayload : LinkSpec → ℕ → Type 0
TellsPayload (Sim mtu buffers first ranges fates) payload = payload ≡ payload_of mtu
TellsPayload (Udp address port wait) payload = (MIN_PAYLOAD ≤ payload) × (payload ≤ MAX_PAYLOAD)

-- ---- a live board

-- Over a link that tells, so many datagrams having been held:
pub record IsTrueRun (settings : Limits) (opening : CellMap) (run : BoardRun) (held : ℕ) (board : Board) : Type 0 where
  -- the board executed a front of the order, each body once, and each body that was replied to, in time or late
  pub executed_once : IsExecutedOnce (order (bodies_by_client run) (outcomes_by_client run)) (outcomes_by_client run)
      (lates_by_client run) (bodies_executed board)
  -- each reply is the one that a bus with a single thread gives at its place
  pub replies : AreRepliesOf opening (order (bodies_by_client run) (outcomes_by_client run)) (outcomes_by_client run)
  -- and so is each late answer
  pub late : AreLateRepliesOf opening (order (bodies_by_client run) (outcomes_by_client run)) (outcomes_by_client run)
      (lates_by_client run)
  -- the hub gave up only where datagrams were held in each round
  pub held' : GaveUpOnlyAfter settings.window settings.rounds held (dispatches_by_client run)

-- Each give-up cost so much of what was paid, and ended at most `window` bodies that were sent. The outcomes stand
-- client by client and dispatch by dispatch. `GaveUpOnlyAfter` is the same of a count that stands still at its end.
pub record PaidForGiveUps (window cost paid : ℕ) (outcomes : List (List (List Outcome))) : Type 0 where
  -- bodies are timed out only at that cost
  pub bodies : cost * time_outs outcomes ≤ window * paid
  -- a client finds so many dispatches given up only at that cost
  pub dispatches : AllByRecursion (λ client. cost * times_given_up client ≤ paid) outcomes

-- Of a board that answered the greeting and its link, whether it tells or not:
pub record HoldsOverAnyLink (settings : Limits) (spec : BoardSpec) (payload : ℕ) (run : BoardRun) (link : LinkReport)
    : Type 0 where
  pub packets : TellsPayload spec.link payload
  -- so the board told in the greeting
  pub greeted : HasToldPayload link payload
  -- the places are 1, 2, 3, .., and each belongs to one body
  pub one_order : HasOneOrder (bodies_by_client run) (outcomes_by_client run)
  -- the bodies of each client stand in the order of its script
  pub script_order : KeepsScripts (bodies_by_client run) (outcomes_by_client run)
  -- the hub gave up only after the rounds of the settings, each of which ended with a quiet receive
  pub rounds : GaveUpOnlyAfter settings.window (settings.rounds + 1) link.quiets (dispatches_by_client run)
  -- each of them behind the greeting
  pub rounds_since : PaidForGiveUps settings.window (settings.rounds + 1) (quiets_since_status link)
      (dispatches_by_client run)
  -- each reply came in a datagram of its own, behind the one that answered the greeting
  pub heard : IsExact link.gots → count_by is_replied (outcomes_on run) + 1 ≤ link.gots
  -- its words are those that the link brought for its place
  pub words : AllByRecursion (AllByRecursion (IsReplyBrought link)) (outcomes_by_client run)
  -- so are those of each late answer
  pub late_words : AreBeside (AreBeside (IsLateBrought link)) (outcomes_by_client run) (lates_by_client run)
  -- a body was lost with the link only where the link failed
  pub lost : AllByRecursion (AllByRecursion (IsLostOnlyIfFailed link)) (outcomes_by_client run)
  -- a body that was timed out tells the rounds of the settings
  pub tells : AllByRecursion (AllByRecursion (TellsRounds settings.rounds)) (outcomes_by_client run)
  -- what passed over the link is what the machine does with the bodies of the clients
  pub machine : IsMachineBoard settings payload run link

-- The same, and where the link tells, what it tells.
pub record IsLiveRun (settings : Limits) (spec : BoardSpec) (payload : ℕ) (run : BoardRun) (link : LinkReport)
    : Type 0 where
  pub any_link : HoldsOverAnyLink settings spec payload run link
  pub told : IfSome (board_there link.telling) (IsTrueRun settings (opens_with spec.link) run link.held)

-- ---- what came late

-- What a run shows of late answers, over this link.
pub record ShowsLates (run : BoardRun) (link : LinkReport) : Type 0 where
  -- over any link only a body that was timed out has a late answer
  pub timed_out : AllByRecursion (λ (part : ClientPart). AreLateOnlyIfTimedOut part.outcomes part.lates) run.parts
  -- over a link that tells a body that was timed out has a late answer exactly where the link handed out a reply of its
  -- place, and its words are those of that reply
  pub exactly : IfSome link.telling
      (λ t. AllByRecursion (λ (part : ClientPart). AreLateExactly t part.outcomes part.lates) run.parts)

-- ---- the others

-- A board is silent only where no datagram told its status, and each round of its greeting ended with a quiet receive
-- or 64 datagrams of no use. All that was sent to it is one status request in each of these rounds. Over a link that
-- tells each ended with a quiet receive, datagrams were held in each, and the board executed nothing.
pub record IsSilentRun (settings : Limits) (link : LinkReport) : Type 0 where
  pub asked : AreVainRounds settings.rounds link.traffic
  pub untold : first_status (receives_in link.traffic) ≡ None
  pub waited : most_others * settings.rounds ≤ most_others * link.quiets + link.gots
  pub quiet : IfSome link.telling (λ _. settings.rounds ≤ link.quiets)
  pub held : IfSome link.telling (λ _. settings.rounds ≤ link.held)
  pub untouched : IsUntouched link

-- A board is down only where its link failed at the greeting, before a datagram told its status, and it executed nothing
-- then. All that was sent to it is one status request in each round of the greeting; in the last one perhaps none.
pub record IsDownRun (settings : Limits) (link : LinkReport) : Type 0 where
  pub asked : IsGreetingCutOff settings.rounds link.traffic
  pub untold : first_status (receives_in link.traffic) ≡ None
  pub failed : HasFailed link
  pub untouched : IsUntouched link

-- ---- every board

abbrev pub IsAsTold : Limits → BoardSpec → BoardRun → LinkReport → Greeting → Type 0
IsAsTold settings spec run link (Live payload) = IsLiveRun settings spec payload run link
IsAsTold settings spec run link Silent = IsSilentRun settings link
IsAsTold settings spec run link Down = IsDownRun settings link

-- What a run shows of the board at a position of a session, over this link.
pub record IsRunOver (settings : Limits) (spec : BoardSpec) (board : ℕ) (scripts : List (List Step)) (run : BoardRun)
    (link : LinkReport) : Type 0 where
  pub scripts' : ShowsScripts spec board scripts run
  pub board' : IsBoardOf spec.link (board_there link.telling)
  pub as_told : IsAsTold settings spec run link run.greeting
  pub lates : ShowsLates run link
  -- a live board shows each late answer that its machine heard
  pub each_late : (payload : ℕ) → run.greeting ≡ Live payload → ShowsEachLate settings payload run link

-- The same of all boards, the first of which has this position: there is one run and one link for each.
abbrev pub AreRunsOver : Limits → ℕ → List BoardSpec → List (List Step) → List BoardRun → List LinkReport → Type 0
AreRunsOver settings board [] scripts [] [] = Unit {0}
AreRunsOver settings board (spec ∷ specs) scripts (run ∷ runs) (link ∷ links) =
    IsRunOver settings spec board scripts run link × AreRunsOver settings (board + 1) specs scripts runs links
AreRunsOver settings board specs scripts runs links = ⊥

-- ---- replies

-- the words of its reply, where it has one, are a reply to the body, and so are those of its late answer
pub record IsUngarbled (end : BodyEnd) : Type 0 where
  pub in_time : end.told ≢ Garbled
  pub late : (rounds : ℕ) → end.told ≢ Late rounds None

-- so of no body of the board: each reply answers all transactions of its body
abbrev pub NoneGarbled : BoardRun → Type 0
NoneGarbled run = AllByRecursion (λ (part : ClientPart). AllByRecursion IsUngarbled (ends_of part)) run.parts

-- the result of an operation does not show so, nor does the late answer in it
pub record IsUngarbledResult (shown : OpResult) : Type 0 where
  pub in_time : shown ≢ result.Garbled
  pub late : (rounds : ℕ) → shown ≢ result.Late rounds late_answer.Garbled

abbrev pub IsUngarbledLine : OpLine → Type 0
IsUngarbledLine line = IsUngarbledResult line.result

-- so of the line of an operation on a board whose link tells
abbrev pub IsUngarbledWhereTold : List BoardRun → List LinkReport → OpLine → Type 0
IsUngarbledWhereTold runs links line =
    AllZip (λ (run : BoardRun) (link : LinkReport). run.name ≡ line.board → is_some link.telling ≡ true
    → IsUngarbledLine line) runs links

-- a result that was timed out, answered late or not, shows so many rounds
abbrev pub ShowsRounds : ℕ → OpResult → Type 0
ShowsRounds rounds (result.TimedOut shown) = shown ≡ rounds
ShowsRounds rounds (result.Late shown answer) = shown ≡ rounds
ShowsRounds rounds other = Unit {0}

-- the same of the line of an operation
abbrev pub IsLineOfRounds : ℕ → OpLine → Type 0
IsLineOfRounds rounds line = ShowsRounds rounds line.result

-- ---- the line of a board

-- A link had quiet receives for the rounds of the give-ups of so many timeouts, each of which ended at most `window`
-- bodies; it had them behind the greeting; and where it tells it held datagrams in each of these rounds.
pub record WaitedForTimeOuts (settings : Limits) (timed_out : ℕ) (link : LinkReport) : Type 0 where
  pub quiets' : IsExact link.quiets → (settings.rounds + 1) * timed_out ≤ settings.window * link.quiets
  pub since : (settings.rounds + 1) * timed_out ≤ settings.window * quiets_since_status link
  pub held' : IfSome link.telling
      (λ _. IsExact link.held → settings.rounds * timed_out ≤ settings.window * link.held)

-- so of the timeouts in the line of a live board
abbrev pub TimeOutsWaited : Limits → BoardLine → LinkReport → Type 0
TimeOutsWaited settings (board_lines.Live name sent replied timed_out lost) link =
    WaitedForTimeOuts settings timed_out link
TimeOutsWaited settings (board_lines.Silent name) link = Unit {0}
TimeOutsWaited settings (board_lines.Down name) link = Unit {0}

-- The link of a live board handed out a datagram for each reply that the line counts, and one that answered the
-- greeting.
abbrev pub RepliesCame : BoardLine → LinkReport → Type 0
RepliesCame (board_lines.Live name sent replied timed_out lost) link = IsExact link.gots → replied + 1 ≤ link.gots
RepliesCame (board_lines.Silent name) link = Unit {0}
RepliesCame (board_lines.Down name) link = Unit {0}

-- ---- at any moment

-- These bodies are a merge of some that the clients' scripts ask of the board at this position, each client's in the
-- order of its script.
pub record IsMergeOfAsked (spec : BoardSpec) (board : ℕ) (scripts : List (List Step)) (bodies : List (List ℕ))
    : Type 0 where
  pub payload : ℕ
  pub told : TellsPayload spec.link payload
  pub merge : IsMergeOfSome (map (λ (p : ClientBodies). p.bodies) (plans_on board (Live payload) scripts)) bodies

-- ---- where nothing was held and nothing failed

-- Each body was replied to, nothing came late, and the board executed all bodies of all clients, each client's in its
-- order.
pub record IsWholeRun (spec : BoardSpec) (run : BoardRun) (link : LinkReport) : Type 0 where
  pub greeting : run.greeting ≡ greeting_of spec.link
  pub replied : AllReplied (outcomes_by_client run)
  pub in_time : AllByRecursion (λ (part : ClientPart). part.lates ≡ []) run.parts
  pub history : ShowsHistory (opens_with spec.link) run
  pub all_executed : IfSome (board_there link.telling) (λ board. IsMergeOfAll (bodies_by_client run) (bodies_executed board))

-- the same of all boards
abbrev pub AreWholeRuns : List BoardSpec → List BoardRun → List LinkReport → Type 0
AreWholeRuns [] [] [] = Unit {0}
AreWholeRuns (spec ∷ specs) (run ∷ runs) (link ∷ links) =
    IsWholeRun spec run link × AreWholeRuns specs runs links
AreWholeRuns specs runs links = ⊥

-- The first of these boards has this position. Where one client at most uses a board, what is shown of it is what the
-- bus with a single thread gives when it executes the bodies of that client.
abbrev pub ShowAloneRuns : ℕ → List BoardSpec → List (List Step) → List BoardRun → Type 0
ShowAloneRuns board [] scripts [] = Unit {0}
ShowAloneRuns board (spec ∷ specs) scripts (run ∷ runs) =
    (IsUsedByOne (bodies_by_client run) → run ≡ board_run spec board scripts)
    × ShowAloneRuns (board + 1) specs scripts runs
ShowAloneRuns board specs scripts runs = ⊥

-- The same of the boards that are live and whose links tell, whatever the links lost.
abbrev pub ShowAloneRunsWhereTold :
    ℕ → List BoardSpec → List (List Step) → List BoardRun → List LinkReport → Type 0
ShowAloneRunsWhereTold board [] scripts [] [] = Unit {0}
ShowAloneRunsWhereTold board (spec ∷ specs) scripts (run ∷ runs) (link ∷ links) =
    ((payload : ℕ) → run.greeting ≡ Live payload → is_some link.telling ≡ true → IsUsedByOne (bodies_by_client run)
    → run ≡ board_run spec board scripts)
    × ShowAloneRunsWhereTold (board + 1) specs scripts runs links
ShowAloneRunsWhereTold board specs scripts runs links = ⊥

-- no two clients' scripts ask anything of one of these boards, the first of which has this position
abbrev pub HaveOwnBoards : ℕ → List BoardSpec → List (List Step) → Type 0
HaveOwnBoards board [] scripts = Unit {0}
HaveOwnBoards board (spec ∷ specs) scripts =
    IsUsedByOne (map (λ (p : ClientBodies). p.bodies) (plans_on board (greeting_of spec.link) scripts))
    × HaveOwnBoards (board + 1) specs scripts

-- what each board executed is a merge of what the scripts ask of it
abbrev pub AllExecutedSome : ℕ → List BoardSpec → List (List Step) → List LinkReport → Type 0
AllExecutedSome board [] scripts [] = Unit {0}
AllExecutedSome board (spec ∷ specs) scripts (link ∷ links) =
    IfSome (board_there link.telling) (λ there. IsMergeOfAsked spec board scripts (bodies_executed there))
    × AllExecutedSome (board + 1) specs scripts links
AllExecutedSome board specs scripts links = ⊥
