-- What follows from what a run shows.
use Rattle.std.proofs.Common.{◌≡◌, ℕ, ◌+◌, ◌≤◌, List, [], ◌∷◌, map, Option, Some, None, refl}
use Rattle.std.proofs.Common.{sym, ap, ◌∙◌, subst, arith}
use Rattle.std.specs.Prelude.{IfSome}
use Rattle.std.specs.List.{AllByRecursion}
use Rattle.ipb_base.specs.Numbers.{payload_of}
use Rattle.ipb_base.proofs.AllLemmas.{all-map}
use Rattle.mtu_packer.specs.declared.packing.TheConstants.{MIN_PAYLOAD}
use Rattle.board_specs.specs.declared.spec.BoardSpec.{BoardSpec}
use Rattle.board_specs.specs.declared.spec.LinkSpec.{LinkSpec}
use Rattle.board_specs.specs.declared.spec.LinkSpec.TheVariants.{Sim, Udp}
use Rattle.world_model.specs.Board.{Board, bodies_executed}
use Rattle.world_model.specs.Settings.{Limits}
use Rattle.script_steps.specs.declared.operation.Step.{Step}
use Rattle.lane_record.specs.declared.outcome.Outcome.{Outcome}
use Rattle.lane_record.specs.Lists.{CountsFrom}
use Rattle.script_plans.specs.declared.greeting.Greeting.{Greeting}
use Rattle.script_plans.specs.declared.greeting.Greeting.TheVariants.{Live, Silent, Down}
use Rattle.script_plans.specs.declared.board_run.ClientPart.{ClientPart}
use Rattle.script_plans.specs.declared.board_run.BoardRun.{BoardRun}
use Rattle.script_plans.specs.Plan.{ClientBodies, plans_on, planned_on}
use Rattle.script_plans.specs.Runs.{ArePlanned}
use Rattle.transcript.specs.Ends.{ends_of, ends_with}
use Rattle.board_history.specs.Order.{Placed, by_place, places_of}
use Rattle.board_history.specs.Parts.{HasOneOrder, KeepsScripts, AllReplied}
use Rattle.board_history.specs.InTurn.{AreInTurn, IsUsedByOne}
use Rattle.board_history.specs.History.{IsOrdered, ShowsHistory, bodies_by_client, outcomes_by_client}
use Rattle.board_history.specs.History.{dispatches_by_client, lates_by_client}
use Rattle.lane_record.specs.Dispatches.{outcomes_in_order}
use Rattle.board_history.specs.GiveUps.{GaveUpOnlyAfter}
use Rattle.board_history.specs.Merges.{AreSubsequences, IsMergeOfSome, IsMergeOfAll}
use Rattle.board_history.proofs.Alone.{none_placed}
use Rattle.board_history.proofs.Merging.{executed_some, executed_whole, order_whole}
use Rattle.board_history.specs.Runs.{greeting_of, opens_with, IsRun, board_run, runs_from}
use Rattle.board_history.specs.Answering.{AskRequests, OpensWithWords}
use Rattle.board_history.proofs.Shaped.{Standing}
use Rattle.board_history.proofs.Answering.{Answering, AnsweringAny, Keeping, KeepingAll, Garbling, Joins}
use Rattle.board_history.specs.Links.{LinkReport, IsBoardOf, IsFaithful, IsLostOnlyIfFailed, IsUntouched, board_there}
use Rattle.board_history.specs.LinkRuns.{ShowsScripts, TellsPayload, IsTrueRun, IsLiveRun, IsSilentRun, IsDownRun, IsAsTold}
use Rattle.board_history.specs.LinkRuns.{IsRunOver, AreRunsOver, IsMergeOfAsked, AllExecutedSome, IsWholeRun, AreWholeRuns}
use Rattle.board_history.specs.LinkRuns.{HaveOwnBoards, IsUngarbled, NoneGarbled, ShowAloneRuns}
use Rattle.board_history.proofs.Ungarbled.{none_garbled}
use Rattle.board_history.proofs.Calm.{all_calm, IsNotLost}
use Rattle.board_history.proofs.Lates.{in_time}
use Rattle.board_history.proofs.Live.{run_joined}
use Rattle.board_history.proofs.Told.{if_told}
pub use Rattle.board_history.proofs.Told.{at_some, some_then}

-- ---- a board that was asked nothing

nothing_planned : (board : ℕ) (told : Greeting) (scripts : List (List Step)) (parts : List ClientPart)
    → ((steps : List Step) → (planned_on board told steps).bodies ≡ [])
    → map (λ (p : ClientPart). p.planned) parts ≡ plans_on board told scripts
    → AllByRecursion (λ (bodies : List (List ℕ)). bodies ≡ []) (map (λ (p : ClientPart). p.planned.bodies) parts)
nothing_planned board told [] [] none e = tt
nothing_planned board told [] (p ∷ parts) none e = absurd cc
nothing_planned board told (steps ∷ scripts) [] none e = absurd cc
nothing_planned board told (steps ∷ scripts) (p ∷ parts) none e =
    let head : p.planned ≡ planned_on board told steps = cc in
    let tail : map (λ (q : ClientPart). q.planned) parts ≡ plans_on board told scripts = cc in (
      ap (λ (b : ClientBodies). b.bodies) head ∙ none steps,
      nothing_planned board told scripts parts none tail,
    )

abbrev pub IsOneOrder : List Placed → Type 0
IsOneOrder ps = CountsFrom 1 (places_of ps)

no_order : (spec : BoardSpec) (board : ℕ) (told : Greeting) (scripts : List (List Step)) (run : BoardRun)
    → run.greeting ≡ told → ((steps : List Step) → (planned_on board told steps).bodies ≡ [])
    → ShowsScripts spec board scripts run → HasOneOrder (bodies_by_client run) (outcomes_by_client run)
no_order spec board told scripts run greeted none shows =
    let plans = shows.plans ∙ ap (λ (g : Greeting). plans_on board g scripts) greeted in
    let nothing = none_placed (bodies_by_client run) (outcomes_by_client run)
    (nothing_planned board told scripts run.parts none plans) in
    subst IsOneOrder (sym (ap by_place nothing)) tt

-- ---- the places of every board

ordered_as : (settings : Limits) (spec : BoardSpec) (board : ℕ) (scripts : List (List Step)) (run : BoardRun)
    (link : LinkReport) (told : Greeting) → run.greeting ≡ told → ShowsScripts spec board scripts run
    → IsAsTold settings spec run link told → IsOrdered run
ordered_as settings spec board scripts run link (Live payload) greeted shows is =
    record { shape = shows.shape; one_order = is.any_link.one_order }
ordered_as settings spec board scripts run link Silent greeted shows is = record {
  shape = shows.shape;
  one_order = no_order spec board Silent scripts run greeted (λ steps. refl) shows;
}
ordered_as settings spec board scripts run link Down greeted shows is = record {
  shape = shows.shape;
  one_order = no_order spec board Down scripts run greeted (λ steps. refl) shows;
}

ordered : (settings : Limits) (spec : BoardSpec) (board : ℕ) (scripts : List (List Step)) (run : BoardRun)
    (link : LinkReport) → IsRunOver settings spec board scripts run link → IsOrdered run
ordered settings spec board scripts run link is =
    ordered_as settings spec board scripts run link run.greeting refl is.scripts' is.as_told

pub record AllOrdered (board : ℕ) (scripts : List (List Step)) (runs : List BoardRun) : Type 0 where
  pub planned : ArePlanned board scripts runs
  pub orders : AllByRecursion IsOrdered runs

pub all_ordered : (settings : Limits) (board : ℕ) (specs : List BoardSpec) (scripts : List (List Step))
    (runs : List BoardRun) (links : List LinkReport) → AreRunsOver settings board specs scripts runs links
    → AllOrdered board scripts runs
all_ordered settings board [] scripts [] [] is = record { planned = tt; orders = tt }
all_ordered settings board [] scripts [] (link ∷ links) is = absurd is
all_ordered settings board [] scripts (run ∷ runs) links is = absurd is
all_ordered settings board (spec ∷ specs) scripts [] links is = absurd is
all_ordered settings board (spec ∷ specs) scripts (run ∷ runs) [] is = absurd is
all_ordered settings board (spec ∷ specs) scripts (run ∷ runs) (link ∷ links) is =
    let later = all_ordered settings (board + 1) specs scripts runs links is.1 in
    record {
      planned = (is.0.scripts'.plans, later.planned);
      orders = (ordered settings spec board scripts run link is.0, later.orders);
    }

-- ---- over a link that tells

pub is_history : (settings : Limits) (spec : BoardSpec) (board : ℕ) (scripts : List (List Step)) (run : BoardRun)
    (link : LinkReport) (there : Board) (payload : ℕ) → IsRunOver settings spec board scripts run link
    → run.greeting ≡ Live payload → board_there link.telling ≡ Some there → ShowsHistory (opens_with spec.link) run
is_history settings spec board scripts run link there payload is greeted tells =
    let live : IsLiveRun settings spec payload run link = subst (IsAsTold settings spec run link) greeted is.as_told in
    let true' = at_some (IsTrueRun settings (opens_with spec.link) run link.held) (board_there link.telling)
    there tells live.told in
    record {
      shape = is.scripts'.shape;
      one_order = live.any_link.one_order;
      script_order = live.any_link.script_order;
      replies = true'.replies;
      late = true'.late;
    }

-- the bodies that clients ask for are those of their plans
planned_bodies : (board payload : ℕ) (scripts : List (List Step)) (parts : List ClientPart)
    → map (λ (p : ClientPart). p.planned) parts ≡ plans_on board (Live payload) scripts
    → map (λ (p : ClientPart). p.planned.bodies) parts
    ≡ map (λ (b : ClientBodies). b.bodies) (plans_on board (Live payload) scripts)
planned_bodies board payload [] [] e = refl
planned_bodies board payload [] (p ∷ parts) e = absurd cc
planned_bodies board payload (steps ∷ scripts) [] e = absurd cc
planned_bodies board payload (steps ∷ scripts) (p ∷ parts) e =
    let head : p.planned ≡ planned_on board (Live payload) steps = cc in
    let tail : map (λ (q : ClientPart). q.planned) parts ≡ plans_on board (Live payload) scripts = cc in
    ap (λ (b : ClientBodies). b.bodies ∷ map (λ (q : ClientPart). q.planned.bodies) parts) head
    ∙ ap (λ (bss : List (List (List ℕ))). (planned_on board (Live payload) steps).bodies ∷ bss)
    (planned_bodies board payload scripts parts tail)

-- of nothing
no_subsequences : (client : ℕ) (bodies : List (List (List ℕ))) → AreSubsequences client bodies []
no_subsequences client [] = tt
no_subsequences client (bs ∷ later) = (tt, no_subsequences (client + 1) later)

nothing_merged : (bodies : List (List (List ℕ))) → IsMergeOfSome bodies []
nothing_merged bodies = record { owned = []; same = refl; each = no_subsequences 1 bodies; nobody_else = tt }

-- some packets that a board of this kind takes
pub record SomePayload (spec : LinkSpec) : Type 0 where
  pub payload : ℕ
  pub told : TellsPayload spec payload

some_payload : (spec : LinkSpec) → SomePayload spec
some_payload (Sim mtu buffers first ranges fates) = record { payload = payload_of mtu; told = refl }
some_payload (Udp address port wait) = record { payload = MIN_PAYLOAD; told = (omega arith, omega arith) }

pub nothing_asked : (spec : BoardSpec) (board : ℕ) (scripts : List (List Step)) → IsMergeOfAsked spec board scripts []
nothing_asked spec board scripts =
    let packets = some_payload spec.link in
    record {
      payload = packets.payload;
      told = packets.told;
      merge = nothing_merged (map (λ (p : ClientBodies). p.bodies) (plans_on board (Live packets.payload) scripts));
    }

pub untouched_some : (spec : BoardSpec) (board : ℕ) (scripts : List (List Step)) (link : LinkReport) → IsUntouched link
    → IfSome (board_there link.telling) (λ there. IsMergeOfAsked spec board scripts (bodies_executed there))
untouched_some spec board scripts link none =
    some_then (λ (b : Board). bodies_executed b ≡ []) (λ (b : Board). IsMergeOfAsked spec board scripts (bodies_executed b))
    (board_there link.telling)
    (λ b e. subst (IsMergeOfAsked spec board scripts) (sym e) (nothing_asked spec board scripts)) none

executed_as : (settings : Limits) (spec : BoardSpec) (board : ℕ) (scripts : List (List Step)) (run : BoardRun)
    (link : LinkReport) (told : Greeting) → run.greeting ≡ told → ShowsScripts spec board scripts run
    → IsAsTold settings spec run link told
    → IfSome (board_there link.telling) (λ there. IsMergeOfAsked spec board scripts (bodies_executed there))
executed_as settings spec board scripts run link (Live payload) greeted shows is =
    let bodies = planned_bodies board payload scripts run.parts
    (shows.plans ∙ ap (λ (g : Greeting). plans_on board g scripts) greeted) in
    some_then (IsTrueRun settings (opens_with spec.link) run link.held)
    (λ (b : Board). IsMergeOfAsked spec board scripts (bodies_executed b)) (board_there link.telling)
    (λ b true'. record {
      payload = payload;
      told = is.any_link.packets;
      merge = subst (λ (bss : List (List (List ℕ))). IsMergeOfSome bss (bodies_executed b)) bodies
          (executed_some (bodies_by_client run) (outcomes_by_client run) (lates_by_client run)
          (bodies_executed b) shows.shape is.any_link.script_order
          true'.executed_once);
    }) is.told
executed_as settings spec board scripts run link Silent greeted shows is =
    untouched_some spec board scripts link is.untouched
executed_as settings spec board scripts run link Down greeted shows is =
    untouched_some spec board scripts link is.untouched

pub all_executed_some : (settings : Limits) (board : ℕ) (specs : List BoardSpec) (scripts : List (List Step))
    (runs : List BoardRun) (links : List LinkReport) → AreRunsOver settings board specs scripts runs links
    → AllExecutedSome board specs scripts links
all_executed_some settings board [] scripts [] [] is = tt
all_executed_some settings board [] scripts [] (link ∷ links) is = absurd is
all_executed_some settings board [] scripts (run ∷ runs) links is = absurd is
all_executed_some settings board (spec ∷ specs) scripts [] links is = absurd is
all_executed_some settings board (spec ∷ specs) scripts (run ∷ runs) [] is = absurd is
all_executed_some settings board (spec ∷ specs) scripts (run ∷ runs) (link ∷ links) is = (
  executed_as settings spec board scripts run link run.greeting refl is.0.scripts' is.0.as_told,
  all_executed_some settings (board + 1) specs scripts runs links is.1,
)

-- ---- where nothing was held and nothing failed

pub not_lost : (link : LinkReport) (outcomes : List (List Outcome)) → link.faults ≡ 0
    → AllByRecursion (AllByRecursion (IsLostOnlyIfFailed link)) outcomes
    → AllByRecursion (AllByRecursion IsNotLost) outcomes
not_lost link outcomes none = all-map (AllByRecursion (IsLostOnlyIfFailed link)) (AllByRecursion IsNotLost) outcomes
    (λ os. all-map (IsLostOnlyIfFailed link) IsNotLost os
    (λ o lost is. let some = lost is in omega (arith, some, none)))

-- a link that tells is to a simulated board
pub told_greeting : (spec : LinkSpec) (board : Option Board) (there : Board) (payload : ℕ) → board ≡ Some there
    → IsBoardOf spec board → TellsPayload spec payload → Live payload ≡ greeting_of spec
told_greeting (Sim mtu buffers first ranges fates) board there payload tells of packets = ap Live packets
told_greeting (Udp address port wait) None there payload tells of packets = absurd cc
told_greeting (Udp address port wait) (Some b) there payload tells of packets = absurd of

module _ (standing : Standing) where
  calm_live : (settings : Limits) (spec : BoardSpec) (board : ℕ) (scripts : List (List Step)) (run : BoardRun)
      (link : LinkReport) (payload : ℕ) → run.greeting ≡ Live payload → 1 ≤ settings.rounds → IsFaithful link
      → IsRunOver settings spec board scripts run link → IsWholeRun spec run link
  calm_live settings spec board scripts run link payload greeted some calm is =
      let live : IsLiveRun settings spec payload run link =
      subst (IsAsTold settings spec run link) greeted is.as_told in
      let true' = at_some (IsTrueRun settings (opens_with spec.link) run link.held) (board_there link.telling)
      calm.there calm.tells live.told in
      let same = run_joined standing spec board scripts run is.scripts' in
      let patient : GaveUpOnlyAfter settings.window settings.rounds 0 (dispatches_by_client run) =
      subst (λ (n : ℕ). GaveUpOnlyAfter settings.window settings.rounds n (dispatches_by_client run)) calm.held'
      true'.held' in
      let kept : AllByRecursion (AllByRecursion IsNotLost) (map outcomes_in_order (dispatches_by_client run)) =
      subst (AllByRecursion (AllByRecursion IsNotLost)) (sym same)
      (not_lost link (outcomes_by_client run) calm.faults' live.any_link.lost) in
      let replied : AllReplied (outcomes_by_client run) =
      subst AllReplied same (all_calm settings.window settings.rounds (dispatches_by_client run) some patient kept) in
      let whole : IsMergeOfAll (bodies_by_client run) (bodies_executed calm.there) =
      subst (IsMergeOfAll (bodies_by_client run))
      (sym (executed_whole (bodies_by_client run) (outcomes_by_client run) (lates_by_client run) (bodies_executed calm.there)
      live.any_link.one_order replied true'.executed_once))
      (order_whole (bodies_by_client run) (outcomes_by_client run) is.scripts'.shape live.any_link.script_order replied)
      in
      record {
        greeting =
            greeted ∙ told_greeting spec.link (board_there link.telling) calm.there payload calm.tells is.board'
            live.any_link.packets;
        replied = replied;
        in_time = in_time run.parts replied is.lates.timed_out;
        history = is_history settings spec board scripts run link calm.there payload is greeted calm.tells;
        all_executed = subst (λ (o : Option Board). IfSome o (λ b. IsMergeOfAll (bodies_by_client run) (bodies_executed b)))
            (sym calm.tells) whole;
      }

  calm_run : (settings : Limits) (spec : BoardSpec) (board : ℕ) (scripts : List (List Step)) (run : BoardRun)
      (link : LinkReport) (told : Greeting) → run.greeting ≡ told → 1 ≤ settings.rounds → IsFaithful link
      → IsRunOver settings spec board scripts run link → IsWholeRun spec run link
  calm_run settings spec board scripts run link (Live payload) greeted some calm is =
      calm_live settings spec board scripts run link payload greeted some calm is
  calm_run settings spec board scripts run link Silent greeted some calm is =
      let silent : IsSilentRun settings link = subst (IsAsTold settings spec run link) greeted is.as_told in
      let held = if_told (settings.rounds ≤ link.held) link.telling calm.there calm.tells silent.held in
      absurd (omega (arith, some, held, calm.held'))
  calm_run settings spec board scripts run link Down greeted some calm is =
      let down : IsDownRun settings link = subst (IsAsTold settings spec run link) greeted is.as_told in
      absurd (omega (arith, down.failed, calm.faults'))

  pub whole_runs : (settings : Limits) (board : ℕ) (specs : List BoardSpec) (scripts : List (List Step))
      (runs : List BoardRun) (links : List LinkReport) → 1 ≤ settings.rounds → AllByRecursion IsFaithful links
      → AreRunsOver settings board specs scripts runs links → AreWholeRuns specs runs links
  whole_runs settings board [] scripts [] [] some calm is = tt
  whole_runs settings board [] scripts [] (link ∷ links) some calm is = absurd is
  whole_runs settings board [] scripts (run ∷ runs) links some calm is = absurd is
  whole_runs settings board (spec ∷ specs) scripts [] links some calm is = absurd is
  whole_runs settings board (spec ∷ specs) scripts (run ∷ runs) [] some calm is = absurd is
  whole_runs settings board (spec ∷ specs) scripts (run ∷ runs) (link ∷ links) some calm is = (
    calm_run settings spec board scripts run link run.greeting refl some calm.0 is.0,
    whole_runs settings (board + 1) specs scripts runs links some calm.1 is.1,
  )

-- ---- a client alone

pub alone_runs : ((bodies : List (List (List ℕ))) (outcomes : List (List Outcome)) → IsUsedByOne bodies
    → HasOneOrder bodies outcomes → KeepsScripts bodies outcomes → AreInTurn bodies outcomes)
    → ((spec : BoardSpec) (board : ℕ) (scripts : List (List Step)) (run : BoardRun) → IsRun spec board scripts run
    → run ≡ board_run spec board scripts)
    → (settings : Limits) (board : ℕ) (specs : List BoardSpec) (scripts : List (List Step)) (runs : List BoardRun)
    (links : List LinkReport) → AreRunsOver settings board specs scripts runs links → AreWholeRuns specs runs links
    → ShowAloneRuns board specs scripts runs
alone_runs in_turn only settings board [] scripts [] [] is whole = tt
alone_runs in_turn only settings board [] scripts [] (link ∷ links) is whole = absurd is
alone_runs in_turn only settings board [] scripts (run ∷ runs) links is whole = absurd is
alone_runs in_turn only settings board (spec ∷ specs) scripts [] links is whole = absurd is
alone_runs in_turn only settings board (spec ∷ specs) scripts (run ∷ runs) [] is whole = absurd is
alone_runs in_turn only settings board (spec ∷ specs) scripts (run ∷ runs) (link ∷ links) is whole = (
  λ one. only spec board scripts run (record {
    name = is.0.scripts'.name;
    greeting = whole.0.greeting;
    plans = is.0.scripts'.plans;
    history = whole.0.history;
    replied = whole.0.replied;
    in_time = whole.0.in_time;
    in_turn = in_turn (bodies_by_client run) (outcomes_by_client run) one whole.0.history.one_order
        whole.0.history.script_order;
  }),
  alone_runs in_turn only settings (board + 1) specs scripts runs links is.1 whole.1,
)

bodies_in_plans : (parts : List ClientPart) → map (λ (p : ClientPart). p.planned.bodies) parts
    ≡ map (λ (p : ClientBodies). p.bodies) (map (λ (p : ClientPart). p.planned) parts)
bodies_in_plans [] = refl
bodies_in_plans (part ∷ parts) = ap (λ (bs : List (List (List ℕ))). part.planned.bodies ∷ bs) (bodies_in_plans parts)

-- what clients asked of a board, by their plans
asked_bodies : (parts : List ClientPart) (plans : List ClientBodies) → map (λ (p : ClientPart). p.planned) parts ≡ plans
    → map (λ (p : ClientPart). p.planned.bodies) parts ≡ map (λ (p : ClientBodies). p.bodies) plans
asked_bodies parts plans same =
    bodies_in_plans parts ∙ ap (λ (ps : List ClientBodies). map (λ (p : ClientBodies). p.bodies) ps) same

pub own_runs : (settings : Limits) (board : ℕ) (specs : List BoardSpec) (scripts : List (List Step))
    (runs : List BoardRun) (links : List LinkReport) → AreRunsOver settings board specs scripts runs links
    → AreWholeRuns specs runs links → ShowAloneRuns board specs scripts runs → HaveOwnBoards board specs scripts
    → runs ≡ runs_from board specs scripts
own_runs settings board [] scripts [] [] is whole alone own = refl
own_runs settings board [] scripts [] (link ∷ links) is whole alone own = absurd is
own_runs settings board [] scripts (run ∷ runs) links is whole alone own = absurd is
own_runs settings board (spec ∷ specs) scripts [] links is whole alone own = absurd is
own_runs settings board (spec ∷ specs) scripts (run ∷ runs) [] is whole alone own = absurd is
own_runs settings board (spec ∷ specs) scripts (run ∷ runs) (link ∷ links) is whole alone own =
    let planned : map (λ (p : ClientPart). p.planned) run.parts ≡ plans_on board (greeting_of spec.link) scripts =
    is.0.scripts'.plans ∙ ap (λ (g : Greeting). plans_on board g scripts) whole.0.greeting in
    let one : IsUsedByOne (bodies_by_client run) = subst IsUsedByOne
    (sym (asked_bodies run.parts (plans_on board (greeting_of spec.link) scripts) planned)) own.0 in
    ap (λ (r : BoardRun). r ∷ runs) (alone.0 one)
    ∙ ap (λ (rs : List BoardRun). board_run spec board scripts ∷ rs)
    (own_runs settings (board + 1) specs scripts runs links is.1 whole.1 alone.1 own.1)

-- ---- replies

no_ends : (parts : List ClientPart)
    → AllByRecursion (λ (bodies : List (List ℕ)). bodies ≡ []) (map (λ (p : ClientPart). p.planned.bodies) parts)
    → AllByRecursion (λ (part : ClientPart). AllByRecursion IsUngarbled (ends_of part)) parts
no_ends [] none = tt
no_ends (p ∷ parts) none = (
  subst (λ (bodies : List (List ℕ)). AllByRecursion IsUngarbled (ends_with bodies p.outcomes p.lates)) (sym none.0) tt,
  no_ends parts none.1,
)

nothing_garbled : (spec : BoardSpec) (board : ℕ) (told : Greeting) (scripts : List (List Step)) (run : BoardRun)
    → run.greeting ≡ told → ((steps : List Step) → (planned_on board told steps).bodies ≡ [])
    → ShowsScripts spec board scripts run → NoneGarbled run
nothing_garbled spec board told scripts run greeted none shows = no_ends run.parts
    (nothing_planned board told scripts run.parts none
    (shows.plans ∙ ap (λ (g : Greeting). plans_on board g scripts) greeted))

module _ (answering : Answering) (any : AnsweringAny) (keeping : Keeping) (keeping_all : KeepingAll)
    (garbling : Garbling) (joins : Joins) where
  ungarbled_as : (settings : Limits) (spec : BoardSpec) (board : ℕ) (scripts : List (List Step)) (run : BoardRun)
      (link : LinkReport) (there : Board) (told : Greeting) → run.greeting ≡ told
      → IsRunOver settings spec board scripts run link → board_there link.telling ≡ Some there → OpensWithWords spec
      → AskRequests run → NoneGarbled run
  ungarbled_as settings spec board scripts run link there (Live payload) greeted is tells opens asks =
      none_garbled answering any keeping keeping_all garbling joins (opens_with spec.link) run opens asks
      (is_history settings spec board scripts run link there payload is greeted tells)
  ungarbled_as settings spec board scripts run link there Silent greeted is tells opens asks =
      nothing_garbled spec board Silent scripts run greeted (λ steps. refl) is.scripts'
  ungarbled_as settings spec board scripts run link there Down greeted is tells opens asks =
      nothing_garbled spec board Down scripts run greeted (λ steps. refl) is.scripts'

  pub ungarbled : (settings : Limits) (spec : BoardSpec) (board : ℕ) (scripts : List (List Step)) (run : BoardRun)
      (link : LinkReport) (there : Board) → IsRunOver settings spec board scripts run link
      → board_there link.telling ≡ Some there
      → OpensWithWords spec → AskRequests run → NoneGarbled run
  ungarbled settings spec board scripts run link there is tells opens asks =
      ungarbled_as settings spec board scripts run link there run.greeting refl is tells opens asks
