-- A finished lane is a live run of its board.
use Rattle.std.proofs.Common.{◌≡◌, ℕ, ◌+◌, ◌*◌, ◌≤◌, List, [], ◌∷◌, length, map, Option, Some, None, refl, sym, ap}
use Rattle.std.proofs.Common.{◌∙◌, subst}
use Rattle.std.specs.Prelude.{IfSome}
use Rattle.std.specs.List.{AllByRecursion, count_by, flat_map, slice_get}
use Rattle.std.proofs.lemmas.List.Folds.{flat_map-map}
use Rattle.board_bus.specs.Cells.{CellMap}
use Rattle.board_specs.specs.declared.spec.BoardSpec.{BoardSpec}
use Rattle.world_model.specs.Board.{Board, bodies_executed}
use Rattle.world_model.proofs.Lists.{all_get}
use Rattle.world_model.specs.Hub.{Hub}
use Rattle.world_model.specs.Settings.{Limits}
use Rattle.links.specs.Telling.{Telling}
use Rattle.ipb_base.proofs.AllLemmas.{all-map}
use Rattle.script_steps.specs.declared.operation.Step.{Step}
use Rattle.lane_record.specs.declared.outcome.Outcome.{Outcome}
use Rattle.lane_record.specs.declared.outcome.Outcome.TheVariants.{Replied, TimedOut, Unsent, LinkLost}
use Rattle.lane_record.specs.declared.item.Item.{Item}
use Rattle.lane_record.specs.Outcomes.{TellsRounds, is_replied}
use Rattle.lane_record.specs.Claims.{claims, taken_outcomes}
use Rattle.lane_record.specs.FirstSends.{bodies_sent, first_sends}
use Rattle.lane_record.specs.Legal.{IsLegal}
use Rattle.lane_record.specs.Bounds.{AreLostOnlyIf, HasReached, IsKept, TellRounds}
use Rattle.script_plans.specs.declared.greeting.Greeting.{Greeting}
use Rattle.script_plans.specs.declared.greeting.Greeting.TheVariants.{Live}
use Rattle.script_plans.specs.declared.board_run.ClientPart.{ClientPart}
use Rattle.script_plans.specs.declared.board_run.BoardRun.{BoardRun}
use Rattle.script_plans.specs.Runs.{outcomes_on}
use Rattle.board_history.specs.GiveUps.{IsExact}
use Rattle.board_history.specs.Order.{order, bodies_in}
use Rattle.board_history.specs.Parts.{HasOneOrder, KeepsScripts, IsExecutedOnce, AreRepliesOf, AreLateRepliesOf}
use Rattle.board_history.specs.History.{IsHistory, bodies_by_client, outcomes_by_client, dispatches_by_client}
use Rattle.board_history.specs.History.{dispatches_of, lates_by_client}
use Rattle.lane_record.specs.Dispatches.{outcomes_in_order}
use Rattle.script_plans.specs.Plan.{plans_on}
use Rattle.board_history.specs.Runs.{opens_with}
use Rattle.board_history.proofs.Shaped.{Standing, is_cut, whole_again, heads, lengths, IsCut}
use Rattle.board_history.specs.Links.{LinkReport, HasFailed, IsBoardOf, IsLostOnlyIfFailed, board_there}
use Rattle.board_history.specs.LinkRuns.{ShowsScripts, TellsPayload, IsTrueRun, IsLiveRun, IsAsTold, IsRunOver}
use Rattle.board_history.specs.LinkRuns.{HoldsOverAnyLink, ShowsLates}
use Rattle.board_history.specs.Receives.{HasBroughtReply, IsReplyBrought, quiets_since_status}
use Rattle.board_history.specs.Records.{IsClientsRecord, IsRecordOf, has_become}
use Rattle.board_history.specs.Lanes.{IsTrueOf, IsLateAsHanded, IsSoundLane}
use Rattle.hub_lane.specs.Fates.{AreLatesAt}
use Rattle.board_history.specs.Machine.{AreAllLates, ShowsEachLate}
use Rattle.board_history.specs.Lates.{AreLateExactly, AreLatesOf, AreLateOnlyIfTimedOut, lates_of}
use Rattle.board_history.proofs.Lates.{IsAsHanded, all_late, are_of_lane, exactly_late, lates_brought, of_timed_out}
use Rattle.board_history.proofs.Opening.{same_shape}
use Rattle.board_history.proofs.Steps.{steps, steps_of_all, finished}
use Rattle.board_history.proofs.Orders.{AreInOrder, in_order, order_is, one_order, keeps_scripts, sent_bodies}
use Rattle.board_history.proofs.Histories.{IsTrueOfSteps, true_steps, executed_once, replies_of, late_replies_of}
use Rattle.board_history.proofs.Machines.{HasMachine, machine_board}
use Rattle.board_history.proofs.Histories.{are_settled, became_outcomes, each_outcome}
use Rattle.board_history.proofs.Waits.{became_counted, has_paid, has_waited, reached}
use Rattle.board_history.proofs.Sealed.{is_record_of}
use Rattle.board_history.proofs.Told.{of_board, some_then}

-- ---- the outcomes of a run, dispatch by dispatch

module _ (standing : Standing) where
  parts_joined : (board : ℕ) (told : Greeting) (scripts : List (List Step)) (parts : List ClientPart)
      → map (λ (p : ClientPart). p.planned) parts ≡ plans_on board told scripts
      → map length (map (λ (p : ClientPart). p.outcomes) parts)
      ≡ map length (map (λ (p : ClientPart). p.planned.bodies) parts)
      → map outcomes_in_order (map dispatches_of parts) ≡ map (λ (p : ClientPart). p.outcomes) parts
  parts_joined board told [] [] plans long = refl
  parts_joined board told [] (part ∷ parts) plans long = absurd cc
  parts_joined board told (steps ∷ scripts) [] plans long = absurd cc
  parts_joined board told (steps ∷ scripts) (part ∷ parts) plans long =
      let head = heads standing board told steps scripts part parts plans in
      let here = lengths standing part parts long in
      let cut = subst IsCut (sym head.plan') (is_cut standing board told steps) in
      ap (λ (os : List Outcome). os ∷ map outcomes_in_order (map dispatches_of parts))
      (whole_again standing part.planned part.outcomes cut here.first)
      ∙ ap (λ (oss : List (List Outcome)). part.outcomes ∷ oss)
      (parts_joined board told scripts parts head.plans' here.rest)

  pub run_joined : (spec : BoardSpec) (board : ℕ) (scripts : List (List Step)) (run : BoardRun)
      → ShowsScripts spec board scripts run → map outcomes_in_order (dispatches_by_client run) ≡ outcomes_by_client run
  run_joined spec board scripts run shows =
      parts_joined board run.greeting scripts run.parts shows.plans shows.shape

abbrev in_one : List (List Outcome) → List Outcome
in_one lists = flat_map (λ outcomes. outcomes) lists

-- they are those that the line of the board counts
pub in_line : (run : BoardRun) → map outcomes_in_order (dispatches_by_client run) ≡ outcomes_by_client run
    → flat_map outcomes_in_order (dispatches_by_client run) ≡ outcomes_on run
in_line run same =
    sym (flat_map-map (λ (os : List Outcome). os) outcomes_in_order (dispatches_by_client run)) ∙ ap in_one same
    ∙ flat_map-map (λ (os : List Outcome). os) (λ (part : ClientPart). part.outcomes) run.parts

-- ---- the parts

pub in_one_order : (bodies : List (List (List ℕ))) (outcomes : List (List (List Outcome))) (items : List Item)
    (became : List (Option Outcome)) → IsRecordOf bodies outcomes items → IsLegal items became
    → HasOneOrder bodies (map outcomes_in_order outcomes)
in_one_order bodies outcomes items became is legal =
    one_order bodies (map outcomes_in_order outcomes) (steps items) (steps_of_all bodies outcomes items became is legal)
    (in_order items became legal (finished bodies outcomes items became is legal))

pub in_script_order : (bodies : List (List (List ℕ))) (outcomes : List (List (List Outcome))) (items : List Item)
    (became : List (Option Outcome)) → IsRecordOf bodies outcomes items → IsLegal items became
    → KeepsScripts bodies (map outcomes_in_order outcomes)
in_script_order bodies outcomes items became is legal =
    keeps_scripts bodies (map outcomes_in_order outcomes) (steps items) (steps_of_all bodies outcomes items became is legal)
    (in_order items became legal (finished bodies outcomes items became is legal))

-- ---- over a link that tells

module _ (bodies : List (List (List ℕ))) (outcomes : List (List (List Outcome))) (items : List Item)
    (became : List (Option Outcome)) (lates : List (Option (List ℕ))) (opening : CellMap) (done : List (List ℕ))
    (is : IsRecordOf bodies outcomes items) (legal : IsLegal items became)
    (true' : IsTrueOf opening (claims items) became lates done) where
  ordered_steps : AreInOrder (steps items)
  ordered_steps = in_order items became legal (finished bodies outcomes items became is legal)

  truth : IsTrueOfSteps opening (steps items) lates done
  truth = true_steps opening items became lates done legal (finished bodies outcomes items became is legal) true'

  pub done_once : (shown : List (List (Option (List ℕ)))) → AreLatesOf lates (map outcomes_in_order outcomes) shown
      → IsExecutedOnce (order bodies (map outcomes_in_order outcomes)) (map outcomes_in_order outcomes) shown done
  done_once shown of_lane = executed_once bodies (map outcomes_in_order outcomes) (steps items) opening lates done
      (steps_of_all bodies outcomes items became is legal) ordered_steps truth shown of_lane

  pub are_replies : AreRepliesOf opening (order bodies (map outcomes_in_order outcomes)) (map outcomes_in_order outcomes)
  are_replies = replies_of bodies (map outcomes_in_order outcomes) (steps items) opening lates done
      (steps_of_all bodies outcomes items became is legal) ordered_steps truth

  pub are_late_replies : (shown : List (List (Option (List ℕ)))) → AreLatesOf lates (map outcomes_in_order outcomes) shown
      → AreLateRepliesOf opening (order bodies (map outcomes_in_order outcomes)) (map outcomes_in_order outcomes) shown
  are_late_replies shown of_lane = late_replies_of bodies (map outcomes_in_order outcomes) (steps items) opening lates done
      (steps_of_all bodies outcomes items became is legal) ordered_steps truth shown of_lane

same_lengths : (outcomes : List (List (List Outcome)))
    → map length (map outcomes_in_order outcomes) ≡ map (λ (dispatches : List (List Outcome)). length (outcomes_in_order dispatches)) outcomes
same_lengths [] = refl
same_lengths (os ∷ others) = ap (λ (ns : List ℕ). length (outcomes_in_order os) ∷ ns) (same_lengths others)

pub is_history : (bodies : List (List (List ℕ))) (outcomes : List (List (List Outcome))) (items : List Item)
    (became : List (Option Outcome)) (lates : List (Option (List ℕ))) (shown : List (List (Option (List ℕ))))
    (opening : CellMap) (done : List (List ℕ)) → IsRecordOf bodies outcomes items → IsLegal items became
    → AreLatesOf lates (map outcomes_in_order outcomes) shown → IsTrueOf opening (claims items) became lates done
    → IsHistory opening bodies (map outcomes_in_order outcomes) shown
is_history bodies outcomes items became lates shown opening done is legal of_lane true' = record {
  shape = same_lengths outcomes ∙ same_shape 1 bodies outcomes items is.each;
  one_order = in_one_order bodies outcomes items became is legal;
  script_order = in_script_order bodies outcomes items became is legal;
  replies = are_replies bodies outcomes items became lates opening done is legal true';
  late = are_late_replies bodies outcomes items became lates opening done is legal true' shown of_lane;
}

pub order_sent : (bodies : List (List (List ℕ))) (outcomes : List (List (List Outcome))) (items : List Item)
    (became : List (Option Outcome)) → IsRecordOf bodies outcomes items → IsLegal items became
    → bodies_in (order bodies (map outcomes_in_order outcomes)) ≡ bodies_sent (first_sends items)
order_sent bodies outcomes items became is legal =
    ap bodies_in (order_is bodies (map outcomes_in_order outcomes) (steps items)
    (steps_of_all bodies outcomes items became is legal)
    (in_order items became legal (finished bodies outcomes items became is legal)))
    ∙ sent_bodies (claims items) (taken_outcomes items)

pub only_lost : (bodies : List (List (List ℕ))) (outcomes : List (List (List Outcome))) (items : List Item)
    (became : List (Option Outcome)) (link : LinkReport) → IsRecordOf bodies outcomes items → IsLegal items became
    → AreLostOnlyIf (HasFailed link) became
    → AllByRecursion (AllByRecursion (IsLostOnlyIfFailed link)) (map outcomes_in_order outcomes)
only_lost bodies outcomes items became link is legal lost =
    each_outcome (IsLostOnlyIfFailed link) bodies (map outcomes_in_order outcomes) (steps items)
    (steps_of_all bodies outcomes items became is legal)
    (became_outcomes (IsLostOnlyIfFailed link) items became legal
    (finished bodies outcomes items became is legal) (λ k o e is_so. lost k o e is_so))

pub all_tell : (bodies : List (List (List ℕ))) (outcomes : List (List (List Outcome))) (items : List Item)
    (became : List (Option Outcome)) (rounds : ℕ) → IsRecordOf bodies outcomes items → IsLegal items became
    → TellRounds rounds became → AllByRecursion (AllByRecursion (TellsRounds rounds)) (map outcomes_in_order outcomes)
all_tell bodies outcomes items became rounds is legal tell =
    each_outcome (TellsRounds rounds) bodies (map outcomes_in_order outcomes) (steps items)
    (steps_of_all bodies outcomes items became is legal)
    (became_outcomes (TellsRounds rounds) items became legal (finished bodies outcomes items became is legal)
    (λ k o there. all_get (λ (x : Option Outcome). IfSome x (TellsRounds rounds)) became k (Some o) tell there))

reply_brought : (link : LinkReport) (o : Outcome)
    → ((place : ℕ) (words : List ℕ) → o ≡ Replied place words → HasBroughtReply link place words)
    → IsReplyBrought link o
reply_brought link (Replied place words) brought = brought place words refl
reply_brought link (TimedOut place rounds) brought = tt
reply_brought link Unsent brought = tt
reply_brought link (LinkLost place) brought = tt

-- the link brought the words of each reply
all_brought : (bodies : List (List (List ℕ))) (outcomes : List (List (List Outcome))) (items : List Item)
    (became : List (Option Outcome)) (link : LinkReport) → IsRecordOf bodies outcomes items → IsLegal items became
    → ((k place : ℕ) (words : List ℕ) → slice_get became k ≡ Some (Some (Replied place words))
    → HasBroughtReply link place words)
    → AllByRecursion (AllByRecursion (IsReplyBrought link)) (map outcomes_in_order outcomes)
all_brought bodies outcomes items became link is legal brought =
    each_outcome (IsReplyBrought link) bodies (map outcomes_in_order outcomes) (steps items)
    (steps_of_all bodies outcomes items became is legal)
    (became_outcomes (IsReplyBrought link) items became legal (finished bodies outcomes items became is legal)
    (λ k o there. reply_brought link o
    (λ place words same. brought k place words (there ∙ ap (λ (p : Outcome). Some (Some p)) same))))

-- a lane counts its replies among the datagrams of its link, and the line of its board counts the same ones
replies_heard : (run : BoardRun) (gots : ℕ) (items : List Item) (became : List (Option Outcome))
    → map outcomes_in_order (dispatches_by_client run) ≡ outcomes_by_client run
    → IsRecordOf (bodies_by_client run) (dispatches_by_client run) items → IsLegal items became
    → HasReached (count_by (has_become is_replied) became + 1) gots → IsExact gots
    → count_by is_replied (outcomes_on run) + 1 ≤ gots
replies_heard run gots items became same is legal heard exact =
    let counted =
    became_counted is_replied (bodies_by_client run) (dispatches_by_client run) items became is legal in
    subst (λ (n : ℕ). n + 1 ≤ gots) (sym counted ∙ ap (count_by is_replied) (in_line run same))
    (reached (count_by (has_become is_replied) became + 1) gots heard exact)

-- ---- all of it

told_with : (P Q R : Board → Type 0) (board : Option Board) → ((b : Board) → P b → Q b → R b) → IfSome board P
    → IfSome board Q → IfSome board R
told_with P Q R None f p q = tt
told_with P Q R (Some b) f p q = f b p q

-- what the link tells of a lane is what the run shows of it
told_of_run : (settings : Limits) (opening : CellMap) (run : BoardRun) (held : ℕ) (items : List Item)
    (became : List (Option Outcome)) (lates : List (Option (List ℕ))) (given_up : ℕ)
    → map outcomes_in_order (dispatches_by_client run) ≡ outcomes_by_client run
    → IsRecordOf (bodies_by_client run) (dispatches_by_client run) items
    → AreLatesOf lates (outcomes_by_client run) (lates_by_client run)
    → IsKept items became settings.window given_up → (board : Board)
    → IsTrueOf opening (claims items) became lates (bodies_executed board) → HasReached (settings.rounds * given_up) held
    → IsTrueRun settings opening run held board
told_of_run settings opening run held items became lates given_up same is of_lane kept board true' paid =
    let bodies = bodies_by_client run in
    let outcomes = dispatches_by_client run in
    let shown = lates_by_client run in
    let done = bodies_executed board in
    let beside = subst (λ (oss : List (List Outcome)). AreLatesOf lates oss shown) (sym same) of_lane in
    record {
      executed_once = subst (λ (oss : List (List Outcome)). IsExecutedOnce (order bodies oss) oss shown done) same
          (done_once bodies outcomes items became lates opening done is kept.legal true' shown beside);
      replies = subst (λ (oss : List (List Outcome)). AreRepliesOf opening (order bodies oss) oss) same
          (are_replies bodies outcomes items became lates opening done is kept.legal true');
      late = subst (λ (oss : List (List Outcome)). AreLateRepliesOf opening (order bodies oss) oss shown) same
          (are_late_replies bodies outcomes items became lates opening done is kept.legal true' shown beside);
      held' = has_waited settings.window settings.rounds held given_up bodies outcomes items became is kept paid;
    }

-- what passed over the link is the machine's
has_machine : (settings : Limits) (spec : BoardSpec) (run : BoardRun) (link : LinkReport) (payload : ℕ)
    (items : List Item) (became : List (Option Outcome)) (lates : List (Option (List ℕ))) (given_up : ℕ)
    → map outcomes_in_order (dispatches_by_client run) ≡ outcomes_by_client run
    → IsRecordOf (bodies_by_client run) (dispatches_by_client run) items
    → AreLatesOf lates (outcomes_by_client run) (lates_by_client run)
    → IsSoundLane settings (opens_with spec.link) payload link items became lates given_up
    → HasMachine settings payload run link lates
has_machine settings spec run link payload items became lates given_up same is of_lane lane =
    let bodies = bodies_by_client run in
    machine_board settings payload run link items became lates same is lane.kept.legal of_lane
    (subst (λ (oss : List (List Outcome)). bodies_in (order bodies oss) ≡ bodies_sent (first_sends items)) same
    (order_sent bodies (dispatches_by_client run) items became is lane.kept.legal)) lane.ran

pub live : (settings : Limits) (spec : BoardSpec) (run : BoardRun) (link : LinkReport) (payload : ℕ)
    (items : List Item) (became : List (Option Outcome)) (lates : List (Option (List ℕ))) (given_up : ℕ)
    → map outcomes_in_order (dispatches_by_client run) ≡ outcomes_by_client run → TellsPayload spec.link payload
    → IsRecordOf (bodies_by_client run) (dispatches_by_client run) items
    → AreLatesOf lates (outcomes_by_client run) (lates_by_client run)
    → IsSoundLane settings (opens_with spec.link) payload link items became lates given_up
    → IsLiveRun settings spec payload run link
live settings spec run link payload items became lates given_up same packets is of_lane lane =
    let bodies = bodies_by_client run in
    let outcomes = dispatches_by_client run in
    let legal = lane.kept.legal in
    let any_link : HoldsOverAnyLink settings spec payload run link = record {
      packets = packets;
      greeted = lane.greeted;
      one_order = subst (HasOneOrder bodies) same (in_one_order bodies outcomes items became is legal);
      script_order = subst (KeepsScripts bodies) same (in_script_order bodies outcomes items became is legal);
      rounds = has_waited settings.window (settings.rounds + 1) link.quiets given_up bodies outcomes items became is
          lane.kept lane.waited;
      rounds_since = has_paid settings.window (settings.rounds + 1) (quiets_since_status link) given_up bodies outcomes
          items became is lane.kept lane.waited_since;
      heard = replies_heard run link.gots items became same is legal lane.heard;
      words = subst (AllByRecursion (AllByRecursion (IsReplyBrought link))) same
          (all_brought bodies outcomes items became link is legal lane.words);
      late_words = lates_brought lates link lane.late_words (outcomes_by_client run) (lates_by_client run) of_lane;
      lost = subst (AllByRecursion (AllByRecursion (IsLostOnlyIfFailed link))) same
          (only_lost bodies outcomes items became link is legal lane.lost);
      tells = subst (AllByRecursion (AllByRecursion (TellsRounds settings.rounds))) same
          (all_tell bodies outcomes items became settings.rounds is legal lane.tells);
      machine = (has_machine settings spec run link payload items became lates given_up same is of_lane lane).board;
    } in record {
      any_link = any_link;
      told = told_with (λ (b : Board). IsTrueOf (opens_with spec.link) (claims items) became lates (bodies_executed b))
          (λ (b : Board). HasReached (settings.rounds * given_up) link.held)
          (IsTrueRun settings (opens_with spec.link) run link.held) (board_there link.telling)
          (told_of_run settings (opens_with spec.link) run link.held items became lates given_up same is of_lane
          lane.kept) lane.told
          (of_board (HasReached (settings.rounds * given_up) link.held) link.telling lane.held);
    }

-- ---- what came late

-- the late answers of each client's part are those of its lane
each_part : (lates : List (Option (List ℕ))) (parts : List ClientPart)
    → map (λ (p : ClientPart). p.lates) parts ≡ map (lates_of lates) (map (λ (p : ClientPart). p.outcomes) parts)
    → AllByRecursion (λ (p : ClientPart). p.lates ≡ lates_of lates p.outcomes) parts
each_part lates [] same = tt
each_part lates (p ∷ parts) same =
    let head : p.lates ≡ lates_of lates p.outcomes = cc in
    let tail : map (λ (q : ClientPart). q.lates) parts
    ≡ map (lates_of lates) (map (λ (q : ClientPart). q.outcomes) parts) = cc in
    (head, each_part lates parts tail)

parts_of_timed_out : (lates : List (Option (List ℕ))) (parts : List ClientPart)
    → AllByRecursion (λ (p : ClientPart). p.lates ≡ lates_of lates p.outcomes) parts
    → AllByRecursion (λ (p : ClientPart). AreLateOnlyIfTimedOut p.outcomes p.lates) parts
parts_of_timed_out lates parts = all-map (λ (p : ClientPart). p.lates ≡ lates_of lates p.outcomes)
    (λ (p : ClientPart). AreLateOnlyIfTimedOut p.outcomes p.lates) parts
    (λ p same. subst (AreLateOnlyIfTimedOut p.outcomes) (sym same) (of_timed_out lates p.outcomes))

parts_exactly : (t : Telling) (lates : List (Option (List ℕ))) (parts : List ClientPart)
    → AllByRecursion (λ (p : ClientPart). p.lates ≡ lates_of lates p.outcomes) parts
    → AllByRecursion (AllByRecursion (IsAsHanded lates t)) (map (λ (p : ClientPart). p.outcomes) parts)
    → AllByRecursion (λ (p : ClientPart). AreLateExactly t p.outcomes p.lates) parts
parts_exactly t lates [] same all = tt
parts_exactly t lates (p ∷ parts) same all = (
  subst (AreLateExactly t p.outcomes) (sym same.0) (exactly_late lates t p.outcomes all.0),
  parts_exactly t lates parts same.1 all.1,
)

-- over a link that tells
each_as_handed : (t : Telling) (bodies : List (List (List ℕ))) (outcomes : List (List (List Outcome)))
    (items : List Item) (became : List (Option Outcome)) (lates : List (Option (List ℕ)))
    → IsRecordOf bodies outcomes items → IsLegal items became → IsLateAsHanded became lates t
    → AllByRecursion (AllByRecursion (IsAsHanded lates t)) (map outcomes_in_order outcomes)
each_as_handed t bodies outcomes items became lates is legal handed =
    each_outcome (IsAsHanded lates t) bodies (map outcomes_in_order outcomes) (steps items)
    (steps_of_all bodies outcomes items became is legal)
    (became_outcomes (IsAsHanded lates t) items became legal (finished bodies outcomes items became is legal)
    (λ k o there place rounds same. handed k place rounds (there ∙ ap (λ (p : Outcome). Some (Some p)) same)))

-- what is shown as late answers is all that the machine heard late
parts_heard : (end : Hub) (lates : List (Option (List ℕ))) → AreLatesAt end lates → (parts : List ClientPart)
    → AllByRecursion (λ (p : ClientPart). p.lates ≡ lates_of lates p.outcomes) parts
    → AllByRecursion (λ (p : ClientPart). AreAllLates end.lates p.outcomes p.lates) parts
parts_heard end lates heard parts = all-map (λ (p : ClientPart). p.lates ≡ lates_of lates p.outcomes)
    (λ (p : ClientPart). AreAllLates end.lates p.outcomes p.lates) parts
    (λ p same. subst (AreAllLates end.lates p.outcomes) (sym same) (all_late lates end heard p.outcomes))

shows_each : (settings : Limits) (payload : ℕ) (run : BoardRun) (link : LinkReport) (lates : List (Option (List ℕ)))
    → HasMachine settings payload run link lates
    → lates_by_client run ≡ map (lates_of lates) (outcomes_by_client run) → ShowsEachLate settings payload run link
shows_each settings payload run link lates has shown = record {
  machine = has.board;
  each = parts_heard has.board.end lates has.late run.parts (each_part lates run.parts shown);
}

pub shows_lates : (run : BoardRun) (link : LinkReport) (items : List Item) (became : List (Option Outcome))
    (lates : List (Option (List ℕ))) → map outcomes_in_order (dispatches_by_client run) ≡ outcomes_by_client run
    → IsRecordOf (bodies_by_client run) (dispatches_by_client run) items → IsLegal items became
    → lates_by_client run ≡ map (lates_of lates) (outcomes_by_client run)
    → IfSome link.telling (IsLateAsHanded became lates) → ShowsLates run link
shows_lates run link items became lates same is legal shown handed =
    let each = each_part lates run.parts shown in
    record {
      timed_out = parts_of_timed_out lates run.parts each;
      exactly = some_then (IsLateAsHanded became lates)
          (λ t. AllByRecursion (λ (p : ClientPart). AreLateExactly t p.outcomes p.lates) run.parts) link.telling
          (λ t exact. parts_exactly t lates run.parts each
          (subst (AllByRecursion (AllByRecursion (IsAsHanded lates t))) same
          (each_as_handed t (bodies_by_client run) (dispatches_by_client run) items became lates is legal exact)))
          handed;
    }

same_payload : (payload told : ℕ) → Live payload ≡ Live told → payload ≡ told
same_payload payload told same = cc

module _ (standing : Standing) where
  pub run_over : (settings : Limits) (spec : BoardSpec) (board : ℕ) (scripts : List (List Step)) (run : BoardRun)
      (link : LinkReport) (payload : ℕ) (items : List Item) (became : List (Option Outcome))
      (lates : List (Option (List ℕ))) (given_up : ℕ) → ShowsScripts spec board scripts run
      → IsBoardOf spec.link (board_there link.telling) → run.greeting ≡ Live payload → TellsPayload spec.link payload
      → IsClientsRecord (bodies_by_client run) (dispatches_by_client run) items
      → lates_by_client run ≡ map (lates_of lates) (outcomes_by_client run)
      → IsSoundLane settings (opens_with spec.link) payload link items became lates given_up
      → IsRunOver settings spec board scripts run link
  run_over settings spec board scripts run link payload items became lates given_up shows of greeted packets is shown
      lane =
      let same = run_joined standing spec board scripts run shows in
      let recorded = is_record_of (bodies_by_client run) (dispatches_by_client run) items is in
      let legal = lane.kept.legal in
      let of_lane = subst (AreLatesOf lates (outcomes_by_client run)) (sym shown)
      (are_of_lane lates (outcomes_by_client run)) in
      record {
        scripts' = shows;
        board' = of;
        as_told = subst (IsAsTold settings spec run link) (sym greeted)
            (live settings spec run link payload items became lates given_up same packets recorded of_lane lane);
        lates = shows_lates run link items became lates same recorded legal shown
            (lane.exactly (are_settled items became legal
            (finished (bodies_by_client run) (dispatches_by_client run) items became recorded legal)));
        each_late = λ told live. subst (λ (n : ℕ). ShowsEachLate settings n run link)
            (same_payload payload told (sym greeted ∙ live))
            (shows_each settings payload run link lates
            (has_machine settings spec run link payload items became lates given_up same recorded of_lane lane) shown);
      }
