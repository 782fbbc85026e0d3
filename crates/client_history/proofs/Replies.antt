-- What a board executed, and its replies to connections.
use Rattle.std.proofs.Common.{◌≡◌, ℕ, zero, suc, ◌+◌, ◌≤◌, List, [], ◌∷◌, ◌++◌, length, map, Option, Some, None, refl}
use Rattle.std.proofs.Common.{sym, ap, subst, arith, append_assoc, length-append}
use Rattle.std.specs.Prelude.{IfSome}
use Rattle.std.specs.List.{AllByRecursion, count_by, slice_get}
use Rattle.std.proofs.lemmas.List.{length-map}
use Rattle.ipb_base.specs.Lists.{IsPrefix}
use Rattle.ipb_base.proofs.AllLemmas.{front_of_all, back_of_all}
use Rattle.board_bus.specs.Cells.{CellMap}
use Rattle.board_bus.specs.Bodies.{replay}
use Rattle.board_bus.proofs.Bodies.{replay-append-replies, replay-length}
use Rattle.board_specs.specs.declared.spec.BoardSpec.{BoardSpec}
use Rattle.world_model.specs.Board.{Board, bodies_executed}
use Rattle.world_model.specs.Places.{at_place}
use Rattle.world_model.proofs.Lists.{at_seam}
use Rattle.world_model.specs.Settings.{Limits}
use Rattle.lane_record.specs.declared.outcome.Outcome.{Outcome}
use Rattle.lane_record.specs.declared.outcome.Outcome.TheVariants.{Replied, TimedOut, Unsent, LinkLost}
use Rattle.lane_record.specs.Lists.{CountsFrom}
use Rattle.lane_record.specs.Outcomes.{is_sent, place_of}
use Rattle.lane_record.specs.Submissions.{Submission}
use Rattle.script_plans.specs.declared.board_run.BoardRun.{BoardRun}
use Rattle.script_plans.specs.declared.greeting.Greeting.{Greeting}
use Rattle.script_plans.specs.declared.greeting.Greeting.TheVariants.{Live, Silent, Down}
use Rattle.script_plans.specs.Runs.{outcomes_on}
use Rattle.transcript.specs.Shown.{places_told}
use Rattle.board_history.specs.History.{bodies_by_client, outcomes_by_client}
use Rattle.board_history.specs.Order.{Placed, all_placed, bodies_in, order, bodies_with_places, places_of, with_place}
use Rattle.board_history.specs.Parts.{AreRepliesOf, HasOneOrder, IsExecuted, IsExecutedOnce, IsReplyOf}
use Rattle.board_history.proofs.Sorting.{sorted_all}
use Rattle.board_history.specs.Runs.{opens_with}
use Rattle.board_history.specs.Links.{IsUntouched, LinkReport, board_there}
use Rattle.board_history.specs.LinkRuns.{IsAsTold, IsTrueRun}
use Rattle.board_history.proofs.BoardLines.{line_at}
use Rattle.board_history.proofs.LaneShown.{some_then}
use Rattle.client_history.specs.Connections.{submitted_bodies, outcomes_of}
use Rattle.client_history.specs.Boards.{IsAskedOnlyIfLive, IsServedOver, ServedBoard, run_of}
use Rattle.client_history.specs.Shown.{IsRight, IsRightlyReplied, OfEach}
use Rattle.client_history.proofs.Parts.{bodies_shown, lates_shown, outcomes_shown, same_lengths}

-- ---- the first sends

length_front : {A : Type 0} (xs ys : List A) → IsPrefix xs ys → length xs ≤ length ys
length_front xs ys front =
    let both = ap (λ (l : List _). length l) front.1 in
    omega (arith, both, length-append xs front.0)

-- the first sends of a run's line are its order
abbrev pub Sends : Type 0
Sends = (run : BoardRun) → map length (outcomes_by_client run) ≡ map length (bodies_by_client run)
    → count_by is_sent (outcomes_on run) ≡ length (order (bodies_by_client run) (outcomes_by_client run))

none_executed : (line : ℕ) (link : LinkReport) → IsUntouched link
    → IfSome (board_there link.telling) (λ (board : Board). length (bodies_executed board) ≤ line)
none_executed line link none =
    some_then (λ (b : Board). bodies_executed b ≡ []) (λ (b : Board). length (bodies_executed b) ≤ line) (board_there link.telling)
    (λ b e. subst (λ (l : List (List ℕ)). length l ≤ line) (sym e) (omega arith)) none

executed_as : Sends → (settings : Limits) (spec : BoardSpec) (served : ServedBoard) (link : LinkReport)
    (told : Greeting) → IsAsTold settings spec (run_of spec served) link told
    → IfSome (board_there link.telling)
    (λ (board : Board). length (bodies_executed board) ≤ places_told (line_at (run_of spec served) told))
executed_as sends settings spec served link (Live payload) is =
    let run = run_of spec served in
    let placed_bodies = order (bodies_by_client run) (outcomes_by_client run) in
    let many = sends run (same_lengths served.connections) in
    some_then (IsTrueRun settings (opens_with spec.link) run link.held)
    (λ (b : Board). length (bodies_executed b) ≤ count_by is_sent (outcomes_on run)) (board_there link.telling)
    (λ b true'.
    let few = length_front (bodies_executed b) (bodies_in placed_bodies) true'.executed_once.front in
    let same = length-map placed_bodies (λ (p : Placed). p.body) in
    omega (arith, few, same, many)) is.told
executed_as sends settings spec served link Silent is = none_executed 0 link is.untouched
executed_as sends settings spec served link Down is = none_executed 0 link is.untouched

-- ---- what stands at a place

get_in_front : {A : Type 0} (xs ys : List A) (k : ℕ) (x : A) → suc k ≤ length xs → slice_get (xs ++ ys) k ≡ Some x
    → slice_get xs k ≡ Some x
get_in_front [] ys k x le e = absurd (omega (arith, le))
get_in_front (y ∷ xs) ys zero x le e = e
get_in_front (y ∷ xs) ys (suc k) x le e = get_in_front xs ys k x (omega (arith, le)) e

at_in_front : {A : Type 0} (xs ys : List A) (place : ℕ) (x : A) → place ≤ length xs
    → at_place (xs ++ ys) place ≡ Some x → at_place xs place ≡ Some x
at_in_front xs ys zero x le e = absurd cc
at_in_front xs ys (suc k) x le e = get_in_front xs ys k x le e

-- a body that stands in this order at its place
abbrev StandsAt : List Placed → Placed → Type 0
StandsAt ps p = at_place (bodies_in ps) p.place ≡ Some p.body

stand_from : (front : List (List ℕ)) (ps : List Placed) → CountsFrom (length front + 1) (places_of ps)
    → AllByRecursion (λ (p : Placed). at_place (front ++ bodies_in ps) p.place ≡ Some p.body) ps
stand_from front [] counts = tt
stand_from front (p ∷ ps) counts =
    let all = front ++ bodies_in (p ∷ ps) in
    let seam : at_place all (length front + 1) ≡ Some p.body = at_seam front (bodies_in ps) p.body in
    let next : length (front ++ p.body ∷ []) + 1 ≡ length front + 1 + 1 =
    omega (arith, length-append front (p.body ∷ [])) in
    let later = stand_from (front ++ p.body ∷ []) ps
    (subst (λ (n : ℕ). CountsFrom n (places_of ps)) (sym next) counts.1) in (
      subst (λ (n : ℕ). at_place all n ≡ Some p.body) (sym counts.0) seam,
      subst (λ (l : List (List ℕ)). AllByRecursion (λ (q : Placed). at_place l q.place ≡ Some q.body) ps)
          (append_assoc front (p.body ∷ []) (bodies_in ps)) later,
    )

all_stand : (bodies : List (List (List ℕ))) (outcomes : List (List Outcome)) → HasOneOrder bodies outcomes
    → AllByRecursion (StandsAt (order bodies outcomes)) (all_placed bodies outcomes)
all_stand bodies outcomes one =
    sorted_all (StandsAt (order bodies outcomes)) (all_placed bodies outcomes)
    (stand_from [] (order bodies outcomes) one)

-- ---- each body

-- the body of an outcome that has a place stands at it in this list
abbrev IsAt : List (List ℕ) → Submission → Type 0
IsAt all s = (place : ℕ) → place_of s.outcome ≡ Some place → at_place all place ≡ Some s.body

one_at : (all : List (List ℕ)) (body : List ℕ) (found : Option ℕ) (ps : List Placed)
    → AllByRecursion (λ (p : Placed). at_place all p.place ≡ Some p.body) (with_place body found ++ ps)
    → (place : ℕ) → found ≡ Some place → at_place all place ≡ Some body
one_at all body None ps stand place e = absurd cc
one_at all body (Some n) ps stand place e =
    let same : n ≡ place = cc in subst (λ (k : ℕ). at_place all k ≡ Some body) same stand.0

each_at : (all : List (List ℕ)) (s : List Submission)
    → AllByRecursion (λ (p : Placed). at_place all p.place ≡ Some p.body) (bodies_with_places (submitted_bodies s) (outcomes_of s))
    → AllByRecursion (IsAt all) s
each_at all [] stand = tt
each_at all (x ∷ xs) stand =
    let own = with_place x.body (place_of x.outcome) in
    let later = bodies_with_places (submitted_bodies xs) (outcomes_of xs) in (
      one_at all x.body (place_of x.outcome) later stand,
      each_at all xs (back_of_all (λ (p : Placed). at_place all p.place ≡ Some p.body) own later stand),
    )

all_at : (all : List (List ℕ)) (connections : List (List Submission))
    → AllByRecursion (λ (p : Placed). at_place all p.place ≡ Some p.body)
    (all_placed (bodies_shown connections) (outcomes_shown connections))
    → OfEach (IsAt all) connections
all_at all [] stand = tt
all_at all (s ∷ ss) stand =
    let own = bodies_with_places (submitted_bodies s) (outcomes_of s) in
    let later = all_placed (bodies_shown ss) (outcomes_shown ss) in (
      each_at all s (front_of_all (λ (p : Placed). at_place all p.place ≡ Some p.body) own later stand),
      all_at all ss (back_of_all (λ (p : Placed). at_place all p.place ≡ Some p.body) own later stand),
    )

-- ---- replies

right_one : (opening : CellMap) (done more : List (List ℕ)) (body : List ℕ) (o : Outcome)
    → ((place : ℕ) → place_of o ≡ Some place → at_place (done ++ more) place ≡ Some body)
    → IsExecuted (length done) o → IsReplyOf (replay opening (done ++ more)).replies o
    → IsRight opening done body o
right_one opening done more body (Replied place words) at few reply =
    let mine = (replay opening done).replies in
    let others = (replay (replay opening done).cells more).replies in
    let long = replay-length opening done in
    record {
      body' = at_in_front done more place body few (at place refl);
      words' = at_in_front mine others place words (omega (arith, few, long))
          (subst (λ (rs : List (List ℕ)). at_place rs place ≡ Some words) (replay-append-replies opening done more)
          reply);
    }
right_one opening done more body (TimedOut place rounds) at few reply = tt
right_one opening done more body Unsent at few reply = tt
right_one opening done more body (LinkLost place) at few reply = tt

right_each : (opening : CellMap) (done more : List (List ℕ)) (s : List Submission)
    → AllByRecursion (IsAt (done ++ more)) s → AllByRecursion (IsExecuted (length done)) (outcomes_of s)
    → AllByRecursion (IsReplyOf (replay opening (done ++ more)).replies) (outcomes_of s)
    → AllByRecursion (IsRightlyReplied opening done) s
right_each opening done more [] at few replies = tt
right_each opening done more (x ∷ xs) at few replies = (
  right_one opening done more x.body x.outcome at.0 few.0 replies.0,
  right_each opening done more xs at.1 few.1 replies.1,
)

right_all : (opening : CellMap) (done more : List (List ℕ)) (connections : List (List Submission))
    → OfEach (IsAt (done ++ more)) connections
    → AllByRecursion (AllByRecursion (IsExecuted (length done))) (outcomes_shown connections)
    → AllByRecursion (AllByRecursion (IsReplyOf (replay opening (done ++ more)).replies)) (outcomes_shown connections)
    → OfEach (IsRightlyReplied opening done) connections
right_all opening done more [] at few replies = tt
right_all opening done more (s ∷ ss) at few replies = (
  right_each opening done more s at.0 few.0 replies.0,
  right_all opening done more ss at.1 few.1 replies.1,
)

replied_rightly : (opening : CellMap) (done : List (List ℕ)) (connections : List (List Submission))
    → HasOneOrder (bodies_shown connections) (outcomes_shown connections)
    → IsExecutedOnce (order (bodies_shown connections) (outcomes_shown connections)) (outcomes_shown connections)
    (lates_shown connections) done
    → AreRepliesOf opening (order (bodies_shown connections) (outcomes_shown connections))
    (outcomes_shown connections)
    → OfEach (IsRightlyReplied opening done) connections
replied_rightly opening done connections one once replies =
    let bodies = bodies_shown connections in
    let outcomes = outcomes_shown connections in
    let all = bodies_in (order bodies outcomes) in
    let more = once.front.0 in
    let same : all ≡ done ++ more = once.front.1 in
    right_all opening done more connections
    (subst (λ (l : List (List ℕ)). OfEach (IsAt l) connections) same
    (all_at all connections (all_stand bodies outcomes one)))
    once.replied
    (subst (λ (l : List (List ℕ)). AllByRecursion (AllByRecursion (IsReplyOf (replay opening l).replies)) outcomes) same
    replies)

none_replied : (opening : CellMap) (done : List (List ℕ)) (connections : List (List Submission))
    → AllByRecursion (λ (s : List Submission). s ≡ []) connections
    → OfEach (IsRightlyReplied opening done) connections
none_replied opening done [] none = tt
none_replied opening done (s ∷ ss) none = (
  subst (AllByRecursion (IsRightlyReplied opening done)) (sym none.0) tt,
  none_replied opening done ss none.1,
)

replied_as : (settings : Limits) (spec : BoardSpec) (served : ServedBoard) (link : LinkReport) (told : Greeting)
    → IsAskedOnlyIfLive told served.connections → IsAsTold settings spec (run_of spec served) link told
    → IfSome (board_there link.telling)
    (λ (board : Board). OfEach (IsRightlyReplied (opens_with spec.link) (bodies_executed board)) served.connections)
replied_as settings spec served link (Live payload) asked is =
    some_then (IsTrueRun settings (opens_with spec.link) (run_of spec served) link.held)
    (λ (b : Board). OfEach (IsRightlyReplied (opens_with spec.link) (bodies_executed b)) served.connections)
    (board_there link.telling)
    (λ b true'. replied_rightly (opens_with spec.link) (bodies_executed b) served.connections is.any_link.one_order
    true'.executed_once true'.replies) is.told
replied_as settings spec served link Silent asked is =
    some_then (λ (b : Board). bodies_executed b ≡ [])
    (λ (b : Board). OfEach (IsRightlyReplied (opens_with spec.link) (bodies_executed b)) served.connections)
    (board_there link.telling)
    (λ b e. none_replied (opens_with spec.link) (bodies_executed b) served.connections asked) is.untouched
replied_as settings spec served link Down asked is =
    some_then (λ (b : Board). bodies_executed b ≡ [])
    (λ (b : Board). OfEach (IsRightlyReplied (opens_with spec.link) (bodies_executed b)) served.connections)
    (board_there link.telling)
    (λ b e. none_replied (opens_with spec.link) (bodies_executed b) served.connections asked) is.untouched

pub executed_within : Sends → (settings : Limits) (spec : BoardSpec) (served : ServedBoard) (link : LinkReport)
    → IsServedOver settings spec served link
    → IfSome (board_there link.telling)
    (λ (board : Board). length (bodies_executed board) ≤ places_told (line_at (run_of spec served) served.told))
executed_within sends settings spec served link is =
    executed_as sends settings spec served link served.told is.as_told

pub are_replied : (settings : Limits) (spec : BoardSpec) (served : ServedBoard) (link : LinkReport)
    → IsServedOver settings spec served link
    → IfSome (board_there link.telling)
    (λ (board : Board). OfEach (IsRightlyReplied (opens_with spec.link) (bodies_executed board)) served.connections)
are_replied settings spec served link is = replied_as settings spec served link served.told is.asked is.as_told
