-- What the code makes of the rows of a board is what `Replay` says.
use Rattle.std.proofs.Common.{◌≡◌, ◌≢◌, ℕ, zero, suc, ◌+◌, ◌<◌, ◌≤◌, Bool, true, false, List, [], ◌∷◌, ◌++◌, length, map, refl, ap, sym}
use Rattle.std.proofs.Common.{◌∙◌, ◌==◌, append_assoc, arith, drop, ltb, take, get_or, cond, subst, Option, Some, None}
use Rattle.std.specs.Prelude.{slice_get, nat_le}
use Rattle.std.specs.List.{AllByRecursion}
use Rattle.std.specs.List.Sorted.{IsPartitionedBy, IsPartitionPoint}
use Rattle.std.proofs.lemmas.List.{append-nil, map-append}
use Rattle.std.proofs.lemmas.List.Sorted.{IsPartitionedBy-ltb}
use Rattle.std.proofs.lemmas.Option.{same_Some, slice_get_read, slice_get_within}
use borrow.Author.Tests.{ltb-true}
use Rattle.board_history.proofs.Lists.{begins_at}
use Rattle.std.proofs.lemmas.Bool.Decides.{nat_tests}
use Rattle.board_bus.specs.Cells.{CellMap}
use Rattle.board_bus.specs.Bodies.{replay, run_body}
use Rattle.script_plans.specs.Plan.{ClientBodies}
use Rattle.script_plans.specs.declared.greeting.Greeting.{Greeting}
use Rattle.script_plans.specs.declared.board_run.BoardRun.{BoardRun}
use Rattle.script_plans.specs.declared.board_run.ClientPart.{ClientPart}
use Rattle.transcript_reader.specs.declared.shown.Shown.{Shown}
use Rattle.board_history.specs.Runs.{opens_with}
use Rattle.transaction_codec.specs.declared.room.TheConstants.{LONGEST_BODY}
use Rattle.board_specs.specs.declared.spec.BoardSpec.{BoardSpec}
use Rattle.script_steps.specs.declared.operation.Step.{Step}
use Rattle.lane_record.specs.declared.outcome.Outcome.TheVariants.{Replied}
use Rattle.board_history.specs.Order.{Placed, bodies_in, by_place, insert, with_place}
use Rattle.board_history.proofs.Sorting.{all_sorted}
use Rattle.run_audit.specs.declared.replaying.PlacedBody.{PlacedBody}
use Rattle.run_audit.specs.declared.replaying.PlacedReply.{PlacedReply}
use Rattle.run_audit.specs.declared.replaying.BoardPieces.{BoardPieces}
use Rattle.run_audit.specs.AskedLines.{AskedLine, ShownPiece, pieces_shown, with_places}
use Rattle.run_audit.specs.AskedLines as of_line
use Rattle.run_audit.specs.Replay.{all_placed_from, outcomes_from, parts_from, place_shown, placed_from, replied_at}
use Rattle.run_audit.specs.Replay.{replay_of_board, reply_at, shown_order}
use Rattle.run_audit.specs.Replaying.{outcome_among, parts_among, placed_in_row, placed_in_rows, placed_of}
use Rattle.run_audit.specs.Replaying.{replies_from, reply_among, row_from, rows_from, AreShort, HasShortBodies, Rise}
use Rattle.run_audit.proofs.Marking.{all_are_marked}
use Rattle.run_audit.specs.Replaying.{all_marked, no_places, pieces_in, runs_among, shown_from}
use Rattle.run_audit.specs.Steps.{AreOf, plans_from, planned_pieces, planned_shown, replays_from}
use Rattle.run_audit.proofs.PlansMade.{planned_pieces_are}
use Rattle.run_audit.proofs.ByPlace.{either}
use Rattle.run_audit.proofs.ByPlace as sorting

-- ---- the bodies with a place

placed_row : (pieces : List ShownPiece) (client number : ℕ) (bodies : List (List ℕ))
    → placed_in_row bodies (row_from pieces client number bodies) ≡ placed_from pieces client number bodies
placed_row pieces client number [] = refl
placed_row pieces client number (body ∷ bodies) =
    let rest = placed_row pieces client (number + 1) bodies in
    cc

pub placed_rows : (pieces : List ShownPiece) (client : ℕ) (plans : List ClientBodies)
    → placed_in_rows plans (rows_from pieces client plans) ≡ all_placed_from pieces client plans
placed_rows pieces client [] = refl
placed_rows pieces client (plan ∷ plans) =
    let first = placed_row pieces client 0 plan.bodies in
    let rest = placed_rows pieces (client + 1) plans in
    cc

-- ---- their order

abbrev pub place_in : PlacedBody → ℕ
place_in body = body.place

abbrev pub reply_place : PlacedReply → ℕ
reply_place reply = reply.place

abbrev pub place_at : Placed → ℕ
place_at placed = placed.place

chosen : (b : Bool) (one other : List PlacedBody) (first second : List Placed) → map placed_of one ≡ first
    → map placed_of other ≡ second → map placed_of (cond b one other) ≡ cond b first second
chosen true one other first second e f = e
chosen false one other first second e f = f

inserted_there : (x : PlacedBody) (ys : List PlacedBody)
    → map placed_of (sorting.inserted place_in x ys) ≡ insert (placed_of x) (map placed_of ys)
inserted_there x [] = refl
inserted_there x (y ∷ ys) =
    chosen (nat_le x.place y.place) (x ∷ (y ∷ ys)) (y ∷ sorting.inserted place_in x ys)
    (placed_of x ∷ (placed_of y ∷ map placed_of ys)) (placed_of y ∷ insert (placed_of x) (map placed_of ys)) refl
    (ap (λ rest. placed_of y ∷ rest) (inserted_there x ys))

pub sorted_there : (xs : List PlacedBody) → map placed_of (sorting.sorted place_in xs) ≡ by_place (map placed_of xs)
sorted_there [] = refl
sorted_there (x ∷ xs) =
    inserted_there x (sorting.sorted place_in xs) ∙ ap (insert (placed_of x)) (sorted_there xs)

inserted_is : (x : Placed) (ys : List Placed) → sorting.inserted place_at x ys ≡ insert x ys
inserted_is x [] = refl
inserted_is x (y ∷ ys) = ap (λ rest. cond (nat_le x.place y.place) (x ∷ (y ∷ ys)) (y ∷ rest)) (inserted_is x ys)

sorted_is : (xs : List Placed) → sorting.sorted place_at xs ≡ by_place xs
sorted_is [] = refl
sorted_is (x ∷ xs) = inserted_is x (sorting.sorted place_at xs) ∙ ap (insert x) (sorted_is xs)

pub order_rises : (xs : List Placed) → sorting.Rise place_at (by_place xs)
order_rises xs = subst (λ l. sorting.Rise place_at l) (sorted_is xs) (sorting.rise_sorted place_at xs)

-- ---- what the bus executes

abbrev IsShort : Placed → Type 0
IsShort placed = length placed.body ≤ LONGEST_BODY

all_append : {A : Type 0} (P : A → Type 0) (xs ys : List A) → AllByRecursion P xs → AllByRecursion P ys
    → AllByRecursion P (xs ++ ys)
all_append P [] ys all also = also
all_append P (x ∷ xs) ys all also = (all.0, all_append P xs ys all.1 also)

with_place_short : (body : List ℕ) (known : Option ℕ) → length body ≤ LONGEST_BODY
    → AllByRecursion IsShort (with_place body known)
with_place_short body None short = tt
with_place_short body (Some place) short = (short, tt)

row_short : (bodies : List (List ℕ)) (row : List (Option ℕ)) → AreShort bodies
    → AllByRecursion IsShort (placed_in_row bodies row)
row_short [] row short = tt
row_short (body ∷ bodies) [] short = tt
row_short (body ∷ bodies) (known ∷ row) short =
    all_append IsShort (with_place body known) (placed_in_row bodies row) (with_place_short body known short.0)
    (row_short bodies row short.1)

rows_short : (plans : List ClientBodies) (rows : List (List (Option ℕ))) → AllByRecursion HasShortBodies plans
    → AllByRecursion IsShort (placed_in_rows plans rows)
rows_short [] rows short = tt
rows_short (plan ∷ plans) [] short = tt
rows_short (plan ∷ plans) (row ∷ rows) short =
    all_append IsShort (placed_in_row plan.bodies row) (placed_in_rows plans rows)
    (row_short plan.bodies row short.0) (rows_short plans rows short.1)

bodies_short : (order : List Placed) → AllByRecursion IsShort order → AreShort (bodies_in order)
bodies_short [] all = tt
bodies_short (placed ∷ order) all = (all.0, bodies_short order all.1)

pub order_is_short : (plans : List ClientBodies) (rows : List (List (Option ℕ)))
    → AllByRecursion HasShortBodies plans → AreShort (bodies_in (by_place (placed_in_rows plans rows)))
order_is_short plans rows short =
    bodies_short (by_place (placed_in_rows plans rows))
    (all_sorted IsShort (placed_in_rows plans rows) (rows_short plans rows short))

-- ---- replies

replies_not_below : (k : ℕ) (cells : CellMap) (order : List Placed) → AllByRecursion (λ (p : Placed). k ≤ p.place) order
    → AllByRecursion (λ (r : PlacedReply). k ≤ r.place) (replies_from cells order)
replies_not_below k cells [] all = tt
replies_not_below k cells (placed ∷ order) all =
    (all.0, replies_not_below k (run_body cells placed.body).cells order all.1)

pub replies_rise : (cells : CellMap) (order : List Placed) → sorting.Rise place_at order
    → Rise (replies_from cells order)
replies_rise cells [] up = tt
replies_rise cells (placed ∷ order) up = (
  replies_not_below placed.place (run_body cells placed.body).cells order up.0,
  replies_rise (run_body cells placed.body).cells order up.1,
)

reply_is : (cells : CellMap) (order : List Placed) (place : ℕ)
    → reply_among (replies_from cells order) place ≡ reply_at order (replay cells (bodies_in order)).replies place
reply_is cells [] place = refl
reply_is cells (placed ∷ order) place =
    ap (λ rest. cond (placed.place == place) (run_body cells placed.body).reply rest)
    (reply_is (run_body cells placed.body).cells order place)

-- ---- parts

outcome_is : (opening : CellMap) (order : List Placed) (known : Option ℕ)
    → outcome_among (replies_from opening order) known ≡ replied_at opening order known
outcome_is opening order None = refl
outcome_is opening order (Some place) = ap (Replied place) (reply_is opening order place)

outcomes_are : (opening : CellMap) (order : List Placed) (pieces : List ShownPiece) (client number : ℕ)
    (bodies : List (List ℕ))
    → map (outcome_among (replies_from opening order)) (row_from pieces client number bodies)
    ≡ outcomes_from opening order pieces client number bodies
outcomes_are opening order pieces client number [] = refl
outcomes_are opening order pieces client number (body ∷ bodies) =
    let first = outcome_is opening order (place_shown pieces client number) in
    let rest = outcomes_are opening order pieces client (number + 1) bodies in
    cc

pub parts_are : (opening : CellMap) (order : List Placed) (pieces : List ShownPiece) (client : ℕ)
    (plans : List ClientBodies)
    → parts_among (replies_from opening order) plans (rows_from pieces client plans)
    ≡ parts_from opening order pieces client plans
parts_are opening order pieces client [] = refl
parts_are opening order pieces client (plan ∷ plans) =
    let first = outcomes_are opening order pieces client 0 plan.bodies in
    let rest = parts_are opening order pieces (client + 1) plans in
    rw (first, rest)

-- ---- finding a reply

among_past : (replies : List PlacedReply) (place : ℕ) → AllByRecursion (λ (r : PlacedReply). place < r.place) replies
    → reply_among replies place ≡ []
among_past [] place all = refl
among_past (reply ∷ replies) place all =
    either (λ (l : List ℕ). l ≡ []) (reply.place == place) reply.words (reply_among replies place)
    (λ same. absurd (let e : reply.place ≡ place = grind (arith, nat_tests) in omega (arith, all.0)))
    (λ _. among_past replies place all.1)

skipped : (reply : PlacedReply) (replies : List PlacedReply) (place : ℕ) → reply.place ≢ place
    → reply_among (reply ∷ replies) place ≡ reply_among replies place
skipped reply replies place other = grind (arith, nat_tests)

found_first : (reply : PlacedReply) (replies : List PlacedReply) (place : ℕ) → reply.place ≡ place
    → reply_among (reply ∷ replies) place ≡ reply.words
found_first reply replies place same = grind (arith, nat_tests)

abbrev pub AreBelow : ℕ → List PlacedReply → ℕ → Type 0
AreBelow place replies at = (k : ℕ) (d : PlacedReply) → k < at → (get_or replies k d).place < place

pub found_at : (replies : List PlacedReply) (place at : ℕ) (reply : PlacedReply) → AreBelow place replies at
    → slice_get replies at ≡ Some reply → reply.place ≡ place → reply_among replies place ≡ reply.words
found_at [] place at reply below there same = absurd cc
found_at (first ∷ replies) place zero reply below there same =
    let e : first ≡ reply = cc in
    found_first first replies place (ap (λ (r : PlacedReply). r.place) e ∙ same) ∙ ap (λ (r : PlacedReply). r.words) e
found_at (first ∷ replies) place (suc at) reply below there same =
    let low : first.place < place = below 0 first (omega arith) in
    skipped first replies place (omega arith)
    ∙ found_at replies place at reply (λ k d lt. below (suc k) d (omega arith)) there same

all_more : (place k : ℕ) (replies : List PlacedReply) → place < k
    → AllByRecursion (λ (r : PlacedReply). k ≤ r.place) replies → AllByRecursion (λ (r : PlacedReply). place < r.place) replies
all_more place k [] lt all = tt
all_more place k (reply ∷ replies) lt all = (omega (arith, all.0), all_more place k replies lt all.1)

pub none_at : (replies : List PlacedReply) (place at : ℕ) → Rise replies → AreBelow place replies at
    → ((reply : PlacedReply) → slice_get replies at ≡ Some reply → place < reply.place) → reply_among replies place ≡ []
none_at [] place at up below past = refl
none_at (first ∷ replies) place zero up below past =
    let lt : place < first.place = past first refl in
    among_past (first ∷ replies) place (lt, all_more place first.place replies lt up.0)
none_at (first ∷ replies) place (suc at) up below past =
    let low : first.place < place = below 0 first (omega arith) in
    skipped first replies place (omega arith)
    ∙ none_at replies place at up.1 (λ k d lt. below (suc k) d (omega arith)) past

same_rise : (replies : List PlacedReply) → Rise replies → sorting.Rise reply_place replies
same_rise [] up = tt
same_rise (reply ∷ replies) up = (up.0, same_rise replies up.1)

pub partitioned : (replies : List PlacedReply) (place : ℕ) → Rise replies
    → IsPartitionedBy (λ (r : PlacedReply). ltb r.place place) replies
partitioned replies place up =
    IsPartitionedBy-ltb reply_place replies place (sorting.rises reply_place replies (same_rise replies up))

-- where the replies to bodies before a place end
abbrev pub EndsBefore : List PlacedReply → ℕ → ℕ → Type 0
EndsBefore replies place at =
    IsPartitionPoint (λ (r : PlacedReply). ltb r.place place ≡ true) (λ (r : PlacedReply). ltb r.place place ≡ false)
    replies at

below_it : (replies : List PlacedReply) (place at : ℕ) → EndsBefore replies place at → AreBelow place replies at
below_it replies place at ends k d lt =
    let test = ends.0 k d (omega arith) lt in
    ltb-true (get_or replies k d).place place test

pub reply_found : (replies : List PlacedReply) (place at : ℕ) (reply : PlacedReply) → EndsBefore replies place at
    → at < length replies → reply ≡ get_or replies at reply → reply.place ≡ place
    → reply.words ≡ reply_among replies place
reply_found replies place at reply ends within is same =
    sym (found_at replies place at reply (below_it replies place at ends)
    (slice_get_read replies (length replies) at reply refl within is) same)

pub reply_missed : (replies : List PlacedReply) (place at : ℕ) (reply : PlacedReply) → Rise replies
    → EndsBefore replies place at → at < length replies → reply ≡ get_or replies at reply → reply.place ≢ place
    → [] ≡ reply_among replies place
reply_missed replies place at reply up ends within is other =
    sym (none_at replies place at up (below_it replies place at ends) (λ found there.
    let e : found ≡ reply = same_Some found reply (sym there ∙ slice_get_read replies (length replies) at reply refl within is) in
    let test : ltb reply.place place ≡ false = rw is (ends.1 at reply (omega arith) within) in
    let high : place ≤ reply.place = grind (arith, nat_tests) in
    rw e (omega arith)))

pub replies_end : (replies : List PlacedReply) (place at : ℕ) → Rise replies → EndsBefore replies place at
    → length replies ≤ at → [] ≡ reply_among replies place
replies_end replies place at up ends past =
    sym (none_at replies place at up (below_it replies place at ends) (λ found there.
    absurd (omega (arith, slice_get_within replies at found there))))

-- ---- boards

pub one_more : {A B : Type 0} (f : A → B) (xs : List A) (x : A) (front rest whole : List B) → map f xs ++ front ≡ whole
    → front ≡ f x ∷ rest → map f (xs ++ x ∷ []) ++ rest ≡ whole
one_more f xs x front rest whole so_far next =
    ap (λ l. l ++ rest) (map-append f xs (x ∷ []))
    ∙ (append_assoc (map f xs) (f x ∷ []) rest ∙ (ap (λ l. map f xs ++ l) (sym next) ∙ so_far))

pub all_dropped : {A : Type 0} (xs : List A) (k : ℕ) → length xs ≤ k → drop k xs ≡ []
all_dropped [] zero past = refl
all_dropped [] (suc k) past = refl
all_dropped (x ∷ xs) zero past = absurd (omega arith)
all_dropped (x ∷ xs) (suc k) past = all_dropped xs k (omega arith)

pub pieces_pushed : (boards : List BoardSpec) (scripts : List (List Step)) (lines : List AskedLine) (board : ℕ)
    (plans : List (List ClientBodies)) (plan : List ClientBodies) (all : List BoardPieces) (next : BoardPieces)
    (whole : List (List ShownPiece)) → board < length plans → plan ≡ get_or plans board plan
    → pieces_in next ≡ pieces_shown boards scripts board lines
    → map pieces_in all ++ shown_from boards scripts lines board (drop board plans) ≡ whole
    → map pieces_in (all ++ next ∷ []) ++ shown_from boards scripts lines (board + 1) (drop (board + 1) plans) ≡ whole
pieces_pushed boards scripts lines board plans plan all next whole within is shown so_far =
    one_more pieces_in all next (shown_from boards scripts lines board (drop board plans))
    (shown_from boards scripts lines (board + 1) (drop (board + 1) plans)) whole so_far
    (ap (shown_from boards scripts lines board) (begins_at plans board plan within is)
    ∙ ap (λ first. first ∷ shown_from boards scripts lines (board + 1) (drop (board + 1) plans)) (sym shown))

pub pieces_done : (boards : List BoardSpec) (scripts : List (List Step)) (lines : List AskedLine) (board : ℕ)
    (plans : List (List ClientBodies)) (all whole : List (List ShownPiece)) → length plans ≤ board
    → all ++ shown_from boards scripts lines board (drop board plans) ≡ whole → all ≡ whole
pieces_done boards scripts lines board plans all whole past so_far =
    sym (append-nil all)
    ∙ (ap (λ l. all ++ l) (sym (ap (shown_from boards scripts lines board) (all_dropped plans board past))) ∙ so_far)

pub runs_are : (boards : List BoardSpec) (scripts : List (List Step)) (lines : List AskedLine) (board : ℕ)
    (specs : List BoardSpec)
    → runs_among specs (plans_from board specs scripts) (shown_from boards scripts lines board (plans_from board specs scripts))
    ≡ replays_from boards scripts lines board specs
runs_are boards scripts lines board [] = refl
runs_are boards scripts lines board (spec ∷ specs) =
    ap (λ rest. replay_of_board boards scripts lines spec board ∷ rest) (runs_are boards scripts lines (board + 1) specs)

pub all_runs : (boards : List BoardSpec) (scripts : List (List Step)) (shown : Shown) (lines : List AskedLine)
    (plans : List (List ClientBodies)) (pieces : List (List ShownPiece)) (runs : List BoardRun)
    → AreOf boards scripts shown plans lines → pieces ≡ shown_from boards scripts lines 0 plans
    → runs ≡ runs_among boards plans pieces → runs ≡ replays_from boards scripts lines 0 boards
all_runs boards scripts shown lines plans pieces runs of told made =
    made ∙ (ap (runs_among boards plans) told
    ∙ (ap (λ p. runs_among boards p (shown_from boards scripts lines 0 p)) of.plans'
    ∙ runs_are boards scripts lines 0 boards))

no_rows : (replies : List PlacedReply) (plans : List ClientBodies) → parts_among replies plans [] ≡ []
no_rows replies [] = refl
no_rows replies (plan ∷ plans) = refl

pub parts_done : (replies : List PlacedReply) (plans : List ClientBodies) (rows : List (List (Option ℕ))) (at : ℕ)
    (parts whole : List ClientPart) → length rows ≤ at → parts ++ parts_among replies plans (drop at rows) ≡ whole
    → parts ≡ whole
parts_done replies plans rows at parts whole past so_far =
    sym (append-nil parts)
    ∙ (ap (λ l. parts ++ l) (sym (ap (parts_among replies plans) (all_dropped rows at past) ∙ no_rows replies plans))
    ∙ so_far)

-- ---- one board

pub run_is : (spec : BoardSpec) (plans : List ClientBodies) (pieces : List ShownPiece) (rows : List (List (Option ℕ)))
    (replies : List PlacedReply) (parts : List ClientPart) → rows ≡ rows_from pieces 0 plans
    → replies ≡ replies_from (opens_with spec.link) (by_place (placed_in_rows plans rows))
    → parts ≡ parts_among replies plans rows
    → parts ≡ parts_from (opens_with spec.link) (shown_order pieces plans) pieces 0 plans
run_is spec plans pieces rows replies parts marked told made =
    let order = ap by_place (placed_rows pieces 0 plans) in
    let known : replies ≡ replies_from (opens_with spec.link) (shown_order pieces plans) =
    told ∙ ap (replies_from (opens_with spec.link)) (ap (λ r. by_place (placed_in_rows plans r)) marked ∙ order) in
    made ∙ (ap (λ r. parts_among r plans rows) known
    ∙ (ap (parts_among (replies_from (opens_with spec.link) (shown_order pieces plans)) plans) marked
    ∙ parts_are (opens_with spec.link) (shown_order pieces plans) pieces 0 plans))

pub same_run : (name name' : List ℕ) (greeting greeting' : Greeting) (parts parts' : List ClientPart) → name ≡ name'
    → greeting ≡ greeting' → parts ≡ parts'
    → ◌≡◌ {A = BoardRun} (record { name = name; greeting = greeting; parts = parts })
    (record { name = name'; greeting = greeting'; parts = parts' })
same_run name name' greeting greeting' parts parts' e f g = cc

-- ---- written back

taken_all : {A : Type 0} (xs : List A) (k : ℕ) → length xs ≡ k → take k xs ≡ xs
taken_all [] zero same = refl
taken_all [] (suc k) same = refl
taken_all (x ∷ xs) zero same = absurd (omega arith)
taken_all (x ∷ xs) (suc k) same = ap (λ rest. x ∷ rest) (taken_all xs k (omega arith))

pub written : {A : Type 0} (len : ℕ) (items new : List A) → length new ≡ len → length items ≡ len
    → take len (new ++ drop (length new) items) ≡ new
written len items new same level =
    ap (take len) (ap (λ l. new ++ l) (all_dropped items (length new) (omega arith)) ∙ append-nil new)
    ∙ taken_all new len same

pub rows_are : (rows new rows' : List (List (Option ℕ))) (pieces : List ShownPiece) (plans : List ClientBodies) (at : ℕ)
    → rows ++ map (λ (plan : ClientBodies). no_places plan.bodies) (drop at plans)
    ≡ map (λ (plan : ClientBodies). no_places plan.bodies) plans → length plans ≤ at → rows' ≡ rows
    → new ≡ all_marked pieces rows' → new ≡ rows_from pieces 0 plans
rows_are rows new rows' pieces plans at so_far past same marks =
    let all : rows ≡ map (λ (plan : ClientBodies). no_places plan.bodies) plans =
    sym (append-nil rows)
    ∙ (ap (λ l. rows ++ l) (sym (ap (map (λ (plan : ClientBodies). no_places plan.bodies)) (all_dropped plans at past)))
    ∙ so_far) in
    marks ∙ (ap (all_marked pieces) (same ∙ all) ∙ all_are_marked pieces plans)

pub shown_is : (boards : List BoardSpec) (scripts : List (List Step)) (plans : List (List ClientBodies))
    (lines : List AskedLine) (board : ℕ) → plans ≡ plans_from 0 boards scripts
    → planned_shown plans board lines ≡ pieces_shown boards scripts board lines
shown_is boards scripts plans [] board of = refl
shown_is boards scripts plans (asking ∷ lines) board of =
    let pieces = ap (λ p. planned_pieces p asking) of ∙ planned_pieces_are boards scripts asking in
    let here = ap (λ ps. cond (asking.ask.op.board == board) (with_places asking ps asking.shows.1) []) pieces in
    let rest = shown_is boards scripts plans lines board of in
    ap (λ l. l ++ planned_shown plans board lines) here ∙ ap (λ l. of_line.pieces_in boards scripts board asking ++ l) rest
