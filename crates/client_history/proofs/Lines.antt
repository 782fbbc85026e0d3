-- What the line of a board counts, and what its bodies took that were given up or lost.
use Rattle.std.proofs.Common.{◌≡◌, ℕ, ◌+◌, ◌*◌, ◌≤◌, Bool, true, false, cond, ◌||◌, List, [], ◌∷◌}
use Rattle.std.proofs.Common.{Some, None, refl, sym, ap, subst, ◌∙◌, arith}
use Rattle.std.specs.List.{AllByRecursion, count_by, flat_map}
use Rattle.ipb_base.proofs.AllLemmas.{AllByRecursion-append}
use Rattle.world_model.specs.Board.{Board, bodies_executed}
use Rattle.board_specs.specs.declared.spec.BoardSpec.{BoardSpec}
use Rattle.world_model.specs.Settings.{Limits}
use Rattle.lane_record.specs.declared.outcome.Outcome.{Outcome}
use Rattle.lane_record.specs.declared.outcome.Outcome.TheVariants.{Replied, TimedOut, Unsent, LinkLost}
use Rattle.lane_record.specs.Outcomes.{is_given_up, is_replied, is_sent, is_timed_out}
use Rattle.lane_record.specs.Submissions.{Submission}
use Rattle.script_plans.specs.declared.greeting.Greeting.{Greeting}
use Rattle.script_plans.specs.declared.greeting.Greeting.TheVariants.{Live, Silent, Down}
use Rattle.transcript.specs.declared.line.BoardLine.{BoardLine}
use Rattle.transcript.specs.declared.line.BoardLine.TheVariants as board_lines
use Rattle.transcript.specs.Lines.{board_line, is_lost, live_line}
use Rattle.script_plans.specs.Runs.{outcomes_on}
use Rattle.board_history.specs.GiveUps.{IsExact, time_outs, times_given_up, was_given_up}
use Rattle.board_history.specs.History.{dispatches_by_client}
use Rattle.board_history.specs.Runs.{opens_with}
use Rattle.board_history.specs.Links.{HasFailed, IsLostOnlyIfFailed, LinkReport, board_there}
use Rattle.board_history.specs.Receives.{IsReplyBrought, quiets_since_status}
use Rattle.board_history.specs.LinkRuns.{IsAsTold, IsTrueRun, RepliesCame, TimeOutsWaited}
use Rattle.board_history.proofs.BoardLines.{line_at, line_heard, line_waited}
use Rattle.board_history.proofs.LaneShown.{some_then}
use Rattle.board_history.proofs.Waits.{count_cons}
use Rattle.client_history.specs.Connections.{dispatches_of, outcomes_of}
use Rattle.client_history.specs.Boards.{IsAskedOnlyIfLive, IsServedOver, ServedBoard, run_of}
use Rattle.client_history.specs.Shown.{GaveUpOnlyAfterRounds, HasLostOnlyIfFailed, IsAddedUp, IsNotLostUnlessFailed}
use Rattle.client_history.specs.Shown.{IsReplyCarried, OfEach, given_up}
use Rattle.client_history.proofs.Parts.{all_outcomes, dispatches_shown, flat_again, one_dispatch_each, outcomes_shown}
use Rattle.client_history.proofs.Parts.{same_dispatches}
use Rattle.board_history.proofs.Told.{of_telling}

-- ---- what a line counts

abbrev line_of_outcomes : BoardSpec → List Outcome → BoardLine
line_of_outcomes spec outcomes = live_line spec.name outcomes

pub live_counts : (spec : BoardSpec) (served : ServedBoard) (payload : ℕ) → served.told ≡ Live payload
    → board_line (run_of spec served)
    ≡ board_lines.Live spec.name (count_by is_sent (flat_map outcomes_of served.connections))
    (count_by is_replied (flat_map outcomes_of served.connections))
    (count_by is_timed_out (flat_map outcomes_of served.connections))
    (count_by is_lost (flat_map outcomes_of served.connections))
live_counts spec served payload told =
    ap (line_at (run_of spec served)) told ∙ ap (line_of_outcomes spec) (all_outcomes served.connections)

one_of_three : (o : Outcome) → cond (is_sent o) 1 0
    ≡ cond (is_replied o) 1 0 + cond (is_timed_out o) 1 0 + cond (is_lost o) 1 0
one_of_three (Replied place words) = refl
one_of_three (TimedOut place rounds) = refl
one_of_three Unsent = refl
one_of_three (LinkLost None) = refl
one_of_three (LinkLost (Some place)) = refl

counts_add_up : (os : List Outcome)
    → count_by is_sent os ≡ count_by is_replied os + count_by is_timed_out os + count_by is_lost os
counts_add_up [] = refl
counts_add_up (o ∷ os) =
    let a = count_cons is_sent o os in
    let b = count_cons is_replied o os in
    let c = count_cons is_timed_out o os in
    let d = count_cons is_lost o os in
    let e = one_of_three o in
    let later = counts_add_up os in
    omega (arith, a, b, c, d, e, later)

adds_up_as : (spec : BoardSpec) (served : ServedBoard) (told : Greeting)
    → IsAddedUp (line_at (run_of spec served) told)
adds_up_as spec served (Live payload) = counts_add_up (outcomes_on (run_of spec served))
adds_up_as spec served Silent = tt
adds_up_as spec served Down = tt

pub adds_up : (spec : BoardSpec) (served : ServedBoard) → IsAddedUp (board_line (run_of spec served))
adds_up spec served = adds_up_as spec served served.told

-- ---- timeouts

time_outs_shown : (spec : BoardSpec) (served : ServedBoard)
    → time_outs (dispatches_by_client (run_of spec served)) ≡ count_by is_timed_out (outcomes_on (run_of spec served))
time_outs_shown spec served =
    ap time_outs (same_dispatches served.connections) ∙ ap (count_by is_timed_out) (flat_again served.connections)

pub waited : (settings : Limits) (spec : BoardSpec) (served : ServedBoard) (link : LinkReport)
    → IsServedOver settings spec served link → TimeOutsWaited settings (board_line (run_of spec served)) link
waited settings spec served link is =
    line_waited settings spec (run_of spec served) link served.told (time_outs_shown spec served) is.as_told

-- ---- replies

pub heard : (settings : Limits) (spec : BoardSpec) (served : ServedBoard) (link : LinkReport)
    → IsServedOver settings spec served link → RepliesCame (board_line (run_of spec served)) link
heard settings spec served link is = line_heard settings spec (run_of spec served) link served.told is.as_told

-- ---- each connection's

or_false : (b : Bool) → (b || false) ≡ b
or_false true = refl
or_false false = refl

times_are : (s : List Submission) → times_given_up (dispatches_of s) ≡ given_up s
times_are [] = refl
times_are (x ∷ xs) =
    count_cons was_given_up (x.outcome ∷ []) (dispatches_of xs)
    ∙ ap (λ (b : Bool). cond b 1 0 + times_given_up (dispatches_of xs)) (or_false (is_given_up x.outcome))
    ∙ ap (λ (n : ℕ). cond (is_given_up x.outcome) 1 0 + n) (times_are xs)
    ∙ sym (count_cons (λ (y : Submission). is_given_up y.outcome) x xs)

abbrev Paid : ℕ → ℕ → List (List Submission) → Type 0
Paid cost paid connections = AllByRecursion (λ (s : List Submission). cost * given_up s ≤ paid) connections

all_paid : (cost paid : ℕ) (connections : List (List Submission))
    → AllByRecursion (λ (d : List (List Outcome)). cost * times_given_up d ≤ paid) (dispatches_shown connections)
    → Paid cost paid connections
all_paid cost paid [] all = tt
all_paid cost paid (s ∷ ss) all = (
  subst (λ (n : ℕ). cost * n ≤ paid) (ap times_given_up (one_dispatch_each s) ∙ times_are s) all.0,
  all_paid cost paid ss all.1,
)

nothing_paid : (cost paid : ℕ) → cost * 0 ≤ paid
nothing_paid cost paid = omega arith

none_paid : (cost paid : ℕ) (connections : List (List Submission))
    → AllByRecursion (λ (s : List Submission). s ≡ []) connections → Paid cost paid connections
none_paid cost paid [] none = tt
none_paid cost paid (s ∷ ss) none = (
  subst (λ (x : List Submission). cost * given_up x ≤ paid) (sym none.0) (nothing_paid cost paid),
  none_paid cost paid ss none.1,
)

paid_as : (settings : Limits) (spec : BoardSpec) (served : ServedBoard) (link : LinkReport) (told : Greeting)
    → IsAskedOnlyIfLive told served.connections → IsAsTold settings spec (run_of spec served) link told
    → GaveUpOnlyAfterRounds settings link served.connections
paid_as settings spec served link (Live payload) asked is = record {
  quiets' = λ exact. all_paid (settings.rounds + 1) link.quiets served.connections
      (is.any_link.rounds.dispatches exact);
  since = all_paid (settings.rounds + 1) (quiets_since_status link) served.connections
      is.any_link.rounds_since.dispatches;
  held' = of_telling (IsExact link.held → Paid settings.rounds link.held served.connections) link.telling
      (some_then (IsTrueRun settings (opens_with spec.link) (run_of spec served) link.held)
      (λ (b : Board). IsExact link.held → Paid settings.rounds link.held served.connections) (board_there link.telling)
      (λ b true' exact. all_paid settings.rounds link.held served.connections (true'.held'.dispatches exact)) is.told);
}
paid_as settings spec served link Silent asked is = record {
  quiets' = λ exact. none_paid (settings.rounds + 1) link.quiets served.connections asked;
  since = none_paid (settings.rounds + 1) (quiets_since_status link) served.connections asked;
  held' = some_then (λ _. settings.rounds ≤ link.held)
      (λ _. IsExact link.held → Paid settings.rounds link.held served.connections) link.telling
      (λ t waited exact. none_paid settings.rounds link.held served.connections asked) is.held;
}
paid_as settings spec served link Down asked is = record {
  quiets' = λ exact. none_paid (settings.rounds + 1) link.quiets served.connections asked;
  since = none_paid (settings.rounds + 1) (quiets_since_status link) served.connections asked;
  held' = of_telling (IsExact link.held → Paid settings.rounds link.held served.connections) link.telling
      (some_then (λ (b : Board). bodies_executed b ≡ [])
      (λ (b : Board). IsExact link.held → Paid settings.rounds link.held served.connections) (board_there link.telling)
      (λ b none exact. none_paid settings.rounds link.held served.connections asked) is.untouched);
}

pub paid : (settings : Limits) (spec : BoardSpec) (served : ServedBoard) (link : LinkReport)
    → IsServedOver settings spec served link → GaveUpOnlyAfterRounds settings link served.connections
paid settings spec served link is = paid_as settings spec served link served.told is.asked is.as_told

-- ---- lost with the link

lost_one : (link : LinkReport) (os : List Outcome) → AllByRecursion (IsLostOnlyIfFailed link) os
    → 1 ≤ count_by is_lost os → HasFailed link
lost_one link [] all some = absurd (omega (arith, some))
lost_one link (LinkLost (Some place) ∷ os) all some = all.0 refl
lost_one link (LinkLost None ∷ os) all some = all.0 refl
lost_one link (Replied place words ∷ os) all some =
    let here = count_cons is_lost (Replied place words) os in lost_one link os all.1 (omega (arith, some, here))
lost_one link (TimedOut place rounds ∷ os) all some =
    let here = count_cons is_lost (TimedOut place rounds) os in lost_one link os all.1 (omega (arith, some, here))
lost_one link (Unsent ∷ os) all some =
    let here = count_cons is_lost Unsent os in lost_one link os all.1 (omega (arith, some, here))

in_one_list : (P : Outcome → Type 0) (connections : List (List Submission))
    → AllByRecursion (AllByRecursion P) (outcomes_shown connections)
    → AllByRecursion P (flat_map outcomes_of connections)
in_one_list P [] all = tt
in_one_list P (s ∷ ss) all =
    AllByRecursion-append P (outcomes_of s) (flat_map outcomes_of ss) all.0 (in_one_list P ss all.1)

lost_as : (settings : Limits) (spec : BoardSpec) (served : ServedBoard) (link : LinkReport) (told : Greeting)
    → IsAsTold settings spec (run_of spec served) link told
    → HasLostOnlyIfFailed (line_at (run_of spec served) told) link
lost_as settings spec served link (Live payload) is = λ some.
    lost_one link (outcomes_on (run_of spec served))
    (subst (AllByRecursion (IsLostOnlyIfFailed link)) (sym (all_outcomes served.connections))
    (in_one_list (IsLostOnlyIfFailed link) served.connections is.any_link.lost)) some
lost_as settings spec served link Silent is = λ some. absurd (omega (arith, some))
lost_as settings spec served link Down is = λ some. absurd (omega (arith, some))

pub lost_line : (settings : Limits) (spec : BoardSpec) (served : ServedBoard) (link : LinkReport)
    → IsServedOver settings spec served link → HasLostOnlyIfFailed (board_line (run_of spec served)) link
lost_line settings spec served link is = lost_as settings spec served link served.told is.as_told

-- ---- what holds of each outcome holds of each body

of_one : (P : Outcome → Type 0) (s : List Submission) → AllByRecursion P (outcomes_of s)
    → AllByRecursion (λ (x : Submission). P x.outcome) s
of_one P [] all = tt
of_one P (x ∷ xs) all = (all.0, of_one P xs all.1)

pub of_each : (P : Outcome → Type 0) (connections : List (List Submission))
    → AllByRecursion (AllByRecursion P) (outcomes_shown connections)
    → OfEach (λ (x : Submission). P x.outcome) connections
of_each P [] all = tt
of_each P (s ∷ ss) all = (of_one P s all.0, of_each P ss all.1)

of_none : (P : Submission → Type 0) (connections : List (List Submission))
    → AllByRecursion (λ (s : List Submission). s ≡ []) connections → OfEach P connections
of_none P [] none = tt
of_none P (s ∷ ss) none = (subst (AllByRecursion P) (sym none.0) tt, of_none P ss none.1)

bodies_as : (settings : Limits) (spec : BoardSpec) (served : ServedBoard) (link : LinkReport) (told : Greeting)
    → IsAskedOnlyIfLive told served.connections → IsAsTold settings spec (run_of spec served) link told
    → OfEach (IsNotLostUnlessFailed link) served.connections
bodies_as settings spec served link (Live payload) asked is =
    of_each (IsLostOnlyIfFailed link) served.connections is.any_link.lost
bodies_as settings spec served link Silent asked is = of_none (IsNotLostUnlessFailed link) served.connections asked
bodies_as settings spec served link Down asked is = of_none (IsNotLostUnlessFailed link) served.connections asked

pub lost_bodies : (settings : Limits) (spec : BoardSpec) (served : ServedBoard) (link : LinkReport)
    → IsServedOver settings spec served link → OfEach (IsNotLostUnlessFailed link) served.connections
lost_bodies settings spec served link is =
    bodies_as settings spec served link served.told is.asked is.as_told

-- ---- the words of replies

words_as : (settings : Limits) (spec : BoardSpec) (served : ServedBoard) (link : LinkReport) (told : Greeting)
    → IsAskedOnlyIfLive told served.connections → IsAsTold settings spec (run_of spec served) link told
    → OfEach (IsReplyCarried link) served.connections
words_as settings spec served link (Live payload) asked is =
    of_each (IsReplyBrought link) served.connections is.any_link.words
words_as settings spec served link Silent asked is = of_none (IsReplyCarried link) served.connections asked
words_as settings spec served link Down asked is = of_none (IsReplyCarried link) served.connections asked

pub words_carried : (settings : Limits) (spec : BoardSpec) (served : ServedBoard) (link : LinkReport)
    → IsServedOver settings spec served link → OfEach (IsReplyCarried link) served.connections
words_carried settings spec served link is =
    words_as settings spec served link served.told is.asked is.as_told
