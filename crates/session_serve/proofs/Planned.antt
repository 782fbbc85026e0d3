-- What a connection planned on a lane, whatever came of it: bodies of its frames, in their order.
use Rattle.std.proofs.Common.{◌≡◌, ◌∙◌, ℕ, ◌+◌, true, false, ◌==◌, if◌then◌else◌, List, [], ◌∷◌, ◌++◌, map, length}
use Rattle.std.proofs.Common.{Option, Some, None, inl, inr, refl, sym, ap, subst}
use Rattle.std.specs.List.{cons_option, filter_map}
use Rattle.std.proofs.lemmas.Bool.{eqb-true}
use Rattle.lane_record.specs.declared.item.Item.{Item}
use Rattle.lane_record.specs.declared.item.What.{What}
use Rattle.lane_record.specs.declared.item.What.TheVariants.{Plan, Seal, Ask, Took}
use Rattle.lane_record.specs.Items.{plan_in}
use Rattle.lane_record.specs.Dispatches.{Action, Asked, NumberedAction, Planned, Sealed, Taken, action_of}
use Rattle.lane_record.specs.Dispatches.{numbered_action}
use Rattle.lane_record.specs.Submissions.{Submission, submissions_from}
use Rattle.board_history.specs.Records.{planned_in}
use Rattle.board_history.specs.Merges.{IsSubsequence}
use Rattle.board_history.proofs.Merging.{sub_skip}
use Rattle.hub_framing.specs.Frames.{RequestFrame}
use Rattle.hub_lane.specs.declared.answers.BoardState.{BoardState}
use Rattle.hub_session.specs.declared.got.Got.{Got}
use Rattle.hub_session.specs.declared.got.Got.TheVariants.{NotAsked, Refused, Came}
use Rattle.hub_session.specs.Exchanges.{Exchange, LaneRequest, frames_of, request_of, submission_in, submissions_on}
use Rattle.hub_session.specs.Serving.{Reached, Looked, PlannedOnly, AskedToo, Exchanged, Unanswered}
use Rattle.hub_session.specs.Serving.{actions_for, actions_left, actions_of_got, actions_reached, frame_left}
use Rattle.session_serve.specs.Executed.{bodies_for, body_for}
use Rattle.session_serve.specs.Plans.{IsLaneAt}

-- ---- some items of a list, in their order

pub sub_append : (xs ys as' bs : List (List ℕ)) → IsSubsequence xs as' → IsSubsequence ys bs
    → IsSubsequence (xs ++ ys) (as' ++ bs)
sub_append [] ys [] bs s t = t
sub_append [] ys (a ∷ as') bs s t = sub_skip ys a (as' ++ bs) (sub_append [] ys as' bs tt t)
sub_append (x ∷ xs) ys [] bs s t = absurd s
sub_append (x ∷ xs) ys (a ∷ as') bs s t = elim s [
  | inl same ↦ inl (same.0, sub_append xs ys as' bs same.1 t)
  | inr later ↦ inr (sub_append (x ∷ xs) ys as' bs later t)
]

pub sub_trans : (xs ys zs : List (List ℕ)) → IsSubsequence xs ys → IsSubsequence ys zs → IsSubsequence xs zs
sub_trans [] ys zs s t = tt
sub_trans (x ∷ xs) [] zs s t = absurd s
sub_trans (x ∷ xs) (y ∷ ys) [] s t = absurd t
sub_trans (x ∷ xs) (y ∷ ys) (z ∷ zs) s t = elim t [
  | inl here ↦ elim s [
    | inl same ↦ inl (same.0 ∙ here.0, sub_trans xs ys zs same.1 here.1)
    | inr later ↦ inr (sub_trans (x ∷ xs) ys zs later here.1)
  ]
  | inr skipped ↦ inr (sub_trans (x ∷ xs) (y ∷ ys) zs s skipped)
]

skip_option : (target : Option (List ℕ)) (xs ys : List (List ℕ)) → IsSubsequence xs ys
    → IsSubsequence xs (cons_option target ys)
skip_option None xs ys s = s
skip_option (Some y) xs ys s = sub_skip xs y ys s

-- ---- the bodies that entries plan

abbrev said_body : Action → Option (List ℕ)
said_body (Planned body) = Some body
said_body Sealed = None
said_body Asked = None
said_body (Taken outcome) = None

abbrev pub bodies_said : List NumberedAction → List (List ℕ)
bodies_said actions = filter_map (λ (a : NumberedAction). said_body a.action) actions

is_said : (what : What) → plan_in what ≡ said_body (action_of what)
is_said (Plan body) = refl
is_said Seal = refl
is_said (Ask n) = refl
is_said (Took o n) = refl

pub planned_said : (xs : List Item) → filter_map planned_in xs ≡ bodies_said (map numbered_action xs)
planned_said [] = refl
planned_said (x ∷ xs) =
    ap (λ (o : Option (List ℕ)). cons_option o (filter_map planned_in xs)) (is_said x.what)
    ∙ ap (cons_option (said_body (action_of x.what))) (planned_said xs)

said_append : (as' bs : List NumberedAction) → bodies_said (as' ++ bs) ≡ bodies_said as' ++ bodies_said bs
said_append [] bs = refl
said_append (a ∷ as') bs = elim (said_body a.action) as
    (λ o. cons_option o (bodies_said (as' ++ bs)) ≡ cons_option o (bodies_said as') ++ bodies_said bs) [
      | None ↦ said_append as' bs
      | Some body ↦ ap (λ (l : List (List ℕ)). body ∷ l) (said_append as' bs)
    ]

submitted_said : (seq : ℕ) (submissions : List Submission)
    → bodies_said (submissions_from seq submissions) ≡ map (λ (s : Submission). s.body) submissions
submitted_said seq [] = refl
submitted_said seq (s ∷ ss) = ap (λ (l : List (List ℕ)). s.body ∷ l) (submitted_said (seq + 1) ss)

-- ---- the frames of a connection

-- a body for this lane is this one
abbrev IsForLane : ℕ → Option LaneRequest → Option (List ℕ) → Type 0
IsForLane lane request target =
    (body : List ℕ) → request ≡ Some (record { lane = lane; body = body }) → target ≡ Some body

on_lane : (lane : ℕ) (r : LaneRequest) (target : Option (List ℕ)) → IsForLane lane (Some r) target
    → (r.lane == lane) ≡ true → target ≡ Some r.body
on_lane lane r target is same = is r.body
    (ap (λ (n : ℕ). let there : LaneRequest = record { lane = n; body = r.body } in Some there)
    (eqb-true r.lane lane same))

take_option : (target : Option (List ℕ)) (body : List ℕ) (xs ys : List (List ℕ)) → target ≡ Some body
    → IsSubsequence xs ys → IsSubsequence (body ∷ xs) (cons_option target ys)
take_option target body xs ys is s =
    subst (λ (o : Option (List ℕ)). IsSubsequence (body ∷ xs) (cons_option o ys)) (sym is) (inl (refl, s))

abbrev bodies_submitted : List Submission → List (List ℕ)
bodies_submitted submissions = map (λ (s : Submission). s.body) submissions

one_submitted : (lane : ℕ) (request : Option LaneRequest) (got : Got) (target : Option (List ℕ))
    (more : List Submission) (rest : List (List ℕ)) → IsForLane lane request target
    → IsSubsequence (bodies_submitted more) rest
    → IsSubsequence (bodies_submitted (cons_option (submission_in lane request got) more)) (cons_option target rest)
one_submitted lane None got target more rest is s = skip_option target (bodies_submitted more) rest s
one_submitted lane (Some r) NotAsked target more rest is s = skip_option target (bodies_submitted more) rest s
one_submitted lane (Some r) (Refused why) target more rest is s = skip_option target (bodies_submitted more) rest s
one_submitted lane (Some r) (Came outcome) target more rest is s =
    let one : Submission = record { body = r.body; outcome = outcome } in
    elim (r.lane == lane) as
    (λ b. (r.lane == lane) ≡ b → IsSubsequence (bodies_submitted (cons_option (if b then Some one else None) more))
    (cons_option target rest)) [
      | true ↦ λ same. take_option target r.body (bodies_submitted more) rest (on_lane lane r target is same) s
      | false ↦ λ other. skip_option target (bodies_submitted more) rest s
    ] refl

submitted_sub : (boards : List BoardState) (lane position : ℕ) → IsLaneAt boards lane position
    → (exchanges : List Exchange)
    → IsSubsequence (bodies_submitted (submissions_on boards lane exchanges))
    (bodies_for position (frames_of exchanges))
submitted_sub boards lane position is [] = tt
submitted_sub boards lane position is (e ∷ exchanges) =
    one_submitted lane (request_of boards e.frame) e.got (body_for position e.frame)
    (submissions_on boards lane exchanges) (bodies_for position (frames_of exchanges)) (is e.frame)
    (submitted_sub boards lane position is exchanges)

-- the body of a frame without an answer, where it was planned
got_sub : (seq : ℕ) (body : List ℕ) (got : Got) (target : Option (List ℕ)) → target ≡ Some body
    → IsSubsequence (bodies_said (actions_of_got seq body got)) (cons_option target [])
got_sub seq body NotAsked target is = tt
got_sub seq body (Refused why) target is = tt
got_sub seq body (Came outcome) target is = take_option target body [] [] is tt

reached_sub : (seq : ℕ) (body : List ℕ) (reached : Reached) (target : Option (List ℕ)) → target ≡ Some body
    → IsSubsequence (bodies_said (actions_reached seq body reached)) (cons_option target [])
reached_sub seq body Looked target is = tt
reached_sub seq body PlannedOnly target is = take_option target body [] [] is tt
reached_sub seq body AskedToo target is = take_option target body [] [] is tt
reached_sub seq body (Exchanged got) target is = got_sub seq body got target is

left_for : (lane seq : ℕ) (request : Option LaneRequest) (reached : Reached) (target : Option (List ℕ))
    → IsForLane lane request target
    → IsSubsequence (bodies_said (actions_for lane seq request reached)) (cons_option target [])
left_for lane seq None reached target is = tt
left_for lane seq (Some r) reached target is = elim (r.lane == lane) as
    (λ b. (r.lane == lane) ≡ b
    → IsSubsequence (bodies_said (if b then actions_reached seq r.body reached else [])) (cons_option target [])) [
      | true ↦ λ same. reached_sub seq r.body reached target (on_lane lane r target is same)
      | false ↦ λ other. tt
    ] refl

left_sub : (boards : List BoardState) (lane position seq : ℕ) → IsLaneAt boards lane position
    → (unanswered : Option Unanswered)
    → IsSubsequence (bodies_said (actions_left boards lane seq unanswered))
    (bodies_for position (frame_left unanswered))
left_sub boards lane position seq is None = tt
left_sub boards lane position seq is (Some u) =
    left_for lane seq (request_of boards u.frame) u.reached (body_for position u.frame) (is u.frame)

bodies_append : (position : ℕ) (xs ys : List RequestFrame)
    → bodies_for position (xs ++ ys) ≡ bodies_for position xs ++ bodies_for position ys
bodies_append position [] ys = refl
bodies_append position (x ∷ xs) ys = elim (body_for position x) as
    (λ o. cons_option o (bodies_for position (xs ++ ys))
    ≡ cons_option o (bodies_for position xs) ++ bodies_for position ys) [
      | None ↦ bodies_append position xs ys
      | Some body ↦ ap (λ (l : List (List ℕ)). body ∷ l) (bodies_append position xs ys)
    ]

-- what a connection did on a lane plans bodies of its frames
pub planned_sub : (boards : List BoardState) (lane position : ℕ) → IsLaneAt boards lane position
    → (exchanges : List Exchange) (unanswered : Option Unanswered)
    → IsSubsequence (bodies_said (submissions_from 0 (submissions_on boards lane exchanges)
    ++ actions_left boards lane (length (submissions_on boards lane exchanges)) unanswered))
    (bodies_for position (frames_of exchanges ++ frame_left unanswered))
planned_sub boards lane position is exchanges unanswered =
    let submitted = submissions_on boards lane exchanges in
    let left = actions_left boards lane (length submitted) unanswered in
    let said : bodies_said (submissions_from 0 submitted ++ left) ≡ bodies_submitted submitted ++ bodies_said left =
    said_append (submissions_from 0 submitted) left
    ∙ ap (λ (l : List (List ℕ)). l ++ bodies_said left) (submitted_said 0 submitted) in
    subst (λ (l : List (List ℕ)). IsSubsequence l (bodies_for position (frames_of exchanges ++ frame_left unanswered)))
    (sym said) (subst (IsSubsequence (bodies_submitted submitted ++ bodies_said left))
    (sym (bodies_append position (frames_of exchanges) (frame_left unanswered)))
    (sub_append (bodies_submitted submitted) (bodies_said left) (bodies_for position (frames_of exchanges))
    (bodies_for position (frame_left unanswered)) (submitted_sub boards lane position is exchanges)
    (left_sub boards lane position (length submitted) is unanswered)))
