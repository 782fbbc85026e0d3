-- The entries that a seat leaves on each lane.
use Rattle.std.proofs.Common.{◌≡◌, ℕ, ◌+◌, ◌==◌, Bool, true, false, if◌then◌else◌, List, [], ◌∷◌, ◌++◌, map, length}
use Rattle.std.proofs.Common.{Option, Some, None, inl, inr, refl, sym, ap, ◌∙◌, subst, arith, length-append}
use Rattle.std.proofs.lemmas.Bool.{eq-eqb}
use Rattle.std.proofs.lemmas.List.{map-append}
use Rattle.std.proofs.lemmas.Option.{same_Some}
use Rattle.std.specs.List.{AllByRecursion, cons_option, filter_map, slice_get}
use Rattle.turn_pass.specs.Pass.{Knowledge}
use Rattle.lane_record.specs.declared.outcome.Outcome.{Outcome}
use Rattle.lane_record.specs.declared.item.Item.{Item}
use Rattle.lane_record.specs.Coding.{item_from}
use Rattle.lane_record.specs.Dispatches.{NumberedAction, numbered_action}
use Rattle.lane_record.specs.Items.{numbers, plan_in}
use Rattle.lane_record.specs.Submissions.{Submission, submissions_from}
use Rattle.hub_lane.specs.declared.answers.BoardState.{BoardState}
use Rattle.hub_multiplexer.specs.OwnItems.{planned_by}
use Rattle.hub_multiplexer.specs.Seats.{ChangesAt, SeatState}
use Rattle.hub_session.specs.declared.got.Got.{Got}
use Rattle.hub_session.specs.declared.got.Got.TheVariants.{NotAsked, Refused, Came}
use Rattle.hub_session.specs.Exchanges.{Exchange, ExchangesAll, ExchangesFor, GrewBy, HasCome, LaneRequest, WasRefused}
use Rattle.hub_session.specs.Exchanges.{request_of, submission_in, submissions_on}
use Rattle.hub_session.specs.Serving.{HasAskedToo, HasPlannedOnly, HasServedOn, IsUnused, Reached, Looked, PlannedOnly}
use Rattle.hub_session.specs.Serving.{AskedToo, Exchanged, Reaches, ReachesFor, Unanswered, actions_for, actions_left}
use Rattle.hub_session.specs.Serving.{actions_reached}
use Rattle.hub_session.proofs.Seats.{all_at, at_lane}
use Rattle.hub_session.proofs.Passes.{grew_none, grew_then, mine_read, planned_grew, planned_one}

-- ---- lists of submissions

submissions_append : (seq : ℕ) (xs ys : List Submission) → submissions_from seq (xs ++ ys)
    ≡ submissions_from seq xs ++ submissions_from (seq + length xs) ys
submissions_append seq [] ys = let e : seq ≡ seq + 0 = omega arith in ap (λ (n : ℕ). submissions_from n ys) e
submissions_append seq (x ∷ xs) ys =
    let e : seq + 1 + length xs ≡ seq + length (x ∷ xs) = omega arith in
    let one = submissions_from seq (x ∷ []) in
    ap (λ (l : List NumberedAction). one ++ l) (submissions_append (seq + 1) xs ys
    ∙ ap (λ (n : ℕ). submissions_from (seq + 1) xs ++ submissions_from n ys) e)

abbrev one : Option Submission → List Submission
one o = cons_option o []

one_more : (o : Option Submission) (xs : List Submission) → cons_option o xs ≡ one o ++ xs
one_more None xs = refl
one_more (Some x) xs = refl

-- ---- what a pass did

pub record Went (actions : List NumberedAction) (bodies : ℕ) (k after : Knowledge) : Type 0 where
  pub items : List Item
  pub grew : GrewBy items k after
  pub actions_are : map numbered_action items ≡ actions
  pub count : planned_by after ≡ planned_by k + bodies

-- it submitted these bodies
abbrev pub Submitted : List Submission → Knowledge → Knowledge → Type 0
Submitted xs k after = Went (submissions_from (planned_by k) xs) (length xs) k after

went_nowhere : (k after : Knowledge) → GrewBy [] k after → Went [] 0 k after
went_nowhere k after g = record { items = []; grew = g; actions_are = refl; count = planned_grew k after [] g }

went_one : (body : List ℕ) (outcome : Outcome) (k after : Knowledge) → HasCome body outcome k after
    → Submitted (record { body = body; outcome = outcome } ∷ []) k after
went_one body outcome k after h = record {
  items = _;
  grew = h.grew;
  actions_are = refl;
  count = planned_grew k after _ h.grew ∙ ap (λ (n : ℕ). planned_by k + n)
      (planned_one k.number (planned_by k) body outcome h.asked_at h.took_at);
}

went_then : (xs ys : List Submission) (k mid after : Knowledge) → Submitted xs k mid → Submitted ys mid after
    → Submitted (xs ++ ys) k after
went_then xs ys k mid after a b =
    let c = a.count in
    let d = b.count in
    let n = length-append xs ys in record {
      items = a.items ++ b.items;
      grew = grew_then k mid after a.items b.items a.grew b.grew;
      actions_are = map-append numbered_action a.items b.items
          ∙ ((λ i. a.actions_are i ++ (b.actions_are ∙ ap (λ (m : ℕ). submissions_from m ys) a.count) i)
          ∙ sym (submissions_append (planned_by k) xs ys));
      count = omega arith;
    }

-- ---- one lane of a seat

pub record Gone (on : ℕ) (new : SeatState) (P : Knowledge → Type 0) : Type 0 where
  pub after : Knowledge
  pub there : slice_get new.knows on ≡ Some after
  pub went : P after

-- what a call on some lane means for this one
gone_at : (lane on : ℕ) (old new : SeatState) (P : Knowledge → Knowledge → Type 0) (k : Knowledge)
    (Q : Knowledge → Type 0) → ChangesAt lane old new P → slice_get old.knows on ≡ Some k
    → ((after : Knowledge) → lane ≡ on → P k after → Q after) → ((lane == on) ≡ false → Q k) → Gone on new Q
gone_at lane on old new P k Q c here there other =
    let a = at_lane lane on old new P k c here in record {
      after = a.after;
      there = a.there;
      went = elim a.went [
        | inl same ↦ there a.after same.0 same.1
        | inr apart ↦ subst Q (sym apart.1) (other apart.0)
      ];
    }

exchange_at : (on : ℕ) (request : Option LaneRequest) (got : Got) (old new : SeatState) (k : Knowledge)
    → ExchangesFor request got old new → slice_get old.knows on ≡ Some k
    → Gone on new (Submitted (one (submission_in on request got)) k)
exchange_at on None NotAsked old new k e here = record {
  after = k;
  there = ap (λ (s : SeatState). slice_get s.knows on) e ∙ here;
  went = went_nowhere k k (grew_none k);
}
exchange_at on None (Refused why) old new k e here = absurd e
exchange_at on None (Came outcome) old new k e here = absurd e
exchange_at on (Some request) NotAsked old new k e here = absurd e
exchange_at on (Some request) (Refused why) old new k e here =
    gone_at request.lane on old new (WasRefused request.body why) k (Submitted [] k) e here
    (λ after same r. went_nowhere k after r.grew) (λ apart. went_nowhere k k (grew_none k))
exchange_at on (Some request) (Came outcome) old new k e here =
    let all : Submission = record { body = request.body; outcome = outcome } in
    let by = λ (b : Bool). Submitted (one (if b then Some all else None)) k in
    gone_at request.lane on old new (HasCome request.body outcome) k (by (request.lane == on)) e here
    (λ after same h. subst (λ (b : Bool). by b after) (sym (eq-eqb request.lane on same))
    (went_one request.body outcome k after h))
    (λ apart. subst (λ (b : Bool). by b k) (sym apart) (went_nowhere k k (grew_none k)))

pub exchanges_at : (boards : List BoardState) (on : ℕ) (es : List Exchange) (old new : SeatState) (k : Knowledge)
    → ExchangesAll boards es old new → slice_get old.knows on ≡ Some k
    → Gone on new (Submitted (submissions_on boards on es) k)
exchanges_at boards on [] old new k e here = record {
  after = k;
  there = ap (λ (s : SeatState). slice_get s.knows on) e ∙ here;
  went = went_nowhere k k (grew_none k);
}
exchanges_at boards on (x ∷ es) old new k e here =
    let first = exchange_at on (request_of boards x.frame) x.got old e.0 k e.1 here in
    let later = exchanges_at boards on es e.0 new first.after e.2 first.there in
    let o = submission_in on (request_of boards x.frame) x.got in record {
      after = later.after;
      there = later.there;
      went = subst (λ (l : List Submission). Submitted l k later.after)
          (sym (one_more o (submissions_on boards on es)))
          (went_then (one o) (submissions_on boards on es) k first.after later.after first.went later.went);
    }

-- ---- what stands of a frame that was not answered

pub record Left (actions : List NumberedAction) (k after : Knowledge) : Type 0 where
  pub items : List Item
  pub grew : GrewBy items k after
  pub actions_are : map numbered_action items ≡ actions

left_nothing : (k : Knowledge) → Left [] k k
left_nothing k = record { items = []; grew = grew_none k; actions_are = refl }

none_either : (b : Bool) → submissions_from 0 [] ≡ (if b then submissions_from 0 [] else submissions_from 0 [])
none_either true = refl
none_either false = refl

exchanged_actions : (on seq : ℕ) (request : Option LaneRequest) (got : Got)
    → submissions_from seq (one (submission_in on request got)) ≡ actions_for on seq request (Exchanged got)
exchanged_actions on seq None got = refl
exchanged_actions on seq (Some request) NotAsked = none_either (request.lane == on)
exchanged_actions on seq (Some request) (Refused why) = none_either (request.lane == on)
exchanged_actions on seq (Some request) (Came outcome) =
    let all : Submission = record { body = request.body; outcome = outcome } in
    elim (request.lane == on) as (λ b. submissions_from seq (one (if b then Some all else None))
    ≡ (if b then submissions_from seq (all ∷ []) else [])) [
      | true ↦ refl
      | false ↦ refl
    ]

-- entries on one lane
part_at : (on : ℕ) (request : LaneRequest) (reached : Reached) (old new : SeatState)
    (P : Knowledge → Knowledge → Type 0) (k : Knowledge) → ChangesAt request.lane old new P
    → slice_get old.knows on ≡ Some k
    → ((after : Knowledge) → P k after → Left (actions_reached (planned_by k) request.body reached) k after)
    → Gone on new (Left (actions_for on (planned_by k) (Some request) reached) k)
part_at on request reached old new P k c here f =
    let all = actions_reached (planned_by k) request.body reached in
    let by = λ (b : Bool). Left (if b then all else []) k in
    gone_at request.lane on old new P k (by (request.lane == on)) c here
    (λ after same p. subst (λ (b : Bool). by b after) (sym (eq-eqb request.lane on same)) (f after p))
    (λ apart. subst (λ (b : Bool). by b k) (sym apart) (left_nothing k))

reached_at : (on : ℕ) (request : Option LaneRequest) (reached : Reached) (old new : SeatState) (k : Knowledge)
    → ReachesFor request reached old new → slice_get old.knows on ≡ Some k
    → Gone on new (Left (actions_for on (planned_by k) request reached) k)
reached_at on request (Exchanged got) old new k e here =
    let g = exchange_at on request got old new k e here in record {
      after = g.after;
      there = g.there;
      went = record {
        items = g.went.items;
        grew = g.went.grew;
        actions_are = g.went.actions_are ∙ exchanged_actions on (planned_by k) request got;
      };
    }
reached_at on None Looked old new k e here = absurd e
reached_at on None PlannedOnly old new k e here = absurd e
reached_at on None AskedToo old new k e here = absurd e
reached_at on (Some request) Looked old new k e here = part_at on request Looked old new (GrewBy []) k e here
    (λ after g. record { items = []; grew = g; actions_are = refl })
reached_at on (Some request) PlannedOnly old new k e here =
    part_at on request PlannedOnly old new (HasPlannedOnly request.body) k e here
    (λ after h. record { items = _; grew = h.grew; actions_are = refl })
reached_at on (Some request) AskedToo old new k e here =
    part_at on request AskedToo old new (HasAskedToo request.body) k e here
    (λ after h. record { items = _; grew = h.grew; actions_are = refl })

pub left_at : (boards : List BoardState) (on : ℕ) (unanswered : Option Unanswered) (old new : SeatState) (k : Knowledge)
    → Reaches boards unanswered old new → slice_get old.knows on ≡ Some k
    → Gone on new (Left (actions_left boards on (planned_by k) unanswered) k)
left_at boards on None old new k e here = record {
  after = k;
  there = ap (λ (s : SeatState). slice_get s.knows on) e ∙ here;
  went = left_nothing k;
}
left_at boards on (Some u) old new k e here = reached_at on (request_of boards u.frame) u.reached old new k e here

-- ---- all of it

pub served_on : (boards : List BoardState) (answered : List Exchange) (unanswered : Option Unanswered)
    (old between new : SeatState) → AllByRecursion IsUnused old.knows → ExchangesAll boards answered old between
    → Reaches boards unanswered between new
    → (lane : ℕ) (k after : Knowledge) → slice_get old.knows lane ≡ Some k → slice_get new.knows lane ≡ Some after
    → HasServedOn boards lane answered unanswered k after
served_on boards answered unanswered old between new unused all left lane k after here there =
    let first = exchanges_at boards lane answered old between k all here in
    let last = left_at boards lane unanswered between new first.after left first.there in
    let same : last.after ≡ after = same_Some last.after after (sym last.there ∙ there) in
    let u : IsUnused k = all_at IsUnused old.knows lane k unused here in
    let none : planned_by k ≡ 0 = λ i. length (numbers plan_in k.number (u.no_entry i)) in
    let subs = submissions_on boards lane answered in
    let xs = first.went.items in
    let ys = last.went.items in
    let g = grew_then k first.after last.after xs ys first.went.grew last.went.grew in
    let from_none : 0 + length subs ≡ length subs = omega arith in
    let count : planned_by first.after ≡ length subs = first.went.count ∙ (ap (λ (n : ℕ). n + length subs) none
    ∙ from_none) in
    subst (HasServedOn boards lane answered unanswered k) same (record {
      rest_same = g.rest_same;
      actions = ap (map numbered_action) (mine_read k last.after (xs ++ ys) g
          ∙ ap (λ l. filter_map item_from l ++ (xs ++ ys)) u.no_call)
          ∙ (map-append numbered_action xs ys
          ∙ (λ i. (first.went.actions_are ∙ ap (λ (n : ℕ). submissions_from n subs) none) i
          ++ (last.went.actions_are ∙ ap (λ (n : ℕ). actions_left boards lane n unanswered) count) i));
    })
