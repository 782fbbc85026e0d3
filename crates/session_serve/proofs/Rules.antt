-- What the hub came to for the bodies of connections is by the rules of planning.
use Rattle.std.proofs.Common.{◌≡◌, ◌∙◌, ℕ, ◌+◌, true, false, List, [], ◌∷◌, ◌++◌, Option, Some, None, inl, inr, refl}
use Rattle.std.proofs.Common.{sym, ap, subst, arith, length, length-append, append_assoc, append-nil, ◌≤◌, ◌==◌}
use Rattle.std.proofs.Common.{if◌then◌else◌, zero, suc}
use Rattle.std.specs.List.{AllByRecursion, cons_option, slice_get, slice_set}
use Rattle.std.proofs.lemmas.Bool.{cases_lt, eqb-true}
use Rattle.std.proofs.lemmas.Option.{none-some, same_Some}
use Rattle.std.proofs.lemmas.List.Elements.{filter_map-append}
use Rattle.ipb_base.specs.Lists.{IsPrefix}
use Rattle.ipb_base.specs.Numbers.{payload_of}
use Rattle.transaction_codec.specs.Answer.{reply_room}
use Rattle.turn_pass.specs.Pass.{Knowledge}
use Rattle.turn_pass.specs.Record.{Begins, Record}
use Rattle.turn_pass.proofs.Records.{begins_on}
use Rattle.lane_record.specs.declared.item.Item.{Item}
use Rattle.lane_record.specs.Coding.{Head, record_of}
use Rattle.lane_record.specs.declared.outcome.Outcome.{Outcome}
use Rattle.lane_record.specs.Items.{planned_count}
use Rattle.lane_record.specs.NextEntry.{plan_of}
use Rattle.lane_record.specs.Submissions.{Submission}
use Rattle.lane_record.proofs.Coding.{spelled_fronts}
use Rattle.hub_lane.specs.Plans.{IsRefused}
use Rattle.lane_tables.specs.Planned.{IsFull}
use Rattle.hub_lane.specs.declared.answers.BoardState.{BoardState}
use Rattle.hub_multiplexer.specs.Ends.{Ends}
use Rattle.hub_multiplexer.specs.OwnItems.{planned_by}
use Rattle.hub_multiplexer.specs.Seats.{SeatState}
use Rattle.client_history.specs.Clients.{came_with}
use Rattle.hub_session.specs.declared.got.BodyRefusal.{BodyRefusal}
use Rattle.hub_session.specs.declared.got.BodyRefusal.TheVariants.{Sealed, TooLong, ReplyTooLong, Overfull}
use Rattle.hub_session.specs.declared.got.Got.{Got}
use Rattle.hub_session.specs.declared.got.Got.TheVariants.{NotAsked, Refused, Came}
use Rattle.hub_session.specs.declared.served.Served.{Served}
use Rattle.hub_session.specs.Decisions.{AreFramesDecidedIn, IsDecidedBehind, IsFrameDecidedIn, WasDecidedIn}
use Rattle.hub_session.specs.Decisions.{plan_behind}
use Rattle.hub_session.specs.Exchanges.{Exchange, LaneRequest, plan_refusal, request_of, submission_in}
use Rattle.hub_session.specs.Exchanges.{submissions_on}
use Rattle.hub_session.specs.Serving.{IsServed}
use Rattle.client_history.specs.Connections.{WereServedOn}
use Rattle.client_history.specs.Planned.{HaveFilledLane, IsAmongSubmitted, KeepLimits, WasPlannedLast, WerePlannedLast}
use Rattle.session_serve.specs.Connections.{Conversation, exchanges_of}
use Rattle.session_serve.specs.Hubs.{submitted_on}
use Rattle.session_serve.specs.Refusals.{AreFilledBefore, AreFramesByRules, IsDecidedByRules, IsFrameByRules}

-- ---- the laws that are cited

abbrev pub AnsweredLaw : Type 0
AnsweredLaw = (boards : List BoardState) (old new : SeatState) (left_before left_after : Option (List ℕ))
    (written_before written_after : Option (List ℕ)) (served : Served)
    (s : IsServed boards old new left_before left_after written_before written_after served)
    (lane : ℕ) (k after : Knowledge) → slice_get old.knows lane ≡ Some k → slice_get new.knows lane ≡ Some after
    → AreFramesDecidedIn after.seen k.number (planned_by k) boards lane (s.answered ++ s.unwritten)

abbrev pub PlannedLaw : Type 0
PlannedLaw = (connections : List (List Submission)) (head head_now : Head) (items front : List Item)
    (after : Knowledge) (final : Record) → WereServedOn connections (came_with head []) after → Ends after final
    → final ≡ record_of head_now items → IsPrefix front items → IsAmongSubmitted connections front

abbrev pub LimitsLaw : Type 0
LimitsLaw = (connections : List (List Submission)) (head head_now : Head) (items : List Item) (after : Knowledge)
    (final : Record) → WereServedOn connections (came_with head []) after → Ends after final
    → final ≡ record_of head_now items → WerePlannedLast 1 connections items → KeepLimits connections

abbrev pub FirstLaw : Type 0
FirstLaw = (connections : List (List Submission)) (head head_now : Head) (items front : List Item) (after : Knowledge)
    (final : Record) → WereServedOn connections (came_with head []) after → Ends after final
    → final ≡ record_of head_now items → IsPrefix front items → (index : ℕ) (own later : List Submission)
    → slice_get connections index ≡ Some (own ++ later) → planned_count (1 + index) front ≡ length own
    → IsAmongSubmitted (slice_set connections index own) front

-- ---- on a record that begins the one that the lane came back with

pub decided_later : (r later : Record) (client before : ℕ) (boards : List BoardState) (on : ℕ) (es : List Exchange)
    → Begins r later → AreFramesDecidedIn r client before boards on es
    → AreFramesDecidedIn later client before boards on es
decided_later r later client before boards on [] begins all = tt
decided_later r later client before boards on (e ∷ es) begins all = (
  λ body is. (let d = all.0 body is in record {
    head = d.head;
    items = d.items;
    own = d.own;
    begins = begins_on (record_of d.head (d.items ++ plan_behind client before body e.got)) r later d.begins begins;
    decided = d.decided;
  }),
  decided_later r later client (before + length (submissions_on boards on (e ∷ []))) boards on es begins all.1,
)

more_before : (boards : List BoardState) (on n : ℕ) (e : Exchange) (es : List Exchange)
    → n + length (submissions_on boards on (e ∷ es))
    ≡ n + length (submissions_on boards on (e ∷ [])) + length (submissions_on boards on es)
more_before boards on n e es =
    let all = ap (λ (l : List Submission). length l) (filter_map-append
    (λ (x : Exchange). submission_in on (request_of boards x.frame) x.got) (e ∷ []) es) in
    let both = length-append (submissions_on boards on (e ∷ [])) (submissions_on boards on es) in
    omega (arith, all, both)

-- ---- the rules

filled : (connections : List (List Submission)) (items : List Item) (body : List ℕ)
    → IsAmongSubmitted connections items → IsFull items (length body) (reply_room body)
    → HaveFilledLane connections body
filled connections items body among (inl bodies) = let most = among.bodies in inl (omega (arith, bodies, most))
filled connections items body among (inr words) = let most = among.words in inr (omega (arith, words, most))

refused_by : (connections : List (List Submission)) (items : List Item) (payload : ℕ) (body : List ℕ)
    (why : BodyRefusal) → IsAmongSubmitted connections items → IsRefused items payload body (plan_refusal why)
    → IsDecidedByRules payload connections body (Refused why)
refused_by connections items payload body Sealed among r =
    let untrue : true ≡ false = sym r ∙ among.unsealed in absurd cc
refused_by connections items payload body TooLong among r = r.1
refused_by connections items payload body ReplyTooLong among r = (r.1, r.2)
refused_by connections items payload body Overfull among r = (r.1, filled connections items body among r.2)

decided_by : (connections : List (List Submission)) (items : List Item) (payload : ℕ) (body : List ℕ) (got : Got)
    → IsAmongSubmitted connections items → IsDecidedBehind items payload body got
    → IsDecidedByRules payload connections body got
decided_by connections items payload body NotAsked among d = absurd d
decided_by connections items payload body (Refused why) among d =
    refused_by connections items payload body why among d
decided_by connections items payload body (Came outcome) among d = d.fits

-- of a body that was decided on a record of the lane
by_rules : (head : Head) (items : List Item) (connections : List (List Submission))
    → ((front : List Item) → IsPrefix front items → IsAmongSubmitted connections front)
    → (client before : ℕ) (body : List ℕ) (got : Got)
    → WasDecidedIn (record_of head items) client before body got
    → IsDecidedByRules (payload_of head.mtu) connections body got
by_rules head items connections among client before body got d =
    let more = plan_behind client before body got in
    let fronts = spelled_fronts d.head head (d.items ++ more) items d.begins in
    let front : IsPrefix d.items items =
    (more ++ fronts.1.0, fronts.1.1 ∙ append_assoc d.items more fronts.1.0) in
    subst (λ (h : Head). IsDecidedByRules (payload_of h.mtu) connections body got) (sym fronts.0)
    (decided_by connections d.items (payload_of d.head.mtu) body got (among d.items front) d.decided)

each_by_rules : (head : Head) (items : List Item) (connections : List (List Submission)) (boards : List BoardState)
    (lane client before : ℕ) (es : List Exchange)
    → ((front : List Item) → IsPrefix front items → IsAmongSubmitted connections front)
    → AreFramesDecidedIn (record_of head items) client before boards lane es
    → AllByRecursion (IsFrameByRules (payload_of head.mtu) connections boards lane) es
each_by_rules head items connections boards lane client before [] among all = tt
each_by_rules head items connections boards lane client before (e ∷ es) among all = (
  λ body is. by_rules head items connections among client before body e.got (all.0 body is),
  each_by_rules head items connections boards lane client
      (before + length (submissions_on boards lane (e ∷ []))) es among all.1,
)

-- what connections exchanged was decided so, the first of whom has this number
abbrev pub AreDecidedFrom : Record → ℕ → List BoardState → ℕ → List Conversation → Type 0
AreDecidedFrom final client boards lane [] = Unit {0}
AreDecidedFrom final client boards lane (c ∷ conversations) =
    AreFramesDecidedIn final client 0 boards lane (exchanges_of c)
    × AreDecidedFrom final (client + 1) boards lane conversations

pub all_by_rules : (head : Head) (items : List Item) (connections : List (List Submission)) (boards : List BoardState)
    (lane client : ℕ) (conversations : List Conversation)
    → ((front : List Item) → IsPrefix front items → IsAmongSubmitted connections front)
    → AreDecidedFrom (record_of head items) client boards lane conversations
    → AreFramesByRules (payload_of head.mtu) connections boards lane conversations
all_by_rules head items connections boards lane client [] among all = tt
all_by_rules head items connections boards lane client (c ∷ conversations) among all = (
  each_by_rules head items connections boards lane client 0 (exchanges_of c) among all.0,
  all_by_rules head items connections boards lane (client + 1) conversations among all.1,
)

-- ---- the last body of each connection

planned_so : (head : Head) (items : List Item) (client before : ℕ) (body : List ℕ) (outcome : Outcome)
    → WasDecidedIn (record_of head items) client before body (Came outcome) → WasPlannedLast client (before + 1) items
planned_so head items client before body outcome d =
    let own = d.own in record {
      front = d.items;
      payload = payload_of d.head.mtu;
      body = body;
      own = omega (arith, own);
      next = subst (λ n. IsPrefix (d.items ++ plan_of client n body ∷ []) items) (sym d.own)
          (spelled_fronts d.head head (d.items ++ plan_of client before body ∷ []) items d.begins).1;
      can = d.decided;
    }

abbrev none_or_one : ℕ → Option LaneRequest → Got → List Submission
none_or_one lane request got = cons_option (submission_in lane request got) []

one_planned : (head : Head) (items : List Item) (client before lane : ℕ) (request : Option LaneRequest) (got : Got)
    → ((body : List ℕ) → request ≡ Some (record { lane = lane; body = body })
    → WasDecidedIn (record_of head items) client before body got)
    → 1 ≤ length (none_or_one lane request got)
    → WasPlannedLast client (before + length (none_or_one lane request got)) items
one_planned head items client before lane None got decided some = absurd (omega (arith, some))
one_planned head items client before lane (Some request) NotAsked decided some = absurd (omega (arith, some))
one_planned head items client before lane (Some request) (Refused why) decided some = absurd (omega (arith, some))
one_planned head items client before lane (Some request) (Came outcome) decided some =
    let one : Submission = record { body = request.body; outcome = outcome } in
    elim (request.lane == lane) as (λ b. (request.lane == lane) ≡ b
    → 1 ≤ length (cons_option (if b then Some one else None) [])
    → WasPlannedLast client (before + length (cons_option (if b then Some one else None) [])) items) [
      | true ↦ λ e some'. (let same = eqb-true request.lane lane e in
          planned_so head items client before request.body outcome (decided request.body
          (λ i. Some (record { lane = same i; body = request.body }))))
      | false ↦ λ e some'. absurd (omega (arith, some'))
    ] refl some

last_planned : (head : Head) (items : List Item) (client before : ℕ) (boards : List BoardState) (lane : ℕ)
    (es : List Exchange) → AreFramesDecidedIn (record_of head items) client before boards lane es
    → 1 ≤ length (submissions_on boards lane es)
    → WasPlannedLast client (before + length (submissions_on boards lane es)) items
last_planned head items client before boards lane [] all some = absurd (omega (arith, some))
last_planned head items client before boards lane (e ∷ es) all some =
    let first = length (submissions_on boards lane (e ∷ [])) in
    let more = more_before boards lane before e es in
    elim (cases_lt 0 (length (submissions_on boards lane es))) [
      | inl lt ↦ subst (λ n. WasPlannedLast client n items) (sym more)
          (last_planned head items client (before + first) boards lane es all.1 lt)
      | inr ge ↦ subst (λ n. WasPlannedLast client n items) (omega (arith, more, ge))
          (one_planned head items client before lane (request_of boards e.frame) e.got all.0 (omega (
            arith,
            more,
            ge,
            some,
          )))
    ]

pub all_planned_last : (head : Head) (items : List Item) (client : ℕ) (boards : List BoardState) (lane : ℕ)
    (conversations : List Conversation) → AreDecidedFrom (record_of head items) client boards lane conversations
    → WerePlannedLast client (submitted_on boards lane conversations) items
all_planned_last head items client boards lane [] all = tt
all_planned_last head items client boards lane (c ∷ conversations) all = (
  λ some. subst (λ n. WasPlannedLast client n items) (omega arith)
      (last_planned head items client 0 boards lane (exchanges_of c) all.0 some),
  all_planned_last head items (client + 1) boards lane conversations all.1,
)

-- ---- a frame among those of its connection

decided_at : (r : Record) (client before : ℕ) (boards : List BoardState) (lane : ℕ) (earlier later : List Exchange)
    (e : Exchange) → AreFramesDecidedIn r client before boards lane (earlier ++ e ∷ later)
    → IsFrameDecidedIn r client (before + length (submissions_on boards lane earlier)) boards lane e
decided_at r client before boards lane [] later e all =
    subst (λ n. IsFrameDecidedIn r client n boards lane e) (omega arith) all.0
decided_at r client before boards lane (x ∷ earlier) later e all =
    subst (λ n. IsFrameDecidedIn r client n boards lane e) (sym (more_before boards lane before x earlier))
    (decided_at r client (before + length (submissions_on boards lane (x ∷ []))) boards lane earlier later e all.1)

decided_of : (final : Record) (client : ℕ) (boards : List BoardState) (lane : ℕ) (conversations : List Conversation)
    (index : ℕ) (c : Conversation) → AreDecidedFrom final client boards lane conversations
    → slice_get conversations index ≡ Some c
    → AreFramesDecidedIn final (client + index) 0 boards lane (exchanges_of c)
decided_of final client boards lane [] index c all at = absurd (none-some c at)
decided_of final client boards lane (x ∷ conversations) zero c all at =
    subst (λ n. AreFramesDecidedIn final n 0 boards lane (exchanges_of c)) (omega arith)
    (subst (λ (z : Conversation). AreFramesDecidedIn final client 0 boards lane (exchanges_of z)) (same_Some x c at)
    all.0)
decided_of final client boards lane (x ∷ conversations) (suc index) c all at =
    subst (λ n. AreFramesDecidedIn final n 0 boards lane (exchanges_of c)) (omega arith)
    (decided_of final (client + 1) boards lane conversations index c all.1 at)

submitted_at : (boards : List BoardState) (lane : ℕ) (conversations : List Conversation) (index : ℕ)
    (c : Conversation) → slice_get conversations index ≡ Some c
    → slice_get (submitted_on boards lane conversations) index ≡ Some (submissions_on boards lane (exchanges_of c))
submitted_at boards lane [] index c at = absurd (none-some c at)
submitted_at boards lane (x ∷ conversations) zero c at =
    ap (λ (z : Conversation). Some (submissions_on boards lane (exchanges_of z))) (same_Some x c at)
submitted_at boards lane (x ∷ conversations) (suc index) c at = submitted_at boards lane conversations index c at

pub all_filled_before : (head : Head) (items : List Item) (boards : List BoardState) (lane : ℕ)
    (conversations : List Conversation)
    → ((front : List Item) → IsPrefix front items → (index : ℕ) (own later : List Submission)
    → slice_get (submitted_on boards lane conversations) index ≡ Some (own ++ later)
    → planned_count (1 + index) front ≡ length own
    → IsAmongSubmitted (slice_set (submitted_on boards lane conversations) index own) front)
    → AreDecidedFrom (record_of head items) 1 boards lane conversations
    → AreFilledBefore (submitted_on boards lane conversations) boards lane conversations
all_filled_before head items boards lane conversations among all =
    λ index c earlier later e body at split for_lane full.
    let final = record_of head items in
    let own = submissions_on boards lane earlier in
    let frames = subst (AreFramesDecidedIn final (1 + index) 0 boards lane) split
    (decided_of final 1 boards lane conversations index c all at) in
    let d = subst (WasDecidedIn final (1 + index) (0 + length own) body) full
    (decided_at final (1 + index) 0 boards lane earlier later e frames body for_lane) in
    let fronts = (spelled_fronts d.head head (d.items ++ []) items d.begins).1 in
    let front : IsPrefix d.items items =
    (fronts.0, fronts.1 ∙ ap (λ (l : List Item). l ++ fronts.0) (append-nil d.items)) in
    let submitted = submitted_at boards lane conversations index c at
    ∙ ap Some (ap (submissions_on boards lane) split ∙ filter_map-append
    (λ (x : Exchange). submission_in lane (request_of boards x.frame) x.got) earlier (e ∷ later)) in
    let own_count : planned_count (1 + index) d.items ≡ length own = (let n = d.own in omega (arith, n)) in
    filled (slice_set (submitted_on boards lane conversations) index own) d.items body
    (among d.items front index own (submissions_on boards lane (e ∷ later)) submitted own_count)
    d.decided.2
