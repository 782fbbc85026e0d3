-- Lanes that came back from the hub at which connections were served.
use Rattle.std.proofs.Common.{◌≡◌, ◌∙◌, ℕ, ◌+◌, List, [], ◌∷◌, ◌++◌, map, length, Some, None, Option, refl, sym, ap}
use Rattle.std.proofs.Common.{subst, suc}
use Rattle.std.proofs.Common.{zero, arith, append-nil, length-append}
use Rattle.std.specs.Prelude.{◌≢◌}
use Rattle.std.specs.List.{AllByRecursion, AllZip, filter_map, slice_get}
use Rattle.std.proofs.lemmas.List.{length-map}
use Rattle.std.proofs.lemmas.Option.{none-some, same_Some}
use Rattle.ipb_base.specs.Lists.{IsPrefix}
use Rattle.ipb_base.specs.Numbers.{payload_of}
use Rattle.turn_pass.specs.Pass.{Joined, Knowledge, Stands, TurnId, first_knowledge, kept_of}
use Rattle.turn_pass.specs.Record.{Begins, Record}
use Rattle.ipb_outside.specs.Pairs.{PairReport}
use Rattle.links.specs.Telling.{Telling}
use Rattle.world_model.specs.Settings.{Limits}
use Rattle.lane_record.specs.declared.item.Item.{Item}
use Rattle.lane_record.specs.Coding.{Head, item_from, record_of}
use Rattle.lane_record.specs.Dispatches.{numbered_action}
use Rattle.lane_record.specs.Items.{numbers, plan_in}
use Rattle.lane_record.specs.Submissions.{Submission, submissions_from}
use Rattle.hub_lane.specs.Lanes.{BoardStatus, LaneState, opening_of}
use Rattle.hub_lane.specs.Records.{record_shown}
use Rattle.hub_lane.specs.declared.answers.BoardState.{BoardState}
use Rattle.hub_multiplexer.specs.Ends.{AreEnded, Ends}
use Rattle.hub_multiplexer.specs.Lanes.{shown_record}
use Rattle.hub_multiplexer.specs.OwnItems.{planned_by}
use Rattle.hub_multiplexer.specs.Seats.{MasterState, SeatState}
use Rattle.client_threads.specs.Clients.{TookIn}
use Rattle.client_threads.specs.Jobs.{made_more}
use Rattle.client_threads.specs.Running.{AtEach}
use Rattle.board_history.proofs.Lists.{all_at}
use Rattle.client_history.specs.Clients.{came_with}
use Rattle.hub_session.specs.declared.served.Served.{Served}
use Rattle.hub_session.specs.declared.served.SessionEnd.{SessionEnd}
use Rattle.hub_session.specs.declared.served.SessionEnd.TheVariants as ends
use Rattle.hub_session.specs.Decisions.{AreFramesDecidedIn}
use Rattle.hub_session.specs.Exchanges.{Exchange, submissions_on}
use Rattle.hub_session.specs.Serving.{IsUnused, IsPartAt, Unanswered, actions_left}
use Rattle.client_history.specs.Connections.{AllSubmitted, SubmittedAll}
use Rattle.client_history.specs.Planned.{KeepLimits}
use Rattle.board_greeting.specs.Boards.{HasNoEntry, head_shown}
use Rattle.session_serve.specs.Connections.{Conversation, HaveExchanged, exchanges_of}
use Rattle.session_serve.specs.Hubs.{AllBack, AreServedAt, HasServedAll, KeepsHead, served_of, pairs_of, seats_of}
use Rattle.session_serve.specs.Hubs.{IsServedLane, submitted_on}
use Rattle.session_serve.specs.Refusals.{AreFilledBefore, AreFramesByRules}
use Rattle.session_serve.specs.Seats.{AreOfClientsFrom, ArePassesOn, AreTakenIn, EachDone, IsDone, IsFresh, IsOpen}
use Rattle.session_serve.specs.Seats.{with_seats}
use Rattle.session_serve.specs.Serving.{HadMemory}
use Rattle.session_serve.specs.declared.connection.Done.{Done}
use Rattle.session_serve.proofs.EachDone.{each_long}
use Rattle.session_serve.proofs.Lists.{there, zip_long}
use Rattle.session_serve.proofs.Rules.{AnsweredLaw, AreDecidedFrom, FirstLaw, LimitsLaw, PlannedLaw}
use Rattle.session_serve.proofs.Rules.{all_by_rules, all_filled_before, all_planned_last, decided_later}

-- ---- before

pub opens_all : {L : Type 0} (tells : L → Option Telling) (lanes : List (LaneState L)) → AllByRecursion HasNoEntry lanes
    → AllByRecursion IsOpen (map first_knowledge (map (shown_record tells) lanes))
opens_all tells [] unused = tt
opens_all tells (lane ∷ lanes) unused = (
  record {
    head = head_shown tells lane;
    knows = ap (λ (items : List Item). first_knowledge (record_of (head_shown tells lane) items)) unused.0;
  },
  opens_all tells lanes unused.1,
)

-- ---- lanes that did not go to a hub

abbrev pub TellsLaw : Type 0
TellsLaw = (number other_number : ℕ) (settings other_settings : Limits) (status other_status : BoardStatus)
    (telling other_telling : Option Telling) (items other_items : List Item)
    → record_shown number settings status telling items
    ≡ record_shown other_number other_settings other_status other_telling other_items
    → (settings ≡ other_settings) × (status ≡ other_status) × (opening_of telling ≡ opening_of other_telling)
    × (items ≡ other_items) × (number ≡ other_number)

same_head : {L : Type 0} → TellsLaw → (tells : L → Option Telling) (m n : LaneState L) → shown_record tells n ≡ shown_record tells m
    → KeepsHead tells m n
same_head law tells m n is =
    let told = law n.number m.number n.settings m.settings n.status m.status (tells n.link) (tells m.link) n.items m.items
    is in
    let number : n.number ≡ m.number = told.4 in
    let settings : n.settings ≡ m.settings = told.0 in
    let status : n.status ≡ m.status = told.1 in
    let opening : opening_of (tells n.link) ≡ opening_of (tells m.link) = told.2 in
    cc

pub shown_at : {L : Type 0} (tells : L → Option Telling) (ms ns : List (LaneState L)) (i : ℕ) (m n : LaneState L)
    → map (shown_record tells) ns ≡ map (shown_record tells) ms → slice_get ms i ≡ Some m → slice_get ns i ≡ Some n
    → shown_record tells n ≡ shown_record tells m
shown_at tells [] ns i m n is em en = absurd (none-some m em)
shown_at tells (x ∷ ms) [] i m n is em en = absurd (none-some n en)
shown_at tells (x ∷ ms) (y ∷ ns) zero m n is em en =
    let head : shown_record tells y ≡ shown_record tells x = cc in
    ap (shown_record tells) (sym (same_Some y n en)) ∙ (head ∙ ap (shown_record tells) (same_Some x m em))
shown_at tells (x ∷ ms) (y ∷ ns) (suc i) m n is em en =
    let tail : map (shown_record tells) ns ≡ map (shown_record tells) ms = cc in shown_at tells ms ns i m n tail em en

-- the entries of a lane are told by what is shown of it
pub same_items : {L : Type 0} → TellsLaw → (tells : L → Option Telling) (m n : LaneState L)
    → shown_record tells n ≡ shown_record tells m → n.items ≡ m.items
same_items law tells m n is =
    (law n.number m.number n.settings m.settings n.status m.status (tells n.link) (tells m.link) n.items m.items is).3

pub returned_long : {L : Type 0} (tells : L → Option Telling) (olds news : List (LaneState L))
    → map (shown_record tells) news ≡ map (shown_record tells) olds → length news ≡ length olds
returned_long tells olds news is =
    sym (length-map news (shown_record tells)) ∙ (ap (λ (l : List Record). length l) is ∙ length-map olds (shown_record tells))

pub heads_returned : {L : Type 0} → TellsLaw → (tells : L → Option Telling) (olds news : List (LaneState L))
    → map (shown_record tells) news ≡ map (shown_record tells) olds → AtEach olds news (λ lane. KeepsHead tells)
heads_returned law tells olds news is = record {
  long = returned_long tells olds news is;
  each = λ i m n em en. same_head law tells m n (shown_at tells olds news i m n is em en);
}

-- ---- a lane at the end

passes_long : (lane : ℕ) (seats : List SeatState) (passes : List Joined) → ArePassesOn lane seats passes
    → length passes ≡ length seats
passes_long lane [] [] are = refl
passes_long lane [] (p ∷ passes) are = absurd are
passes_long lane (s ∷ seats) [] are = absurd are
passes_long lane (s ∷ seats) (p ∷ passes) are = ap suc (passes_long lane seats passes are.1)

-- what the master knows of a lane that came back
pub record LaneBack {L : Type 0} (tells : L → Option Telling) (lane : ℕ) (seats : List SeatState)
    (old new : LaneState L) : Type 0 where
  pub after : Knowledge
  pub passes : List Joined
  pub took : TookIn passes (first_knowledge (shown_record tells old)) after
  pub of_seats : ArePassesOn lane seats passes
  pub ended : Ends after (shown_record tells new)

map_at : {A B : Type 0} (f : A → B) (xs : List A) (i : ℕ) (x : A) → slice_get xs i ≡ Some x
    → slice_get (map f xs) i ≡ Some (f x)
map_at f [] i x e = absurd (none-some x e)
map_at f (y ∷ xs) zero x e = ap (λ z. Some (f z)) (same_Some y x e)
map_at f (y ∷ xs) (suc i) x e = map_at f xs i x e

zip_at : {A B : Type 0} (P : A → B → Type 0) (xs : List A) (ys : List B) (i : ℕ) (x : A) (y : B) → AllZip P xs ys
    → slice_get xs i ≡ Some x → slice_get ys i ≡ Some y → P x y
zip_at P [] ys i x y all ex ey = absurd (none-some x ex)
zip_at P (a ∷ xs) [] i x y all ex ey = absurd all
zip_at P (a ∷ xs) (b ∷ ys) zero x y all ex ey =
    subst (λ z. P z y) (same_Some a x ex) (subst (P a) (same_Some b y ey) all.0)
zip_at P (a ∷ xs) (b ∷ ys) (suc i) x y all ex ey = zip_at P xs ys i x y all.1 ex ey

pub ended_long : {L : Type 0} (tells : L → Option Telling) (olds news : List (LaneState L)) (seats : List SeatState)
    (m end' : MasterState) → m.knows ≡ map first_knowledge (map (shown_record tells) olds)
    → AreTakenIn (with_seats m (length seats)) end' seats → AreEnded end'.knows (map (shown_record tells) news)
    → length news ≡ length olds
ended_long tells olds news seats m end' opened taken ended =
    let a = zip_long Ends end'.knows (map (shown_record tells) news) ended in
    let b = length-map news (shown_record tells) in
    let c = taken.lanes.long in
    let d = length-map m.knows (made_more (length seats)) in
    let e = ap (λ (l : List Knowledge). length l) opened in
    let f = length-map (map (shown_record tells) olds) first_knowledge in
    let h = length-map olds (shown_record tells) in
    omega (arith, a, b, c, d, e, f, h)

pub lane_at : {L : Type 0} (tells : L → Option Telling) (olds news : List (LaneState L)) (seats : List SeatState)
    (m end' : MasterState) (lane : ℕ) (old new : LaneState L)
    → m.knows ≡ map first_knowledge (map (shown_record tells) olds)
    → AreTakenIn (with_seats m (length seats)) end' seats → AreEnded end'.knows (map (shown_record tells) news)
    → slice_get olds lane ≡ Some old → slice_get news lane ≡ Some new → LaneBack tells lane seats old new
lane_at tells olds news seats m end' lane old new opened taken ended eo en =
    let first = first_knowledge (shown_record tells old) in
    let started = with_seats m (length seats) in
    let at_first : slice_get m.knows lane ≡ Some first = ap (λ (l : List Knowledge). slice_get l lane) opened
    ∙ map_at first_knowledge (map (shown_record tells) olds) lane (shown_record tells old) (map_at (shown_record tells) olds lane old eo) in
    let at_start : slice_get started.knows lane ≡ Some (made_more (length seats) first) =
    map_at (made_more (length seats)) m.knows lane first at_first in
    let after = there started.knows end'.knows lane (made_more (length seats) first) taken.lanes.long at_start in
    let t = taken.lanes.each lane (made_more (length seats) first) after.0 at_start after.1 in
    let made = t.same_made in
    let long = passes_long lane seats t.passes t.of_seats in
    record {
      after = after.0;
      passes = t.passes;
      took = record {
        number = t.same_number;
        opening = t.same_opening;
        mine = t.same_mine;
        made = omega (arith, made, long);
        joined' = t.more_joined;
      };
      of_seats = t.of_seats;
      ended = zip_at Ends end'.knows (map (shown_record tells) news) lane after.0 (shown_record tells new) ended after.1
          (map_at (shown_record tells) news lane new en);
    }

abbrev pub BackLaw : Type 0
BackLaw = (head head_now : Head) (items items_now : List Item) (passes : List Joined) (after : Knowledge)
    (final : Record) → TookIn passes (came_with head items) after → Ends after final
    → final ≡ record_of head_now items_now → (head_now ≡ head) × IsPrefix items items_now

pub heads_back : {L : Type 0} → BackLaw → (tells : L → Option Telling) (olds news : List (LaneState L))
    (seats : List SeatState) (m end' : MasterState) → m.knows ≡ map first_knowledge (map (shown_record tells) olds)
    → AreTakenIn (with_seats m (length seats)) end' seats → AreEnded end'.knows (map (shown_record tells) news)
    → AtEach olds news (λ lane. KeepsHead tells)
heads_back law tells olds news seats m end' opened taken ended = record {
  long = ended_long tells olds news seats m end' opened taken ended;
  each = λ lane old new eo en.
      let back = lane_at tells olds news seats m end' lane old new opened taken ended eo en in
      (law (head_shown tells old) (head_shown tells new) old.items new.items back.passes back.after (shown_record tells new)
      back.took back.ended refl).0;
}

both_long : (a b c d : ℕ) → a ≡ b → b ≡ c → a + d ≡ c + d
both_long a b c d x y = omega (arith, x, y)

-- all seats were taken in
pub all_seats : {I O : Type 0} {shows : I × O → PairReport} {boards : List BoardState} {turns : List TurnId}
    {seats : List SeatState} {start end' : MasterState} {coming coming_now kept kept_now : Option (List (I × O))}
    → (b : AllBack shows boards turns seats start end' coming coming_now kept kept_now)
    → length (seats_of b.dones ++ b.others) ≡ length seats
all_seats {I} {O} {shows} {boards} b = length-append (seats_of b.dones) b.others
    ∙ (both_long (length (seats_of b.dones)) (length b.dones) (length b.befores) (length b.others)
    (length-map b.dones (λ (d : Done I O). d.seat)) (each_long shows boards b.befores b.came b.dones b.each)
    ∙ (sym (length-append b.befores b.others) ∙ ap (λ (l : List SeatState). length l) b.all))

pub heads_of : {L I O : Type 0} {shows : I × O → PairReport} {boards : List BoardState} {turns : List TurnId}
    {coming coming_now kept kept_now : Option (List (I × O))} → BackLaw → (tells : L → Option Telling)
    (olds news : List (LaneState L)) (seats : List SeatState) (m end' : MasterState)
    → m.knows ≡ map first_knowledge (map (shown_record tells) olds)
    → (b : AllBack shows boards turns seats (with_seats m (length seats)) end' coming coming_now kept kept_now)
    → AreEnded end'.knows (map (shown_record tells) news) → AtEach olds news (λ lane. KeepsHead tells)
heads_of law tells olds news seats m end' opened b ended =
    heads_back law tells olds news (seats_of b.dones ++ b.others) m end' opened
    (subst (λ n. AreTakenIn (with_seats m n) end' (seats_of b.dones ++ b.others)) (sym (all_seats b)) b.taken_in) ended

-- ---- what each connection submitted

settled : (boards : List BoardState) (unwritten : List Exchange) (u : Option Unanswered) (part : List ℕ)
    (end' : SessionEnd) → IsPartAt boards unwritten u part end' → end' ≢ ends.NoMemory → u ≡ None
settled boards unwritten u part ends.WriteFault is memory = is.0
settled boards unwritten u part ends.NoMemory is memory = absurd (memory refl)
settled boards unwritten u part ends.Closed is memory = is.0
settled boards unwritten u part ends.CutFrame is memory = is.0
settled boards unwritten u part ends.BadFrame is memory = is.0
settled boards unwritten u part ends.ReadFault is memory = is.0

all_actions : (boards : List BoardState) (lane : ℕ) (answered : List Exchange) (u : Option Unanswered) → u ≡ None
    → submissions_from 0 (submissions_on boards lane answered)
    ++ actions_left boards lane (length (submissions_on boards lane answered)) u
    ≡ submissions_from 0 (submissions_on boards lane answered)
all_actions boards lane answered u none =
    subst (λ (v : Option Unanswered). submissions_from 0 (submissions_on boards lane answered)
    ++ actions_left boards lane (length (submissions_on boards lane answered)) v
    ≡ submissions_from 0 (submissions_on boards lane answered)) (sym none)
    (append-nil (submissions_from 0 (submissions_on boards lane answered)))

submitted_all : (turns : List TurnId) (boards : List BoardState) (client lane : ℕ) (before after : SeatState)
    (came back : PairReport) (served : Served) (pass : Joined) → IsFresh turns before → before.client ≡ client
    → (d : IsDone boards before after came back served) → d.under.as_served.unanswered ≡ None
    → ((k : Knowledge) × (slice_get after.knows lane ≡ Some k) × (pass ≡ kept_of k))
    → SubmittedAll client (submissions_on boards lane (d.under.as_served.answered
    ++ d.under.as_served.unwritten)) pass
submitted_all turns boards client lane before after came back served pass fresh is d all at =
    let s = d.under.as_served in
    let k = at.0 in
    let same : length before.knows ≡ length after.knows = fresh.known
    ∙ sym (d.known ∙ ap (λ (l : List TurnId). length l) (d.under.same_turns ∙ fresh.turns')) in
    let was = there after.knows before.knows lane k same at.1 in
    let on = s.on_lanes lane was.0 k was.1 at.1 in
    record {
      number = ap (λ (j : Joined). j.number) at.2 ∙ (ap (λ (z : Knowledge). z.number) on.rest_same
          ∙ (all_at (λ (z : Knowledge). z.number ≡ before.client) before.knows lane was.0 fresh.numbers was.1 ∙ is));
      actions = ap (λ (j : Joined). map numbered_action (filter_map item_from j.mine)) at.2
          ∙ (on.actions ∙ all_actions boards lane (s.answered ++ s.unwritten) s.unanswered all);
    }

none_submitted : (lane client : ℕ) (passes : List Joined) → ArePassesOn lane [] passes → AllSubmitted client [] passes
none_submitted lane client [] are = tt
none_submitted lane client (p ∷ passes) are = absurd are

some_submitted : (lane client : ℕ) (one : List Submission) (others : List (List Submission)) (seat : SeatState)
    (seats : List SeatState) (passes : List Joined) → ArePassesOn lane (seat ∷ seats) passes
    → ((pass : Joined) → ((k : Knowledge) × (slice_get seat.knows lane ≡ Some k) × (pass ≡ kept_of k))
    → SubmittedAll client one pass)
    → ((rest : List Joined) → ArePassesOn lane seats rest → AllSubmitted (client + 1) others rest)
    → AllSubmitted client (one ∷ others) passes
some_submitted lane client one others seat seats [] are first later = absurd are
some_submitted lane client one others seat seats (p ∷ passes) are first later =
    (first p are.0, later passes are.1)

-- ---- the records on which the hub came to something for them

none_before : (k : Knowledge) → IsUnused k → planned_by k ≡ 0
none_before k unused = λ i. length (numbers plan_in k.number (unused.no_entry i))

talk_decided : AnsweredLaw → (turns : List TurnId) (boards : List BoardState) (client lane : ℕ)
    (before after : SeatState) (came back : PairReport) (served : Served) → IsFresh turns before
    → before.client ≡ client → (d : IsDone boards before after came back served) → (k : Knowledge)
    → slice_get after.knows lane ≡ Some k
    → AreFramesDecidedIn k.seen client 0 boards lane (d.under.as_served.answered ++ d.under.as_served.unwritten)
talk_decided answered turns boards client lane before after came back served fresh is d k at =
    let s = d.under.as_served in
    let all = s.answered ++ s.unwritten in
    let was = there after.knows before.knows lane k (sym s.known) at in
    let number : was.0.number ≡ client =
    all_at (λ (z : Knowledge). z.number ≡ before.client) before.knows lane was.0 fresh.numbers was.1 ∙ is in
    let none = none_before was.0 (all_at IsUnused before.knows lane was.0 fresh.unused was.1) in
    subst (λ c. AreFramesDecidedIn k.seen c 0 boards lane all) number
    (subst (λ n. AreFramesDecidedIn k.seen was.0.number n boards lane all) none
    (answered boards before after came.left back.left came.written back.written served s lane was.0 k was.1 at))

some_decided : (client lane : ℕ) (opening final : Record) (one : Conversation) (others : List Conversation)
    (boards : List BoardState) (seat : SeatState) (seats : List SeatState) (passes : List Joined)
    → ArePassesOn lane (seat ∷ seats) passes → AllByRecursion (Stands opening final) passes
    → ((k : Knowledge) → slice_get seat.knows lane ≡ Some k
    → AreFramesDecidedIn k.seen client 0 boards lane (exchanges_of one))
    → ((later : List Joined) → ArePassesOn lane seats later → AllByRecursion (Stands opening final) later
    → AreDecidedFrom final (client + 1) boards lane others)
    → AreDecidedFrom final client boards lane (one ∷ others)
some_decided client lane opening final one others boards seat seats [] are stand first rest = absurd are
some_decided client lane opening final one others boards seat seats (p ∷ passes) are stand first rest =
    let k = are.0.0 in
    let begins : Begins k.seen final = subst (λ (j : Joined). Begins j.seen final) are.0.2 stand.0.seen in (
      decided_later k.seen final client 0 boards lane (exchanges_of one) begins (first k are.0.1),
      rest passes are.1 stand.1,
    )

-- what connections exchanged, what they submitted to each lane, and by which of its records the hub answered them
pub record Conversed {I O : Type 0} (shows : I × O → PairReport) (boards : List BoardState) (client : ℕ)
    (came : List (I × O)) (dones : List (Done I O)) : Type 0 where
  pub conversations : List Conversation
  pub exchanged : HaveExchanged boards client conversations (map shows came) (map shows (pairs_of dones))
      (served_of dones)
  pub submitted : (lane : ℕ) (passes : List Joined) → ArePassesOn lane (seats_of dones) passes
      → AllSubmitted client (submitted_on boards lane conversations) passes
  pub decided : (lane : ℕ) (passes : List Joined) (opening final : Record)
      → ArePassesOn lane (seats_of dones) passes → AllByRecursion (Stands opening final) passes
      → AreDecidedFrom final client boards lane conversations

pub conversed : {I O : Type 0} → AnsweredLaw → (shows : I × O → PairReport)
    (boards : List BoardState) (turns : List TurnId) (client : ℕ) (befores : List SeatState) (came : List (I × O))
    (dones : List (Done I O))
    → EachDone shows boards befores came dones → AllByRecursion (IsFresh turns) befores → AreOfClientsFrom client
    befores
    → AllByRecursion HadMemory (served_of dones) → Conversed shows boards client came dones
conversed answered shows boards turns client [] [] [] each fresh of memory = record {
  conversations = [];
  exchanged = tt;
  submitted = λ lane passes are. none_submitted lane client passes are;
  decided = λ lane passes opening final are stand. tt;
}
conversed answered shows boards turns client [] [] (d ∷ dones) each fresh of memory = absurd each
conversed answered shows boards turns client [] (c ∷ came) dones each fresh of memory = absurd each
conversed answered shows boards turns client (b ∷ befores) [] dones each fresh of memory = absurd each
conversed answered shows boards turns client (b ∷ befores) (c ∷ came) [] each fresh of memory = absurd each
conversed answered shows boards turns client (b ∷ befores) (c ∷ came) (d ∷ dones) each fresh of memory =
    let s = each.0.under.as_served in
    let all = settled boards s.unwritten s.unanswered s.part d.served.end s.part_of memory.0 in
    let rest =
    conversed answered shows boards turns (client + 1) befores came dones each.1 fresh.1 of.1 memory.1 in
    let one : Conversation = record { answered = s.answered; cut_off = s.unwritten } in
    record {
      conversations = one ∷ rest.conversations;
      exchanged = (
        record {
          was_served = record { before = b; after = d.seat; client' = of.0; under = each.0.under };
          answered' = refl;
          cut_off' = refl;
          none_else = all;
        },
        rest.exchanged,
      );
      submitted = λ lane passes are. some_submitted lane client (submissions_on boards lane (exchanges_of one))
          (submitted_on
          boards lane rest.conversations) d.seat (seats_of dones) passes are (λ pass at. submitted_all turns boards
          client
          lane b d.seat (shows c) (shows (d.src, d.sink)) d.served pass fresh.0 of.0 each.0 all at)
          (rest.submitted lane);
      decided = λ lane passes opening final are stand. some_decided client lane opening final one rest.conversations
          boards d.seat (seats_of dones) passes are stand
          (λ k at. talk_decided answered turns boards client lane b d.seat (shows c)
          (shows (d.src, d.sink)) d.served fresh.0 of.0 each.0 k at)
          (λ later are' stand'. rest.decided lane later opening final are' stand');
    }

-- ---- all together

of_the_seats : {L : Type 0} (tells : L → Option Telling) (lane : ℕ) (seats others : List SeatState)
    (old new : LaneState L)
    → others ≡ [] → (back : LaneBack tells lane (seats ++ others) old new) → ArePassesOn lane seats back.passes
of_the_seats tells lane seats others old new none back =
    subst (λ (l : List SeatState). ArePassesOn lane l back.passes)
    (ap (λ (l : List SeatState). seats ++ l) none ∙ append-nil seats) back.of_seats

-- a lane that had no entry, where the seats submitted these bodies
served_lane : {L : Type 0} (tells : L → Option Telling) (boards : List BoardState) (lane : ℕ)
    (seats others : List SeatState) → others ≡ [] → (conversations : List Conversation) (old new : LaneState L)
    → LaneBack tells lane (seats ++ others) old new → HasNoEntry old
    → ((passes : List Joined) → ArePassesOn lane seats passes
    → AllSubmitted 1 (submitted_on boards lane conversations) passes)
    → IsServedLane tells (submitted_on boards lane conversations) old new
served_lane tells boards lane seats others no_others conversations old new back none submitted = record {
  after = back.after;
  served_on = record {
    passes = back.passes;
    took_in = subst (λ (items : List Item). TookIn back.passes (came_with (head_shown tells old) items) back.after) none
        back.took;
    each = submitted back.passes (of_the_seats tells lane seats others old new no_others back);
  };
  ended = back.ended;
}

-- the bodies of all conversations were decided on fronts of the record with which the lane came back
lane_decided : {L : Type 0} (tells : L → Option Telling) (boards : List BoardState) (lane : ℕ)
    (seats others : List SeatState) → others ≡ [] → (conversations : List Conversation) (old new : LaneState L)
    → LaneBack tells lane (seats ++ others) old new
    → ((passes : List Joined) (opening final : Record) → ArePassesOn lane seats passes
    → AllByRecursion (Stands opening final) passes → AreDecidedFrom final 1 boards lane conversations)
    → AreDecidedFrom (shown_record tells new) 1 boards lane conversations
lane_decided tells boards lane seats others no_others conversations old new back decided =
    decided back.passes back.after.opening (shown_record tells new)
    (of_the_seats tells lane seats others old new no_others back)
    (subst (AllByRecursion (Stands back.after.opening (shown_record tells new))) back.took.joined'
    back.ended.told.joined_stand)

lane_by_rules : {L : Type 0} → BackLaw → PlannedLaw → (tells : L → Option Telling) (boards : List BoardState) (lane : ℕ)
    (passes : List Joined) (conversations : List Conversation) (old new : LaneState L) (after : Knowledge)
    → TookIn passes (first_knowledge (shown_record tells old)) after → Ends after (shown_record tells new)
    → IsServedLane tells (submitted_on boards lane conversations) old new
    → AreDecidedFrom (shown_record tells new) 1 boards lane conversations
    → AreFramesByRules (payload_of old.status.mtu) (submitted_on boards lane conversations) boards lane conversations
lane_by_rules law planned tells boards lane passes conversations old new after took ended served decided =
    let connections = submitted_on boards lane conversations in
    let head = (law (head_shown tells old) (head_shown tells new) old.items new.items passes after
    (shown_record tells new) took ended refl).0 in
    subst (λ (h : Head). AreFramesByRules (payload_of h.mtu) connections boards lane conversations) head
    (all_by_rules (head_shown tells new) new.items connections boards lane 1 conversations
    (λ front begins. planned connections (head_shown tells old) (head_shown tells new) new.items front served.after
    (shown_record tells new) served.served_on served.ended refl begins) decided)

lane_filled_before : {L : Type 0} → FirstLaw → (tells : L → Option Telling) (boards : List BoardState) (lane : ℕ)
    (conversations : List Conversation) (old new : LaneState L)
    → IsServedLane tells (submitted_on boards lane conversations) old new
    → AreDecidedFrom (shown_record tells new) 1 boards lane conversations
    → AreFilledBefore (submitted_on boards lane conversations) boards lane conversations
lane_filled_before law tells boards lane conversations old new served decided =
    all_filled_before (head_shown tells new) new.items boards lane conversations
    (λ front begins index own later at many. law (submitted_on boards lane conversations) (head_shown tells old)
    (head_shown tells new) new.items front served.after
    (shown_record tells new) served.served_on served.ended refl begins index
    own later at many) decided

lane_keeps_limits : {L : Type 0} → LimitsLaw → (tells : L → Option Telling) (boards : List BoardState) (lane : ℕ)
    (conversations : List Conversation) (old new : LaneState L)
    → IsServedLane tells (submitted_on boards lane conversations) old new
    → AreDecidedFrom (shown_record tells new) 1 boards lane conversations
    → KeepLimits (submitted_on boards lane conversations)
lane_keeps_limits limits tells boards lane conversations old new served decided =
    limits (submitted_on boards lane conversations) (head_shown tells old) (head_shown tells new) new.items served.after
    (shown_record tells new) served.served_on served.ended refl
    (all_planned_last (head_shown tells new) new.items 1 boards lane conversations decided)

-- what stands of a lane
record LaneServed {L : Type 0} (tells : L → Option Telling) (boards : List BoardState) (lane : ℕ)
    (conversations : List Conversation) (old new : LaneState L) : Type 0 where
  pub served_lane' : IsServedLane tells (submitted_on boards lane conversations) old new
  pub by_rules' : AreFramesByRules (payload_of old.status.mtu) (submitted_on boards lane conversations) boards lane
      conversations
  pub filled_before' : AreFilledBefore (submitted_on boards lane conversations) boards lane conversations
  pub limits' : KeepLimits (submitted_on boards lane conversations)

lane_served : {L : Type 0} → BackLaw → PlannedLaw → FirstLaw → LimitsLaw → (tells : L → Option Telling)
    (boards : List BoardState) (lane : ℕ) (seats others : List SeatState) → others ≡ []
    → (conversations : List Conversation) (old new : LaneState L) → LaneBack tells lane (seats ++ others) old new
    → HasNoEntry old
    → ((passes : List Joined) → ArePassesOn lane seats passes
    → AllSubmitted 1 (submitted_on boards lane conversations) passes)
    → ((passes : List Joined) (opening final : Record) → ArePassesOn lane seats passes
    → AllByRecursion (Stands opening final) passes → AreDecidedFrom final 1 boards lane conversations)
    → LaneServed tells boards lane conversations old new
lane_served law planned first limits tells boards lane seats others no_others conversations old new back none submitted
    decided =
    let served = served_lane tells boards lane seats others no_others conversations old new back none submitted in
    let on = lane_decided tells boards lane seats others no_others conversations old new back decided in
    record {
      served_lane' = served;
      by_rules' = lane_by_rules law planned tells boards lane back.passes conversations old new back.after back.took
          back.ended served on;
      filled_before' = lane_filled_before first tells boards lane conversations old new served on;
      limits' = lane_keeps_limits limits tells boards lane conversations old new served on;
    }

pub served_at : {L I O : Type 0} {shows : I × O → PairReport} {boards : List BoardState} {turns : List TurnId}
    {seats : List SeatState} {end' : MasterState} {coming coming_now kept kept_now : Option (List (I × O))}
    {served : List Served} → BackLaw → AnsweredLaw → PlannedLaw → FirstLaw → LimitsLaw → (tells : L → Option Telling)
    (olds news : List (LaneState L)) (m : MasterState) → m.knows ≡ map first_knowledge (map (shown_record tells) olds)
    → AllByRecursion HasNoEntry olds
    → (h : HasServedAll shows boards turns seats (with_seats m (length seats)) end' coming coming_now kept kept_now
    served)
    → AreEnded end'.knows (map (shown_record tells) news) → AllByRecursion HadMemory served
    → AreServedAt tells boards olds news (map shows h.all_back.came) (map shows (pairs_of h.all_back.dones)) served
served_at {L} {I} {O} {shows} {boards} {turns} {seats} {end'} law answered planned first limits tells olds news m opened
    unused h ended memory =
    let b = h.all_back in
    let all : b.befores ≡ seats = sym (append-nil b.befores) ∙ (ap (λ (l : List SeatState). b.befores ++ l)
    (sym h.no_others) ∙ b.all) in
    let fresh = subst (AllByRecursion (IsFresh turns)) (sym all) b.fresh in
    let of = subst (AreOfClientsFrom 1) (sym all) b.clients in
    let talked = conversed answered shows boards turns 1 b.befores b.came b.dones b.each fresh of
    (subst (AllByRecursion HadMemory) h.lines memory) in
    let many : length (seats_of b.dones ++ b.others) ≡ length seats =
    ap (λ (l : List SeatState). length (seats_of b.dones ++ l)) h.no_others
    ∙ (ap (λ (l : List SeatState). length l) (append-nil (seats_of b.dones))
    ∙ (length-map b.dones (λ (d : Done I O). d.seat) ∙ (each_long shows boards b.befores b.came b.dones b.each
    ∙ ap (λ (l : List SeatState). length l) all))) in
    let taken = subst (λ n. AreTakenIn (with_seats m n) end' (seats_of b.dones ++ b.others)) (sym many) b.taken_in in
    let long = ended_long tells olds news (seats_of b.dones ++ b.others) m end' opened taken ended in
    let on : (lane : ℕ) (old new : LaneState L) → slice_get olds lane ≡ Some old → slice_get news lane ≡ Some new
    → LaneServed tells boards lane talked.conversations old new =
    λ lane old new eo en. lane_served law planned first limits tells boards lane (seats_of b.dones) b.others h.no_others
    talked.conversations old new
    (lane_at tells olds news (seats_of b.dones ++ b.others) m end' lane old new opened taken ended eo en)
    (all_at HasNoEntry olds lane old unused eo) (talked.submitted lane) (talked.decided lane) in
    record {
      conversations = talked.conversations;
      exchanged = subst (λ (l : List Served). HaveExchanged boards 1 talked.conversations (map shows b.came)
          (map shows (pairs_of b.dones)) l) (sym h.lines) talked.exchanged;
      lanes = record { long = long; each = λ lane old new eo en. (on lane old new eo en).served_lane' };
      by_rules = record { long = long; each = λ lane old new eo en. (on lane old new eo en).by_rules' };
      filled_before = record { long = long; each = λ lane old new eo en. (on lane old new eo en).filled_before' };
      limits = record { long = long; each = λ lane old new eo en. (on lane old new eo en).limits' };
    }
