-- What stands on lanes that came back from the hub, whatever came of the connections.
use Rattle.std.proofs.Common.{◌≡◌, ◌∙◌, ◌⊎◌, ℕ, ◌+◌, ◌≤◌, true, false, ◌==◌, cond, List, [], ◌∷◌, ◌++◌, map, length}
use Rattle.std.proofs.Common.{Option, Some, inl, inr, refl, sym, ap, subst, arith, append-nil}
use Rattle.std.specs.List.{AllByRecursion, AllZip, Contains, cons_option, filter_map, slice_get}
use Rattle.std.proofs.lemmas.Bool.{eq-eqb}
use Rattle.std.proofs.lemmas.List.{map-append}
use Rattle.ipb_base.proofs.AllLemmas.{AllByRecursion-append, back_of_all, front_of_all}
use Rattle.turn_pass.specs.Record.{made_by}
use Rattle.turn_pass.specs.Pass.{Joined, Knowledge, TurnId, first_knowledge, kept_of}
use Rattle.ipb_outside.specs.Pairs.{PairReport}
use Rattle.links.specs.Telling.{Telling}
use Rattle.lane_record.specs.declared.item.Item.{Item}
use Rattle.lane_record.specs.Coding.{item_from, as_recorded}
use Rattle.lane_record.specs.Dispatches.{entries_by, numbered_action}
use Rattle.lane_record.proofs.Coding.{read_item}
use Rattle.board_history.specs.Merges.{IsSubsequence}
use Rattle.board_history.proofs.Lists.{all_at}
use Rattle.board_history.specs.Records.{ArePlansOf, IsPartlyPlanned, bodies_planned}
use Rattle.client_history.proofs.Handed.{StandsIn, handed, made_recorded, numbers_of, of_contained}
use Rattle.client_history.specs.Clients.{came_with}
use Rattle.client_threads.specs.Clients.{TookIn}
use Rattle.hub_framing.specs.Frames.{RequestFrame}
use Rattle.hub_lane.specs.Lanes.{LaneState}
use Rattle.hub_lane.specs.declared.answers.BoardState.{BoardState}
use Rattle.hub_multiplexer.specs.Ends.{AreEnded}
use Rattle.hub_multiplexer.specs.Lanes.{shown_record}
use Rattle.hub_multiplexer.specs.Seats.{MasterState, SeatState}
use Rattle.hub_session.specs.declared.served.Served.{Served}
use Rattle.hub_session.specs.Exchanges.{frames_of}
use Rattle.hub_session.specs.Serving.{IsUnused, frame_left}
use Rattle.board_greeting.specs.Boards.{HasNoEntry, head_shown}
use Rattle.session_serve.specs.Executed.{HasSent, HaveSent, bodies_for}
use Rattle.session_serve.specs.Hubs.{AllBack, pairs_of, seats_of}
use Rattle.session_serve.specs.Plans.{ArePlannedAt, IsLaneAt, PlansFrames}
use Rattle.session_serve.specs.Seats.{AreOfClientsFrom, ArePassesOn, AreTakenIn, EachDone, IsDone, IsFresh, with_seats}
use Rattle.session_serve.specs.declared.connection.Done.{Done}
use Rattle.session_serve.proofs.AtHub.{LaneBack, TellsLaw, all_seats, ended_long, lane_at, returned_long, same_items}
use Rattle.session_serve.proofs.AtHub.{shown_at}
use Rattle.session_serve.proofs.Lists.{there}
use Rattle.session_serve.proofs.Planned.{bodies_said, planned_said, planned_sub}
use Rattle.session_serve.proofs.Seating.{clients_front}

-- ---- the passes of connections

-- the entries of a pass plan these bodies
record PassPlans (client : ℕ) (bodies : List (List ℕ)) (pass : Joined) : Type 0 where
  pub number : pass.number ≡ client
  pub planned : bodies_said (map numbered_action (filter_map item_from pass.mine)) ≡ bodies

-- so of the passes of the clients from this one on
abbrev PassesPlan : ℕ → List (List (List ℕ)) → List Joined → Type 0
PassesPlan client [] [] = Unit {0}
PassesPlan client (bodies ∷ later) (pass ∷ passes) =
    PassPlans client bodies pass × PassesPlan (client + 1) later passes
PassesPlan client bodies passes = ⊥

-- they plan bodies of these frames
record PassesPlanFrames (client position : ℕ) (connections : List (List RequestFrame)) (passes : List Joined)
    : Type 0 where
  pub planned : List (List (List ℕ))
  pub each : PassesPlan client planned passes
  pub of_frames : AllZip IsSubsequence planned (map (bodies_for position) connections)

-- frames that came from connections, and what the seats planned of them
record SentFrames {I O : Type 0} (shows : I × O → PairReport) (boards : List BoardState) (client : ℕ)
    (came : List (I × O)) (dones : List (Done I O)) : Type 0 where
  pub connections : List (List RequestFrame)
  pub sent : HaveSent connections (map shows came) (map shows (pairs_of dones))
  pub planned : (lane position : ℕ) (passes : List Joined) → IsLaneAt boards lane position
      → ArePassesOn lane (seats_of dones) passes → PassesPlanFrames client position connections passes

-- the frames that were read of a connection
abbrev frames_read : {boards : List BoardState} {before after : SeatState} {came back : PairReport} {served : Served}
    → IsDone boards before after came back served → List RequestFrame
frames_read d =
    frames_of (d.under.as_served.answered ++ d.under.as_served.unwritten) ++ frame_left d.under.as_served.unanswered

one_sent : (boards : List BoardState) (before after : SeatState) (came back : PairReport) (served : Served)
    → (d : IsDone boards before after came back served) → HasSent (frames_read d) came back
one_sent boards before after came back served d =
    let s = d.under.as_served in
    record { bytes = s.bytes; taken = s.taken; rest = s.rest; spelled = s.frames; each_frame = s.each_frame }

one_pass : (turns : List TurnId) (boards : List BoardState) (client lane position : ℕ) (before after : SeatState)
    (came back : PairReport) (served : Served) (pass : Joined) → IsLaneAt boards lane position
    → IsFresh turns before → before.client ≡ client → (d : IsDone boards before after came back served)
    → ((k : Knowledge) × (slice_get after.knows lane ≡ Some k) × (pass ≡ kept_of k))
    → (bodies : List (List ℕ)) × PassPlans client bodies pass
    × IsSubsequence bodies (bodies_for position (frames_read d))
one_pass turns boards client lane position before after came back served pass is fresh of d at =
    let s = d.under.as_served in
    let all = s.answered ++ s.unwritten in
    let was = there after.knows before.knows lane at.0 (sym s.known) at.1 in
    let on = s.on_lanes lane was.0 at.0 was.1 at.1 in
    let did = ap (λ (j : Joined). map numbered_action (filter_map item_from j.mine)) at.2 ∙ on.actions in (
      bodies_said (map numbered_action (filter_map item_from pass.mine)),
      record {
        number = ap (λ (j : Joined). j.number) at.2 ∙ (ap (λ (z : Knowledge). z.number) on.rest_same
            ∙ (all_at (λ (z : Knowledge). z.number ≡ before.client) before.knows lane was.0 fresh.numbers was.1 ∙ of));
        planned = refl;
      },
      subst (λ l. IsSubsequence (bodies_said l) (bodies_for position (frames_read d))) (sym did)
          (planned_sub boards lane position is all s.unanswered),
    )

no_connection : (client lane position : ℕ) (passes : List Joined) → ArePassesOn lane [] passes
    → PassesPlanFrames client position [] passes
no_connection client lane position [] are = record { planned = []; each = tt; of_frames = tt }
no_connection client lane position (p ∷ passes) are = absurd are

one_connection : (client lane position : ℕ) (frames : List RequestFrame) (others : List (List RequestFrame))
    (seat : SeatState) (seats : List SeatState) (passes : List Joined) → ArePassesOn lane (seat ∷ seats) passes
    → ((pass : Joined) → ((k : Knowledge) × (slice_get seat.knows lane ≡ Some k) × (pass ≡ kept_of k))
    → (bodies : List (List ℕ)) × PassPlans client bodies pass × IsSubsequence bodies (bodies_for position frames))
    → ((later : List Joined) → ArePassesOn lane seats later → PassesPlanFrames (client + 1) position others later)
    → PassesPlanFrames client position (frames ∷ others) passes
one_connection client lane position frames others seat seats [] are first later = absurd are
one_connection client lane position frames others seat seats (p ∷ passes) are first later =
    let one = first p are.0 in
    let rest = later passes are.1 in record {
      planned = one.0 ∷ rest.planned;
      each = (one.1, rest.each);
      of_frames = (one.2, rest.of_frames);
    }

sent_frames : {I O : Type 0} (shows : I × O → PairReport) (boards : List BoardState) (turns : List TurnId)
    (client : ℕ) (befores : List SeatState) (came : List (I × O)) (dones : List (Done I O))
    → EachDone shows boards befores came dones → AllByRecursion (IsFresh turns) befores
    → AreOfClientsFrom client befores → SentFrames shows boards client came dones
sent_frames shows boards turns client [] [] [] each fresh of =
    record {
      connections = [];
      sent = tt;
      planned = λ lane position passes is are. no_connection client lane position passes are;
    }
sent_frames shows boards turns client [] [] (d ∷ dones) each fresh of = absurd each
sent_frames shows boards turns client [] (c ∷ came) dones each fresh of = absurd each
sent_frames shows boards turns client (b ∷ befores) [] dones each fresh of = absurd each
sent_frames shows boards turns client (b ∷ befores) (c ∷ came) [] each fresh of = absurd each
sent_frames shows boards turns client (b ∷ befores) (c ∷ came) (d ∷ dones) each fresh of =
    let rest = sent_frames shows boards turns (client + 1) befores came dones each.1 fresh.1 of.1 in
    let back = shows (d.src, d.sink) in record {
      connections = frames_read each.0 ∷ rest.connections;
      sent = (one_sent boards b d.seat (shows c) back d.served each.0, rest.sent);
      planned = λ lane position passes is are. one_connection client lane position (frames_read each.0)
          rest.connections d.seat (seats_of dones) passes are
          (λ pass at. one_pass turns boards client lane position b d.seat (shows c) back d.served pass is fresh.0 of.0
          each.0 at) (λ later are'. rest.planned lane position later is are');
    }

-- ---- seats that did nothing

-- passes without an entry
abbrev HasNone : Joined → Type 0
HasNone pass = pass.mine ≡ []

-- the passes of some seats, and those of the others
record PassesApart (lane : ℕ) (seats others : List SeatState) (passes : List Joined) : Type 0 where
  pub first : List Joined
  pub later : List Joined
  pub all : passes ≡ first ++ later
  pub of_seats : ArePassesOn lane seats first
  pub of_others : ArePassesOn lane others later

passes_apart : (lane : ℕ) (seats others : List SeatState) (passes : List Joined)
    → ArePassesOn lane (seats ++ others) passes → PassesApart lane seats others passes
passes_apart lane [] others passes are =
    record { first = []; later = passes; all = refl; of_seats = tt; of_others = are }
passes_apart lane (s ∷ seats) others [] are = absurd are
passes_apart lane (s ∷ seats) others (p ∷ passes) are =
    let rest = passes_apart lane seats others passes are.1 in record {
      first = p ∷ rest.first;
      later = rest.later;
      all = ap (λ (l : List Joined). p ∷ l) rest.all;
      of_seats = (are.0, rest.of_seats);
      of_others = rest.of_others;
    }

others_none : (turns : List TurnId) (lane : ℕ) (seats : List SeatState) (passes : List Joined)
    → AllByRecursion (IsFresh turns) seats → ArePassesOn lane seats passes → AllByRecursion HasNone passes
others_none turns lane [] [] fresh are = tt
others_none turns lane [] (p ∷ passes) fresh are = absurd are
others_none turns lane (s ∷ seats) [] fresh are = absurd are
others_none turns lane (s ∷ seats) (p ∷ passes) fresh are = (
  ap (λ (j : Joined). j.mine) are.0.2 ∙ (all_at IsUnused s.knows lane are.0.0 fresh.0.unused are.0.1).no_call,
  others_none turns lane seats passes fresh.1 are.1,
)

-- ---- the entries of a lane

read_again : (xs : List Item) → filter_map item_from (map as_recorded xs) ≡ xs
read_again [] = refl
read_again (x ∷ xs) =
    ap (λ (o : Option Item). cons_option o (filter_map item_from (map as_recorded xs))) (read_item x)
    ∙ ap (λ (ys : List Item). x ∷ ys) (read_again xs)

own_entries : (client : ℕ) (more : List Item) (pass : Joined) → pass.number ≡ client → StandsIn more pass
    → filter_map item_from pass.mine ≡ entries_by client more
own_entries client more pass number stands =
    ap (filter_map item_from) (stands ∙ ap (λ (n : ℕ). made_by n (map as_recorded more)) number
    ∙ made_recorded client more)
    ∙ read_again (entries_by client more)

plans_of : (client : ℕ) (planned : List (List (List ℕ))) (passes : List Joined) (more : List Item)
    → PassesPlan client planned passes → AllByRecursion (StandsIn more) passes → ArePlansOf client planned more
plans_of client [] [] more each stand = tt
plans_of client [] (p ∷ passes) more each stand = absurd each
plans_of client (bodies ∷ planned) [] more each stand = absurd each
plans_of client (bodies ∷ planned) (p ∷ passes) more each stand =
    let own = own_entries client more p each.0.number stand.0 in
    let said : bodies_planned client more ≡ bodies = planned_said (entries_by client more)
    ∙ (ap (λ (xs : List Item). bodies_said (map numbered_action xs)) (sym own) ∙ each.0.planned) in (
      ([], sym said ∙ sym (append-nil (bodies_planned client more))),
      plans_of (client + 1) planned passes more each.1 stand.1,
    )

-- a client with this number has a place among so many, or no entry
abbrev IsAmong : ℕ → List Item → ℕ → Type 0
IsAmong many more n = (n ≤ many) ⊎ (entries_by n more ≡ [])

passes_among : (client many : ℕ) (planned : List (List (List ℕ))) (passes : List Joined) (more : List Item)
    → PassesPlan client planned passes → client + length planned ≤ many + 1
    → AllByRecursion (IsAmong many more) (numbers_of passes)
passes_among client many [] [] more each few = tt
passes_among client many [] (p ∷ passes) more each few = absurd each
passes_among client many (bodies ∷ planned) [] more each few = absurd each
passes_among client many (bodies ∷ planned) (p ∷ passes) more each few =
    let number = each.0.number in
    (inl (omega (arith, few, number)), passes_among (client + 1) many planned passes more each.1 (omega (arith, few)))

others_among : (many : ℕ) (passes : List Joined) (more : List Item) → AllByRecursion HasNone passes
    → AllByRecursion (StandsIn more) passes → AllByRecursion (IsAmong many more) (numbers_of passes)
others_among many [] more none stand = tt
others_among many (p ∷ passes) more none stand = (
  inr (sym (own_entries p.number more p refl stand.0) ∙ ap (filter_map item_from) none.0),
  others_among many passes more none.1 stand.1,
)

-- an entry has a client with an entry
entry_among : (many : ℕ) (x : Item) (xs : List Item) → IsAmong many (x ∷ xs) x.client → x.client ≤ many
entry_among many x xs (inl few) = few
entry_among many x xs (inr none) =
    let mine : (x.client == x.client) ≡ true = eq-eqb x.client x.client refl in
    let first : x ∷ entries_by x.client xs ≡ [] =
    subst (λ b. cond b (x ∷ entries_by x.client xs) (entries_by x.client xs) ≡ []) mine none in absurd cc

rest_none : (x : Item) (xs : List Item) (n : ℕ) → entries_by n (x ∷ xs) ≡ [] → entries_by n xs ≡ []
rest_none x xs n = elim (x.client == n) as
    (λ b. cond b (x ∷ entries_by n xs) (entries_by n xs) ≡ [] → entries_by n xs ≡ []) [
      | true ↦ λ is. absurd cc
      | false ↦ λ is. is
    ]

later_among : (many : ℕ) (x : Item) (xs : List Item) (n : ℕ) → IsAmong many (x ∷ xs) n → IsAmong many xs n
later_among many x xs n (inl few) = inl few
later_among many x xs n (inr none) = inr (rest_none x xs n none)

nobody_else : (many : ℕ) (good : ℕ → Type 0) (xs : List Item) → ((n : ℕ) → good n → IsAmong many xs n)
    → AllByRecursion (λ (x : Item). good x.client) xs → AllByRecursion (λ (x : Item). x.client ≤ many) xs
nobody_else many good [] among all = tt
nobody_else many good (x ∷ xs) among all = (
  entry_among many x xs (among x.client all.0),
  nobody_else many good xs (λ n is. later_among many x xs n (among n is)) all.1,
)

-- what seats planned on a lane that had no entry, where the others did nothing
lane_plans : {L : Type 0} (tells : L → Option Telling) (turns : List TurnId) (lane position : ℕ)
    (connections : List (List RequestFrame)) (seats others : List SeatState) (old new : LaneState L)
    → LaneBack tells lane (seats ++ others) old new → HasNoEntry old → AllByRecursion (IsFresh turns) others
    → ((passes : List Joined) → ArePassesOn lane seats passes → PassesPlanFrames 1 position connections passes)
    → PlansFrames position connections new.items
lane_plans tells turns lane position connections seats others old new back none fresh plans =
    let took = subst (λ (items : List Item). TookIn back.passes (came_with (head_shown tells old) items) back.after)
    none back.took in
    let handed_back = handed (head_shown tells old) (head_shown tells new) [] new.items back.passes back.after
    (shown_record tells new) took back.ended refl in
    let more = handed_back.0 in
    let h = handed_back.1 in
    let apart = passes_apart lane seats others back.passes back.of_seats in
    let planned = plans apart.first apart.of_seats in
    let stand = subst (AllByRecursion (StandsIn more)) apart.all h.stand in
    let of_first = front_of_all (StandsIn more) apart.first apart.later stand in
    let of_later = back_of_all (StandsIn more) apart.first apart.later stand in
    let many = length planned.planned in
    let numbers : AllByRecursion (IsAmong many more) (numbers_of back.passes) =
    subst (λ (l : List Joined). AllByRecursion (IsAmong many more) (numbers_of l)) (sym apart.all)
    (subst (AllByRecursion (IsAmong many more))
    (sym (map-append (λ (j : Joined). j.number) apart.first apart.later))
    (AllByRecursion-append (IsAmong many more) (numbers_of apart.first) (numbers_of apart.later)
    (passes_among 1 many planned.planned apart.first more planned.each (omega arith))
    (others_among many apart.later more (others_none turns lane others apart.later fresh apart.of_others) of_later))) in
    record {
      planned = planned.planned;
      partly = subst (IsPartlyPlanned planned.planned) (sym h.grown) (record {
        each = plans_of 1 planned.planned apart.first more planned.each of_first;
        nobody_else = nobody_else many (Contains (numbers_of back.passes)) more
            (λ n is. of_contained (IsAmong many more) (numbers_of back.passes) n numbers is) h.by_passes;
      });
      of_frames = planned.of_frames;
    }

-- ---- all lanes

pub planned_at : {L I O : Type 0} {shows : I × O → PairReport} {boards : List BoardState} {turns : List TurnId}
    {seats : List SeatState} {end' : MasterState} {coming coming_now kept kept_now : Option (List (I × O))}
    (tells : L → Option Telling) (olds news : List (LaneState L)) (m : MasterState)
    → m.knows ≡ map first_knowledge (map (shown_record tells) olds) → AllByRecursion HasNoEntry olds
    → (b : AllBack shows boards turns seats (with_seats m (length seats)) end' coming coming_now kept kept_now)
    → AreEnded end'.knows (map (shown_record tells) news)
    → ArePlannedAt boards olds news (map shows b.came) (map shows (pairs_of b.dones))
planned_at {L} {I} {O} {shows} {boards} {turns} {seats} {end'} tells olds news m opened unused b ended =
    let fresh = subst (AllByRecursion (IsFresh turns)) (sym b.all) b.fresh in
    let of = subst (AreOfClientsFrom 1) (sym b.all) b.clients in
    let sent = sent_frames shows boards turns 1 b.befores b.came b.dones b.each
    (front_of_all (IsFresh turns) b.befores b.others fresh) (clients_front 1 b.befores b.others of).0 in
    let idle = back_of_all (IsFresh turns) b.befores b.others fresh in
    let taken = subst (λ n. AreTakenIn (with_seats m n) end' (seats_of b.dones ++ b.others)) (sym (all_seats b))
    b.taken_in in
    record {
      connections = sent.connections;
      sent = sent.sent;
      lanes = record {
        long = ended_long tells olds news (seats_of b.dones ++ b.others) m end' opened taken ended;
        each = λ lane old new eo en position is. lane_plans tells turns lane position sent.connections
            (seats_of b.dones) b.others old new
            (lane_at tells olds news (seats_of b.dones ++ b.others) m end' lane old new opened taken ended eo en)
            (all_at HasNoEntry olds lane old unused eo) idle
            (λ passes are. sent.planned lane position passes is are);
      };
    }

-- lanes that did not go to a hub
pub planned_none : {L : Type 0} → TellsLaw → (tells : L → Option Telling) (boards : List BoardState)
    (olds news : List (LaneState L)) → AllByRecursion HasNoEntry olds
    → map (shown_record tells) news ≡ map (shown_record tells) olds → ArePlannedAt boards olds news [] []
planned_none law tells boards olds news unused is = record {
  connections = [];
  sent = tt;
  lanes = record {
    long = returned_long tells olds news is;
    each = λ lane m n em en position at. record {
      planned = [];
      partly = subst (IsPartlyPlanned [])
          (sym (same_items law tells m n (shown_at tells olds news lane m n is em en)
          ∙ all_at HasNoEntry olds lane m unused em))
          (record { each = tt; nobody_else = tt });
      of_frames = tt;
    };
  };
}
