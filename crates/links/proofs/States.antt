-- States of runs: what each event makes of them.
use Rattle.std.proofs.Common.{◌≡◌, ℕ, zero, suc, ◌+◌, Bool, true, false, cond, List, [], ◌∷◌, ◌++◌, length}
use Rattle.std.proofs.Common.{Option, Some, None, Result, Ok, Err, refl, sym, ap, ◌∙◌, subst, arith, ◌==◌, nat_lt}
use Rattle.std.specs.Prelude.{nat_le, min, ◌||◌}
use Rattle.std.specs.List.{AllByRecursion, slice_get}
use Rattle.std.proofs.lemmas.List.{append-nil}
use Rattle.ipb_base.proofs.AllLemmas.{AllByRecursion-append}
use Rattle.reliable_engine.specs.Answers.{IsQuiet}
use Rattle.reliable_engine.specs.Events.{IsAtRest}
use Rattle.world_model.specs.declared.datagram.Datagram.{Datagram}
use Rattle.world_model.specs.declared.datagram.Direction.{Direction}
use Rattle.world_model.specs.declared.datagram.Direction.TheVariants.{ToBoard, ToHub}
use Rattle.world_model.specs.declared.offered.Fate.{Fate}
use Rattle.world_model.specs.declared.offered.Offered.{Offered}
use Rattle.world_model.specs.declared.offered.OpenPlace.{OpenPlace}
use Rattle.world_model.specs.declared.moves.WorldEnd.{WorldEnd}
use Rattle.world_model.specs.declared.moves.WorldEnd.TheVariants.{NotThere, TooOld}
use Rattle.world_model.specs.declared.moves.WorldMove.{WorldMove}
use Rattle.world_model.specs.declared.moves.WorldMove.TheVariants.{BoardHears, HubHears, Quiet}
use Rattle.world_model.specs.Messages.{ToHub as ToTheHub, Reply, StatusReply, to_hub}
use Rattle.world_model.specs.Board.{Board, hear}
use Rattle.world_model.specs.Hub.{HandedOut, IsDrained, after_handing_out, hands_out, none_handed_out}
use Rattle.world_model.specs.Hub.{Hub, give_up, hear_quiet, hear_status, is_waiting, low, new_hub, offer, open_with}
use Rattle.world_model.specs.Hub.{after_recovery, settle, some_waited, take_message, told_place, want_status, without}
use Rattle.world_model.specs.Sends.{Next, Wanted, bytes_to_send, first_send, next_send, pending, first_wanted}
use Rattle.world_model.specs.Sends.{wanted_or_first, wishes}
use Rattle.world_model.specs.Air.{goes_to, is_alive}
use Rattle.world_model.specs.World.{World, air_after_answer, board_hears, flush, flush_on, go_on, handed_out, hub_hears}
use Rattle.world_model.specs.World.{moves_on, run_moves, sent_into, start, step, taken_datagram, when_taken, with_hub}
use Rattle.world_model.specs.Facts.{IsStart}
use Rattle.world_model.specs.History.{IsMove, IsRun}
use Rattle.world_model.specs.Lanes.{IsLaneState, IsState, caught_up}
use Rattle.world_model.specs.Links.{IsHanded, IsHeard, IsJoined, Told, birth_of, first_sends, heard_by}
use Rattle.world_model.specs.Links.{heard_on, hears_all, sent_on, then_told}
use Rattle.links.specs.States.{IsReached, world_of_both}
use Rattle.world_model.proofs.Lists.{either}
use Rattle.links.proofs.Births.{count_more}

-- ---- at rest nothing is pending

no_wishes : (os : List OpenPlace) → AllByRecursion IsQuiet os → wishes os ≡ 0
no_wishes [] quiet = refl
no_wishes (o ∷ os) quiet =
    let later = no_wishes os quiet.1 in
    rw (quiet.0.no_resend, quiet.0.no_control) (omega arith)

rest_pending : (hub : Hub) → IsAtRest hub → pending hub ≡ 0
rest_pending hub is =
    let wishes_none = no_wishes hub.open_places is.quiet in
    let queue : length hub.queue ≡ 0 = ap (λ (q : List Offered). length q) is.queue in
    rw is.status (omega (arith, wishes_none, queue))

-- ---- at rest a message keeps the rest

quiet_without : (place : ℕ) (os : List OpenPlace) → AllByRecursion IsQuiet os
    → AllByRecursion IsQuiet (without place os)
quiet_without place [] quiet = tt
quiet_without place (o ∷ os) quiet = either (AllByRecursion IsQuiet) (o.place == place) os (o ∷ without place os)
    (λ _. quiet.1) (λ _. (quiet.0, quiet_without place os quiet.1))

unwaited_head : (b c : Bool) → (b || c) ≡ false → c ≡ false
unwaited_head true c e = absurd cc
unwaited_head false c e = e

unwaited_front : (b c : Bool) → (b || c) ≡ false → b ≡ false
unwaited_front true c e = absurd cc
unwaited_front false c e = refl

unwaited_without : (place : ℕ) (os : List OpenPlace) → some_waited os ≡ false → some_waited (without place os) ≡ false
unwaited_without place [] none = refl
unwaited_without place (o ∷ os) none = either (λ (xs : List OpenPlace). some_waited xs ≡ false) (o.place == place) os
    (o ∷ without place os) (λ _. unwaited_head o.waited (some_waited os) none)
    (λ _. rw (unwaited_front o.waited (some_waited os) none)
    (unwaited_without place os (unwaited_head o.waited (some_waited os) none)))

settle_rests : (hub : Hub) (words : List ℕ) (r : Option OpenPlace) → IsAtRest hub → IsAtRest (settle hub words r)
settle_rests hub words None is = is
settle_rests hub words (Some o) is = record {
  queue = is.queue;
  waited = unwaited_without o.place hub.open_places is.waited;
  round = refl;
  status = is.status;
  quiet = quiet_without o.place hub.open_places is.quiet;
}

status_rests : (hub : Hub) (next : ℕ) → IsAtRest hub → hear_status hub next ≡ hub
status_rests hub next is = rw is.round refl

message_rests : (hub : Hub) (m : Option ToTheHub) → IsAtRest hub → IsAtRest (take_message hub m)
message_rests hub None is = is
message_rests hub (Some (StatusReply mtu buffers next)) is = subst IsAtRest (sym (status_rests hub next is)) is
message_rests hub (Some (Reply id words)) is = settle_rests hub words (open_with hub.first id hub.open_places) is

-- no message changes whether the hub gave up

recovered_gave_up : (hub : Hub) (r : Option ℕ) → (after_recovery hub r).gave_up ≡ hub.gave_up
recovered_gave_up hub None = refl
recovered_gave_up hub (Some told) = refl

settle_gave_up : (hub : Hub) (words : List ℕ) (r : Option OpenPlace) → (settle hub words r).gave_up ≡ hub.gave_up
settle_gave_up hub words None = refl
settle_gave_up hub words (Some o) = refl

message_gave_up : (hub : Hub) (m : Option ToTheHub) → (take_message hub m).gave_up ≡ hub.gave_up
message_gave_up hub None = refl
message_gave_up hub (Some (StatusReply mtu buffers next)) = either (λ (h : Hub). h.gave_up ≡ hub.gave_up)
    (nat_lt 0 hub.status_requests) (after_recovery hub (told_place hub next)) hub
    (λ _. recovered_gave_up hub (told_place hub next)) (λ _. refl)
message_gave_up hub (Some (Reply id words)) = settle_gave_up hub words (open_with hub.first id hub.open_places)

-- ---- a send leaves that as it was, and the fates

-- a send leaves what is to be handed out, and whether the hub gave up
pub record LeavesTold (hub : Hub) (next : Next) : Type 0 where
  pub gave_up : next.hub.gave_up ≡ hub.gave_up
  pub fates : next.hub.fates ≡ hub.fates
  pub lates : next.hub.lates ≡ hub.lates

abbrev pub Leaves : Hub → Option Next → Type 0
Leaves hub None = Unit {0}
Leaves hub (Some next) = LeavesTold hub next

first_leaves : (hub : Hub) (queue : List Offered) → Leaves hub (first_send hub queue)
first_leaves hub [] = tt
first_leaves hub (o ∷ later) = either (Leaves hub)
    (nat_le (length hub.sent + 1 + 1) (hub.window + low hub)) _ _
    (λ _. record { gave_up = refl; fates = refl; lates = refl }) (λ _. tt)

wanted_leaves : (hub : Hub) (r : Option Wanted) → Leaves hub (wanted_or_first hub r)
wanted_leaves hub None = first_leaves hub hub.queue
wanted_leaves hub (Some w) = record { gave_up = refl; fates = refl; lates = refl }

send_leaves : (hub : Hub) → Leaves hub (next_send hub)
send_leaves hub = either (Leaves hub) hub.status_wanted _ _ (λ _. record { gave_up = refl; fates = refl; lates = refl })
    (λ _. wanted_leaves hub (first_wanted hub.first hub.open_places))

pub one_leaves : (hub : Hub) (next : Next) → next_send hub ≡ Some next
    → LeavesTold hub next
one_leaves hub next is = subst (Leaves hub) is (send_leaves hub)

-- ---- what the sends that wait leave as it was

pub record SameTold (old new : World) : Type 0 where
  pub board : new.board ≡ old.board
  pub fates : new.fates ≡ old.fates
  pub waiting : new.hub.fates ≡ old.hub.fates
  pub lates : new.lates ≡ old.lates
  pub waiting_lates : new.hub.lates ≡ old.hub.lates

same_told : (w : World) → SameTold w w
same_told w = record { board = refl; fates = refl; waiting = refl; lates = refl; waiting_lates = refl }

flush_case : (most : ℕ) (w : World) (r : Option Next) → Leaves w.hub r
    → ((next : Next) → SameTold (sent_into w next) (flush most (sent_into w next)))
    → SameTold w (flush_on r (λ next. flush most (sent_into w next)) w)
flush_case most w None leaves later = same_told w
flush_case most w (Some next) leaves later =
    let is = later next in
    record {
      board = is.board;
      fates = is.fates;
      waiting = is.waiting ∙ leaves.fates;
      lates = is.lates;
      waiting_lates = is.waiting_lates ∙ leaves.lates;
    }

flush_same : (most : ℕ) (w : World) → SameTold w (flush most w)
flush_same zero w = same_told w
flush_same (suc most) w =
    flush_case most w (next_send w.hub) (send_leaves w.hub) (λ next. flush_same most (sent_into w next))

pub all_fates : (w : World) → (caught_up w).fates ≡ w.fates ++ w.hub.fates
all_fates w =
    let same = flush_same (pending w.hub) w in
    ap (λ (fates : List (ℕ × Fate)). fates ++ (flush (pending w.hub) w).hub.fates) same.fates
    ∙ ap (λ (fates : List (ℕ × Fate)). w.fates ++ fates) same.waiting

pub all_lates : (w : World) → (caught_up w).lates ≡ w.lates ++ w.hub.lates
all_lates w =
    let same = flush_same (pending w.hub) w in
    ap (λ (lates : List (ℕ × List ℕ)). lates ++ (flush (pending w.hub) w).hub.lates) same.lates
    ∙ ap (λ (lates : List (ℕ × List ℕ)). w.lates ++ lates) same.waiting_lates

pub same_board : (w : World) → (caught_up w).board ≡ w.board
same_board w = (flush_same (pending w.hub) w).board

-- ---- moves

later_moves : (r : Result World WorldEnd) (one two : World → Result World WorldEnd) (w new : World)
    → moves_on r one ≡ Ok w → ((v : World) → one v ≡ Ok w → two v ≡ Ok new) → moves_on r two ≡ Ok new
later_moves (Ok v) one two w new e f = f v e
later_moves (Err end) one two w new e f = absurd cc

-- one more move
one_more_move : (at : ℕ) (begin : World) (moves : List WorldMove) (move : WorldMove) (w new : World)
    → run_moves at begin moves ≡ Ok w → ((n : ℕ) → step n w move ≡ Ok new)
    → run_moves at begin (moves ++ move ∷ []) ≡ Ok new
one_more_move at begin [] move w new ran leads =
    let same : begin ≡ w = cc in
    ap (λ (r : Result World WorldEnd). moves_on r (λ after. Ok after))
    (ap (λ (v : World). step at v move) same ∙ leads at)
one_more_move at begin (m ∷ moves) move w new ran leads =
    later_moves (step at begin m) (λ after. run_moves (at + 1) after moves)
    (λ after. run_moves (at + 1) after (moves ++ move ∷ [])) w new ran
    (λ v later. one_more_move (at + 1) v moves move w new later leads)

moved_on : (begin w new : World) (move : WorldMove) → IsMove move → IsState begin w
    → ((n : ℕ) → step n w move ≡ Ok new) → IsState begin new
moved_on begin w new move can is leads = record {
  moves = is.moves ++ move ∷ [];
  sendable = AllByRecursion-append IsMove is.moves (move ∷ []) is.sendable (can, tt);
  ran = one_more_move 0 begin is.moves move w new is.ran leads;
}

-- what the law of world_model says of the end of sending
abbrev pub SendsEnd : Type 0
SendsEnd = (w : World) → next_send w.hub ≡ None → flush (pending w.hub) w ≡ w

told_nil : (w : World) → (fates : List (ℕ × Fate)) → (lates : List (ℕ × List ℕ)) → fates ≡ [] → lates ≡ []
    → record w { hub = record w.hub { fates = []; lates = [] }; fates = w.fates ++ fates; lates = w.lates ++ lates }
    ≡ record w { hub = record w.hub { fates = fates; lates = lates } }
told_nil w fates lates a b = rw (a, b, append-nil w.fates, append-nil w.lates) refl

nothing_handed : (w : World) → IsDrained w.hub → handed_out w ≡ w
nothing_handed w none = told_nil w w.hub.fates w.hub.lates none.fates none.lates

pub caught_up_here : SendsEnd → (w : World) → next_send w.hub ≡ None → IsDrained w.hub → caught_up w ≡ w
caught_up_here law w none told = ap handed_out (law w none) ∙ nothing_handed w told

state_here : SendsEnd → (begin w : World) → next_send w.hub ≡ None → IsDrained w.hub → IsLaneState begin w
    → IsState begin w
state_here law begin w none told is = subst (IsState begin) (caught_up_here law w none told) is.state

-- ---- where a run begins, and offers

pub begins_reached : (window rounds : ℕ) (board : Board) (air : List Datagram)
    → IsJoined (new_hub board.first (min window board.buffers) rounds) (record { board = board; air = air })
    → IsLaneState (start window rounds board air) (start window rounds board air)
    → IsReached (start window rounds board air) none_handed_out (new_hub board.first (min window board.buffers) rounds)
    (record { board = board; air = air })
begins_reached window rounds board air joined state =
    record { joined = joined; rest = λ e. absurd cc; state = state }

pub offered_reached : (begin : World) (so_far : HandedOut) (hub : Hub) (told : Told) (offered : Offered)
    → (is : IsReached begin so_far hub told)
    → IsJoined (offer hub offered) told
    → IsLaneState begin (with_hub (world_of_both hub told so_far) (offer hub offered))
    → IsReached begin so_far (offer hub offered) told
offered_reached begin so_far hub told offered is joined state =
    record { joined = joined; rest = λ e. absurd cc; state = state }

-- ---- sends

-- the link gives a datagram the birth that the hub does
born_alike : (hub : Hub) (told : Told) (bytes : List ℕ) → IsJoined hub (sent_on told bytes)
    → birth_of told bytes ≡ length hub.sent
born_alike hub told bytes joined = sym (count_more told.board.first 0 told.air (record {
  direction = ToBoard;
  bytes = bytes;
  birth = birth_of told bytes;
})) ∙ joined.counts

abbrev pub air_with : World → Hub → List ℕ → ℕ → World
air_with w hub bytes birth = record w {
  hub = hub;
  air = w.air ++ record { direction = ToBoard; bytes = bytes; birth = birth } ∷ [];
}

abbrev pub NothingToSend : Type 0
NothingToSend = (hub : Hub) → IsAtRest hub → next_send hub ≡ None

no_send_at_rest : NothingToSend → (hub : Hub) (next : Next) → next_send hub ≡ Some next
    → (hub.gave_up ≡ true → IsAtRest hub) → next.hub.gave_up ≡ true → IsAtRest next.hub
no_send_at_rest law hub next is rest gave_up =
    let kept : next.hub.gave_up ≡ hub.gave_up = (one_leaves hub next is).gave_up in
    let none = law hub (rest (sym kept ∙ gave_up)) in
    absurd cc

pub sent_reached : NothingToSend → (begin : World) (so_far : HandedOut) (hub : Hub) (told : Told) (next : Next)
    → (is : IsReached begin so_far hub told) → next_send hub ≡ Some next
    → IsJoined next.hub (sent_on told (bytes_to_send next.hub next.send))
    → IsLaneState begin (sent_into (world_of_both hub told so_far) next)
    → IsReached begin so_far next.hub (sent_on told (bytes_to_send next.hub next.send))
sent_reached law begin so_far hub told next is send joined state =
    let bytes = bytes_to_send next.hub next.send in
    let birth = born_alike next.hub told bytes joined in
    record {
      joined = joined;
      rest = no_send_at_rest law hub next send is.rest;
      state = subst (IsLaneState begin)
          (ap (air_with (world_of_both hub told so_far) next.hub bytes) (sym birth)) state;
    }

-- ---- what is heard

if_some : {X : Type 0} (b : Bool) (r : Option X) (x : X) → cond b r None ≡ Some x → (b ≡ true) × (r ≡ Some x)
if_some true r x e = (refl, e)
if_some false r x e = absurd cc

taken_ok : (n sent : ℕ) (hearer : Direction) (r : Option Datagram) (datagram : Datagram) → r ≡ Some datagram
    → goes_to hearer datagram.direction ≡ true → is_alive sent datagram ≡ true
    → taken_datagram n sent hearer r ≡ Ok datagram.bytes
taken_ok n sent hearer r datagram there way alive =
    ap (taken_datagram n sent hearer) there
    ∙ (ap (λ (b : Bool). cond b (cond (is_alive sent datagram) (Ok datagram.bytes) (Err (TooOld n)))
    (Err (NotThere n))) way
    ∙ ap (λ (b : Bool). cond b (Ok datagram.bytes) (Err (TooOld n))) alive)

alive_alike : (hub : Hub) (told : Told) (datagram : Datagram) → IsJoined hub told
    → is_alive (first_sends told) datagram ≡ true → is_alive (length hub.sent) datagram ≡ true
alive_alike hub told datagram joined alive = ap (λ (n : ℕ). is_alive n datagram) (sym joined.counts) ∙ alive

-- the board hears a datagram, as a move
heard_step : (n place : ℕ) (hub : Hub) (told new : Told) (so_far : HandedOut) (r : Option Datagram)
    → IsJoined hub told → slice_get told.air place ≡ r → heard_by told r ≡ Some new
    → step n (world_of_both hub told so_far) (BoardHears place) ≡ Ok (world_of_both hub new so_far)
heard_step n place hub told new so_far None joined there heard = absurd cc
heard_step n place hub told new so_far (Some datagram) joined there heard =
    let w = world_of_both hub told so_far in
    let way = if_some (goes_to ToBoard datagram.direction) _ new heard in
    let alive = if_some (is_alive (first_sends told) datagram) _ new way.1 in
    let same : heard_on told datagram.bytes ≡ new = cc in
    ap (λ (r : Result (List ℕ) WorldEnd). when_taken r (board_hears w))
    (taken_ok n (length hub.sent) ToBoard _ datagram there way.0 (alive_alike hub told datagram joined alive.0))
    ∙ (ap (λ (birth : ℕ). Ok (record {
      board = (hear told.board datagram.bytes).board;
      hub = hub;
      air = told.air ++ air_after_answer birth (hear told.board datagram.bytes).answer;
      fates = so_far.fates;
      lates = so_far.lates;
    })) (sym joined.counts)
    ∙ ap (λ (t : Told). Ok (world_of_both hub t so_far)) same)

abbrev pub MoveLaw : Type 0
MoveLaw = (begin w new : World) (at : ℕ) (move : WorldMove) → IsMove move → IsLaneState begin w
    → next_send w.hub ≡ None → IsDrained w.hub → step at w move ≡ Ok new → IsLaneState begin new

abbrev pub HeardLaw : Type 0
HeardLaw = (hub : Hub) (old new : Told) → IsJoined hub old → IsHeard old new → IsJoined hub new

one_heard : MoveLaw → HeardLaw → (begin : World) (so_far : HandedOut) (hub : Hub) (told new : Told)
    (place : ℕ)
    → IsReached begin so_far hub told → next_send hub ≡ None → IsDrained hub
    → heard_by told (slice_get told.air place) ≡ Some new → IsReached begin so_far hub new
one_heard move join begin so_far hub told new place is none out heard = record {
  joined = join hub told new is.joined
      (record { places = place ∷ []; heard = ap (λ (r : Option Told). then_told r (λ after. Some after)) heard });
  rest = is.rest;
  state = move begin (world_of_both hub told so_far) (world_of_both hub new so_far) 0 (BoardHears place) tt is.state
      none out (heard_step 0 place hub told new so_far (slice_get told.air place) is.joined refl heard);
}

then_heard : (begin : World) (so_far : HandedOut) (hub : Hub) (new : Told) (r : Option Told)
    (later : Told → Option Told)
    → then_told r later ≡ Some new
    → ((after : Told) → r ≡ Some after → later after ≡ Some new → IsReached begin so_far hub new)
    → IsReached begin so_far hub new
then_heard begin so_far hub new None later heard go = absurd cc
then_heard begin so_far hub new (Some after) later heard go = go after refl heard

all_heard : MoveLaw → HeardLaw → (begin : World) (so_far : HandedOut) (hub : Hub) (told new : Told)
    (places : List ℕ)
    → IsReached begin so_far hub told → next_send hub ≡ None → IsDrained hub → hears_all told places ≡ Some new
    → IsReached begin so_far hub new
all_heard move join begin so_far hub told new [] is none out heard =
    let same : told ≡ new = cc in
    subst (IsReached begin so_far hub) same is
all_heard move join begin so_far hub told new (place ∷ places) is none out heard =
    then_heard begin so_far hub new (heard_by told (slice_get told.air place)) (λ after. hears_all after places) heard
    (λ after one later. all_heard move join begin so_far hub after new places
    (one_heard move join begin so_far hub told after place is none out one) none out later)

pub heard_reached : MoveLaw → HeardLaw → (begin : World) (so_far : HandedOut) (hub : Hub) (old new : Told)
    → IsReached begin so_far hub old → next_send hub ≡ None → IsDrained hub → IsHeard old new
    → IsReached begin so_far hub new
heard_reached move join begin so_far hub old new is none out heard =
    all_heard move join begin so_far hub old new heard.places is none out heard.heard

-- ---- the hub

-- a hub after a move of a run
hub_reached : SendsEnd → (begin : World) (so_far : HandedOut) (hub after : Hub) (told : Told) (move : WorldMove)
    → (is : IsReached begin so_far hub told) → next_send hub ≡ None → IsDrained hub → IsMove move
    → IsJoined after told → (after.gave_up ≡ true → IsAtRest after)
    → ((n : ℕ) → step n (world_of_both hub told so_far) move ≡ Ok (go_on (world_of_both hub told so_far) after))
    → IsReached begin so_far after told
hub_reached law begin so_far hub after told move is none out can joined rest leads =
    let w = world_of_both hub told so_far in
    record {
      joined = joined;
      rest = rest;
      state = record {
        given_up = λ e. rest_pending after (rest e);
        state = moved_on begin w (go_on w after) move can (state_here law begin w none out is.state) leads;
      };
    }

pub handed_reached : SendsEnd → (begin : World) (so_far : HandedOut) (hub : Hub) (told : Told)
    (bytes : List ℕ) → IsReached begin so_far hub told
    → next_send hub ≡ None → IsDrained hub → IsHanded told bytes → IsJoined (take_message hub (to_hub bytes)) told
    → IsReached begin so_far (take_message hub (to_hub bytes)) told
handed_reached law begin so_far hub told bytes is none out handed joined =
    let datagram : Datagram = record { direction = ToHub; bytes = bytes; birth = handed.at.birth } in
    let w = world_of_both hub told so_far in
    hub_reached law begin so_far hub (take_message hub (to_hub bytes)) told (HubHears handed.place) is none out tt
    joined
    (λ e. message_rests hub (to_hub bytes) (is.rest (sym (message_gave_up hub (to_hub bytes)) ∙ e)))
    (λ n. ap (λ (r : Result (List ℕ) WorldEnd). when_taken r (hub_hears w))
    (taken_ok n (length hub.sent) ToHub _ datagram handed.at.there refl
    (alive_alike hub told datagram is.joined handed.at.alive)))

abbrev pub RestAtOnce : Type 0
RestAtOnce = (hub : Hub) → IsAtRest (give_up hub)

abbrev pub NobodyWaits : Type 0
NobodyWaits = (hub : Hub) → IsAtRest hub → is_waiting hub ≡ false

quiet_rests : RestAtOnce → NobodyWaits → (hub : Hub) → (hub.gave_up ≡ true → IsAtRest hub) → is_waiting hub ≡ true
    → (hear_quiet hub).gave_up ≡ true → IsAtRest (hear_quiet hub)
quiet_rests at_once nobody hub rest waiting = either (λ (h : Hub). h.gave_up ≡ true → IsAtRest h)
    (nat_lt hub.status_requests hub.rounds) (want_status hub) (give_up hub)
    (λ _ e. absurd (let none = nobody hub (rest e) in cc))
    (λ _ _. at_once hub)

pub quiet_reached : SendsEnd → RestAtOnce → NobodyWaits → (begin : World) (so_far : HandedOut) (hub : Hub)
    (told : Told) → IsReached begin so_far hub told → next_send hub ≡ None → IsDrained hub → is_waiting hub ≡ true
    → IsJoined (hear_quiet hub) told → IsReached begin so_far (hear_quiet hub) told
quiet_reached law at_once nobody begin so_far hub told is none out waiting joined =
    let w = world_of_both hub told so_far in
    hub_reached law begin so_far hub (hear_quiet hub) told Quiet is none out tt joined
    (quiet_rests at_once nobody hub is.rest waiting)
    (λ n. ap (λ (b : Bool). cond b (Ok (go_on w (hear_quiet hub))) (Err (NotThere n))) waiting)

-- ---- fates are handed out

abbrev pub FateLaw : Type 0
FateLaw = (hub : Hub) (told : Told) (fate : ℕ × Fate) (fates : List (ℕ × Fate)) → IsJoined hub told
    → hub.fates ≡ fate ∷ fates → IsJoined (record hub { fates = fates }) told

abbrev pub LateLaw : Type 0
LateLaw = (hub : Hub) (told : Told) (late : ℕ × List ℕ) (lates : List (ℕ × List ℕ)) → IsJoined hub told
    → hub.lates ≡ late ∷ lates → IsJoined (record hub { lates = lates }) told

out_joined : FateLaw → (hub : Hub) (told : Told) (fates : List (ℕ × Fate)) → hub.fates ≡ fates → IsJoined hub told
    → IsJoined (record hub { fates = [] }) told
out_joined law hub told [] is joined =
    subst (λ (h : Hub). IsJoined h told) (ap (λ (fates : List (ℕ × Fate)). record hub { fates = fates }) is) joined
out_joined law hub told (fate ∷ fates) is joined =
    out_joined law (record hub { fates = fates }) told fates refl (law hub told fate fates joined is)

lates_out : LateLaw → (hub : Hub) (told : Told) (lates : List (ℕ × List ℕ)) → hub.lates ≡ lates → IsJoined hub told
    → IsJoined (record hub { lates = [] }) told
lates_out law hub told [] is joined =
    subst (λ (h : Hub). IsJoined h told) (ap (λ (lates : List (ℕ × List ℕ)). record hub { lates = lates }) is) joined
lates_out law hub told (late ∷ lates) is joined =
    lates_out law (record hub { lates = lates }) told lates refl (law hub told late lates joined is)

pub out_reached : FateLaw → LateLaw → (begin : World) (so_far : HandedOut) (hub : Hub) (told : Told)
    → (is : IsReached begin so_far hub told) → IsLaneState begin (handed_out (world_of_both hub told so_far))
    → IsReached begin (hands_out so_far hub) (after_handing_out hub) told
out_reached law late begin so_far hub told is state = record {
  joined = lates_out late (record hub { fates = [] }) told hub.lates refl
      (out_joined law hub told hub.fates refl is.joined);
  rest = λ e. let rest = is.rest e in record {
    queue = rest.queue;
    waited = rest.waited;
    round = rest.round;
    status = rest.status;
    quiet = rest.quiet;
  };
  state = state;
}

-- ---- the run of a state

pub run_of : (window rounds : ℕ) (board : Board) (air : List Datagram) (so_far : HandedOut) (hub : Hub)
    (told : Told) → IsStart window board air → IsReached (start window rounds board air) so_far hub told
    → (moves : List WorldMove) × IsRun window rounds board air moves (caught_up (world_of_both hub told so_far))
run_of window rounds board air so_far hub told begins is =
    let state = is.state.state in (
      state.moves,
      record { begins = begins; leads = record { sendable = state.sendable; at = 0; ran = state.ran } },
    )
