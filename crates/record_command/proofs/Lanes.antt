-- What a capture of a lane's link shows: a lane over a link that tells is in a state of a run, and so its air is that of
-- a run.
use Rattle.std.proofs.Common.{◌≡◌, ◌∙◌, ◌⊎◌, ℕ, ◌+◌, ◌≤◌, ◌==◌, ◌&&◌, Bool, true, false, List, [], ◌∷◌}
use Rattle.std.proofs.Common.{◌++◌, length, map, Option, Some, None, Result, Ok, Err, refl, ap, sym, subst, inl, inr, arith}
use Rattle.std.proofs.Common.{append_assoc, if◌then◌else◌}
use Rattle.std.specs.Prelude.{IfSome}
use Rattle.std.proofs.lemmas.Bool.{leb-true}
use Rattle.std.proofs.lemmas.List.{append-nil, length-map, length-append, map-append}
use Rattle.std.specs.List.{AllByRecursion}
use Rattle.ipb_base.specs.Lists.{IsPrefix}
use Rattle.ipb_base.proofs.AllLemmas.{front_of_all}
use Rattle.packet_ids.specs.Identifier.{IsIdentifier, identifier_at}
use Rattle.packet_codec.specs.declared.packet.Order.{Order}
use Rattle.packet_codec.specs.declared.packet.Order.TheVariants.{Big, Little}
use Rattle.packet_codec.specs.declared.packet.Packet.{Packet}
use Rattle.packet_codec.specs.declared.packet.BadPacket.{BadPacket}
use Rattle.packet_codec.specs.declared.packet.PacketKind.{PacketKind}
use Rattle.packet_codec.specs.declared.packet.PacketKind.TheVariants.{Control, Status, Resend}
use Rattle.packet_codec.specs.Reading.{packet_of, head_read}
use Rattle.world_model.specs.declared.datagram.Datagram.{Datagram}
use Rattle.world_model.specs.declared.datagram.Direction.{Direction}
use Rattle.world_model.specs.declared.datagram.Direction.TheVariants as goes
use Rattle.world_model.specs.Messages.{ToBoard, StatusRequest, ResendRequest, packet_to_board, said_to_board, to_board}
use Rattle.world_model.specs.Messages.{to_hub}
use Rattle.world_model.specs.Board.{Board, bodies_executed, replies}
use Rattle.world_model.specs.Hub.{Hub}
use Rattle.world_model.specs.Sends.{Next, bytes_to_send, next_send, pending}
use Rattle.world_model.specs.World.{World, flush, sent_into, start}
use Rattle.world_model.specs.Links.{IsJoined, Told, is_first_message, is_first_send, together}
use Rattle.world_model.specs.Settings.{Limits}
use Rattle.world_model.specs.Facts.{IsDatagram, IsGreeting, IsGreetingOf, IsSaid, IsSaidToHub, IsSound, bodies_of}
use Rattle.world_model.specs.Facts.{offered_body}
use Rattle.world_model.specs.Lanes.{caught_up}
use Rattle.world_model.proofs.Flushing.{flush_keeps}
use Rattle.world_model.proofs.Lists.{all_get, either}
use Rattle.reliable_engine.specs.Answers.{hub_next}
use Rattle.links.specs.Births.{birth_after}
use Rattle.links.specs.States.{world_of_both}
use Rattle.links.specs.Telling.{Telling}
use Rattle.lane_record.specs.declared.outcome.Outcome.{Outcome}
use Rattle.hub_lane.specs.Standing.{IsRunning, IsStanding}
use Rattle.capture_reader.specs.declared.capture.Caught.{Caught}
use Rattle.capture_reader.specs.CaptureText.{AreItems}
use Rattle.capture_reader.specs.Proved.{HasProof, is_big, is_big_control, is_control, sent_after}
use Rattle.record_command.specs.Passing.{sent_item}
use Rattle.record_command.specs.Traffic.{AreForHubAt, IsTrafficOf, WereAlive, bytes_for_board, for_board, received_in, sent_in}
use Rattle.record_command.proofs.Lists.{for_board-append}
use Rattle.record_command.proofs.Traffic.{count_of_air, counted}
use Rattle.record_command.specs.Captures.{bodies_from, body_in, items_of, new_body}
use Rattle.record_command.proofs.Walks.{bodies_append, count_from}
use Rattle.record_command.proofs.Shown.{shows_executed}
use Rattle.record_command.proofs.Spelled.{IsBigTold, IsSpelled, IsSpelledTo}
use Rattle.record_command.proofs.Sends.{IsNew, IsOld, IsSendOr, send_is}
use Rattle.record_command.proofs.Joint.{Laws}
use Rattle.record_command.proofs.Runs.{sent_joined, shows_run, told_of}

-- ---- the two counts of first sends

not_both : (order : Order) (more : Bool) → (is_big order && false && more) ≡ false
not_both Big more = refl
not_both Little more = refl

control_by : (first sent : ℕ) (packet : Packet) (kind : PacketKind)
    → IsBigTold (said_to_board kind packet.order packet.id packet.body)
    → (is_big packet.order && is_control kind && (packet.id == identifier_at first (sent + 1)))
    ≡ is_first_message first sent (said_to_board kind packet.order packet.id packet.body)
control_by first sent packet Control big = rw big refl
control_by first sent packet Status big =
    not_both packet.order (packet.id == identifier_at first (sent + 1))
    ∙ either (λ (m : Option ToBoard). false ≡ is_first_message first sent m)
    ((packet.id == 0) && (length packet.body == 15)) (Some StatusRequest) None (λ _. refl) (λ _. refl)
control_by first sent packet Resend big =
    not_both packet.order (packet.id == identifier_at first (sent + 1))
    ∙ either (λ (m : Option ToBoard). false ≡ is_first_message first sent m)
    (length packet.body == 0) (Some (ResendRequest packet.id)) None (λ _. refl) (λ _. refl)

packet_by : (first sent : ℕ) (r : Result Packet BadPacket) → IsBigTold (packet_to_board r)
    → is_big_control (identifier_at first (sent + 1)) (head_read r) ≡ is_first_message first sent (packet_to_board r)
packet_by first sent (Err fault) big = refl
packet_by first sent (Ok packet) big = control_by first sent packet packet.kind big

abbrev pub IsBigSend : List ℕ → Type 0
IsBigSend bytes = IsBigTold (to_board bytes)

-- a first send by the link's count is one by the capture's
same_flag : (first sent : ℕ) (bytes : List ℕ) → IsBigSend bytes
    → is_big_control (identifier_at first (sent + 1)) (head_read (packet_of bytes))
    ≡ is_first_send first sent goes.ToBoard bytes
unfolding to_board
same_flag first sent bytes big = packet_by first sent (packet_of bytes) big

same_next : (first sent : ℕ) (bytes : List ℕ) → IsBigSend bytes
    → sent_after first sent (sent_item bytes) ≡ birth_after first sent bytes
same_next first sent bytes big = ap (λ (b : Bool). if b then sent + 1 else sent) (same_flag first sent bytes big)

same_count : (first sent : ℕ) (sends : List (List ℕ)) → AllByRecursion IsBigSend sends
    → count_from first sent (map sent_item sends) ≡ counted first sent sends
same_count first sent [] big = refl
same_count first sent (bytes ∷ sends) big =
    ap (λ (k : ℕ). count_from first k (map sent_item sends)) (same_next first sent bytes big.0)
    ∙ same_count first (birth_after first sent bytes) sends big.1

-- ---- the bodies of what was sent

by_flag : (b : Bool) (sent : ℕ) (body : List ℕ)
    → (if b then sent + 1 else sent) ≡ sent + length (if b then body ∷ [] else [])
by_flag true sent body = omega arith
by_flag false sent body = omega arith

one_body : (first sent : ℕ) (r : Result Packet BadPacket)
    → (if is_big_control (identifier_at first (sent + 1)) (head_read r) then sent + 1 else sent)
    ≡ sent + length (if is_big_control (identifier_at first (sent + 1)) (head_read r) then body_in r else [])
one_body first sent (Err fault) = omega arith
one_body first sent (Ok packet) =
    by_flag (is_big packet.order && is_control packet.kind && (packet.id == identifier_at first (sent + 1))) sent
    packet.body

-- as many as are counted
count_bodies : (first sent : ℕ) (sends : List (List ℕ))
    → count_from first sent (map sent_item sends) ≡ sent + length (bodies_from first sent (map sent_item sends))
count_bodies first sent [] = omega arith
count_bodies first sent (bytes ∷ sends) =
    let item = sent_item bytes in
    let next = sent_after first sent item in
    let later = count_bodies first next sends in
    let one : next ≡ sent + length (new_body first sent item) = one_body first sent (packet_of bytes) in
    let both = length-append (new_body first sent item) (bodies_from first next (map sent_item sends)) in
    omega (arith, later, one, both)

-- what was received has none
strip_one : (first sent : ℕ) (item : Caught) (items : List Caught) (kind : Bool) → item.sent ≡ kind
    → ((from : ℕ) → bodies_from first from items ≡ bodies_from first from (map sent_item (sent_in items)))
    → bodies_from first sent (item ∷ items) ≡ bodies_from first sent (map sent_item (sent_in (item ∷ items)))
strip_one first sent item items true e more =
    let one = sent_item item.bytes in
    rw e (ap (λ (later : List (List ℕ)). new_body first sent one ++ later) (more (sent_after first sent one)))
strip_one first sent item items false e more = rw e (more sent)

strip : (first sent : ℕ) (items : List Caught)
    → bodies_from first sent items ≡ bodies_from first sent (map sent_item (sent_in items))
strip first sent [] = refl
strip first sent (item ∷ items) =
    strip_one first sent item items item.sent refl (λ from. strip first from items)

-- a greeting has none
no_body : (first sent : ℕ) (bytes : List ℕ) → to_board bytes ≡ Some StatusRequest
    → (sent_after first sent (sent_item bytes) ≡ sent) × (new_body first sent (sent_item bytes) ≡ [])
no_body first sent bytes e =
    let flag = same_flag first sent bytes (subst IsBigTold (sym e) tt) ∙ ap (is_first_message first sent) e in (
      ap (λ (b : Bool). if b then sent + 1 else sent) flag,
      ap (λ (b : Bool). if b then body_in (packet_of bytes) else []) flag,
    )

greeting_one : (board : Board) (first : ℕ) (datagram : Datagram) (air : List Datagram) (later : List (List ℕ))
    (way : Direction) → datagram.direction ≡ way → IsGreetingOf board way datagram.bytes
    → bodies_from first 0 (map sent_item (for_board air ++ later)) ≡ bodies_from first 0 (map sent_item later)
    → bodies_from first 0 (map sent_item (for_board (datagram ∷ air) ++ later))
    ≡ bodies_from first 0 (map sent_item later)
greeting_one board first datagram air later goes.ToBoard e is more =
    let none = no_body first 0 datagram.bytes is in
    let rest = map sent_item (for_board air ++ later) in
    rw e (ap (λ (b : List (List ℕ)). b ++ bodies_from first (sent_after first 0 (sent_item datagram.bytes)) rest) none.1
    ∙ (ap (λ (k : ℕ). bodies_from first k rest) none.0 ∙ more))
greeting_one board first datagram air later goes.ToHub e is more = rw e more

greeting_none : (board : Board) (first : ℕ) (air : List Datagram) (later : List (List ℕ))
    → AllByRecursion (IsGreeting board) air
    → bodies_from first 0 (map sent_item (for_board air ++ later)) ≡ bodies_from first 0 (map sent_item later)
greeting_none board first [] later all = refl
greeting_none board first (datagram ∷ air) later all =
    greeting_one board first datagram air later datagram.direction refl all.0.bytes
    (greeting_none board first air later all.1)

same_fronts : {A : Type 0} (xs other ys more : List A) → length xs ≡ length other → xs ++ ys ≡ other ++ more
    → xs ≡ other
same_fronts [] [] ys more long e = refl
same_fronts [] (y ∷ other) ys more long e = absurd (omega arith)
same_fronts (x ∷ xs) [] ys more long e = absurd (omega arith)
same_fronts (x ∷ xs) (y ∷ other) ys more long e =
    let head : x ≡ y = cc in
    let tail : xs ++ ys ≡ other ++ more = cc in
    let same = same_fronts xs other ys more (omega arith) tail in
    cc

-- ---- big-endian sends

big_one : (datagram : Datagram) (air : List Datagram) (way : Direction) → datagram.direction ≡ way
    → IsSpelledTo way datagram.bytes → AllByRecursion IsBigSend (for_board air)
    → AllByRecursion IsBigSend (for_board (datagram ∷ air))
big_one datagram air goes.ToBoard e is more = rw e (is, more)
big_one datagram air goes.ToHub e is more = rw e more

big_sends : (air : List Datagram) → AllByRecursion IsSpelled air → AllByRecursion IsBigSend (for_board air)
big_sends [] all = tt
big_sends (datagram ∷ air) all = big_one datagram air datagram.direction refl all.0 (big_sends air all.1)

-- ---- what was received

pub record IsHeardBy (first : ℕ) (all answers : List (List ℕ)) (datagram : Datagram) : Type 0 where
  pub datagram' : IsDatagram first all answers datagram
  pub for_hub : datagram.direction ≡ goes.ToHub

all_heard : (first : ℕ) (all answers : List (List ℕ)) (air : List Datagram) (places : List ℕ) (heard : List Datagram)
    → AllByRecursion (IsDatagram first all answers) air → AreForHubAt air places heard
    → AllByRecursion (IsHeardBy first all answers) heard
all_heard first all answers air [] [] said there = tt
all_heard first all answers air [] (datagram ∷ heard) said there = absurd there
all_heard first all answers air (place ∷ places) [] said there = absurd there
all_heard first all answers air (place ∷ places) (datagram ∷ heard) said there = (
  record {
    datagram' = all_get (IsDatagram first all answers) air place datagram said there.0.there;
    for_hub = there.0.for_hub;
  },
  all_heard first all answers air places heard said there.1,
)

abbrev pub ShowExecuted : ℕ → List (List ℕ) → List (List ℕ) → ℕ → List Datagram → List Caught → Type 0
ShowExecuted first all answers sent heard items =
    received_in items ≡ map bytes_for_board heard → AllByRecursion (IsHeardBy first all answers) heard → AreItems items
    → AllByRecursion IsBigSend (sent_in items) → WereAlive first sent heard items
    → (place : ℕ) → HasProof first sent items place → place ≤ length answers

module _ (laws : Laws) where
  one_shows : (first : ℕ) (all answers : List (List ℕ)) (sent : ℕ) (heard : List Datagram) (item : Caught)
      (items : List Caught) (kind : Bool) → IsIdentifier first → item.sent ≡ kind
      → ((from : ℕ) (later : List Datagram) → ShowExecuted first all answers from later items)
      → ShowExecuted first all answers sent heard (item ∷ items)
  one_shows first all answers sent heard item items true is e more same from fits big alive place (inl one) =
      let f = one.0 in absurd (cc)
  one_shows first all answers sent heard item items true is e more same from fits big alive place (inr later) =
      let s = rw e at same in
      let b = rw e at big in
      let a = rw e at alive in
      let next : sent_after first sent item ≡ birth_after first sent item.bytes =
      rw e (same_next first sent item.bytes b.0) in
      more (sent_after first sent item) heard s from fits.1 b.1
      (subst (λ (k : ℕ). WereAlive first k heard items) (sym next) a) place later
  one_shows first all answers sent [] item items false is e more same from fits big alive place p =
      let s = rw e at same in absurd (cc)
  one_shows first all answers sent (datagram ∷ heard) item items false is e more same from fits big alive place (inl one) =
      let s = rw e at same in
      let a = rw e at alive in
      let bytes : item.bytes ≡ datagram.bytes = cc in
      let there = from.0 in
      let said : IsSaidToHub first answers datagram.birth (to_hub datagram.bytes) =
      subst (λ (x : Direction). IsSaid first all answers datagram.birth x datagram.bytes) there.for_hub
      there.datagram'.said in
      shows_executed laws first sent datagram.birth place answers item is fits.0.bytes (leb-true _ _ a.0.1)
      (subst (λ (b : List ℕ). IsSaidToHub first answers datagram.birth (to_hub b)) (sym bytes) said) one.1
  one_shows first all answers sent (datagram ∷ heard) item items false is e more same from fits big alive place
      (inr later) =
      let s = rw e at same in
      let a = rw e at alive in
      let b = rw e at big in
      let p = rw e at later in
      let rest : received_in items ≡ map bytes_for_board heard = cc in
      more sent heard rest from.1 fits.1 b a.1 place p

  all_show : (first : ℕ) (all answers : List (List ℕ)) (sent : ℕ) (heard : List Datagram) (items : List Caught)
      → IsIdentifier first → ShowExecuted first all answers sent heard items
  all_show first all answers sent heard [] is same from fits big alive place none = absurd none
  all_show first all answers sent heard (item ∷ items) is same from fits big alive place p =
      one_shows first all answers sent heard item items item.sent is refl
      (λ k later. all_show first all answers k later items is) same from fits big alive place p

  -- ---- a lane

  -- what sends leave: the board, the air so far and the bodies so far
  record Grew (old new : World) : Type 0 where
    joined : IsJoined new.hub (told_of new)
    board : new.board ≡ old.board
    air : IsPrefix {T = Datagram} old.air new.air
    sent : IsPrefix (bodies_of old.hub.sent) (bodies_of new.hub.sent)

  prefix_then : {A : Type 0} (xs ys zs : List A) → IsPrefix xs ys → IsPrefix ys zs → IsPrefix xs zs
  prefix_then {A} xs ys zs one two =
      (one.0 ++ two.0, two.1 ∙ (ap (λ (front : List A). front ++ two.0) one.1 ∙ append_assoc xs one.0 two.0))

  more_sent : (h : Hub) (n : Next) → IsOld laws.below h n ⊎ IsNew laws.below h n
      → IsPrefix (bodies_of h.sent) (bodies_of n.hub.sent)
  more_sent h n (inl old) = ([], ap bodies_of old.sent ∙ sym (append-nil (bodies_of h.sent)))
  more_sent h n (inr new) = (
    new.offered.body ∷ [],
    ap bodies_of new.sent ∙ map-append offered_body h.sent (new.offered ∷ []),
  )

  grew_by : (old w : World) (r : Option Next) → Grew old w → IsSendOr laws.below w.hub r → next_send w.hub ≡ r
      → IfSome r (λ (n : Next). Grew old (sent_into w n))
  grew_by old w None g is e = tt
  grew_by old w (Some n) g is e =
      let bytes = bytes_to_send n.hub n.send in
      let one : Datagram = record { direction = goes.ToBoard; bytes = bytes; birth = length n.hub.sent } in
      record {
        joined = sent_joined laws w n g.joined e;
        board = g.board;
        air = prefix_then old.air w.air (w.air ++ one ∷ []) g.air (one ∷ [], refl);
        sent = prefix_then (bodies_of old.hub.sent) (bodies_of w.hub.sent) (bodies_of n.hub.sent) g.sent
            (more_sent w.hub n is.effect);
      }

  grew : (w : World) → IsJoined w.hub (told_of w) → (most : ℕ) → Grew w (flush most w)
  grew w is most = flush_keeps (Grew w)
      (λ v g. grew_by w v (next_send v.hub) g (send_is laws.below v.hub (told_of v) g.joined.sound) refl) most w
      (record {
        joined = is;
        board = refl;
        air = ([], sym (append-nil w.air));
        sent = ([], sym (append-nil (bodies_of w.hub.sent)));
      })

  -- the air and the sends of a lane are those of a run
  pub record IsOfRun (hub : Hub) (told : Told) : Type 0 where
    pub big : AllByRecursion IsBigSend (for_board told.air)
    pub bodies : bodies_from told.board.first 0 (map sent_item (for_board told.air)) ≡ bodies_of hub.sent

  of_run : (limits : Limits) (hub : Hub) (outcomes : List (Option Outcome)) (lates : List (Option (List ℕ)))
      (t : Telling) → IsRunning limits hub outcomes lates t → IsOfRun hub t.told
  of_run limits hub outcomes lates t r =
      let joined = r.reached.joined in
      let w = world_of_both hub t.told r.out in
      let state = r.reached.state.state in
      let begin = start limits.window limits.rounds r.board r.air in
      let new = caught_up w in
      let s = shows_run laws limits.window limits.rounds r.board r.air state.moves new r.begins state.sendable
      state.ran in
      let g = grew w joined (pending hub) in
      let items = items_of 0 begin state.moves in
      let board : new.board ≡ t.told.board = g.board in
      let first : r.board.first ≡ t.told.board.first =
      sym s.same_first ∙ (s.joined.sound.node.same_first ∙ ap (λ (b : Board). b.first) board) in
      let air : new.air ≡ t.told.air ++ g.air.0 = g.air.1 in
      let sent : bodies_of new.hub.sent ≡ bodies_of hub.sent ++ g.sent.0 = g.sent.1 in
      let spelled = front_of_all IsSpelled t.told.air g.air.0 (subst (AllByRecursion IsSpelled) air s.spelled) in
      let big = big_sends t.told.air spelled in
      let f = t.told.board.first in
      let here = for_board t.told.air in
      let more = for_board g.air.0 in
      let bodies : List (List ℕ) → List (List ℕ) = λ sends. bodies_from f 0 (map sent_item sends) in
      let run : bodies_from f 0 items ≡ bodies_of new.hub.sent =
      subst (λ (k : ℕ). bodies_from k 0 items ≡ bodies_of new.hub.sent) first s.bodies in
      let whole : bodies (here ++ more) ≡ bodies_of hub.sent ++ g.sent.0 =
      ap bodies (sym (for_board-append t.told.air g.air.0) ∙ (ap for_board (sym air) ∙ s.sends))
      ∙ (greeting_none r.board f r.air (sent_in items) r.begins.greetings
      ∙ (sym (strip f 0 items) ∙ (run ∙ sent))) in
      let count = count_from f 0 (map sent_item here) in
      let split : bodies (here ++ more) ≡ bodies here ++ bodies_from f count (map sent_item more) =
      ap (bodies_from f 0) (map-append sent_item here more)
      ∙ bodies_append f 0 (map sent_item here) (map sent_item more) in
      let counted_here = same_count f 0 here big in
      let long : length (bodies here) ≡ length (bodies_of hub.sent) = omega (
        arith,
        count_bodies f 0 here,
        counted_here,
        count_of_air f 0 t.told.air,
        joined.counts,
        length-map hub.sent offered_body,
      ) in
      record {
        big = big;
        bodies = same_fronts (bodies here) (bodies_of hub.sent) (bodies_from f count (map sent_item more))
            g.sent.0 long (sym split ∙ whole);
      }

  -- ---- its capture

  pub record LaneShows (hub : Hub) (t : Telling) (items : List Caught) : Type 0 where
    pub bodies : bodies_from t.told.board.first 0 items ≡ bodies_of hub.sent
    pub executed' : IsPrefix (bodies_executed t.told.board) (bodies_of hub.sent)
    pub shown : AreItems items → (place : ℕ) → HasProof t.told.board.first 0 items place
        → place ≤ length (bodies_executed t.told.board)

  pub running_shows : (limits : Limits) (hub : Hub) (outcomes : List (Option Outcome))
      (lates : List (Option (List ℕ))) (t : Telling) (items : List Caught)
      → IsRunning limits hub outcomes lates t → IsTrafficOf t items → LaneShows hub t items
  running_shows limits hub outcomes lates t items r traffic =
      let o = of_run limits hub outcomes lates t r in
      let joined = r.reached.joined in
      let sound = joined.sound in
      let f = t.told.board.first in
      let is = subst IsIdentifier sound.node.same_first sound.node.identifier in
      let said = subst (λ (k : ℕ). AllByRecursion (IsDatagram k (bodies_of hub.sent) (replies t.told.board)) t.told.air)
      sound.node.same_first sound.said in
      let heard = all_heard f (bodies_of hub.sent) (replies t.told.board) t.told.air t.handed traffic.heard said
      traffic.handed in
      let big = subst (AllByRecursion IsBigSend) (sym traffic.sent) o.big in
      record {
        bodies = strip f 0 items
            ∙ (ap (λ (sends : List (List ℕ)). bodies_from f 0 (map sent_item sends)) traffic.sent ∙ o.bodies);
        executed' = sound.log.front;
        shown = λ fits place p.
            let within = all_show f (bodies_of hub.sent) (replies t.told.board) 0 traffic.heard items is
            traffic.received heard fits big traffic.alive place p in
            omega (arith, laws.below.bodies.one_each t.told.board.opening (bodies_executed t.told.board));
      }

  -- ---- also where it has stopped

  after_next : (h : Hub) (r : Option Next) → IsSendOr laws.below h r
      → IsPrefix (bodies_of h.sent) (bodies_of (hub_next h r).sent)
  after_next h None is = ([], sym (append-nil (bodies_of h.sent)))
  after_next h (Some n) is = more_sent h n is.effect

  refused_sends : (before hub : Hub) (told : Told) → IsSound (together before told)
      → (hub ≡ before) ⊎ (hub ≡ hub_next before (next_send before))
      → IsPrefix (bodies_of before.sent) (bodies_of hub.sent)
  refused_sends before hub told sound (inl same) =
      ([], ap (λ (h : Hub). bodies_of h.sent) same ∙ sym (append-nil (bodies_of before.sent)))
  refused_sends before hub told sound (inr next) =
      let a = after_next before (next_send before) (send_is laws.below before told sound) in
      (a.0, ap (λ (h : Hub). bodies_of h.sent) next ∙ a.1)

  pub record CaptureShows (hub : Hub) (t : Telling) (items : List Caught) : Type 0 where
    pub sent : IsPrefix (bodies_from t.told.board.first 0 items) (bodies_of hub.sent)
    pub executed' : IsPrefix (bodies_executed t.told.board) (bodies_from t.told.board.first 0 items)
    pub shown : AreItems items → (place : ℕ) → HasProof t.told.board.first 0 items place
        → place ≤ length (bodies_executed t.told.board)

  by_lane : (before hub : Hub) (t : Telling) (items : List Caught)
      → IsPrefix (bodies_of before.sent) (bodies_of hub.sent) → LaneShows before t items → CaptureShows hub t items
  by_lane before hub t items more s = record {
    sent = (more.0, more.1 ∙ ap (λ (b : List (List ℕ)). b ++ more.0) (sym s.bodies));
    executed' = (s.executed'.0, s.bodies ∙ s.executed'.1);
    shown = s.shown;
  }

  pub lane_shows : (stopped : Bool) (limits : Limits) (hub : Hub) (outcomes : List (Option Outcome))
      (lates : List (Option (List ℕ))) (t : Telling) (items : List Caught)
      → IsStanding stopped limits hub outcomes lates t → IsTrafficOf t items → CaptureShows hub t items
  lane_shows false limits hub outcomes lates t items r traffic =
      by_lane hub hub t items ([], sym (append-nil (bodies_of hub.sent)))
      (running_shows limits hub outcomes lates t items r traffic)
  lane_shows true limits hub outcomes lates t items stopped traffic =
      by_lane stopped.before hub t items
      (refused_sends stopped.before hub t.told stopped.running.reached.joined.sound stopped.refused)
      (running_shows limits stopped.before outcomes lates t items stopped.running traffic)
