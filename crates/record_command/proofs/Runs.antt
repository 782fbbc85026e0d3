-- What a capture shows through a run: every move keeps it.
use Rattle.std.proofs.Common.{◌≡◌, ◌∙◌, ◌⊎◌, ℕ, zero, suc, ◌+◌, ◌-◌, ◌≤◌, Bool, true, if◌then◌else◌, List, [], ◌∷◌, ◌++◌}
use Rattle.std.proofs.Common.{length, map, drop, Option, Some, None, Result, Ok, Err, refl, ap, sym, subst, inl, inr, arith}
use Rattle.std.proofs.Common.{append_assoc}
use Rattle.std.specs.Prelude.{IfOk, nat_lt}
use Rattle.std.proofs.lemmas.Bool.{leb-true}
use Rattle.std.proofs.lemmas.List.{append-nil, length-map, length-append, map-append}
use Rattle.std.proofs.Math.Seq.{drop-append_seam}
use Rattle.std.specs.List.{AllByRecursion, slice_get}
use Rattle.ipb_base.proofs.AllLemmas.{AllByRecursion-append, all-map}
use Rattle.packet_ids.specs.Identifier.{IsIdentifier, identifier_at}
use Rattle.packet_codec.specs.Packet.{AreBytes, packet_bytes}
use Rattle.world_model.specs.declared.datagram.Datagram.{Datagram}
use Rattle.world_model.specs.declared.datagram.Direction.{Direction}
use Rattle.world_model.specs.declared.datagram.Direction.TheVariants as goes
use Rattle.world_model.specs.declared.heard.LogEntry.{LogEntry}
use Rattle.world_model.specs.declared.moves.WorldMove.{WorldMove}
use Rattle.world_model.specs.declared.moves.WorldMove.TheVariants.{Offer, Quiet, HubHears, BoardHears}
use Rattle.world_model.specs.declared.moves.WorldEnd.{WorldEnd}
use Rattle.world_model.specs.declared.offered.Offered.{Offered}
use Rattle.world_model.specs.declared.offered.OpenPlace.{OpenPlace}
use Rattle.world_model.specs.declared.offered.Fate.{Fate}
use Rattle.world_model.specs.declared.offered.Fate.TheVariants.{Replied}
use Rattle.world_model.specs.Messages.{ToHub, StatusReply, Reply, to_hub}
use Rattle.world_model.specs.Places.{at_place}
use Rattle.world_model.specs.Board.{Board, body_of, bodies_executed, hear, replies}
use Rattle.world_model.specs.Hub.{Hub, give_up, hear_quiet, is_waiting, least, offer, open_with}
use Rattle.world_model.specs.Hub.{places, after_recovery, settle, tag_of, take_message, told_place, want_status}
use Rattle.world_model.specs.Sends.{Next, bytes_to_send, next_send, packet_to_send, pending}
use Rattle.world_model.specs.Air.{LIFETIME, goes_to, is_alive}
use Rattle.world_model.specs.World.{World, air_after_answer, board_hears, flush, flush_on, go_on, hub_hears, moves_on, run_moves}
use Rattle.world_model.specs.World.{sent_into, start, step, taken_datagram, when_taken, with_hub}
use Rattle.world_model.specs.Facts.{IsSaid, IsSaidToHub, IsStart, bodies_of, offered_body}
use Rattle.world_model.specs.History.{IsMove}
use Rattle.world_model.specs.Links.{IsHanded, IsHeard, IsJoined, Told, birth_of, first_sends}
use Rattle.world_model.specs.Links.{heard_by, heard_on, hears_all, then_told}
use Rattle.world_model.proofs.Hubs.{IsFoundOr, all_inserted, all_timed_out, all_unsent, open_found}
use Rattle.world_model.proofs.Lists.{all_get, either}
use Rattle.world_model.proofs.Places.{has_below, has_from}
use Rattle.record_command.proofs.Joint.{Laws}
use Rattle.capture_reader.specs.declared.capture.Caught.{Caught}
use Rattle.capture_reader.specs.Proved.{HasProof}
use Rattle.record_command.specs.Passing.{received_item, sent_item}
use Rattle.record_command.specs.Traffic.{for_board, sent_in}
use Rattle.record_command.proofs.Lists.{for_board-append, none_sent, one_more_for_board, one_more_sent}
use Rattle.record_command.proofs.Traffic.{answer_for_hub}
use Rattle.record_command.specs.Captures.{bodies_from, heard_at, heard_in, items_of, items_then, sent_since}
use Rattle.record_command.proofs.Walks.{count_from, proof_behind, proof_in}
use Rattle.record_command.proofs.Shown.{proves_its_place, shows_executed}
use Rattle.record_command.proofs.Spelled.{IsSpelled, IsSpelledTo, answer_spelled, greeting_spelled, packet_spelled}
use Rattle.record_command.proofs.Sends.{IsNew, IsOld, IsSend, IsSendOr, adds_nothing, adds_one, send_is}
use Rattle.record_command.proofs.OneMore.{IsProvedFate, all_proved, count_more, bodies_more, shown_still, count_last, same_way, message_sent, quiet_sent}

-- the board and the air, as a link tells them
abbrev pub told_of : World → Told
told_of w = record { board = w.board; air = w.air }

-- what the datagrams so far show of a world that began with a greeting in the air
pub record Shows (first : ℕ) (greeting : List Datagram) (w : World) (items : List Caught) : Type 0 where
  pub joined : IsJoined w.hub (told_of w)
  pub same_first : w.hub.first ≡ first
  pub count : count_from first 0 items ≡ length w.hub.sent
  pub bodies : bodies_from first 0 items ≡ bodies_of w.hub.sent
  pub shown : (place : ℕ) → HasProof first 0 items place → place ≤ length (bodies_executed w.board)
  pub told : AllByRecursion (IsProvedFate first items) w.fates
  pub waiting : AllByRecursion (IsProvedFate first items) w.hub.fates
  pub spelled : AllByRecursion IsSpelled w.air
  pub sends : for_board w.air ≡ for_board greeting ++ sent_in items

module _ (laws : Laws) where
  replies_length : (b : Board) → length (replies b) ≡ length (bodies_executed b)
  replies_length b = laws.below.bodies.one_each b.opening (bodies_executed b)

  all_out : (h : Hub) (told : Told) (fates : List (ℕ × Fate)) → IsJoined h told → h.fates ≡ fates
      → IsJoined (record h { fates = [] }) told
  all_out h told [] is e = subst (λ (fs : List (ℕ × Fate)). IsJoined (record h { fates = fs }) told) e is
  all_out h told (fate ∷ fates) is e =
      all_out (record h { fates = fates }) told fates (laws.handed_out h told fate fates is e) refl

  all_lates_out : (h : Hub) (told : Told) (lates : List (ℕ × List ℕ)) → IsJoined h told → h.lates ≡ lates
      → IsJoined (record h { lates = [] }) told
  all_lates_out h told [] is e = subst (λ (ls : List (ℕ × List ℕ)). IsJoined (record h { lates = ls }) told) e is
  all_lates_out h told (late ∷ lates) is e =
      all_lates_out (record h { lates = lates }) told lates (laws.late h told late lates is e) refl

  -- ---- a send

  record Counts (first : ℕ) (n : Next) (items : List Caught) (bytes : List ℕ) : Type 0 where
    count : count_from first 0 (items ++ sent_item bytes ∷ []) ≡ length n.hub.sent
    bodies : bodies_from first 0 (items ++ sent_item bytes ∷ []) ≡ bodies_of n.hub.sent

  counts : (first : ℕ) (greeting : List Datagram) (w : World) (items : List Caught) (n : Next)
      → Shows first greeting w items → IsSend laws.below w.hub n → IsOld laws.below w.hub n ⊎ IsNew laws.below w.hub n
      → Counts first n items (bytes_to_send n.hub n.send)
  counts first greeting w items n s is (inl old) =
      let sent = length w.hub.sent in
      let packet = packet_to_send n.hub n.send in
      let item = sent_item (packet_bytes packet) in
      let add = adds_nothing laws.below first sent packet is.packet (rw (sym s.same_first) old.flag) in
      record {
        count = count_more first sent items item s.count ∙ (add.count ∙ ap (λ (o : List Offered). length o) (sym old.sent));
        bodies = bodies_more first sent items item s.count
            ∙ (ap (λ (b : List (List ℕ)). bodies_from first 0 items ++ b) add.body
            ∙ (append-nil (bodies_from first 0 items) ∙ (s.bodies ∙ ap bodies_of (sym old.sent))));
      }
  counts first greeting w items n s is (inr new) =
      let sent = length w.hub.sent in
      let packet = packet_to_send n.hub n.send in
      let item = sent_item (packet_bytes packet) in
      let add = adds_one laws.below first sent packet is.packet (rw (sym s.same_first) new.flag) in
      let longer : length n.hub.sent ≡ sent + 1 =
      ap (λ (o : List Offered). length o) new.sent ∙ length-append w.hub.sent (new.offered ∷ []) in
      record {
        count = count_more first sent items item s.count ∙ (add.count ∙ sym longer);
        bodies = bodies_more first sent items item s.count
            ∙ (ap (λ (b : List (List ℕ)). bodies_from first 0 items ++ b) add.body'
            ∙ (ap (λ (b : List ℕ). bodies_from first 0 items ++ b ∷ []) new.body
            ∙ (ap (λ (front : List (List ℕ)). front ++ new.offered.body ∷ []) s.bodies
            ∙ (sym (map-append offered_body w.hub.sent (new.offered ∷ [])) ∙ ap bodies_of (sym new.sent)))));
      }

  pub sent_joined : (w : World) (n : Next) → IsJoined w.hub (told_of w) → next_send w.hub ≡ Some n
      → IsJoined n.hub (told_of (sent_into w n))
  sent_joined w n is e =
      let told = told_of w in
      let bytes = bytes_to_send n.hub n.send in
      let j = laws.sent w.hub told n is e in
      let one : Datagram = record { direction = goes.ToBoard; bytes = bytes; birth = birth_of told bytes } in
      let birth : birth_of told bytes ≡ length n.hub.sent = sym (count_last w.board.first 0 w.air one) ∙ j.counts in
      subst (λ (b : ℕ). IsJoined n.hub (record {
        board = w.board;
        air = w.air ++ record { direction = goes.ToBoard; bytes = bytes; birth = b } ∷ [];
      })) birth j

  sent_shows : (first : ℕ) (greeting : List Datagram) (w : World) (items : List Caught) (n : Next)
      → Shows first greeting w items → IsSend laws.below w.hub n → next_send w.hub ≡ Some n
      → Shows first greeting (sent_into w n) (items ++ sent_item (bytes_to_send n.hub n.send) ∷ [])
  sent_shows first greeting w items n s is e =
      let bytes = bytes_to_send n.hub n.send in
      let item = sent_item bytes in
      let birth = length n.hub.sent in
      let one : Datagram = record { direction = goes.ToBoard; bytes = bytes; birth = birth } in
      let c = counts first greeting w items n s is is.effect in
      record {
        joined = sent_joined w n s.joined e;
        same_first = is.first ∙ s.same_first;
        count = c.count;
        bodies = c.bodies;
        shown = λ place p. shown_still first place (length (bodies_executed w.board)) items bytes s.shown
            (proof_in first 0 items (item ∷ []) place p);
        told = all_proved first items (item ∷ []) w.fates s.told;
        waiting = subst (AllByRecursion (IsProvedFate first (items ++ item ∷ []))) (sym is.kept)
            (all_proved first items (item ∷ []) w.hub.fates s.waiting);
        spelled = AllByRecursion-append IsSpelled w.air (one ∷ []) s.spelled
            (packet_spelled laws.below (packet_to_send n.hub n.send) is.packet is.big, tt);
        sends = one_more_for_board w.air bytes birth
            ∙ (ap (λ (front : List (List ℕ)). front ++ bytes ∷ []) s.sends
            ∙ (append_assoc (for_board greeting) (sent_in items) (bytes ∷ [])
            ∙ ap (λ (back : List (List ℕ)). for_board greeting ++ back) (sym (one_more_sent items bytes))));
      }

  -- a world whose air grew, with the sends that joined it
  pub record Flushed (first : ℕ) (greeting : List Datagram) (w : World) (items : List Caught) (new : World)
      : Type 0 where
    pub more : List Datagram
    pub air : new.air ≡ w.air ++ more
    pub shows : Shows first greeting new (items ++ map sent_item (for_board more))

  flush_by : (first : ℕ) (greeting : List Datagram) (later : Next → World) (w : World) (items : List Caught)
      (r : Option Next) → Shows first greeting w items → IsSendOr laws.below w.hub r → next_send w.hub ≡ r
      → ((n : Next) → Shows first greeting (sent_into w n) (items ++ sent_item (bytes_to_send n.hub n.send) ∷ [])
      → Flushed first greeting (sent_into w n) (items ++ sent_item (bytes_to_send n.hub n.send) ∷ []) (later n))
      → Flushed first greeting w items (flush_on r later w)
  flush_by first greeting later w items None s is e more =
      record { more = []; air = sym (append-nil w.air); shows = rw append-nil s }
  flush_by first greeting later w items (Some n) s is e more =
      let bytes = bytes_to_send n.hub n.send in
      let one : Datagram = record { direction = goes.ToBoard; bytes = bytes; birth = length n.hub.sent } in
      let f = more n (sent_shows first greeting w items n s is e) in
      record {
        more = one ∷ f.more;
        air = f.air ∙ append_assoc w.air (one ∷ []) f.more;
        shows = subst (Shows first greeting (later n))
            (append_assoc items (sent_item bytes ∷ []) (map sent_item (for_board f.more))) f.shows;
      }

  flush_shows : (first : ℕ) (greeting : List Datagram) (most : ℕ) (w : World) (items : List Caught)
      → Shows first greeting w items → Flushed first greeting w items (flush most w)
  flush_shows first greeting zero w items s =
      record { more = []; air = sym (append-nil w.air); shows = rw append-nil s }
  flush_shows first greeting (suc most) w items s =
      flush_by first greeting (λ next. flush most (sent_into w next)) w items (next_send w.hub) s
      (send_is laws.below w.hub (told_of w) s.joined.sound) refl
      (λ n t. flush_shows first greeting most (sent_into w n) (items ++ sent_item (bytes_to_send n.hub n.send) ∷ []) t)

  go_on_shows : (first : ℕ) (greeting : List Datagram) (w : World) (h : Hub) (items : List Caught)
      → Shows first greeting (with_hub w h) items → Flushed first greeting w items (go_on w h)
  go_on_shows first greeting w h items s =
      let f = flush_shows first greeting (pending h) (with_hub w h) items s in
      let new = flush (pending h) (with_hub w h) in
      record {
        more = f.more;
        air = f.air;
        shows = record {
          joined = all_lates_out (record new.hub { fates = [] }) (told_of new) new.hub.lates
              (all_out new.hub (told_of new) new.hub.fates f.shows.joined refl) refl;
          same_first = f.shows.same_first;
          count = f.shows.count;
          bodies = f.shows.bodies;
          shown = f.shows.shown;
          told = AllByRecursion-append _ new.fates new.hub.fates f.shows.told f.shows.waiting;
          waiting = tt;
          spelled = f.shows.spelled;
          sends = f.shows.sends;
        };
      }

  -- ---- the hub's events

  with_shows : (first : ℕ) (greeting : List Datagram) (w : World) (h : Hub) (items : List Caught)
      → Shows first greeting w items → IsJoined h (told_of w) → h.first ≡ w.hub.first → h.sent ≡ w.hub.sent
      → AllByRecursion (IsProvedFate first items) h.fates → Shows first greeting (with_hub w h) items
  with_shows first greeting w h items s joined same sent waiting = record {
    joined = joined;
    same_first = same ∙ s.same_first;
    count = s.count ∙ ap (λ (o : List Offered). length o) (sym sent);
    bodies = s.bodies ∙ ap bodies_of (sym sent);
    shown = s.shown;
    told = s.told;
    waiting = waiting;
    spelled = s.spelled;
    sends = s.sends;
  }

  quiet_first : (h : Hub) → (hear_quiet h).first ≡ h.first
  quiet_first h = either (λ (x : Hub). x.first ≡ h.first) (nat_lt h.status_requests h.rounds) (want_status h) (give_up h)
      (λ _. refl) (λ _. refl)

  quiet_shows : (first : ℕ) (greeting : List Datagram) (w : World) (items : List Caught)
      → Shows first greeting w items → Shows first greeting (with_hub w (hear_quiet w.hub)) items
  quiet_shows first greeting w items s =
      with_shows first greeting w (hear_quiet w.hub) items s (laws.quiet w.hub (told_of w) s.joined) (quiet_first w.hub)
      (quiet_sent w.hub)
      (either (λ (x : Hub). AllByRecursion (IsProvedFate first items) x.fates)
      (nat_lt w.hub.status_requests w.hub.rounds) (want_status w.hub) (give_up w.hub)
      (λ _. s.waiting)
      (λ _. AllByRecursion-append _ _ _ (all_timed_out (IsProvedFate first items)
      (least (places w.hub.open_places) (length w.hub.sent + 1)) w.hub.rounds w.hub.sent w.hub.open_places
      w.hub.fates (λ place one within. tt) s.joined.sound.hub.from_one s.joined.sound.hub.rising s.waiting)
      (all_unsent (IsProvedFate first items) w.hub.queue (λ tag. tt))))

  -- ---- the hub hears

  recovered_first : (h : Hub) (r : Option ℕ) → (after_recovery h r).first ≡ h.first
  recovered_first h None = refl
  recovered_first h (Some told) = refl

  settled_first : (h : Hub) (words : List ℕ) (r : Option OpenPlace) → (settle h words r).first ≡ h.first
  settled_first h words None = refl
  settled_first h words (Some o) = refl

  message_first : (h : Hub) (m : Option ToHub) → (take_message h m).first ≡ h.first
  message_first h None = refl
  message_first h (Some (StatusReply mtu buffers next)) = either (λ (x : Hub). x.first ≡ h.first)
      (nat_lt 0 h.status_requests) _ _ (λ _. recovered_first h (told_place h next)) (λ _. refl)
  message_first h (Some (Reply id words)) = settled_first h words (open_with h.first id h.open_places)

  recovered_fates : (h : Hub) (r : Option ℕ) → (after_recovery h r).fates ≡ h.fates
  recovered_fates h None = refl
  recovered_fates h (Some told) = refl

  -- the reply of an open place proves it
  settled_waits : (first : ℕ) (greeting : List Datagram) (w : World) (items : List Caught) (bytes words : List ℕ)
      (id : ℕ) (r : Option OpenPlace) → Shows first greeting w items → AreBytes bytes
      → to_hub bytes ≡ Some (Reply id words) → IsFoundOr laws.below w.hub.first id w.hub.open_places r
      → AllByRecursion (IsProvedFate first (items ++ received_item bytes ∷ [])) (settle w.hub words r).fates
  settled_waits first greeting w items bytes words id None s fits says found =
      all_proved first items (received_item bytes ∷ []) w.hub.fates s.waiting
  settled_waits first greeting w items bytes words id (Some o) s fits says found =
      let item = received_item bytes in
      let ps = places w.hub.open_places in
      let sent = length w.hub.sent in
      let count = count_from first 0 items in
      let from = has_from o.place (least ps (sent + 1)) (sent + 1) ps s.joined.sound.hub.rising found.there in
      let under = has_below o.place (least ps (sent + 1)) (sent + 1) ps s.joined.sound.hub.rising found.there in
      let all = all_proved first items (item ∷ []) w.hub.fates s.waiting in
      let P = IsProvedFate first (items ++ item ∷ []) in
      let tag = tag_of (at_place w.hub.sent o.place) in
      let named = subst (λ (f : ℕ). identifier_at f o.place ≡ id) s.same_first found.named in
      let shows = proves_its_place laws first count o.place id words bytes fits says
      (omega (arith, s.joined.sound.hub.from_one)) (omega (arith, s.count)) named in
      let new : P (tag, Replied o.place words) =
      proof_behind first 0 items (item ∷ []) o.place (inl (refl, inl shows)) in
      either (AllByRecursion P) o.waited _ _
      (λ _. all_inserted P o.place (tag, Replied o.place words) w.hub.fates new all) (λ _. all)

  message_waits : (first : ℕ) (greeting : List Datagram) (w : World) (items : List Caught) (bytes : List ℕ)
      (m : Option ToHub) → Shows first greeting w items → AreBytes bytes → to_hub bytes ≡ m
      → AllByRecursion (IsProvedFate first (items ++ received_item bytes ∷ [])) (take_message w.hub m).fates
  message_waits first greeting w items bytes None s fits says =
      all_proved first items (received_item bytes ∷ []) w.hub.fates s.waiting
  message_waits first greeting w items bytes (Some (StatusReply mtu buffers next)) s fits says =
      let P = AllByRecursion (IsProvedFate first (items ++ received_item bytes ∷ [])) in
      let all = all_proved first items (received_item bytes ∷ []) w.hub.fates s.waiting in
      either (λ (x : Hub). P x.fates) (nat_lt 0 w.hub.status_requests) _ _
      (λ _. subst P (sym (recovered_fates w.hub (told_place w.hub next))) all) (λ _. all)
  message_waits first greeting w items bytes (Some (Reply id words)) s fits says =
      settled_waits first greeting w items bytes words id (open_with w.hub.first id w.hub.open_places) s fits says
      (open_found laws.below w.hub.first id w.hub.open_places)

  -- a datagram of the air that is for the hub, and alive
  record IsTaken (w : World) (k : ℕ) (bytes : List ℕ) : Type 0 where
    birth : ℕ
    alive : length w.hub.sent - birth ≤ LIFETIME
    said : IsSaidToHub w.hub.first (replies w.board) birth (to_hub bytes)
    handed : IsHanded (told_of w) bytes

  taken_there : (w : World) (k : ℕ) (d : Datagram) → IsJoined w.hub (told_of w) → slice_get w.air k ≡ Some d
      → goes_to goes.ToHub d.direction ≡ true → is_alive (length w.hub.sent) d ≡ true → IsTaken w k d.bytes
  taken_there w k d is e way alive =
      let fact = all_get _ w.air k d is.sound.said e in
      let hub = same_way goes.ToHub d.direction way in
      let one : Datagram = record { direction = goes.ToHub; bytes = d.bytes; birth = d.birth } in
      let there : slice_get w.air k ≡ Some one =
      e ∙ ap (λ (x : Direction). let c : Datagram = record { direction = x; bytes = d.bytes; birth = d.birth } in
      Some c) hub in
      record {
        birth = d.birth;
        alive = leb-true _ _ alive;
        said = subst (λ (x : Direction). IsSaid w.hub.first (bodies_of w.hub.sent)
            (replies w.board) d.birth x d.bytes) hub fact.said;
        handed = record {
          place = k;
          at = record {
            birth = d.birth;
            there = there;
            alive = subst (λ (n : ℕ). is_alive n one ≡ true) (sym is.counts) alive;
          };
        };
      }

  shown_now : (first : ℕ) (greeting : List Datagram) (w : World) (items : List Caught) (bytes : List ℕ) (place k : ℕ)
      → Shows first greeting w items → AreBytes bytes → IsTaken w k bytes
      → HasProof first 0 items place ⊎ HasProof first (count_from first 0 items) (received_item bytes ∷ []) place
      → place ≤ length (bodies_executed w.board)
  shown_now first greeting w items bytes place k s fits t (inl before) = s.shown place before
  shown_now first greeting w items bytes place k s fits t (inr (inr none)) = absurd none
  shown_now first greeting w items bytes place k s fits t (inr (inl one)) =
      let said : IsSaidToHub first (replies w.board) t.birth (to_hub bytes) =
      subst (λ (f : ℕ). IsSaidToHub f (replies w.board) t.birth (to_hub bytes)) s.same_first t.said in
      let is = subst IsIdentifier s.same_first s.joined.sound.node.identifier in
      let within = shows_executed laws first (count_from first 0 items) t.birth place (replies w.board)
      (received_item bytes) is fits (omega (arith, t.alive, s.count)) said one.1 in
      omega (arith, replies_length w.board)

  heard_shows : (first : ℕ) (greeting : List Datagram) (w : World) (items : List Caught) (bytes : List ℕ) (k : ℕ)
      → Shows first greeting w items → AreBytes bytes → IsTaken w k bytes
      → Shows first greeting (with_hub w (take_message w.hub (to_hub bytes))) (items ++ received_item bytes ∷ [])
  heard_shows first greeting w items bytes k s fits t =
      let item = received_item bytes in
      let sent = length w.hub.sent in
      let same = message_sent w.hub (to_hub bytes) in
      record {
        joined = laws.handed w.hub (told_of w) bytes s.joined t.handed;
        same_first = message_first w.hub (to_hub bytes) ∙ s.same_first;
        count = count_more first sent items item s.count ∙ ap (λ (o : List Offered). length o) (sym same);
        bodies = bodies_more first sent items item s.count
            ∙ (append-nil (bodies_from first 0 items) ∙ (s.bodies ∙ ap bodies_of (sym same)));
        shown = λ place p. shown_now first greeting w items bytes place k s fits t
            (proof_in first 0 items (item ∷ []) place p);
        told = all_proved first items (item ∷ []) w.fates s.told;
        waiting = message_waits first greeting w items bytes (to_hub bytes) s fits refl;
        spelled = s.spelled;
        sends = s.sends
            ∙ ap (λ (back : List (List ℕ)). for_board greeting ++ back) (sym (none_sent items bytes));
      }

  -- ---- the board hears

  heard_there : (told : Told) (r : Option Datagram) (d : Datagram) → r ≡ Some d
      → goes_to goes.ToBoard d.direction ≡ true → is_alive (first_sends told) d ≡ true
      → heard_by told r ≡ Some (heard_on told d.bytes)
  heard_there told r d e way alive =
      ap (heard_by told) e
      ∙ (ap (λ (b : Bool). if b then (if is_alive (first_sends told) d then Some (heard_on told d.bytes) else None)
      else None) way
      ∙ ap (λ (b : Bool). if b then Some (heard_on told d.bytes) else None) alive)

  is_heard : (w : World) (k : ℕ) (d : Datagram) → IsJoined w.hub (told_of w) → slice_get w.air k ≡ Some d
      → goes_to goes.ToBoard d.direction ≡ true → is_alive (length w.hub.sent) d ≡ true
      → IsHeard (told_of w) (heard_on (told_of w) d.bytes)
  is_heard w k d is e way alive =
      let told = told_of w in
      record {
        places = k ∷ [];
        heard = ap (λ (r : Option Told). then_told r (λ after. hears_all after []))
            (heard_there told (slice_get w.air k) d e way
            (subst (λ (n : ℕ). is_alive n d ≡ true) (sym is.counts) alive));
      }

  longer_log : (old new : Told) → IsHeard old new → length (bodies_executed old.board) ≤ length (bodies_executed new.board)
  longer_log old new is =
      let more = laws.log old new is in
      let long = ap (λ (l : List LogEntry). length l) more.1 in
      omega (
        arith,
        length-map old.board.log body_of,
        length-map new.board.log body_of,
        long,
        length-append old.board.log more.0,
      )

  board_shows : (first : ℕ) (greeting : List Datagram) (w : World) (items : List Caught) (bytes : List ℕ)
      → Shows first greeting w items → IsHeard (told_of w) (heard_on (told_of w) bytes)
      → Flushed first greeting w items (board_hears w bytes)
  board_shows first greeting w items bytes s is =
      let told = told_of w in
      let answer = air_after_answer (length w.hub.sent) (hear w.board bytes).answer in
      let none = answer_for_hub (length w.hub.sent) (hear w.board bytes).answer in
      let longer = longer_log told (heard_on told bytes) is in
      let same : items ++ map sent_item (for_board answer) ≡ items =
      ap (λ (b : List (List ℕ)). items ++ map sent_item b) none ∙ append-nil items in
      record {
        more = answer;
        air = refl;
        shows = subst (Shows first greeting (board_hears w bytes)) (sym same) (record {
          joined = subst (λ (n : ℕ). IsJoined w.hub (record {
            board = (hear w.board bytes).board;
            air = w.air ++ air_after_answer n (hear w.board bytes).answer;
          })) s.joined.counts (laws.heard w.hub told (heard_on told bytes) s.joined is);
          same_first = s.same_first;
          count = s.count;
          bodies = s.bodies;
          shown = λ place p. let before = s.shown place p in omega (arith, longer, before);
          told = s.told;
          waiting = s.waiting;
          spelled = AllByRecursion-append IsSpelled w.air answer s.spelled
              (answer_spelled w.board bytes (length w.hub.sent));
          sends = for_board-append w.air answer
              ∙ (ap (λ (b : List (List ℕ)). for_board w.air ++ b) none ∙ (append-nil (for_board w.air) ∙ s.sends));
        });
      }

  -- ---- moves

  hub_moved : (first : ℕ) (greeting : List Datagram) (at : ℕ) (w : World) (items : List Caught) (k : ℕ)
      (r : Option Datagram) → Shows first greeting w items → slice_get w.air k ≡ r
      → IfOk (when_taken (taken_datagram at (length w.hub.sent) goes.ToHub r) (hub_hears w))
      (Flushed first greeting w (items ++ heard_at r))
  hub_moved first greeting at w items k None s e = tt
  hub_moved first greeting at w items k (Some d) s e =
      let P : Result (List ℕ) WorldEnd → Type 0 =
      λ r. IfOk (when_taken r (hub_hears w)) (Flushed first greeting w (items ++ received_item d.bytes ∷ [])) in
      either P (goes_to goes.ToHub d.direction) _ _
      (λ way. either P (is_alive (length w.hub.sent) d) _ _
      (λ alive.
      let fits : AreBytes d.bytes = subst (λ (x : Direction). IsSpelledTo x d.bytes)
      (same_way goes.ToHub d.direction way) (all_get IsSpelled w.air k d s.spelled e) in
      let t = taken_there w k d s.joined e way alive in
      go_on_shows first greeting w (take_message w.hub (to_hub d.bytes)) (items ++ received_item d.bytes ∷ [])
      (heard_shows first greeting w items d.bytes k s fits t))
      (λ _. tt))
      (λ _. tt)

  board_moved : (first : ℕ) (greeting : List Datagram) (at : ℕ) (w : World) (items : List Caught) (k : ℕ)
      (r : Option Datagram) → Shows first greeting w items → slice_get w.air k ≡ r
      → IfOk (when_taken (taken_datagram at (length w.hub.sent) goes.ToBoard r) (board_hears w))
      (Flushed first greeting w items)
  board_moved first greeting at w items k None s e = tt
  board_moved first greeting at w items k (Some d) s e =
      let P : Result (List ℕ) WorldEnd → Type 0 =
      λ r. IfOk (when_taken r (board_hears w)) (Flushed first greeting w items) in
      either P (goes_to goes.ToBoard d.direction) _ _
      (λ way. either P (is_alive (length w.hub.sent) d) _ _
      (λ alive. board_shows first greeting w items d.bytes s (is_heard w k d s.joined e way alive))
      (λ _. tt))
      (λ _. tt)

  step_flushed : (first : ℕ) (greeting : List Datagram) (at : ℕ) (w : World) (m : WorldMove) (items : List Caught)
      → IsMove m → Shows first greeting w items
      → IfOk (step at w m) (Flushed first greeting w (items ++ heard_in w m))
  step_flushed first greeting at w (Offer tag body) items can s =
      let o : Offered = record { tag = tag; body = body } in
      rw append-nil (go_on_shows first greeting w (offer w.hub o) items
      (with_shows first greeting w (offer w.hub o) items s (laws.offered w.hub (told_of w) o s.joined can) refl refl s.waiting))
  step_flushed first greeting at w Quiet items can s =
      rw append-nil (either (λ (r : Result World WorldEnd). IfOk r (Flushed first greeting w items))
      (is_waiting w.hub) _ _
      (λ _. go_on_shows first greeting w (hear_quiet w.hub) items (quiet_shows first greeting w items s)) (λ _. tt))
  step_flushed first greeting at w (HubHears k) items can s =
      hub_moved first greeting at w items k (slice_get w.air k) s refl
  step_flushed first greeting at w (BoardHears k) items can s =
      rw append-nil (board_moved first greeting at w items k (slice_get w.air k) s refl)

  -- with the definition of what was sent since
  shows_since : (first : ℕ) (greeting : List Datagram) (w : World) (items heard : List Caught) (new : World)
      → Flushed first greeting w (items ++ heard) new
      → Shows first greeting new (items ++ (heard ++ sent_since w new))
  shows_since first greeting w items heard new f =
      let same : drop (length w.air) new.air ≡ f.more =
      ap (λ (a : List Datagram). drop (length w.air) a) f.air ∙ drop-append_seam w.air f.more in
      subst (Shows first greeting new)
      (append_assoc items heard (map sent_item (for_board f.more))
      ∙ ap (λ (a : List Datagram). items ++ (heard ++ map sent_item (for_board a))) (sym same)) f.shows

  same_ok : {A : Type 0} (P Q : A → Type 0) (r : Result A WorldEnd) → ((x : A) → P x → Q x) → IfOk r P → IfOk r Q
  same_ok P Q (Ok x) f is = f x is
  same_ok P Q (Err e) f is = tt

  run_by : (first : ℕ) (greeting : List Datagram) (at : ℕ) (w : World) (items heard : List Caught)
      (moves : List WorldMove) (r : Result World WorldEnd)
      → IfOk r (λ after. Shows first greeting after (items ++ (heard ++ sent_since w after)))
      → ((after : World) → Shows first greeting after (items ++ (heard ++ sent_since w after))
      → IfOk (run_moves (at + 1) after moves) (λ new. Shows first greeting new
      ((items ++ (heard ++ sent_since w after)) ++ items_of (at + 1) after moves)))
      → IfOk (moves_on r (λ after. run_moves (at + 1) after moves)) (λ new. Shows first greeting new
      (items ++ items_then r (λ after. (heard ++ sent_since w after) ++ items_of (at + 1) after moves)))
  run_by first greeting at w items heard moves (Err e) is f = tt
  run_by first greeting at w items heard moves (Ok after) is f =
      let front = heard ++ sent_since w after in
      let rest = items_of (at + 1) after moves in
      same_ok (λ new. Shows first greeting new ((items ++ front) ++ rest))
      (λ new. Shows first greeting new (items ++ (front ++ rest))) (run_moves (at + 1) after moves)
      (λ new s. subst (Shows first greeting new) (append_assoc items front rest) s) (f after is)

  pub run_shows : (first : ℕ) (greeting : List Datagram) (at : ℕ) (w : World) (moves : List WorldMove)
      (items : List Caught) → AllByRecursion IsMove moves → Shows first greeting w items
      → IfOk (run_moves at w moves) (λ new. Shows first greeting new (items ++ items_of at w moves))
  run_shows first greeting at w [] items can s = rw append-nil s
  run_shows first greeting at w (m ∷ moves) items can s =
      run_by first greeting at w items (heard_in w m) moves (step at w m)
      (same_ok (Flushed first greeting w (items ++ heard_in w m))
      (λ after. Shows first greeting after (items ++ (heard_in w m ++ sent_since w after))) (step at w m)
      (λ after f. shows_since first greeting w items (heard_in w m) after f)
      (step_flushed first greeting at w m items can.0 s))
      (λ after t. run_shows first greeting (at + 1) after moves (items ++ (heard_in w m ++ sent_since w after))
      can.1 t)

  -- ---- a run

  start_shows : (window rounds : ℕ) (board : Board) (air : List Datagram) → IsStart window board air
      → Shows board.first air (start window rounds board air) []
  start_shows window rounds board air is = record {
    joined = laws.begins window rounds board air is;
    same_first = refl;
    count = refl;
    bodies = refl;
    shown = λ place none. absurd none;
    told = tt;
    waiting = tt;
    spelled = all-map _ IsSpelled air (λ d g. greeting_spelled board d g) is.greetings;
    sends = sym (append-nil (for_board air));
  }

  pub shows_run : (window rounds : ℕ) (board : Board) (air : List Datagram) (moves : List WorldMove) (w : World)
      → IsStart window board air → AllByRecursion IsMove moves
      → run_moves 0 (start window rounds board air) moves ≡ Ok w
      → Shows board.first air w (items_of 0 (start window rounds board air) moves)
  shows_run window rounds board air moves w is can ran =
      let items = items_of 0 (start window rounds board air) moves in
      subst (λ (r : Result World WorldEnd). IfOk r (λ new. Shows board.first air new items)) ran
      (run_shows board.first air 0 (start window rounds board air) moves [] can
      (start_shows window rounds board air is))
