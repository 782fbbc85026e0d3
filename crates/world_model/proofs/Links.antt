-- A hub and a link that tells stay joined.
use Rattle.std.proofs.Common.{◌≡◌, ℕ, ◌+◌, true, false, ◌==◌, List, [], ◌∷◌}
use Rattle.std.proofs.Common.{◌++◌, length, Option, Some, None, refl, sym, ap, ◌∙◌, subst, arith}
use Rattle.std.proofs.Common.{inl, inr, if◌then◌else◌}
use Rattle.std.specs.Prelude.{nat_le, min, IfSome}
use Rattle.std.proofs.lemmas.Bool.{eq-eqb, leb-true}
use Rattle.std.proofs.lemmas.Bool.Decides.{eqb_tells}
use Rattle.std.proofs.lemmas.List.{length_push, append-nil}
use Rattle.std.specs.List.{AllByRecursion, slice_get}
use Rattle.packet_ids.specs.Identifier.{identifier_at}
use Rattle.packet_codec.specs.declared.packet.Order.TheVariants.{Big}
use Rattle.world_model.specs.declared.datagram.Datagram.{Datagram}
use Rattle.world_model.specs.declared.datagram.Direction.{Direction}
use Rattle.world_model.specs.declared.datagram.Direction.TheVariants as goes
use Rattle.world_model.specs.declared.offered.Offered.{Offered}
use Rattle.world_model.specs.declared.offered.OpenPlace.{OpenPlace}
use Rattle.world_model.specs.declared.offered.Fate.{Fate}
use Rattle.world_model.specs.declared.sending.Sending.{Sending}
use Rattle.world_model.specs.declared.sending.Sending.TheVariants as sends
use Rattle.world_model.specs.Places.{at_place}
use Rattle.world_model.specs.Messages.{ToBoard, StatusRequest, ResendRequest, ControlPacket}
use Rattle.world_model.specs.Messages.{to_board, to_hub}
use Rattle.world_model.specs.Board.{Board, Hearing, expected_identifier, held_replies, with_id, is_too_long, send_again}
use Rattle.world_model.specs.Board.{hear_message, hear, replies}
use Rattle.world_model.specs.Hub.{Hub, low, words_of, offer}
use Rattle.world_model.specs.Hub.{none_handed_out, to_hand_out, take_message, hear_quiet, new_hub, places, least}
use Rattle.world_model.specs.Sends.{Next, Wanted, first_wanted, first_send, wanted_or_first, next_send, bytes_to_send}
use Rattle.world_model.specs.Air.{is_alive, goes_to}
use Rattle.world_model.specs.World.{World, air_after_answer}
use Rattle.world_model.specs.Facts.{IsSound, Holds, IsSendable, AreSendable, IsStart, IsSaid, IsGreeting, IsGreetingOf}
use Rattle.world_model.specs.Facts.{AreLateReplies, AreRight, bodies_of, has}
use Rattle.world_model.specs.Links.{Told, IsHeard, IsHanded, is_first_message, is_first_send}
use Rattle.world_model.specs.Links.{first_sends_from, first_sends, birth_of, sent_on, heard_on, heard_by, then_told}
use Rattle.world_model.specs.Links.{hears_all, together, IsJoined}
use Rattle.world_model.proofs.Lists.{at_seam, at_exists, either, all_get}
use Rattle.world_model.proofs.Places.{has_from, has_below, one_place, id_fits}
use Rattle.world_model.proofs.Readings.{control_read, request_read, resend_read}
use Rattle.world_model.proofs.Hubs.{offer_holds, quiet_holds, send_holds, IsSendSound, IsWish, IsWantedOr}
use Rattle.world_model.proofs.Hubs.{named_fits, wanted_is, sendable_at}
use Rattle.world_model.proofs.Kept.{message_sent, quiet_sent}
use Rattle.world_model.proofs.Worlds.{board_goes_on, IsTaken, hub_heard, start_holds, same_way}
use Rattle.world_model.specs.Below.{Below}

module _ (below : Below) where
  -- ---- the link's count is the hub's

  pub count_more : (first count : ℕ) (ds : List Datagram) (d : Datagram) → first_sends_from first count (ds ++ d ∷ [])
      ≡ (if is_first_send first (first_sends_from first count ds) d.direction d.bytes then first_sends_from first count
      ds + 1 else first_sends_from first count ds)
  count_more first count [] d = refl
  count_more first count (x ∷ ds) d = count_more first (if is_first_send first count x.direction x.bytes then count + 1
      else count) ds d

  -- a control packet that is sent again is no first send: its place is near the next one and is not it
  not_first : (w : World) (place : ℕ) → IsSound w → has place (places w.hub.open_places) ≡ true
      → (identifier_at w.hub.first place == identifier_at w.hub.first (length w.hub.sent + 1)) ≡ false
  not_first w place is there =
      let ps = places w.hub.open_places in
      let sent = length w.hub.sent in
      let from = has_from place (least ps (sent + 1)) (sent + 1) ps is.hub.rising there in
      let under = has_below place (least ps (sent + 1)) (sent + 1) ps is.hub.rising there in
      elim (eqb_tells (identifier_at w.hub.first place) (identifier_at w.hub.first (sent + 1))) [
        | inl same ↦ absurd (let e = one_place w.hub.first place (sent + 1) is.node.identifier
            (omega (arith, is.hub.from_one)) (omega arith) (omega arith)
            (omega (arith, is.hub.within, is.hub.few)) same.1 in omega arith)
        | inr other ↦ other.0
      ]

  -- after this send the count is the hub's
  abbrev pub IsCounted : World → Option Next → Type 0
  IsCounted w None = Unit {0}
  IsCounted w (Some n) = (if is_first_send w.hub.first (length w.hub.sent) goes.ToBoard
      (bytes_to_send n.hub n.send) then length w.hub.sent + 1 else length w.hub.sent) ≡ length n.hub.sent

  wish_counted : (w : World) (s : Sending) → IsSound w → IsWish w.hub.first (places w.hub.open_places) s
      → is_first_send w.hub.first (length w.hub.sent) goes.ToBoard (bytes_to_send w.hub s) ≡ false
  wish_counted w sends.Status is wish = ap (is_first_message w.hub.first (length w.hub.sent)) (request_read below.packets.back)
  wish_counted w (sends.Resend id) is wish = ap (is_first_message w.hub.first (length w.hub.sent))
      (resend_read below.packets.back id (named_fits w.hub.first (places w.hub.open_places) id wish))
  wish_counted w (sends.Control place id) is wish =
      let ps = places w.hub.open_places in
      let sent = length w.hub.sent in
      let from = has_from place (least ps (sent + 1)) (sent + 1) ps is.hub.rising wish.0 in
      let under = has_below place (least ps (sent + 1)) (sent + 1) ps is.hub.rising wish.0 in
      let x = at_exists w.hub.sent place (omega (arith, is.hub.from_one)) (omega arith) in
      let can : IsSendable (words_of (at_place w.hub.sent place)) =
      subst IsSendable (sym (ap words_of x.1)) (sendable_at below w.hub.sent place x.0 is.sent_bodies x.1) in
      ap (is_first_message w.hub.first (length w.hub.sent))
      (control_read below.packets.back Big id (words_of (at_place w.hub.sent place))
      (omega (arith, wish.1, id_fits w.hub.first place)) can)
      ∙ (ap (λ (k : ℕ). k == identifier_at w.hub.first (length w.hub.sent + 1)) wish.1 ∙ not_first w place is wish.0)

  not_counted : (w : World) (n : Next) → is_first_send w.hub.first (length w.hub.sent) goes.ToBoard
      (bytes_to_send n.hub n.send) ≡ false → length n.hub.sent ≡ length w.hub.sent → IsCounted w (Some n)
  not_counted w n other same = rw other (sym same)

  first_counted : (w : World) (queue : List Offered) → AreSendable queue → IsCounted w (first_send w.hub queue)
  first_counted w [] all = tt
  first_counted w (o ∷ later) all = either (IsCounted w)
      (nat_le (length w.hub.sent + 1 + 1) (w.hub.window + low w.hub)) _ _
      (λ _.
      let id = identifier_at w.hub.first (length w.hub.sent + 1) in
      let here : words_of (at_place (w.hub.sent ++ o ∷ []) (length w.hub.sent + 1)) ≡ o.body =
      ap words_of (at_seam w.hub.sent [] o) in
      let can : IsSendable (words_of (at_place (w.hub.sent ++ o ∷ []) (length w.hub.sent + 1))) =
      subst IsSendable (sym here) all.0 in
      let read = ap (is_first_message w.hub.first (length w.hub.sent))
      (control_read below.packets.back Big id _ (id_fits w.hub.first (length w.hub.sent + 1)) can) in
      rw (read, eq-eqb id id refl) (sym (length_push w.hub.sent o)))
      (λ _. tt)

  open_bytes : (h : Hub) (os : List OpenPlace) (s : Sending)
      → bytes_to_send (record h { open_places = os }) s ≡ bytes_to_send h s
  open_bytes h os sends.Status = refl
  open_bytes h os (sends.Resend id) = refl
  open_bytes h os (sends.Control place id) = refl

  wanted_counted : (w : World) (r : Option Wanted) → IsSound w → IsWantedOr w.hub.first w.hub.open_places r
      → IsCounted w (wanted_or_first w.hub r)
  wanted_counted w None is want = first_counted w w.hub.queue is.queued_bodies
  wanted_counted w (Some x) is want =
      not_counted w (record { send = x.send; hub = record w.hub { open_places = x.open_places } })
      (ap (is_first_send w.hub.first (length w.hub.sent) goes.ToBoard) (open_bytes w.hub x.open_places x.send)
      ∙ wish_counted w x.send is want.wish) refl

  send_counted : (w : World) → IsSound w → IsCounted w (next_send w.hub)
  send_counted w is = either (IsCounted w) w.hub.status_wanted _ _
      (λ _. not_counted w (record { send = sends.Status; hub = record w.hub { status_wanted = false } })
      (wish_counted w sends.Status is tt) refl)
      (λ _. wanted_counted w (first_wanted w.hub.first w.hub.open_places) is (wanted_is w.hub.first w.hub.open_places))

  -- ---- a receive: the board hears some datagrams

  answer_counts : (first count : ℕ) (air : List Datagram) (birth : ℕ) (r : Option (List ℕ))
      → first_sends_from first count (air ++ air_after_answer birth r) ≡ first_sends_from first count air
  answer_counts first count air birth None = ap (first_sends_from first count) (append-nil air)
  answer_counts first count air birth (Some bytes) = count_more first count air
      (record { direction = goes.ToHub; bytes = bytes; birth = birth })

  abbrev pub KeepsFirst : ℕ → Hearing → Type 0
  KeepsFirst first h = h.board.first ≡ first

  message_first : (b : Board) (m : Option ToBoard) → KeepsFirst b.first (hear_message b m)
  message_first b None = refl
  message_first b (Some StatusRequest) = refl
  message_first b (Some (ResendRequest id)) = elim (with_id id (held_replies b)) as (λ r. KeepsFirst b.first (send_again b r))
      [ None ↦ refl | Some packet ↦ refl ]
  message_first b (Some (ControlPacket order id body)) =
      either (KeepsFirst b.first) (is_too_long b body) _ _ (λ _. refl)
      (λ _. either (KeepsFirst b.first) (id == 0) _ _ (λ _. refl)
      (λ _. either (KeepsFirst b.first) (id == expected_identifier b) _ _ (λ _. refl) (λ _. refl)))

  pub hear_first : (b : Board) (bytes : List ℕ) → (hear b bytes).board.first ≡ b.first
  hear_first b bytes = message_first b (to_board bytes)

  heard_joined : (hub : Hub) (t : Told) (bytes : List ℕ) → IsJoined hub t
      → IsTaken below (together hub t) goes.ToBoard bytes → IsJoined hub (heard_on t bytes)
  heard_joined hub t bytes is taken = record {
    sound = subst (λ (n : ℕ). Holds hub.first hub.window hub.sent hub.queue (places hub.open_places) (to_hand_out hub)
        (hear t.board bytes).board (t.air ++ air_after_answer n (hear t.board bytes).answer) none_handed_out) (sym is.counts)
        (board_goes_on below (together hub t) bytes is.sound taken);
    counts = ap (λ (f : ℕ). first_sends_from f 0 (t.air ++ air_after_answer (first_sends t) (hear t.board bytes).answer))
        (hear_first t.board bytes)
        ∙ (answer_counts t.board.first 0 t.air (first_sends t) (hear t.board bytes).answer ∙ is.counts);
  }

  -- a datagram of the air that is alive by the link's count is taken by a move
  taken_of : (hub : Hub) (t : Told) (hearer : Direction) (k : ℕ) (d : Datagram) → IsJoined hub t
      → slice_get t.air k ≡ Some d → goes_to hearer d.direction ≡ true → is_alive (first_sends t) d ≡ true
      → IsTaken below (together hub t) hearer d.bytes
  taken_of hub t hearer k d is e way alive =
      let fact = all_get _ t.air k d is.sound.said e in
      record {
        birth = d.birth;
        born = fact.born;
        alive = (let h = leb-true _ _ alive in omega (arith, is.counts));
        said = subst (λ (x : Direction). IsSaid hub.first (bodies_of hub.sent) (replies t.board) d.birth x d.bytes)
            (same_way below hearer d.direction way) fact.said;
      }

  heard_one : (hub : Hub) (t : Told) (k : ℕ) (r : Option Datagram) → IsJoined hub t → slice_get t.air k ≡ r
      → IfSome (heard_by t r) (IsJoined hub)
  heard_one hub t k None is e = tt
  heard_one hub t k (Some d) is e = either (λ (x : Option Told). IfSome x (IsJoined hub))
      (goes_to goes.ToBoard d.direction) _ _
      (λ way. either (λ (x : Option Told). IfSome x (IsJoined hub)) (is_alive (first_sends t) d) _ _
      (λ a. heard_joined hub t d.bytes is (taken_of hub t goes.ToBoard k d is e way a))
      (λ _. tt))
      (λ _. tt)

  hears_then : (hub : Hub) (r : Option Told) (later : Told → Option Told) → IfSome r (IsJoined hub)
      → ((t : Told) → IsJoined hub t → IfSome (later t) (IsJoined hub)) → IfSome (then_told r later) (IsJoined hub)
  hears_then hub None later is f = tt
  hears_then hub (Some t) later is f = f t is

  -- one receive, whatever the board heard in it
  hears_joined : (hub : Hub) (t : Told) (ks : List ℕ) → IsJoined hub t → IfSome (hears_all t ks) (IsJoined hub)
  hears_joined hub t [] is = is
  hears_joined hub t (k ∷ ks) is = hears_then hub _ (λ after. hears_all after ks)
      (heard_one hub t k (slice_get t.air k) is refl) (λ v h. hears_joined hub v ks h)

  pub heard_in_one : (hub : Hub) (old new : Told) → IsJoined hub old → IsHeard old new → IsJoined hub new
  heard_in_one hub old new is h = subst (λ (r : Option Told). IfSome r (IsJoined hub)) h.heard
      (hears_joined hub old h.places is)

  -- ---- a send

  count_is : (hub : Hub) (t : Told) (n : Next) → IsJoined hub t → IsCounted (together hub t) (Some n)
      → birth_of t (bytes_to_send n.hub n.send) ≡ length n.hub.sent
  count_is hub t n is counted =
      ap (λ (c : ℕ). if is_first_send t.board.first c goes.ToBoard (bytes_to_send n.hub n.send) then c + 1 else c)
      is.counts
      ∙ (ap (λ (f : ℕ). if is_first_send f (length hub.sent) goes.ToBoard
      (bytes_to_send n.hub n.send) then length hub.sent + 1 else length hub.sent) (sym is.sound.node.same_first)
      ∙ counted)

  sent_joined : (hub : Hub) (t : Told) (n : Next) → IsJoined hub t → IsSendSound below (together hub t) (Some n)
      → IsCounted (together hub t) (Some n) → IsJoined n.hub (sent_on t (bytes_to_send n.hub n.send))
  sent_joined hub t n is sound counted =
      let bytes = bytes_to_send n.hub n.send in
      let born = count_is hub t n is counted in
      record {
        sound = subst (λ (b : ℕ). Holds n.hub.first n.hub.window n.hub.sent n.hub.queue
            (places n.hub.open_places) (to_hand_out n.hub) t.board (t.air ++ record
            { direction = goes.ToBoard; bytes = bytes; birth = b } ∷ []) none_handed_out) (sym born) sound;
        counts = count_more t.board.first 0 t.air (record {
          direction = goes.ToBoard;
          bytes = bytes;
          birth = birth_of t bytes;
        }) ∙ born;
      }

  pub send_joined : (hub : Hub) (t : Told) (n : Next) → IsJoined hub t → next_send hub ≡ Some n
      → IsJoined n.hub (sent_on t (bytes_to_send n.hub n.send))
  send_joined hub t n is e =
      sent_joined hub t n is
      (subst (IsSendSound below (together hub t)) e (send_holds below (together hub t) is.sound))
      (subst (IsCounted (together hub t)) e (send_counted (together hub t) is.sound))

  -- ---- what the hub hears

  pub handed_joined : (hub : Hub) (t : Told) (bytes : List ℕ) → IsJoined hub t → IsHanded t bytes
      → IsJoined (take_message hub (to_hub bytes)) t
  handed_joined hub t bytes is h = record {
    sound = hub_heard below (together hub t) bytes is.sound
        (taken_of hub t goes.ToHub h.place (record { direction = goes.ToHub; bytes = bytes; birth = h.at.birth }) is
        h.at.there refl h.at.alive);
    counts = is.counts ∙ ap (λ (xs : List Offered). length xs) (sym (message_sent hub (to_hub bytes)));
  }

  pub quiet_joined : (hub : Hub) (t : Told) → IsJoined hub t → IsJoined (hear_quiet hub) t
  quiet_joined hub t is = record {
    sound = quiet_holds below (together hub t) is.sound;
    counts = is.counts ∙ ap (λ (xs : List Offered). length xs) (sym (quiet_sent hub));
  }

  pub offer_joined : (hub : Hub) (t : Told) (o : Offered) → IsJoined hub t → IsSendable o.body
      → IsJoined (offer hub o) t
  offer_joined hub t o is can = record { sound = offer_holds below (together hub t) o can is.sound; counts = is.counts }

  pub fate_joined : (hub : Hub) (t : Told) (fate : ℕ × Fate) (fates : List (ℕ × Fate)) → IsJoined hub t
      → hub.fates ≡ fate ∷ fates → IsJoined (record hub { fates = fates }) t
  fate_joined hub t fate fates is e = record {
    sound = record {
      hub = is.sound.hub;
      sent_bodies = is.sound.sent_bodies;
      queued_bodies = is.sound.queued_bodies;
      log = is.sound.log;
      node = is.sound.node;
      said = is.sound.said;
      waiting_fates = (subst (AreRight hub.sent (replies t.board)) e is.sound.waiting_fates).1;
      told_fates = tt;
      waiting_lates = is.sound.waiting_lates;
      told_lates = tt;
    };
    counts = is.counts;
  }

  pub late_joined : (hub : Hub) (t : Told) (late : ℕ × List ℕ) (lates : List (ℕ × List ℕ)) → IsJoined hub t
      → hub.lates ≡ late ∷ lates → IsJoined (record hub { lates = lates }) t
  late_joined hub t late lates is e = record {
    sound = record {
      hub = is.sound.hub;
      sent_bodies = is.sound.sent_bodies;
      queued_bodies = is.sound.queued_bodies;
      log = is.sound.log;
      node = is.sound.node;
      said = is.sound.said;
      waiting_fates = is.sound.waiting_fates;
      told_fates = tt;
      waiting_lates = (subst (AreLateReplies (replies t.board)) e is.sound.waiting_lates).1;
      told_lates = tt;
    };
    counts = is.counts;
  }

  -- ---- the start

  greeting_no_send : (board : Board) (count : ℕ) (way : Direction) (bytes : List ℕ) → IsGreetingOf board way bytes
      → is_first_send board.first count way bytes ≡ false
  greeting_no_send board count goes.ToBoard bytes e = ap (is_first_message board.first count) e
  greeting_no_send board count goes.ToHub bytes e = refl

  pub greetings_count : (board : Board) (count : ℕ) (air : List Datagram) → AllByRecursion (IsGreeting board) air
      → first_sends_from board.first count air ≡ count
  greetings_count board count [] all = refl
  greetings_count board count (d ∷ air) all = rw (greeting_no_send board count d.direction d.bytes all.0.bytes)
      (greetings_count board count air all.1)

  pub greeting_joined : (window rounds : ℕ) (board : Board) (air : List Datagram) → IsStart window board air
      → IsJoined (new_hub board.first (min window board.buffers) rounds) (record { board = board; air = air })
  greeting_joined window rounds board air is = record {
    sound = start_holds below window rounds board air is;
    counts = greetings_count board 0 air is.greetings;
  }
