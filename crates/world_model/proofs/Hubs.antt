-- The hub's events and sends keep the facts.
use Rattle.std.proofs.Common.{◌≡◌, ℕ, zero, suc, ◌+◌, ◌-◌, ◌<◌, ◌≤◌, ◌^◌, true, false, cond, ◌==◌, ◌||◌, List, []}
use Rattle.std.proofs.Common.{◌∷◌, ◌++◌, length, map, Option, Some, None, refl, sym, ap, ◌∙◌, subst, arith}
use Rattle.std.proofs.Common.{length-append}
use Rattle.std.specs.Prelude.{nat_lt, nat_le}
use Rattle.std.proofs.lemmas.Bool.{eqb-true, eq-eqb, leb-true}
use Rattle.std.proofs.lemmas.List.{length-map, map-append, append-nil}
use Rattle.std.specs.List.{AllByRecursion}
use Rattle.ipb_base.proofs.AllLemmas.{AllByRecursion-append}
use Rattle.packet_ids.specs.Identifier.{identifier_at}
use Rattle.packet_codec.specs.declared.packet.Order.TheVariants.{Big}
use Rattle.packet_codec.specs.Packet.{packet_bytes}
use Rattle.world_model.specs.declared.datagram.Datagram.{Datagram}
use Rattle.world_model.specs.declared.datagram.Direction.TheVariants as goes
use Rattle.world_model.specs.declared.offered.Offered.{Offered}
use Rattle.world_model.specs.declared.offered.OpenPlace.{OpenPlace}
use Rattle.world_model.specs.declared.offered.Fate.{Fate}
use Rattle.world_model.specs.declared.offered.Fate.TheVariants.{Replied, TimedOut, Unsent}
use Rattle.world_model.specs.declared.sending.Sending.{Sending}
use Rattle.world_model.specs.declared.sending.Sending.TheVariants as sends
use Rattle.world_model.specs.Places.{at_place}
use Rattle.world_model.specs.Messages.{control_packet, to_board}
use Rattle.world_model.specs.Hub.{Hub, low, want_control, offer, goes_before, insert_fate, tag_of, words_of, open_with}
use Rattle.world_model.specs.Hub.{without, settle, hear_reply, recover, after_recovery, told_place, hear_status}
use Rattle.world_model.specs.Hub.{abandoned_place, time_out, unsent_fate, give_up, want_status, hear_quiet, places}
use Rattle.world_model.specs.Hub.{HandedOut, insert_late, place_of, least, to_hand_out}
use Rattle.world_model.specs.Sends.{Next, Wanted, after_open, first_wanted, opened_place, first_send, wanted_or_first, next_send}
use Rattle.world_model.specs.Sends.{bytes_to_send}
use Rattle.world_model.specs.Board.{Board, bodies_executed, replies}
use Rattle.world_model.specs.Air.{LIFETIME}
use Rattle.world_model.specs.World.{World, sent_into, told_in, with_hub}
use Rattle.world_model.specs.Facts.{IsExecuted, IsDatagram, IsSaidToBoard, IsControlOf, IsReplyOf}
use Rattle.world_model.specs.Facts.{IsSendable, AreSendable, IsTagged, IsRightFate, AreRight, MOST_OPEN}
use Rattle.world_model.specs.Facts.{AreLateReplies, IsLateReply, Holds, IsSound, bodies_of, offered_body, has}
use Rattle.world_model.specs.Facts.{AreRising}
use Rattle.world_model.proofs.Lists.{at_seam, at_from_one, at_within, at_exists, at_map, either, front_length}
use Rattle.world_model.proofs.Lists.{all_get}
use Rattle.world_model.proofs.Places.{less, has_from, has_below, rising_end, window_push, window_less}
use Rattle.world_model.proofs.Places.{executed_push, executed_less, one_place, id_fits}
use Rattle.world_model.proofs.Readings.{control_read, request_read, resend_read}
use Rattle.world_model.proofs.Boards.{air_grows, fates_grow, replies_length}
use Rattle.world_model.specs.Below.{Below}

-- a change of open places that leaves their places
pub places_map : (f : OpenPlace → OpenPlace) (os : List OpenPlace) → ((o : OpenPlace) → (f o).place ≡ o.place)
    → places (map f os) ≡ places os
places_map f [] same = refl
places_map f (o ∷ os) same = ap (λ (p : ℕ). p ∷ places (map f os)) (same o)
    ∙ ap (λ (ps : List ℕ). o.place ∷ ps) (places_map f os same)

pub places_without : (place : ℕ) (os : List OpenPlace) → places (without place os) ≡ less place (places os)
places_without place [] = refl
places_without place (o ∷ os) = elim (o.place == place)
    as (λ b. places (cond b os (o ∷ without place os)) ≡ cond b (places os) (o.place ∷ less place (places os))) [
      | true ↦ refl
      | false ↦ ap (λ (ps : List ℕ). o.place ∷ ps) (places_without place os)
    ]

pub recover_place : (e : ℕ) (o : OpenPlace) → (recover e o).place ≡ o.place
recover_place e o = either (λ (x : OpenPlace). x.place ≡ o.place) (nat_lt o.place e) _ _ (λ _. refl) (λ _. refl)

-- ---- what is wanted of open places

-- a re-send request asks for the reply of one of the places
pub record IsNamed (first : ℕ) (ps : List ℕ) (id : ℕ) : Type 0 where
  pub place : ℕ
  pub there : has place ps ≡ true
  pub identifier : identifier_at first place ≡ id

pub named_fits : (first : ℕ) (ps : List ℕ) (id : ℕ) → IsNamed first ps id → id < 2 ^ 16
named_fits first ps id is = omega (arith, is.identifier, id_fits first is.place)

abbrev pub IsWish : ℕ → List ℕ → Sending → Type 0
IsWish first ps sends.Status = Unit {0}
IsWish first ps (sends.Resend id) = IsNamed first ps id
IsWish first ps (sends.Control place id) = (has place ps ≡ true) × (id ≡ identifier_at first place)

pub record IsWanted (first : ℕ) (os : List OpenPlace) (w : Wanted) : Type 0 where
  pub same : places w.open_places ≡ places os
  pub wish : IsWish first (places os) w.send

abbrev pub IsWantedOr : ℕ → List OpenPlace → Option Wanted → Type 0
IsWantedOr first os None = Unit {0}
IsWantedOr first os (Some w) = IsWanted first os w

pub has_later : (place p : ℕ) (ps : List ℕ) → has place ps ≡ true → has place (p ∷ ps) ≡ true
has_later place p ps there = elim (p == place) as (λ b. (b || has place ps) ≡ true) [ true ↦ refl | false ↦ there ]

pub has_first : (place : ℕ) (ps : List ℕ) → has place (place ∷ ps) ≡ true
has_first place ps = rw (eq-eqb place place refl) refl

wish_later : (first p : ℕ) (ps : List ℕ) (s : Sending) → IsWish first ps s → IsWish first (p ∷ ps) s
wish_later first p ps sends.Status is = tt
wish_later first p ps (sends.Resend id) is =
    record { place = is.place; there = has_later is.place p ps is.there; identifier = is.identifier }
wish_later first p ps (sends.Control place id) is = (has_later place p ps is.0, is.1)

wanted_later : (first : ℕ) (o : OpenPlace) (os : List OpenPlace) (r : Option Wanted) → IsWantedOr first os r
    → IsWantedOr first (o ∷ os) (after_open o r)
wanted_later first o os None is = tt
wanted_later first o os (Some w) is = record {
  same = ap (λ (ps : List ℕ). o.place ∷ ps) is.same;
  wish = wish_later first o.place (places os) w.send is.wish;
}

pub wanted_is : (first : ℕ) (os : List OpenPlace) → IsWantedOr first os (first_wanted first os)
wanted_is first [] = tt
wanted_is first (o ∷ os) = either (IsWantedOr first (o ∷ os)) o.resend _ _
    (λ _. record {
      same = refl;
      wish = record { place = o.place; there = has_first o.place (places os); identifier = refl };
    })
    (λ _. either (IsWantedOr first (o ∷ os)) o.control _ _
    (λ _. record { same = refl; wish = (has_first o.place (places os), refl) })
    (λ _. wanted_later first o os _ (wanted_is first os)))

-- ---- fates

-- the tag of the body at a place that was sent
pub tagged : (sent : List Offered) (place : ℕ) → 1 ≤ place → place ≤ length sent
    → IsTagged sent (tag_of (at_place sent place)) place
tagged sent place one within =
    let x = at_exists sent place one within in
    record { offered = x.0; at = x.1; tag_is = ap tag_of (sym x.1) }

pub all_inserted : (P : ℕ × Fate → Type 0) (place : ℕ) (new : ℕ × Fate) (fates : List (ℕ × Fate)) → P new
    → AllByRecursion P fates → AllByRecursion P (insert_fate place new fates)
all_inserted P place new [] is all = (is, tt)
all_inserted P place new (f ∷ fs) is all = either (AllByRecursion P) (goes_before place f.1) _ _
    (λ _. (is, all))
    (λ _. (all.0, all_inserted P place new fs is all.1))

pub all_late : (P : ℕ × List ℕ → Type 0) (new : ℕ × List ℕ) (lates : List (ℕ × List ℕ)) → P new
    → AllByRecursion P lates → AllByRecursion P (insert_late new lates)
all_late P new [] is all = (is, tt)
all_late P new (l ∷ ls) is all = either (AllByRecursion P) (nat_lt new.0 l.0) _ _
    (λ _. (is, all))
    (λ _. (all.0, all_late P new ls is all.1))

-- what holds of each time-out holds after a give-up
pub all_timed_out : (P : ℕ × Fate → Type 0) (from rounds : ℕ) (sent : List Offered) (os : List OpenPlace)
    (fates : List (ℕ × Fate))
    → ((place : ℕ) → 1 ≤ place → place ≤ length sent → P (tag_of (at_place sent place), TimedOut place rounds))
    → 1 ≤ from → AreRising from (length sent + 1) (places os) → AllByRecursion P fates
    → AllByRecursion P (time_out rounds sent os fates)
all_timed_out P from rounds sent [] fates late one rising all = all
all_timed_out P from rounds sent (o ∷ os) fates late one rising all =
    let under = rising_end (o.place + 1) (length sent + 1) (places os) rising.1 in
    let new = late o.place (omega (arith, rising.0)) (omega arith) in
    all_timed_out P (o.place + 1) rounds sent os _ late (omega arith) rising.1
    (either (AllByRecursion P) o.waited _ _
    (λ _. all_inserted P o.place (tag_of (at_place sent o.place), TimedOut o.place rounds) fates new all)
    (λ _. all))

pub all_unsent : (P : ℕ × Fate → Type 0) (queue : List Offered) → ((tag : ℕ) → P (tag, Unsent))
    → AllByRecursion P (map unsent_fate queue)
all_unsent P [] is = tt
all_unsent P (o ∷ os) is = (is o.tag, all_unsent P os is)

module _ (below : Below) where
  pub record IsFound (first id : ℕ) (os : List OpenPlace) (o : OpenPlace) : Type 0 where
    pub there : has o.place (places os) ≡ true
    pub named : identifier_at first o.place ≡ id

  abbrev pub IsFoundOr : ℕ → ℕ → List OpenPlace → Option OpenPlace → Type 0
  IsFoundOr first id os None = Unit {0}
  IsFoundOr first id os (Some o) = IsFound first id os o

  found_later : (first id : ℕ) (o : OpenPlace) (os : List OpenPlace) (r : Option OpenPlace) → IsFoundOr first id os r
      → IsFoundOr first id (o ∷ os) r
  found_later first id o os None f = tt
  found_later first id o os (Some x) f = record {
    there = elim (o.place == x.place) as (λ b. (b || has x.place (places os)) ≡ true)
        [ true ↦ refl | false ↦ f.there ];
    named = f.named;
  }

  pub open_found : (first id : ℕ) (os : List OpenPlace) → IsFoundOr first id os (open_with first id os)
  open_found first id [] = tt
  open_found first id (o ∷ os) = either (IsFoundOr first id (o ∷ os)) (identifier_at first o.place == id) _ _
      (λ e. record { there = rw (eq-eqb o.place o.place refl) refl; named = eqb-true _ _ e })
      (λ _. found_later first id o os _ (open_found first id os))

  -- ---- events that leave the places

  same_places : (first window : ℕ) (sent queue queued : List Offered) (ps qs : List ℕ) (fates fresh : List (ℕ × Fate))
      (lates : List (ℕ × List ℕ)) (b : Board) (air : List Datagram) (told : HandedOut)
      → qs ≡ ps → AreSendable queued → AreRight sent (replies b) fresh
      → Holds first window sent queue ps (record { fates = fates; lates = lates }) b air told
      → Holds first window sent queued qs (record { fates = fresh; lates = lates }) b air told
  same_places first window sent queue queued ps qs fates fresh lates b air told same can right is = subst
      (λ (xs : List ℕ). Holds first window sent queued xs (record { fates = fresh; lates = lates }) b air told)
      (sym same)
      (record {
        hub = is.hub;
        sent_bodies = is.sent_bodies;
        queued_bodies = can;
        log = is.log;
        node = is.node;
        said = is.said;
        waiting_fates = right;
        told_fates = is.told_fates;
        waiting_lates = is.waiting_lates;
        told_lates = is.told_lates;
      })

  pub offer_holds : (w : World) (o : Offered) → IsSendable o.body → IsSound w → IsSound (with_hub w (offer w.hub o))
  offer_holds w o can is = same_places _ _ _ _ _ _ _ _ _ _ _ _ _
      (either (λ (os : List OpenPlace). places os ≡ places w.hub.open_places) w.hub.gave_up _ _
      (λ _. places_map want_control w.hub.open_places (λ _. refl)) (λ _. refl))
      (AllByRecursion-append _ w.hub.queue (o ∷ []) is.queued_bodies (can, tt))
      is.waiting_fates is

  pub quiet_holds : (w : World) → IsSound w → IsSound (with_hub w (hear_quiet w.hub))
  quiet_holds w is = either (λ (h : Hub). IsSound (with_hub w h)) (nat_lt w.hub.status_requests w.hub.rounds)
      (want_status w.hub) (give_up w.hub)
      (λ _. same_places _ _ _ _ _ _ _ _ _ _ _ _ _ refl is.queued_bodies is.waiting_fates is)
      (λ _. same_places _ _ _ _ _ _ _ _ _ _ _ _ _ (places_map abandoned_place w.hub.open_places (λ _. refl)) tt
      (AllByRecursion-append _ _ _ (all_timed_out (IsRightFate w.hub.sent (replies w.board))
      (least (places w.hub.open_places) (length w.hub.sent + 1)) w.hub.rounds w.hub.sent w.hub.open_places
      w.hub.fates (tagged w.hub.sent) is.hub.from_one is.hub.rising is.waiting_fates)
      (all_unsent (IsRightFate w.hub.sent (replies w.board)) w.hub.queue (λ _. tt))) is)

  recovered_holds : (w : World) (e : Option ℕ) → IsSound w → IsSound (with_hub w (after_recovery w.hub e))
  recovered_holds w None is = is
  recovered_holds w (Some e) is = same_places _ _ _ _ _ _ _ _ _ _ _ _ _
      (places_map (recover e) w.hub.open_places (recover_place e)) is.queued_bodies is.waiting_fates is

  pub status_holds : (w : World) (next : ℕ) → IsSound w → IsSound (with_hub w (hear_status w.hub next))
  status_holds w next is = either (λ (h : Hub). IsSound (with_hub w h)) (nat_lt 0 w.hub.status_requests) _ _
      (λ _. recovered_holds w (told_place w.hub next) is) (λ _. is)

  -- ---- a reply

  settled_holds : (w : World) (id : ℕ) (words : List ℕ) (o : OpenPlace) (birth : ℕ) → IsSound w
      → IsFound w.hub.first id w.hub.open_places o
      → length w.hub.sent - birth ≤ LIFETIME → IsReplyOf w.hub.first (replies w.board) birth id words
      → IsSound (with_hub w (settle w.hub words (Some o)))
  settled_holds w id words o birth is found alive said =
      let len = length-map w.hub.sent offered_body in
      let few = at_within (replies w.board) said.place words said.at in
      let one = at_from_one (replies w.board) said.place words said.at in
      let same_log = replies_length below w.board in
      let all = bodies_of w.hub.sent in
      let ps = places w.hub.open_places in
      let sent = length w.hub.sent in
      let from = has_from o.place (least ps (sent + 1)) (sent + 1) ps is.hub.rising found.there in
      let under = has_below o.place (least ps (sent + 1)) (sent + 1) ps is.hub.rising found.there in
      let front : length (bodies_executed w.board) ≤ sent = omega (arith, front_length (bodies_executed w.board) all is.log.front) in
      let same : o.place ≡ said.place =
      one_place w.hub.first o.place said.place is.node.identifier (omega (arith, is.hub.from_one)) one
      (omega (arith, said.recent)) (omega (arith, is.hub.within, is.hub.few)) (found.named ∙ said.identifier) in
      let right : at_place (replies w.board) o.place ≡ Some words = rw same said.at in
      let gone = places_without o.place w.hub.open_places in
      let tag = tag_of (at_place w.hub.sent o.place) in
      let new : IsRightFate w.hub.sent (replies w.board) (tag, Replied o.place words) =
      (tagged w.hub.sent o.place (omega (arith, is.hub.from_one)) (omega arith), right) in
      record {
        hub = rw gone (window_less _ _ o.place ps is.hub);
        sent_bodies = is.sent_bodies;
        queued_bodies = is.queued_bodies;
        log = rw gone (executed_less all (bodies_executed w.board) ps o.place is.log (omega arith));
        node = is.node;
        said = is.said;
        waiting_fates = either (AreRight w.hub.sent (replies w.board)) o.waited _ _
            (λ _. all_inserted (IsRightFate w.hub.sent (replies w.board)) o.place
            (tag, Replied o.place words) w.hub.fates new is.waiting_fates)
            (λ _. is.waiting_fates);
        told_fates = is.told_fates;
        waiting_lates = either (AreLateReplies (replies w.board)) o.waited _ _
            (λ _. is.waiting_lates)
            (λ _. all_late (IsLateReply (replies w.board)) (o.place, words) w.hub.lates right is.waiting_lates);
        told_lates = is.told_lates;
      }

  settle_holds : (w : World) (id : ℕ) (words : List ℕ) (r : Option OpenPlace) (birth : ℕ) → IsSound w
      → IsFoundOr w.hub.first id w.hub.open_places r
      → length w.hub.sent - birth ≤ LIFETIME → IsReplyOf w.hub.first (replies w.board) birth id words
      → IsSound (with_hub w (settle w.hub words r))
  settle_holds w id words None birth is found alive said = is
  settle_holds w id words (Some o) birth is found alive said = settled_holds w id words o birth is found alive said

  pub reply_holds : (w : World) (id : ℕ) (words : List ℕ) (birth : ℕ) → IsSound w
      → length w.hub.sent - birth ≤ LIFETIME → IsReplyOf w.hub.first (replies w.board) birth id words
      → IsSound (with_hub w (hear_reply w.hub id words))
  reply_holds w id words birth is alive said =
      settle_holds w id words (open_with w.hub.first id w.hub.open_places) birth is
      (open_found w.hub.first id w.hub.open_places) alive said

  -- ---- sends

  abbrev pub IsSendSound : World → Option Next → Type 0
  IsSendSound w None = Unit {0}
  IsSendSound w (Some next) = IsSound (sent_into w next)

  joined : (first : ℕ) (all answers : List (List ℕ)) (air : List Datagram) (d : Datagram)
      → AllByRecursion (IsDatagram first all answers) air → IsDatagram first all answers d
      → AllByRecursion (IsDatagram first all answers) (air ++ d ∷ [])
  joined first all answers air d is new = AllByRecursion-append _ air (d ∷ []) is (new, tt)

  -- the bytes of the control packet of a place that was sent
  control_said : (first : ℕ) (sent : List Offered) (birth place id : ℕ) (o : Offered) → IsSendable o.body
      → at_place sent place ≡ Some o → id ≡ identifier_at first place → place ≤ birth → birth < place + MOST_OPEN
      → IsSaidToBoard first (bodies_of sent) birth (to_board
      (packet_bytes (control_packet Big id (words_of (at_place sent place)))))
  control_said first sent birth place id o can at named sent_by recent =
      let body : words_of (at_place sent place) ≡ o.body = ap words_of at in
      let fits : id < 2 ^ 16 = omega (arith, named, id_fits first place) in
      let said : IsControlOf first (bodies_of sent) birth id o.body =
      record {
        place = place;
        at = at_map offered_body sent place o at;
        identifier = named;
        sent = sent_by;
        recent = recent;
      } in
      subst (λ (words : List ℕ). IsSaidToBoard first (bodies_of sent) birth
      (to_board (packet_bytes (control_packet Big id words)))) (sym body)
      (subst (IsSaidToBoard first (bodies_of sent) birth) (sym (control_read below.packets.back Big id o.body fits can)) said)

  -- what can be sent at a place
  pub sendable_at : (sent : List Offered) (place : ℕ) (o : Offered) → AreSendable sent → at_place sent place ≡ Some o
      → IsSendable o.body
  sendable_at sent zero o all at = absurd (cc)
  sendable_at sent (suc k) o all at = all_get (λ (x : Offered). IsSendable x.body) sent k o all at

  wish_said : (w : World) (s : Sending) → IsSound w → IsWish w.hub.first (places w.hub.open_places) s
      → IsSaidToBoard w.hub.first (bodies_of w.hub.sent) (length w.hub.sent) (to_board (bytes_to_send w.hub s))
  wish_said w sends.Status is wish = subst (IsSaidToBoard w.hub.first (bodies_of w.hub.sent) (length w.hub.sent))
      (sym (request_read below.packets.back)) tt
  wish_said w (sends.Resend id) is wish = subst (IsSaidToBoard w.hub.first (bodies_of w.hub.sent) (length w.hub.sent))
      (sym (resend_read below.packets.back id (named_fits w.hub.first (places w.hub.open_places) id wish))) tt
  wish_said w (sends.Control place id) is wish =
      let ps = places w.hub.open_places in
      let sent = length w.hub.sent in
      let from = has_from place (least ps (sent + 1)) (sent + 1) ps is.hub.rising wish.0 in
      let under = has_below place (least ps (sent + 1)) (sent + 1) ps is.hub.rising wish.0 in
      let x = at_exists w.hub.sent place (omega (arith, is.hub.from_one)) (omega arith) in
      control_said w.hub.first w.hub.sent (length w.hub.sent) place id x.0
      (sendable_at w.hub.sent place x.0 is.sent_bodies x.1) x.1 wish.1 (omega arith)
      (omega (arith, is.hub.within, is.hub.few))

  first_holds : (w : World) (o : Offered) (later : List Offered) → IsSound w → IsSendable o.body → AreSendable later
      → length w.hub.sent + 1 + 1 ≤ w.hub.window + least (places w.hub.open_places) (length w.hub.sent + 1)
      → Holds w.hub.first w.hub.window (w.hub.sent ++ o ∷ []) later
      (places (w.hub.open_places ++ opened_place (length w.hub.sent + 1) ∷ [])) (to_hand_out w.hub) w.board
      (w.air ++ record {
        direction = goes.ToBoard;
        bytes =
            packet_bytes (control_packet Big (identifier_at w.hub.first (length w.hub.sent + 1))
            (words_of (at_place (w.hub.sent ++ o ∷ []) (length w.hub.sent + 1))));
        birth = length (w.hub.sent ++ o ∷ []);
      } ∷ []) (told_in w)
  first_holds w o later is can rest room =
      let ps = places w.hub.open_places in
      let sent = length w.hub.sent in
      let all = bodies_of w.hub.sent in
      let len = length-map w.hub.sent offered_body in
      let more = map-append offered_body w.hub.sent (o ∷ []) in
      let longer = length-append w.hub.sent (o ∷ []) in
      let pushed = map-append place_of w.hub.open_places (opened_place (sent + 1) ∷ []) in
      let here = at_seam w.hub.sent [] o in
      let grown : AllByRecursion (IsDatagram w.hub.first (all ++ o.body ∷ []) (replies w.board)) w.air =
      subst (λ (rs : List (List ℕ)). AllByRecursion (IsDatagram w.hub.first (all ++ o.body ∷ []) rs) w.air)
      (append-nil (replies w.board)) (air_grows below w.hub.first all (o.body ∷ [])
      (replies w.board) [] w.air is.said) in
      let right : (fates : List (ℕ × Fate)) → AreRight w.hub.sent (replies w.board) fates
      → AreRight (w.hub.sent ++ o ∷ []) (replies w.board) fates =
      λ fates h. subst (λ (rs : List (List ℕ)). AreRight (w.hub.sent ++ o ∷ []) rs fates)
      (append-nil (replies w.board)) (fates_grow below w.hub.sent (o ∷ []) (replies w.board) [] fates h) in
      record {
        hub = rw (pushed, longer) (window_push _ sent ps is.hub (omega arith));
        sent_bodies = AllByRecursion-append _ w.hub.sent (o ∷ []) is.sent_bodies (can, tt);
        queued_bodies = rest;
        log = rw (pushed, more) (subst (λ (n : ℕ). IsExecuted (all ++ o.body ∷ []) (bodies_executed w.board)
            (ps ++ (n + 1) ∷ [])) len (executed_push all (bodies_executed w.board) ps o.body is.log));
        node = is.node;
        said = joined _ _ _ w.air _ (rw more grown) (record {
          born = omega (arith, length-map (w.hub.sent ++ o ∷ []) offered_body);
          said = control_said w.hub.first (w.hub.sent ++ o ∷ []) (length (w.hub.sent ++ o ∷ []))
              (sent + 1) _ o can here refl (omega arith) (omega arith);
        });
        waiting_fates = right w.hub.fates is.waiting_fates;
        told_fates = right w.fates is.told_fates;
        waiting_lates = is.waiting_lates;
        told_lates = is.told_lates;
      }

  first_send_holds : (w : World) (queue : List Offered) → IsSound w → AreSendable queue
      → IsSendSound w (first_send w.hub queue)
  first_send_holds w [] is all = tt
  first_send_holds w (o ∷ later) is all = either (IsSendSound w)
      (nat_le (length w.hub.sent + 1 + 1) (w.hub.window + low w.hub)) _ _
      (λ e. first_holds w o later is all.0 all.1 (let r = leb-true _ _ e in omega arith))
      (λ _. tt)

  wanted_holds : (w : World) (r : Option Wanted) → IsSound w → IsWantedOr w.hub.first w.hub.open_places r
      → IsSendSound w (wanted_or_first w.hub r)
  wanted_holds w None is want = first_send_holds w w.hub.queue is is.queued_bodies
  wanted_holds w (Some x) is want =
      let len = length-map w.hub.sent offered_body in
      same_places _ _ _ _ _ _ _ _ _ _ _ _ _ want.same is.queued_bodies is.waiting_fates (record {
        hub = is.hub;
        sent_bodies = is.sent_bodies;
        queued_bodies = is.queued_bodies;
        log = is.log;
        node = is.node;
        said = joined _ _ _ w.air _ is.said (record { born = omega arith; said = wish_said w x.send is want.wish });
        waiting_fates = is.waiting_fates;
        told_fates = is.told_fates;
        waiting_lates = is.waiting_lates;
        told_lates = is.told_lates;
      })

  pub send_holds : (w : World) → IsSound w → IsSendSound w (next_send w.hub)
  send_holds w is = either (IsSendSound w) w.hub.status_wanted _ _
      (λ _. record {
        hub = is.hub;
        sent_bodies = is.sent_bodies;
        queued_bodies = is.queued_bodies;
        log = is.log;
        node = is.node;
        said = joined _ _ _ w.air _ is.said (record {
          born = omega (arith, length-map w.hub.sent offered_body);
          said = wish_said w sends.Status is tt;
        });
        waiting_fates = is.waiting_fates;
        told_fates = is.told_fates;
        waiting_lates = is.waiting_lates;
        told_lates = is.told_lates;
      })
      (λ _. wanted_holds w (first_wanted w.hub.first w.hub.open_places) is (wanted_is w.hub.first w.hub.open_places))
