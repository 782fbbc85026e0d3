-- What a run sends: the first sends, by place, and nothing but status requests and what was sent before.
use Rattle.std.proofs.Common.{◌≡◌, ℕ, zero, suc, ◌+◌, ◌≤◌, ◌==◌, true, false, cond, List, [], ◌∷◌, ◌++◌}
use Rattle.std.proofs.Common.{Bool, length, length-append, Option, Some, None, refl, sym, ap, ◌∙◌, subst, inl, inr, arith, append_assoc, rules}
use Rattle.std.specs.Prelude.{IfSome, if◌then◌else◌, nat_le}
use Rattle.std.specs.List.{AllByRecursion, slice_get}
use Rattle.std.proofs.lemmas.Bool.{eq-eqb}
use Rattle.std.proofs.lemmas.Bool.Decides.{eqb_tells}
use Rattle.std.proofs.lemmas.List.{append-nil, length_push}
use Rattle.ipb_base.specs.Lists.{IsPrefix}
use Rattle.ipb_base.proofs.AllLemmas.{AllByRecursion-append}
use Rattle.packet_ids.specs.Identifier.{identifier_at}
use Rattle.packet_codec.specs.declared.packet.Order.TheVariants.{Big}
use Rattle.packet_codec.specs.Packet.{packet_bytes}
use Rattle.status_packet.specs.Packets.{resend_request, status_request}
use Rattle.world_model.specs.declared.datagram.Direction.TheVariants.{ToBoard}
use Rattle.world_model.specs.declared.offered.Offered.{Offered}
use Rattle.world_model.specs.declared.offered.OpenPlace.{OpenPlace}
use Rattle.world_model.specs.declared.sending.Sending.{Sending}
use Rattle.world_model.specs.declared.sending.Sending.TheVariants as sends
use Rattle.world_model.specs.Below.{ReadsBack}
use Rattle.world_model.specs.Places.{at_place}
use Rattle.world_model.specs.Messages.{control_packet, to_board, to_hub}
use Rattle.world_model.specs.Hub.{Hub, least, low, new_hub, places, words_of}
use Rattle.world_model.specs.declared.offered.Fate.{Fate}
use Rattle.world_model.specs.Sends.{Next, Wanted, after_open, bytes_to_send, first_send, first_wanted, next_send}
use Rattle.world_model.specs.Sends.{wanted_or_first}
use Rattle.world_model.specs.Facts.{AreSendable, IsSendable, has}
use Rattle.world_model.specs.Links.{is_first_message, is_first_send}
use Rattle.world_model.proofs.Flushing.{message_cases, quiet_cases, send_cases}
use Rattle.world_model.proofs.Hubs.{IsWantedOr, IsWish, named_fits, wanted_is}
use Rattle.world_model.proofs.Lists.{all_get, at_exists, at_front, at_seam, either}
use Rattle.world_model.proofs.Places.{has_below, has_from, id_fits, one_place}
use Rattle.world_model.proofs.Readings.{control_read, is_control_packet, request_read, resend_read}
use Rattle.reliable_engine.specs.Answers.{hub_next}
use Rattle.reliable_engine.specs.MachineRuns.{RunEvent, Offer, Send, Heard, Quiet, engine_events, offers_in, passed_in}
use Rattle.reliable_engine.specs.MachineRuns.{IsFreshRun, IsMachineRun, passed_next, run_event, run_events, traffic_of}
use Rattle.reliable_engine.specs.Traffic as passed
use Rattle.reliable_engine.specs.Traffic.{Got, IfSent, IsPacketOf, IsResendOf, IsSendWith, Passed, SpellPacket, Sent}
use Rattle.reliable_engine.specs.Traffic.{asks_status, first_sends_in, packet_at, packets_from, quiet_receives}
use Rattle.reliable_engine.specs.Traffic.{status_requests_in}
use Rattle.reliable_engine.proofs.MachineRuns.{IsAtWork, begins_at_work, first_stays, offers_cons, run_is, stays_at_work, works_on}
use Rattle.reliable_engine.proofs.Places.{open_sent}
use Rattle.reliable_engine.proofs.Runs.{keeps_bodies}

-- ---- packets by place

packets_push : (first place : ℕ) (xs : List Offered) (x : Offered) (last : ℕ) → last ≡ place + length xs
    → packets_from first place (xs ++ x ∷ []) ≡ packets_from first place xs ++ packet_bytes (packet_at first last x) ∷ []
packets_push first place [] x last e =
    let same : last ≡ place = omega arith in
    ap (λ (p : ℕ). packet_bytes (packet_at first p x) ∷ []) (sym same)
packets_push first place (y ∷ xs) x last e =
    ap (λ (ps : List (List ℕ)). packet_bytes (packet_at first place y) ∷ ps)
    (packets_push first (place + 1) xs x last (omega arith))

packets_get : (first place : ℕ) (xs : List Offered) (k : ℕ) (x : Offered) (at : ℕ) → at ≡ place + k
    → slice_get xs k ≡ Some x → slice_get (packets_from first place xs) k ≡ Some (packet_bytes (packet_at first at x))
packets_get first place [] k x at same e = absurd (cc)
packets_get first place (y ∷ xs) zero x at same e =
    let here : y ≡ x = cc in
    let number : place ≡ at = omega arith in
    ap (λ (o : Offered). Some (packet_bytes (packet_at first place o))) here
    ∙ ap (λ (p : ℕ). Some (packet_bytes (packet_at first p x))) number
packets_get first place (y ∷ xs) (suc k) x at same e = packets_get first (place + 1) xs k x at (omega arith) e

pub packets_at : (first : ℕ) (xs : List Offered) (place : ℕ) (x : Offered) → at_place xs place ≡ Some x
    → at_place (packets_from first 1 xs) place ≡ Some (packet_bytes (packet_at first place x))
packets_at first xs zero x e = absurd (cc)
packets_at first xs (suc k) x e = packets_get first 1 xs k x (suc k) (omega arith) e

pub packets_count : (first place : ℕ) (xs : List Offered) → length (packets_from first place xs) ≡ length xs
packets_count first place [] = refl
packets_count first place (x ∷ xs) = ap suc (packets_count first (place + 1) xs)

-- ---- what one send is

sent_sendable : (sent : List Offered) (place : ℕ) (o : Offered) → AreSendable sent → at_place sent place ≡ Some o
    → IsSendable o.body
sent_sendable sent zero o all e = absurd (cc)
sent_sendable sent (suc k) o all e = all_get (λ (x : Offered). IsSendable x.body) sent k o all e

open_bytes : (h : Hub) (os : List OpenPlace) (s : Sending)
    → bytes_to_send (record h { open_places = os }) s ≡ bytes_to_send h s
open_bytes h os sends.Status = refl
open_bytes h os (sends.Resend id) = refl
open_bytes h os (sends.Control place id) = refl

-- what a hub sends that is no first send
wish_with : (h : Hub) (s : Sending) → IsAtWork h → IsWish h.first (places h.open_places) s
    → IsSendWith h.first h.sent (bytes_to_send h s)
wish_with h sends.Status is wish = inl refl
wish_with h (sends.Resend id) is wish =
    let at = open_sent h.window (length h.sent) wish.place (places h.open_places) is.window wish.there in
    inr (inl (record {
      place = wish.place;
      from_one = at.0;
      up_to_last = at.1;
      bytes_are = ap (λ (k : ℕ). packet_bytes (resend_request k)) (sym wish.identifier);
    }))
wish_with h (sends.Control place id) is wish =
    let at = open_sent h.window (length h.sent) place (places h.open_places) is.window wish.0 in
    let x = at_exists h.sent place at.0 at.1 in
    inr (inr (record {
      place = place;
      offered = x.0;
      there = x.1;
      bytes_are = ap (λ (o : Option Offered). packet_bytes (control_packet Big id (words_of o))) x.1
          ∙ ap (λ (k : ℕ). packet_bytes (control_packet Big k x.0.body)) wish.1;
    }))

-- the body that is sent first
first_bytes : (h : Hub) (x : Offered) (id : ℕ) → packet_bytes (control_packet Big id
    (words_of (at_place (h.sent ++ x ∷ []) (length h.sent + 1)))) ≡ packet_bytes (control_packet Big id x.body)
first_bytes h x id =
    ap (λ (o : Option Offered). packet_bytes (control_packet Big id (words_of o))) (at_seam h.sent [] x)

abbrev pub IsRightSend : Hub → Next → Type 0
IsRightSend h n = IsSendWith h.first n.hub.sent (bytes_to_send n.hub n.send)

send_with : (h : Hub) → IsAtWork h → IfSome (next_send h) (IsRightSend h)
send_with h is = send_cases (IsRightSend h) h (inl refl)
    (λ w e.
    let wanted = subst (IsWantedOr h.first h.open_places) e (wanted_is h.first h.open_places) in
    subst (IsSendWith h.first h.sent) (sym (open_bytes h w.open_places w.send)) (wish_with h w.send is wanted.wish))
    (λ x later e room. inr (inr (record {
      place = length h.sent + 1;
      offered = x;
      there = at_seam h.sent [] x;
      bytes_are = first_bytes h x (identifier_at h.first (length h.sent + 1));
    })))

-- with more bodies sent it is still such a send
with_more : (first : ℕ) (sent more : List Offered) (bytes : List ℕ) → IsPrefix sent more → IsSendWith first sent bytes
    → IsSendWith first more bytes
with_more first sent more bytes front (inl status) = inl status
with_more first sent more bytes front (inr (inl is)) = inr (inl (record {
  place = is.place;
  from_one = is.from_one;
  up_to_last = omega (arith, is.up_to_last, ap length front.1, length-append sent front.0);
  bytes_are = is.bytes_are;
}))
with_more first sent more bytes front (inr (inr is)) = inr (inr (record {
  place = is.place;
  offered = is.offered;
  there = subst (λ (xs : List Offered). at_place xs is.place ≡ Some is.offered) (sym front.1)
      (at_front sent front.0 is.place is.offered is.there);
  bytes_are = is.bytes_are;
}))

later_bodies : (h : Hub) (events : List RunEvent) → IsPrefix h.sent (run_events h events).sent
later_bodies h events =
    subst (λ (x : Hub). IsPrefix h.sent x.sent) (sym (run_is h events)) (keeps_bodies h (engine_events events))

-- each send of a run, of the bodies that it sent in the end
abbrev pub AreSends : ℕ → List Offered → List Passed → Type 0
AreSends first sent traffic = AllByRecursion (IfSent (IsSendWith first sent)) traffic

next_right : (h : Hub) (r : Option Next) (end : List Offered) → IfSome r (IsRightSend h) → IsPrefix (hub_next h r).sent end
    → AreSends h.first end (passed_next r)
next_right h None end is front = tt
next_right h (Some n) end is front = (with_more h.first n.hub.sent end _ front is, tt)

event_sends : (h : Hub) (event : RunEvent) (end : List Offered) → IsAtWork h → IsPrefix (run_event h event).sent end
    → AreSends h.first end (passed_in h event)
event_sends h (Offer tag body) end is front = tt
event_sends h Send end is front = next_right h (next_send h) end (send_with h is) front
event_sends h (Heard bytes) end is front = (tt, tt)
event_sends h Quiet end is front = (tt, tt)

pub all_sends : (h : Hub) (events : List RunEvent) → IsAtWork h → AreSendable (offers_in events)
    → AreSends h.first (run_events h events).sent (traffic_of h events)
all_sends h [] is can = tt
all_sends h (event ∷ events) is can =
    let after = run_event h event in
    let parts = offers_cons event events can in
    let end = (run_events after events).sent in
    AllByRecursion-append (IfSent (IsSendWith h.first end)) (passed_in h event) (traffic_of after events)
    (event_sends h event end is (later_bodies after events))
    (subst (λ (first : ℕ). AreSends first end (traffic_of after events)) (first_stays h (event ∷ []))
    (all_sends after events (works_on h event parts.0 is) parts.1))

-- a send is one of those before, or the first send of the next place
pub data IsSendStep (h : Hub) (n : Next) : Type 0 where
  again : is_first_send h.first (length h.sent) ToBoard (bytes_to_send n.hub n.send) ≡ false
      → n.hub.sent ≡ h.sent → n.hub.first ≡ h.first → IsSendStep h n
  sent_first : (x : Offered) → is_first_send h.first (length h.sent) ToBoard (bytes_to_send n.hub n.send) ≡ true
      → n.hub.sent ≡ h.sent ++ x ∷ [] → n.hub.first ≡ h.first
      → bytes_to_send n.hub n.send ≡ packet_bytes (packet_at h.first (length h.sent + 1) x) → IsSendStep h n

module _ (back : ReadsBack) where
  -- ---- which sends are first sends

  -- a control packet that is sent again is no first send: its place is near the next one and is not it
  not_next : (h : Hub) (place : ℕ) → IsAtWork h → has place (places h.open_places) ≡ true
      → (identifier_at h.first place == identifier_at h.first (length h.sent + 1)) ≡ false
  not_next h place is there =
      let ps = places h.open_places in
      let sent = length h.sent in
      let from = has_from place (least ps (sent + 1)) (sent + 1) ps is.window.rising there in
      let under = has_below place (least ps (sent + 1)) (sent + 1) ps is.window.rising there in
      elim (eqb_tells (identifier_at h.first place) (identifier_at h.first (sent + 1))) [
        | inl same ↦ absurd (let e = one_place h.first place (sent + 1) is.identifier
            (omega (arith, is.window.from_one)) (omega arith) (omega arith)
            (omega (arith, is.window.within, is.window.few)) same.1 in omega arith)
        | inr other ↦ other.0
      ]

  wish_again : (h : Hub) (s : Sending) → IsAtWork h → IsWish h.first (places h.open_places) s
      → is_first_send h.first (length h.sent) ToBoard (bytes_to_send h s) ≡ false
  wish_again h sends.Status is wish = ap (is_first_message h.first (length h.sent)) (request_read back)
  wish_again h (sends.Resend id) is wish = ap (is_first_message h.first (length h.sent))
      (resend_read back id (named_fits h.first (places h.open_places) id wish))
  wish_again h (sends.Control place id) is wish =
      let at = open_sent h.window (length h.sent) place (places h.open_places) is.window wish.0 in
      let x = at_exists h.sent place at.0 at.1 in
      let can : IsSendable (words_of (at_place h.sent place)) =
      subst IsSendable (sym (ap words_of x.1)) (sent_sendable h.sent place x.0 is.sendable.0 x.1) in
      ap (is_first_message h.first (length h.sent))
      (control_read back Big id (words_of (at_place h.sent place)) (omega (arith, wish.1, id_fits h.first place)) can)
      ∙ (ap (λ (k : ℕ). k == identifier_at h.first (length h.sent + 1)) wish.1 ∙ not_next h place is wish.0)

  send_step : (h : Hub) → IsAtWork h → IfSome (next_send h) (IsSendStep h)
  send_step h is = send_cases (IsSendStep h) h
      (again (wish_again h sends.Status is tt) refl refl)
      (λ w e.
      let wanted = subst (IsWantedOr h.first h.open_places) e (wanted_is h.first h.open_places) in
      again (ap (is_first_send h.first (length h.sent) ToBoard) (open_bytes h w.open_places w.send)
      ∙ wish_again h w.send is wanted.wish) refl refl)
      (λ x later e room.
      let id = identifier_at h.first (length h.sent + 1) in
      let all : AreSendable (x ∷ later) = subst AreSendable e is.sendable.1 in
      let read = ap (is_first_message h.first (length h.sent))
      (control_read back Big id x.body (id_fits h.first (length h.sent + 1)) all.0) in
      sent_first x
      (ap (is_first_send h.first (length h.sent) ToBoard) (first_bytes h x id) ∙ (read ∙ eq-eqb id id refl))
      refl refl (first_bytes h x id))

  -- ---- the first sends of a run

  -- the packets of the bodies that were sent, and the first sends of what passes later
  abbrev pub FirstSends : ℕ → List Offered → List Passed → List (List ℕ)
  FirstSends first sent later = packets_from first 1 sent ++ first_sends_in first (length sent) later

  same_sends : (h h2 : Hub) (later : List Passed) → h2.first ≡ h.first → h2.sent ≡ h.sent
      → FirstSends h.first h.sent later ≡ FirstSends h2.first h2.sent later
  same_sends h h2 later f s =
      ap (λ (k : ℕ). FirstSends k h.sent later) (sym f)
      ∙ ap (λ (xs : List Offered). FirstSends h2.first xs later) (sym s)

  step_sends : (h : Hub) (n : Next) (later : List Passed) → IsSendStep h n
      → FirstSends h.first h.sent (Sent (bytes_to_send n.hub n.send) ∷ later) ≡ FirstSends n.hub.first n.hub.sent later
  step_sends h n later (again no_first s f) =
      let bytes = bytes_to_send n.hub n.send in
      let count = length h.sent in
      ap (λ (b : Bool). packets_from h.first 1 h.sent ++ cond b (bytes ∷ first_sends_in h.first (count + 1) later)
      (first_sends_in h.first count later)) no_first
      ∙ same_sends h n.hub later f s
  step_sends h n later (sent_first x is_first s f b) =
      let bytes = bytes_to_send n.hub n.send in
      let count = length h.sent in
      let longer : List Offered = h.sent ++ x ∷ [] in
      let packets = packets_from h.first 1 h.sent in
      let packet = packet_bytes (packet_at h.first (count + 1) x) in
      let pushed : packets_from h.first 1 longer ≡ packets ++ packet ∷ [] =
      packets_push h.first 1 h.sent x (count + 1) (omega arith) in
      let counted : length longer ≡ count + 1 = length_push h.sent x in
      let rest = first_sends_in h.first (count + 1) later in
      ap (λ (c : Bool). packets ++ cond c (bytes ∷ rest) (first_sends_in h.first count later)) is_first
      ∙ (ap (λ (z : List ℕ). packets ++ z ∷ rest) b
      ∙ (sym (append_assoc packets (packet ∷ []) rest)
      ∙ (ap (λ (ps : List (List ℕ)). ps ++ rest) (sym pushed)
      ∙ (ap (λ (k : ℕ). packets_from h.first 1 longer ++ first_sends_in h.first k later) (sym counted)
      ∙ (ap (λ (k : ℕ). FirstSends k longer later) (sym f)
      ∙ ap (λ (xs : List Offered). FirstSends n.hub.first xs later) (sym s))))))

  next_sends : (h : Hub) (r : Option Next) (later : List Passed) → IfSome r (IsSendStep h)
      → FirstSends h.first h.sent (passed_next r ++ later) ≡ FirstSends (hub_next h r).first (hub_next h r).sent later
  next_sends h None later is = refl
  next_sends h (Some n) later is = step_sends h n later is

  event_first : (h : Hub) (event : RunEvent) (later : List Passed) → IsAtWork h
      → FirstSends h.first h.sent (passed_in h event ++ later)
      ≡ FirstSends (run_event h event).first (run_event h event).sent later
  event_first h (Offer tag body) later is = refl
  event_first h Send later is = next_sends h (next_send h) later (send_step h is)
  event_first h (Heard bytes) later is =
      message_cases (λ (x : Hub). FirstSends h.first h.sent later ≡ FirstSends x.first x.sent later) h (to_hub bytes)
      refl (λ _. refl) (λ id words o e. refl)
  event_first h Quiet later is =
      quiet_cases (λ (x : Hub). FirstSends h.first h.sent later ≡ FirstSends x.first x.sent later) h
      (λ _. refl) (λ _. refl)

  run_first : (h : Hub) (events : List RunEvent) → IsAtWork h → AreSendable (offers_in events)
      → FirstSends h.first h.sent (traffic_of h events) ≡ packets_from h.first 1 (run_events h events).sent
  run_first h [] is can = append-nil (packets_from h.first 1 h.sent)
  run_first h (event ∷ events) is can =
      let after = run_event h event in
      let parts = offers_cons event events can in
      event_first h event (traffic_of after events) is
      ∙ (run_first after events (works_on h event parts.0 is) parts.1
      ∙ ap (λ (k : ℕ). packets_from k 1 (run_events after events).sent) (first_stays h (event ∷ [])))

  pub first_sends_are : (h : Hub) (events : List RunEvent) → IsAtWork h → h.sent ≡ [] → AreSendable (offers_in events)
      → first_sends_in h.first 0 (traffic_of h events) ≡ packets_from h.first 1 (run_events h events).sent
  first_sends_are h events is none can =
      subst (λ (xs : List Offered). FirstSends h.first xs (traffic_of h events)
      ≡ packets_from h.first 1 (run_events h events).sent) none (run_first h events is can)

  -- ---- each send is a packet

  spell : (first : ℕ) (sent : List Offered) (bytes : List ℕ) → AreSendable sent → IsSendWith first sent bytes
      → SpellPacket bytes
  spell first sent bytes can (inl is) = record {
    packet = status_request;
    is_packet = record { id = omega arith; body = search rules; length = omega arith; order = λ e. absurd (cc) };
    bytes_are = is;
  }
  spell first sent bytes can (inr (inl is)) = record {
    packet = resend_request (identifier_at first is.place);
    is_packet = record {
      id = id_fits first is.place;
      body = tt;
      length = omega arith;
      order = λ e. absurd (cc);
    };
    bytes_are = is.bytes_are;
  }
  spell first sent bytes can (inr (inr is)) = record {
    packet = packet_at first is.place is.offered;
    is_packet = is_control_packet back Big (identifier_at first is.place) is.offered.body (id_fits first is.place)
        (sent_sendable sent is.place is.offered can is.there);
    bytes_are = is.bytes_are;
  }

  spell_one : (first : ℕ) (sent : List Offered) (passed : Passed) → AreSendable sent
      → IfSent (IsSendWith first sent) passed → IfSent SpellPacket passed
  spell_one first sent (Sent bytes) can is = spell first sent bytes can is
  spell_one first sent (Got bytes) can is = tt
  spell_one first sent passed.Quiet can is = tt

  spell_all : (first : ℕ) (sent : List Offered) (traffic : List Passed) → AreSendable sent
      → AreSends first sent traffic → AllByRecursion (IfSent SpellPacket) traffic
  spell_all first sent [] can all = tt
  spell_all first sent (passed ∷ traffic) can all =
      (spell_one first sent passed can all.0, spell_all first sent traffic can all.1)

  pub all_spelled : (h : Hub) (events : List RunEvent) → IsAtWork h → AreSendable (offers_in events)
      → AllByRecursion (IfSent SpellPacket) (traffic_of h events)
  all_spelled h events is can =
      spell_all h.first (run_events h events).sent (traffic_of h events)
      (stays_at_work h events can is).sendable.0 (all_sends h events is can)

  -- ---- status requests

  -- it is sent for a place
  abbrev pub IsForPlace : Sending → Type 0
  IsForPlace sends.Status = ⊥
  IsForPlace (sends.Resend id) = Unit {0}
  IsForPlace (sends.Control place id) = Unit {0}

  abbrev pub WantedForPlace : Option Wanted → Type 0
  WantedForPlace r = IfSome r (λ (w : Wanted). IsForPlace w.send)

  for_place_later : (o : OpenPlace) (r : Option Wanted) → WantedForPlace r → WantedForPlace (after_open o r)
  for_place_later o None is = tt
  for_place_later o (Some w) is = is

  for_place : (first : ℕ) (os : List OpenPlace) → WantedForPlace (first_wanted first os)
  for_place first [] = tt
  for_place first (o ∷ os) = either WantedForPlace o.resend _ _ (λ _. tt)
      (λ _. either WantedForPlace o.control _ _ (λ _. tt) (λ _. for_place_later o _ (for_place first os)))

  -- it asks for no status
  wish_asks_none : (h : Hub) (s : Sending) → IsAtWork h → IsWish h.first (places h.open_places) s → IsForPlace s
      → asks_status (to_board (bytes_to_send h s)) ≡ false
  wish_asks_none h sends.Status is wish for = absurd for
  wish_asks_none h (sends.Resend id) is wish for =
      ap asks_status (resend_read back id (named_fits h.first (places h.open_places) id wish))
  wish_asks_none h (sends.Control place id) is wish for =
      let at = open_sent h.window (length h.sent) place (places h.open_places) is.window wish.0 in
      let x = at_exists h.sent place at.0 at.1 in
      let can : IsSendable (words_of (at_place h.sent place)) =
      subst IsSendable (sym (ap words_of x.1)) (sent_sendable h.sent place x.0 is.sendable.0 x.1) in
      ap asks_status
      (control_read back Big id (words_of (at_place h.sent place)) (omega (arith, wish.1, id_fits h.first place)) can)

  -- the status requests that are wanted, and those in one send
  abbrev pub wanted_in : Hub → ℕ
  wanted_in h = if h.status_wanted then 1 else 0

  abbrev pub asked_in : List ℕ → ℕ
  asked_in bytes = if asks_status (to_board bytes) then 1 else 0

  abbrev pub AsksAsWanted : Hub → Next → Type 0
  AsksAsWanted h n = asked_in (bytes_to_send n.hub n.send) + wanted_in n.hub ≤ wanted_in h

  asks_none : (h : Hub) (n : Next) → asks_status (to_board (bytes_to_send n.hub n.send)) ≡ false
      → n.hub.status_wanted ≡ h.status_wanted → AsksAsWanted h n
  asks_none h n none same = rw (none, same) (omega arith)

  first_asks : (h : Hub) (queue : List Offered) → AreSendable queue → IfSome (first_send h queue) (AsksAsWanted h)
  first_asks h [] all = tt
  first_asks h (x ∷ later) all =
      let id = identifier_at h.first (length h.sent + 1) in
      either (λ (r : Option Next). IfSome r (AsksAsWanted h)) (nat_le (length h.sent + 1 + 1) (h.window + low h)) _ _
      (λ _. rw (ap (λ (bytes : List ℕ). asks_status (to_board bytes)) (first_bytes h x id)
      ∙ ap asks_status (control_read back Big id x.body (id_fits h.first (length h.sent + 1)) all.0)) (omega arith))
      (λ _. tt)

  wanted_asks : (h : Hub) (r : Option Wanted) → IsAtWork h → IsWantedOr h.first h.open_places r → WantedForPlace r
      → IfSome (wanted_or_first h r) (AsksAsWanted h)
  wanted_asks h None is want for = first_asks h h.queue is.sendable.1
  wanted_asks h (Some w) is want for =
      asks_none h (record { send = w.send; hub = record h { open_places = w.open_places } })
      (ap (λ (bytes : List ℕ). asks_status (to_board bytes)) (open_bytes h w.open_places w.send)
      ∙ wish_asks_none h w.send is want.wish for) refl

  send_asks : (h : Hub) → IsAtWork h → IfSome (next_send h) (AsksAsWanted h)
  send_asks h is = either (λ (r : Option Next). IfSome r (AsksAsWanted h)) h.status_wanted _ _
      (λ e. rw (ap asks_status (request_read back), e) (omega arith))
      (λ _. wanted_asks h (first_wanted h.first h.open_places) is (wanted_is h.first h.open_places)
      (for_place h.first h.open_places))

  -- one event asks for no more than is wanted before it, and than is quiet in it
  abbrev pub AsksInEvent : Hub → List Passed → Hub → Type 0
  AsksInEvent h passing after =
      status_requests_in passing + wanted_in after ≤ wanted_in h + quiet_receives passing

  next_asks : (h : Hub) (r : Option Next) → IfSome r (AsksAsWanted h) → AsksInEvent h (passed_next r) (hub_next h r)
  next_asks h None is = omega arith
  next_asks h (Some n) is = omega (arith, is)

  bool_few : (b : Bool) → (if b then 1 else 0) ≤ 1
  bool_few true = omega arith
  bool_few false = omega arith

  event_asks : (h : Hub) (event : RunEvent) → IsAtWork h → AsksInEvent h (passed_in h event) (run_event h event)
  event_asks h (Offer tag body) is = omega arith
  event_asks h Send is = next_asks h (next_send h) (send_asks h is)
  event_asks h (Heard bytes) is =
      message_cases (λ (x : Hub). 0 + wanted_in x ≤ wanted_in h + 0) h (to_hub bytes) (omega arith)
      (λ _. omega arith) (λ id words o e. omega arith)
  event_asks h Quiet is =
      quiet_cases (λ (x : Hub). 0 + wanted_in x ≤ wanted_in h + 1) h (λ _. omega arith) (λ _. omega arith)

  requests_more : (front back : List Passed)
      → status_requests_in (front ++ back) ≡ status_requests_in front + status_requests_in back
  requests_more [] back = omega arith
  requests_more (Sent bytes ∷ front) back = omega (arith, requests_more front back)
  requests_more (Got bytes ∷ front) back = requests_more front back
  requests_more (passed.Quiet ∷ front) back = requests_more front back

  quiets_more : (front back : List Passed) → quiet_receives (front ++ back) ≡ quiet_receives front + quiet_receives back
  quiets_more [] back = omega arith
  quiets_more (Sent bytes ∷ front) back = quiets_more front back
  quiets_more (Got bytes ∷ front) back = quiets_more front back
  quiets_more (passed.Quiet ∷ front) back = omega (arith, quiets_more front back)

  pub requests_few : (h : Hub) (events : List RunEvent) → IsAtWork h → AreSendable (offers_in events)
      → status_requests_in (traffic_of h events) ≤ wanted_in h + quiet_receives (traffic_of h events)
  requests_few h [] is can = omega arith
  requests_few h (event ∷ events) is can =
      let after = run_event h event in
      let parts = offers_cons event events can in
      omega (
        arith,
        event_asks h event is,
        requests_few after events (works_on h event parts.0 is) parts.1,
        requests_more (passed_in h event) (traffic_of after events),
        quiets_more (passed_in h event) (traffic_of after events),
      )

  pub first_sends_of_run : (first window rounds : ℕ) (events : List RunEvent) (traffic : List Passed) (end : Hub)
      (fates : List (ℕ × Fate)) → IsFreshRun first window events
      → IsMachineRun (new_hub first window rounds) events traffic end fates
      → first_sends_in first 0 traffic ≡ packets_from first 1 end.sent
  first_sends_of_run first window rounds events traffic end fates fresh is =
      ap (λ (xs : List Passed). first_sends_in first 0 xs) (sym is.traffic_is)
      ∙ (first_sends_are (new_hub first window rounds) events (begins_at_work first window rounds events fresh) refl
      fresh.sendable
      ∙ ap (λ (x : Hub). packets_from first 1 x.sent) is.end_is)
