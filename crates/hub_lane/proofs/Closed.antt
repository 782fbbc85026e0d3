-- No reply of a place that is still open was handed out. Each call of a hub and of a link that tells keeps it so, but
-- for a receive that hands out a datagram which the hub does not hear, as where memory runs out.
use Rattle.std.proofs.Common.{◌≡◌, ℕ, zero, suc, ◌+◌, ◌<◌, true, List, [], ◌∷◌, ◌++◌, length}
use Rattle.std.proofs.Common.{length-append, inl, inr, Option, Some, refl, sym, ap, ◌∙◌, subst, arith}
use Rattle.std.specs.List.{Contains, slice_get}
use Rattle.std.proofs.lemmas.List.{append-nil, length-map}
use Rattle.std.proofs.lemmas.List.Elements.{Contains-append_cases}
use Rattle.packet_ids.specs.Identifier.{identifier_at}
use Rattle.world_model.specs.declared.datagram.Datagram.{Datagram}
use Rattle.world_model.specs.declared.offered.Offered.{Offered}
use Rattle.world_model.specs.declared.offered.OpenPlace.{OpenPlace}
use Rattle.world_model.specs.Messages.{Reply, ToHub, to_hub}
use Rattle.world_model.specs.Board.{Board, replies}
use Rattle.world_model.specs.Hub.{Hub, abandoned_place, after_handing_out, hear_quiet, new_hub, offer, places, take_message}
use Rattle.world_model.specs.Hub.{want_control}
use Rattle.world_model.specs.Sends.{Next, bytes_to_send, next_send}
use Rattle.world_model.specs.Facts.{IsDatagram, bodies_of, has, offered_body}
use Rattle.world_model.specs.Links.{IsJoined, Told}
use Rattle.world_model.proofs.Lists.{all_get, either, get_within}
use Rattle.world_model.proofs.Hubs.{places_map}
use Rattle.world_model.proofs.OpenPlaces.{message_opens_none, reply_closes, send_opens}
use Rattle.world_model.proofs.Flushing.{quiet_cases}
use Rattle.reliable_engine.specs.Answers.{IsOpen}
use Rattle.links.specs.Telling.{IsGot, IsQuiet, IsReceived, IsSent, Telling}
use Rattle.hub_lane.proofs.RoundHeard.{AirGrows, nothing_due}
use Rattle.hub_lane.specs.Standing.{AreInAir, NoneOpenHanded, WasHanded}
use Rattle.hub_lane.proofs.Standing.{SameBoard}

-- ---- what was handed out stands in the air

pub none_in_air : (t : Telling) → t.handed ≡ [] → AreInAir t
none_in_air t none = λ number there. absurd (nothing_due t.handed number none there)

in_longer_air : (t u : Telling) (more : List Datagram) (by_hub : List ℕ) → u.told.air ≡ t.told.air ++ more
    → u.handed ≡ t.handed ++ by_hub → ((number : ℕ) → Contains by_hub number → number < length u.told.air)
    → AreInAir t → AreInAir u
in_longer_air t u more by_hub air handed now_there before = λ number there.
    elim (Contains-append_cases t.handed by_hub number (subst (λ (xs : List ℕ). Contains xs number) handed there)) [
      | inl old ↦ (let few = before number old in
          omega (arith, few, ap length air, length-append t.told.air more))
      | inr new ↦ now_there number new
    ]

only : (x y : ℕ) → Contains (x ∷ []) y → y ≡ x
only x y (zero, few, is) = sym is
only x y (suc k, few, is) = absurd (omega (arith, few))

pub sent_in_air : (bytes : List ℕ) (before now : ℕ) (t u : Telling) → IsSent bytes before now t u → AreInAir t
    → AreInAir u
sent_in_air bytes before now t u sent = in_longer_air t u _ [] (ap (λ (told : Told). told.air) sent.told)
    (sent.handed ∙ sym (append-nil t.handed)) (λ number there. absurd (nothing_due [] number refl there))

pub unheard_in_air : AirGrows → (before now : ℕ) (t u : Telling) → IsReceived [] before now t u → AreInAir t
    → AreInAir u
unheard_in_air longer before now t u received =
    let more = longer t.told u.told received.by_board in
    in_longer_air t u more.0 [] more.1 received.handed (λ number there. absurd (nothing_due [] number refl there))

pub got_in_air : AirGrows → (bytes : List ℕ) (before now : ℕ) (t u : Telling) → IsGot bytes before now t u → AreInAir t
    → AreInAir u
got_in_air longer bytes before now t u got =
    let more = longer t.told u.told got.received.by_board in
    in_longer_air t u more.0 (got.place ∷ []) more.1 got.received.handed
    (λ number there. let within = get_within u.told.air got.place _ got.there.there in
    omega (arith, within, only got.place number there))

-- ---- what was handed out before

same_front : {A : Type 0} (xs ys : List A) (k : ℕ) → k < length xs → slice_get xs k ≡ slice_get (xs ++ ys) k
same_front [] ys k few = absurd (omega (arith, few))
same_front (x ∷ xs) ys zero few = refl
same_front (x ∷ xs) ys (suc k) few = same_front xs ys k (omega (arith, few))

handed_before : (t u : Telling) (more : List Datagram) → u.told.air ≡ t.told.air ++ more
    → u.told.board.first ≡ t.told.board.first → AreInAir t → (place : ℕ) (words : List ℕ) (is : WasHanded u place words)
    → Contains t.handed is.number → WasHanded t place words
handed_before t u more air first in_air place words is before = record {
  number = is.number;
  birth = is.birth;
  bytes = is.bytes;
  handed = before;
  there = same_front t.told.air more is.number (in_air is.number before)
      ∙ (ap (λ (datagrams : List Datagram). slice_get datagrams is.number) (sym air) ∙ is.there);
  reply = is.reply ∙ ap (λ (n : ℕ). Some (Reply (identifier_at n place) words)) first;
  sent = is.sent;
  recent = is.recent;
}

-- ---- a hub alone

-- a hub that has sent nothing
pub begins_closed : (first window rounds : ℕ) (t : Telling) → AreInAir t
    → NoneOpenHanded (new_hub first window rounds) t
begins_closed first window rounds t in_air =
    record { in_air = in_air; none = λ place words open_there is. absurd (cc) }

pub offered_closed : (hub : Hub) (offered : Offered) (t : Telling) → NoneOpenHanded hub t
    → NoneOpenHanded (offer hub offered) t
offered_closed hub offered t closed = record {
  in_air = closed.in_air;
  none = λ place words open_there. closed.none place words (either
      (λ (os : List OpenPlace). has place (places os) ≡ true → IsOpen hub place) hub.gave_up _ _
      (λ _ there. ap (has place) (sym (places_map want_control hub.open_places (λ o. refl))) ∙ there)
      (λ _ there. there) open_there);
}

pub handed_out_closed : (hub : Hub) (t : Telling) → NoneOpenHanded hub t → NoneOpenHanded (after_handing_out hub) t
handed_out_closed hub t closed = record { in_air = closed.in_air; none = closed.none }

-- ---- a send

-- a place that was not sent yet has no reply
unsent_place : (hub : Hub) (t : Telling) (place : ℕ) (words : List ℕ) → IsJoined hub t.told
    → place ≡ length hub.sent + 1 → WasHanded t place words → ⊥
unsent_place hub t place words joined new is =
    let all = bodies_of hub.sent in
    let datagram : IsDatagram hub.first all (replies t.told.board) _ =
    all_get (IsDatagram hub.first all (replies t.told.board)) t.told.air is.number _ joined.sound.said is.there in
    let born = datagram.born in
    let sent = is.sent in
    omega (arith, new, born, sent, length-map hub.sent offered_body)

-- one that the link refused
pub refused_closed : (hub : Hub) (next : Next) (t : Telling) → next_send hub ≡ Some next → IsJoined hub t.told
    → NoneOpenHanded hub t → NoneOpenHanded next.hub t
refused_closed hub next t e joined closed = record {
  in_air = closed.in_air;
  none = λ place words open_there is. elim (send_opens hub next e place open_there) [
    | inl old ↦ closed.none place words old is
    | inr new ↦ unsent_place hub t place words joined new is
  ];
}

pub sent_closed : (hub : Hub) (next : Next) (before now : ℕ) (t u : Telling) → next_send hub ≡ Some next
    → IsJoined hub t.told → IsSent (bytes_to_send next.hub next.send) before now t u
    → NoneOpenHanded hub t → NoneOpenHanded next.hub u
sent_closed hub next before now t u e joined sent closed = record {
  in_air = sent_in_air _ before now t u sent closed.in_air;
  none = λ place words open_there is. (refused_closed hub next t e joined closed).none place words open_there
      (handed_before t u _ (ap (λ (told : Told). told.air) sent.told)
      (ap (λ (told : Told). told.board.first) sent.told) closed.in_air place words is
      (subst (λ (numbers : List ℕ). Contains numbers is.number) sent.handed is.handed));
}

-- ---- a receive

same_bytes : (air : List Datagram) (a b : ℕ) (d e : Datagram) → a ≡ b → slice_get air a ≡ Some d
    → slice_get air b ≡ Some e → d.bytes ≡ e.bytes
same_bytes air a b d e same mine yours =
    let both : Some d ≡ Some e = sym mine ∙ (ap (slice_get air) same ∙ yours) in
    let equal : d ≡ e = cc in
    ap (λ (x : Datagram). x.bytes) equal

-- the reply that the hub hears now leaves its place closed
heard_now : (hub : Hub) (bytes : List ℕ) (before now : ℕ) (t u : Telling) → IsJoined hub u.told
    → (got : IsGot bytes before now t u) → (place : ℕ) (words : List ℕ) (is : WasHanded u place words)
    → is.number ≡ got.place → IsOpen (take_message hub (to_hub bytes)) place → ⊥
heard_now hub bytes before now t u joined got place words is this open_there =
    let same = same_bytes u.told.air is.number got.place _ _ this is.there got.there.there in
    let id = identifier_at u.told.board.first place in
    let said : to_hub bytes ≡ Some (Reply id words) = ap to_hub (sym same) ∙ is.reply in
    reply_closes hub id words place
    (record { identifier = joined.sound.node.identifier; window = joined.sound.hub })
    (ap (λ (n : ℕ). identifier_at n place) joined.sound.node.same_first)
    (subst (λ (message : Option ToHub). IsOpen (take_message hub message) place) said open_there)

module _ (longer : AirGrows) (board : SameBoard) where
  -- one that hands out nothing
  pub unheard_closed : (hub : Hub) (before now : ℕ) (t u : Telling) → IsReceived [] before now t u
      → NoneOpenHanded hub t → NoneOpenHanded hub u
  unheard_closed hub before now t u received closed =
      let more = longer t.told u.told received.by_board in
      record {
        in_air = unheard_in_air longer before now t u received closed.in_air;
        none = λ place words open_there is. closed.none place words open_there
            (handed_before t u more.0 more.1 (ap (λ (b : Board). b.first) (board t.told u.told received.by_board))
            closed.in_air place words is
            (subst (λ (numbers : List ℕ). Contains numbers is.number) (received.handed ∙ append-nil t.handed)
            is.handed));
      }

  pub quiet_closed : (hub : Hub) (before now : ℕ) (t u : Telling) → IsQuiet before now t u → NoneOpenHanded hub t
      → NoneOpenHanded (hear_quiet hub) u
  quiet_closed hub before now t u quiet closed =
      let kept = unheard_closed hub before now t u quiet.received closed in
      quiet_cases (λ (h : Hub). NoneOpenHanded h u) hub
      (λ _. record { in_air = kept.in_air; none = kept.none })
      (λ _. record {
        in_air = kept.in_air;
        none = λ place words there. kept.none place words
            (ap (has place) (sym (places_map abandoned_place hub.open_places (λ o. refl))) ∙ there);
      })

  -- one that hands out a datagram, which the hub hears
  pub got_closed : (hub : Hub) (bytes : List ℕ) (before now : ℕ) (t u : Telling) → IsJoined hub u.told
      → IsGot bytes before now t u → NoneOpenHanded hub t → NoneOpenHanded (take_message hub (to_hub bytes)) u
  got_closed hub bytes before now t u joined got closed = record {
    in_air = got_in_air longer bytes before now t u got closed.in_air;
    none = λ place words open_there is.
        let more = longer t.told u.told got.received.by_board in
        elim (Contains-append_cases t.handed (got.place ∷ []) is.number
        (subst (λ (numbers : List ℕ). Contains numbers is.number) got.received.handed is.handed)) [
          | inl old ↦ closed.none place words (message_opens_none hub (to_hub bytes) place open_there)
              (handed_before t u more.0 more.1 (ap (λ (b : Board). b.first)
              (board t.told u.told got.received.by_board)) closed.in_air place words is old)
          | inr new ↦ heard_now hub bytes before now t u joined got place words is (only got.place is.number new)
              open_there
        ];
  }
