-- What a pump does to a link that tells, call by call.
use Rattle.std.proofs.Common.{◌≡◌, ◌∙◌, ℕ, suc, List, [], ◌∷◌, ◌++◌, Option, Some, None, refl, sym, ap, subst}
use Rattle.world_model.specs.Hub.{Hub, after_handing_out}
use Rattle.world_model.specs.Links.{Told, sent_on}
use Rattle.world_model.specs.Sends.{Next, bytes_to_send, next_send}
use Rattle.reliable_engine.specs.Answers.{hub_next}
use Rattle.links.specs.Telling.{IfTelling, IsGot, IsQuiet, IsSent, Telling}
use Rattle.hub_lane.specs.declared.answers.Pumped.{Pumped}
use Rattle.hub_lane.specs.declared.answers.Pumped.TheVariants.{Reply, Status, Stray, Quiet, Idle, LinkDown}
use Rattle.hub_lane.specs.Sends.{after_sends, all_sent}
use Rattle.hub_lane.specs.Hearing.{IsEventAs, IsHeardAs, hub_after}
use Rattle.world_model.specs.Messages.{to_hub}
use Rattle.std.proofs.lemmas.List.{append-nil}
use Rattle.hub_lane.specs.Carrying.{Brings, Carries, HandsOut, HandsOutNothing, HasPut, Pumping, packet_of}
use Rattle.hub_lane.specs.Carrying.{packets, put_on}
use Rattle.hub_lane.proofs.Sends.{one_after}

-- ---- sends

pub put_none_by : (hub : Hub) (t : Telling) → HasPut hub hub t t
put_none_by hub t = record { count = 0; sends = refl; air = refl; handed = refl }

put_last : (told : Told) (first : List (List ℕ)) (bytes : List ℕ)
    → put_on told (first ++ bytes ∷ []) ≡ sent_on (put_on told first) bytes
put_last told [] bytes = refl
put_last told (one ∷ first) bytes = put_last (sent_on told one) first bytes

put_one : (begin old : Hub) (next : Next) (held now : ℕ) (s t u : Telling) → next_send old ≡ Some next
    → HasPut begin old s t → IsSent (bytes_to_send next.hub next.send) held now t u → HasPut begin next.hub s u
put_one begin old next held now s t u is put sent =
    let there : next_send (after_sends put.count begin) ≡ Some next = ap next_send (sym put.sends) ∙ is in
    record {
      count = suc put.count;
      sends = ap (hub_next old) (sym is) ∙ (ap (λ (h : Hub). hub_next h (next_send h)) put.sends
          ∙ one_after put.count begin);
      air = sent.told ∙ (ap (λ (told : Told). sent_on told (bytes_to_send next.hub next.send)) put.air
          ∙ (sym (put_last s.told (packets put.count begin) (bytes_to_send next.hub next.send))
          ∙ ap (λ (r : Option Next). put_on s.told (packets put.count begin ++ packet_of r)) (sym there)));
      handed = sent.handed ∙ put.handed;
    }

pub put_more : (begin old : Hub) (next : Next) (held now : ℕ) (first old_link new_link : Option Telling)
    → next_send old ≡ Some next → IfTelling first old_link (HasPut begin old)
    → IfTelling old_link new_link (IsSent (bytes_to_send next.hub next.send) held now)
    → IfTelling first new_link (HasPut begin next.hub)
put_more begin old next held now None None None is put sent = tt
put_more begin old next held now None None (Some u) is put sent = absurd sent
put_more begin old next held now None (Some t) new_link is put sent = absurd put
put_more begin old next held now (Some s) None new_link is put sent = absurd put
put_more begin old next held now (Some s) (Some t) None is put sent = absurd sent
put_more begin old next held now (Some s) (Some t) (Some u) is put sent = put_one begin old next held now s t u is put
    sent

-- ---- a receive

got_out : (bytes : List ℕ) (held now : ℕ) (t u : Telling) → IsGot bytes held now t u → HandsOut bytes t u
got_out bytes held now t u got = record {
  heard = got.received.by_board;
  place = got.place;
  there = got.there;
  handed = got.received.handed;
}

got_as : (bytes : List ℕ) (hub : Hub) (pumped : Pumped) (held now : ℕ) (t u : Telling)
    → IsHeardAs hub (to_hub bytes) pumped → IsGot bytes held now t u → Brings pumped bytes t u
got_as bytes hub (Reply place) held now t u heard got = got_out bytes held now t u got
got_as bytes hub Status held now t u heard got = got_out bytes held now t u got
got_as bytes hub Stray held now t u heard got = got_out bytes held now t u got
got_as bytes hub Quiet held now t u heard got = absurd heard
got_as bytes hub Idle held now t u heard got = tt
got_as bytes hub LinkDown held now t u heard got = tt

pub got_brings : (bytes : List ℕ) (hub : Hub) (pumped : Pumped) (held now : ℕ) (old new : Option Telling)
    → IsHeardAs hub (to_hub bytes) pumped → IfTelling old new (IsGot bytes held now)
    → IfTelling old new (Brings pumped bytes)
got_brings bytes hub pumped held now None None heard got = tt
got_brings bytes hub pumped held now None (Some u) heard got = absurd got
got_brings bytes hub pumped held now (Some t) None heard got = absurd got
got_brings bytes hub pumped held now (Some t) (Some u) heard got = got_as bytes hub pumped held now t u heard got

quiet_out : (held now : ℕ) (t u : Telling) → IsQuiet held now t u → HandsOutNothing t u
quiet_out held now t u quiet = record {
  heard = quiet.received.by_board;
  handed = quiet.received.handed ∙ append-nil t.handed;
  none_due = quiet.none_due;
}

pub quiet_brings : (bytes : List ℕ) (held now : ℕ) (old new : Option Telling) → IfTelling old new (IsQuiet held now)
    → IfTelling old new (Brings Quiet bytes)
quiet_brings bytes held now None None quiet = tt
quiet_brings bytes held now None (Some u) quiet = absurd quiet
quiet_brings bytes held now (Some t) None quiet = absurd quiet
quiet_brings bytes held now (Some t) (Some u) quiet = quiet_out held now t u quiet

-- ---- both

carries_by : (pumped : Pumped) (bytes : List ℕ) (old between : Hub) (s t u : Telling) → between ≡ all_sent old
    → HasPut old between s t → Brings pumped bytes t u → Carries pumped bytes old s u
carries_by pumped bytes old between s t u all put brings = record {
  between = t;
  put = subst (λ (h : Hub). HasPut old h s t) all put;
  brings = brings;
}

pub carried : (pumped : Pumped) (bytes : List ℕ) (old between : Hub) (first middle last : Option Telling)
    → between ≡ all_sent old → IfTelling first middle (HasPut old between)
    → IfTelling middle last (Brings pumped bytes) → IfTelling first last (Carries pumped bytes old)
carried pumped bytes old between None None None all put brings = tt
carried pumped bytes old between None None (Some u) all put brings = absurd brings
carried pumped bytes old between None (Some t) last all put brings = absurd put
carried pumped bytes old between (Some s) None last all put brings = absurd put
carried pumped bytes old between (Some s) (Some t) None all put brings = absurd brings
carried pumped bytes old between (Some s) (Some t) (Some u) all put brings =
    carries_by pumped bytes old between s t u all put brings

-- ---- a pump

pumping_by : (pumped : Pumped) (bytes : List ℕ) (old new : Hub) (s u : Telling) → IsEventAs (all_sent old) bytes pumped
    → new ≡ after_handing_out (hub_after pumped bytes (all_sent old)) → Carries pumped bytes old s u
    → Pumping pumped old new s u
pumping_by (Reply place) bytes old new s u event hub is =
    record { bytes = bytes; carries = is; event = event; heard = hub }
pumping_by Status bytes old new s u event hub is =
    record { bytes = bytes; carries = is; event = event; heard = hub }
pumping_by Stray bytes old new s u event hub is =
    record { bytes = bytes; carries = is; event = event; heard = hub }
pumping_by Quiet bytes old new s u event hub is =
    record { bytes = bytes; carries = is; event = event; heard = hub }
pumping_by Idle bytes old new s u event hub is = absurd event
pumping_by LinkDown bytes old new s u event hub is = tt

pub pumping : (pumped : Pumped) (bytes : List ℕ) (old new : Hub) (first last : Option Telling)
    → IsEventAs (all_sent old) bytes pumped → new ≡ after_handing_out (hub_after pumped bytes (all_sent old))
    → IfTelling first last (Carries pumped bytes old) → IfTelling first last (Pumping pumped old new)
pumping pumped bytes old new None None event hub is = tt
pumping pumped bytes old new None (Some u) event hub is = absurd is
pumping pumped bytes old new (Some s) None event hub is = absurd is
pumping pumped bytes old new (Some s) (Some u) event hub is = pumping_by pumped bytes old new s u event hub is
