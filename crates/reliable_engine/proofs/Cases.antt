-- What an event can do to a hub: one lemma for each law that speaks of one event.
use Rattle.std.proofs.Common.{◌≡◌, ◌≤◌, ℕ, ◌+◌, false, List, [], ◌∷◌, ◌++◌, take, length, Option, Some, None}
use Rattle.std.specs.Prelude.{IfSome}
use Rattle.world_model.specs.declared.offered.OpenPlace.{OpenPlace}
use Rattle.world_model.specs.declared.offered.Offered.{Offered}
use Rattle.world_model.specs.Hub.{Hub, HandedOut, none_handed_out, give_up, low, offer, open_with, after_recovery, settle}
use Rattle.world_model.specs.Hub.{want_status}
use Rattle.world_model.specs.Sends.{Next, Wanted, next_send, opened_place, first_wanted}
use Rattle.world_model.proofs.Flushing.{quiet_cases, reply_cases, send_cases, status_cases}
use Rattle.reliable_engine.specs.Answers.{hub_next, told_first, told_first_late}
use Rattle.reliable_engine.specs.Events.{HubEvent, Offer, Status, Reply, Quiet, Send, HandOut, HandOutLate}
use Rattle.reliable_engine.specs.Events.{after_event}
use Rattle.reliable_engine.specs.ToldFates.{fates_handed_out}
use Rattle.reliable_engine.specs.ToldLates.{late_handed}

-- what an event hands out
abbrev pub handed_by : Hub → HubEvent → HandedOut
handed_by h event = record { fates = fates_handed_out h event; lates = late_handed h event }

-- what holds of what an event hands out, and of the hub after it
pub record Cases (Q : HandedOut → Hub → Type 0) (h : Hub) : Type 0 where
  pub offered : (x : Offered) → Q none_handed_out (offer h x)
  pub same : Q none_handed_out h
  pub told : (place : ℕ) → Q none_handed_out (after_recovery h (Some place))
  pub settled : (id : ℕ) (words : List ℕ) (o : OpenPlace) → open_with h.first id h.open_places ≡ Some o
      → Q none_handed_out (settle h words (Some o))
  pub wants_status : Q none_handed_out (want_status h)
  pub gives_up : Q none_handed_out (give_up h)
  pub asked : Q none_handed_out (record h { status_wanted = false })
  pub wished : (w : Wanted) → first_wanted h.first h.open_places ≡ Some w
      → Q none_handed_out (record h { open_places = w.open_places })
  pub sent_first : (x : Offered) (later : List Offered) → h.queue ≡ x ∷ later → length h.sent + 2 ≤ h.window + low h
      → Q none_handed_out (record h {
        sent = h.sent ++ x ∷ [];
        queue = later;
        open_places = h.open_places ++ opened_place (length h.sent + 1) ∷ [];
      })
  pub handed : Q (record { fates = take 1 h.fates; lates = [] }) (told_first h)
  pub late_handed : Q (record { fates = []; lates = take 1 h.lates }) (told_first_late h)

pub next_is : (P : Hub → Type 0) (h : Hub) (r : Option Next) → P h → IfSome r (λ (n : Next). P n.hub) → P (hub_next h r)
next_is P h None is sends = is
next_is P h (Some n) is sends = sends

pub after_send : (P : Hub → Type 0) (h : Hub) → P h → P (record h { status_wanted = false })
    → ((w : Wanted) → first_wanted h.first h.open_places ≡ Some w → P (record h { open_places = w.open_places }))
    → ((x : Offered) (later : List Offered) → h.queue ≡ x ∷ later → length h.sent + 2 ≤ h.window + low h
    → P (record h {
      sent = h.sent ++ x ∷ [];
      queue = later;
      open_places = h.open_places ++ opened_place (length h.sent + 1) ∷ [];
    })) → P (hub_next h (next_send h))
after_send P h same asked wished first =
    next_is P h (next_send h) same (send_cases (λ (n : Next). P n.hub) h asked wished first)

pub after_is : (Q : HandedOut → Hub → Type 0) (h : Hub) → Cases Q h → (event : HubEvent)
    → Q (handed_by h event) (after_event h event)
after_is Q h cases (Offer x) = cases.offered x
after_is Q h cases (Status next) = status_cases (Q none_handed_out) h next cases.same cases.told
after_is Q h cases (Reply id words) = reply_cases (Q none_handed_out) h id words cases.same (cases.settled id words)
after_is Q h cases Quiet = quiet_cases (Q none_handed_out) h (λ _. cases.wants_status) (λ _. cases.gives_up)
after_is Q h cases Send = after_send (Q none_handed_out) h cases.same cases.asked cases.wished cases.sent_first
after_is Q h cases HandOut = cases.handed
after_is Q h cases HandOutLate = cases.late_handed
