-- What some sends leave of a hub that is ready.
use Rattle.std.proofs.Common.{◌≡◌, ℕ, List, Option, Some, sym, ◌∙◌, subst}
use Rattle.std.specs.Prelude.{IfSome}
use Rattle.world_model.specs.Hub.{Hub, after_handing_out}
use Rattle.world_model.specs.Sends.{Next, next_send}
use Rattle.world_model.specs.Settings.{Limits}
use Rattle.links.specs.Telling.{Telling}
use Rattle.lane_record.specs.declared.outcome.Outcome.{Outcome}
use Rattle.lane_record.specs.Lates.{put_lates}
use Rattle.lane_record.specs.Offers.{put_all}
use Rattle.hub_lane.specs.Lanes.{IsReady}
use Rattle.hub_lane.specs.Sends.{HasSent}
use Rattle.hub_lane.specs.Standing.{GoesOn, IsRunning, NoneOpenHanded, StaysUnanswered}
use Rattle.hub_lane.specs.PumpLaws.{SendKeepsBodies, SendLeaves}
use Rattle.hub_lane.proofs.Closed.{handed_out_closed}
use Rattle.hub_lane.proofs.Sends.{sent_keeps}
use Rattle.hub_lane.proofs.Standing.{OutLaw, drained_running, if_told}
use Rattle.hub_lane.proofs.Windows.{IsSameBut, same_here, same_on, send_windowed}

ready_send : SendLeaves → SendKeepsBodies → (asks : ℕ) (hub : Hub) (next : Next) → next_send hub ≡ Some next
    → IsReady asks hub → IsReady asks next.hub
ready_send fates bodies asks hub next e is = record {
  drained = record {
    fates = fates.fates hub next e ∙ is.drained.fates;
    lates = fates.lates hub next e ∙ is.drained.lates;
  };
  window = send_windowed hub next e is.window;
  bodies = bodies asks hub next e is.bodies;
}

pub ready_sent : SendLeaves → SendKeepsBodies → (asks : ℕ) (old new : Hub) → HasSent old new → IsReady asks old
    → IsReady asks new
ready_sent fates bodies asks old new sent is = sent_keeps (IsReady asks) (ready_send fates bodies asks) old new sent is

pub same_sent : (old new : Hub) → HasSent old new → IsSameBut old new
same_sent old new sent = sent_keeps (IsSameBut old) (same_on old) old new sent (same_here old)

-- an exchange, where the link tells
pub exchanged : OutLaw → (old mid event hub : Hub) (outcomes new : List (Option Outcome))
    (lates more : List (Option (List ℕ))) (before between after : Option Telling) → hub ≡ after_handing_out event
    → new ≡ put_all event.fates outcomes → more ≡ put_lates event.lates lates
    → GoesOn before old between mid → GoesOn between mid after event
    → (limits : Limits) → IfSome before (IsRunning limits old outcomes lates)
    → IfSome after (IsRunning limits hub new more)
exchanged law old mid event hub outcomes new lates more before between after hub_is new_is more_is one two limits
    start =
    subst (λ (h : Hub). IfSome after (IsRunning limits h new more)) (sym hub_is)
    (subst (λ (os : List (Option Outcome)). IfSome after (IsRunning limits (after_handing_out event) os more)) (sym new_is)
    (subst (λ (ls : List (Option (List ℕ))). IfSome after (IsRunning limits (after_handing_out event)
    (put_all event.fates outcomes) ls)) (sym more_is)
    (if_told (IsRunning limits event outcomes lates)
    (IsRunning limits (after_handing_out event) (put_all event.fates outcomes) (put_lates event.lates lates)) after
    (two limits outcomes lates (one limits outcomes lates start))
    (λ t is. drained_running law limits outcomes lates event t is))))

pub exchanged_unanswered : (old mid event hub : Hub) (before between after : Option Telling) → hub ≡ after_handing_out event
    → GoesOn before old between mid → StaysUnanswered before old between mid → StaysUnanswered between mid after event
    → StaysUnanswered before old after hub
exchanged_unanswered old mid event hub before between after hub_is goes one two = λ limits outcomes lates start none.
    subst (λ (h : Hub). IfSome after (NoneOpenHanded h)) (sym hub_is)
    (if_told (NoneOpenHanded event) (NoneOpenHanded (after_handing_out event)) after
    (two limits outcomes lates (goes limits outcomes lates start) (one limits outcomes lates start none))
    (λ t is. handed_out_closed event t is))
