-- A hub over a simulated link, which makes its calls. Profile.
use Rattle.std.specs.Prelude.{ℕ, ◌&&◌, Bool, true, false, not, if◌then◌else◌, List, [], ◌∷◌, min, Option}
use Rattle.std.specs.Prelude.{Some, None}
use Rattle.world_model.specs.declared.offered.Offered.{Offered}
use Rattle.world_model.specs.Facts.{IsSendable}
use Rattle.world_model.specs.Hub.{Hub, HandedOut, after_handing_out, hands_out, none_handed_out}
use Rattle.world_model.specs.Hub.{hear_quiet, is_waiting, new_hub, offer, take_message}
use Rattle.world_model.specs.Messages.{to_hub}
use Rattle.world_model.specs.Sends.{Next, bytes_to_send, next_send}
use Rattle.links.specs.declared.link.Received.{Received}
use Rattle.links.specs.declared.link.Received.TheVariants.{Got, Quiet}
use Rattle.lossy_network.specs.Network.{Network, Receipt, with_call_counted, fails, network_receipt, network_with_send, takes}

-- the hub, the link, and what was handed out
pub record HubAndLink : Type 0 where
  pub hub : Hub
  pub net : Network
  pub so_far : HandedOut

-- a hub of this window that knows a link's fresh board, and has sent nothing
abbrev pub new_hub_and_link : ℕ → ℕ → Network → HubAndLink
new_hub_and_link window rounds net = record {
  hub = new_hub net.told.board.first (min window net.told.board.buffers) rounds;
  net = net;
  so_far = none_handed_out;
}

-- What a hub does: it takes an offer, it sends the next of what it wants to send, it receives when nothing is left to
-- send, it is told that memory ran out in a receive that had taken so many datagrams, and it hands out fates and late
-- answers.
pub data HubStep : Type 0 where
  Offers : Offered → HubStep
  Sends : HubStep
  Receives : HubStep
  CannotReceive : ℕ → HubStep
  HandsOut : HubStep

-- an offered body has a spelling as a control packet
abbrev pub IsHubStep : HubStep → Type 0
IsHubStep (Offers offered) = IsSendable offered.body
IsHubStep Sends = Unit {0}
IsHubStep Receives = Unit {0}
IsHubStep (CannotReceive taken) = Unit {0}
IsHubStep HandsOut = Unit {0}

abbrev pub is_none : {T : Type 0} → List T → Bool
is_none [] = true
is_none (x ∷ xs) = false

-- no fate and no late answer waits to be handed out
abbrev pub is_drained : Hub → Bool
is_drained hub = is_none hub.fates && is_none hub.lates

abbrev pub is_silent : Option Next → Bool
is_silent None = true
is_silent (Some next) = false

-- nothing waits to be handed out or to be sent, and the link will not fail
abbrev pub may_receive : HubAndLink → Bool
may_receive both = is_drained both.hub && is_silent (next_send both.hub) && not (fails both.net)

abbrev pub sends_on : HubAndLink → Option Next → Option HubAndLink
sends_on both None = None
sends_on both (Some next) =
    if fails both.net then None
    else Some (record both { hub = next.hub; net = network_with_send both.net (bytes_to_send next.hub next.send) })

abbrev pub hears_answer : HubAndLink → Receipt → Received → Option HubAndLink
hears_answer both receipt Got =
    Some (record both { hub = take_message both.hub (to_hub receipt.bytes); net = receipt.after })
hears_answer both receipt Quiet =
    if is_waiting both.hub then Some (record both { hub = hear_quiet both.hub; net = receipt.after }) else None

abbrev pub hears : HubAndLink → Receipt → Option HubAndLink
hears both receipt = hears_answer both receipt receipt.answer

-- what a hub and its link are after a step; none where it is not done there: a quiet receive counts only while a body
-- has no fate
abbrev pub after_step : HubAndLink → HubStep → Option HubAndLink
after_step both (Offers offered) =
    if is_drained both.hub then Some (record both { hub = offer both.hub offered }) else None
after_step both Sends = sends_on both (next_send both.hub)
after_step both Receives = if may_receive both then hears both (network_receipt both.net) else None
after_step both (CannotReceive taken) =
    if may_receive both then Some (record both { net = takes taken (with_call_counted both.net) }) else None
after_step both HandsOut =
    Some (record both { hub = after_handing_out both.hub; so_far = hands_out both.so_far both.hub })

abbrev pub steps_on : Option HubAndLink → (HubAndLink → Option HubAndLink) → Option HubAndLink
steps_on None more = None
steps_on (Some both) more = more both

abbrev pub after_steps : HubAndLink → List HubStep → Option HubAndLink
after_steps both [] = Some both
after_steps both (step ∷ steps) = steps_on (after_step both step) (λ after. after_steps after steps)
