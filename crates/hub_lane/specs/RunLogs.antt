-- How the code keeps the events of a lane's engine. Private functions speak of it and no public clause does.
use Rattle.reliable_engine.specs.MachineRuns.{RunEvent}
use Rattle.reliable_engine.specs.MachineRuns as events
use Rattle.hub_lane.specs.declared.run_log.Event.{Event}
use Rattle.hub_lane.specs.declared.run_log.Event.TheVariants.{Offer, Send, Heard, Quiet}

abbrev pub event_in : Event → RunEvent
event_in (Offer tag body) = events.Offer tag body.value
event_in Send = events.Send
event_in (Heard datagram) = events.Heard datagram.value.items
event_in Quiet = events.Quiet
