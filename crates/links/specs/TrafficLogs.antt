-- How the code keeps what passed over a link. Private functions speak of it and no public clause does.
use Rattle.reliable_engine.specs.Traffic.{Passed}
use Rattle.reliable_engine.specs.Traffic as passed
use Rattle.links.specs.declared.traffic_log.Call.{Call}
use Rattle.links.specs.declared.traffic_log.Call.TheVariants.{Sent, Got, Quiet}

abbrev pub passed_in : Call → Passed
passed_in (Sent bytes) = passed.Sent bytes
passed_in (Got bytes) = passed.Got bytes
passed_in Quiet = passed.Quiet
