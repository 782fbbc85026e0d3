-- What passes over a link, call by call. Profile.
use Rattle.std.specs.Prelude.{ℕ, List, [], ◌∷◌, ◌++◌, Result, Ok, Err}
use Rattle.reliable_engine.specs.Traffic.{Passed}
use Rattle.reliable_engine.specs.Traffic as passed
use Rattle.links.specs.declared.link.LinkFault.{LinkFault}
use Rattle.links.specs.declared.link.Received.{Received}
use Rattle.links.specs.declared.link.Received.TheVariants.{Got, Quiet}

-- after one more send of these bytes
abbrev pub sent_after : {E : Type 0} → Result (Unit {0}) E → List ℕ → List Passed → List Passed
sent_after (Ok done) bytes before = before ++ passed.Sent bytes ∷ []
sent_after (Err fault) bytes before = before

-- after one more receive, which left these bytes in its buffer
abbrev pub received_after : Result Received LinkFault → List ℕ → List Passed → List Passed
received_after (Ok Got) bytes before = before ++ passed.Got bytes ∷ []
received_after (Ok Quiet) bytes before = before ++ passed.Quiet ∷ []
received_after (Err fault) bytes before = before
