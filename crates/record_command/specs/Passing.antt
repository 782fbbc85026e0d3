-- What a capture shows of what passed over a link: each datagram that was sent or received, in the order of the calls.
-- Profile.
use Rattle.std.specs.Prelude.{ℕ, true, false, List, [], ◌∷◌}
use Rattle.reliable_engine.specs.Traffic.{Passed, Sent, Got, Quiet}
use Rattle.capture_reader.specs.declared.capture.Caught.{Caught}

-- a datagram that the hub sent, and one that it received
abbrev pub sent_item : List ℕ → Caught
sent_item bytes = record { sent = true; bytes = bytes }

abbrev pub received_item : List ℕ → Caught
received_item bytes = record { sent = false; bytes = bytes }

-- the items of a capture of what passed: quiet receives are left out
abbrev pub caught_in : List Passed → List Caught
caught_in [] = []
caught_in (Sent bytes ∷ later) = sent_item bytes ∷ caught_in later
caught_in (Got bytes ∷ later) = received_item bytes ∷ caught_in later
caught_in (Quiet ∷ later) = caught_in later
