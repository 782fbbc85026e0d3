-- A board behind a port, read by two clients. Profile.
use Rattle.std.specs.Prelude.{ℕ, List, [], ◌∷◌}
use Rattle.packet_codec.specs.Packet.{packet_bytes}
use Rattle.status_packet.specs.Packets.{status_request}
use Rattle.world_model.specs.Settings.{Limits}
use Rattle.reliable_engine.specs.Traffic.{Got, Passed, Sent}
use Rattle.lane_record.specs.declared.outcome.Outcome.TheVariants.{Replied}
use Rattle.script_plans.specs.declared.greeting.Greeting.TheVariants.{Live}
use Rattle.script_plans.specs.declared.board_run.ClientPart.{ClientPart}
use Rattle.script_plans.specs.declared.board_run.BoardRun.{BoardRun}
use Rattle.board_history.specs.LaneExamples.{status_datagram, that_carried}
use Rattle.board_history.specs.Links.{LinkReport}
use Rattle.board_history.specs.Machine.{packet_of}

abbrev pub usual_limits : Limits
usual_limits = record { rounds = 8; window = 16 }

-- a read of the register at this address, and its reply with this word
abbrev pub read_of : ℕ → List ℕ
read_of address = 0x2000010f ∷ address ∷ []

abbrev pub reply_with : ℕ → List ℕ
reply_with word = 0x20000100 ∷ word ∷ []

-- a client that read the register at this address, and was shown this word and this place
abbrev pub reader_of : ℕ → ℕ → ℕ → ClientPart
reader_of address place word = record {
  planned = record { bodies = read_of address ∷ []; pieces = []; counts = 1 ∷ [] };
  outcomes = Replied place (reply_with word) ∷ [];
  lates = [];
}

-- a live board with these clients
abbrev pub board_of : List ClientPart → BoardRun
board_of parts = record { name = []; greeting = Live 368; parts = parts }

-- each was shown its own reply and place, or those of the other
abbrev pub own_replies : BoardRun
own_replies = board_of (reader_of 1 1 7 ∷ reader_of 2 2 8 ∷ [])

abbrev pub exchanged_replies : BoardRun
exchanged_replies = board_of (reader_of 1 2 8 ∷ reader_of 2 1 7 ∷ [])

-- what passed in the greeting, and then: both packets, and both replies
abbrev pub greeting_passed : List Passed
greeting_passed = Sent (packet_bytes status_request) ∷ Got status_datagram ∷ []

abbrev pub reads_passed : List Passed
reads_passed = Sent (packet_of 1 1 (read_of 1)) ∷ Sent (packet_of 1 2 (read_of 2))
    ∷ Got (packet_of 1 1 (reply_with 7)) ∷ Got (packet_of 1 2 (reply_with 8)) ∷ []

abbrev pub both_replied : LinkReport
both_replied = that_carried
    (Sent (packet_bytes status_request) ∷ Got status_datagram ∷ reads_passed)
