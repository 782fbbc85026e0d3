-- Links that do not tell, worked by hand: what their receives brought. Profile.
use Rattle.std.specs.Prelude.{ℕ, List, [], ◌∷◌, ◌++◌, replicate, None}
use Rattle.reliable_engine.specs.Traffic.{Got, Passed, Quiet, Sent}
use Rattle.board_history.specs.Links.{LinkReport}

-- the status of a board with an MTU of 1500 and 4 response buffers, which expects identifier 1
abbrev pub status_datagram : List ℕ
status_datagram =
    (0x20 ∷ 0 ∷ 0 ∷ 0xf1 ∷ 0 ∷ 0 ∷ 5 ∷ 0xdc ∷ 0 ∷ 0 ∷ 0 ∷ 4 ∷ 0x20 ∷ 0 ∷ 1 ∷ 0xf0 ∷ []) ++ replicate 48 0

-- the reply to the packet with identifier 1: one word, 7, was read
abbrev pub reply_datagram : List ℕ
reply_datagram = 0x20 ∷ 0 ∷ 1 ∷ 0xf0 ∷ 0x20 ∷ 0 ∷ 1 ∷ 0 ∷ 0 ∷ 0 ∷ 0 ∷ 7 ∷ []

-- its words
abbrev pub seven_read : List ℕ
seven_read = 0x20000100 ∷ 7 ∷ []

-- a link over which this passed
abbrev pub that_carried : List Passed → LinkReport
that_carried traffic = record { faults = 0; quiets = 1; gots = 2; held = 0; traffic = traffic; number = 0; telling = None }

-- a datagram that the board does not answer; the receives are read alone
abbrev pub unanswered : Passed
unanswered = Sent []

-- first nothing, then the status, and then the reply
abbrev pub greeted_and_replied : LinkReport
greeted_and_replied = that_carried
    (unanswered ∷ Quiet ∷ unanswered ∷ Got status_datagram ∷ unanswered ∷ Got reply_datagram ∷ [])

-- the reply before the status
abbrev pub replied_and_greeted : LinkReport
replied_and_greeted = that_carried (Quiet ∷ Got reply_datagram ∷ Got status_datagram ∷ [])
