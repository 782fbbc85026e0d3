-- Connections at three boards, worked by hand: one that is live, one that was silent, one whose link was down. Profile.
use Rattle.std.specs.Prelude.{ℕ, List, [], ◌∷◌, None, replicate}
use Rattle.reliable_engine.specs.Traffic as passed
use Rattle.world_model.specs.Settings.{Limits}
use Rattle.lane_record.specs.declared.outcome.Outcome.TheVariants.{TimedOut}
use Rattle.board_history.specs.Examples.{read_body, reads_at}
use Rattle.board_history.specs.LaneExamples.{status_datagram}
use Rattle.board_history.specs.Links.{LinkReport}
use Rattle.hub_session.specs.declared.got.BodyRefusal.TheVariants.{TooLong}
use Rattle.hub_session.specs.declared.got.Got.{Got}
use Rattle.hub_session.specs.declared.got.Got.TheVariants.{NotAsked, Refused, Came}
use Rattle.hub_session.specs.Examples.{words}
use Rattle.hub_session.specs.Exchanges.{Exchange}
use Rattle.session_serve.specs.Connections.{Conversation}

-- a frame that reads the register of a board, and what the hub came to
abbrev pub read_of : ℕ → Got → Exchange
read_of board got = record {
  frame = record { board = board; packet = words (0x200000f0 ∷ read_body) };
  got = got;
}

-- it was answered by this word at this place
abbrev pub read_at : ℕ → ℕ → Exchange
read_at place word = read_of 0 (Came (reads_at place word))

-- the hub gave it up after two rounds, at place 3
abbrev pub given_up : Exchange
given_up = read_of 0 (Came (TimedOut 3 2))

-- the hub refused it as too long
abbrev pub refused_exchange : Exchange
refused_exchange = read_of 0 (Refused TooLong)

-- Connection 1 reads the register of the live board, and the hub gives up its second read, whose answer is not written.
-- Connection 2 reads that of each board.
abbrev pub first_connection : Conversation
first_connection =
    record { answered = read_at 1 7 ∷ []; cut_off = given_up ∷ [] }

abbrev pub second_connection : Conversation
second_connection =
    record { answered = read_at 2 7 ∷ read_of 1 NotAsked ∷ read_of 2 NotAsked ∷ []; cut_off = [] }

abbrev pub two_connections : List Conversation
two_connections = first_connection ∷ second_connection ∷ []

-- one connection whose frames have places that do not rise
abbrev pub turned_round : List Conversation
turned_round = record { answered = read_at 2 7 ∷ read_at 1 7 ∷ []; cut_off = [] } ∷ []

-- one connection whose only frame this is
abbrev pub only : Exchange → List Conversation
only e = record { answered = e ∷ []; cut_off = [] } ∷ []

-- a write of 5 to the register
abbrev pub write_body : List ℕ
write_body = 0x2000011f ∷ 0 ∷ 5 ∷ []

-- settings with two rounds
abbrev pub two_rounds : Limits
two_rounds = record { rounds = 2; window = 16 }

-- a link that does not tell, with no fault, whose receives were so many quiet ones, all in the greeting
abbrev pub quiet_link : ℕ → LinkReport
quiet_link quiets = record {
  faults = 0;
  quiets = quiets;
  gots = 0;
  held = 0;
  traffic = replicate quiets passed.Quiet;
  number = 0;
  telling = None;
}

-- one whose board told its status at once, and that had so many quiet receives behind it
abbrev pub greeted_link : ℕ → LinkReport
greeted_link quiets = record {
  faults = 0;
  quiets = quiets;
  gots = 1;
  held = 0;
  traffic = passed.Got status_datagram ∷ replicate quiets passed.Quiet;
  number = 0;
  telling = None;
}
