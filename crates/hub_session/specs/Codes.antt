-- The codes of reply frames, which say what became of a request. Profile.
use Rattle.std.specs.Prelude.{ℕ}

-- the board replied
abbrev pub replied_code : ℕ
replied_code = 0

-- the hub gave up: whether the board executed the body is not known
abbrev pub timed_out_code : ℕ
timed_out_code = 1

-- the board was silent at the greeting, or the hub gave up before the body was sent
abbrev pub unsent_code : ℕ
unsent_code = 2

-- the link of the board was down at the greeting, or failed before the reply came
abbrev pub link_lost_code : ℕ
link_lost_code = 3

-- the bytes are no packet, or no control packet
abbrev pub bad_packet_code : ℕ
bad_packet_code = 4

-- no board has that position
abbrev pub no_board_code : ℕ
no_board_code = 5

-- the body, or the longest reply to it, is longer than a packet of the board
abbrev pub body_too_long_code : ℕ
body_too_long_code = 6

abbrev pub reply_too_long_code : ℕ
reply_too_long_code = 7

-- the lane of the board has as many bodies, or as many words of them, as it may have
abbrev pub overfull_code : ℕ
overfull_code = 8
