-- Numbers that a user or another implementation sees and that several crates mean. Each stands here once, and a law of
-- each crate that has such a constant shows that it is this number: `the_version_is_two` and `the_numbers_of_..`.
use Rattle.std.specs.Prelude.{ℕ, ◌-◌, ◌/◌, ◌^◌, min}

-- a count that is kept in 64 bits, where it stands still at its end (profile)
abbrev pub in_64_bits : ℕ → ℕ
in_64_bits count = min count (2 ^ 64 - 1)

-- the version in each packet header and transaction header (IPbus 2.0)
abbrev pub protocol_version : ℕ
protocol_version = 2

-- the least and the greatest MTU of a board, in bytes (profile)
abbrev pub least_mtu : ℕ
least_mtu = 92

abbrev pub greatest_mtu : ℕ
greatest_mtu = 9000

-- the bytes of the headers of IPv4 and UDP (RFC 791, RFC 768)
abbrev pub ip_udp_bytes : ℕ
ip_udp_bytes = 28

-- the payload of an MTU: the words of the longest packet that it has room for, the packet header included
abbrev pub payload_of : ℕ → ℕ
payload_of mtu = (mtu - ip_udp_bytes) / 4

-- the payloads of the least and of the greatest MTU, so the most words that a packet can have (profile)
abbrev pub least_payload : ℕ
least_payload = 16

abbrev pub greatest_payload : ℕ
greatest_payload = 2243

-- the greatest UDP or TCP port
abbrev pub greatest_port : ℕ
greatest_port = 65535

-- the most boards and the most clients of a session, and the most packets ahead of their replies (profile)
abbrev pub most_boards : ℕ
most_boards = 16

abbrev pub most_clients : ℕ
most_clients = 64

abbrev pub most_window : ℕ
most_window = 16

-- the most lines of all scripts, the most operations in them and in a load, and the most words of one block (profile)
abbrev pub most_lines : ℕ
most_lines = 200000

abbrev pub most_operations : ℕ
most_operations = 100000

abbrev pub most_block_words : ℕ
most_block_words = 1048576

-- after so many datagrams that tell no status a round of a greeting ends (profile)
abbrev pub most_others : ℕ
most_others = 64

-- the most connections that a server lets in (profile)
abbrev pub most_connections : ℕ
most_connections = 64
