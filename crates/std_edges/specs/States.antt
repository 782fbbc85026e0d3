-- What contracts see of the real outside: counts in 64 bits, what was said of an end, and where sockets stand. Profile.
use Rattle.std.specs.Prelude.{ℕ, Bool, false, List, [], Option, option_map}
use Rattle.std.specs.declared.net.socket_addr.SocketAddr.{SocketAddr}
use Rattle.reliable_engine.specs.Traffic.{Passed}
use Rattle.links.specs.Sockets.{after_calls, At, bound_at, Place, Socket, SocketCall, told_if, with_wait}
use Rattle.std_edges.specs.Listeners.{ListenerState}
use Rattle.std_edges.specs.Numbers.{wait_nanos}
use Rattle.std_edges.specs.Places.{any_port, every_address}

-- standard input, or the side of a connection from which bytes come
pub record SourceState : Type 0 where
  -- the bytes that its reader has left, where the reader tells them, as one of a test does
  pub remaining : Option (List ℕ)
  -- how many errors it met
  pub faults : ℕ

-- standard output, or the side of a connection to which bytes go
pub record SinkState : Type 0 where
  -- the bytes that its writer holds, where the writer tells them, as one of a test does
  pub contents : Option (List ℕ)
  -- how many errors it met
  pub faults : ℕ
  -- whether it was said that nothing more is written
  pub ended : Bool

-- a UDP socket: where it was bound, how many nanoseconds one receive waits, and what it tells
pub record SocketState : Type 0 where
  pub place : SocketAddr
  pub wait : ℕ
  pub told : Option Socket

-- these calls were made of it, in this order
abbrev pub socket_after : List SocketCall → SocketState → SocketState
socket_after calls socket = record socket { told = option_map (after_calls calls) socket.told }

-- What a socket tells that was just bound and told how long to wait, if one of its kind tells anything.
abbrev pub told_at_first : Bool → Place → ℕ → Option Socket
told_at_first tells place wait = option_map (with_wait wait) (told_if tells (bound_at place))

-- a port
pub record DoorState : Type 0 where
  -- what listens, if something does
  pub listener : Option ListenerState
  -- how many connections were accepted and not yet given back
  pub out : ℕ
  -- how many errors it met
  pub faults : ℕ

-- a link over UDP
pub record UdpState : Type 0 where
  pub board : Place
  -- how many nanoseconds one receive waits
  pub wait : ℕ
  -- how many errors it met
  pub faults : ℕ
  -- how many receives were quiet
  pub quiets : ℕ
  -- how many receives got a datagram
  pub gots : ℕ
  -- what passed over it, in the order of the calls that did not fail
  pub traffic : List Passed
  -- its number among the links of its rack
  pub number : ℕ
  -- whether something waits beside it
  pub is_watched : Bool
  -- what its socket tells, if it tells anything
  pub told : Option Socket

-- A link to this address and this port, that waits for so many milliseconds: counts of 0 and no traffic. Its socket
-- stands at any port of every address of the machine, waits as long, and was not called yet.
abbrev pub new_link : Bool → List ℕ → ℕ → ℕ → UdpState
new_link tells address port wait = record {
  board = At address port;
  wait = wait_nanos wait;
  faults = 0;
  quiets = 0;
  gots = 0;
  traffic = [];
  number = 0;
  is_watched = false;
  told = told_at_first tells (At every_address any_port) (wait_nanos wait);
}

-- the same over a socket of std, which tells nothing
abbrev pub new_udp : List ℕ → ℕ → ℕ → UdpState
new_udp address port wait = new_link false address port wait

-- the link with this number among those of its rack
abbrev pub with_number : ℕ → UdpState → UdpState
with_number number link = record link { number = number }

-- Another link to the board of this one, with its number, that waits as long: counts of 0 and no traffic. Its socket is
-- another one, which stands at any port of every address of the machine and was not called yet.
abbrev pub another_link : Bool → UdpState → UdpState
another_link tells link = record {
  board = link.board;
  wait = link.wait;
  faults = 0;
  quiets = 0;
  gots = 0;
  traffic = [];
  number = link.number;
  is_watched = false;
  told = told_at_first tells (At every_address any_port) link.wait;
}
