-- Sockets for datagrams, as far as their callers can see them: where one is bound, how long it waits, and each call of
-- it, with what it was handed and what it came to. Profile.
use Rattle.std.specs.Prelude.{◌≡◌, ℕ, Bool, if◌then◌else◌, List, [], ◌∷◌, ◌++◌, map, take, Option, Some, None, option_map}
use Rattle.std.specs.Prelude.{Result, Ok, Err}
use Rattle.std.specs.Net.Addr.{ipv4_octets}
use Rattle.std.specs.Net.Socket.{v4_ip, v4_port}
use Rattle.std.specs.declared.io.Error.{Error}
use Rattle.std.specs.declared.net.socket_addr.SocketAddr.{SocketAddr}
use Rattle.std.specs.declared.net.socket_addr.SocketAddr.TheVariants.{V4, V6}
use Rattle.std.specs.declared.net.socket_addr.SocketAddrV6.{SocketAddrV6}

-- where a socket stands: an IPv4 address, the most significant number first, and a port; or an IPv6 address and a port,
-- where no board stands
pub data Place : Type 0 where
  At : (address : List ℕ) (port : ℕ) → Place
  AtIpv6 : (place : SocketAddrV6) → Place

abbrev pub place_of : SocketAddr → Place
place_of (V4 place) = At (ipv4_octets (v4_ip place)) (v4_port place)
place_of (V6 place) = AtIpv6 place

-- what came of a receive, or of a look: a datagram of which these bytes had room, or an error, as where the wait is over
pub data Came : Type 0 where
  From : (place : Place) (bytes : List ℕ) → Came
  Refused : (error : Error) → Came

-- by what a socket answered, and the buffer that it was lent
abbrev pub came_of : Result (ℕ × SocketAddr) Error → List ℕ → Came
came_of (Ok got) buffer = From (place_of got.1) (take got.0 buffer)
came_of (Err error) buffer = Refused error

-- a call of a socket
pub data SocketCall : Type 0 where
  -- these bytes are to go to this place
  SendTo : (place : Place) (bytes : List ℕ) → SocketCall
  -- the next datagram is taken
  Receive : (came : Came) → SocketCall
  -- the next datagram is looked at, and stays
  Look : (came : Came) → SocketCall

-- What a socket tells. The wait is that of one receive or look, in nanoseconds, and 0 where it takes as long as it
-- takes; each call stands beside the wait that it had.
pub record Socket : Type 0 where
  pub place : Place
  pub wait : ℕ
  pub calls : List (ℕ × SocketCall)

-- a socket that was bound to a place, and nothing else
abbrev pub bound_at : Place → Socket
bound_at place = record { place = place; wait = 0; calls = [] }

abbrev pub with_wait : ℕ → Socket → Socket
with_wait wait socket = record socket { wait = wait }

-- these calls were made of it, in this order
abbrev pub after_calls : List SocketCall → Socket → Socket
after_calls calls socket =
    record socket { calls = socket.calls ++ map (λ call. (socket.wait, call)) calls }

-- what a socket tells, if one of its kind tells anything
abbrev pub told_if : Bool → Socket → Option Socket
told_if tells socket = if tells then Some socket else None

-- These calls were made of a socket, in this order, and no others. It tells now what it told before and these, or it
-- told nothing and tells nothing.
abbrev pub AreCalls : List SocketCall → Option Socket → Option Socket → Type 0
AreCalls calls old new = new ≡ option_map (after_calls calls) old
