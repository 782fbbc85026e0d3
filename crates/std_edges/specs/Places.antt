-- Where sockets stand: an IPv4 address and a port. Profile.
use Rattle.std.specs.Prelude.{◌≡◌, ℕ, List, [], ◌∷◌, Option, Some, None}
use Rattle.std.specs.Net.Socket.{socket_port}
use Rattle.std.specs.declared.net.socket_addr.SocketAddr.{SocketAddr}
use Rattle.links.specs.Sockets.{At, place_of}
use Rattle.std_edges.specs.Listeners.{ListenerState}

-- the place is this port of this IPv4 address, whose most significant number is the first
abbrev pub IsAt : List ℕ → ℕ → SocketAddr → Type 0
IsAt address port place = place_of place ≡ At address port

-- the ports of a door that has this listener, if it has one
abbrev pub ports_at : Option ListenerState → List ℕ
ports_at (Some listener) = socket_port listener.place ∷ []
ports_at None = []

-- 0.0.0.0, which stands for every IPv4 address of the machine
abbrev pub every_address : List ℕ
every_address = 0 ∷ 0 ∷ 0 ∷ 0 ∷ []

-- the port 0, for which the machine takes one that is free
abbrev pub any_port : ℕ
any_port = 0
