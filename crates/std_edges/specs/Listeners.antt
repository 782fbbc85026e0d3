-- Listeners at ports, as far as their callers can see them: where one listens, and the connections that come. Profile.
use Rattle.std.specs.Prelude.{◌≡◌, ◌⊎◌, ℕ, List, ◌∷◌, Option, Some, None, option_map}
use Rattle.std.specs.declared.net.socket_addr.SocketAddr.{SocketAddr}
use Rattle.links.specs.Sockets.{Place}

-- what a connection brings: the bytes that its client sends, where its stream tells them, as one of a test does
abbrev pub Brought : Type 0
Brought = Option (List ℕ)

-- what a listener tells: where it listens, and what the connections bring that are still to be let in, in order
pub record Listening : Type 0 where
  pub place : Place
  pub coming : List Brought

abbrev pub with_next : Brought → Listening → Listening
with_next brought listening = record listening { coming = brought ∷ listening.coming }

-- The connection that brings this was let in, which was the next one, and no other.
abbrev pub LetsIn : Brought → Option Listening → Option Listening → Type 0
LetsIn brought old new = old ≡ option_map (with_next brought) new

-- none was let in, or the next one, which the machine had no second handle for and which ended so
abbrev pub LosesOneAtMost : Option Listening → Option Listening → Type 0
LosesOneAtMost old new = (new ≡ old) ⊎ ((brought : Brought) × LetsIn brought old new)

-- a listener that was made here: where, and what it tells
pub record ListenerState : Type 0 where
  pub place : SocketAddr
  pub told : Option Listening

-- what the listener of a door tells, if it has one that tells anything
abbrev pub told_by : Option ListenerState → Option Listening
told_by (Some listener) = listener.told
told_by None = None
