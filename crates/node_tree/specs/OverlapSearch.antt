-- What the search for overlaps keeps. No public clause speaks of it. Profile.
use Rattle.std.specs.Prelude.{◌≡◌, ◌⊎◌, ℕ, ◌+◌, ◌<◌, ◌≤◌, ◌^◌, List, [], ◌∷◌, ◌++◌, Bool, true, false, nat_lt, nat_eq}
use Rattle.std.specs.Prelude.{if◌then◌else◌, length, slice_get, slice_index, slice_set, bit_and, min, Option, Some}
use Rattle.std.specs.Prelude.{None}
use Rattle.std.specs.List.{Contains, starts_with}
use Rattle.std.specs.Int.{bit_at}
use Rattle.node_tree.specs.declared.register.Register.{Register}
use Rattle.node_tree.specs.declared.overlapping.events.Event.{Event}
use Rattle.node_tree.specs.declared.overlapping.settling.Test.{Test}
use Rattle.node_tree.specs.declared.overlapping.settling.Test.TheVariants.{Each, Covers, HasBit}
use Rattle.node_tree.specs.Named.{Name}
use Rattle.node_tree.specs.Maps.{IsRegister}
use Rattle.node_tree.specs.Overlaps.{overlap_at, takes_words, is_dotted_prefix}
use Rattle.node_tree.specs.Walk.{words_of}

-- a place and a later one
abbrev pub pair_before : ℕ → ℕ → List (ℕ × ℕ)
pair_before first i = if nat_lt first i then (first, i) ∷ [] else []

-- what is at each place is a register of an index
abbrev pub AreNamedRegisters : List (Name × Register) → Type 0
AreNamedRegisters es = (i : ℕ) (e : Name × Register) → slice_get es i ≡ Some e → IsRegister e.1

-- a place that is kept for a later one is that of an entry that the later one overlaps
abbrev pub AreFound : List (Name × Register) → List ℕ → Type 0
AreFound es firsts =
    (b : ℕ) → b < length es → slice_index firsts b < b → overlap_at es (slice_index firsts b) b ≡ true

-- for each entry the place of the first that it overlaps, or one that is not before it
pub record AreFirsts (es : List (Name × Register)) (firsts : List ℕ) : Type 0 where
  pub each : length firsts ≡ length es
  pub found : AreFound es firsts
  pub first : (a b : ℕ) → a < b → b < length es → a < slice_index firsts b → overlap_at es a b ≡ false

-- places that are kept, after some were lowered to those of entries that overlap
pub record Lowers (es : List (Name × Register)) (old new : List ℕ) : Type 0 where
  pub each : length new ≡ length old
  pub falls : (k : ℕ) → slice_index new k ≤ slice_index old k
  pub found : AreFound es old → AreFound es new

-- the place that is kept for an entry is not after one that it overlaps
abbrev pub IsSettled : List (Name × Register) → List ℕ → ℕ → ℕ → Type 0
IsSettled es firsts a b = a < slice_index firsts b → overlap_at es a b ≡ false

-- a list after the number at a place was lowered to another
abbrev pub with_lowered : List ℕ → ℕ → ℕ → List ℕ
with_lowered ns at n = if nat_lt n (slice_index ns at) then slice_set ns at n else ns

-- the same, where there is another
abbrev pub lowered_to : List ℕ → ℕ → Option ℕ → List ℕ
lowered_to ns at None = ns
lowered_to ns at (Some n) = with_lowered ns at n

-- the lesser of two numbers, of which the first may be left out
abbrev pub lesser_of : Option ℕ → ℕ → ℕ
lesser_of None n = n
lesser_of (Some m) n = min m n

-- the places that are kept for an entry, compared with some earlier ones
pub record IsNoted (es : List (Name × Register)) (old new : List ℕ) (earlier : List ℕ) (later : ℕ) : Type 0 where
  pub lowers : Lowers es old new
  pub settled : (a : ℕ) → Contains earlier a → IsSettled es new a later

-- the event of an entry that takes words
pub record IsEvent (es : List (Name × Register)) (e : Event) : Type 0 where
  pub entry : Name × Register
  pub there : slice_get es e.place ≡ Some entry
  pub takes : takes_words entry.1.mode ≡ true
  pub from : e.first ≡ entry.1.address
  pub until : e.«end» ≡ entry.1.address + words_of entry.1.mode entry.1.size
  pub bits : e.mask ≡ entry.1.mask
  pub word : e.mask < 2 ^ 32

-- the event of a register at a place
abbrev pub event_at : Register → ℕ → Bool → Event
event_at r place asks = record {
  asks = asks;
  place = place;
  first = r.address;
  «end» = r.address + words_of r.mode r.size;
  mask = r.mask;
}

-- its event at the end of a list, if it takes words
abbrev pub Adds : Register → ℕ → Bool → List Event → List Event → Type 0
Adds r place asks old new = new ≡ (if takes_words r.mode then old ++ event_at r place asks ∷ [] else old)

-- the same, for the entry at a place
pub record AddsAt (es : List (Name × Register)) (place : ℕ) (asks : Bool) (old new : List Event) : Type 0 where
  pub entry : Name × Register
  pub there : slice_get es place ≡ Some entry
  pub word : entry.1.mask < 2 ^ 32
  pub adds : Adds entry.1 place asks old new

-- whether the name of an entry begins with that of another
pub record BeginsWith (es : List (Name × Register)) (later earlier : ℕ) (answer : Bool) : Type 0 where
  pub one : Name × Register
  pub other : Name × Register
  pub one_there : slice_get es later ≡ Some one
  pub other_there : slice_get es earlier ≡ Some other
  pub is : answer ≡ starts_with nat_eq one.0 other.0

-- one event stands before another in a list
abbrev pub Before : List Event → Event → Event → Type 0
Before [] x y = ⊥
Before (e ∷ es) x y = ((e ≡ x) × Contains es y) ⊎ Before es x y

-- an event asks after another was put
pub record Asks (events : List Event) (x y : Event) : Type 0 where
  pub before : Before events x y
  pub put : x.asks ≡ false
  pub asking : y.asks ≡ true

-- no event asks after another was put
abbrev pub HasNoneToSettle : List Event → Type 0
HasNoneToSettle events = (x y : Event) → Asks events x y → ⊥

-- an address of an event
abbrev pub Has : Event → ℕ → Type 0
Has e address = (e.first ≤ address) × (address < e.«end»)

-- events that share a bit of a word
pub record Meet (x y : Event) : Type 0 where
  pub address : ℕ
  pub in_one : Has x address
  pub in_other : Has y address
  pub bit : ℕ
  pub small : bit < 32
  pub of_one : bit_at x.mask bit ≡ 1
  pub of_other : bit_at y.mask bit ≡ 1

-- where an event asks after another was put and shares a bit of a word with it, their entries overlap
abbrev pub AreSound : List (Name × Register) → List Event → Type 0
AreSound es events =
    (x y : Event) → Asks events x y → Meet x y → (x.place < y.place) × (overlap_at es x.place y.place ≡ true)

-- an event has an address and some bit of a word, and each bit where it has more than one address
pub record HasBits (e : Event) : Type 0 where
  pub some : e.first < e.«end»
  pub masked : 0 < e.mask
  pub word : e.mask < 2 ^ 32
  pub whole : e.first + 1 < e.«end» → e.mask ≡ 0xffffffff

-- events of entries, each with some of the addresses from one on to the one before another
pub record AreEvents (es : List (Name × Register)) (events : List Event) (first «end» : ℕ) : Type 0 where
  pub bits : (e : Event) → Contains events e → HasBits e
  pub near : (e : Event) → Contains events e → (e.first < «end») × (first < e.«end»)
  pub sound : AreSound es events

-- each event that asks is lowered to those that were put before and share a bit with it at one of these addresses
abbrev pub AreSettled : List Event → List ℕ → ℕ → ℕ → Type 0
AreSettled events firsts first «end» =
    (x y : Event) → Asks events x y → (m : Meet x y) → first ≤ m.address → m.address < «end»
    → slice_index firsts y.place ≤ x.place

-- the places that are kept after the events were settled at these addresses, whatever entries they are of
abbrev pub Settles : List Event → ℕ → ℕ → List ℕ → List ℕ → Type 0
Settles events first «end» old new =
    (es : List (Name × Register)) → AreEvents es events first «end»
    → Lowers es old new × AreSettled events new first «end»

-- what passes a test
abbrev pub Passes : Test → Event → Type 0
Passes Each e = Unit {0}
Passes (Covers first «end») e = (e.first ≤ first) × («end» ≤ e.«end»)
Passes (HasBit bit) e = 0 < bit_and e.mask bit

-- an event that passes a test asks after another was put that passes one
pub record AsksWhere (events : List Event) (put asking : Test) (x y : Event) : Type 0 where
  pub asks : Asks events x y
  pub one : Passes put x
  pub other : Passes asking y

-- the places that are kept after such events were settled, whatever entries they are of
pub record SettlesWhere (events : List Event) (put asking : Test) (old new : List ℕ) : Type 0 where
  pub lowers : (es : List (Name × Register))
      → ((x y : Event) → AsksWhere events put asking x y → (x.place < y.place) × (overlap_at es x.place y.place ≡ true))
      → Lowers es old new
  pub falls : (k : ℕ) → slice_index new k ≤ slice_index old k
  pub settled : (x y : Event) → AsksWhere events put asking x y → slice_index new y.place ≤ x.place

-- an event goes on to a part of the addresses: it has one of them, and does not cover all that are at hand
pub record GoesOn (covers : Test) (first «end» : ℕ) (e : Event) : Type 0 where
  pub outside : Passes covers e → ⊥
  pub near : (e.first < «end») × (first < e.«end»)

-- the events of a list that have a property, in their order
pub record IsPart (P : Event → Type 0) (events some : List Event) : Type 0 where
  pub only : (e : Event) → Contains some e → Contains events e × P e
  pub each : (e : Event) → Contains events e → P e → Contains some e
  pub in_order : (x y : Event) → Before some x y → Before events x y
  pub all : (x y : Event) → Before events x y → P x → P y → Before some x y

-- an entry that takes no words
abbrev pub IsIdle : List (Name × Register) → ℕ → Type 0
IsIdle es a = (e : Name × Register) → slice_get es a ≡ Some e → takes_words e.1.mode ≡ false

-- an entry was put
pub record IsPut (events : List Event) (a : ℕ) : Type 0 where
  pub event : Event
  pub there : Contains events event
  pub put : event.asks ≡ false
  pub place : event.place ≡ a

-- what asks after another was put still does
abbrev pub Grows : List Event → List Event → Type 0
Grows old new = (x y : Event) → Asks old x y → Asks new x y

-- an entry comes after another, and neither stands below the other in the tree of names
pub record IsPast (es : List (Name × Register)) (a c : ℕ) : Type 0 where
  pub later : a < c
  pub apart : (d e : Name × Register) → slice_get es a ≡ Some d → slice_get es c ≡ Some e
      → (is_dotted_prefix d.0 e.0 ≡ false) × (is_dotted_prefix e.0 d.0 ≡ false)

-- The events of the entries before a place: of those entries each is open, put or takes no words, and none that was put
-- has a name that a later name begins with.
pub record IsTimeline (es : List (Name × Register)) (k : ℕ) (open_places : List ℕ) (events : List Event) : Type 0 where
  pub each : (e : Event) → Contains events e → IsEvent es e
  pub sound : AreSound es events
  pub past : (x : Event) → Contains events x → x.asks ≡ false → (c : ℕ) → k ≤ c → c < length es → IsPast es x.place c
  pub opened : (a : ℕ) → Contains open_places a → a < k
  pub known : (a : ℕ) → a < k → Contains open_places a ⊎ (IsPut events a ⊎ IsIdle es a)

-- two entries are settled, or an event of the later one asks after one of the earlier was put
pub record AsksOf (events : List Event) (a b : ℕ) : Type 0 where
  pub one : Event
  pub other : Event
  pub asks : Asks events one other
  pub of_one : one.place ≡ a
  pub of_other : other.place ≡ b

-- each two of the entries before a place
abbrev pub AreNoted : List (Name × Register) → List ℕ → List Event → ℕ → Type 0
AreNoted es firsts events k = (a b : ℕ) → a < b → b < k → IsSettled es firsts a b ⊎ AsksOf events a b

-- the events of all entries
pub record AreAllEvents (es : List (Name × Register)) (old new : List ℕ) (events : List Event) : Type 0 where
  pub each : (e : Event) → Contains events e → IsEvent es e
  pub sound : AreSound es events
  pub lowers : Lowers es old new
  pub noted : AreNoted es new events (length es)
