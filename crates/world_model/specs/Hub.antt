-- The hub of one board: a machine of events without time, threads or bytes. IPbus 2.0, reliability mechanism; that one
-- control path keeps each board and does its recovery is a ControlHub's; the window, the rounds and the give-up are the
-- profile's.
use Rattle.std.specs.Prelude.{◌≡◌, ℕ, zero, suc, ◌+◌, ◌-◌, nat_lt, ◌==◌, ◌||◌, Bool, true, false, if◌then◌else◌, List}
use Rattle.std.specs.Prelude.{[]}
use Rattle.std.specs.Prelude.{◌∷◌, ◌++◌, length, map, Option, Some, None}
use Rattle.packet_ids.specs.Identifier.{identifier_at}
use Rattle.world_model.specs.declared.offered.Offered.{Offered}
use Rattle.world_model.specs.declared.offered.OpenPlace.{OpenPlace}
use Rattle.world_model.specs.declared.offered.Fate.{Fate}
use Rattle.world_model.specs.declared.offered.Fate.TheVariants.{Replied, TimedOut, Unsent}
use Rattle.world_model.specs.Places.{at_place}
use Rattle.world_model.specs.Messages.{ToHub, StatusReply, Reply}

-- The first identifier that the board expects, the window and the rounds; the bodies that were sent, by place, and
-- those that were not, in the order of offers; the open places, by place: sent, and no reply taken; how many status
-- requests were wanted since the last settled place, and whether one is to be sent; whether the hub gave up and
-- nothing was offered since; and what is not handed out yet: fates, each under the tag of its body, and late answers,
-- each with its place.
pub record Hub : Type 0 where
  pub first : ℕ
  pub window : ℕ
  pub rounds : ℕ
  pub sent : List Offered
  pub queue : List Offered
  pub open_places : List OpenPlace
  pub status_requests : ℕ
  pub status_wanted : Bool
  pub gave_up : Bool
  pub fates : List (ℕ × Fate)
  pub lates : List (ℕ × List ℕ)

-- the places of open bodies
abbrev pub place_of : OpenPlace → ℕ
place_of o = o.place

abbrev pub places : List OpenPlace → List ℕ
places os = map place_of os

-- the lowest of them, or the one after all places
abbrev pub least : List ℕ → ℕ → ℕ
least [] next = next
least (place ∷ later) next = place

abbrev pub low : Hub → ℕ
low hub = least (places hub.open_places) (length hub.sent + 1)

-- A body is offered. The first offer since a give-up has the control packet of each open place sent again.
abbrev pub want_control : OpenPlace → OpenPlace
want_control o = record o { control = true }

abbrev pub offer : Hub → Offered → Hub
offer hub offered = record hub {
  queue = hub.queue ++ offered ∷ [];
  open_places = if hub.gave_up then map want_control hub.open_places else hub.open_places;
  gave_up = false;
}

-- Fates are handed out by place, and then those without a place, in the order of offers.
abbrev pub goes_before : ℕ → Fate → Bool
goes_before place (Replied other words) = nat_lt place other
goes_before place (TimedOut other rounds) = nat_lt place other
goes_before place Unsent = true

abbrev pub insert_fate : ℕ → ℕ × Fate → List (ℕ × Fate) → List (ℕ × Fate)
insert_fate place new [] = new ∷ []
insert_fate place new (fate ∷ fates) =
    if goes_before place fate.1 then new ∷ fate ∷ fates else fate ∷ insert_fate place new fates

-- the tag and the words of the body at a place
abbrev pub tag_of : Option Offered → ℕ
tag_of None = 0
tag_of (Some offered) = offered.tag

abbrev pub words_of : Option Offered → List ℕ
words_of None = []
words_of (Some offered) = offered.body

-- A reply is that of the open place with its identifier. The place is closed, and its round with it. The words go to
-- whoever waits for them; words that come after the give-up are kept as its late answer.
abbrev pub open_with : ℕ → ℕ → List OpenPlace → Option OpenPlace
open_with first id [] = None
open_with first id (o ∷ os) = if identifier_at first o.place == id then Some o else open_with first id os

abbrev pub without : ℕ → List OpenPlace → List OpenPlace
without place [] = []
without place (o ∷ os) = if o.place == place then os else o ∷ without place os

-- Late answers are handed out by place.
abbrev pub insert_late : ℕ × List ℕ → List (ℕ × List ℕ) → List (ℕ × List ℕ)
insert_late new [] = new ∷ []
insert_late new (late ∷ lates) = if nat_lt new.0 late.0 then new ∷ late ∷ lates else late ∷ insert_late new lates

abbrev pub settle : Hub → List ℕ → Option OpenPlace → Hub
settle hub words None = hub
settle hub words (Some o) = record hub {
  open_places = without o.place hub.open_places;
  status_requests = 0;
  fates = if o.waited
      then insert_fate o.place (tag_of (at_place hub.sent o.place), Replied o.place words) hub.fates
      else hub.fates;
  lates = if o.waited then hub.lates else insert_late (o.place, words) hub.lates;
}

abbrev pub hear_reply : Hub → ℕ → List ℕ → Hub
hear_reply hub id words = settle hub words (open_with hub.first id hub.open_places)

-- A status reply is taken while a round is under way, where it tells the identifier of a place from the lowest open one
-- to the next one. Each open place below that place was executed: its reply is asked for again. Each other open place
-- was not yet when the board told it: its control packet is sent again.
abbrev pub place_with : ℕ → ℕ → ℕ → ℕ → Option ℕ
place_with first place zero id = None
place_with first place (suc count) id =
    if identifier_at first place == id then Some place else place_with first (place + 1) count id

abbrev pub recover : ℕ → OpenPlace → OpenPlace
recover told o = if nat_lt o.place told then record o { resend = true } else record o { control = true }

abbrev pub after_recovery : Hub → Option ℕ → Hub
after_recovery hub None = hub
after_recovery hub (Some told) = record hub { open_places = map (recover told) hub.open_places }

abbrev pub told_place : Hub → ℕ → Option ℕ
told_place hub next = place_with hub.first (low hub) (length hub.sent + 2 - low hub) next

abbrev pub hear_status : Hub → ℕ → Hub
hear_status hub next = if nat_lt 0 hub.status_requests then after_recovery hub (told_place hub next) else hub

-- What a hub hears. Only a status reply and a reply change it.
abbrev pub take_message : Hub → Option ToHub → Hub
take_message hub None = hub
take_message hub (Some (StatusReply mtu buffers next)) = hear_status hub next
take_message hub (Some (Reply id words)) = hear_reply hub id words

-- A quiet receive begins a round, or ends the last one: then each place that is waited for is timed out, each body
-- without a place is unsent, and nothing is wanted or waited for any more. The open places stay open.
abbrev pub abandoned_place : OpenPlace → OpenPlace
abandoned_place o = record { place = o.place; waited = false; resend = false; control = false }

abbrev pub time_out : ℕ → List Offered → List OpenPlace → List (ℕ × Fate) → List (ℕ × Fate)
time_out rounds sent [] fates = fates
time_out rounds sent (o ∷ os) fates =
    time_out rounds sent os
    (if o.waited
    then insert_fate o.place (tag_of (at_place sent o.place), TimedOut o.place rounds) fates
    else fates)

abbrev pub unsent_fate : Offered → ℕ × Fate
unsent_fate offered = (offered.tag, Unsent)

abbrev pub give_up : Hub → Hub
give_up hub = record hub {
  queue = [];
  open_places = map abandoned_place hub.open_places;
  status_requests = 0;
  status_wanted = false;
  gave_up = true;
  fates = time_out hub.rounds hub.sent hub.open_places hub.fates ++ map unsent_fate hub.queue;
}

abbrev pub want_status : Hub → Hub
want_status hub = record hub { status_requests = hub.status_requests + 1; status_wanted = true }

abbrev pub hear_quiet : Hub → Hub
hear_quiet hub = if nat_lt hub.status_requests hub.rounds then want_status hub else give_up hub

-- whether a body that was offered has no fate yet
abbrev pub some_queued : List Offered → Bool
some_queued [] = false
some_queued (o ∷ os) = true

abbrev pub some_waited : List OpenPlace → Bool
some_waited [] = false
some_waited (o ∷ os) = o.waited || some_waited os

abbrev pub is_waiting : Hub → Bool
is_waiting hub = some_queued hub.queue || some_waited hub.open_places

-- What a hub has handed out: fates, each under the tag of its body, and late answers, each with its place.
pub record HandedOut : Type 0 where
  pub fates : List (ℕ × Fate)
  pub lates : List (ℕ × List ℕ)

abbrev pub none_handed_out : HandedOut
none_handed_out = record { fates = []; lates = [] }

-- what the hub has to hand out
abbrev pub to_hand_out : Hub → HandedOut
to_hand_out hub = record { fates = hub.fates; lates = hub.lates }

-- what was handed out before, and then what the hub has
abbrev pub and_then : HandedOut → HandedOut → HandedOut
and_then before later = record { fates = before.fates ++ later.fates; lates = before.lates ++ later.lates }

abbrev pub hands_out : HandedOut → Hub → HandedOut
hands_out before hub = and_then before (to_hand_out hub)

-- the hub after it handed out what it has
abbrev pub after_handing_out : Hub → Hub
after_handing_out hub = record hub { fates = []; lates = [] }

-- no fate and no late answer waits to be handed out
pub record IsDrained (hub : Hub) : Type 0 where
  pub fates : hub.fates ≡ []
  pub lates : hub.lates ≡ []

-- a hub that knows a board and has sent nothing
abbrev pub new_hub : ℕ → ℕ → ℕ → Hub
new_hub first window rounds = record {
  first = first;
  window = window;
  rounds = rounds;
  sent = [];
  queue = [];
  open_places = [];
  status_requests = 0;
  status_wanted = false;
  gave_up = false;
  fates = [];
  lates = [];
}
