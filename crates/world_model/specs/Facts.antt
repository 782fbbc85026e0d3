-- The facts that hold in every state of every run, and carry the theorem.
--
-- An identifier is a number of 16 bits, and the places that it can stand for lie 65,535 apart. So whoever reads an
-- identifier must know which of these places is meant, whatever was lost, repeated or delayed. Say that the hub sent s
-- bodies first and the board executed N of them. The board executes the expected identifier alone, so the executed
-- bodies are the first N of those sent, and what is not executed is open at the hub: no more than the window, at most
-- 16 places, so s <= N + 16. A control packet is sent of an open place alone, at most 16 places behind the first sends
-- at its birth; a reply is that of one of the last 64 executed places, so at most 16 + 64 behind; a status reply tells
-- a place at most 16 behind. Whatever is heard was sent no more than 32,768 first sends ago. So it speaks of a place
-- less than 65,535 away from the next one, and within that distance an identifier names one place: a control packet
-- with the expected identifier is that of place N + 1, and a reply with an open place's identifier is the reply at that
-- place.
use Rattle.std.specs.Prelude.{◌≡◌, ℕ, ◌+◌, ◌==◌, ◌||◌, ◌<◌, ◌≤◌, Bool, true, false, List, [], ◌∷◌, length, map, Option}
use Rattle.std.specs.Prelude.{Some, None}
use Rattle.std.specs.List.{AllByRecursion}
use Rattle.ipb_base.specs.Word.{AreWords}
use Rattle.ipb_base.specs.Lists.{IsPrefix}
use Rattle.ipb_base.specs.Numbers.{payload_of}
use Rattle.packet_ids.specs.Identifier.{identifier_at, IsIdentifier}
use Rattle.packet_codec.specs.declared.packet.TheConstants.{MAX_BODY_WORDS}
use Rattle.packet_codec.specs.Packet.{packet_bytes}
use Rattle.status_packet.specs.Range.{IsMtu, IsBufferCount}
use Rattle.status_packet.specs.Packets.{status_reply}
use Rattle.transaction_codec.specs.Answer.{reply_room}
use Rattle.board_bus.specs.Cells.{HoldsWords}
use Rattle.world_model.specs.declared.datagram.Datagram.{Datagram}
use Rattle.world_model.specs.declared.datagram.Direction.{Direction}
use Rattle.world_model.specs.declared.datagram.Direction.TheVariants.{ToBoard, ToHub}
use Rattle.world_model.specs.declared.heard.LogEntry.{LogEntry}
use Rattle.world_model.specs.declared.offered.Offered.{Offered}
use Rattle.world_model.specs.declared.offered.Fate.{Fate}
use Rattle.world_model.specs.declared.offered.Fate.TheVariants.{Replied, TimedOut, Unsent}
use Rattle.world_model.specs.Places.{at_place}
use Rattle.world_model.specs.Messages.{ToBoard as MessageToBoard, ToHub as MessageToHub, StatusRequest, ResendRequest}
use Rattle.world_model.specs.Messages.{ControlPacket, StatusReply, Reply, to_board, to_hub}
use Rattle.world_model.specs.Board.{Board, bodies_executed, replies}
use Rattle.world_model.specs.Hub.{Hub, HandedOut, least, places, to_hand_out}
use Rattle.world_model.specs.World.{World, told_in}

-- the greatest window, and the most buffers of a board
abbrev pub MOST_OPEN : ℕ
MOST_OPEN = 16

abbrev pub MOST_HELD : ℕ
MOST_HELD = 64

-- a body that has a spelling as a control packet
pub record IsSendable (body : List ℕ) : Type 0 where
  pub words : AreWords body
  pub short : length body ≤ MAX_BODY_WORDS

abbrev pub offered_body : Offered → List ℕ
offered_body offered = offered.body

abbrev pub bodies_of : List Offered → List (List ℕ)
bodies_of sent = map offered_body sent

abbrev pub AreSendable : List Offered → Type 0
AreSendable offers = AllByRecursion (λ (offered : Offered). IsSendable offered.body) offers

-- no more bodies than these, sent and queued, and each has a spelling
pub record HasBodies (most : ℕ) (hub : Hub) : Type 0 where
  pub few : length hub.sent + length hub.queue ≤ most
  pub sent : AreSendable hub.sent
  pub queue : AreSendable hub.queue

-- they rise, from `from` on and below `past`
abbrev pub AreRising : ℕ → ℕ → List ℕ → Type 0
AreRising from past [] = from ≤ past
AreRising from past (p ∷ ps) = (from ≤ p) × AreRising (p + 1) past ps

abbrev pub has : ℕ → List ℕ → Bool
has place [] = false
has place (p ∷ ps) = (p == place) || has place ps

-- the hub's window over `sent` first sends: the open places rise, and from the lowest one to the last first send there
-- are no more places than the window
pub record IsWindow (window sent : ℕ) (ps : List ℕ) : Type 0 where
  pub few : window ≤ MOST_OPEN
  pub rising : AreRising (least ps (sent + 1)) (sent + 1) ps
  pub from_one : 1 ≤ least ps (sent + 1)
  pub within : sent < least ps (sent + 1) + window

-- the executed bodies are the front of all that were sent, and what is not executed is open
pub record IsExecuted (all done : List (List ℕ)) (ps : List ℕ) : Type 0 where
  pub front : IsPrefix done all
  pub unheard : (place : ℕ) → length done < place → place ≤ length all → has place ps ≡ true

-- a numbered packet of words that was not too long
pub record IsLogged (mtu : ℕ) (entry : LogEntry) : Type 0 where
  pub numbered : entry.numbered ≡ true
  pub words : AreWords entry.body
  pub room : reply_room entry.body + 1 ≤ payload_of mtu

-- the hub and the board number alike, the board is one that can be, and it executes numbered packets alone
pub record IsBoard (first : ℕ) (board : Board) : Type 0 where
  pub identifier : IsIdentifier first
  pub same_first : first ≡ board.first
  pub mtu : IsMtu board.mtu
  pub buffers : IsBufferCount board.buffers
  pub opening : HoldsWords board.opening
  pub log : AllByRecursion (IsLogged board.mtu) board.log

-- a control packet is that of a place
pub record IsControlOf (first : ℕ) (all : List (List ℕ)) (birth id : ℕ) (body : List ℕ) : Type 0 where
  pub place : ℕ
  pub at : at_place all place ≡ Some body
  pub identifier : id ≡ identifier_at first place
  pub sent : place ≤ birth
  pub recent : birth < place + MOST_OPEN

-- a reply is that of a place
pub record IsReplyOf (first : ℕ) (answers : List (List ℕ)) (birth id : ℕ) (words : List ℕ) : Type 0 where
  pub place : ℕ
  pub at : at_place answers place ≡ Some words
  pub identifier : id ≡ identifier_at first place
  pub sent : place ≤ birth
  pub recent : birth < place + (MOST_OPEN + MOST_HELD)

-- a status reply tells a place up to the next one
pub record IsToldOf (first executed birth next : ℕ) : Type 0 where
  pub place : ℕ
  pub from_one : 1 ≤ place
  pub up_to_next : place ≤ executed + 1
  pub identifier : next ≡ identifier_at first place
  pub recent : birth < place + MOST_OPEN

abbrev pub IsSaidToBoard : ℕ → List (List ℕ) → ℕ → Option MessageToBoard → Type 0
IsSaidToBoard first all birth None = Unit {0}
IsSaidToBoard first all birth (Some StatusRequest) = Unit {0}
IsSaidToBoard first all birth (Some (ResendRequest id)) = Unit {0}
IsSaidToBoard first all birth (Some (ControlPacket order id body)) = IsControlOf first all birth id body

abbrev pub IsSaidToHub : ℕ → List (List ℕ) → ℕ → Option MessageToHub → Type 0
IsSaidToHub first answers birth None = Unit {0}
IsSaidToHub first answers birth (Some (StatusReply mtu buffers next)) = IsToldOf first (length answers) birth next
IsSaidToHub first answers birth (Some (Reply id words)) = IsReplyOf first answers birth id words

abbrev pub IsSaid : ℕ → List (List ℕ) → List (List ℕ) → ℕ → Direction → List ℕ → Type 0
IsSaid first all answers birth ToBoard bytes = IsSaidToBoard first all birth (to_board bytes)
IsSaid first all answers birth ToHub bytes = IsSaidToHub first answers birth (to_hub bytes)

-- a datagram of the air, where these bodies were sent first and these replies given
pub record IsDatagram (first : ℕ) (all answers : List (List ℕ)) (datagram : Datagram) : Type 0 where
  pub born : datagram.birth ≤ length all
  pub said : IsSaid first all answers datagram.birth datagram.direction datagram.bytes

-- the tag is that of the body at a place
pub record IsTagged (sent : List Offered) (tag place : ℕ) : Type 0 where
  pub offered : Offered
  pub at : at_place sent place ≡ Some offered
  pub tag_is : offered.tag ≡ tag

-- a fate is that of its place, and a reply is the one that was given there
abbrev pub IsRightFate : List Offered → List (List ℕ) → ℕ × Fate → Type 0
IsRightFate sent answers (tag, Replied place words) = IsTagged sent tag place × (at_place answers place ≡ Some words)
IsRightFate sent answers (tag, TimedOut place rounds) = IsTagged sent tag place
IsRightFate sent answers (tag, Unsent) = Unit {0}

abbrev pub AreRight : List Offered → List (List ℕ) → List (ℕ × Fate) → Type 0
AreRight sent answers fates = AllByRecursion (IsRightFate sent answers) fates

-- a late answer is the reply that was given at its place
abbrev pub IsLateReply : List (List ℕ) → ℕ × List ℕ → Type 0
IsLateReply answers late = at_place answers late.0 ≡ Some late.1

abbrev pub AreLateReplies : List (List ℕ) → List (ℕ × List ℕ) → Type 0
AreLateReplies answers lates = AllByRecursion (IsLateReply answers) lates

-- all of it, of the parts of a world; `told` was handed out, and `waiting` is still to be
pub record Holds (first window : ℕ) (sent queue : List Offered) (ps : List ℕ) (waiting : HandedOut)
    (board : Board) (air : List Datagram) (told : HandedOut) : Type 0 where
  pub hub : IsWindow window (length sent) ps
  pub sent_bodies : AreSendable sent
  pub queued_bodies : AreSendable queue
  pub log : IsExecuted (bodies_of sent) (bodies_executed board) ps
  pub node : IsBoard first board
  pub said : AllByRecursion (IsDatagram first (bodies_of sent) (replies board)) air
  pub waiting_fates : AreRight sent (replies board) waiting.fates
  pub told_fates : AreRight sent (replies board) told.fates
  pub waiting_lates : AreLateReplies (replies board) waiting.lates
  pub told_lates : AreLateReplies (replies board) told.lates

abbrev pub IsSound : World → Type 0
IsSound w = Holds w.hub.first w.hub.window w.hub.sent w.hub.queue
    (places w.hub.open_places) (to_hand_out w.hub) w.board w.air (told_in w)

-- a datagram of a greeting: a status request, or the reply to one of a board that has executed nothing
abbrev pub IsGreetingOf : Board → Direction → List ℕ → Type 0
IsGreetingOf board ToBoard bytes = to_board bytes ≡ Some StatusRequest
IsGreetingOf board ToHub bytes = bytes ≡ packet_bytes (status_reply board.mtu board.buffers board.first)

pub record IsGreeting (board : Board) (datagram : Datagram) : Type 0 where
  pub birth : datagram.birth ≡ 0
  pub bytes : IsGreetingOf board datagram.direction datagram.bytes

-- where a run begins: a board that has executed nothing, and nothing in the air but a greeting
pub record IsStart (window : ℕ) (board : Board) (air : List Datagram) : Type 0 where
  pub few : window ≤ MOST_OPEN
  pub mtu : IsMtu board.mtu
  pub buffers : IsBufferCount board.buffers
  pub first : IsIdentifier board.first
  pub opening : HoldsWords board.opening
  pub fresh : board.log ≡ []
  pub greetings : AllByRecursion (IsGreeting board) air
