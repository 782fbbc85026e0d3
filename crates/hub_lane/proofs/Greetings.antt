-- Lemmas on the greeting of a board over a link that tells: each datagram is a status reply, and a receive is quiet
-- only where datagrams were held.
use Rattle.std.proofs.Common.{◌≡◌, ℕ, ◌+◌, ◌<◌, ◌≤◌, List, [], ◌∷◌, ◌++◌, length, Option}
use Rattle.std.proofs.Common.{Some, None}
use Rattle.std.proofs.Common.{refl, sym, ap, ◌∙◌, subst, arith, inl, inr, ◌⊎◌, length-append}
use Rattle.std.specs.Prelude.{Result, Ok, Err, IfSome}
use Rattle.std.proofs.lemmas.List.{append-nil}
use Rattle.ipb_base.specs.Faults.{Rose}
use Rattle.packet_codec.specs.Packet.{packet_bytes}
use Rattle.packet_ids.specs.Identifier.{IsIdentifier}
use Rattle.status_packet.specs.declared.status.Status.{Status}
use Rattle.status_packet.specs.Packets.{status_reply, status_request}
use Rattle.status_packet.specs.Range.{IsBufferCount, IsMtu}
use Rattle.status_packet.specs.StatusBytes.{IsStatusReply}
use Rattle.world_model.specs.declared.datagram.Datagram.{Datagram}
use Rattle.world_model.specs.declared.datagram.Direction.{Direction}
use Rattle.world_model.specs.declared.datagram.Direction.TheVariants as goes
use Rattle.world_model.specs.Messages.{ToBoard, StatusRequest, to_board}
use Rattle.world_model.specs.Board.{Board, expected_identifier, hear_message}
use Rattle.world_model.specs.World.{air_after_answer}
use Rattle.world_model.specs.Facts.{IsGreeting, IsGreetingOf, IsStart}
use Rattle.world_model.specs.Links.{Told, IsHeard, birth_of, first_sends, heard_on, hears_all, sent_on}
use Rattle.world_model.proofs.Lists.{all_get, get_seam, get_within}
use Rattle.world_model.specs.Settings.{Limits}
use Rattle.links.specs.declared.link.Link.{Ghosts}
use Rattle.links.specs.declared.link.LinkFault.{LinkFault}
use Rattle.links.specs.declared.link.LinkFault.TheVariants as fault
use Rattle.links.specs.declared.link.Received.{Received}
use Rattle.links.specs.declared.link.Received.TheVariants as came
use Rattle.links.specs.Telling.{IfTelling, IsGot, IsQuiet, IsReceived, IsSent, Receives, Telling}
use Rattle.hub_lane.specs.Standing.{AreInAir}
use Rattle.hub_lane.proofs.Closed.{got_in_air, sent_in_air, unheard_in_air}
use Rattle.hub_lane.proofs.Requests.{if_both}
use Rattle.hub_lane.proofs.RoundHeard.{AirGrows, GoesThere, contains_get, front_goes, heard_first, heard_goes}
use Rattle.hub_lane.proofs.RoundHeard.{nothing_due, one_way}
use Rattle.hub_lane.specs.declared.greeting.Answer.{Answer}
use Rattle.hub_lane.specs.declared.greeting.Answer.TheVariants as answer
use Rattle.hub_lane.specs.Greeting.{CanBegin, EndsAskingWith, EndsRoundWith, IsExpecting}
use Rattle.hub_lane.specs.Greeting.{HandedOutNone, IsHeardFrom, IsTold, StaysFresh}

-- what the laws of links say of what a board hears
abbrev pub HeardGoesOn : Type 0
HeardGoesOn = (window : ℕ) (old new : Told) → IsStart window old.board old.air → IsHeard old new
    → IsStart window new.board new.air × (new.board ≡ old.board)

-- ---- over any link

pub on_telling : (P : Telling → Type 0) (R S : Telling → Telling → Type 0) (old new : Option Telling)
    → ((s t : Telling) → P s → R s t → S s t) → IfSome old P → IfTelling old new R → IfTelling old new S
on_telling P R S None None f begins is = tt
on_telling P R S None (Some t) f begins is = is
on_telling P R S (Some s) None f begins is = is
on_telling P R S (Some s) (Some t) f begins is = f s t begins is

-- ---- what the board heard

-- a status request is answered
request_answered : (board : Board) (birth : ℕ) (air : List Datagram) (message : Option ToBoard)
    → message ≡ Some StatusRequest
    → GoesThere goes.ToHub (air ++ air_after_answer birth (hear_message board message).answer) (length air)
request_answered board birth air message e =
    subst (λ (m : Option ToBoard). GoesThere goes.ToHub (air ++ air_after_answer birth (hear_message board m).answer)
    (length air)) (sym e)
    (record {
      d = record {
        direction = goes.ToHub;
        bytes = packet_bytes
            (status_reply board.mtu board.buffers (expected_identifier board));
        birth = birth;
      };
      there = get_seam air [] (record {
        direction = goes.ToHub;
        bytes = packet_bytes
            (status_reply board.mtu board.buffers (expected_identifier board));
        birth = birth;
      });
      direction = refl;
    })

asked_in_greeting : (board : Board) (d : Datagram) → IsGreeting board d → d.direction ≡ goes.ToBoard
    → to_board d.bytes ≡ Some StatusRequest
asked_in_greeting board d is way = subst (λ (w : Direction). IsGreetingOf board w d.bytes) way is.bytes

-- where the board of a greeting heard anything, its answer stands right behind what was in the air
answer_there : AirGrows → (window : ℕ) (t u : Told) (k : ℕ) (ks : List ℕ) → IsStart window t.board t.air
    → hears_all t (k ∷ ks) ≡ Some u → GoesThere goes.ToHub u.air (length t.air)
answer_there grows window t u k ks is e =
    let h = heard_first t u k ks e in
    let asked = asked_in_greeting t.board h.d (all_get (IsGreeting t.board) t.air k h.d is.greetings h.there)
    h.to_board in
    front_goes goes.ToHub (heard_on t h.d.bytes).air u.air (length t.air)
    (grows (heard_on t h.d.bytes) u (record { places = ks; heard = h.later }))
    (request_answered t.board (first_sends t) t.air (to_board h.d.bytes) asked)

-- ---- one receive

received_fresh : HeardGoesOn → (settings : Limits) (by_hub : List ℕ) (before now : ℕ) (old new : Telling)
    → CanBegin settings old → AreInAir new → IsReceived by_hub before now old new → StaysFresh settings old new
received_fresh law settings by_hub before now old new begins in_air is =
    let on = law settings.window old.told new.told begins.start is.by_board in
    record { begins = record { start = on.0; in_air = in_air }; same_board = on.1 }

receives_fresh : HeardGoesOn → AirGrows → (settings : Limits) (result : Result Received LinkFault) (bytes : List ℕ)
    (before now : ℕ) (old new : Telling) → CanBegin settings old → Receives result bytes before now old new
    → StaysFresh settings old new
receives_fresh law grows settings (Ok came.Got) bytes before now old new begins is =
    received_fresh law settings (is.place ∷ []) before now old new begins
    (got_in_air grows bytes before now old new is begins.in_air) is.received
receives_fresh law grows settings (Ok came.Quiet) bytes before now old new begins is =
    received_fresh law settings [] before now old new begins
    (unheard_in_air grows before now old new is.received begins.in_air) is.received
receives_fresh law grows settings (Err fault.Failed) bytes before now old new begins is =
    record { begins = subst (CanBegin settings) (sym is) begins; same_board = ap (λ (t : Telling). t.told.board) is }
receives_fresh law grows settings (Err fault.NoMemory) bytes before now old new begins is =
    received_fresh law settings [] before now old new begins
    (unheard_in_air grows before now old new is begins.in_air) is

-- a receive that came to this, over any link
abbrev CameTo : {L : Type 0} → Ghosts L → List ℕ → L → L → Result Received LinkFault → Type 0
CameTo seen bytes old new result =
    IfTelling (seen.telling old) (seen.telling new) (Receives result bytes (seen.held old) (seen.held new))

pub fresh_on : {L : Type 0} (seen : Ghosts L) → HeardGoesOn → AirGrows → (settings : Limits)
    (result : Result Received LinkFault) (bytes : List ℕ) (old new : L) → IfSome (seen.telling old) (CanBegin settings)
    → CameTo seen bytes old new result → IfTelling (seen.telling old) (seen.telling new) (StaysFresh settings)
fresh_on seen law grows settings result bytes old new begins is =
    on_telling (CanBegin settings) (Receives result bytes (seen.held old) (seen.held new)) (StaysFresh settings)
    (seen.telling old) (seen.telling new)
    (receives_fresh law grows settings result bytes (seen.held old) (seen.held new)) begins is

-- the answer to what the board heard is neither still to be heard nor handed out
answer_rose : AirGrows → (before now : ℕ) (old new : Telling) → IsQuiet before now old new
    → GoesThere goes.ToHub new.told.air (length old.told.air) → Rose before now
answer_rose grows before now old new is at =
    let place = length old.told.air in
    elim (is.received.joins place (omega arith) (get_within new.told.air place at.d at.there)) [
      | inl due ↦ absurd (nothing_due new.due place is.none_due due)
      | inr rest ↦ elim rest [
        | inl heard ↦ absurd (one_way new.told.air place
            (heard_goes grows old.told new.told is.received.by_board.places place heard.0 is.received.by_board.heard
            (contains_get is.received.by_board.places place heard)) at)
        | inr rest ↦ elim rest [
          | inl handed ↦ absurd (nothing_due [] place refl handed)
          | inr rose ↦ rose
        ]
      ]
    ]

answer_held : AirGrows → (settings : Limits) (before now : ℕ) (old new : Telling) → CanBegin settings old
    → IsQuiet before now old new → (places : List ℕ) → hears_all old.told places ≡ Some new.told → (j : ℕ)
    → j < length places
    → Rose before now
answer_held grows settings before now old new begins is [] e j lt = absurd (omega (arith, lt))
answer_held grows settings before now old new begins is (k ∷ ks) e j lt = answer_rose grows before now old new is
    (answer_there grows settings.window old.told new.told k ks begins.start e)

-- what is expected is settled by a quiet receive only where datagrams are held
quiet_held : HeardGoesOn → AirGrows → (settings : Limits) (before now : ℕ) (old new : Telling)
    → CanBegin settings old → IsQuiet before now old new → IsExpecting old → Rose before now
quiet_held law grows settings before now old new begins is expecting =
    elim (is.received.stays expecting.place expecting.due) [
      | inl due ↦ absurd (nothing_due new.due expecting.place is.none_due due)
      | inr rest ↦ elim rest [
        | inl heard ↦ answer_held grows settings before now old new begins is is.received.by_board.places
            is.received.by_board.heard heard.0 heard.1
        | inr rest ↦ elim rest [
          | inl handed ↦ absurd (nothing_due [] expecting.place refl handed)
          | inr rose ↦ rose
        ]
      ]
    ]

quiet_on_telling : HeardGoesOn → AirGrows → (settings : Limits) (before now : ℕ) (old new : Telling)
    → CanBegin settings old → IsQuiet before now old new
    → IsHeardFrom settings before now answer.Nothing old new
quiet_on_telling law grows settings before now old new begins is = quiet_held law grows settings before now old new
    begins is

pub quiet_told : {L : Type 0} (seen : Ghosts L) → HeardGoesOn → AirGrows → (settings : Limits) {received : Received}
    (bytes : List ℕ) (old new : L) → received ≡ came.Quiet → IfSome (seen.telling old) (CanBegin settings)
    → CameTo seen bytes old new (Ok received)
    → IfTelling (seen.telling old) (seen.telling new)
    (IsHeardFrom settings (seen.held old) (seen.held new) answer.Nothing)
quiet_told seen law grows settings bytes old new e begins is =
    let before = seen.held old in
    let now = seen.held new in
    on_telling (CanBegin settings) (Receives (Ok came.Quiet) bytes before now)
    (IsHeardFrom settings before now answer.Nothing) (seen.telling old) (seen.telling new)
    (quiet_on_telling law grows settings before now) begins
    (subst (λ (r : Received). CameTo seen bytes old new (Ok r)) e is)

-- a datagram of a greeting tells the status of the board
abbrev pub TellsAll : List ℕ → Answer → Type 0
TellsAll bytes told = (mtu buffers next : ℕ) → IsMtu mtu → IsBufferCount buffers → IsIdentifier next
    → IsStatusReply bytes mtu buffers next → IsTold mtu buffers next told

abbrev pub ReplyTells : Type 0
ReplyTells = (mtu buffers next : ℕ) → IsStatusReply (packet_bytes (status_reply mtu buffers next)) mtu buffers next

told_greeted : (settings : Limits) (before now : ℕ) (old new : Telling) (told : Answer) → CanBegin settings new
    → IsTold new.told.board.mtu new.told.board.buffers new.told.board.first told
    → IsHeardFrom settings before now told old new
told_greeted settings before now old new (answer.Told status) begins is = record {
  begins = begins.start;
  in_air = begins.in_air;
  told = record { mtu = is.0; buffers = is.1; next = is.2 };
}
told_greeted settings before now old new answer.Nothing begins is = absurd is
told_greeted settings before now old new answer.Other begins is = absurd is

got_greeted : HeardGoesOn → AirGrows → ReplyTells → (settings : Limits) (bytes : List ℕ) (told : Answer)
    → TellsAll bytes told
    → (before now : ℕ) (old new : Telling) → CanBegin settings old → IsGot bytes before now old new
    → IsHeardFrom settings before now told old new
got_greeted law grows tells settings bytes told all before now old new begins is =
    let fresh = receives_fresh law grows settings (Ok came.Got) bytes before now old new begins is in
    let start = fresh.begins.start in
    let board = new.told.board in
    let greeting = all_get (IsGreeting board) new.told.air is.place
    (record { direction = goes.ToHub; bytes = bytes; birth = is.there.birth }) start.greetings is.there.there in
    told_greeted settings before now old new told fresh.begins
    (all board.mtu board.buffers board.first start.mtu start.buffers start.first
    (subst (λ (bs : List ℕ). IsStatusReply bs board.mtu board.buffers board.first) (sym greeting.bytes)
    (tells board.mtu board.buffers board.first)))

pub got_told : {L : Type 0} (seen : Ghosts L) → HeardGoesOn → AirGrows → ReplyTells → (settings : Limits)
    {received : Received} (bytes : List ℕ) (told : Answer) (old new : L) → TellsAll bytes told → received ≡ came.Got
    → IfSome (seen.telling old) (CanBegin settings) → CameTo seen bytes old new (Ok received)
    → IfTelling (seen.telling old) (seen.telling new) (IsHeardFrom settings (seen.held old) (seen.held new) told)
got_told seen law grows tells settings bytes told old new all e begins is =
    let before = seen.held old in
    let now = seen.held new in
    on_telling (CanBegin settings) (Receives (Ok came.Got) bytes before now)
    (IsHeardFrom settings before now told) (seen.telling old) (seen.telling new)
    (got_greeted law grows tells settings bytes told all before now) begins
    (subst (λ (r : Received). CameTo seen bytes old new (Ok r)) e is)

-- ---- what was handed out

pub handed_quiet : {L : Type 0} (seen : Ghosts L) {received : Received} (bytes : List ℕ) (old new : L)
    → received ≡ came.Quiet → CameTo seen bytes old new (Ok received)
    → IfTelling (seen.telling old) (seen.telling new) HandedOutNone
handed_quiet seen bytes old new e is =
    if_both (Receives (Ok came.Quiet) bytes (seen.held old) (seen.held new)) HandedOutNone (seen.telling old)
    (seen.telling new) (λ s t quiet. quiet.received.handed ∙ append-nil s.handed)
    (subst (λ (r : Received). CameTo seen bytes old new (Ok r)) e is)

-- ---- a round with its request

abbrev pub RequestGoesOn : Type 0
RequestGoesOn = (window : ℕ) (told : Told) → IsStart window told.board told.air
    → IsStart window told.board (sent_on told (packet_bytes status_request)).air

sent_fresh : RequestGoesOn → (settings : Limits) (bytes : List ℕ) (before now : ℕ) (old new : Telling)
    → bytes ≡ packet_bytes status_request → CanBegin settings old → IsSent bytes before now old new
    → StaysFresh settings old new
sent_fresh law settings bytes before now old new e begins is =
    let told : new.told ≡ sent_on old.told (packet_bytes status_request) = is.told ∙ ap (sent_on old.told) e in
    record {
      begins = record {
        start = subst (λ (t : Told). IsStart settings.window t.board t.air) (sym told)
            (law settings.window old.told begins.start);
        in_air = sent_in_air bytes before now old new is begins.in_air;
      };
      same_board = ap (λ (t : Told). t.board) told;
    }

pub request_fresh : {L : Type 0} (seen : Ghosts L) → RequestGoesOn → (settings : Limits) {bytes : List ℕ}
    (old new : L) → bytes ≡ packet_bytes status_request → IfSome (seen.telling old) (CanBegin settings)
    → IfTelling (seen.telling old) (seen.telling new) (IsSent bytes (seen.held old) (seen.held new))
    → IfTelling (seen.telling old) (seen.telling new) (StaysFresh settings)
request_fresh seen law settings {bytes} old new e begins is =
    let before = seen.held old in
    let now = seen.held new in
    on_telling (CanBegin settings) (IsSent bytes before now) (StaysFresh settings) (seen.telling old)
    (seen.telling new) (λ s t. sent_fresh law settings bytes before now s t e) begins is

begins_where_fresh : (settings : Limits) (old new : Option Telling) → IfTelling old new (StaysFresh settings)
    → IfSome new (CanBegin settings)
begins_where_fresh settings None None is = tt
begins_where_fresh settings None (Some t) is = absurd is
begins_where_fresh settings (Some s) None is = tt
begins_where_fresh settings (Some s) (Some t) is = is.begins

pub fresh_begins : {L : Type 0} (seen : Ghosts L) (settings : Limits) (old new : L)
    → IfTelling (seen.telling old) (seen.telling new) (StaysFresh settings)
    → IfSome (seen.telling new) (CanBegin settings)
fresh_begins seen settings old new = begins_where_fresh settings (seen.telling old) (seen.telling new)

longer_air : (told : Told) (bytes : List ℕ) → length (sent_on told bytes).air ≡ length told.air + 1
longer_air told bytes = length-append told.air (record {
  direction = goes.ToBoard;
  bytes = bytes;
  birth = birth_of
      told bytes;
} ∷ [])

-- the request is still to be heard, or datagrams were held
sent_expects : (bytes : List ℕ) (before now : ℕ) (old new : Telling) → IsSent bytes before now old new
    → IsExpecting new ⊎ Rose before now
sent_expects bytes before now old new is = elim is.joins [
  | inl due ↦ inl (record {
    place = length old.told.air;
    due = due;
    there = (let e = ap (λ (t : Told). length t.air) is.told ∙ longer_air old.told bytes in omega (arith, e));
  })
  | inr rose ↦ inr rose
]

asked_held : (h h1 h' : ℕ) (old new : Telling) (bytes : List ℕ) → h ≤ h1 → h1 ≤ h' → IsSent bytes h h1 old new
    → (IsExpecting new → Rose h1 h') → Rose h h'
asked_held h h1 h' old new bytes le more is later = elim (sent_expects bytes h h1 old new is) [
  | inl expecting ↦ let rose = later expecting in omega (arith, rose, le)
  | inr rose ↦ omega (arith, rose, more)
]

pub round_asked : (settings : Limits) (q q1 q' h h1 h' : ℕ) (bytes : List ℕ) (found : Option Status) (s t u : Telling)
    → q1 ≡ q → h ≤ h1 → h1 ≤ h' → IsSent bytes h h1 s t → EndsRoundWith settings q1 q' h1 h' found t u
    → EndsAskingWith settings q q' h h' found s u
round_asked settings q q1 q' h h1 h' bytes (Some status) s t u same le more sent is = is
round_asked settings q q1 q' h h1 h' bytes None s t u same le more sent is =
    (let k = is.0 in omega (arith, k, same), asked_held h h1 h' s t bytes le more sent is.1)
