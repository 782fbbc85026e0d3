-- What a tap has caught agrees with what its link tells, through every call.
use Rattle.std.proofs.Common.{◌≡◌, ◌∙◌, ℕ, ◌≤◌, length, Bool, true, false, List, [], ◌∷◌, ◌++◌, map}
use Rattle.std.proofs.Common.{Option, Some, None, Result, Ok, Err, refl, ap, sym, subst, arith}
use Rattle.std.specs.Prelude.{IfSome}
use Rattle.std.specs.List.{slice_get}
use Rattle.std.proofs.lemmas.List.{append-nil, map-append}
use Rattle.ipb_base.specs.Lists.{IsPrefix}
use Rattle.ipb_base.proofs.AllLemmas.{AllByRecursion-append}
use Rattle.world_model.specs.declared.datagram.Datagram.{Datagram}
use Rattle.world_model.specs.declared.datagram.Direction.{Direction}
use Rattle.world_model.specs.declared.datagram.Direction.TheVariants.{ToBoard, ToHub}
use Rattle.world_model.specs.Board.{Board, hear}
use Rattle.world_model.specs.Air.{goes_to, is_alive}
use Rattle.world_model.specs.World.{air_after_answer}
use Rattle.world_model.specs.Links.{Told, IsHeard, IsHandedAt, first_sends, first_sends_from, sent_on}
use Rattle.world_model.specs.Links.{heard_by, heard_on, hears_all}
use Rattle.links.specs.declared.link.LinkFault.{LinkFault}
use Rattle.links.specs.declared.link.LinkFault.TheVariants.{Failed, NoMemory}
use Rattle.links.specs.declared.link.Received.{Received}
use Rattle.links.specs.declared.link.Received.TheVariants.{Got, Quiet}
use Rattle.links.specs.Births.{birth_after}
use Rattle.links.specs.Telling.{IfTelling, IsCarried, IsSent, Receives, Telling}
use Rattle.links.specs.Traffic.{received_after}
use Rattle.reliable_engine.specs.Traffic.{Passed}
use Rattle.reliable_engine.specs.Traffic as passes
use Rattle.packet_codec.specs.Packet.{AreBytes}
use Rattle.capture_reader.specs.declared.capture.Caught.{Caught}
use Rattle.capture_reader.specs.CaptureText.{AreItems, IsItem}
use Rattle.record_command.specs.Passing.{sent_item, received_item}
use Rattle.record_command.specs.Traffic.{sent_in, received_in, for_board, bytes_for_board, caught_after}
use Rattle.record_command.specs.Traffic.{ByKind, WereAlive, IsNextAlive, behind_next, IsTrafficOf, IsUnused, HasCaught}
use Rattle.record_command.specs.Traffic.{AreBorn}
use Rattle.record_command.proofs.Births.{KeepsBoard, are_born_heard, are_born_sent}
use Rattle.record_command.proofs.Behind.{behind_more, behind_received, behind_sent, few_before, many_places}
use Rattle.record_command.proofs.Lists.{for_board-append, one_more_for_board, one_more_sent, none_received}
use Rattle.record_command.proofs.Passing.{receive_shows, send_shows}
use Rattle.record_command.proofs.Lists.{one_more_received, none_sent, there_in_more, one_more_there, found_both, goes}

-- ---- the count of first sends

-- how many there are, from so many on, where these were sent
abbrev pub counted : ℕ → ℕ → List (List ℕ) → ℕ
counted first sent [] = sent
counted first sent (bytes ∷ later) = counted first (birth_after first sent bytes) later

count_one : (first sent : ℕ) (datagram : Datagram) (air : List Datagram) (direction : Direction)
    → datagram.direction ≡ direction → ((from : ℕ) → first_sends_from first from air ≡ counted first from (for_board air))
    → first_sends_from first sent (datagram ∷ air) ≡ counted first sent (for_board (datagram ∷ air))
count_one first sent datagram air ToBoard e more = rw e (more (birth_after first sent datagram.bytes))
count_one first sent datagram air ToHub e more = rw e (more sent)

pub count_of_air : (first sent : ℕ) (air : List Datagram)
    → first_sends_from first sent air ≡ counted first sent (for_board air)
count_of_air first sent [] = refl
count_of_air first sent (datagram ∷ air) =
    count_one first sent datagram air datagram.direction refl (λ from. count_of_air first from air)

-- ---- what was alive

by_kind : (kind : Bool) (A B C D : Type 0) → (A → C) → (B → D) → ByKind kind A B → ByKind kind C D
by_kind true A B C D f g x = f x
by_kind false A B C D f g x = g x

alive_sent : (first sent : ℕ) (heard : List Datagram) (items : List Caught) (bytes : List ℕ)
    → WereAlive first sent heard items → WereAlive first sent heard (items ++ sent_item bytes ∷ [])
alive_sent first sent heard [] bytes is = tt
alive_sent first sent heard (item ∷ items) bytes is = by_kind item.sent
    (WereAlive first (birth_after first sent item.bytes) heard items)
    (IsNextAlive sent heard × WereAlive first sent (behind_next heard) items)
    (WereAlive first (birth_after first sent item.bytes) heard (items ++ sent_item bytes ∷ []))
    (IsNextAlive sent heard × WereAlive first sent (behind_next heard) (items ++ sent_item bytes ∷ []))
    (λ more. alive_sent first (birth_after first sent item.bytes) heard items bytes more)
    (λ both. (both.0, alive_sent first sent (behind_next heard) items bytes both.1))
    is

-- one more that was received, where all that were handed out before it were received
abbrev pub ReceivesMore : ℕ → ℕ → List Datagram → Datagram → List Caught → List ℕ → Type 0
ReceivesMore first sent heard datagram items bytes =
    received_in items ≡ map bytes_for_board heard
    → (datagram.birth ≤ counted first sent (sent_in items)) × (is_alive (counted first sent (sent_in items)) datagram ≡ true)
    → WereAlive first sent heard items
    → WereAlive first sent (heard ++ datagram ∷ []) (items ++ received_item bytes ∷ [])

received_one : (first sent : ℕ) (heard : List Datagram) (datagram : Datagram) (item : Caught) (items : List Caught)
    (bytes : List ℕ) (kind : Bool) → item.sent ≡ kind
    → ((from : ℕ) (handed : List Datagram) → ReceivesMore first from handed datagram items bytes)
    → ReceivesMore first sent heard datagram (item ∷ items) bytes
received_one first sent heard datagram item items bytes true e more same alive is =
    rw e (more (birth_after first sent item.bytes) heard (rw e at same) (rw e at alive) (rw e at is))
received_one first sent [] datagram item items bytes false e more same alive is =
    let s = rw e at same in absurd (cc)
received_one first sent (other ∷ heard) datagram item items bytes false e more same alive is =
    let s = rw e at same in
    let a = rw e at alive in
    let h = rw e at is in
    let later : received_in items ≡ map bytes_for_board heard = cc in
    rw e (h.0, more sent heard later a h.1)

alive_received : (first sent : ℕ) (heard : List Datagram) (datagram : Datagram) (items : List Caught)
    (bytes : List ℕ) → ReceivesMore first sent heard datagram items bytes
alive_received first sent [] datagram [] bytes same alive is = (alive, tt)
alive_received first sent (other ∷ heard) datagram [] bytes same alive is = absurd (cc)
alive_received first sent heard datagram (item ∷ items) bytes same alive is =
    received_one first sent heard datagram item items bytes item.sent refl
    (λ from handed. alive_received first from handed datagram items bytes) same alive is

-- ---- what the board hears is not for the board again

pub answer_for_hub : (birth : ℕ) (answer : Option (List ℕ)) → for_board (air_after_answer birth answer) ≡ []
answer_for_hub birth None = refl
answer_for_hub birth (Some bytes) = refl

one_heard : (old new : Told) (datagram : Option Datagram) → heard_by old datagram ≡ Some new
    → for_board new.air ≡ for_board old.air
one_heard old new None e = absurd (cc)
one_heard old new (Some datagram) e =
    let after = heard_on old datagram.bytes in
    let answer = air_after_answer (first_sends old) (hear old.board datagram.bytes).answer in
    let same : after ≡ new = found_both (goes_to ToBoard datagram.direction) (is_alive (first_sends old) datagram)
    after new e in
    ap (λ (t : Told). for_board t.air) (sym same)
    ∙ (for_board-append old.air answer
    ∙ (ap (λ more. for_board old.air ++ more)
    (answer_for_hub (first_sends old) (hear old.board datagram.bytes).answer)
    ∙ append-nil (for_board old.air)))

all_heard : (places : List ℕ) (old new : Told) → hears_all old places ≡ Some new
    → for_board new.air ≡ for_board old.air
all_heard [] old new e = let same : old ≡ new = cc in ap (λ (t : Told). for_board t.air) (sym same)
all_heard (place ∷ places) old new e =
    let g = goes (heard_by old (slice_get old.air place)) (λ after. hears_all after places) new e in
    all_heard places g.between new g.goes_on ∙ one_heard old g.between (slice_get old.air place) g.stepped

-- ---- the calls

-- what the crates below say of a link that heard something
abbrev pub KeepsAir : Type 0
KeepsAir = (old new : Told) → IsHeard old new → IsPrefix {T = Datagram} old.air new.air

pub traffic_begins : (t : Telling) → IsUnused t → IsTrafficOf t []
traffic_begins t is = record {
  sent = rw is.air refl;
  heard = [];
  handed = rw is.handed tt;
  received = refl;
  alive = tt;
  behind = tt;
}

traffic_sent : (old new : Telling) (items : List Caught) (bytes : List ℕ) → IsTrafficOf old items
    → new.told ≡ sent_on old.told bytes → new.handed ≡ old.handed → IsTrafficOf new (items ++ sent_item bytes ∷ [])
traffic_sent old new items bytes is told handed =
    let birth = birth_after old.told.board.first (first_sends old.told) bytes in
    let one : Datagram = record { direction = ToBoard; bytes = bytes; birth = birth } in
    record {
      sent = rw told (one_more_sent items bytes
          ∙ (ap (λ front. front ++ bytes ∷ []) is.sent ∙ sym (one_more_for_board old.told.air bytes birth)));
      heard = is.heard;
      handed = rw (told, handed) (there_in_more old.told.air (one ∷ []) old.handed is.heard is.handed);
      received = none_received items bytes ∙ is.received;
      alive = rw told (alive_sent old.told.board.first 0 is.heard items bytes is.alive);
      behind = rw (told, handed) (behind_sent (old.told.air ++ one ∷ []) 0 old.handed items bytes
          (behind_more old.told.air (one ∷ []) items 0 old.handed is.heard is.handed is.behind));
    }

-- the same board, an air that is longer by answers alone
record HeardOn (old new : Told) : Type 0 where
  first : new.board.first ≡ old.board.first
  more : List Datagram
  air : new.air ≡ old.air ++ more
  same : for_board new.air ≡ for_board old.air

heard_on_by : KeepsAir → KeepsBoard → (old new : Told) → IsHeard old new → HeardOn old new
heard_on_by keeps_air keeps_board old new is =
    let longer = keeps_air old new is in
    record {
      first = ap (λ (b : Board). b.first) (keeps_board old new is);
      more = longer.0;
      air = longer.1;
      same = all_heard is.places old new is.heard;
    }

traffic_heard : (old new : Telling) (items : List Caught) → IsTrafficOf old items → HeardOn old.told new.told
    → new.handed ≡ old.handed → IsTrafficOf new items
traffic_heard old new items is on handed = record {
  sent = is.sent ∙ sym on.same;
  heard = is.heard;
  handed = rw (on.air, handed) (there_in_more old.told.air on.more old.handed is.heard is.handed);
  received = is.received;
  alive = rw on.first is.alive;
  behind = rw (on.air, handed) (behind_more old.told.air on.more items 0 old.handed is.heard is.handed is.behind);
}

traffic_got : (t : Telling) (items : List Caught) (bytes : List ℕ) (place : ℕ) (before : List ℕ)
    → t.handed ≡ before ++ place ∷ [] → IsHandedAt t.told bytes place → AreBorn t.told
    → IsTrafficOf (record t { handed = before }) items → IsTrafficOf t (items ++ received_item bytes ∷ [])
traffic_got t items bytes place before handed at born is =
    let one : Datagram = record { direction = ToHub; bytes = bytes; birth = at.birth } in
    let first = t.told.board.first in
    let count : first_sends t.told ≡ counted first 0 (sent_in items) =
    count_of_air first 0 t.told.air ∙ ap (counted first 0) (sym is.sent) in
    record {
      sent = none_sent items bytes ∙ is.sent;
      heard = is.heard ++ one ∷ [];
      handed = rw handed (one_more_there t.told.air before is.heard place one is.handed
          (record { there = at.there; for_hub = refl }));
      received = one_more_received items bytes
          ∙ (ap (λ front. front ++ bytes ∷ []) is.received ∙ sym (map-append bytes_for_board is.heard (one ∷ [])));
      alive = alive_received first 0 is.heard one items bytes is.received
          (subst (λ (n : ℕ). (one.birth ≤ n) × (is_alive n one ≡ true)) count (born place one at.there, at.alive)) is.alive;
      behind = rw handed (behind_received t.told.air 0 before place items bytes
          (many_places t.told.air before is.heard items is.handed is.received)
          (omega (arith, few_before t.told.air place, ap length is.sent)) is.behind);
    }

pub send_keeps : (bytes : List ℕ) (before now : ℕ) (old new : Option Telling) (items : List Caught)
    → IfSome old (λ t. IsTrafficOf t items) → IfTelling old new (IsSent bytes before now)
    → IfSome new (λ t. IsTrafficOf t (items ++ sent_item bytes ∷ []))
send_keeps bytes before now None None items is sent = tt
send_keeps bytes before now None (Some new) items is sent = absurd sent
send_keeps bytes before now (Some old) None items is sent = absurd sent
send_keeps bytes before now (Some old) (Some new) items is sent =
    traffic_sent old new items bytes is sent.told sent.handed

traffic_received : KeepsAir → KeepsBoard → (result : Result Received LinkFault) (bytes : List ℕ) (before now : ℕ)
    (old new : Telling) (items : List Caught) → IsTrafficOf old items → AreBorn new.told
    → Receives result bytes before now old new → IsTrafficOf new (items ++ caught_after result bytes)
traffic_received air board (Ok Got) bytes before now old new items is born got =
    let on = heard_on_by air board old.told new.told got.received.by_board in
    traffic_got new items bytes got.place old.handed got.received.handed got.there born
    (traffic_heard old (record new { handed = old.handed }) items is on refl)
traffic_received air board (Ok Quiet) bytes before now old new items is born quiet =
    let on = heard_on_by air board old.told new.told quiet.received.by_board in
    rw append-nil (traffic_heard old new items is on (quiet.received.handed ∙ append-nil old.handed))
traffic_received air board (Err Failed) bytes before now old new items is born same =
    rw append-nil (subst (λ (t : Telling). IsTrafficOf t items) (sym same) is)
traffic_received air board (Err NoMemory) bytes before now old new items is born received =
    let on = heard_on_by air board old.told new.told received.by_board in
    rw append-nil (traffic_heard old new items is on (received.handed ∙ append-nil old.handed))

pub receive_keeps : KeepsAir → KeepsBoard → (result : Result Received LinkFault) (bytes : List ℕ) (before now : ℕ)
    (old new : Option Telling) (items : List Caught) → IfSome old (λ t. IsTrafficOf t items)
    → IfSome new (λ t. AreBorn t.told) → IfTelling old new (Receives result bytes before now)
    → IfSome new (λ t. IsTrafficOf t (items ++ caught_after result bytes))
receive_keeps air board result bytes before now None None items is born received = tt
receive_keeps air board result bytes before now None (Some new) items is born received = absurd received
receive_keeps air board result bytes before now (Some old) None items is born received = absurd received
receive_keeps air board result bytes before now (Some old) (Some new) items is born received =
    traffic_received air board result bytes before now old new items is born received

-- ---- births

born_received : KeepsBoard → (result : Result Received LinkFault) (bytes : List ℕ) (before now : ℕ)
    (old new : Telling) → AreBorn old.told → Receives result bytes before now old new → AreBorn new.told
born_received board (Ok Got) bytes before now old new is got = are_born_heard board old.told new.told got.received.by_board is
born_received board (Ok Quiet) bytes before now old new is quiet =
    are_born_heard board old.told new.told quiet.received.by_board is
born_received board (Err Failed) bytes before now old new is same = subst (λ (t : Telling). AreBorn t.told) (sym same) is
born_received board (Err NoMemory) bytes before now old new is received =
    are_born_heard board old.told new.told received.by_board is

born_after : KeepsBoard → (result : Result Received LinkFault) (bytes : List ℕ) (before now : ℕ)
    (old new : Option Telling) → IfSome old (λ t. AreBorn t.told) → IfTelling old new (Receives result bytes before now)
    → IfSome new (λ t. AreBorn t.told)
born_after board result bytes before now None None is received = tt
born_after board result bytes before now None (Some new) is received = absurd received
born_after board result bytes before now (Some old) None is received = absurd received
born_after board result bytes before now (Some old) (Some new) is received =
    born_received board result bytes before now old new is received

born_sent : (bytes : List ℕ) (before now : ℕ) (old new : Option Telling) → IfSome old (λ t. AreBorn t.told)
    → IfTelling old new (IsSent bytes before now) → IfSome new (λ t. AreBorn t.told)
born_sent bytes before now None None is sent = tt
born_sent bytes before now None (Some new) is sent = absurd sent
born_sent bytes before now (Some old) None is sent = absurd sent
born_sent bytes before now (Some old) (Some new) is sent =
    subst AreBorn (sym sent.told) (are_born_sent old.told bytes is)

-- ---- with the lengths of the datagrams

pub caught_sent : (bytes : List ℕ) (before now : ℕ) (old new : Option Telling) (passed passed_now : List Passed)
    (items more : List Caught) → HasCaught old passed items → IfTelling old new (IsSent bytes before now)
    → passed_now ≡ passed ++ passes.Sent bytes ∷ [] → AreBytes bytes → length bytes ≤ 9000
    → more ≡ items ++ sent_item bytes ∷ [] → HasCaught new passed_now more
caught_sent bytes before now old new passed passed_now items more is sent grows fits short e =
    subst (HasCaught new passed_now) (sym e) (record {
      short = AllByRecursion-append IsItem items (sent_item bytes ∷ []) is.short
          (record { bytes = fits; length = short }, tt);
      is_traffic = send_shows bytes passed passed_now items is.is_traffic grows;
      traffic = send_keeps bytes before now old new items is.traffic sent;
      born = born_sent bytes before now old new is.born sent;
    })

are_items : (result : Result Received LinkFault) (bytes : List ℕ) → IsCarried result bytes
    → (result ≡ Ok Got → AreBytes bytes) → AreItems (caught_after result bytes)
are_items (Ok Got) bytes short fits = (record { bytes = fits refl; length = short }, tt)
are_items (Ok Quiet) bytes short fits = tt
are_items (Err fault) bytes short fits = tt

-- behind the datagrams that there was room for, which are those before
pub caught_received : KeepsAir → KeepsBoard → (result : Result Received LinkFault) (bytes read : List ℕ)
    (before now : ℕ) (old new : Option Telling) (passed passed_now : List Passed) (items room more : List Caught)
    → HasCaught old passed items → IfTelling old new (Receives result bytes before now)
    → passed_now ≡ received_after result bytes passed → IsCarried result bytes → read ≡ bytes
    → (result ≡ Ok Got → AreBytes read) → room ≡ items → more ≡ room ++ caught_after result read
    → HasCaught new passed_now more
caught_received air board result bytes read before now old new passed passed_now items room more is received grows
    short same fits items_same e =
    let added : more ≡ items ++ caught_after result bytes =
    e ∙ (ap (λ (front : List Caught). front ++ caught_after result read) items_same
    ∙ ap (λ (left : List ℕ). items ++ caught_after result left) same) in
    let are : result ≡ Ok Got → AreBytes bytes = (λ got. subst AreBytes same (fits got)) in
    let born = born_after board result bytes before now old new is.born received in
    subst (HasCaught new passed_now) (sym added) (record {
      short = AllByRecursion-append IsItem items (caught_after result bytes) is.short (are_items result bytes short are);
      is_traffic = receive_shows result bytes passed passed_now items is.is_traffic grows;
      traffic = receive_keeps air board result bytes before now old new items is.traffic born received;
      born = born;
    })

short_enough : (result : Result Received LinkFault) (bytes : List ℕ) → IsCarried result bytes → length bytes ≤ 9000
short_enough (Ok Got) bytes carried = carried
short_enough (Ok Quiet) bytes carried = rw carried (omega arith)
short_enough (Err fault) bytes carried = rw carried (omega arith)

-- what a receive left fits into the room for the longest datagram
pub carried_fits : (result : Result Received LinkFault) (bytes read : List ℕ) (room : ℕ) → IsCarried result bytes
    → read ≡ bytes → 9000 ≤ room → length read ≤ room
carried_fits result bytes read room carried same long =
    rw same (omega (arith, short_enough result bytes carried, long))
