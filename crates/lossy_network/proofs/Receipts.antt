-- What a receive comes to: it hands out the datagram that stands in front then, or nothing stands there.
use Rattle.std.proofs.Common.{◌≡◌, ◌⊎◌, inl, inr, ◌∙◌, ℕ, true, List, [], ◌∷◌, Option, Some}
use Rattle.std.proofs.Common.{None, refl, sym, ap}
use Rattle.std.specs.List.{slice_get}
use Rattle.world_model.specs.declared.datagram.Datagram.{Datagram}
use Rattle.world_model.specs.declared.datagram.Direction.{Direction}
use Rattle.world_model.specs.declared.datagram.Direction.TheVariants.{ToBoard, ToHub}
use Rattle.world_model.specs.Air.{is_alive}
use Rattle.world_model.specs.Links.{IsHandedAt, Told, first_sends, heard_by}
use Rattle.links.specs.declared.link.Received.TheVariants.{Got, Quiet}
use Rattle.lossy_network.specs.Network.{ForHub, Front, Network, Nothing, Receipt, Taken, all_taken, with_call_counted, front}
use Rattle.lossy_network.specs.Network.{front_of, front_with, handed_out, hub_bytes, receipt_at, network_receipt}
use Rattle.lossy_network.specs.Network.{with_queue, without_front}
use Rattle.lossy_network.specs.Receipts.{GotReceipt, QuietReceipt}
use Rattle.lossy_network.specs.Inside.{stands}
use Rattle.lossy_network.proofs.Hearing.{some_if}
use Rattle.lossy_network.proofs.Takings.{all_stands}

pub received_is : (old mid : Network) → mid ≡ all_taken (with_call_counted old) → receipt_at mid (front mid) ≡ network_receipt old
unfolding network_receipt
received_is old mid is = ap (λ (net : Network). receipt_at net (front net)) is

-- ---- what stands in front

abbrev pub IsFrontHub : Network → List ℕ → Front → Type 0
IsFrontHub net queue Nothing = queue ≡ []
IsFrontHub net queue (Taken taking after) = Unit {0}
IsFrontHub net queue (ForHub place bytes) =
    (rest : List ℕ) × (queue ≡ place ∷ rest) × (hub_bytes net.told (slice_get net.told.air place) ≡ Some bytes)

hub_with : (net : Network) (place : ℕ) (rest : List ℕ) (bytes : Option (List ℕ)) (told : Option Told)
    → hub_bytes net.told (slice_get net.told.air place) ≡ bytes
    → IsFrontHub net (place ∷ rest) (front_with (with_queue net rest) place bytes told)
hub_with net place rest (Some bytes) told is = (rest, refl, is)
hub_with net place rest None (Some told) is = tt
hub_with net place rest None None is = tt

hub_of : (net : Network) (queue : List ℕ) → IsFrontHub net queue (front_of net queue)
hub_of net [] = refl
hub_of net (place ∷ rest) = hub_with net place rest (hub_bytes net.told (slice_get net.told.air place))
    (heard_by net.told (slice_get net.told.air place)) refl

handed_by : (told : Told) (place : ℕ) (bytes other : List ℕ) (birth : ℕ) (direction : Direction)
    → slice_get told.air place ≡ Some (record { direction = direction; bytes = other; birth = birth })
    → hub_bytes told (Some (record { direction = direction; bytes = other; birth = birth })) ≡ Some bytes
    → IsHandedAt told bytes place
handed_by told place bytes other birth ToBoard there is = absurd cc
handed_by told place bytes other birth ToHub there is =
    let alive = some_if (is_alive (first_sends told) (record { direction = ToHub; bytes = other; birth = birth }))
    (Some other) bytes is in
    let same : other ≡ bytes = (let e = alive.1 in cc) in
    record {
      birth = birth;
      there = there ∙ ap (λ (xs : List ℕ). Some (record { direction = ToHub; bytes = xs; birth = birth })) same;
      alive = alive.0;
    }

handed_for : (told : Told) (place : ℕ) (bytes : List ℕ) (r : Option Datagram) → slice_get told.air place ≡ r
    → hub_bytes told r ≡ Some bytes → IsHandedAt told bytes place
handed_for told place bytes None there is = absurd cc
handed_for told place bytes (Some d) there is = handed_by told place bytes d.bytes d.birth d.direction there is

-- ---- the two receipts

got_receipt : (old mid : Network) (place : ℕ) (bytes rest : List ℕ) → mid ≡ all_taken (with_call_counted old)
    → front mid ≡ ForHub place bytes → mid.traffic.queue ≡ place ∷ rest
    → network_receipt old ≡ record { answer = Got; bytes = bytes; after = handed_out (with_queue mid rest) place bytes }
got_receipt old mid place bytes rest is front_is queue = sym (received_is old mid is)
    ∙ (ap (receipt_at mid) front_is ∙ ap (λ (xs : List ℕ). record {
      answer = Got;
      bytes = bytes;
      after = handed_out (with_queue mid (without_front xs)) place bytes;
    }) queue)

cases_by : (old : Network) (f : Front) → front (all_taken (with_call_counted old)) ≡ f → stands f ≡ true
    → IsFrontHub (all_taken (with_call_counted old)) (all_taken (with_call_counted old)).traffic.queue f → QuietReceipt old ⊎ GotReceipt old
cases_by old Nothing is st none = inl (record {
  is = sym (received_is old (all_taken (with_call_counted old)) refl) ∙ ap (receipt_at (all_taken (with_call_counted old))) is;
  none = none;
})
cases_by old (ForHub place bytes) is st hub = inr (record {
  place = place;
  bytes = bytes;
  rest = hub.0;
  queue = hub.1;
  there = handed_for (all_taken (with_call_counted old)).told place bytes _ refl hub.2;
  is = got_receipt old (all_taken (with_call_counted old)) place bytes hub.0 refl is hub.1;
})
cases_by old (Taken taking after) is st hub = absurd cc

pub receipt_cases : (old : Network) → QuietReceipt old ⊎ GotReceipt old
receipt_cases old = cases_by old (front (all_taken (with_call_counted old))) refl (all_stands (with_call_counted old))
    (hub_of (all_taken (with_call_counted old)) (all_taken (with_call_counted old)).traffic.queue)

-- the two cannot be taken for one another
quiet_is_not_got : (old : Network) → QuietReceipt old → Got ≡ (network_receipt old).answer → ⊥
quiet_is_not_got old quiet is = let e = is ∙ ap (λ (r : Receipt). r.answer) quiet.is in absurd cc

got_is_not_quiet : (old : Network) → GotReceipt old → Quiet ≡ (network_receipt old).answer → ⊥
got_is_not_quiet old got is = let e = is ∙ ap (λ (r : Receipt). r.answer) got.is in absurd cc

pub the_got : (old : Network) → Got ≡ (network_receipt old).answer → GotReceipt old
the_got old is = elim (receipt_cases old) [
  | inl quiet ↦ absurd (quiet_is_not_got old quiet is)
  | inr got ↦ got
]

pub the_quiet : (old : Network) → Quiet ≡ (network_receipt old).answer → QuietReceipt old
the_quiet old is = elim (receipt_cases old) [
  | inl quiet ↦ quiet
  | inr got ↦ absurd (got_is_not_quiet old got is)
]
