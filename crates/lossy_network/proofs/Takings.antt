-- Datagrams taken from the front of the queue, one after another: there are no more than `most_takings`.
use Rattle.std.proofs.Common.{◌≡◌, ◌∙◌, ℕ, zero, suc, ◌+◌, ◌<◌, ◌≤◌, Bool, true, false, not, cond, List, [], ◌∷◌}
use Rattle.std.proofs.Common.{◌++◌, ◌*◌, length, map, nat_lt, Option, Some, None, refl, sym, ap, subst, arith}
use Rattle.std.specs.List.{filter, slice_get}
use Rattle.world_model.specs.declared.datagram.Datagram.{Datagram}
use Rattle.world_model.specs.declared.datagram.Direction.TheVariants.{ToBoard}
use Rattle.world_model.specs.Air.{goes_to}
use Rattle.world_model.specs.Board.{hear}
use Rattle.world_model.specs.World.{air_after_answer}
use Rattle.world_model.specs.Links.{Told, first_sends, heard_by}
use Rattle.lossy_network.specs.declared.fates.DatagramFate.{DatagramFate}
use Rattle.lossy_network.specs.declared.fates.DatagramFate.TheVariants.{Delivered, Lost, Repeated, Delayed}
use Rattle.lossy_network.specs.declared.under_way.Late.{Late}
use Rattle.lossy_network.specs.Fates.{fate_at}
use Rattle.lossy_network.specs.Traffic.{Traffic, due_at, is_due, meets, place_of, put_on, still_late}
use Rattle.lossy_network.specs.Network.{ForHub, Front, Network, Nothing, Taken, Taking, all_taken}
use Rattle.lossy_network.specs.Network.{front, front_of, front_with, hub_bytes, most_takings, put_at}
use Rattle.lossy_network.specs.Network.{takes, weight, weight_of, with_queue}
use Rattle.lossy_network.specs.Inside.{stands}
use Rattle.lossy_network.proofs.Hearing.{heard_on_is}

-- ---- weights

weight-append : (air : List Datagram) (xs ys : List ℕ) → weight air (xs ++ ys) ≡ weight air xs + weight air ys
weight-append air [] ys = omega arith
weight-append air (x ∷ xs) ys = omega (arith, weight-append air xs ys)

-- an answer adds no weight
no_weight : (birth : ℕ) (r : Option (List ℕ)) (place : ℕ) → weight_of (slice_get (air_after_answer birth r) place) ≡ 1
no_weight birth None place = refl
no_weight birth (Some bytes) zero = refl
no_weight birth (Some bytes) (suc place) = refl

same_weight_at : (air : List Datagram) (birth : ℕ) (r : Option (List ℕ)) (place : ℕ)
    → weight_of (slice_get (air ++ air_after_answer birth r) place) ≡ weight_of (slice_get air place)
same_weight_at [] birth r place = no_weight birth r place
same_weight_at (d ∷ air) birth r zero = refl
same_weight_at (d ∷ air) birth r (suc place) = same_weight_at air birth r place

same_weight : (air : List Datagram) (birth : ℕ) (r : Option (List ℕ)) (places : List ℕ)
    → weight (air ++ air_after_answer birth r) places ≡ weight air places
same_weight air birth r [] = refl
same_weight air birth r (place ∷ places) =
    omega (arith, same_weight_at air birth r place, same_weight air birth r places)

weight_split : (air : List Datagram) (place : ℕ) (late : Late) (b : Bool) (due still : List Late)
    → weight air (map place_of (cond b (late ∷ due) due))
    + weight air (map place_of (cond (not b) (late ∷ still) still))
    ≡ weight_of (slice_get air late.place) + (weight air (map place_of due) + weight air (map place_of still))
weight_split air place late true due still = omega arith
weight_split air place late false due still = omega arith

-- a release moves weight
released_weight : (air : List Datagram) (place : ℕ) (delayed : List Late)
    → weight air (due_at place delayed) + weight air (map place_of (still_late place delayed))
    ≡ weight air (map place_of delayed)
released_weight air place [] = refl
released_weight air place (late ∷ delayed) = weight_split air place late (is_due place late)
    (filter (is_due place) delayed) (still_late place delayed)
    ∙ ap (λ (n : ℕ). weight_of (slice_get air late.place) + n) (released_weight air place delayed)

abbrev pub load : List Datagram → Traffic → ℕ
load air traffic = weight air traffic.queue + weight air (map place_of traffic.delayed)

pub places-push : (delayed : List Late) (late : Late)
    → map place_of (delayed ++ late ∷ []) ≡ map place_of delayed ++ late.place ∷ []
places-push [] late = refl
places-push (x ∷ delayed) late = ap (λ (xs : List ℕ). x.place ∷ xs) (places-push delayed late)

met_load : (air : List Datagram) (fate : DatagramFate) (place : ℕ) (traffic : Traffic)
    → load air (meets fate place traffic) ≤ load air traffic + 2 * weight_of (slice_get air place)
met_load air Delivered place traffic = omega (arith, weight-append air traffic.queue (place ∷ []))
met_load air Lost place traffic = omega arith
met_load air Repeated place traffic = omega (arith, weight-append air traffic.queue (place ∷ place ∷ []))
met_load air (Delayed by) place traffic =
    let late : Late = record { place = place; by = by } in
    omega (
      arith,
      ap (weight air) (places-push traffic.delayed late),
      weight-append air (map place_of traffic.delayed) (place ∷ []),
    )

put_load : (air : List Datagram) (fate : DatagramFate) (place : ℕ) (traffic : Traffic)
    → load air (put_on fate place traffic) ≤ load air traffic + 2 * weight_of (slice_get air place)
put_load air fate place traffic =
    let met = meets fate place traffic in
    omega (
      arith,
      met_load air fate place traffic,
      released_weight air place met.delayed,
      weight-append air met.queue (due_at place met.delayed),
    )

-- ---- each taking makes the load less

by_direction : (b : Bool) → 1 ≤ cond b 3 1
by_direction true = omega arith
by_direction false = omega arith

weight_positive : (r : Option Datagram) → 1 ≤ weight_of r
weight_positive None = omega arith
weight_positive (Some d) = by_direction (goes_to ToBoard d.direction)

-- the board heard one: its weight is gone, and an answer is there twice at most
abbrev pub after_put : Network → Told → Bool → Network
after_put net told b = cond b (put_at (length net.told.air) (record net { told = told })) (record net { told = told })

past_end : {T : Type 0} (xs : List T) → slice_get xs (length xs) ≡ None
past_end [] = refl
past_end (x ∷ xs) = past_end xs

heard_load : (net : Network) (birth : ℕ) (r : Option (List ℕ)) (told : Told) (b : Bool)
    → told.air ≡ net.told.air ++ air_after_answer birth r
    → most_takings (after_put net told b) ≤ most_takings net + 2
heard_load net birth r told false air =
    rw air (omega (
      arith,
      same_weight net.told.air birth r net.traffic.queue,
      same_weight net.told.air birth r (map place_of net.traffic.delayed),
    ))
heard_load net birth r told true air =
    let place = length net.told.air in
    let one : weight_of (slice_get told.air place) ≡ 1 =
    ap (λ (xs : List Datagram). weight_of (slice_get xs place)) air ∙ (same_weight_at net.told.air birth r place
    ∙ ap weight_of (past_end net.told.air)) in
    let before : load told.air net.traffic ≡ most_takings net =
    ap (λ (xs : List Datagram). load xs net.traffic) air
    ∙ omega (
      arith,
      same_weight net.told.air birth r net.traffic.queue,
      same_weight net.told.air birth r (map place_of net.traffic.delayed),
    ) in
    omega (arith, one, before, put_load told.air (fate_at net.fates place) place net.traffic)

board_weight : (d : Datagram) → goes_to ToBoard d.direction ≡ true → weight_of (Some d) ≡ 3
board_weight d is = rw is refl

abbrev pub IsLess : ℕ → Front → Type 0
IsLess most Nothing = Unit {0}
IsLess most (ForHub place bytes) = Unit {0}
IsLess most (Taken taking after) = most_takings after < most

less_with : (net : Network) (place : ℕ) (queue : List ℕ) (bytes : Option (List ℕ)) (r : Option Told)
    → heard_by net.told (slice_get net.told.air place) ≡ r
    → IsLess (most_takings (with_queue net (place ∷ queue))) (front_with (with_queue net queue) place bytes r)
less_with net place queue (Some bytes) r is = tt
less_with net place queue None None is = omega (arith, weight_positive (slice_get net.told.air place))
less_with net place queue None (Some told) is =
    let on = heard_on_is net.told told (slice_get net.told.air place) is in
    let heavy : weight_of (slice_get net.told.air place) ≡ 3 =
    ap weight_of on.there ∙ board_weight on.datagram on.for_board in
    omega (
      arith,
      heavy,
      heard_load (with_queue net queue) (first_sends net.told)
          (hear net.told.board on.datagram.bytes).answer told (nat_lt (length net.told.air) (length told.air))
          (ap (λ (t : Told). t.air) on.heard),
    )

less_of : (net : Network) (queue : List ℕ) → IsLess (most_takings (with_queue net queue)) (front_of net queue)
less_of net [] = tt
less_of net (place ∷ queue) = less_with net place queue (hub_bytes net.told (slice_get net.told.air place))
    (heard_by net.told (slice_get net.told.air place)) refl

pub taken_is_less : (net after : Network) (taking : Taking) → front net ≡ Taken taking after
    → most_takings after < most_takings net
taken_is_less net after taking is = subst (IsLess (most_takings net)) is (less_of net net.traffic.queue)

-- ---- so many takings suffice

pub still : (k : ℕ) (net : Network) (f : Front) → front net ≡ f → stands f ≡ true → takes k net ≡ net
still zero net f is st = refl
still (suc k) net Nothing is st = rw is refl
still (suc k) net (ForHub place bytes) is st = rw is refl
still (suc k) net (Taken taking after) is st = absurd cc

pub takes_one : (k : ℕ) (net after : Network) (taking : Taking) → front net ≡ Taken taking after
    → takes (suc k) net ≡ takes k after
takes_one k net after taking is = rw is refl

none_left : (k : ℕ) (net : Network) (f : Front) → front net ≡ f → most_takings net ≤ 0 → takes k net ≡ net
none_left k net Nothing is none = still k net Nothing is refl
none_left k net (ForHub place bytes) is none = still k net (ForHub place bytes) is refl
none_left k net (Taken taking after) is none = absurd (omega (arith, taken_is_less net after taking is))

step_by : (j k : ℕ) (net : Network) (f : Front) → front net ≡ f
    → ((after : Network) (taking : Taking) → front net ≡ Taken taking after → takes j after ≡ takes k after)
    → takes (suc j) net ≡ takes (suc k) net
step_by j k net Nothing is later = still (suc j) net Nothing is refl ∙ sym (still (suc k) net Nothing is refl)
step_by j k net (ForHub place bytes) is later = still (suc j) net (ForHub place bytes) is refl
    ∙ sym (still (suc k) net (ForHub place bytes) is refl)
step_by j k net (Taken taking after) is later =
    takes_one j net after taking is ∙ (later after taking is ∙ sym (takes_one k net after taking is))

pub enough : (j k : ℕ) (net : Network) → most_takings net ≤ j → most_takings net ≤ k → takes j net ≡ takes k net
enough zero k net within_j within_k = sym (none_left k net (front net) refl within_j)
enough (suc j) zero net within_j within_k = none_left (suc j) net (front net) refl within_k
enough (suc j) (suc k) net within_j within_k = step_by j k net (front net) refl (λ after taking is.
    enough j k after (omega (arith, taken_is_less net after taking is))
    (omega (arith, taken_is_less net after taking is)))

-- one taking leaves all the others
pub all_after_one : (net after : Network) (taking : Taking) → front net ≡ Taken taking after
    → all_taken net ≡ all_taken after
all_after_one net after taking is =
    let less = taken_is_less net after taking is in
    let most = most_takings net in
    enough most (suc most) net (omega arith) (omega arith) ∙ (takes_one most net after taking is
    ∙ enough most (most_takings after) after (omega (arith, less)) (omega arith))

stands_by : (k : ℕ) (net : Network) (f : Front) → front net ≡ f
    → ((after : Network) (taking : Taking) → front net ≡ Taken taking after → stands (front (takes k after)) ≡ true)
    → stands (front (takes (suc k) net)) ≡ true
stands_by k net Nothing is later =
    ap (λ (n : Network). stands (front n)) (still (suc k) net Nothing is refl) ∙ ap stands is
stands_by k net (ForHub place bytes) is later =
    ap (λ (n : Network). stands (front n)) (still (suc k) net (ForHub place bytes) is refl) ∙ ap stands is
stands_by k net (Taken taking after) is later =
    ap (λ (n : Network). stands (front n)) (takes_one k net after taking is) ∙ later after taking is

none_stands : (net : Network) (f : Front) → front net ≡ f → most_takings net ≤ 0 → stands f ≡ true
none_stands net Nothing is none = refl
none_stands net (ForHub place bytes) is none = refl
none_stands net (Taken taking after) is none = absurd (omega (arith, taken_is_less net after taking is))

stands_after : (k : ℕ) (net : Network) → most_takings net ≤ k → stands (front (takes k net)) ≡ true
stands_after zero net within = none_stands net (front net) refl within
stands_after (suc k) net within = stands_by k net (front net) refl (λ after taking is.
    stands_after k after (omega (arith, taken_is_less net after taking is)))

-- then nothing is left to take
pub all_stands : (net : Network) → stands (front (all_taken net)) ≡ true
all_stands net = stands_after (most_takings net) net (omega arith)

-- one more after some
more_by : (k : ℕ) (net after : Network) (taking : Taking) (f : Front) → front net ≡ f
    → front (takes (suc k) net) ≡ Taken taking after
    → ((mid : Network) (first : Taking) → front net ≡ Taken first mid → front (takes k mid) ≡ Taken taking after
    → takes (suc k) mid ≡ after)
    → takes (suc (suc k)) net ≡ after
more_by k net after taking Nothing is next later =
    absurd (let same = ap front (still (suc k) net Nothing is refl) in cc)
more_by k net after taking (ForHub place bytes) is next later =
    absurd (let same = ap front (still (suc k) net (ForHub place bytes) is refl) in cc)
more_by k net after taking (Taken first mid) is next later = takes_one (suc k) net mid first is
    ∙ later mid first is (sym (ap front (takes_one k net mid first is)) ∙ next)

takes_then : (k : ℕ) (net after : Network) (taking : Taking) → front (takes k net) ≡ Taken taking after
    → takes (suc k) net ≡ after
takes_then zero net after taking is = takes_one zero net after taking is
takes_then (suc k) net after taking is = more_by k net after taking (front net) refl is
    (λ mid first here next. takes_then k mid after taking next)

pub some_then : (begin net after : Network) (taking : Taking) → (some : (k : ℕ) × (net ≡ takes k begin))
    → front net ≡ Taken taking after → (k : ℕ) × (after ≡ takes k begin)
some_then begin net after taking some is =
    (suc some.0, sym (takes_then some.0 begin after taking (sym (ap front some.1) ∙ is)))
