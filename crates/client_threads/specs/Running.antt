-- What one client does on the lanes, call by call: how the code keeps what it did so far. Profile.
use Rattle.std.specs.Prelude.{◌≡◌, ◌==◌, ℕ, ◌+◌, ◌≤◌, if◌then◌else◌, List, [], ◌∷◌, ◌++◌, length, map, Some, None}
use Rattle.std.specs.List.{AllByRecursion, slice_get}
use Rattle.turn_pass.specs.Pass.{Knowledge}
use Rattle.lane_record.specs.declared.outcome.Outcome.{Outcome}
use Rattle.lane_record.specs.declared.item.Item.{Item}
use Rattle.lane_record.specs.Items.{plan_in}
use Rattle.lane_record.specs.Coding.{as_recorded}
use Rattle.lane_record.specs.Dispatches.{NumberedAction, asks_from, dispatches_from, outcomes_in_order, numbered_action}
use Rattle.lane_record.specs.Dispatches.{tooks_from}
use Rattle.hub_multiplexer.specs.Seats.{SeatState}
use Rattle.client_threads.specs.Clients.{HoldsPlans}

-- ---- one lane

-- How far a client came on a lane for which so many bodies are planned: what became of the bodies of the dispatches
-- that are done, how many bodies of the present one were asked, and what became of those that were taken.
pub record Position : Type 0 where
  pub client : ℕ
  pub planned : ℕ
  pub done : List (List Outcome)
  pub asks : ℕ
  pub taken : List Outcome

-- how many bodies the dispatches before had: the number of the first body of the present one
abbrev pub behind : Position → ℕ
behind p = length (outcomes_in_order p.done)

abbrev pub actions_at : Position → List NumberedAction
actions_at p = dispatches_from 0 p.done ++ (asks_from (behind p) p.asks ++ tooks_from (behind p) p.taken)

-- what the pass of a client that came so far knows
pub record IsAt (p : Position) (k : Knowledge) : Type 0 where
  pub number : k.number ≡ p.client
  pub plans : HoldsPlans p.client p.planned k
  pub items : List Item
  pub coded : k.mine ≡ map as_recorded items
  pub makers : AllByRecursion (λ (x : Item). x.client ≡ p.client) items
  pub actions : map numbered_action items ≡ actions_at p

-- after so many Asks more, and after Tooks of these outcomes more
abbrev pub asking : ℕ → Position → Position
asking n p = record p { asks = p.asks + n }

abbrev pub taking : List Outcome → Position → Position
taking outcomes p = record p { taken = p.taken ++ outcomes }

-- between two dispatches
abbrev pub between : ℕ → ℕ → List (List Outcome) → Position
between client planned done = record { client = client; planned = planned; done = done; asks = 0; taken = [] }

-- ---- what a call did on a lane

-- the client asked for so many bodies more, wherever it was in the Asks of a dispatch
abbrev pub HasAskedMore : ℕ → Knowledge → Knowledge → Type 0
HasAskedMore n k after = (p : Position) → IsAt p k → p.taken ≡ [] → IsAt (asking n p) after

-- the client took these outcomes, wherever it was
abbrev pub HasTakenThese : List Outcome → Knowledge → Knowledge → Type 0
HasTakenThese outcomes k after = (p : Position) → IsAt p k → IsAt (taking outcomes p) after

-- the client took so many outcomes, which stand behind those that it had
pub record HasTakenMore (n : ℕ) (had have : List Outcome) (k after : Knowledge) : Type 0 where
  pub more : List Outcome
  pub many : length more ≡ n
  pub grew : have ≡ had ++ more
  pub took : HasTakenThese more k after

-- the client asked for so many bodies and then took what became of them
pub record HasDispatched (n : ℕ) (had have : List Outcome) (k after : Knowledge) : Type 0 where
  pub more : List Outcome
  pub many : length more ≡ n
  pub grew : have ≡ had ++ more
  pub went : (client planned : ℕ) (done : List (List Outcome)) → IsAt (between client planned done) k
      → IsAt (between client planned (done ++ more ∷ [])) after

-- the client did dispatches of these numbers of bodies, of all that were planned
pub record HasRun (client planned : ℕ) (counts : List ℕ) (k : Knowledge) (have : List Outcome) : Type 0 where
  pub done : List (List Outcome)
  pub cut : map length done ≡ counts
  pub outcomes : have ≡ outcomes_in_order done
  pub stands : IsAt (between client planned done) k

-- the pass added entries none of which is a Plan
pub record AddsNoPlan (k after : Knowledge) : Type 0 where
  pub same_number : after.number ≡ k.number
  pub same_joined : after.joined ≡ k.joined
  pub added : List Item
  pub grew : after.mine ≡ k.mine ++ map as_recorded added
  pub none : AllByRecursion (λ (x : Item). plan_in x.what ≡ None) added

-- so many bodies more are planned, and none of those asked was taken
pub record CanAsk (n : ℕ) (k : Knowledge) : Type 0 where
  pub place : Position
  pub stands : IsAt place k
  pub none_taken : place.taken ≡ []
  pub enough : behind place + place.asks + n ≤ place.planned

-- so many bodies more were asked than taken
pub record CanTake (n : ℕ) (k : Knowledge) : Type 0 where
  pub place : Position
  pub stands : IsAt place k
  pub enough : length place.taken + n ≤ place.asks

-- ---- all lanes

-- so of each lane, of what stands there in two lists
pub record AtEach {A B : Type 0} (xs : List A) (ys : List B) (holds : ℕ → A → B → Type 0) : Type 0 where
  pub long : length ys ≡ length xs
  pub each : (lane : ℕ) (x : A) (y : B) → slice_get xs lane ≡ Some x → slice_get ys lane ≡ Some y → holds lane x y

-- so of each lane
abbrev pub OfEach : {A : Type 0} → List A → (ℕ → A → Type 0) → Type 0
OfEach {A} xs holds = (lane : ℕ) (x : A) → slice_get xs lane ≡ Some x → holds lane x

-- these outcomes on one lane, and none on another
abbrev pub on_lane : ℕ → List Outcome → ℕ → List Outcome
on_lane at outcomes lane = if at == lane then outcomes else []

-- the seat is of the same client and the same turns
abbrev pub IsSameSeat : SeatState → SeatState → Type 0
IsSameSeat old new = (new.client ≡ old.client) × (new.turns ≡ old.turns)

-- no call planned anything
abbrev pub AddNoPlans : List Knowledge → List Knowledge → Type 0
AddNoPlans old new = AtEach old new (λ lane. AddsNoPlan)

-- so many bodies were asked of each lane
abbrev pub AskedOnEach : (ℕ → ℕ) → List Knowledge → List Knowledge → Type 0
AskedOnEach n old new = AtEach old new (λ lane. HasAskedMore (n lane))

-- so many outcomes were taken on each lane, which stand in the lists of outcomes
pub record TookOnEach (n : ℕ → ℕ) (had have : List (List Outcome)) (old new : List Knowledge) : Type 0 where
  pub long : length have ≡ length had
  pub took : AtEach old new (λ lane k after. (was now : List Outcome) → slice_get had lane ≡ Some was
      → slice_get have lane ≡ Some now → HasTakenMore (n lane) was now k after)

-- so many outcomes were taken on this lane, which stand behind those that the client had there
pub record TookOn (at n : ℕ) (had have : List Outcome) (old new : List Knowledge) : Type 0 where
  pub more : List Outcome
  pub many : length more ≡ n
  pub grew : have ≡ had ++ more
  pub took : AtEach old new (λ lane. HasTakenThese (on_lane at more lane))

-- a dispatch was done, of so many bodies on each lane
pub record DispatchedOnEach (n : ℕ → ℕ) (had have : List (List Outcome)) (old new : List Knowledge) : Type 0 where
  pub long : length have ≡ length had
  pub did : AtEach old new (λ lane k after. (was now : List Outcome) → slice_get had lane ≡ Some was
      → slice_get have lane ≡ Some now → HasDispatched (n lane) was now k after)
