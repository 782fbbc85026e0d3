-- What follows of past greetings and the present one.
use Rattle.std.proofs.Common.{◌≡◌, ℕ, suc, ◌++◌, Bool, List, [], ◌∷◌, Option, Some, None, ◌||◌, refl, true}
use Rattle.std.specs.Prelude.{IfSome, is_some}
use Rattle.std.specs.List.{AllByRecursion, slice_get}
use Rattle.links.specs.Receives.{receives_in}
use Rattle.links.specs.Telling.{Telling}
use Rattle.links.specs.declared.link.Link.{Ghosts}
use Rattle.world_model.specs.Facts.{bodies_of}
use Rattle.world_model.specs.Hub.{Hub}
use Rattle.world_model.specs.Settings.{Limits}
use Rattle.lane_record.specs.declared.item.Item.{Item}
use Rattle.lane_record.specs.declared.outcome.Outcome.{Outcome}
use Rattle.lane_record.specs.Claims.{IsFinished, IsTaken, claims, outcome_taken}
use Rattle.lane_record.specs.Legal.{IsLegal}
use Rattle.lane_record.proofs.Asks.{apart}
use Rattle.lane_tables.specs.Taken.{IsAllTaken}
use Rattle.hub_lane.specs.Heard.{HasListened}
use Rattle.hub_lane.specs.Lanes.{BoardStatus, IsLane, LaneState}
use Rattle.hub_lane.specs.Standing.{IsStanding}
use Rattle.hub_lane.specs.Truth.{IsTrueTo, IsWhole}
use Rattle.board_berth.specs.declared.greeting.Greeting.{Greeting}
use Rattle.board_berth.specs.declared.greeting.Greeting.TheVariants.{Answered, Silent, Down}
use Rattle.board_berth.specs.Greetings.{IfAnswered, IsPast, IsPresent, KeepsAll}
use Rattle.board_berth.specs.Laws.{HasRecord, HasWholeRecord, HaveRecords, HaveWholeRecords}

abbrev pub TrueLaw : Type 0
TrueLaw = (stopped : Bool) (limits : Limits) (hub : Hub) (outcomes : List (Option Outcome))
    (lates : List (Option (List ℕ))) (t : Telling) → IsStanding stopped limits hub outcomes lates t
    → IsTrueTo t (bodies_of hub.sent) outcomes lates

abbrev pub WholeLaw : Type 0
WholeLaw = (settings : Limits) (status : BoardStatus) (hub : Hub) (items : List Item)
    (outcomes : List (Option Outcome)) (lates : List (Option (List ℕ))) (give_ups : ℕ) (down spent : Bool)
    (telling : Option Telling) (faults quiets : ℕ) (receives : List (Option (List ℕ))) → IsFinished items
    → IsLane settings status hub items outcomes lates give_ups down spent telling faults quiets
    → HasListened status hub outcomes lates give_ups receives
    → IsWhole items lates hub.sent hub.window hub.rounds give_ups faults quiets status receives telling

each_in : {A : Type 0} (P : A → Type 0) (xs : List A) → ((k : ℕ) (x : A) → slice_get xs k ≡ Some x → P x)
    → AllByRecursion P xs
each_in P [] each = tt
each_in P (x ∷ xs) each = (each 0 x refl, each_in P xs (λ k y there. each (suc k) y there))

taken_is : (o : Option Outcome) → is_some o ≡ true → (outcome : Outcome) × (o ≡ Some outcome)
taken_is None is = absurd cc
taken_is (Some outcome) is = (outcome, refl)

-- each Ask has its Took where each planned body was asked and taken
pub all_finished : (items : List Item) (outcomes : List (Option Outcome)) → IsLegal items outcomes → IsAllTaken items
    → IsFinished items
all_finished items outcomes legal taken =
    let below = (apart items legal.asks_follow_plans.count).below in
    each_in (IsTaken items) (claims items) (λ k claim there.
    taken_is (outcome_taken items claim) ((taken claim.client).taken claim.seq (below k claim there)))

if_told : (P Q : Telling → Type 0) (telling : Option Telling) → ((t : Telling) → P t → Q t) → IfSome telling P
    → IfSome telling Q
if_told P Q None leads is = tt
if_told P Q (Some t) leads is = leads t is

module _ {L : Type 0} (seen : Ghosts L) where
  record_of : TrueLaw → (lane : LaneState L) → KeepsAll seen lane → HasRecord seen lane
  record_of law lane keeps = record {
    legal = keeps.sound.kept.legal;
    truth = if_told (IsStanding (lane.down || lane.spent) lane.settings lane.hub lane.outcomes lane.lates)
        (λ t. IsTrueTo t (bodies_of lane.hub.sent) lane.outcomes lane.lates) (seen.telling lane.link)
        (law (lane.down || lane.spent) lane.settings lane.hub lane.outcomes lane.lates) keeps.sound.standing;
  }

  present_record : TrueLaw → (settings : Limits) (number : ℕ) (greeting : Greeting L)
      → IsPresent seen settings number greeting → IfAnswered (HasRecord seen) greeting
  present_record law settings number (Answered by lane) is = record_of law lane is.keeps
  present_record law settings number (Silent link) is = tt
  present_record law settings number (Down link) is = tt

  pub have_records : TrueLaw → (settings : Limits) (number : ℕ) (past : List (Greeting L)) (present : Greeting L)
      → AllByRecursion (IsPast seen settings number) past → IsPresent seen settings number present
      → HaveRecords seen (past ++ present ∷ [])
  have_records law settings number [] present all is = (present_record law settings number present is, tt)
  have_records law settings number (greeting ∷ past) present all is = (
    present_record law settings number greeting all.0.present,
    have_records law settings number past present all.1 is,
  )

  whole_record : WholeLaw → (settings : Limits) (number : ℕ) (greeting : Greeting L)
      → IsPast seen settings number greeting → IfAnswered (HasWholeRecord seen) greeting
  whole_record law settings number (Answered by lane) is =
      let keeps : KeepsAll seen lane = is.present.keeps in
      let finished = all_finished lane.items lane.outcomes keeps.sound.kept.legal is.over in
      record {
        finished = finished;
        whole = law lane.settings lane.status lane.hub lane.items lane.outcomes lane.lates lane.give_ups lane.down
            lane.spent (seen.telling lane.link) (seen.faults lane.link) (seen.quiets lane.link)
            (receives_in (seen.traffic lane.link)) finished keeps.sound keeps.listened;
      }
  whole_record law settings number (Silent link) is = tt
  whole_record law settings number (Down link) is = tt

  pub have_whole_records : WholeLaw → (settings : Limits) (number : ℕ) (past : List (Greeting L))
      → AllByRecursion (IsPast seen settings number) past → HaveWholeRecords seen past
  have_whole_records law settings number [] all = tt
  have_whole_records law settings number (greeting ∷ past) all =
      (whole_record law settings number greeting all.0, have_whole_records law settings number past all.1)
