-- A lane over a link that tells keeps each late answer that the link hands out.
use Rattle.std.proofs.Common.{◌≡◌, ◌⊎◌, ⊎_elim, ℕ, zero, suc, ◌+◌, ◌≤◌, ◌||◌, Bool, true, false, cond}
use Rattle.std.proofs.Common.{List, [], ◌∷◌, ◌++◌, length, length-append, Option, Some, None, refl, sym}
use Rattle.std.proofs.Common.{ap, ◌∙◌, subst, arith, inl, inr}
use Rattle.std.specs.Prelude.{if◌then◌else◌}
use Rattle.std.specs.List.{Contains, slice_get}
use Rattle.std.proofs.lemmas.List.{append-nil, length-map}
use Rattle.board_bus.proofs.Bodies.{replay-length}
use Rattle.world_model.specs.declared.offered.Fate.{Fate}
use Rattle.world_model.specs.declared.offered.Fate.TheVariants as fate
use Rattle.world_model.specs.declared.offered.Offered.{Offered}
use Rattle.world_model.specs.declared.offered.OpenPlace.{OpenPlace}
use Rattle.world_model.specs.Places.{at_place}
use Rattle.world_model.specs.Board.{bodies_executed, replies}
use Rattle.world_model.specs.Hub.{HandedOut, Hub, IsDrained, is_waiting, some_queued, some_waited}
use Rattle.world_model.specs.Sends.{next_send}
use Rattle.world_model.specs.Facts.{bodies_of, offered_body}
use Rattle.world_model.specs.Answered.{AreAllAnswered, HasLateAnswer, HasReply}
use Rattle.world_model.specs.LateAnswers.{AreOfTimedOut}
use Rattle.world_model.specs.Settings.{Limits}
use Rattle.world_model.proofs.Lists.{all_get, at_within, front_length}
use Rattle.links.specs.Telling.{Telling}
use Rattle.lane_record.specs.declared.outcome.Outcome.{Outcome}
use Rattle.lane_record.specs.declared.outcome.Outcome.TheVariants as became
use Rattle.lane_record.specs.declared.item.Item.{Item}
use Rattle.lane_record.specs.Claims.{Claim, claims}
use Rattle.lane_record.specs.Lates.{late_in}
use Rattle.lane_record.specs.Offers.{Agrees, awaited_tags, outcome_of, tag_at, tags, unsettled_from}
use Rattle.lane_record.specs.Outcomes.{AreSettled}
use Rattle.hub_lane.specs.LateAnswers.{AreLateAnswers}
use Rattle.hub_lane.specs.Lanes.{BoardStatus, IsLane}
use Rattle.hub_lane.specs.Standing.{IsRunning, IsStanding, NoneOpenHanded, WaitsInVain}
use Rattle.hub_lane.specs.Truth.{HasEachLate}
use Rattle.hub_lane.proofs.Handed.{handed_words}
use Rattle.hub_lane.proofs.Truth.{TruthLaws, next_more, one_fate, running_true, sends_more, timed_from_one}

-- the model's law on the places that a hub sent
abbrev pub AnsweredLaw : Type 0
AnsweredLaw = (before : HandedOut) (hub : Hub) → AreOfTimedOut before hub → AreAllAnswered before hub

contained : {A : Type 0} (xs : List A) (k : ℕ) (x : A) → slice_get xs k ≡ Some x → Contains xs x
contained [] k x there = absurd cc
contained (y ∷ ys) zero x there = (0, omega arith, (let same : y ≡ x = cc in same))
contained (y ∷ ys) (suc k) x there =
    let later = contained ys k x there in
    (suc later.0, (let few = later.1 in omega (arith, few)), later.2)

-- ---- a hub, and the state of a run that it is or was

module _ (laws : TruthLaws) (answered : AnsweredLaw) (limits : Limits) (before hub : Hub)
    (outcomes : List (Option Outcome)) (lates : List (Option (List ℕ))) (t : Telling)
    (run : IsRunning limits before outcomes lates t) (more : length before.sent ≤ length hub.sent)
    (drained : IsDrained hub) (none : NoneOpenHanded hub t) (late : AreLateAnswers hub outcomes lates) where
  -- the place of a reply that was handed out was sent
  was_sent : (place : ℕ) (words : List ℕ) → at_place (replies t.told.board) place ≡ Some words
      → place ≤ length hub.sent
  was_sent place words there =
      let done = bodies_executed t.told.board in
      let within = at_within (replies t.told.board) place words there in
      let as_many = replay-length t.told.board.opening done in
      let front = front_length done (bodies_of before.sent) run.reached.joined.sound.log.front in
      let bodies = length-map before.sent offered_body in
      omega (arith, within, as_many, front, bodies, more)

  -- no reply in time was taken for a body that was timed out
  no_reply : (k place rounds : ℕ) → slice_get outcomes k ≡ Some (Some (became.TimedOut place rounds))
      → HasReply (late.handed_out.out.fates ++ hub.fates) place → ⊥
  no_reply k place rounds timed replied =
      let out = late.handed_out.out in
      let all = ap (λ (fs : List (ℕ × Fate)). out.fates ++ fs) drained.fates ∙ append-nil out.fates in
      one_fate laws limits before outcomes lates t run k replied.tag place rounds replied.words timed
      (all_get (λ (f : ℕ × Fate). slice_get outcomes f.0 ≡ Some (Some (outcome_of f.1))) out.fates replied.number
      (replied.tag, fate.Replied place replied.words) late.handed_out.told
      (ap (λ (fs : List (ℕ × Fate)). slice_get fs replied.number) (sym all) ∙ replied.there))

  -- a late answer that was handed out came late at its place
  came_late : (place : ℕ) (words : List ℕ) → at_place (replies t.told.board) place ≡ Some words
      → HasLateAnswer (late.handed_out.out.lates ++ hub.lates) place → late_in lates place ≡ Some words
  came_late place words right came =
      let out = late.handed_out.out in
      let all = ap (λ (ls : List (ℕ × List ℕ)). out.lates ++ ls) drained.lates ∙ append-nil out.lates in
      let there = contained out.lates came.number (place, came.words)
      (ap (λ (ls : List (ℕ × List ℕ)). slice_get ls came.number) (sym all) ∙ came.there) in
      let kept = late.handed_out.late.kept place came.words there in
      let board = (running_true laws limits before outcomes lates t run).late.right place came.words kept in
      kept ∙ (sym board ∙ right)

  pub keeps_each : HasEachLate t outcomes lates
  keeps_each k place rounds words timed handed =
      let one = timed_from_one laws limits before outcomes lates t run k place rounds timed in
      let right = handed_words before t place words run.reached.joined one handed in
      elim ((answered late.handed_out.out hub late.handed_out.account).each place one (was_sent place words right)) [
        | inl open_there ↦ absurd (none.none place words open_there handed)
        | inr rest ↦ elim rest [
          | inl replied ↦ absurd (no_reply k place rounds timed replied)
          | inr came ↦ came_late place words right came
        ]
      ]

-- ---- a lane

none_unsettled : (n : ℕ) (outcomes : List (Option Outcome)) → AreSettled outcomes → unsettled_from n outcomes ≡ []
none_unsettled n [] settled = refl
none_unsettled n (None ∷ os) settled = absurd (settled 0 refl)
none_unsettled n (Some o ∷ os) settled = none_unsettled (n + 1) os (λ k there. settled (suc k) there)

no_tags : (queue : List Offered) → tags queue ≡ [] → some_queued queue ≡ false
no_tags [] e = refl
no_tags (q ∷ qs) e = cc

no_awaited : (sent : List Offered) (os : List OpenPlace) → awaited_tags sent os ≡ [] → some_waited os ≡ false
no_awaited sent [] e = refl
no_awaited sent (o ∷ os) e = elim o.waited
    as (λ b. (if b then tag_at sent o.place ∷ awaited_tags sent os else awaited_tags sent os) ≡ []
    → (b || some_waited os) ≡ false) [
      | true ↦ λ e. absurd cc
      | false ↦ λ e. no_awaited sent os e
    ] e

both_none : (xs ys : List ℕ) → xs ++ ys ≡ [] → (xs ≡ []) × (ys ≡ [])
both_none [] ys e = (refl, e)
both_none (x ∷ xs) ys e = absurd cc

-- where something became of each Ask nobody waits
nobody_waits : (hub : Hub) (cs : List Claim) (outcomes : List (Option Outcome))
    → Agrees hub.sent hub.queue hub.open_places cs outcomes → AreSettled outcomes → is_waiting hub ≡ false
nobody_waits hub cs outcomes agrees settled =
    let none = both_none (awaited_tags hub.sent hub.open_places) (tags hub.queue)
    (agrees.waits ∙ none_unsettled 0 outcomes settled) in
    let queued = no_tags hub.queue none.1 in
    let waited = no_awaited hub.sent hub.open_places none.0 in
    rw (queued, waited) refl

no_open_handed : (settings : Limits) (status : BoardStatus) (hub : Hub) (items : List Item)
    (outcomes : List (Option Outcome)) (lates : List (Option (List ℕ))) (give_ups : ℕ) (down spent : Bool)
    (t : Telling) (faults quiets : ℕ)
    → IsLane settings status hub items outcomes lates give_ups down spent (Some t) faults quiets
    → (spent ≡ false) ⊎ AreSettled outcomes → NoneOpenHanded hub t
no_open_handed settings status hub items outcomes lates give_ups down spent t faults quiets is settled = ⊎_elim
    (λ (none : NoneOpenHanded hub t). none)
    (λ (vain : WaitsInVain hub down spent). ⊎_elim
    (λ (up : spent ≡ false). absurd (let clash : true ≡ false = sym vain.ran_out ∙ up in cc))
    (λ (all : AreSettled outcomes).
    let agrees = subst (λ (b : Bool). Agrees hub.sent (cond b [] hub.queue) (cond b [] hub.open_places)
    (claims items) outcomes) vain.link_up is.agrees in
    absurd (let clash : true ≡ false = sym vain.waits ∙ nobody_waits hub _ outcomes agrees all in cc))
    settled)
    is.unanswered

keeps_standing : TruthLaws → AnsweredLaw → (stopped : Bool) (limits : Limits) (hub : Hub)
    (outcomes : List (Option Outcome))
    (lates : List (Option (List ℕ))) (t : Telling) → IsDrained hub → NoneOpenHanded hub t
    → AreLateAnswers hub outcomes lates → IsStanding stopped limits hub outcomes lates t → HasEachLate t outcomes lates
keeps_standing laws answered false limits hub outcomes lates t drained none late is =
    keeps_each laws answered limits hub hub outcomes lates t is (omega arith) drained none late
keeps_standing laws answered true limits hub outcomes lates t drained none late is = elim is.refused [
  | inl same ↦ keeps_each laws answered limits is.before hub outcomes lates t is.running
      (let as_many = ap (λ (h : Hub). length h.sent) same in omega (arith, as_many)) drained none late
  | inr next ↦
      let more = next_more is.before (next_send is.before) (sends_more is.before) in
      let long = ap (λ (h : Hub). length h.sent) next in
      let longer = ap length more.1 in
      keeps_each laws answered limits is.before hub outcomes lates t is.running
      (omega (arith, long, longer, length-append is.before.sent more.0)) drained none late
]

pub lane_keeps_each : TruthLaws → AnsweredLaw → (settings : Limits) (status : BoardStatus) (hub : Hub)
    (items : List Item)
    (outcomes : List (Option Outcome)) (lates : List (Option (List ℕ))) (give_ups : ℕ) (down spent : Bool)
    (t : Telling) (faults quiets : ℕ)
    → IsLane settings status hub items outcomes lates give_ups down spent (Some t) faults quiets
    → (spent ≡ false) ⊎ AreSettled outcomes → HasEachLate t outcomes lates
lane_keeps_each laws answered settings status hub items outcomes lates give_ups down spent t faults quiets is settled =
    keeps_standing laws answered (down || spent) settings hub outcomes lates t is.ready.drained
    (no_open_handed settings status hub items outcomes lates give_ups down spent t faults quiets is settled) is.late
    is.standing
