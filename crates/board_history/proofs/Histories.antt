-- Over a link that tells: what the board executed, and its replies.
use Rattle.std.proofs.Common.{◌≡◌, ◌≢◌, ℕ, zero, suc, ◌+◌, ◌≤◌, List, [], ◌∷◌, ◌++◌, length, map}
use Rattle.std.proofs.Common.{Option, Some, None, refl, sym, ap, ◌∙◌, subst, if◌then◌else◌}
use Rattle.std.specs.Prelude.{is_some, IfSome}
use Rattle.std.specs.List.{AllByRecursion, slice_get}
use Rattle.std.proofs.lemmas.Option.{same_Some}
use Rattle.ipb_base.specs.Lists.{IsPrefix}
use Rattle.ipb_base.proofs.AllLemmas.{all-map}
use Rattle.board_bus.specs.Cells.{CellMap}
use Rattle.board_bus.specs.Bodies.{replay}
use Rattle.board_bus.proofs.Bodies.{replay-append-replies, replay-length}
use Rattle.world_model.specs.declared.offered.Offered.{Offered}
use Rattle.world_model.specs.Places.{at_place}
use Rattle.world_model.proofs.Lists.{at_front, at_within}
use Rattle.lane_record.specs.declared.outcome.Outcome.{Outcome}
use Rattle.lane_record.specs.declared.outcome.Outcome.TheVariants.{Replied, TimedOut, Unsent, LinkLost}
use Rattle.lane_record.specs.declared.item.Item.{Item}
use Rattle.lane_record.specs.Outcomes.{AreSettled, place_of}
use Rattle.lane_record.specs.Claims.{Claim, claims, taken_outcomes, outcome_taken, IsFinished}
use Rattle.lane_record.specs.Legal.{IsLegal}
use Rattle.lane_record.specs.Lates.{late_in}
use Rattle.lane_record.specs.Offers.{offers_from}
use Rattle.lane_record.proofs.Finished.{outcomes_taken}
use Rattle.board_history.specs.Order.{Placed, with_place, order, bodies_in}
use Rattle.board_history.specs.Parts.{IsReplyOf, IsExecuted, IsExecutedOnce, AreRepliesOf, AreLateRepliesOf}
use Rattle.board_history.specs.Lanes.{bodies_offered, IsTrueOf}
use Rattle.board_history.specs.Lates.{AreLatesOf}
use Rattle.board_history.proofs.Lates.{lates_executed, late_replies}
use Rattle.board_history.proofs.Steps.{Step, steps_of, steps, outcome_in, of, all_of, AreOf}
use Rattle.board_history.proofs.Steps.{AreStepsOfAll, all_at}
use Rattle.board_history.proofs.Orders.{sent, AreInOrder, order_is}

-- ---- what holds of what became of each Ask holds of each outcome

pub steps_outcomes : (P : Outcome → Type 0) (cs : List Claim) (os : List (Option Outcome))
    → AllByRecursion (λ (o : Option Outcome). IfSome o P) os
    → AllByRecursion (λ (s : Step). P s.outcome) (steps_of cs os)
steps_outcomes P [] os all = tt
steps_outcomes P (c ∷ cs) [] all = tt
steps_outcomes P (c ∷ cs) (None ∷ os) all = steps_outcomes P cs os all.1
steps_outcomes P (c ∷ cs) (Some o ∷ os) all = (all.0, steps_outcomes P cs os all.1)

mapped : (P : Outcome → Type 0) (ss : List Step) → AllByRecursion (λ (s : Step). P s.outcome) ss
    → AllByRecursion P (map outcome_in ss)
mapped P [] all = tt
mapped P (s ∷ ss) all = (all.0, mapped P ss all.1)

clients_outcomes : (P : Outcome → Type 0) (client : ℕ) (bodies : List (List (List ℕ))) (outcomes : List (List Outcome))
    (ss : List Step) → AreOf client bodies outcomes ss → AllByRecursion (λ (s : Step). P s.outcome) ss
    → AllByRecursion (AllByRecursion P) outcomes
clients_outcomes P client [] [] ss are all = tt
clients_outcomes P client [] (os ∷ others) ss are all = absurd are
clients_outcomes P client (bs ∷ later) [] ss are all = absurd are
clients_outcomes P client (bs ∷ later) (os ∷ others) ss are all = (
  subst (AllByRecursion P) (sym are.0.outcomes')
      (mapped P (of client ss) (all_of (λ (s : Step). P s.outcome) client ss all)),
  clients_outcomes P (client + 1) later others ss are.1 all,
)

pub each_outcome : (P : Outcome → Type 0) (bodies : List (List (List ℕ))) (outcomes : List (List Outcome))
    (ss : List Step) → AreStepsOfAll bodies outcomes ss → AllByRecursion (λ (s : Step). P s.outcome) ss
    → AllByRecursion (AllByRecursion P) outcomes
each_outcome P bodies outcomes ss are all = clients_outcomes P 1 bodies outcomes ss are.clients all

if_there : (P : Outcome → Type 0) (o : Option Outcome) → ((p : Outcome) → o ≡ Some p → P p) → IfSome o P
if_there P None f = tt
if_there P (Some o) f = f o refl

-- of a record that is finished
pub became_outcomes : (P : Outcome → Type 0) (items : List Item) (became : List (Option Outcome))
    → IsLegal items became → IsFinished items
    → ((k : ℕ) (o : Outcome) → slice_get became k ≡ Some (Some o) → P o)
    → AllByRecursion (λ (s : Step). P s.outcome) (steps items)
became_outcomes P items became legal done all = steps_outcomes P (claims items) (taken_outcomes items)
    (subst (AllByRecursion (λ (o : Option Outcome). IfSome o P)) (outcomes_taken items became legal done)
    (all_at (λ (o : Option Outcome). IfSome o P) became
    (λ k o e. if_there P o (λ p same. all k p (e ∙ ap (λ z. Some z) same)))))

-- where each Ask has its Took something became of it
all_some : (f : Claim → Option Outcome) (cs : List Claim)
    → AllByRecursion (λ (c : Claim). (o : Outcome) × (f c ≡ Some o)) cs → (k : ℕ)
    → slice_get (map f cs) k ≢ Some None
all_some f [] all k none = absurd cc
all_some f (c ∷ cs) all zero none =
    let here : f c ≡ None = same_Some (f c) None none in absurd (let both = sym here ∙ all.0.1 in cc)
all_some f (c ∷ cs) all (suc k) none = all_some f cs all.1 k none

pub are_settled : (items : List Item) (became : List (Option Outcome)) → IsLegal items became → IsFinished items
    → AreSettled became
are_settled items became legal done = λ k none. all_some (outcome_taken items) (claims items) done k
    (ap (λ (os : List (Option Outcome)). slice_get os k) (sym (outcomes_taken items became legal done)) ∙ none)

-- ---- what may have been sent was sent

abbrev pub offered_body : Offered → List ℕ
offered_body o = o.body

one_offered : (n : ℕ) (body : List ℕ) (place : Option ℕ) (rest : List Offered) (ps : List Placed)
    → map offered_body rest ≡ bodies_in ps
    → map offered_body (if is_some place then record { tag = n; body = body } ∷ rest else rest)
    ≡ bodies_in (with_place body place ++ ps)
one_offered n body None rest ps e = e
one_offered n body (Some place) rest ps e = ap (λ (bs : List (List ℕ)). body ∷ bs) e

offered_sent : (n : ℕ) (f : Claim → Option Outcome) (cs : List Claim)
    → AllByRecursion (λ (c : Claim). (o : Outcome) × (f c ≡ Some o)) cs
    → map offered_body (offers_from n cs (map f cs)) ≡ bodies_in (sent (steps_of cs (map f cs)))
offered_sent n f [] all = refl
offered_sent n f (c ∷ cs) all =
    let os = map f cs in
    let later = one_offered n c.body (place_of all.0.0) (offers_from (n + 1) cs os) (sent (steps_of cs os))
    (offered_sent (n + 1) f cs all.1) in
    subst (λ (o : Option Outcome). map offered_body (offers_from n (c ∷ cs) (o ∷ os))
    ≡ bodies_in (sent (steps_of (c ∷ cs) (o ∷ os)))) (sym all.0.1)
    (subst (λ (o : Option Outcome). map offered_body (offers_from n (c ∷ cs) (Some all.0.0 ∷ os))
    ≡ bodies_in (sent (steps_of (c ∷ cs) (Some all.0.0 ∷ os)))) all.0.1 later)

pub offered_are_sent : (items : List Item) (became : List (Option Outcome)) → IsLegal items became → IsFinished items
    → bodies_offered (claims items) became ≡ bodies_in (sent (steps items))
offered_are_sent items became legal done =
    ap (bodies_offered (claims items)) (outcomes_taken items became legal done)
    ∙ offered_sent 0 (outcome_taken items) (claims items) done

-- ---- replays

-- the reply of a front is that of the whole
same_in_whole : (opening : CellMap) (done all : List (List ℕ)) → IsPrefix done all → (place : ℕ) (words : List ℕ)
    → at_place (replay opening done).replies place ≡ Some words
    → at_place (replay opening all).replies place ≡ Some words
same_in_whole opening done all front place words is =
    let more = (replay (replay opening done).cells front.0).replies in
    subst (λ (bs : List (List ℕ)). at_place (replay opening bs).replies place ≡ Some words) (sym front.1)
    (subst (λ (rs : List (List ℕ)). at_place rs place ≡ Some words) (sym (replay-append-replies opening done front.0))
    (at_front (replay opening done).replies more place words is))

-- and its body is among the front
place_executed : (opening : CellMap) (done : List (List ℕ)) (place : ℕ) (words : List ℕ)
    → at_place (replay opening done).replies place ≡ Some words → place ≤ length done
place_executed opening done place words is = subst (λ (n : ℕ). place ≤ n) (replay-length opening done)
    (at_within (replay opening done).replies place words is)

reply_in_order : (opening : CellMap) (done all : List (List ℕ)) → IsPrefix done all → (o : Outcome)
    → IsReplyOf (replay opening done).replies o → IsReplyOf (replay opening all).replies o
reply_in_order opening done all front (Replied place words) is =
    same_in_whole opening done all front place words is
reply_in_order opening done all front (TimedOut place rounds) is = tt
reply_in_order opening done all front Unsent is = tt
reply_in_order opening done all front (LinkLost place) is = tt

pub reply_executed : (opening : CellMap) (done : List (List ℕ)) (o : Outcome)
    → IsReplyOf (replay opening done).replies o → IsExecuted (length done) o
reply_executed opening done (Replied place words) is = place_executed opening done place words is
reply_executed opening done (TimedOut place rounds) is = tt
reply_executed opening done Unsent is = tt
reply_executed opening done (LinkLost place) is = tt

-- ---- the history

-- What the board executed is a front of what was sent, and each reply is that of this front. So is what came late at a
-- place.
pub record IsTrueOfSteps (opening : CellMap) (ss : List Step) (lates : List (Option (List ℕ)))
    (done : List (List ℕ)) : Type 0 where
  pub front : IsPrefix done (bodies_in (sent ss))
  pub replies : AllByRecursion (λ (s : Step). IsReplyOf (replay opening done).replies s.outcome) ss
  pub late : (place : ℕ) (words : List ℕ) → late_in lates place ≡ Some words
      → at_place (replay opening done).replies place ≡ Some words

pub true_steps : (opening : CellMap) (items : List Item) (became : List (Option Outcome))
    (lates : List (Option (List ℕ))) (done : List (List ℕ)) → IsLegal items became → IsFinished items
    → IsTrueOf opening (claims items) became lates done → IsTrueOfSteps opening (steps items) lates done
true_steps opening items became lates done legal all is = record {
  front = subst (IsPrefix done) (offered_are_sent items became legal all) is.front;
  replies = became_outcomes (IsReplyOf (replay opening done).replies) items became legal all is.replies;
  late = is.late;
}

module _ (bodies : List (List (List ℕ))) (outcomes : List (List Outcome)) (ss : List Step) (opening : CellMap)
    (lates : List (Option (List ℕ))) (done : List (List ℕ)) (are : AreStepsOfAll bodies outcomes ss)
    (counts : AreInOrder ss) (is : IsTrueOfSteps opening ss lates done) where
  pub executed_once : (shown : List (List (Option (List ℕ)))) → AreLatesOf lates outcomes shown
      → IsExecutedOnce (order bodies outcomes) outcomes shown done
  executed_once shown of_lane = record {
    front = subst (λ (ps : List Placed). IsPrefix done (bodies_in ps)) (sym (order_is bodies outcomes ss are counts))
        is.front;
    replied = each_outcome (IsExecuted (length done)) bodies outcomes ss are
        (all-map (λ (s : Step). IsReplyOf (replay opening done).replies s.outcome)
        (λ (s : Step). IsExecuted (length done) s.outcome) ss (λ s r. reply_executed opening done s.outcome r)
        is.replies);
    late = lates_executed lates (length done)
        (λ place words came. place_executed opening done place words (is.late place words came)) outcomes shown
        of_lane;
  }

  pub replies_of : AreRepliesOf opening (order bodies outcomes) outcomes
  replies_of =
      let all = bodies_in (sent ss) in
      subst (λ (ps : List Placed). AreRepliesOf opening ps outcomes) (sym (order_is bodies outcomes ss are counts))
      (each_outcome (IsReplyOf (replay opening all).replies) bodies outcomes ss are
      (all-map (λ (s : Step). IsReplyOf (replay opening done).replies s.outcome)
      (λ (s : Step). IsReplyOf (replay opening all).replies s.outcome) ss
      (λ s r. reply_in_order opening done all is.front s.outcome r) is.replies))

  pub late_replies_of : (shown : List (List (Option (List ℕ)))) → AreLatesOf lates outcomes shown
      → AreLateRepliesOf opening (order bodies outcomes) outcomes shown
  late_replies_of shown of_lane =
      let all = bodies_in (sent ss) in
      subst (λ (ps : List Placed). AreLateRepliesOf opening ps outcomes shown)
      (sym (order_is bodies outcomes ss are counts))
      (late_replies lates (replay opening all).replies
      (λ place words came. same_in_whole opening done all is.front place words (is.late place words came)) outcomes
      shown of_lane)
