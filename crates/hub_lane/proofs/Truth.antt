-- What a lane over a link that tells is worth.
use Rattle.std.proofs.Common.{◌≡◌, ◌⊎◌, ℕ, zero, suc, ◌+◌, ◌*◌, ◌≤◌, Bool, true, false, List, [], ◌∷◌, ◌++◌, Option}
use Rattle.std.proofs.Common.{Some, None, map, refl, sym, ap, ◌∙◌, subst, arith, inl, inr, ◌||◌}
use Rattle.std.specs.Prelude.{IfSome}
use Rattle.std.specs.List.{AllByRecursion, Contains, slice_get}
use Rattle.std.proofs.lemmas.List.{append-nil, map-append}
use Rattle.ipb_base.specs.Lists.{IsPrefix}
use Rattle.world_model.specs.declared.datagram.Datagram.{Datagram}
use Rattle.world_model.specs.declared.offered.Fate.{Fate}
use Rattle.world_model.specs.declared.offered.Fate.TheVariants as fate
use Rattle.world_model.specs.declared.offered.Offered.{Offered}
use Rattle.world_model.specs.declared.offered.OpenPlace.{OpenPlace}
use Rattle.world_model.specs.Places.{at_place}
use Rattle.world_model.specs.Board.{Board, bodies_executed, replies}
use Rattle.world_model.specs.Hub.{HandedOut, Hub}
use Rattle.world_model.specs.Sends.{Next, next_send}
use Rattle.world_model.specs.World.{World, start}
use Rattle.world_model.specs.Facts.{IsStart, bodies_of, offered_body}
use Rattle.world_model.specs.History.{IsExecutedAtMostOnce, IsExecutedThere, IsHandedOut, IsTrueHistory}
use Rattle.world_model.specs.Lanes.{caught_up}
use Rattle.world_model.specs.Links.{Told}
use Rattle.world_model.proofs.Lists.{all_get, at_from_one, front_more, get_front}
use Rattle.world_model.proofs.Flushing.{send_cases}
use Rattle.reliable_engine.specs.Answers.{hub_next}
use Rattle.world_model.specs.Settings.{Limits}
use Rattle.links.specs.States.{IsReached, world_of_both}
use Rattle.links.specs.Receives.{since_status}
use Rattle.links.specs.Telling.{Telling}
use Rattle.lane_record.specs.declared.outcome.Outcome.{Outcome}
use Rattle.lane_record.specs.declared.outcome.Outcome.TheVariants as became
use Rattle.lane_record.specs.declared.item.Item.{Item}
use Rattle.lane_record.specs.Lists.{CountsFrom}
use Rattle.lane_record.specs.Claims.{Claim, IsFinished, IsTaken, claims, outcome_taken, taken_outcomes}
use Rattle.lane_record.specs.Legal.{IsLegal}
use Rattle.lane_record.specs.FirstSends.{bodies_sent, first_sends, places_of}
use Rattle.lane_record.specs.Offers.{Agrees, WasHandedOut}
use Rattle.lane_record.specs.Outcomes.{AreSettled}
use Rattle.lane_record.specs.Bounds.{AreLostOnlyIf, HasReached, TellRounds}
use Rattle.hub_lane.specs.Heard.{AreHeard, HasListened}
use Rattle.hub_lane.specs.Lanes.{BoardStatus, IsLane}
use Rattle.hub_lane.specs.Standing.{IsHandedFate, IsHandedLate, IsRunning, IsStanding}
use Rattle.hub_lane.specs.Truth.{AreRightLates, HasEachLate, IsTrueTo, IsWhole}
use Rattle.hub_lane.proofs.Standing.{if_told}

-- ---- the laws of world_core

abbrev pub ExecutedLaw : Type 0
ExecutedLaw = (begin : World) (out : HandedOut) (hub : Hub) (told : Told) → IsReached begin out hub told
    → IsPrefix (bodies_executed told.board) (bodies_of hub.sent)

abbrev pub AllFates : Type 0
AllFates = (hub : Hub) (told : Told) (out : HandedOut)
    → (caught_up (world_of_both hub told out)).fates ≡ out.fates ++ hub.fates

abbrev pub AllLates : Type 0
AllLates = (hub : Hub) (told : Told) (out : HandedOut)
    → (caught_up (world_of_both hub told out)).lates ≡ out.lates ++ hub.lates

abbrev pub SameBoard : Type 0
SameBoard = (hub : Hub) (told : Told) (out : HandedOut)
    → (caught_up (world_of_both hub told out)).board ≡ told.board

abbrev pub HistoryLaw : Type 0
HistoryLaw = (window rounds : ℕ) (board : Board) (air : List Datagram) (out : HandedOut) (hub : Hub)
    (told : Told) → IsStart window board air → IsReached (start window rounds board air) out hub told
    → IsTrueHistory (caught_up (world_of_both hub told out))

abbrev pub RepliedLaw : Type 0
RepliedLaw = (window rounds : ℕ) (board : Board) (air : List Datagram) (out : HandedOut) (hub : Hub) (told : Told)
    (tag place : ℕ) (words : List ℕ) → IsStart window board air
    → IsReached (start window rounds board air) out hub told
    → IsHandedOut (caught_up (world_of_both hub told out)) tag (fate.Replied place words)
    → IsExecutedThere (caught_up (world_of_both hub told out)) tag place

abbrev pub TimedOutLaw : Type 0
TimedOutLaw = (window rounds : ℕ) (board : Board) (air : List Datagram) (out : HandedOut) (hub : Hub) (told : Told)
    (tag place after : ℕ) → IsStart window board air → IsReached (start window rounds board air) out hub told
    → IsHandedOut (caught_up (world_of_both hub told out)) tag (fate.TimedOut place after)
    → IsExecutedAtMostOnce (caught_up (world_of_both hub told out)) tag place

pub record TruthLaws : Type 0 where
  pub executed : ExecutedLaw
  pub all_fates : AllFates
  pub all_lates : AllLates
  pub same_board : SameBoard
  pub history : HistoryLaw
  pub replied : RepliedLaw
  pub timed_out : TimedOutLaw

-- ---- a run

got_there : {A : Type 0} (xs : List A) (x : A) → (there : Contains xs x) → slice_get xs there.0 ≡ Some x
got_there [] x (k, few, is) = absurd (omega (arith, few))
got_there (y ∷ ys) x (zero, few, is) = ap (λ z. Some z) is
got_there (y ∷ ys) x (suc k, few, is) = got_there ys x (k, omega (arith, few), is)

module _ (laws : TruthLaws) (limits : Limits) (hub : Hub) (outcomes : List (Option Outcome))
    (lates : List (Option (List ℕ))) (t : Telling) (is : IsRunning limits hub outcomes lates t) where
  abbrev world : World
  world = caught_up (world_of_both hub t.told is.out)

  -- a fate that an outcome tells was handed out
  out_as : (k : ℕ) (f : Fate) → WasHandedOut is.out.fates k f → IsHandedOut world k f
  out_as k f out = record {
    number = out.number;
    there = ap (λ (fs : List (ℕ × Fate)). slice_get fs out.number) (laws.all_fates hub t.told is.out)
        ∙ get_front is.out.fates hub.fates out.number _ out.there;
  }

  board_answers : (place : ℕ) (words : List ℕ) → at_place (replies world.board) place ≡ Some words
      → at_place (replies t.told.board) place ≡ Some words
  board_answers place words there =
      ap (λ (b : Board). at_place (replies b) place) (sym (laws.same_board hub t.told is.out)) ∙ there

  truth : IsTrueHistory world
  truth = laws.history limits.window limits.rounds is.board is.air is.out hub t.told is.begins is.reached

  late_right : AreRightLates t lates
  late_right = record {
    right = λ place words there. (
        let out = is.late place words there in
        board_answers place words (truth.late place words (record {
          number = out.0;
          there = ap (λ (ls : List (ℕ × List ℕ)). slice_get ls out.0) (laws.all_lates hub t.told is.out)
              ∙ get_front is.out.lates hub.lates out.0 _ (got_there is.out.lates (place, words) out);
        })));
    handed = λ place words there. (
        let out = is.late place words there in
        all_get (IsHandedLate t) (is.out.lates ++ hub.lates) out.0 (place, words) is.handed.lates
        (get_front is.out.lates hub.lates out.0 _ (got_there is.out.lates (place, words) out)));
  }

  pub running_true : IsTrueTo t (bodies_of hub.sent) outcomes lates
  running_true = record {
    in_order = laws.executed (start limits.window limits.rounds is.board is.air) is.out hub t.told is.reached;
    replied = record {
      right = λ k place words there. board_answers place words (truth.replied k place words
          (out_as k (fate.Replied place words) (is.told k (became.Replied place words) there)));
      handed = λ k place words there. (
          let out = is.told k (became.Replied place words) there in
          all_get (IsHandedFate t) (is.out.fates ++ hub.fates) out.number (k, fate.Replied place words) is.handed.fates
          (get_front is.out.fates hub.fates out.number _ out.there));
    };
    late = late_right;
  }

  pub timed_from_one : (k place rounds : ℕ) → slice_get outcomes k ≡ Some (Some (became.TimedOut place rounds))
      → 1 ≤ place
  timed_from_one k place rounds timed =
      let at = laws.timed_out limits.window limits.rounds is.board is.air is.out hub t.told k place rounds is.begins
      is.reached (out_as k (fate.TimedOut place rounds) (is.told k (became.TimedOut place rounds) timed)) in
      at_from_one world.hub.sent place at.body at.sent

  -- a place that was timed out for one Ask was not replied for another, nor for this one
  pub one_fate : (k other place rounds : ℕ) (words : List ℕ)
      → slice_get outcomes k ≡ Some (Some (became.TimedOut place rounds))
      → slice_get outcomes other ≡ Some (Some (became.Replied place words)) → ⊥
  one_fate k other place rounds words timed replied =
      let at = laws.timed_out limits.window limits.rounds is.board is.air is.out hub t.told k place rounds is.begins
      is.reached (out_as k (fate.TimedOut place rounds) (is.told k (became.TimedOut place rounds) timed)) in
      let mine = laws.replied limits.window limits.rounds is.board is.air is.out hub t.told other place words is.begins
      is.reached (out_as other (fate.Replied place words) (is.told other (became.Replied place words) replied)) in
      let both : Some at.body ≡ Some mine.body = sym at.sent ∙ mine.sent in
      let same : at.body ≡ mine.body = cc in
      let tags : k ≡ other = sym at.tag_is ∙ (ap (λ (o : Offered). o.tag) same ∙ mine.tag_is) in
      let clash : Some (Some (became.TimedOut place rounds)) ≡ Some (Some (became.Replied place words)) =
      sym timed ∙ (ap (slice_get outcomes) tags ∙ replied) in
      cc

-- ---- a run whose last send was refused

abbrev pub SendsMore : Hub → Option Next → Type 0
SendsMore hub None = Unit {0}
SendsMore hub (Some next) = (more : List Offered) × (next.hub.sent ≡ hub.sent ++ more)

pub sends_more : (hub : Hub) → IfSome (next_send hub) (λ (n : Next). (more : List Offered) × (n.hub.sent ≡ hub.sent ++
    more))
sends_more hub = send_cases (λ (n : Next). (more : List Offered) × (n.hub.sent ≡ hub.sent ++ more)) hub
    ([], sym (append-nil hub.sent)) (λ w is. ([], sym (append-nil hub.sent))) (λ o later queue room. (o ∷ [], refl))

pub next_more : (hub : Hub) (r : Option Next)
    → IfSome r (λ (n : Next). (more : List Offered) × (n.hub.sent ≡ hub.sent ++ more))
    → (more : List Offered) × ((hub_next hub r).sent ≡ hub.sent ++ more)
next_more hub None is = ([], sym (append-nil hub.sent))
next_more hub (Some n) is = is

more_true : (t : Telling) (sent more longer : List Offered) (outcomes : List (Option Outcome))
    (lates : List (Option (List ℕ))) → longer ≡ sent ++ more
    → IsTrueTo t (bodies_of sent) outcomes lates → IsTrueTo t (bodies_of longer) outcomes lates
more_true t sent more longer outcomes lates same is = record {
  in_order = subst (IsPrefix (bodies_executed t.told.board)) (sym (ap bodies_of same ∙ map-append offered_body sent more))
      (front_more (bodies_executed t.told.board) (bodies_of sent) (bodies_of more) is.in_order);
  replied = is.replied;
  late = is.late;
}

pub standing_true : TruthLaws → (stopped : Bool) (limits : Limits) (hub : Hub)
    (outcomes : List (Option Outcome)) (lates : List (Option (List ℕ))) (t : Telling)
    → IsStanding stopped limits hub outcomes lates t → IsTrueTo t (bodies_of hub.sent) outcomes lates
standing_true laws false limits hub outcomes lates t is = running_true laws limits hub outcomes lates t is
standing_true laws true limits hub outcomes lates t is =
    let before = running_true laws limits is.before outcomes lates t is.running in
    elim is.refused [
      | inl same ↦ subst (λ (h : Hub). IsTrueTo t (bodies_of h.sent) outcomes lates) (sym same) before
      | inr next ↦
          let more = next_more is.before (next_send is.before) (sends_more is.before) in
          subst (λ (h : Hub). IsTrueTo t (bodies_of h.sent) outcomes lates) (sym next)
          (more_true t is.before.sent more.0 (hub_next is.before (next_send is.before)).sent outcomes lates more.1
          before)
    ]

-- ---- a finished record

less_waited : (paid more quiets : ℕ) → HasReached (paid + more) quiets → HasReached paid quiets
less_waited paid more quiets is = omega (arith, is)

still_lost : (P Q : Type 0) (outcomes : List (Option Outcome)) → (P → Q) → AreLostOnlyIf P outcomes
    → AreLostOnlyIf Q outcomes
still_lost P Q outcomes leads are = λ k o e lost. leads (are k o e lost)

-- every asked body of a finished record has an outcome
taken_settled : (items : List Item) (cs : List Claim) → AllByRecursion (IsTaken items) cs
    → AreSettled (map (outcome_taken items) cs)
taken_settled items [] all k none = absurd cc
taken_settled items (c ∷ cs) all zero none =
    let some : outcome_taken items c ≡ Some all.0.0 = all.0.1 in
    let nothing : outcome_taken items c ≡ None = cc in
    (let clash : Some all.0.0 ≡ None = sym some ∙ nothing in cc)
taken_settled items (c ∷ cs) all (suc k) none = taken_settled items cs all.1 k none

finished_settled : (items : List Item) → IsFinished items → AreSettled (taken_outcomes items)
finished_settled items finished = taken_settled items (claims items) finished

pub told_each : (telling : Option Telling) (P : Telling → Type 0) → ((t : Telling) → telling ≡ Some t → P t)
    → IfSome telling P
told_each None P leads = tt
told_each (Some t) P leads = leads t refl

pub whole : (settings : Limits) (status : BoardStatus) (hub : Hub) (items : List Item)
    (outcomes : List (Option Outcome)) (lates : List (Option (List ℕ))) (give_ups : ℕ) (down spent : Bool)
    (telling : Option Telling) (faults quiets : ℕ) (receives : List (Option (List ℕ)))
    → ((xs : List Item) (os : List (Option Outcome)) → IsLegal xs os → IsFinished xs → os ≡ taken_outcomes xs)
    → ((xs : List Item) (os : List (Option Outcome)) → IsLegal xs os → IsFinished xs
    → CountsFrom 1 (places_of (first_sends xs)))
    → ((xs : List Item) (os : List (Option Outcome)) (sent queue : List Offered) (opens : List OpenPlace)
    → IsLegal xs os → IsFinished xs → Agrees sent queue opens (claims xs) os
    → bodies_of sent ≡ bodies_sent (first_sends xs))
    → ((stopped : Bool) (limits : Limits) (h : Hub) (os : List (Option Outcome)) (ls : List (Option (List ℕ)))
    (t : Telling) → IsStanding stopped limits h os ls t → IsTrueTo t (bodies_of h.sent) os ls)
    → ((t : Telling) → telling ≡ Some t → (spent ≡ false) ⊎ AreSettled outcomes → HasEachLate t outcomes lates)
    → IsFinished items
    → IsLane settings status hub items outcomes lates give_ups down spent telling faults quiets
    → HasListened status hub outcomes lates give_ups receives
    → IsWhole items lates hub.sent hub.window hub.rounds give_ups faults quiets status receives telling
whole settings status hub items outcomes lates give_ups down spent telling faults quiets receives all_taken places sent
    true_to each_late finished is listened =
    let same = all_taken items outcomes is.kept.legal finished in
    let bodies = sent items outcomes hub.sent _ _ is.kept.legal finished is.agrees in
    record {
      legal = subst (IsLegal items) same is.kept.legal;
      places = places items outcomes is.kept.legal finished;
      bodies = bodies;
      within = is.kept.within;
      few = (let h = is.kept.few in rw (← same) h);
      waited = less_waited ((hub.rounds + 1) * give_ups) hub.status_requests quiets is.waited;
      greeting = listened.greeting;
      heard = subst (λ (os : List (Option Outcome)). AreHeard status.next os lates (since_status receives)) same
          listened.heard;
      waited_since = (let w = listened.waited in omega (arith, w));
      lost = subst (AreLostOnlyIf (1 ≤ faults)) same (still_lost (down ≡ true) (1 ≤ faults) outcomes is.fault is.lost);
      tells = subst (λ (r : ℕ). TellRounds r (taken_outcomes items)) (sym is.knows.rounds)
          (subst (TellRounds settings.rounds) same is.tells);
      truth = if_told (IsStanding (down || spent) settings hub outcomes lates)
          (λ t. IsTrueTo t (bodies_sent (first_sends items)) (taken_outcomes items) lates) telling is.standing
          (λ t standing. subst (λ (bs : List (List ℕ)). IsTrueTo t bs (taken_outcomes items) lates) bodies
          (subst (λ (os : List (Option Outcome)). IsTrueTo t (bodies_of hub.sent) os lates) same
          (true_to (down || spent) settings hub outcomes lates t standing)));
      each_late = told_each telling (λ t. HasEachLate t (taken_outcomes items) lates) (λ t told.
          subst (λ (os : List (Option Outcome)). HasEachLate t os lates) same
          (each_late t told (inr (subst AreSettled (sym same) (finished_settled items finished)))));
    }
