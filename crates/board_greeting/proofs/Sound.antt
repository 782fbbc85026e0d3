-- What a lane keeps, in the words of the history of its board.
use Rattle.std.proofs.Common.{◌≡◌, ◌⊎◌, ℕ, ◌+◌, ◌*◌, ◌≤◌, Bool, true, false, cond, List, [], ◌++◌, inr}
use Rattle.std.proofs.Common.{◌∷◌, Option, Some, None, refl, sym, ap, ◌∙◌, subst, arith, ◌||◌, append_assoc}
use Rattle.std.specs.Prelude.{IfSome}
use Rattle.std.specs.List.{count_by, slice_get}
use Rattle.std.proofs.Math.Nat.{mul-le-mul_left, mul_comm}
use Rattle.ipb_base.specs.Lists.{IsPrefix}
use Rattle.ipb_base.specs.Numbers.{payload_of}
use Rattle.board_bus.specs.Cells.{CellMap}
use Rattle.board_bus.specs.Bodies.{replay}
use Rattle.world_model.specs.declared.offered.Offered.{Offered}
use Rattle.world_model.specs.Board.{Board, bodies_executed}
use Rattle.world_model.specs.Places.{at_place}
use Rattle.world_model.specs.Facts.{bodies_of}
use Rattle.world_model.specs.Hub.{Hub}
use Rattle.world_model.specs.Settings.{Limits}
use Rattle.links.specs.Receives.{IsReplyAmong, first_status, quiets_in, receives_in, since_status}
use Rattle.links.specs.Telling.{Telling}
use Rattle.reliable_engine.specs.MachineRuns.{RunEvent}
use Rattle.lane_record.specs.declared.outcome.Outcome.{Outcome}
use Rattle.lane_record.specs.declared.outcome.Outcome.TheVariants.{Replied, TimedOut, Unsent, LinkLost}
use Rattle.lane_record.specs.declared.item.Item.{Item}
use Rattle.lane_record.specs.Claims.{Claim, claims}
use Rattle.lane_record.specs.Bounds.{AreLostOnlyIf, HasReached, HasWaited, IsKept}
use Rattle.lane_record.specs.Offers.{offers_from}
use Rattle.lane_record.specs.Outcomes.{AreSettled, is_replied}
use Rattle.hub_lane.specs.Calls as lane
use Rattle.hub_lane.specs.Heard.{HasHeard, HasListened, HasWaitedIn, told_by}
use Rattle.hub_lane.specs.Lanes.{BoardStatus, IsLane}
use Rattle.hub_lane.specs.Run.{HasRun}
use Rattle.hub_lane.specs.Standing.{IsStanding}
use Rattle.hub_lane.specs.Truth.{AreRightReplies, HasEachLate, IsTrueTo}
use Rattle.board_history.specs.Parts.{IsReplyOf}
use Rattle.board_history.specs.Records.{has_become}
use Rattle.board_history.proofs.Merges.{sent_offered}
use Rattle.board_history.proofs.Waits.{count_cons}
use Rattle.board_history.specs.Lanes.{IsLateAsHanded, IsSoundLane, IsTrueOf, bodies_offered}
use Rattle.board_history.specs.Links.{LinkReport, board_there}
use Rattle.board_history.specs.Receives.{HasBroughtReply}
use Rattle.board_greeting.specs.Reports.{OpenedWith}

abbrev pub TrueLaw : Type 0
TrueLaw = (stopped : Bool) (limits : Limits) (hub : Hub) (outcomes : List (Option Outcome))
    (lates : List (Option (List ℕ))) (t : Telling) → IsStanding stopped limits hub outcomes lates t
    → IsTrueTo t (bodies_of hub.sent) outcomes lates

abbrev pub EachLateLaw : Type 0
EachLateLaw = (settings : Limits) (status : BoardStatus) (hub : Hub) (items : List Item)
    (outcomes : List (Option Outcome)) (lates : List (Option (List ℕ))) (give_ups : ℕ) (down spent : Bool) (t : Telling)
    (faults quiets : ℕ) → IsLane settings status hub items outcomes lates give_ups down spent (Some t) faults quiets
    → (spent ≡ false) ⊎ AreSettled outcomes → HasEachLate t outcomes lates

-- ---- a window that is no wider

few_more : (n less more g : ℕ) → less ≤ more → n ≤ less * g → n ≤ more * g
few_more n less more g le few =
    let grows = mul-le-mul_left g le in
    let left = mul_comm less g in
    let right = mul_comm more g in
    omega (arith, few, grows, left, right)

waited_all : (rounds g requests quiets : ℕ) → HasWaited rounds g requests quiets → HasReached ((rounds + 1) * g) quiets
waited_all rounds g requests quiets is = omega (arith, is)

waited_behind : (rounds g requests : ℕ) (receives : List (Option (List ℕ)))
    → HasWaitedIn rounds g requests receives → (rounds + 1) * g ≤ quiets_in receives
waited_behind rounds g requests receives is = omega (arith, is)

wider : (items : List Item) (outcomes : List (Option Outcome)) (less more g : ℕ) → less ≤ more
    → IsKept items outcomes less g → IsKept items outcomes more g
wider items outcomes less more g le is = record {
  legal = is.legal;
  within = is.within;
  given_up_before = is.given_up_before;
  few = few_more _ less more g le is.few;
}

-- ---- what is true over a link that tells

front_longer : (done sent all : List (List ℕ)) → IsPrefix done sent → IsPrefix sent all → IsPrefix done all
front_longer done sent all one two =
    (one.0 ++ two.0, two.1 ∙ (ap (λ (xs : List (List ℕ)). xs ++ two.0) one.1 ∙ append_assoc done one.0 two.0))

reply_is : (opening : CellMap) (t : Telling) (outcomes : List (Option Outcome)) (k : ℕ) (outcome : Outcome)
    → OpenedWith opening t → AreRightReplies t outcomes → slice_get outcomes k ≡ Some (Some outcome)
    → IsReplyOf (replay opening (bodies_executed t.told.board)).replies outcome
reply_is opening t outcomes k (Replied place words) opened right there =
    subst (λ (o : CellMap). IsReplyOf (replay o (bodies_executed t.told.board)).replies (Replied place words)) opened
    (right.right k place words there)
reply_is opening t outcomes k (TimedOut place rounds) opened right there = tt
reply_is opening t outcomes k Unsent opened right there = tt
reply_is opening t outcomes k (LinkLost place) opened right there = tt

true_of : TrueLaw → (stopped : Bool) (limits : Limits) (hub : Hub) (queue : List Offered) (cs : List Claim)
    (outcomes : List (Option Outcome)) (lates : List (Option (List ℕ))) (opening : CellMap) (t : Telling)
    → OpenedWith opening t → hub.sent ++ queue ≡ offers_from 0 cs outcomes
    → IsStanding stopped limits hub outcomes lates t
    → IsTrueOf opening cs outcomes lates (bodies_executed t.told.board)
true_of law stopped limits hub queue cs outcomes lates opening t opened same standing =
    let truth = law stopped limits hub outcomes lates t standing in
    record {
      front = front_longer (bodies_executed t.told.board) (bodies_of hub.sent) (bodies_offered cs outcomes) truth.in_order
          (sent_offered hub.sent queue cs outcomes same);
      replies = λ k outcome there. reply_is opening t outcomes k outcome opened truth.replied there;
      late = λ place words came.
          subst (λ (o : CellMap). at_place (replay o (bodies_executed t.told.board)).replies place ≡ Some words) opened
          (truth.late.right place words came);
    }

-- what came late for a body that was timed out is what the link handed out for it
late_as_handed : TrueLaw → EachLateLaw → (settings : Limits) (status : BoardStatus) (hub : Hub) (items : List Item)
    (outcomes : List (Option Outcome)) (lates : List (Option (List ℕ))) (give_ups : ℕ) (down spent : Bool)
    (telling : Option Telling) (faults quiets : ℕ)
    → IsLane settings status hub items outcomes lates give_ups down spent telling faults quiets
    → AreSettled outcomes → IfSome telling (IsLateAsHanded outcomes lates)
late_as_handed law each settings status hub items outcomes lates give_ups down spent None faults quiets is settled = tt
late_as_handed law each settings status hub items outcomes lates give_ups down spent (Some t) faults quiets is settled =
    let truth = law (down || spent) settings hub outcomes lates t is.standing in
    let has = each settings status hub items outcomes lates give_ups down spent t faults quiets is (inr settled) in
    λ k place rounds there words. (truth.late.handed place words, has k place rounds words there)

-- what holds where a link tells is said of the board that it shows
shown : (P Q : Telling → Type 0) (R : Board → Type 0) (telling : Option Telling) → IfSome telling P → IfSome telling Q
    → ((t : Telling) → P t → Q t → R t.told.board) → IfSome (board_there telling) R
shown P Q R None p q leads = tt
shown P Q R (Some t) p q leads = leads t p q

lost_if : (P Q : Type 0) (outcomes : List (Option Outcome)) → (P → Q) → AreLostOnlyIf P outcomes
    → AreLostOnlyIf Q outcomes
lost_if P Q outcomes leads are = λ k outcome there lost. leads (are k outcome there lost)

-- ---- replies

reply_counted : (o : Option Outcome) → has_become is_replied o ≡ lane.is_replied o
reply_counted None = refl
reply_counted (Some (Replied place words)) = refl
reply_counted (Some (TimedOut place rounds)) = refl
reply_counted (Some Unsent) = refl
reply_counted (Some (LinkLost place)) = refl

replies_counted : (os : List (Option Outcome)) → count_by (has_become is_replied) os ≡ count_by lane.is_replied os
replies_counted [] = refl
replies_counted (o ∷ os) = count_cons (has_become is_replied) o os
    ∙ ap (λ (b : Bool). cond b 1 0 + count_by (has_become is_replied) os) (reply_counted o)
    ∙ ap (λ (n : ℕ). cond (lane.is_replied o) 1 0 + n) (replies_counted os) ∙ sym (count_cons lane.is_replied o os)

-- ---- the words of replies

-- what is among the receives behind the status is what the link brought
brought : (link : LinkReport) (status : BoardStatus) (place : ℕ) (words : List ℕ)
    → first_status (receives_in link.traffic) ≡ Some (told_by status)
    → IsReplyAmong status.next place words (since_status (receives_in link.traffic)) → HasBroughtReply link place words
brought link status place words told among = record {
  mtu = status.mtu;
  buffers = status.buffers;
  first = status.next;
  status = told;
  among = among;
}

-- ---- a lane

pub sound_lane : TrueLaw → EachLateLaw → (settings : Limits) (status : BoardStatus) (hub : Hub) (items : List Item)
    (outcomes : List (Option Outcome)) (lates : List (Option (List ℕ))) (give_ups : ℕ) (down spent : Bool)
    (run : List RunEvent) (link : LinkReport) (opening : CellMap)
    → IsLane settings status hub items outcomes lates give_ups down spent link.telling link.faults link.quiets
    → IfSome link.telling (λ _. HasReached (settings.rounds * give_ups) link.held) → HasHeard outcomes link.gots
    → HasListened status hub outcomes lates give_ups (receives_in link.traffic)
    → HasRun settings status hub items outcomes lates down spent run link.traffic
    → IfSome link.telling (OpenedWith opening)
    → IsSoundLane settings opening (payload_of status.mtu) link items outcomes lates give_ups
sound_lane law each settings status hub items outcomes lates give_ups down spent run link opening is paid heard listened
    ran opened = record {
      greeted = record {
        mtu = status.mtu;
        buffers = status.buffers;
        first = status.next;
        status = listened.greeting;
        packets = refl;
      };
      kept = wider items outcomes hub.window settings.window give_ups (let w = is.knows.window in omega (arith, w))
          is.kept;
      waited = waited_all settings.rounds give_ups hub.status_requests link.quiets
          (subst (λ (r : ℕ). HasWaited r give_ups hub.status_requests link.quiets) is.knows.rounds is.waited);
      waited_since = waited_behind settings.rounds give_ups hub.status_requests (since_status (receives_in link.traffic))
          (subst (λ (r : ℕ). HasWaitedIn r give_ups hub.status_requests (since_status (receives_in link.traffic))) is.knows.rounds
          listened.waited);
      heard = subst (λ (n : ℕ). HasReached (n + 1) link.gots) (sym (replies_counted outcomes)) heard;
      words = λ k place words there. brought link status place words listened.greeting
          (listened.heard.replied k place words there);
      late_words = λ place words there. brought link status place words listened.greeting
          (listened.heard.late place words there);
      lost = lost_if (down ≡ true) (1 ≤ link.faults) outcomes is.fault is.lost;
      tells = is.tells;
      late = is.late.timed_out;
      told = shown (IsStanding (down || spent) settings hub outcomes lates) (OpenedWith opening)
          (λ (board : Board). IsTrueOf opening (claims items) outcomes lates (bodies_executed board)) link.telling
          is.standing opened
          (λ t standing opens. true_of law (down || spent) settings hub (cond down [] hub.queue) (claims items) outcomes
          lates opening t opens is.agrees.offered standing);
      exactly = late_as_handed law each settings status hub items outcomes lates give_ups down spent
          link.telling link.faults link.quiets is;
      held = paid;
      ran = record {
        status = status;
        packets = refl;
        told = listened.greeting;
        hub = hub;
        run = run;
        down = down;
        spent = spent;
        failed = is.fault;
        agrees = is.agrees;
        has_run = ran;
      };
    }
