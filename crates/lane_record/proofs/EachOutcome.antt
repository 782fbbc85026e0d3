-- Lemmas on what holds of each outcome so far: it holds on while fates are handed out and while a link fails, where it
-- holds of what comes.
use Rattle.std.proofs.Common.{◌≡◌, ℕ, zero, suc, ◌+◌, cond, List, [], ◌∷◌, map, Option, Some, None, refl, sym, subst}
use Rattle.std.specs.Prelude.{IfSome, nat_lt}
use Rattle.std.specs.List.{AllByRecursion}
use Rattle.ipb_base.proofs.AllLemmas.{AllByRecursion-append}
use Rattle.world_model.specs.declared.offered.Offered.{Offered}
use Rattle.world_model.specs.declared.offered.OpenPlace.{OpenPlace}
use Rattle.world_model.specs.declared.offered.Fate.{Fate}
use Rattle.world_model.specs.declared.offered.Fate.TheVariants as fate
use Rattle.world_model.specs.Messages.{ToHub, Reply, StatusReply}
use Rattle.world_model.specs.Places.{at_place}
use Rattle.world_model.specs.Hub.{Hub, give_up, tag_of, take_message, time_out, unsent_fate}
use Rattle.world_model.proofs.Lists.{either}
use Rattle.world_model.proofs.Flushing.{reply_cases, status_cases}
use Rattle.world_model.proofs.Hubs.{all_inserted, all_unsent}
use Rattle.lane_record.specs.declared.outcome.Outcome.{Outcome}
use Rattle.lane_record.specs.declared.outcome.Outcome.TheVariants.{Replied, TimedOut, Unsent, LinkLost}
use Rattle.lane_record.specs.Outcomes.{is_sent}
use Rattle.lane_record.specs.Offers.{all_lost, lost_after, outcome_of, put, put_all}

module _ (P : Outcome → Type 0) where
  abbrev pub HoldsIfThere : Option Outcome → Type 0
  HoldsIfThere o = IfSome o P

  abbrev pub HoldOfEach : List (Option Outcome) → Type 0
  HoldOfEach outs = AllByRecursion HoldsIfThere outs

  abbrev FateHolds : ℕ × Fate → Type 0
  FateHolds f = P (outcome_of f.1)

  -- ---- outcomes that come

  put_holds : (k : ℕ) (o : Outcome) (outs : List (Option Outcome)) → P o → HoldOfEach outs → HoldOfEach (put k o outs)
  put_holds k o [] is are = tt
  put_holds zero o (x ∷ outs) is are = (is, are.1)
  put_holds (suc k) o (x ∷ outs) is are = (are.0, put_holds k o outs is are.1)

  put_all_hold : (fates : List (ℕ × Fate)) (outs : List (Option Outcome)) → AllByRecursion FateHolds fates
      → HoldOfEach outs → HoldOfEach (put_all fates outs)
  put_all_hold [] outs fates are = are
  put_all_hold (f ∷ fs) outs fates are =
      put_all_hold fs (put f.0 (outcome_of f.1) outs) fates.1 (put_holds f.0 (outcome_of f.1) outs fates.0 are)

  -- ---- what a hub hears

  none_yet : (hub : Hub) → hub.fates ≡ [] → AllByRecursion FateHolds hub.fates
  none_yet hub none = subst (AllByRecursion FateHolds) (sym none) tt

  timed_out_hold : (rounds : ℕ) (sent : List Offered) (os : List OpenPlace) (fates : List (ℕ × Fate))
      → ((place : ℕ) → P (TimedOut place rounds)) → AllByRecursion FateHolds fates
      → AllByRecursion FateHolds (time_out rounds sent os fates)
  timed_out_hold rounds sent [] fates late are = are
  timed_out_hold rounds sent (o ∷ os) fates late are =
      timed_out_hold rounds sent os _ late
      (either (AllByRecursion FateHolds) o.waited _ _
      (λ _. all_inserted FateHolds o.place (tag_of (at_place sent o.place), fate.TimedOut o.place rounds) fates
      (late o.place) are)
      (λ _. are))

  pub give_up_holds : (hub : Hub) (outs : List (Option Outcome)) → ((place : ℕ) → P (TimedOut place hub.rounds))
      → P Unsent → hub.fates ≡ [] → HoldOfEach outs → HoldOfEach (put_all (give_up hub).fates outs)
  give_up_holds hub outs late never none are = put_all_hold (give_up hub).fates outs
      (AllByRecursion-append FateHolds (time_out hub.rounds hub.sent hub.open_places hub.fates) (map unsent_fate hub.queue)
      (timed_out_hold hub.rounds hub.sent hub.open_places hub.fates late (none_yet hub none))
      (all_unsent FateHolds hub.queue (λ tag. never))) are

  reply_held : (hub : Hub) (id : ℕ) (words : List ℕ) → ((place : ℕ) → P (Replied place words))
      → AllByRecursion FateHolds hub.fates
      → AllByRecursion FateHolds (take_message hub (Some (Reply id words))).fates
  reply_held hub id words replied before =
      reply_cases (λ (h : Hub). AllByRecursion FateHolds h.fates) hub id words before
      (λ o is. either (AllByRecursion FateHolds) o.waited _ _
      (λ _. all_inserted FateHolds o.place (tag_of (at_place hub.sent o.place), fate.Replied o.place words)
      hub.fates (replied o.place) before)
      (λ _. before))

  message_held : (hub : Hub) (message : Option ToHub)
      → ((id : ℕ) (words : List ℕ) → message ≡ Some (Reply id words) → (place : ℕ) → P (Replied place words))
      → AllByRecursion FateHolds hub.fates → AllByRecursion FateHolds (take_message hub message).fates
  message_held hub None replied before = before
  message_held hub (Some (StatusReply mtu buffers next)) replied before =
      status_cases (λ (h : Hub). AllByRecursion FateHolds h.fates) hub next before (λ told. before)
  message_held hub (Some (Reply id words)) replied before = reply_held hub id words (replied id words refl) before

  pub message_holds : (hub : Hub) (message : Option ToHub) (outs : List (Option Outcome))
      → ((id : ℕ) (words : List ℕ) → message ≡ Some (Reply id words) → (place : ℕ) → P (Replied place words))
      → hub.fates ≡ [] → HoldOfEach outs → HoldOfEach (put_all (take_message hub message).fates outs)
  message_holds hub message outs replied none are =
      put_all_hold (take_message hub message).fates outs (message_held hub message replied (none_yet hub none)) are

  -- ---- a link that failed

  lost_hold : (others sent : ℕ) (outs : List (Option Outcome)) → ((place : Option ℕ) → P (LinkLost place))
      → HoldOfEach outs → HoldOfEach (lost_after others sent outs)
  lost_hold others sent [] lost are = tt
  lost_hold others sent (Some o ∷ outs) lost are =
      (are.0, lost_hold (cond (is_sent o) (others + 1) others) sent outs lost are.1)
  lost_hold others sent (None ∷ outs) lost are = either HoldOfEach (nat_lt others sent) _ _
      (λ _. (lost (Some (others + 1)), lost_hold (others + 1) sent outs lost are.1))
      (λ _. (lost None, lost_hold others sent outs lost are.1))

  pub all_lost_hold : (sent : ℕ) (outs : List (Option Outcome)) → ((place : Option ℕ) → P (LinkLost place))
      → HoldOfEach outs → HoldOfEach (all_lost sent outs)
  all_lost_hold sent outs lost are = lost_hold 0 sent outs lost are
