-- What a lane keeps of late answers, call by call, over any link.
use Rattle.std.proofs.Common.{◌≡◌, ℕ, zero, suc, ◌≤◌, List, [], ◌∷◌, ◌++◌, length, length-append}
use Rattle.std.proofs.Common.{Bool, Option, Some, None, refl, sym, ap, ◌∙◌, subst, arith, inl, inr, ⊎_elim}
use Rattle.std.specs.List.{AllByRecursion, Contains}
use Rattle.std.proofs.lemmas.List.{append-nil}
use Rattle.std.proofs.lemmas.List.Elements.{Contains-append_left, Contains-append_right}
use Rattle.ipb_base.proofs.AllLemmas.{AllByRecursion-append}
use Rattle.packet_codec.specs.declared.packet.TheConstants.{MAX_BODY_WORDS}
use Rattle.world_model.specs.declared.offered.Fate.{Fate}
use Rattle.world_model.specs.Messages.{ToHub, Reply}
use Rattle.world_model.specs.Hub.{HandedOut, Hub, IsDrained, after_handing_out, hands_out, hear_quiet, new_hub, none_handed_out}
use Rattle.world_model.specs.Hub.{places, take_message}
use Rattle.world_model.specs.LateAnswers.{AreOfTimedOut, HasTimedOut, IsClosedPlace, late_places}
use Rattle.lane_record.specs.declared.outcome.Outcome.{Outcome}
use Rattle.lane_record.specs.Claims.{Claim}
use Rattle.lane_record.specs.Lates.{KeepsLates, late_in, put_lates}
use Rattle.lane_record.specs.Offers.{AreOutcomes, KeepsOutcomes, Settles, outcome_of, put_all}
use Rattle.lane_record.proofs.Hearing.{still_told}
use Rattle.lane_record.proofs.Lates.{AreWithinPlaces, came, lates_added, lates_handed_out, lates_stay, length-put_lates}
use Rattle.lane_record.proofs.Lates.{no_lates, none_added, none_late}
use Rattle.hub_lane.specs.Below.{LateLaws}
use Rattle.hub_lane.specs.LateAnswers.{AreLateAnswers, HasHandedOut, WasTimedOut}
use Rattle.hub_lane.specs.Sends.{HasSent}
use Rattle.hub_lane.proofs.Sends.{sent_keeps}
use Rattle.hub_lane.proofs.Standing.{message_brings, quiet_lates}

-- ---- a body that was timed out

timed_out_among : (rounds place : ℕ) (fates : List (ℕ × Fate)) (outcomes : List (Option Outcome))
    → HasTimedOut rounds place fates → AreOutcomes fates outcomes → WasTimedOut outcomes place
timed_out_among rounds place [] outcomes timed are = absurd timed
timed_out_among rounds place (f ∷ fates) outcomes (inl is) are = record {
  number = f.0;
  rounds = rounds;
  there = are.0 ∙ ap (λ (x : Fate). Some (Some (outcome_of x))) is;
}
timed_out_among rounds place (f ∷ fates) outcomes (inr later) are =
    timed_out_among rounds place fates outcomes later are.1

-- what holds of all holds of each
pub each : {A : Type 0} (P : A → Type 0) (xs : List A) (x : A) → AllByRecursion P xs → Contains xs x → P x
each P [] x all (k, few, is) = absurd (omega (arith, few))
each P (y ∷ ys) x all (zero, few, is) = subst P is all.0
each P (y ∷ ys) x all (suc k, few, is) = each P ys x all.1 (k, omega (arith, few), is)

each_place : (P : ℕ → Type 0) (lates : List (ℕ × List ℕ)) (place : ℕ) (words : List ℕ)
    → AllByRecursion P (late_places lates) → Contains lates (place, words) → P place
each_place P [] place words all (k, few, is) = absurd (omega (arith, few))
each_place P (l ∷ ls) place words all (zero, few, is) =
    subst P (ap (λ (x : ℕ × List ℕ). x.0) is) all.0
each_place P (l ∷ ls) place words all (suc k, few, is) =
    each_place P ls place words all.1 (k, omega (arith, few), is)

-- where nothing waits to be handed out
all_timed_out : (hub : Hub) (outcomes : List (Option Outcome)) (lates : List (Option (List ℕ))) → IsDrained hub
    → HasHandedOut hub outcomes lates → (place : ℕ) (words : List ℕ) → late_in lates place ≡ Some words
    → WasTimedOut outcomes place
all_timed_out hub outcomes lates none is place words there =
    let at = is.late.came place words there in
    let timed = each (λ (l : ℕ × List ℕ). HasTimedOut hub.rounds l.0 (is.out.fates ++ hub.fates))
    (is.out.lates ++ hub.lates) (place, words) is.account.timed_out
    (Contains-append_left is.out.lates hub.lates (place, words) at) in
    let told = subst (λ (fs : List (ℕ × Fate)). HasTimedOut hub.rounds place fs)
    (ap (λ (fs : List (ℕ × Fate)). is.out.fates ++ fs) none.fates ∙ append-nil is.out.fates) timed in
    timed_out_among hub.rounds place is.out.fates outcomes told is.told

-- ---- what was handed out, call by call

abbrev pub AreShortLates : List (Option (List ℕ)) → Type 0
AreShortLates lates =
    (place : ℕ) (words : List ℕ) → late_in lates place ≡ Some words → length words ≤ MAX_BODY_WORDS

pub late_answers : (hub : Hub) (outcomes : List (Option Outcome)) (lates : List (Option (List ℕ))) → IsDrained hub
    → length lates ≡ length outcomes → AreShortLates lates → HasHandedOut hub outcomes lates
    → AreLateAnswers hub outcomes lates
late_answers hub outcomes lates none count short is =
    record { count = count; timed_out = all_timed_out hub outcomes lates none is; short = short; handed_out = is }

pub begins_late : LateLaws → (first window rounds : ℕ) → AreLateAnswers (new_hub first window rounds) [] []
begins_late laws first window rounds = late_answers (new_hub first window rounds) [] []
    (record { fates = refl; lates = refl }) refl
    (λ place words there. absurd (let h : None ≡ Some words = sym (none_late place) ∙ there in cc))
    (record { out = none_handed_out; account = laws.begins first window rounds; told = tt; late = no_lates })

-- another hub that stands as this one to what was handed out
pub late_still : (old new : Hub) (outcomes : List (Option Outcome)) (lates : List (Option (List ℕ))) → IsDrained new
    → ((out : HandedOut) → AreOfTimedOut out old → AreOfTimedOut out new) → AreLateAnswers old outcomes lates
    → AreLateAnswers new outcomes lates
late_still old new outcomes lates none account is =
    late_answers new outcomes lates none is.count is.short (record {
      out = is.handed_out.out;
      account = account is.handed_out.out is.handed_out.account;
      told = is.handed_out.told;
      late = is.handed_out.late;
    })

pub account_sent : LateLaws → (old new : Hub) → HasSent old new → (out : HandedOut) → AreOfTimedOut out old
    → AreOfTimedOut out new
account_sent laws old new sent out is =
    sent_keeps (AreOfTimedOut out) (λ hub next e before. laws.sent out hub next before e) old new sent is

-- outcomes that stay, with more behind them
pushed_keeps : (outcomes : List (Option Outcome)) (new : Option Outcome) → KeepsOutcomes outcomes (outcomes ++ new ∷ [])
pushed_keeps [] new k o there = absurd cc
pushed_keeps (x ∷ xs) new zero o there = there
pushed_keeps (x ∷ xs) new (suc k) o there = pushed_keeps xs new k o there

pub asked_late : (old new : Hub) (outcomes : List (Option Outcome)) (lates : List (Option (List ℕ)))
    (outcome : Option Outcome) → IsDrained new → ((out : HandedOut) → AreOfTimedOut out old → AreOfTimedOut out new)
    → AreLateAnswers old outcomes lates → AreLateAnswers new (outcomes ++ outcome ∷ []) (lates ++ None ∷ [])
asked_late old new outcomes lates outcome none account is =
    let before = is.handed_out in
    let count = is.count in
    late_answers new (outcomes ++ outcome ∷ []) (lates ++ None ∷ []) none
    (omega (arith, count, length-append outcomes (outcome ∷ []), length-append lates (None ∷ [])))
    (λ place words there. is.short place words (sym (none_added lates place) ∙ there))
    (record {
      out = before.out;
      account = account before.out before.account;
      told = still_told outcomes (outcomes ++ outcome ∷ []) before.out.fates (pushed_keeps outcomes outcome)
          before.told;
      late = lates_added before.out.lates lates before.late;
    })

-- the link failed
pub lost_late : (old new : Hub) (outcomes lost : List (Option Outcome)) (lates : List (Option (List ℕ))) → IsDrained new
    → ((out : HandedOut) → AreOfTimedOut out old → AreOfTimedOut out new) → KeepsOutcomes outcomes lost
    → length lost ≡ length outcomes → AreLateAnswers old outcomes lates → AreLateAnswers new lost lates
lost_late old new outcomes lost lates none account keeps same is =
    let before = is.handed_out in
    late_answers new lost lates none (is.count ∙ sym same) is.short (record {
      out = before.out;
      account = account before.out before.account;
      told = still_told outcomes lost before.out.fates keeps before.told;
      late = before.late;
    })

-- ---- an event of the hub, after which it hands out what it has

pub record HandsOver (event : Hub) (outcomes : List (Option Outcome)) (old new : List (Option (List ℕ))) (hub : Hub)
    : Type 0 where
  pub late : AreLateAnswers hub outcomes new
  pub keeps : KeepsLates old new
  pub there : (place : ℕ) (words : List ℕ) → Contains event.lates (place, words) → late_in new place ≡ Some words

within_places : (out : HandedOut) (event : Hub) (most : ℕ) → AreOfTimedOut out event → length event.sent ≤ most
    → AreWithinPlaces most event.lates
within_places out event most account few = λ place words there.
    let at = each_place (IsClosedPlace (length event.sent) (places event.open_places)) (out.lates ++ event.lates)
    place words account.settled (Contains-append_right out.lates event.lates (place, words) there) in
    let one = at.from_one in
    let last = at.up_to_last in
    (one, omega (arith, last, few))

pub handed_over : LateLaws → (mid event : Hub) (claims : List Claim) (outcomes : List (Option Outcome))
    (lates : List (Option (List ℕ))) (kind : Outcome → Bool) (most : ℕ)
    → ((out : HandedOut) → AreOfTimedOut out mid → AreOfTimedOut out event)
    → ((place : ℕ) (words : List ℕ) → Contains event.lates (place, words) → length words ≤ MAX_BODY_WORDS)
    → length event.sent ≤ length lates → length (put_all event.fates outcomes) ≡ length outcomes
    → Settles event claims outcomes kind most → AreLateAnswers mid outcomes lates
    → HandsOver event (put_all event.fates outcomes) lates (put_lates event.lates lates) (after_handing_out event)
handed_over laws mid event claims outcomes lates kind most account short few same settles is =
    let before = is.handed_out in
    let new = put_all event.fates outcomes in
    let now = account before.out before.account in
    let by = lates_handed_out before.out.lates event.lates lates now.once before.late
    (within_places before.out event (length lates) now few) in
    record {
      late = late_answers (after_handing_out event) new (put_lates event.lates lates) (record { fates = refl; lates = refl })
          (length-put_lates event.lates lates ∙ (is.count ∙ sym same))
          (λ place words there. ⊎_elim (short place words) (is.short place words)
          (came event.lates lates place words there))
          (record {
            out = hands_out before.out event;
            account = laws.handed_out before.out event now;
            told = AllByRecursion-append _ before.out.fates event.fates
                (still_told outcomes new before.out.fates settles.keeps before.told) settles.told;
            late = by;
          });
      keeps = lates_stay before.out.lates event.lates lates now.once before.late;
      there = λ place words is. by.kept place words
          (Contains-append_right before.out.lates event.lates (place, words) is);
    }

-- the words of a reply are short, and no late answer comes of a quiet receive
pub message_lates_short : (hub : Hub) (message : Option ToHub) → IsDrained hub
    → ((id : ℕ) (words : List ℕ) → message ≡ Some (Reply id words) → length words ≤ MAX_BODY_WORDS)
    → (place : ℕ) (words : List ℕ) → Contains (take_message hub message).lates (place, words)
    → length words ≤ MAX_BODY_WORDS
message_lates_short hub message none short place words there =
    let brings = message_brings hub message none in
    let is = each _ (take_message hub message).lates (place, words) brings.lates there in
    short _ words is.1

pub quiet_lates_short : (hub : Hub) → IsDrained hub → (place : ℕ) (words : List ℕ)
    → Contains (hear_quiet hub).lates (place, words) → length words ≤ MAX_BODY_WORDS
quiet_lates_short hub none place words there =
    let few = there.1 in
    absurd (omega (arith, few, ap length (quiet_lates hub ∙ none.lates)))
