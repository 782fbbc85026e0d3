-- One datagram more: what is proved stays proved, and what a hub hears adds no body to those that it sent.
use Rattle.std.proofs.Common.{◌≡◌, ◌∙◌, ◌⊎◌, ℕ, ◌+◌, ◌≤◌, true, if◌then◌else◌, List, [], ◌∷◌, ◌++◌}
use Rattle.std.proofs.Common.{Option, Some, None, refl, ap, inl, inr}
use Rattle.std.specs.Prelude.{nat_lt}
use Rattle.std.proofs.lemmas.List.{append-nil}
use Rattle.std.specs.List.{AllByRecursion}
use Rattle.ipb_base.proofs.AllLemmas.{all-map}
use Rattle.world_model.specs.declared.datagram.Datagram.{Datagram}
use Rattle.world_model.specs.declared.datagram.Direction.{Direction}
use Rattle.world_model.specs.declared.datagram.Direction.TheVariants as goes
use Rattle.world_model.specs.declared.offered.OpenPlace.{OpenPlace}
use Rattle.world_model.specs.declared.offered.Fate.{Fate}
use Rattle.world_model.specs.declared.offered.Fate.TheVariants.{Replied, TimedOut, Unsent}
use Rattle.world_model.specs.Messages.{ToHub, StatusReply, Reply}
use Rattle.world_model.specs.Hub.{Hub, give_up, hear_quiet, open_with}
use Rattle.world_model.specs.Hub.{after_recovery, settle, take_message, told_place, want_status}
use Rattle.world_model.specs.Air.{goes_to}
use Rattle.world_model.specs.Links.{first_sends_from}
use Rattle.world_model.specs.Links.{is_first_send}
use Rattle.world_model.proofs.Lists.{either}
use Rattle.capture_reader.specs.declared.capture.Caught.{Caught}
use Rattle.capture_reader.specs.Proved.{HasProof, sent_after}
use Rattle.record_command.specs.Passing.{sent_item}
use Rattle.record_command.specs.Captures.{bodies_from, new_body}
use Rattle.record_command.proofs.Walks.{bodies_append, count_append, count_from, proof_front}

-- the place of a reply that was or will be handed out is proved
abbrev pub IsProvedFate : ℕ → List Caught → ℕ × Fate → Type 0
IsProvedFate first items (tag, Replied place words) = HasProof first 0 items place
IsProvedFate first items (tag, TimedOut place rounds) = Unit {0}
IsProvedFate first items (tag, Unsent) = Unit {0}

pub still_proved : (first : ℕ) (items more : List Caught) (fate : ℕ × Fate) → IsProvedFate first items fate
    → IsProvedFate first (items ++ more) fate
still_proved first items more (tag, Replied place words) is = proof_front first 0 items more place is
still_proved first items more (tag, TimedOut place rounds) is = tt
still_proved first items more (tag, Unsent) is = tt

pub all_proved : (first : ℕ) (items more : List Caught) (fates : List (ℕ × Fate))
    → AllByRecursion (IsProvedFate first items) fates → AllByRecursion (IsProvedFate first (items ++ more)) fates
all_proved first items more fates all = all-map (IsProvedFate first items) (IsProvedFate first (items ++ more)) fates
    (λ fate is. still_proved first items more fate is) all

pub count_more : (first sent : ℕ) (items : List Caught) (item : Caught) → count_from first 0 items ≡ sent
    → count_from first 0 (items ++ item ∷ []) ≡ sent_after first sent item
count_more first sent items item e =
    count_append first 0 items (item ∷ []) ∙ ap (λ (k : ℕ). sent_after first k item) e

pub bodies_more : (first sent : ℕ) (items : List Caught) (item : Caught) → count_from first 0 items ≡ sent
    → bodies_from first 0 (items ++ item ∷ []) ≡ bodies_from first 0 items ++ new_body first sent item
bodies_more first sent items item e =
    bodies_append first 0 items (item ∷ [])
    ∙ (ap (λ (k : ℕ). bodies_from first 0 items ++ (new_body first k item ++ [])) e
    ∙ ap (λ (b : List (List ℕ)). bodies_from first 0 items ++ b) (append-nil (new_body first sent item)))

pub no_proof_sent : (first sent place : ℕ) (bytes : List ℕ) → HasProof first sent (sent_item bytes ∷ []) place → ⊥
no_proof_sent first sent place bytes (inl one) = let e = one.0 in cc
no_proof_sent first sent place bytes (inr none) = none

pub shown_still : (first place most : ℕ) (items : List Caught) (bytes : List ℕ)
    → ((p : ℕ) → HasProof first 0 items p → p ≤ most)
    → HasProof first 0 items place ⊎ HasProof first (count_from first 0 items) (sent_item bytes ∷ []) place
    → place ≤ most
shown_still first place most items bytes shown (inl before) = shown place before
shown_still first place most items bytes shown (inr now) =
    absurd (no_proof_sent first (count_from first 0 items) place bytes now)

pub count_last : (first count : ℕ) (air : List Datagram) (d : Datagram) → first_sends_from first count (air ++ d ∷ [])
    ≡ (if is_first_send first (first_sends_from first count air) d.direction d.bytes
    then first_sends_from first count air + 1 else first_sends_from first count air)
count_last first count [] d = refl
count_last first count (x ∷ air) d =
    count_last first (if is_first_send first count x.direction x.bytes then count + 1 else count) air d

pub same_way : (hearer direction : Direction) → goes_to hearer direction ≡ true → direction ≡ hearer
same_way goes.ToBoard goes.ToBoard e = refl
same_way goes.ToBoard goes.ToHub e = absurd (cc)
same_way goes.ToHub goes.ToBoard e = absurd (cc)
same_way goes.ToHub goes.ToHub e = refl

pub settle_sent : (h : Hub) (words : List ℕ) (r : Option OpenPlace) → (settle h words r).sent ≡ h.sent
settle_sent h words None = refl
settle_sent h words (Some o) = refl

pub recovered_sent : (h : Hub) (r : Option ℕ) → (after_recovery h r).sent ≡ h.sent
recovered_sent h None = refl
recovered_sent h (Some e) = refl

pub message_sent : (h : Hub) (m : Option ToHub) → (take_message h m).sent ≡ h.sent
message_sent h None = refl
message_sent h (Some (StatusReply mtu buffers next)) = either
    (λ (x : Hub). x.sent ≡ h.sent) (nat_lt 0 h.status_requests) _ _ (λ _. recovered_sent h (told_place h next))
    (λ _. refl)
message_sent h (Some (Reply id words)) = settle_sent h words (open_with h.first id h.open_places)

pub quiet_sent : (h : Hub) → (hear_quiet h).sent ≡ h.sent
quiet_sent h = either (λ (x : Hub). x.sent ≡ h.sent) (nat_lt h.status_requests h.rounds) (want_status h) (give_up h)
    (λ _. refl) (λ _. refl)
