-- The numbers of a finished lane are those of the line of its board.
use Rattle.std.proofs.Common.{◌≡◌, ℕ, ◌+◌, Bool, cond, List, [], ◌∷◌}
use Rattle.std.proofs.Common.{Option, Some, None, refl, sym, ap, ◌∙◌}
use Rattle.std.specs.List.{count_by}
use Rattle.lane_record.specs.declared.outcome.Outcome.{Outcome}
use Rattle.lane_record.specs.declared.outcome.Outcome.TheVariants.{Replied, TimedOut, Unsent, LinkLost}
use Rattle.lane_record.specs.Outcomes.{is_replied}
use Rattle.hub_lane.specs.Calls as lane
use Rattle.transcript.specs.Lines.{is_lost}
use Rattle.board_history.specs.Records.{has_become}
use Rattle.board_history.proofs.Waits.{count_cons}

-- tests that answer alike count alike
pub same_count : {X : Type 0} (p q : X → Bool) (xs : List X) → ((x : X) → p x ≡ q x) → count_by p xs ≡ count_by q xs
same_count p q [] same = refl
same_count p q (x ∷ xs) same =
    count_cons p x xs ∙ ap (λ (b : Bool). cond b 1 0 + count_by p xs) (same x)
    ∙ ap (λ (n : ℕ). cond (q x) 1 0 + n) (same_count p q xs same) ∙ sym (count_cons q x xs)

pub replied_alike : (o : Option Outcome) → has_become is_replied o ≡ lane.is_replied o
replied_alike None = refl
replied_alike (Some (Replied place words)) = refl
replied_alike (Some (TimedOut place rounds)) = refl
replied_alike (Some Unsent) = refl
replied_alike (Some (LinkLost place)) = refl

pub lost_alike : (o : Option Outcome) → has_become is_lost o ≡ lane.is_lost_at_place o
lost_alike None = refl
lost_alike (Some (Replied place words)) = refl
lost_alike (Some (TimedOut place rounds)) = refl
lost_alike (Some Unsent) = refl
lost_alike (Some (LinkLost None)) = refl
lost_alike (Some (LinkLost (Some place))) = refl
