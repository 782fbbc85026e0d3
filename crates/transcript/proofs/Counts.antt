-- What a board's line counts.
use Rattle.std.proofs.Common.{◌≡◌, ◌+◌, cond, Bool, length, List, [], ◌∷◌, Some, None, refl, arith}
use Rattle.std.specs.List.{count_by, filter_map}
use Rattle.std.proofs.lemmas.List.Sums.{sum_by-cons}
use Rattle.lane_record.specs.declared.outcome.Outcome.{Outcome}
use Rattle.lane_record.specs.declared.outcome.Outcome.TheVariants.{Replied, TimedOut, Unsent, LinkLost}
use Rattle.lane_record.specs.Outcomes.{place_of, is_sent, is_replied, is_timed_out}
use Rattle.transcript.specs.Lines.{is_lost}

count-cons : (p : Outcome → Bool) (o : Outcome) (os : List Outcome)
    → count_by p (o ∷ os) ≡ cond (p o) 1 0 + count_by p os
count-cons p o os = sum_by-cons (λ o. cond (p o) 1 0) o os

-- each outcome is counted at most once, and where it has a place
one_of_three : (o : Outcome) → cond (is_sent o) 1 0
    ≡ (cond (is_replied o) 1 0 + cond (is_timed_out o) 1 0) + cond (is_lost o) 1 0
one_of_three (Replied place words) = refl
one_of_three (TimedOut place rounds) = refl
one_of_three Unsent = refl
one_of_three (LinkLost None) = refl
one_of_three (LinkLost (Some place)) = refl

pub sent_is_sum : (os : List Outcome)
    → count_by is_sent os ≡ (count_by is_replied os + count_by is_timed_out os) + count_by is_lost os
sent_is_sum [] = refl
sent_is_sum (o ∷ os) =
    omega (
      arith,
      count-cons is_sent o os,
      count-cons is_replied o os,
      count-cons is_timed_out o os,
      count-cons is_lost o os,
      one_of_three o,
      sent_is_sum os,
    )

pub sent_have_places : (os : List Outcome) → count_by is_sent os ≡ length (filter_map place_of os)
sent_have_places [] = refl
sent_have_places (Replied place words ∷ os) = omega
    (arith, count-cons is_sent (Replied place words) os, sent_have_places os)
sent_have_places (TimedOut place rounds ∷ os) = omega
    (arith, count-cons is_sent (TimedOut place rounds) os, sent_have_places os)
sent_have_places (Unsent ∷ os) = omega (arith, count-cons is_sent Unsent os, sent_have_places os)
sent_have_places (LinkLost None ∷ os) = omega (arith, count-cons is_sent (LinkLost None) os, sent_have_places os)
sent_have_places (LinkLost (Some place) ∷ os) =
    omega (arith, count-cons is_sent (LinkLost (Some place)) os, sent_have_places os)
