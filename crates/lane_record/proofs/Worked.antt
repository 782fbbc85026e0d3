-- The worked examples, entry by entry.
use Rattle.std.proofs.Common.{◌≡◌, ℕ, zero, suc, List, [], ◌∷◌, Some, refl, arith}
use Rattle.std.specs.List.{slice_get}
use Rattle.lane_record.specs.declared.outcome.Outcome.TheVariants.{Replied, TimedOut}
use Rattle.lane_record.specs.declared.item.Item.{Item}
use Rattle.lane_record.specs.Claims.{Claim, claims}
use Rattle.lane_record.specs.Legal.{IsLegal, TakesOf}
use Rattle.lane_record.specs.NextEntry.{plan_of, ask_of, took_of, the_seal}
use Rattle.lane_record.specs.Examples.{asked_by_two, taken_by_two, outcomes_of_two, taken_by_another, first_replied}
use Rattle.lane_record.specs.Examples.{timed_out_at_once, first_timed_out}
use Rattle.lane_record.proofs.NextEntries.{may_plan, may_seal, may_ask, may_took}

begins : IsLegal [] []
begins = record {
  made = tt;
  plans_count = record { count = λ client. tt; unsealed = tt };
  asks_follow_plans = record { count = λ client. tt; planned = tt };
  taken_once = tt;
  places_count = record { each = refl; places = tt };
  give_ups_rise = record { rise = tt; later = tt };
}

first_plan : List Item
first_plan = plan_of 1 0 (7 ∷ []) ∷ []

both_planned : IsLegal (plan_of 1 0 (7 ∷ []) ∷ plan_of 2 0 (8 ∷ []) ∷ the_seal ∷ []) []
both_planned =
    may_seal (plan_of 1 0 (7 ∷ []) ∷ plan_of 2 0 (8 ∷ []) ∷ []) [] refl
    (may_plan (plan_of 1 0 (7 ∷ []) ∷ []) [] 2 0 (8 ∷ []) (record
    { some_client = omega arith; next = refl; unsealed = refl })
    (may_plan [] [] 1 0 (7 ∷ []) (record { some_client = omega arith; next = refl; unsealed = refl }) begins))

both_asked : IsLegal asked_by_two outcomes_of_two
both_asked =
    may_ask (plan_of 1 0 (7 ∷ []) ∷ plan_of 2 0 (8 ∷ []) ∷ the_seal ∷ ask_of 1 0 0 ∷ [])
    (Some (TimedOut 1 3) ∷ []) 2 0 0 (Some (Replied 2 (9 ∷ [])))
    (record { some_client = omega arith; next = refl; is_planned = omega arith; within = (omega arith, tt) })
    (λ e. refl)
    (may_ask (plan_of 1 0 (7 ∷ []) ∷ plan_of 2 0 (8 ∷ []) ∷ the_seal ∷ []) [] 1 0 0 (Some (TimedOut 1 3))
    (record { some_client = omega arith; next = refl; is_planned = omega arith; within = tt }) (λ e. refl) both_planned)

one_taken : IsLegal (plan_of 1 0 (7 ∷ []) ∷ plan_of 2 0 (8 ∷ []) ∷ the_seal ∷ ask_of 1 0 0 ∷ ask_of 2 0 0 ∷ took_of 2
    0 (Replied 2 (9 ∷ [])) 0 ∷ []) outcomes_of_two
one_taken = may_took asked_by_two outcomes_of_two 2 0 (Replied 2 (9 ∷ [])) 0
    (record {
      takes = record {
        k = 1;
        claim = record { client = 2; seq = 0; give_ups = 0; body = 8 ∷ [] };
        ask = record
            { there = refl; same_client = refl; same_seq = refl };
        once = refl;
        became = refl;
      };
      within = (omega arith, (omega arith, tt));
      later = λ e. absurd (cc);
    }) both_asked

pub both_taken : IsLegal taken_by_two outcomes_of_two
both_taken = may_took (plan_of 1 0 (7 ∷ []) ∷ plan_of 2 0 (8 ∷ []) ∷ the_seal ∷ ask_of 1 0 0 ∷ ask_of 2 0 0 ∷ took_of
    2 0 (Replied 2 (9 ∷ [])) 0 ∷ []) outcomes_of_two 1 0 (TimedOut 1 3) 1
    (record {
      takes = record {
        k = 0;
        claim = record { client = 1; seq = 0; give_ups = 0; body = 7 ∷ [] };
        ask = record
            { there = refl; same_client = refl; same_seq = refl };
        once = refl;
        became = refl;
      };
      within = (omega arith, (omega arith, (omega arith, tt)));
      later = λ e. omega arith;
    }) one_taken

-- the second Ask is that of client 2, and nothing became of it
not_of_another : (k : ℕ) (claim : Claim) → slice_get (claims asked_by_two) k ≡ Some claim → claim.client ≡ 2
    → slice_get first_replied k ≡ Some (Some (Replied 1 (9 ∷ []))) → ⊥
not_of_another zero claim there client became =
    let same : record { client = 1; seq = 0; give_ups = 0; body = 7 ∷ [] } ≡ claim = cc in
    let one : 1 ≡ claim.client = cc in
    absurd (omega (arith, one, client))
not_of_another (suc zero) claim there client became = absurd (cc)
not_of_another (suc (suc k)) claim there client became = absurd (cc)

pub not_by_another : IsLegal taken_by_another first_replied → ⊥
not_by_another is =
    let takes : TakesOf asked_by_two first_replied 2 0 (Replied 1 (9 ∷ [])) = is.taken_once.1.1.1.1.1.0 in
    not_of_another takes.k takes.claim takes.ask.there takes.ask.same_client takes.became

pub not_at_once : IsLegal timed_out_at_once first_timed_out → ⊥
not_at_once is =
    let late = is.give_ups_rise.later.1.1.0 refl 0 (record { client = 1; seq = 0; give_ups = 0; body = 7 ∷ [] })
    (record { there = refl; same_client = refl; same_seq = refl }) in
    omega (arith, late)
