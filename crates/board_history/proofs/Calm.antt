-- Where nothing was held and nothing failed, every body was replied to.
use Rattle.std.proofs.Common.{◌≡◌, ℕ, zero, suc, ◌+◌, ◌*◌, ◌≤◌, true, false, cond, ◌||◌}
use Rattle.std.proofs.Common.{List, [], ◌∷◌, ◌++◌, map, refl, sym, ◌∙◌, arith}
use Rattle.std.specs.List.{AllByRecursion}
use Rattle.ipb_base.proofs.AllLemmas.{AllByRecursion-append}
use Rattle.lane_record.specs.declared.outcome.Outcome.{Outcome}
use Rattle.lane_record.specs.declared.outcome.Outcome.TheVariants.{Replied, TimedOut, Unsent, LinkLost}
use Rattle.lane_record.specs.Outcomes.{is_given_up, is_lost}
use Rattle.board_history.specs.Parts.{IsReplied, AllReplied}
use Rattle.lane_record.specs.Dispatches.{outcomes_in_order}
use Rattle.board_history.specs.GiveUps.{was_given_up, times_given_up, GaveUpOnlyAfter}
use Rattle.board_history.proofs.Waits.{count_cons}

-- ---- all are replied to

-- it was not lost with the link
abbrev pub IsNotLost : Outcome → Type 0
IsNotLost o = is_lost o ≡ true → ⊥

one_calm : (o : Outcome) → is_given_up o ≡ false → IsNotLost o → IsReplied o
one_calm (Replied place words) g l = tt
one_calm (TimedOut place rounds) g l = absurd cc
one_calm Unsent g l = absurd cc
one_calm (LinkLost place) g l = l refl

dispatch_calm : (os : List Outcome) → was_given_up os ≡ false → AllByRecursion IsNotLost os
    → AllByRecursion IsReplied os
dispatch_calm [] g l = tt
dispatch_calm (o ∷ os) g l = elim (is_given_up o) as
    (λ b. is_given_up o ≡ b → (b || was_given_up os) ≡ false → AllByRecursion IsReplied (o ∷ os)) [
      | true ↦ λ _ h. absurd cc
      | false ↦ λ is h. (one_calm o is l.0, dispatch_calm os h l.1)
    ] refl g

front_not_lost : (os ps : List Outcome) → AllByRecursion IsNotLost (os ++ ps)
    → AllByRecursion IsNotLost os × AllByRecursion IsNotLost ps
front_not_lost [] ps all = (tt, all)
front_not_lost (o ∷ os) ps all = let rest = front_not_lost os ps all.1 in ((all.0, rest.0), rest.1)

client_calm : (dispatches : List (List Outcome)) → times_given_up dispatches ≡ 0
    → AllByRecursion IsNotLost (outcomes_in_order dispatches) → AllByRecursion IsReplied (outcomes_in_order dispatches)
client_calm [] none l = tt
client_calm (os ∷ later) none l =
    let parts = front_not_lost os (outcomes_in_order later) l in
    let count = count_cons was_given_up os later in
    let here : was_given_up os ≡ false = elim (was_given_up os) as
    (λ b. cond b 1 0 + times_given_up later ≡ 0 → b ≡ false) [
      | true ↦ λ e. absurd (omega (arith, e))
      | false ↦ λ _. refl
    ] (sym count ∙ none) in
    let rest : times_given_up later ≡ 0 = omega (arith, count, none) in
    AllByRecursion-append IsReplied os (outcomes_in_order later) (dispatch_calm os here parts.0) (client_calm later rest parts.1)

no_times : (cost n : ℕ) → 1 ≤ cost → cost * n ≤ 0 → n ≡ 0
no_times cost zero some le = refl
no_times cost (suc n) some le =
    let more : cost * 1 ≤ cost * suc n = grind arith in
    absurd (omega (arith, some, le, more))

clients_calm : (cost : ℕ) (outcomes : List (List (List Outcome))) → 1 ≤ cost
    → AllByRecursion (λ (dispatches : List (List Outcome)). cost * times_given_up dispatches ≤ 0) outcomes
    → AllByRecursion (AllByRecursion IsNotLost) (map outcomes_in_order outcomes) → AllReplied (map outcomes_in_order outcomes)
clients_calm cost [] some few l = tt
clients_calm cost (os ∷ others) some few l = (
  client_calm os (no_times cost (times_given_up os) some few.0) l.0,
  clients_calm cost others some few.1 l.1,
)

pub all_calm : (window cost : ℕ) (outcomes : List (List (List Outcome))) → 1 ≤ cost
    → GaveUpOnlyAfter window cost 0 outcomes
    → AllByRecursion (AllByRecursion IsNotLost) (map outcomes_in_order outcomes) → AllReplied (map outcomes_in_order outcomes)
all_calm window cost outcomes some patient l = clients_calm cost outcomes some (patient.dispatches (omega arith)) l
