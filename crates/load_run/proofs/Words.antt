-- Where all were done, each number below the count stands among the words.
use Rattle.std.proofs.Common.{◌≡◌, ℕ, zero, suc, ◌+◌, ◌-◌, ◌<◌, List, [], ◌∷◌, ◌++◌, length, sym, subst, arith}
use Rattle.std.specs.List.{AllByRecursion, Contains}
use Rattle.std.proofs.lemmas.List.Concat.{flat_map-append}
use Rattle.std.proofs.lemmas.List.Elements.{Contains-append_left, Contains-append_right, Contains-push}
use Rattle.ipb_base.proofs.AllLemmas.{AllByRecursion-append, back_of_all, front_of_all}
use Rattle.lane_record.specs.declared.outcome.Outcome.{Outcome}
use Rattle.lane_record.specs.declared.outcome.Outcome.TheVariants.{Replied, TimedOut, Unsent, LinkLost}
use Rattle.lane_record.specs.Lists.{CountsFrom}
use Rattle.script_plans.specs.declared.board_run.ClientPart.{ClientPart}
use Rattle.script_plans.specs.Runs.{outcomes_in}
use Rattle.board_history.specs.Order.{Placed, all_placed, bodies_with_places, places_of}
use Rattle.board_history.specs.Parts.{IsReplied}
use Rattle.board_history.proofs.Sorting.{all_sorted}
use Rattle.load_run.specs.Claims.{HasEachBelow}
use Rattle.load_run.proofs.Lines.{word-replied, words_of}
use Rattle.load_run.proofs.Totals.{IsTold, before, bodies_by, order_of, outcomes_by, words_in}

-- the number of places before this one is one of these
abbrev IsAmong : List ℕ → Placed → Type 0
IsAmong words p = Contains words (before p)

abbrev AreAmong : List ℕ → List Placed → Type 0
AreAmong words ps = AllByRecursion (IsAmong words) ps

more-left : (words more : List ℕ) (ps : List Placed) → AreAmong words ps → AreAmong (words ++ more) ps
more-left words more [] all = tt
more-left words more (p ∷ ps) all =
    (Contains-append_left words more (before p) all.0, more-left words more ps all.1)

more-right : (more words : List ℕ) (ps : List Placed) → AreAmong words ps → AreAmong (more ++ words) ps
more-right more words [] all = tt
more-right more words (p ∷ ps) all =
    (Contains-append_right more words (before p) all.0, more-right more words ps all.1)

client-among : (bodies : List (List ℕ)) (outcomes : List Outcome) → AllByRecursion IsTold outcomes
    → AllByRecursion IsReplied outcomes → AreAmong (words_in outcomes) (bodies_with_places bodies outcomes)
client-among [] outcomes told all = tt
client-among (b ∷ bodies) [] told all = tt
client-among (b ∷ bodies) (Replied place words ∷ os) told all =
    let one = word-replied place (place - 1) words told.0 in
    let here : Contains (words_of (Replied place words)) (place - 1) =
    subst (λ (ws : List ℕ). Contains ws (place - 1)) (sym one) (Contains-push [] (place - 1)) in (
      Contains-append_left (words_of (Replied place words)) (words_in os) (place - 1) here,
      more-right (words_of (Replied place words)) (words_in os) (bodies_with_places bodies os)
          (client-among bodies os told.1 all.1),
    )
client-among (b ∷ bodies) (TimedOut place rounds ∷ os) told all = absurd all.0
client-among (b ∷ bodies) (Unsent ∷ os) told all = absurd all.0
client-among (b ∷ bodies) (LinkLost place ∷ os) told all = absurd all.0

parts-among : (parts : List ClientPart) → AllByRecursion IsTold (outcomes_in parts)
    → AllByRecursion IsReplied (outcomes_in parts)
    → AreAmong (words_in (outcomes_in parts)) (all_placed (bodies_by parts) (outcomes_by parts))
parts-among [] told all = tt
parts-among (part ∷ parts) told all =
    let rest = outcomes_in parts in
    let own = bodies_with_places part.planned.bodies part.outcomes in
    let others = all_placed (bodies_by parts) (outcomes_by parts) in
    subst (λ (ws : List ℕ). AreAmong ws (own ++ others)) (sym (flat_map-append words_of part.outcomes rest))
    (AllByRecursion-append (IsAmong (words_in part.outcomes ++ words_in rest)) own others
    (more-left (words_in part.outcomes) (words_in rest) own
    (client-among part.planned.bodies part.outcomes (front_of_all IsTold part.outcomes rest told)
    (front_of_all IsReplied part.outcomes rest all)))
    (more-right (words_in part.outcomes) (words_in rest) others
    (parts-among parts (back_of_all IsTold part.outcomes rest told) (back_of_all IsReplied part.outcomes rest all))))

counted-at : (words : List ℕ) (m k : ℕ) (ps : List Placed) → CountsFrom (suc m) (places_of ps) → k < length ps
    → AreAmong words ps → Contains words (m + k)
counted-at words m k [] counts within all = let bad : ⊥ = omega arith in absurd bad
counted-at words m zero (p ∷ ps) counts within all =
    let first : before p ≡ m + 0 = omega (arith, counts.0) in
    subst (Contains words) first all.0
counted-at words m (suc k) (p ∷ ps) counts within all =
    let next : suc m + 1 ≡ suc (suc m) = omega arith in
    let rest = subst (λ (n : ℕ). CountsFrom n (places_of ps)) next counts.1 in
    let same : suc m + k ≡ m + suc k = omega arith in
    subst (Contains words) same (counted-at words (suc m) k ps rest (omega arith) all.1)

pub each-below : (parts : List ClientPart) (count : ℕ) → AllByRecursion IsTold (outcomes_in parts)
    → AllByRecursion IsReplied (outcomes_in parts) → CountsFrom 1 (places_of (order_of parts))
    → length (order_of parts) ≡ count → HasEachBelow count (words_in (outcomes_in parts))
each-below parts count told all counts size k below =
    let words = words_in (outcomes_in parts) in
    let among =
    all_sorted (IsAmong words) (all_placed (bodies_by parts) (outcomes_by parts)) (parts-among parts told all) in
    let same : 0 + k ≡ k = omega arith in
    subst (Contains words) same (counted-at words 0 k (order_of parts) counts (omega (arith, size)) among)
