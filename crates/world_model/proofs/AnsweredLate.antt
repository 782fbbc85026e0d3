-- What a run tells of late answers: each is of a body that was timed out and executed, and no place has two.
use Rattle.std.proofs.Common.{◌≡◌, ℕ, zero, suc, ◌≤◌, List, [], ◌∷◌, Some, refl, ap, subst, arith, inl, inr}
use Rattle.std.proofs.lemmas.Bool.{eq-eqb}
use Rattle.std.proofs.lemmas.List.{append-nil}
use Rattle.std.specs.List.{slice_get}
use Rattle.world_model.specs.declared.datagram.Datagram.{Datagram}
use Rattle.world_model.specs.declared.moves.WorldMove.{WorldMove}
use Rattle.world_model.specs.declared.offered.Fate.{Fate}
use Rattle.world_model.specs.declared.offered.Fate.TheVariants.{TimedOut}
use Rattle.world_model.specs.Board.{Board}
use Rattle.world_model.specs.Hub.{hands_out}
use Rattle.world_model.specs.World.{World, told_in}
use Rattle.world_model.specs.History.{IsAnsweredLate, IsHandedOut, IsLateAnswer, IsRun, times}
use Rattle.world_model.specs.LateAnswers.{HasTimedOut, IsOfTimedOut, late_places, place_of_late}
use Rattle.world_model.specs.Below.{Below}
use Rattle.world_model.proofs.Flushing.{run_out}
use Rattle.world_model.proofs.Histories.{facts, late_there}
use Rattle.world_model.proofs.LateAnswers.{run_is_late}
use Rattle.world_model.proofs.Lists.{all_get, get_front, get_map}

-- the fate that says that a place was timed out
timed_out_at : (rounds place : ℕ) (fates : List (ℕ × Fate)) → HasTimedOut rounds place fates
    → (number : ℕ) × ((tag : ℕ) × (slice_get fates number ≡ Some (tag, TimedOut place rounds)))
timed_out_at rounds place [] is = absurd is
timed_out_at rounds place ((tag, fate) ∷ fates) (inl e) = (0, (tag, ap (λ (f : Fate). Some (tag, f)) e))
timed_out_at rounds place (fate ∷ fates) (inr later) =
    let found = timed_out_at rounds place fates later in (suc found.0, found.1)

-- after a run all fates are handed out
all_told : (window rounds : ℕ) (board : Board) (air : List Datagram) (moves : List WorldMove) (w : World)
    → IsRun window rounds board air moves w → (hands_out (told_in w) w.hub).fates ≡ w.fates
all_told window rounds board air moves w is =
    let drained = (run_out window rounds board air moves w is).1 in rw drained.fates (append-nil w.fates)

pub answered_late : Below → (window rounds : ℕ) (board : Board) (air : List Datagram) (moves : List WorldMove)
    (w : World) (place : ℕ) (words : List ℕ) → IsRun window rounds board air moves w → IsLateAnswer w place words
    → IsAnsweredLate w place
answered_late below window rounds board air moves w place words is told =
    let late = run_is_late window rounds board air moves w is in
    let there = get_front w.lates w.hub.lates told.number (place, words) told.there in
    let all = hands_out (told_in w) w.hub in
    let timed : HasTimedOut w.hub.rounds place all.fates =
    all_get (IsOfTimedOut w.hub.rounds all.fates) all.lates told.number (place, words) late.timed_out there in
    let found = timed_out_at w.hub.rounds place w.fates
    (subst (HasTimedOut w.hub.rounds place) (all_told window rounds board air moves w is) timed) in
    let handed_out : IsHandedOut w found.1.0 (TimedOut place w.hub.rounds) = record { number = found.0; there = found.1.1 } in
    record {
      tag = found.1.0;
      rounds = w.hub.rounds;
      timed_out = handed_out;
      there = late_there below w found.1.0 place w.hub.rounds words
          (facts below window rounds board air moves w is) handed_out told;
    }

-- ---- a number that stands in a list at most once

stands : (n : ℕ) (xs : List ℕ) (k : ℕ) → slice_get xs k ≡ Some n → 1 ≤ times n xs
stands n [] k e = absurd (cc)
stands n (x ∷ xs) zero e = let same : x ≡ n = cc in rw (eq-eqb x n same) (omega arith)
stands n (x ∷ xs) (suc k) e = let later = stands n xs k e in omega arith

none_later : (n x : ℕ) (xs : List ℕ) (k : ℕ) → x ≡ n → times n (x ∷ xs) ≤ 1 → slice_get xs k ≡ Some n → ⊥
none_later n x xs k same most there =
    let later = stands n xs k there in
    let both = rw (eq-eqb x n same) at most in omega arith

stands_at : (n : ℕ) (xs : List ℕ) (one other : ℕ) → times n xs ≤ 1 → slice_get xs one ≡ Some n
    → slice_get xs other ≡ Some n → one ≡ other
stands_at n [] one other most here there = absurd (cc)
stands_at n (x ∷ xs) zero zero most here there = refl
stands_at n (x ∷ xs) zero (suc other) most here there = absurd (none_later n x xs other (cc) most there)
stands_at n (x ∷ xs) (suc one) zero most here there = absurd (none_later n x xs one (cc) most here)
stands_at n (x ∷ xs) (suc one) (suc other) most here there =
    ap (λ (k : ℕ). suc k) (stands_at n xs one other (omega arith) here there)

pub one_late : (window rounds : ℕ) (board : Board) (air : List Datagram) (moves : List WorldMove) (w : World)
    (place one other : ℕ) (words again : List ℕ) → IsRun window rounds board air moves w
    → slice_get w.lates one ≡ Some (place, words) → slice_get w.lates other ≡ Some (place, again) → one ≡ other
one_late window rounds board air moves w place one other words again is here there =
    let late = run_is_late window rounds board air moves w is in
    let all = (hands_out (told_in w) w.hub).lates in
    stands_at place (late_places all) one other (late.once place)
    (get_map place_of_late all one (place, words) (get_front w.lates w.hub.lates one (place, words) here))
    (get_map place_of_late all other (place, again) (get_front w.lates w.hub.lates other (place, again) there))
