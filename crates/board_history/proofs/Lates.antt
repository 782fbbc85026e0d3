-- What came late for the bodies of clients, by what came late at the places of their lane.
use Rattle.std.proofs.Common.{◌≡◌, ℕ, zero, suc, ◌≤◌, true, false, cond, List, [], ◌∷◌, drop, map}
use Rattle.std.proofs.Common.{Option, Some, None, get_or, refl, sym, ap, ◌∙◌, subst, inl, inr}
use Rattle.std.specs.Prelude.{is_some}
use Rattle.std.specs.List.{AllByRecursion, list_any, slice_get}
use Rattle.std.proofs.lemmas.Bool.{cases_Bool}
use Rattle.std.proofs.lemmas.Option.{same_Some}
use Rattle.links.specs.Telling.{Telling}
use Rattle.world_model.specs.Hub.{Hub}
use Rattle.world_model.specs.Places.{at_place}
use Rattle.lane_record.specs.declared.outcome.Outcome.{Outcome}
use Rattle.lane_record.specs.declared.outcome.Outcome.TheVariants.{Replied, TimedOut, Unsent, LinkLost}
use Rattle.lane_record.specs.Lates.{late_in}
use Rattle.script_plans.specs.declared.board_run.ClientPart.{ClientPart}
use Rattle.board_history.specs.Parts.{AreBeside, IsExecutedLate, IsLateReplyOf, IsReplied}
use Rattle.board_history.specs.Lates.{AreLateExactly, AreLatesOf, AreLateOnlyIfTimedOut, IsLateExactly, IsLateOnlyIfTimedOut}
use Rattle.board_history.specs.Lates.{if_any_came, late_for, lates_of}
use Rattle.hub_lane.specs.Fates.{AreLatesAt}
use Rattle.board_history.specs.Machine.{AreAllLates, IsLateAt}
use Rattle.board_history.specs.Links.{LinkReport}
use Rattle.board_history.specs.Receives.{HasBroughtReply, IsLateBrought}

-- ---- side by side

pub beside_then : {A B : Type 0} (P Q : A → B → Type 0) → ((x : A) (y : B) → P x y → Q x y) → (xs : List A)
    (ys : List B) → AreBeside P xs ys → AreBeside Q xs ys
beside_then P Q f xs [] are = tt
beside_then P Q f [] (y ∷ ys) are = absurd are
beside_then P Q f (x ∷ xs) (y ∷ ys) are = (f x y are.0, beside_then P Q f xs ys are.1)

-- so of lists of lists
pub all_beside_then : {A B : Type 0} (P Q : A → B → Type 0) → ((x : A) (y : B) → P x y → Q x y)
    → (xss : List (List A)) (yss : List (List B)) → AreBeside (AreBeside P) xss yss → AreBeside (AreBeside Q) xss yss
all_beside_then P Q f xss yss are = beside_then (AreBeside P) (AreBeside Q) (beside_then P Q f) xss yss are

-- beside the first item, and beside those behind it
pub beside_first : {A B : Type 0} (P : A → Option B → Type 0) (x : A) (xs : List A) (ys : List (Option B)) → P x None
    → AreBeside P (x ∷ xs) ys → P x (get_or ys 0 None)
beside_first P x xs [] none are = none
beside_first P x xs (y ∷ ys) none are = are.0

pub beside_rest : {A B : Type 0} (P : A → Option B → Type 0) (x : A) (xs : List A) (ys : List (Option B))
    → AreBeside P (x ∷ xs) ys → AreBeside P xs (drop 1 ys)
beside_rest P x xs [] are = tt
beside_rest P x xs (y ∷ ys) are = are.1

beside_mapped : {A B : Type 0} (P : A → B → Type 0) (f : A → B) → ((x : A) → P x (f x)) → (xs : List A)
    → AreBeside P xs (map f xs)
beside_mapped P f holds [] = tt
beside_mapped P f holds (x ∷ xs) = (holds x, beside_mapped P f holds xs)

-- ---- one body

module _ (lates : List (Option (List ℕ))) where
  abbrev IsOfLane : Outcome → Option (List ℕ) → Type 0
  IsOfLane outcome late = late ≡ late_for lates outcome

  -- it is the reply at its place
  late_reply : (replies : List (List ℕ))
      → ((place : ℕ) (words : List ℕ) → late_in lates place ≡ Some words → at_place replies place ≡ Some words)
      → (outcome : Outcome) (late : Option (List ℕ)) → IsOfLane outcome late → IsLateReplyOf replies outcome late
  late_reply replies right outcome None is = tt
  late_reply replies right (Replied place told) (Some words) is = absurd cc
  late_reply replies right (TimedOut place rounds) (Some words) is = right place words (sym is)
  late_reply replies right Unsent (Some words) is = absurd cc
  late_reply replies right (LinkLost place) (Some words) is = absurd cc

  late_executed : (executed : ℕ)
      → ((place : ℕ) (words : List ℕ) → late_in lates place ≡ Some words → place ≤ executed)
      → (outcome : Outcome) (late : Option (List ℕ)) → IsOfLane outcome late → IsExecutedLate executed outcome late
  late_executed executed within outcome None is = tt
  late_executed executed within (Replied place told) (Some words) is = absurd cc
  late_executed executed within (TimedOut place rounds) (Some words) is = within place words (sym is)
  late_executed executed within Unsent (Some words) is = absurd cc
  late_executed executed within (LinkLost place) (Some words) is = absurd cc

  -- ---- all bodies

  pub late_replies : (replies : List (List ℕ))
      → ((place : ℕ) (words : List ℕ) → late_in lates place ≡ Some words → at_place replies place ≡ Some words)
      → (outcomes : List (List Outcome)) (shown : List (List (Option (List ℕ)))) → AreLatesOf lates outcomes shown
      → AreBeside (AreBeside (IsLateReplyOf replies)) outcomes shown
  late_replies replies right outcomes shown are =
      all_beside_then IsOfLane (IsLateReplyOf replies) (late_reply replies right) outcomes shown are

  pub lates_executed : (executed : ℕ)
      → ((place : ℕ) (words : List ℕ) → late_in lates place ≡ Some words → place ≤ executed)
      → (outcomes : List (List Outcome)) (shown : List (List (Option (List ℕ)))) → AreLatesOf lates outcomes shown
      → AreBeside (AreBeside (IsExecutedLate executed)) outcomes shown
  lates_executed executed within outcomes shown are =
      all_beside_then IsOfLane (IsExecutedLate executed) (late_executed executed within) outcomes shown are

  -- the link brought it
  late_brought : (link : LinkReport)
      → ((place : ℕ) (words : List ℕ) → late_in lates place ≡ Some words → HasBroughtReply link place words)
      → (outcome : Outcome) (late : Option (List ℕ)) → IsOfLane outcome late → IsLateBrought link outcome late
  late_brought link brought outcome None is = tt
  late_brought link brought (Replied place told) (Some words) is = absurd cc
  late_brought link brought (TimedOut place rounds) (Some words) is = brought place words (sym is)
  late_brought link brought Unsent (Some words) is = absurd cc
  late_brought link brought (LinkLost place) (Some words) is = absurd cc

  pub lates_brought : (link : LinkReport)
      → ((place : ℕ) (words : List ℕ) → late_in lates place ≡ Some words → HasBroughtReply link place words)
      → (outcomes : List (List Outcome)) (shown : List (List (Option (List ℕ)))) → AreLatesOf lates outcomes shown
      → AreBeside (AreBeside (IsLateBrought link)) outcomes shown
  lates_brought link brought outcomes shown are =
      all_beside_then IsOfLane (IsLateBrought link) (late_brought link brought) outcomes shown are

  -- the run heard it late
  late_heard : (end : Hub) → AreLatesAt end lates → (outcome : Outcome) (late : Option (List ℕ))
      → IsOfLane outcome late → IsLateAt end.lates outcome late
  late_heard end are (TimedOut place rounds) (Some words) is = are.came place words (sym is)
  late_heard end are (TimedOut place rounds) None is = λ words has.
      let came = are.kept place words has in absurd (let both : None ≡ Some words = is ∙ came in cc)
  late_heard end are (Replied place told) (Some words) is = absurd cc
  late_heard end are (Replied place told) None is = tt
  late_heard end are Unsent (Some words) is = absurd cc
  late_heard end are Unsent None is = tt
  late_heard end are (LinkLost place) (Some words) is = absurd cc
  late_heard end are (LinkLost place) None is = tt

  pub lates_heard : (end : Hub) → AreLatesAt end lates → (outcomes : List (List Outcome))
      (shown : List (List (Option (List ℕ)))) → AreLatesOf lates outcomes shown
      → AreBeside (AreBeside (IsLateAt end.lates)) outcomes shown
  lates_heard end heard outcomes shown are =
      all_beside_then IsOfLane (IsLateAt end.lates) (late_heard end heard) outcomes shown are

  -- ---- the lists of clients

  beside_list : (P : Outcome → Option (List ℕ) → Type 0) → ((o : Outcome) → P o (late_for lates o))
      → (outcomes : List Outcome) → AreBeside P outcomes (lates_of lates outcomes)
  beside_list P holds outcomes = elim (cases_Bool (list_any is_some (map (late_for lates) outcomes))) [
    | inl some ↦ rw some (beside_mapped P (late_for lates) holds outcomes)
    | inr none ↦ rw none tt
  ]

  pub are_of_lane : (outcomes : List (List Outcome)) → AreLatesOf lates outcomes (map (lates_of lates) outcomes)
  are_of_lane outcomes = beside_mapped (AreBeside IsOfLane) (lates_of lates)
      (beside_list IsOfLane (λ o. refl)) outcomes

  may_be_late : (place rounds : ℕ) (late : Option (List ℕ)) → IsLateOnlyIfTimedOut (TimedOut place rounds) late
  may_be_late place rounds None = tt
  may_be_late place rounds (Some words) = tt

  only_late : (o : Outcome) → IsLateOnlyIfTimedOut o (late_for lates o)
  only_late (Replied place words) = tt
  only_late (TimedOut place rounds) = may_be_late place rounds (late_in lates place)
  only_late Unsent = tt
  only_late (LinkLost place) = tt

  no_empty_list : (found : List (Option (List ℕ))) → list_any is_some (if_any_came found) ≡ false
      → if_any_came found ≡ []
  no_empty_list found none = elim (list_any is_some found) as
      (λ b. list_any is_some found ≡ b → list_any is_some (cond b found []) ≡ false → cond b found [] ≡ []) [
        | true ↦ λ some not. absurd (let both : true ≡ false = sym some ∙ not in cc)
        | false ↦ λ _ _. refl
      ] refl none

  pub of_timed_out : (outcomes : List Outcome) → AreLateOnlyIfTimedOut outcomes (lates_of lates outcomes)
  of_timed_out outcomes = record {
    timed_out = beside_list IsLateOnlyIfTimedOut only_late outcomes;
    no_list = no_empty_list (map (late_for lates) outcomes);
  }

  -- ---- what came late for one of them

  mapped_at : (os : List Outcome) (k : ℕ) (o : Outcome) → slice_get os k ≡ Some o
      → get_or (map (late_for lates) os) k None ≡ late_for lates o
  mapped_at [] k o at = absurd cc
  mapped_at (p ∷ os) zero o at = ap (late_for lates) (same_Some p o at)
  mapped_at (p ∷ os) (suc k) o at = mapped_at os k o at

  none_here : (late : Option (List ℕ)) (rest : List (Option (List ℕ))) → list_any is_some (late ∷ rest) ≡ false
      → late ≡ None
  none_here None rest none = refl
  none_here (Some words) rest none = absurd cc

  none_later : (late : Option (List ℕ)) (rest : List (Option (List ℕ))) → list_any is_some (late ∷ rest) ≡ false
      → list_any is_some rest ≡ false
  none_later None rest none = none
  none_later (Some words) rest none = absurd cc

  none_at : (os : List Outcome) (k : ℕ) (o : Outcome) → slice_get os k ≡ Some o
      → list_any is_some (map (late_for lates) os) ≡ false → None ≡ late_for lates o
  none_at [] k o at none = absurd cc
  none_at (p ∷ os) zero o at none =
      sym (none_here (late_for lates p) (map (late_for lates) os) none) ∙ ap (late_for lates) (same_Some p o at)
  none_at (p ∷ os) (suc k) o at none =
      none_at os k o at (none_later (late_for lates p) (map (late_for lates) os) none)

  late_got : (os : List Outcome) (k : ℕ) (o : Outcome) → slice_get os k ≡ Some o
      → get_or (lates_of lates os) k None ≡ late_for lates o
  late_got os k o at = elim (cases_Bool (list_any is_some (map (late_for lates) os))) [
    | inl some ↦ rw some (mapped_at os k o at)
    | inr none ↦ rw none (none_at os k o at none)
  ]

  -- a client's list has the late answer of each of its bodies
  pub all_late : (end : Hub) → AreLatesAt end lates → (outcomes : List Outcome)
      → AreAllLates end.lates outcomes (lates_of lates outcomes)
  all_late end are outcomes = λ k o at. subst (IsLateAt end.lates o) (sym (late_got outcomes k o at))
      (late_heard end are o (late_for lates o) refl)

  -- the outcome has a late answer exactly where the link handed out a reply of its place
  abbrev pub IsAsHanded : Telling → Outcome → Type 0
  IsAsHanded t o = (place rounds : ℕ) → o ≡ TimedOut place rounds → IsLateExactly t place (late_in lates place)

  handed_at : (t : Telling) (os : List Outcome) (k : ℕ) (o : Outcome) → AllByRecursion (IsAsHanded t) os
      → slice_get os k ≡ Some o → IsAsHanded t o
  handed_at t [] k o all at = absurd cc
  handed_at t (p ∷ os) zero o all at = subst (IsAsHanded t) (same_Some p o at) all.0
  handed_at t (p ∷ os) (suc k) o all at = handed_at t os k o all.1 at

  pub exactly_late : (t : Telling) (outcomes : List Outcome) → AllByRecursion (IsAsHanded t) outcomes
      → AreLateExactly t outcomes (lates_of lates outcomes)
  exactly_late t outcomes all = λ k place rounds at.
      subst (IsLateExactly t place) (sym (late_got outcomes k (TimedOut place rounds) at))
      (handed_at t outcomes k (TimedOut place rounds) all at place rounds refl)

-- ---- where every body was replied to

none_late : (o : Outcome) (late : Option (List ℕ)) → IsReplied o → IsLateOnlyIfTimedOut o late → late ≡ None
none_late o None replied may = refl
none_late (Replied place words) (Some late) replied may = absurd may
none_late (TimedOut place rounds) (Some late) replied may = absurd replied
none_late Unsent (Some late) replied may = absurd replied
none_late (LinkLost place) (Some late) replied may = absurd replied

none_came : (outcomes : List Outcome) (lates : List (Option (List ℕ))) → AllByRecursion IsReplied outcomes
    → AreBeside IsLateOnlyIfTimedOut outcomes lates → list_any is_some lates ≡ false
none_came outcomes [] replied may = refl
none_came [] (late ∷ lates) replied may = absurd may
none_came (o ∷ os) (late ∷ lates) replied may =
    rw (none_late o late replied.0 may.0) (none_came os lates replied.1 may.1)

pub in_time : (parts : List ClientPart)
    → AllByRecursion (AllByRecursion IsReplied) (map (λ (p : ClientPart). p.outcomes) parts)
    → AllByRecursion (λ (p : ClientPart). AreLateOnlyIfTimedOut p.outcomes p.lates) parts
    → AllByRecursion (λ (p : ClientPart). p.lates ≡ []) parts
in_time [] replied are = tt
in_time (p ∷ parts) replied are =
    (are.0.no_list (none_came p.outcomes p.lates replied.0 are.0.timed_out), in_time parts replied.1 are.1)
