-- What came late for the bodies of clients, by what came late at each place of their lane. Profile.
use Rattle.std.specs.Prelude.{◌≡◌, ◌↔◌, ℕ, false, if◌then◌else◌, List, [], map, Option, Some, None, is_some}
use Rattle.std.specs.Prelude.{get_or}
use Rattle.std.specs.List.{list_any, slice_get}
use Rattle.links.specs.Handed.{WasHanded}
use Rattle.links.specs.Telling.{Telling}
use Rattle.lane_record.specs.declared.outcome.Outcome.{Outcome}
use Rattle.lane_record.specs.declared.outcome.Outcome.TheVariants.{Replied, TimedOut, Unsent, LinkLost}
use Rattle.lane_record.specs.Lates.{late_in}
use Rattle.board_history.specs.Parts.{AreBeside}

-- what came late for a body of which this became; one that was not timed out has no late answer
abbrev pub late_for : List (Option (List ℕ)) → Outcome → Option (List ℕ)
late_for lates (Replied place words) = None
late_for lates (TimedOut place rounds) = late_in lates place
late_for lates Unsent = None
late_for lates (LinkLost place) = None

-- where none of these came there is no list
abbrev pub if_any_came : List (Option (List ℕ)) → List (Option (List ℕ))
if_any_came found = if list_any is_some found then found else []

-- what came late for each of a client's bodies, in their order
abbrev pub lates_of : List (Option (List ℕ)) → List Outcome → List (Option (List ℕ))
lates_of lates outcomes = if_any_came (map (late_for lates) outcomes)

-- What stands beside an outcome is what came late on the lane for that body: a late answer or none. The end of a list
-- may be left out.
abbrev pub AreLatesOf : List (Option (List ℕ)) → List (List Outcome) → List (List (Option (List ℕ))) → Type 0
AreLatesOf lates outcomes shown =
    AreBeside (AreBeside (λ outcome late. late ≡ late_for lates outcome)) outcomes shown

-- ---- over any link

-- only a body that was timed out has a late answer
abbrev pub IsLateOnlyIfTimedOut : Outcome → Option (List ℕ) → Type 0
IsLateOnlyIfTimedOut outcome None = Unit {0}
IsLateOnlyIfTimedOut (TimedOut place rounds) (Some words) = Unit {0}
IsLateOnlyIfTimedOut other (Some words) = ⊥

-- Of the outcomes of a client, and what came late beside each: where nothing came late there is no list.
pub record AreLateOnlyIfTimedOut (outcomes : List Outcome) (lates : List (Option (List ℕ))) : Type 0 where
  pub timed_out : AreBeside IsLateOnlyIfTimedOut outcomes lates
  pub no_list : list_any is_some lates ≡ false → lates ≡ []

-- ---- over a link that tells

-- a body at this place has this late answer exactly where the link handed out a reply of that place, with these words
abbrev pub IsLateExactly : Telling → ℕ → Option (List ℕ) → Type 0
IsLateExactly t place late = (words : List ℕ) → (late ≡ Some words) ↔ WasHanded t place words

-- so of each body of a client that was timed out; one behind the end of the list has no late answer
abbrev pub AreLateExactly : Telling → List Outcome → List (Option (List ℕ)) → Type 0
AreLateExactly t outcomes lates = (k place rounds : ℕ) → slice_get outcomes k ≡ Some (TimedOut place rounds)
    → IsLateExactly t place (get_or lates k None)
