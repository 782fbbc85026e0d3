-- How the code keeps the rules of a board by an id that their patterns ask for. No public clause speaks of it.
use Rattle.std.specs.Prelude.{◌≡◌, ◌≤◌, ℕ, ◌+◌, nat_lt, Bool, false, if◌then◌else◌, List, [], ◌∷◌, Option, Some, None, is_none, slice_get}
use Rattle.std.specs.BTreeMap.{get_by}
use Rattle.std.specs.Cmp.Lexicographic.{slice_cmp}
use Rattle.std.specs.List.{filter}
use Rattle.std.specs.Option.{option_and_then, option_map_or}
use Rattle.std.specs.Ordering.{nat_cmp}
use Rattle.std.specs.Str.{bytes_eq}
use Rattle.script_steps.specs.declared.operation.Decision.{Decision}
use Rattle.script_steps.specs.declared.operation.Decision.TheVariants.{Denied}
use Rattle.access_policy.specs.Candidates.{Numbered, is_of}
use Rattle.access_policy.specs.Decisions.{said}
use Rattle.access_policy.specs.Names.{NameItem}
use Rattle.access_policy.specs.declared.policy.Access.{Access}
use Rattle.access_policy.specs.declared.policy.ItemPattern.{ItemPattern}
use Rattle.access_policy.specs.declared.policy.ItemPattern.TheVariants.{Any, Id, Indexed, AnyIndex}
use Rattle.access_policy.specs.declared.rules_by_id.RulesById.{RulesById}

-- the id that an item asks for, and that a pattern asks for at a place
abbrev pub id_of : ItemPattern → Option (List ℕ)
id_of Any = None
id_of (Id id) = Some id
id_of (Indexed id index) = Some id
id_of (AnyIndex id) = Some id

abbrev pub id_at : ℕ → Numbered → Option (List ℕ)
id_at place candidate = option_and_then id_of (slice_get candidate.rule.pattern.items place)

abbrev pub asks_for : ℕ → List ℕ → Numbered → Bool
asks_for place id candidate = option_map_or (λ asked. bytes_eq id asked) (id_at place candidate) false

abbrev pub asks_for_none : ℕ → Numbered → Bool
asks_for_none place candidate = is_none (id_at place candidate)

-- those that ask for an id stand under it, in order, and those that ask for none beside them
pub record AreById (candidates : List Numbered) (sorted : RulesById) : Type 0 where
  pub own : (id : List ℕ) → option_map_or (λ found. found.items)
      (get_by (λ key. slice_cmp nat_cmp id key.now) sorted.by_id) []
      ≡ filter (asks_for sorted.place id) candidates
  pub others' : sorted.others.items ≡ filter (asks_for_none sorted.place) candidates

-- the numbers rise, from one on
abbrev pub IsRisingFrom : ℕ → List Numbered → Type 0
IsRisingFrom number [] = Unit {0}
IsRisingFrom number (candidate ∷ candidates) =
    (number ≤ candidate.number) × IsRisingFrom (candidate.number + 1) candidates

-- the first of these rules that speaks of an access, and what it says
abbrev pub found_in : Access → List NameItem → List Numbered → Option Numbered
found_in access items [] = None
found_in access items (candidate ∷ candidates) =
    if is_of access items candidate.rule then Some candidate else found_in access items candidates

abbrev pub saying : Option Numbered → Decision
saying None = Denied 0
saying (Some candidate) = said candidate.number candidate.rule.effect

-- of two rules the one of the lower number
abbrev pub lower : Option Numbered → Option Numbered → Option Numbered
lower None other = other
lower (Some one) None = Some one
lower (Some one) (Some other) = if nat_lt other.number one.number then Some other else Some one
