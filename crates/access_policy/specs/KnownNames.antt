-- What is known of names: what private functions promise one another. No public clause speaks of it.
use denote.Ref.{Bor}
use Rattle.std.specs.Prelude.{◌≡◌, ℕ, List, Some}
use Rattle.std.specs.BTreeMap.{BTreeMap, get}
use Rattle.std.specs.Ordering.{nat_cmp}
use Rattle.script_steps.specs.declared.operation.Decision.{Decision}
use Rattle.access_policy.specs.Candidates.{IsKnown, Numbered, first_of}
use Rattle.access_policy.specs.Names.{items_of}
use Rattle.access_policy.specs.declared.judging.Known.{Known}
use Rattle.access_policy.specs.declared.policy.Access.{Access}

-- a name with what is known of it
abbrev pub Said : Type 0
Said = Bor (List ℕ) × Decision

abbrev pub AreSaid : Access → List Numbered → BTreeMap ℕ Said → Type 0
AreSaid access candidates known = (number : ℕ) (said : Said) → get nat_cmp known number ≡ Some said
    → said.1 ≡ first_of access (items_of said.0.now) candidates

-- what is known of names is what these rules say of them
pub record AreKnown (access : Access) (candidates : List Numbered) (known : Known) : Type 0 where
  pub by_number : AreSaid access candidates known.by_number
  pub by_name : IsKnown access candidates known.by_name
