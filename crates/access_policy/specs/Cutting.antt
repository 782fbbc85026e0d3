-- How the code names what it has cut and read so far. No public clause speaks of it.
use Rattle.std.specs.Prelude.{◌≡◌, ℕ, ◌==◌, nat_lt, Bool, true, false, if◌then◌else◌, List, [], ◌∷◌, ◌++◌, Option, Some, None, option_map, slice_get}
use Rattle.std.specs.Prelude.{Result, Ok, Err}
use Rattle.ipb_base.specs.declared.no_memory.NoMemory.{NoMemory as Lack}
use Rattle.node_tree.specs.Names.{dot}
use Rattle.script_lang.specs.Walk.{Way}
use Rattle.script_lang.specs.declared.steps.PathStep.TheVariants.{Key}
use Rattle.access_policy.specs.Names.{parts_of}
use Rattle.access_policy.specs.declared.policy.ItemPattern.{ItemPattern}
use Rattle.access_policy.specs.declared.refusal.PolicyRefusal.{PolicyRefusal}
use Rattle.access_policy.specs.declared.refusal.PolicyRefusal.TheVariants.{Shape}
use Rattle.access_policy.specs.declared.refusal.PolicyRefusal.TheVariants as refusals
use Rattle.access_policy.specs.declared.rule_keys.Misfit.{Misfit}
use Rattle.access_policy.specs.declared.policy.ItemPattern.{ItemPattern}
use Rattle.access_policy.specs.declared.refusal.PolicyRefusal.{PolicyRefusal}
use Rattle.access_policy.specs.declared.refusal.PolicyRefusal.TheVariants.{Shape}
use Rattle.access_policy.specs.declared.refusal.PolicyRefusal.TheVariants as refusals
use Rattle.access_policy.specs.declared.rule_keys.Misfit.TheVariants.{AtRule, AtKey, NoMemory}

-- the parts of what stands behind a dot, none where no dot is left
abbrev pub parts_left : Option (List ℕ) → List (List ℕ)
parts_left None = []
parts_left (Some text) = parts_of text

-- a text behind others, after a dot unless it is the first
abbrev pub with_part : Bool → List ℕ → List ℕ → List ℕ
with_part is_first text part = if is_first then text ++ part else text ++ dot ∷ part

-- the refusal at a path
abbrev pub refusal_of : Result (List ℕ) Lack → PolicyRefusal
refusal_of (Ok at) = Shape at
refusal_of (Err lack) = refusals.NoMemory

-- a name of so many ids is as long as so many items and what follows them ask for
abbrev pub fits : Bool → ℕ → ℕ → Bool
fits true items ids = nat_lt items ids
fits false items ids = items == ids

-- items so far, and what the parts that are left write
abbrev pub behind : List ItemPattern → Option (List ItemPattern × Bool) → Option (List ItemPattern × Bool)
behind items more = option_map (λ found. (items ++ found.0, found.1)) more

-- a fault of a rule tells the first of these places, want of memory aside
abbrev pub TellsFirst : List Way → Misfit → Type 0
TellsFirst ways AtRule = slice_get ways 0 ≡ Some []
TellsFirst ways (AtKey key) = slice_get ways 0 ≡ Some (Key key ∷ [])
TellsFirst ways NoMemory = Unit {0}
