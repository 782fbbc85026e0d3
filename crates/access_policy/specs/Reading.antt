-- The policy of a session document: what is wrong with its value, in the order of one walk, and the rules that a value
-- without faults stands for. Profile.
use Rattle.std.specs.Prelude.{◌≡◌, ℕ, ◌+◌, nat_le, Bool, false, if◌then◌else◌, List, [], ◌∷◌, ◌++◌, length, map}
use Rattle.std.specs.Prelude.{codes, Option, Some, None, is_some, slice_get}
use Rattle.std.specs.Option.{option_and_then, unwrap_or}
use Rattle.std.specs.Str.{bytes_eq}
use Rattle.toml.specs.Data.{Data, array, table, Members, no_members, member, as_str, get_member}
use Rattle.ipb_base.specs.Digits.{is_between}
use Rattle.address_table.specs.Numbers.{number}
use Rattle.address_table.specs.Rules.{has_key, holds_of}
use Rattle.address_table.specs.declared.kinds.Permission.{Permission}
use Rattle.address_table.specs.declared.kinds.Permission.TheVariants.{R, W, Rw}
use Rattle.script_lang.specs.Fields.{tables_in, text_at, values}
use Rattle.script_lang.specs.Paths.{path}
use Rattle.script_lang.specs.Walk.{Way, below, here, unless}
use Rattle.script_lang.specs.declared.refusal.TheConstants.{MAX_CLIENTS}
use Rattle.script_lang.specs.declared.steps.PathStep.TheVariants.{Key, Item}
use Rattle.access_policy.specs.Spelling.{pattern_of}
use Rattle.access_policy.specs.declared.limits.TheConstants.{MAX_RULES}
use Rattle.access_policy.specs.declared.policy.BoardPattern.TheVariants.{Any}
use Rattle.access_policy.specs.declared.policy.Effect.{Effect}
use Rattle.access_policy.specs.declared.policy.Effect.TheVariants.{Allow, Deny}
use Rattle.access_policy.specs.declared.policy.Pattern.{Pattern}
use Rattle.access_policy.specs.declared.policy.Rule.{Rule}
use Rattle.access_policy.specs.declared.refusal.PolicyRefusal.{PolicyRefusal}
use Rattle.access_policy.specs.declared.refusal.PolicyRefusal.TheVariants.{Shape, NoMemory}

-- ---- the words of a rule

abbrev pub effect_named : List ℕ → Option Effect
effect_named word =
    if bytes_eq word (codes "allow") then Some Allow else if bytes_eq word (codes "deny") then Some Deny else None

abbrev pub access_named : List ℕ → Option Permission
access_named word =
    if bytes_eq word (codes "r") then Some R
    else if bytes_eq word (codes "w") then Some W
    else if bytes_eq word (codes "rw") then Some Rw
    else None

-- ---- faults

abbrev pub is_effect : Data → Bool
is_effect value = is_some (option_and_then effect_named (as_str value))

abbrev pub is_access : Data → Bool
is_access value = is_some (option_and_then access_named (as_str value))

abbrev pub is_pattern : Data → Bool
is_pattern value = is_some (option_and_then pattern_of (as_str value))

-- the number of a client that a session may have
abbrev pub is_client : Data → Bool
is_client value = holds_of (is_between 1 MAX_CLIENTS) (number value)

-- A value may stand under a key of a rule. A rule has no other keys.
abbrev pub may_stand : List ℕ → Data → Bool
may_stand key value =
    if bytes_eq key (codes "access") then is_access value
    else if bytes_eq key (codes "client") then is_client value
    else if bytes_eq key (codes "effect") then is_effect value
    else if bytes_eq key (codes "name") then is_pattern value
    else false

-- the keys that each rule has, in byte order
abbrev pub needed_keys : List (List ℕ)
needed_keys = codes "access" ∷ codes "effect" ∷ codes "name" ∷ []

-- each of these keys that is not there
abbrev pub absent_keys : List (List ℕ) → Members → List Way
absent_keys [] ms = []
absent_keys (key ∷ keys) ms = if has_key key ms then absent_keys keys ms else (Key key ∷ []) ∷ absent_keys keys ms

-- the keys that are there, in byte order
abbrev pub keys_faults : Members → List Way
keys_faults no_members = []
keys_faults (member key value ms) = below (Key key) (unless (may_stand key value)) ++ keys_faults ms

abbrev pub rule_faults : Data → List Way
rule_faults (table ms) = keys_faults ms ++ absent_keys needed_keys ms
rule_faults value = here

-- the rules from a position on
abbrev pub rules_faults : ℕ → List Data → List Way
rules_faults i [] = []
rules_faults i (value ∷ values) = below (Item i) (rule_faults value) ++ rules_faults (i + 1) values

-- A policy is an array of at most `MAX_RULES` rules.
abbrev pub policy_faults : Data → List Way
policy_faults (array rules) = unless (nat_le (length (values rules)) MAX_RULES) ++ rules_faults 0 (values rules)
policy_faults value = here

-- ---- what a value without faults stands for

-- a pattern of no items, which no name has
abbrev pub no_pattern : Pattern
no_pattern = record { board = Any; items = []; rest = false }

abbrev pub rule_of : Members → Rule
rule_of ms = record {
  effect = unwrap_or (effect_named (text_at (codes "effect") ms)) Deny;
  access = unwrap_or (access_named (text_at (codes "access") ms)) Rw;
  pattern = unwrap_or (pattern_of (text_at (codes "name") ms)) no_pattern;
  client = option_and_then number (get_member (codes "client") ms);
}

-- the rules, in order
abbrev pub policy_of : Data → List Rule
policy_of (array rules) = tables_in rule_of (values rules)
policy_of value = []

-- a refusal tells the path of the first of some faulty places, want of memory aside
abbrev pub TellsShape : List Way → PolicyRefusal → Type 0
TellsShape ways (Shape at) = slice_get (map path ways) 0 ≡ Some at
TellsShape ways NoMemory = Unit {0}
