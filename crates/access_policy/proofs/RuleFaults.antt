-- The first of some faults of a policy, in lists that are put together.
use Rattle.std.proofs.Common.{◌≡◌, ℕ, ◌+◌, ◌<◌, List, [], ◌∷◌, ◌++◌, length, drop, get_or, map, String, Global, string_bytes}
use Rattle.std.proofs.Common.{false, Some, Result, Ok, Err, IfOk, slice_get, ap, sym, subst, ◌∙◌}
use Rattle.std.proofs.Common.{◌≤◌, nat_le, true, Vec, arith}
use Rattle.std.proofs.lemmas.Bool.Decides.{nat_tests}
use Rattle.std.proofs.lemmas.List.{at_drop_more, length-map}
use Rattle.ipb_base.specs.declared.no_memory.NoMemory.{NoMemory as Lack}
use Rattle.toml.specs.Data.{Data, as_array}
use Rattle.toml.specs.View.{array_view, members_view, view}
use Rattle.toml.specs.declared.value.Value.{Value}
use Rattle.script_lang.specs.Fields.{tables_in}
use Rattle.script_lang.specs.Paths.{path}
use Rattle.script_lang.specs.Walk.{Way, below, here, unless}
use Rattle.script_lang.specs.declared.steps.PathStep.{PathStep}
use Rattle.script_lang.specs.declared.steps.PathStep.TheVariants.{Key, Item}
use Rattle.access_policy.specs.Cutting.{TellsFirst, refusal_of}
use Rattle.access_policy.specs.Reading.{TellsShape, keys_faults, may_stand, policy_faults, policy_of, rule_faults}
use Rattle.access_policy.specs.Reading.{rule_of, rules_faults}
use Rattle.access_policy.specs.declared.limits.TheConstants.{MAX_RULES}
use Rattle.access_policy.specs.declared.refusal.PolicyRefusal.{PolicyRefusal}
use Rattle.access_policy.specs.declared.refusal.PolicyRefusal.TheVariants.{Shape, NoMemory}
use Rattle.access_policy.specs.declared.rule_keys.Misfit.{Misfit}
use Rattle.access_policy.specs.declared.rule_keys.Misfit.TheVariants.{AtRule, AtKey}
use Rattle.access_policy.specs.declared.rule_keys.Misfit.TheVariants as misfits
use Rattle.script_lang.proofs.Faults.{is_array}
use Rattle.script_lang.proofs.Values.{values_of_view}

-- what is first in the front is first in the whole
first-front : (xs ys : List Way) (m : Misfit) → TellsFirst xs m → TellsFirst (xs ++ ys) m
first-front xs ys misfits.NoMemory h = tt
first-front [] ys AtRule h = cc
first-front (x ∷ xs) ys AtRule h = h
first-front [] ys (AtKey key) h = cc
first-front (x ∷ xs) ys (AtKey key) h = h

-- a key that does not keep its rule is first among the keys from it on
pub first-key : (name : String Global) (v : Value) (rest : List (String Global × Value)) (m : Misfit)
    → may_stand (string_bytes name) (view v) ≡ false
    → TellsFirst ((Key (string_bytes name) ∷ []) ∷ []) m
    → TellsFirst (keys_faults (members_view ((name, v) ∷ rest))) m
first-key name v rest m bad h =
    first-front (below (Key (string_bytes name)) (unless (may_stand (string_bytes name) (view v))))
    (keys_faults (members_view rest)) m (rw bad h)

-- a refusal at the path of the first place below a step
pub told_below : (step : PathStep) (ways : List Way) (way : Way) (at : Result (List ℕ) Lack)
    → slice_get ways 0 ≡ Some way → IfOk at (λ text. text ≡ path (step ∷ way))
    → TellsShape (below step ways) (refusal_of at)
told_below step [] way (Ok text) first is = cc
told_below step (w ∷ ways) way (Ok text) first is =
    let same : w ≡ way = cc in ap (λ v. Some (path (step ∷ v))) same ∙ ap Some (sym is)
told_below step ways way (Err lack) first is = tt

pub front_shape : (xs ys : List Way) (r : PolicyRefusal) → TellsShape xs r → TellsShape (xs ++ ys) r
front_shape xs ys NoMemory h = tt
front_shape [] ys (Shape at) h = cc
front_shape (x ∷ xs) ys (Shape at) h = h

-- the faults from a rule on
pub from_rule : (vs : List Value) (i : ℕ) (v : Value) → i < length vs → v ≡ get_or vs i v
    → rules_faults i (map view (drop i vs))
    ≡ below (Item i) (rule_faults (view v)) ++ rules_faults (i + 1) (map view (drop (i + 1) vs))
from_rule vs i v within here =
    at_drop_more (λ xs. rules_faults i (map view xs)) vs i v within
    ∙ ap (λ w. below (Item i) (rule_faults (view w)) ++ rules_faults (i + 1) (map view (drop (i + 1) vs))) (sym here)

-- what is first in a rule is first from it on
pub first-rule : (vs : List Value) (i : ℕ) (v : Value) (r : PolicyRefusal) → i < length vs → v ≡ get_or vs i v
    → TellsShape (below (Item i) (rule_faults (view v))) r
    → TellsShape (rules_faults i (map view (drop i vs))) r
first-rule vs i v r within here h =
    subst (λ ways. TellsShape ways r) (sym (from_rule vs i v within here)) (front_shape _ _ r h)

-- ---- a value that is an array

is_long : (n : ℕ) → MAX_RULES < n → nat_le n MAX_RULES ≡ false
is_long n more = grind (arith, nat_tests)

is_short : (n : ℕ) → n ≤ MAX_RULES → nat_le n MAX_RULES ≡ true
is_short n few = grind (arith, nat_tests)

array_faults : (value : Data) (items : List Value) (more : Vec Value Global) → Some (array_view more) ≡ as_array value
    → items ≡ more.items
    → policy_faults value
    ≡ unless (nat_le (length (map view items)) MAX_RULES) ++ rules_faults 0 (map view items)
array_faults value items more is same =
    ap policy_faults (is_array value (array_view more) is)
    ∙ ap (λ rules. unless (nat_le (length rules) MAX_RULES) ++ rules_faults 0 rules)
    (values_of_view more.items ∙ ap (map view) (sym same))

pub array_rules : (value : Data) (items : List Value) (more : Vec Value Global) → Some (array_view more) ≡ as_array value
    → items ≡ more.items → policy_of value ≡ tables_in rule_of (map view items)
array_rules value items more is same =
    ap policy_of (is_array value (array_view more) is)
    ∙ ap (tables_in rule_of) (values_of_view more.items ∙ ap (map view) (sym same))

-- an array of too many rules is faulty as a whole
pub many_rules : (value : Data) (items : List Value) (more : Vec Value Global) (r : PolicyRefusal)
    → Some (array_view more) ≡ as_array value → items ≡ more.items → MAX_RULES < length items
    → TellsShape here r → TellsShape (policy_faults value) r
many_rules value items more r is same long h =
    let bad : nat_le (length (map view items)) MAX_RULES ≡ false =
    is_long (length (map view items)) (subst (λ n. MAX_RULES < n) (sym (length-map items view)) long) in
    subst (λ ways. TellsShape ways r) (sym (array_faults value items more is same))
    (front_shape (unless (nat_le (length (map view items)) MAX_RULES)) (rules_faults 0 (map view items)) r (rw bad h))

-- the faults of an array that is short enough are those of its rules
pub few_rules : (value : Data) (items : List Value) (more : Vec Value Global)
    → Some (array_view more) ≡ as_array value → items ≡ more.items → length items ≤ MAX_RULES
    → rules_faults 0 (map view items) ≡ policy_faults value
few_rules value items more is same short =
    let good : nat_le (length (map view items)) MAX_RULES ≡ true =
    is_short (length (map view items)) (subst (λ n. n ≤ MAX_RULES) (sym (length-map items view)) short) in
    sym (array_faults value items more is same
    ∙ ap (λ b. unless b ++ rules_faults 0 (map view items)) good)
