-- The first fault of a walk by the names that it came to, which is where the code stops.
use Rattle.std.proofs.Common.{◌≡◌, ◌^◌, Bool, true, false, not, ◌||◌, nat_lt, nat_le, List, [], ◌∷◌, length, Option}
use Rattle.std.proofs.Common.{Some, None, is_some, cond, Ok, Err, bytes_eq, refl, ap, ◌∙◌, arith, nat_cmp}
use Rattle.std.specs.List.{list_any}
use Rattle.std.specs.Ordering.{eq_by_cmp}
use Rattle.std.specs.Cmp.Lexicographic.{slice_cmp}
use Rattle.std.proofs.lemmas.Map.Text.{is_eq-slice_cmp}
use Rattle.std.proofs.lemmas.Cmp.{nat_list_cmp_total}
use Rattle.std.specs.FinMap.{get, contains_key, insert, get-insert}
use Rattle.address_table.specs.Rules.{first_broken}
use Rattle.node_tree.specs.declared.register.Register.{Register}
use Rattle.node_tree.specs.Limits.{most_nodes, most_ids}
use Rattle.node_tree.specs.declared.refusal.CompileWhy.{CompileWhy}
use Rattle.node_tree.specs.declared.refusal.CompileWhy.TheVariants.{TooMany, TooDeep, Duplicate, AddressPastEnd}
use Rattle.node_tree.specs.declared.walking.Found.{Found}
use Rattle.node_tree.specs.Maps.{Name, RegisterMap}
use Rattle.node_tree.specs.Walk.{Visit, last_address, fault_or}
use Rattle.node_tree.specs.Run.{Outcome, run, run_on, visit_next, next_rules, step, found_more}

-- a node of these has the name
abbrev pub is_named_by : Name → List Visit → Bool
is_named_by name visits = list_any (λ v. bytes_eq name v.name) visits

-- the rules for an index of a node after those that the walk came to before, the latest first
abbrev pub named_rules : List Visit → Visit → List (CompileWhy × Bool)
named_rules before v =
    (TooMany, nat_lt (length before) most_nodes)
    ∷ (TooDeep, nat_le v.level most_ids)
    ∷ (Duplicate, not (is_named_by v.name before || is_named_by v.twin before))
    ∷ (AddressPastEnd, nat_lt (last_address v.register) (2 ^ 32))
    ∷ []

-- the first node that breaks one of them, with the rule
abbrev pub first_named : List Visit → List Visit → Option (Name × CompileWhy)
first_named before [] = None
first_named before (v ∷ vs) = fault_or v (first_broken (named_rules before v)) (first_named (v ∷ before) vs)

-- the code has found what the walk came to before
pub record Agree (before : List Visit) (found : Found) : Type 0 where
  pub count : found.count ≡ length before
  pub names : (name : Name) → contains_key found.names name ≡ is_named_by name before

some_of_cond : {X : Type 0} (b : Bool) (x : X) (o : Option X) → is_some (cond b (Some x) o) ≡ (b || is_some o)
some_of_cond true x o = refl
some_of_cond false x o = refl

contains-insert : (m : RegisterMap) (k q : Name) (r : Register)
    → contains_key (insert m k r) q ≡ (bytes_eq q k || contains_key m q)
contains-insert m k q r =
    ap is_some (get-insert nat_list_cmp_total m k r q) ∙ some_of_cond (eq_by_cmp (slice_cmp nat_cmp) q k) r (get m q)
    ∙ ap (λ b. b || contains_key m q) (is_eq-slice_cmp q k)

pub Agree-more : (before : List Visit) (found : Found) (v : Visit) → Agree before found
    → Agree (v ∷ before) (found_more found v.name v.register)
Agree-more before found v agree = record {
  count = let e = agree.count in omega arith;
  names =
      λ name. contains-insert found.names v.name name v.register
      ∙ ap (λ b. bytes_eq name v.name || b) (agree.names name);
}

same_rules : (before : List Visit) (found : Found) (v : Visit) → Agree before found
    → next_rules found v.name v.twin v.level v.register ≡ named_rules before v
same_rules before found v agree = rw (agree.count, agree.names v.name, agree.names v.twin) refl

abbrev pub fault_of : Outcome → Option (Name × CompileWhy)
fault_of (Ok found) = None
fault_of (Err fault) = Some fault

after_rule : (found : Found) (v : Visit) (vs : List Visit) (rest : Option (Name × CompileWhy))
    → fault_of (run vs (found_more found v.name v.register)) ≡ rest
    → (o : Option CompileWhy) → fault_of (run_on (run vs) (step found v.name v.register o)) ≡ fault_or v o rest
after_rule found v vs rest more None = more
after_rule found v vs rest more (Some why) = refl

-- the walk of the code stops at the first fault
pub run-first_named : (vs before : List Visit) (found : Found) → Agree before found
    → fault_of (run vs found) ≡ first_named before vs
unfolding run visit_next
run-first_named [] before found agree = refl
run-first_named (v ∷ vs) before found agree =
    ap (λ rules. fault_of (run_on (run vs) (step found v.name v.register (first_broken rules))))
    (same_rules before found v agree)
    ∙ after_rule found v vs (first_named (v ∷ before) vs)
    (run-first_named vs (v ∷ before) (found_more found v.name v.register) (Agree-more before found v agree))
    (first_broken (named_rules before v))
