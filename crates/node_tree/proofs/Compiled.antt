-- A walk to its end: the registers that were found are those that the table names.
use Rattle.std.proofs.Common.{◌≡◌, ◌⊎◌, inl, inr, ◌↔◌, ℕ, ◌+◌, ◌-◌, ◌^◌, ◌<◌, ◌≤◌, List, [], ◌∷◌, Bool, true, false}
use Rattle.std.proofs.Common.{not, ◌||◌, nat_lt, nat_le, Option, Some, None, is_some, cond, Ok, Err, refl, ap, sym, ◌∙◌}
use Rattle.std.proofs.Common.{subst, arith}
use Rattle.std.proofs.lemmas.Bool.{false≢true, ltb-true, leb-true}
use Rattle.std.proofs.lemmas.Cmp.{nat_list_cmp_total}
use Rattle.std.specs.Ordering.{eq_by_cmp}
use Rattle.std.specs.Cmp.{tied_itself}
use Rattle.std.specs.FinMap.{get, contains_key, insert, empty, len, len-insert, len-empty, get-insert, get-empty}
use Rattle.std.specs.FinMap.{nat_cmp-IsAntisymmetric, slice_cmp-IsAntisymmetric}
use Rattle.address_table.specs.Rules.{first_broken}
use Rattle.node_tree.specs.declared.register.Register.{Register}
use Rattle.node_tree.specs.declared.refusal.CompileWhy.TheVariants.{UnknownModule, ModuleCycle, TooMany, TooDeep}
use Rattle.node_tree.specs.declared.refusal.CompileWhy.TheVariants.{Duplicate, AddressPastEnd}
use Rattle.node_tree.specs.declared.walking.Found.{Found}
use Rattle.node_tree.specs.Maps.{Name, RegisterMap, TableMap, nodes_of, AreValidTables, AreRegisters}
use Rattle.node_tree.specs.Names.{RootNames}
use Rattle.node_tree.specs.Walk.{Visit, Lists, HasLevel, siblings, walk, root_walk, visit_rules, fault_or, first_fault}
use Rattle.node_tree.specs.Walk.{last_address}
use Rattle.node_tree.specs.Run.{Outcome, run, run_on, visit_next, step, found_more}
use Rattle.node_tree.proofs.NamedLemmas.{by_bytes}
use Rattle.node_tree.proofs.SetLemmas.{equal_of}
use Rattle.node_tree.proofs.EntryLemmas.{get-cases}
use Rattle.node_tree.specs.Limits.{most_nodes, most_ids}
use Rattle.node_tree.specs.declared.refusal.CompileWhy.{CompileWhy}
use Rattle.node_tree.specs.declared.refusal.CompileRefusal.{CompileRefusal}
use Rattle.node_tree.specs.declared.refusal.CompileRefusal.TheVariants.{At, NoMemory}
use Rattle.node_tree.specs.Modules.{NoTable, ReachesItself}
use Rattle.node_tree.specs.Refusals.{AreKnown, TellsNode, IsRefusal, Refuses}
use Rattle.node_tree.proofs.Faults.{Agree, fault_of, run-first_named}
use Rattle.node_tree.proofs.NamesLemmas.{listed-named, named-listed}
use Rattle.node_tree.proofs.RepeatLemmas.{same-root}
use Rattle.node_tree.proofs.RegisterLemmas.{root-register}

ok_rules : (found next : Found) (name : Name) (r : Register) (a b c d : Bool)
    → step found name r (first_broken ((TooMany, a) ∷ (TooDeep, b) ∷ (Duplicate, c) ∷ (AddressPastEnd, d) ∷ []))
    ≡ Ok next
    → (a ≡ true) × (b ≡ true) × (c ≡ true) × (d ≡ true) × (next ≡ found_more found name r)
ok_rules found next name r true true true true h = (refl, refl, refl, refl, cc)
ok_rules found next name r true true true false h = let bad : ⊥ = cc in absurd bad
ok_rules found next name r true true false d h = let bad : ⊥ = cc in absurd bad
ok_rules found next name r true false c d h = let bad : ⊥ = cc in absurd bad
ok_rules found next name r false b c d h = let bad : ⊥ = cc in absurd bad

not_true : (b : Bool) → not b ≡ true → b ≡ false
not_true true h = absurd (false≢true h)
not_true false h = refl

first_false : (a b : Bool) → (a || b) ≡ false → a ≡ false
first_false true b h = h
first_false false b h = refl

-- what is known of a node that the walk went past
record IsPassed (found next : Found) (v : Visit) : Type 0 where
  pub few : found.count < most_nodes
  pub shallow : v.level ≤ most_ids
  pub new : contains_key found.names v.name ≡ false
  pub within : last_address v.register < 2 ^ 32
  pub after : next ≡ found_more found v.name v.register

abbrev Passes : Found → Visit → Found → Type 0
Passes found v next = visit_next found v.name v.twin v.level v.register ≡ Ok next

passed : (found next : Found) (v : Visit) → Passes found v next → IsPassed found next v
unfolding visit_next
passed found next v h =
    let (few, shallow, new, within, after) = ok_rules found next v.name v.register _ _ _ _ h in
    record {
      few = ltb-true found.count most_nodes few;
      shallow = leb-true v.level most_ids shallow;
      new = first_false (contains_key found.names v.name) (contains_key found.names v.twin) (not_true _ new);
      within = ltb-true (last_address v.register) (2 ^ 32) within;
      after = after;
    }

cons_case : (vs : List Visit) (found more : Found) (v : Visit) (r : Outcome)
    → visit_next found v.name v.twin v.level v.register ≡ r → run_on (run vs) r ≡ Ok more
    → (next : Found) × (Passes found v next) × (run vs next ≡ Ok more)
cons_case vs found more v (Ok next) is h = (next, is, h)
cons_case vs found more v (Err fault) is h = let bad : ⊥ = cc in absurd bad

run-cons : (vs : List Visit) (found more : Found) (v : Visit) → run (v ∷ vs) found ≡ Ok more
    → (next : Found) × (Passes found v next) × (run vs next ≡ Ok more)
unfolding run
run-cons vs found more v h = cons_case vs found more v (visit_next found v.name v.twin v.level v.register) refl h

no-level : (vs : List Visit) (found more : Found) → run vs found ≡ Ok more → HasLevel vs (most_ids + 1) → ⊥
no-level [] found more h deep = deep
no-level (v ∷ vs) found more h (inl same) =
    let (next, ok, rest) = run-cons vs found more v h in
    let shallow : v.level ≤ most_ids = (passed found next v ok).shallow in
    omega arith
no-level (v ∷ vs) found more h (inr deep) =
    let (next, ok, rest) = run-cons vs found more v h in no-level vs next more rest deep

get-new : (m : RegisterMap) (k : Name) (v : Register) → get (insert m k v) k ≡ Some v
get-new m k v = get-insert nat_list_cmp_total m k v k ∙ rw (tied_itself nat_list_cmp_total k) refl

old_entry : (m : RegisterMap) (k q : Name) (v r : Register) (b : Bool) → eq_by_cmp by_bytes q k ≡ b
    → contains_key m k ≡ false → get m q ≡ Some r → cond b (Some v) (get m q) ≡ Some r
old_entry m k q v r true tie new h =
    let same : q ≡ k = slice_cmp-IsAntisymmetric nat_cmp-IsAntisymmetric q k (equal_of (by_bytes q k) tie) in
    absurd (false≢true (sym new ∙ ap is_some (subst (λ x. get m x ≡ Some r) same h)))
old_entry m k q v r false tie new h = h

get-old : (m : RegisterMap) (k q : Name) (v r : Register) → contains_key m k ≡ false → get m q ≡ Some r
    → get (insert m k v) q ≡ Some r
get-old m k q v r new h =
    get-insert nat_list_cmp_total m k v q ∙ old_entry m k q v r (eq_by_cmp by_bytes q k) refl new h

-- the walk keeps what was found before
run-kept : (vs : List Visit) (found more : Found) (q : Name) (r : Register) → run vs found ≡ Ok more
    → get found.names q ≡ Some r → get more.names q ≡ Some r
unfolding run
run-kept [] found more q r h old = let same : found ≡ more = cc in subst (λ f. get f.names q ≡ Some r) same old
run-kept (v ∷ vs) found more q r h old =
    let (next, ok, rest) = run-cons vs found more v h in
    let past = passed found next v ok in
    run-kept vs next more q r rest
    (subst (λ f. get f.names q ≡ Some r) (sym past.after) (get-old found.names v.name q v.register r past.new old))

-- it finds each register that it lists
run-listed : (vs : List Visit) (found more : Found) (q : Name) (r : Register) → run vs found ≡ Ok more → Lists vs q r
    → get more.names q ≡ Some r
run-listed [] found more q r h listed = absurd listed
run-listed (v ∷ vs) found more q r h (inl here) =
    let (next, ok, rest) = run-cons vs found more v h in
    let past = passed found next v ok in
    let at_name : get next.names v.name ≡ Some v.register =
    subst (λ f. get f.names v.name ≡ Some v.register) (sym past.after) (get-new found.names v.name v.register) in
    run-kept vs next more q r rest
    (subst (λ x. get next.names q ≡ Some x) here.1 (subst (λ x. get next.names x ≡ Some v.register) here.0 at_name))
run-listed (v ∷ vs) found more q r h (inr later) =
    let (next, ok, rest) = run-cons vs found more v h in run-listed vs next more q r rest later

from_next : (found : Found) (v : Visit) (vs : List Visit) (q : Name) (r : Register)
    → (get (insert found.names v.name v.register) q ≡ Some r) ⊎ Lists vs q r
    → (get found.names q ≡ Some r) ⊎ Lists (v ∷ vs) q r
from_next found v vs q r (inr later) = inr (inr later)
from_next found v vs q r (inl h) =
    elim (get-cases found.names v.name q v.register r h) [ inl here ↦ inr (inl here) | inr old ↦ inl old ]

-- and nothing else
run-found : (vs : List Visit) (found more : Found) (q : Name) (r : Register) → run vs found ≡ Ok more
    → get more.names q ≡ Some r → (get found.names q ≡ Some r) ⊎ Lists vs q r
unfolding run
run-found [] found more q r h there =
    let same : more ≡ found = cc in inl (subst (λ f. get f.names q ≡ Some r) same there)
run-found (v ∷ vs) found more q r h there =
    let (next, ok, rest) = run-cons vs found more v h in
    let past = passed found next v ok in
    from_next found v vs q r
    (subst (λ f. (get f.names q ≡ Some r) ⊎ Lists vs q r) past.after (run-found vs next more q r rest there))

abbrev pub start : Found
start = record { names = empty; count = 0 }

pub Agree-start : Agree [] start
Agree-start = record { count = refl; names = λ name. ap is_some (get-empty by_bytes name) }

pub root_walk-siblings : (tables : TableMap) (root : Name)
    → siblings (walk tables (most_ids + 1 - 1) (1 + 1)) tables 1 [] 0 [] (nodes_of tables root) ≡ root_walk tables root
unfolding walk
root_walk-siblings tables root = refl

named_side : (tables : TableMap) (root : Name) (more : Found) (q : Name) (r : Register)
    → (get {R = by_bytes} empty q ≡ Some r) ⊎ Lists (root_walk tables root) q r → RootNames tables root q r
named_side tables root more q r (inl none) = let bad : ⊥ = cc (get-empty {X = Register} by_bytes q) in absurd bad
named_side tables root more q r (inr listed) =
    listed-named tables (most_ids + 1) 1 [] 0 (nodes_of tables root) q r listed

found_side : (tables : TableMap) (root : Name) (more : Found) (q : Name) (r : Register)
    → run (root_walk tables root) start ≡ Ok more
    → Lists (root_walk tables root) q r ⊎ HasLevel (root_walk tables root) (most_ids + 1) → get more.names q ≡ Some r
found_side tables root more q r h (inl listed) = run-listed (root_walk tables root) start more q r h listed
found_side tables root more q r h (inr deep) = absurd (no-level (root_walk tables root) start more h deep)

pub names-iff : (tables : TableMap) (root : Name) (more : Found) → run (root_walk tables root) start ≡ Ok more
    → (q : Name) (r : Register) → (get more.names q ≡ Some r) ↔ RootNames tables root q r
names-iff tables root more h q r = (
  λ there. named_side tables root more q r (run-found (root_walk tables root) start more q r h there),
  λ named. found_side tables root more q r h (named-listed tables most_ids 1 [] 0 (nodes_of tables root) q r named),
)

-- a rule that a node breaks
abbrev IsNodeRule : CompileWhy → Type 0
IsNodeRule UnknownModule = ⊥
IsNodeRule ModuleCycle = ⊥
IsNodeRule TooMany = Unit {0}
IsNodeRule TooDeep = Unit {0}
IsNodeRule Duplicate = Unit {0}
IsNodeRule AddressPastEnd = Unit {0}

node_rule : (a b c d : Bool) (why : CompileWhy)
    → first_broken ((TooMany, a) ∷ (TooDeep, b) ∷ (Duplicate, c) ∷ (AddressPastEnd, d) ∷ []) ≡ Some why → IsNodeRule why
node_rule true true true true why h = let bad : ⊥ = cc in absurd bad
node_rule true true true false why h = let same : AddressPastEnd ≡ why = cc in subst IsNodeRule same tt
node_rule true true false d why h = let same : Duplicate ≡ why = cc in subst IsNodeRule same tt
node_rule true false c d why h = let same : TooDeep ≡ why = cc in subst IsNodeRule same tt
node_rule false b c d why h = let same : TooMany ≡ why = cc in subst IsNodeRule same tt

rule_in : (v : Visit) (o : Option CompileWhy) (rest : Option (Name × CompileWhy)) (path : Name) (why : CompileWhy)
    → ((w : CompileWhy) → o ≡ Some w → IsNodeRule w) → (rest ≡ Some (path, why) → IsNodeRule why)
    → fault_or v o rest ≡ Some (path, why) → IsNodeRule why
rule_in v None rest path why here later h = later h
rule_in v (Some w) rest path why here later h =
    let both : ◌≡◌ {A = Name × CompileWhy} (v.name, w) (path, why) = cc in
    let same : w ≡ why = ap (λ f. f.1) both in
    subst IsNodeRule same (here w refl)

fault-rule : (count : ℕ) (vs : List Visit) (path : Name) (why : CompileWhy) → first_fault count vs ≡ Some (path, why)
    → IsNodeRule why
fault-rule count [] path why h = let bad : ⊥ = cc in absurd bad
fault-rule count (v ∷ vs) path why h =
    rule_in v (first_broken (visit_rules count v)) (first_fault (count + 1) vs) path why
    (λ w. node_rule (nat_lt count most_nodes) (nat_le v.level most_ids) (not v.repeated)
    (nat_lt (last_address v.register) (2 ^ 32)) w) (fault-rule (count + 1) vs path why) h

refusal-node : (tables : TableMap) (root name path : Name) (why : CompileWhy) → IsNodeRule why
    → TellsNode tables root name path why → IsRefusal tables root (At name path why)
refusal-node tables root name path UnknownModule rule tells = absurd rule
refusal-node tables root name path ModuleCycle rule tells = absurd rule
refusal-node tables root name path TooMany rule tells = tells
refusal-node tables root name path TooDeep rule tells = tells
refusal-node tables root name path Duplicate rule tells = tells
refusal-node tables root name path AddressPastEnd rule tells = tells

refuses_node : (tables : TableMap) (root path : Name) (why : CompileWhy) (refusal : CompileRefusal)
    → Refuses root path why refusal → TellsNode tables root root path why → IsRefusal tables root refusal
refuses_node tables root path why NoMemory told tells = tt
refuses_node tables root path why (At n p w) told tells =
    let fault : first_fault 0 (root_walk tables root) ≡ Some (p, w) = rw (told.1, told.2) tells.3 in
    refusal-node tables root n p w (fault-rule 0 (root_walk tables root) p w fault) (tells.0, tells.1, told.0, fault)

-- where the code stops, or does not
run-fault : (tables : TableMap) (root : Name) → AreValidTables tables
    → fault_of (run (root_walk tables root) start) ≡ first_fault 0 (root_walk tables root)
run-fault tables root valid = run-first_named (root_walk tables root) [] start Agree-start ∙ same-root tables root valid

pub refused : (tables : TableMap) (root path : Name) (why : CompileWhy) (refusal : CompileRefusal)
    → AreValidTables tables → Refuses root path why refusal → AreKnown tables root
    → NoTable tables (ReachesItself tables)
    → run (root_walk tables root) start ≡ Err (path, why) → IsRefusal tables root refusal
refused tables root path why refusal valid told known acyclic stop =
    refuses_node tables root path why refusal told
    (known, acyclic, refl, sym (run-fault tables root valid) ∙ ap fault_of stop)

pub no_fault : (tables : TableMap) (root : Name) (more : Found) → AreValidTables tables
    → run (root_walk tables root) start ≡ Ok more → first_fault 0 (root_walk tables root) ≡ None
no_fault tables root more valid walked = sym (run-fault tables root valid) ∙ ap fault_of walked

at_most_one : (b : Bool) (n : ℕ) → cond b n (n + 1) ≤ n + 1
at_most_one true n = omega arith
at_most_one false n = omega arith

-- no more registers than nodes, of which there are 65,536 at most
run-size : (vs : List Visit) (found more : Found) → run vs found ≡ Ok more → len found.names ≤ found.count
    → found.count ≤ most_nodes → len more.names ≤ most_nodes
unfolding run
run-size [] found more h small few =
    let same : found ≡ more = cc in subst (λ f. len f.names ≤ most_nodes) same (omega arith)
run-size (v ∷ vs) found more h small few =
    let (next, ok, rest) = run-cons vs found more v h in
    let past = passed found next v ok in
    let size : len (insert found.names v.name v.register) ≤ len found.names + 1 =
    rw (len-insert nat_list_cmp_total found.names v.name v.register)
    (at_most_one (contains_key found.names v.name) (len found.names)) in
    let under : found.count < most_nodes = past.few in
    let next_small : len next.names ≤ next.count = subst (λ f. len f.names ≤ f.count) (sym past.after) (omega arith) in
    let next_few : next.count ≤ most_nodes = subst (λ f. f.count ≤ most_nodes) (sym past.after) (omega arith) in
    run-size vs next more rest next_small next_few

pub few_names : (tables : TableMap) (root : Name) (more : Found) → run (root_walk tables root) start ≡ Ok more
    → len more.names ≤ most_nodes
few_names tables root more h =
    let none : len (empty {X = Register} {R = by_bytes}) ≡ 0 = len-empty by_bytes Register in
    run-size (root_walk tables root) start more h (omega arith) (omega arith)

-- each register ends at an address of 32 bits
abbrev AreWithin : RegisterMap → Type 0
AreWithin registers = (name : Name) (r : Register) → get registers name ≡ Some r → last_address r < 2 ^ 32

within-more : (m : RegisterMap) (k : Name) (v : Register) → AreWithin m → last_address v < 2 ^ 32
    → AreWithin (insert m k v)
within-more m k v within here name r there =
    elim (get-cases m k name v r there)
    [ inl same ↦ subst (λ x. last_address x < 2 ^ 32) same.1 here | inr old ↦ within name r old ]

-- every register ends within 32 bits
run-within : (vs : List Visit) (found more : Found) → run vs found ≡ Ok more → AreWithin found.names
    → AreWithin more.names
unfolding run
run-within [] found more h within = let same : found ≡ more = cc in subst (λ f. AreWithin f.names) same within
run-within (v ∷ vs) found more h within =
    let (next, ok, rest) = run-cons vs found more v h in
    let past = passed found next v ok in
    run-within vs next more rest
    (subst (λ f. AreWithin f.names) (sym past.after) (within-more found.names v.name v.register within past.within))

within-none : AreWithin empty
within-none name r h = let bad : ⊥ = cc (get-empty {X = Register} by_bytes name) in absurd bad

-- and fits its mode
pub all_registers : (tables : TableMap) (root : Name) (more : Found) → AreValidTables tables
    → run (root_walk tables root) start ≡ Ok more
    → AreRegisters more.names
all_registers tables root more valid h name r there =
    root-register tables root name r valid ((names-iff tables root more h name r).0 there)
    (run-within (root_walk tables root) start more h within-none name r there)
