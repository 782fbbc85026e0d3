-- Where the walk has no fault, no two siblings have one id.
use Rattle.std.proofs.Common.{◌≡◌, ℕ, zero, suc, ◌+◌, ◌-◌, ◌^◌, ◌<◌, ◌≤◌, ◌==◌, ◌&&◌, List, [], ◌∷◌, ◌++◌, length, Bool}
use Rattle.std.proofs.Common.{true, false, not, nat_lt, nat_le, Option, Some, None, refl, ap, sym, subst, ◌∙◌}
use Rattle.std.proofs.Common.{append_assoc, arith}
use Rattle.std.proofs.lemmas.Bool.{false≢true, leb-true}
use Rattle.std.proofs.lemmas.List.{append-nil}
use Rattle.std.specs.Option.{option_or}
use Rattle.address_table.specs.Rules.{first_broken}
use Rattle.address_table.specs.declared.nodes.Node.{Node, out-Node}
use Rattle.node_tree.specs.Limits.{most_nodes, most_ids}
use Rattle.node_tree.specs.declared.refusal.CompileWhy.{CompileWhy}
use Rattle.node_tree.specs.declared.refusal.CompileWhy.TheVariants.{TooMany, TooDeep, Duplicate, AddressPastEnd}
use Rattle.node_tree.specs.Maps.{Name, TableMap, nodes_of}
use Rattle.node_tree.specs.Names.{children_of, last_index, name_at, address_at}
use Rattle.node_tree.specs.Walk.{Visit, Below, visit_of, has_id, indexes, siblings, walk, root_walk, visit_rules}
use Rattle.node_tree.specs.Walk.{first_fault, fault_or, last_address}
use Rattle.node_tree.specs.Refusals.{KeepsRules}
use Rattle.node_tree.specs.Repeats.{AreSiblings, top, below, HasId}
use Rattle.node_tree.proofs.RepeatLemmas.{first_fault-append, id-true}
use Rattle.node_tree.proofs.Runs.{walk-level}

none_of : (a b : Option (Name × CompileWhy)) → option_or a b ≡ None → (a ≡ None) × (b ≡ None)
none_of None b h = (refl, h)
none_of (Some x) b h = let bad : ⊥ = cc in absurd bad

kept_of : (v : Visit) (o : Option CompileWhy) (rest : Option (Name × CompileWhy)) → fault_or v o rest ≡ None
    → (o ≡ None) × (rest ≡ None)
kept_of v None rest h = (refl, h)
kept_of v (Some why) rest h = let bad : ⊥ = cc in absurd bad

kept_rules : (a b c d : Bool)
    → first_broken ((TooMany, a) ∷ (TooDeep, b) ∷ (Duplicate, c) ∷ (AddressPastEnd, d) ∷ []) ≡ None
    → (b ≡ true) × (c ≡ true)
kept_rules true true true d h = (refl, refl)
kept_rules true true false d h = let bad : ⊥ = cc in absurd bad
kept_rules true false c d h = let bad : ⊥ = cc in absurd bad
kept_rules false b c d h = let bad : ⊥ = cc in absurd bad

not_both : (b : Bool) → b ≡ true → not b ≡ true → ⊥
not_both true h k = false≢true k
not_both false h k = false≢true h

module _ (deeper : Below) (tables : TableMap) (level : ℕ) (above : Name) (base : ℕ) where
  abbrev after_some : List Node → List Node → List Visit
  after_some earlier ns = siblings deeper tables level above base earlier ns

  abbrev each_index : List Node → Node → List Visit
  each_index earlier n = indexes deeper tables level above base earlier n 0 (last_index n + 1)

  siblings-append : (earlier xs ys : List Node)
      → after_some earlier (xs ++ ys) ≡ after_some earlier xs ++ after_some (earlier ++ xs) ys
  unfolding siblings
  siblings-append earlier [] ys = ap (λ e. after_some e ys) (sym (append-nil earlier))
  siblings-append earlier (x ∷ xs) ys =
      ap (λ vs. each_index earlier x ++ vs)
      (siblings-append (earlier ++ x ∷ []) xs ys
      ∙ ap (λ e. after_some (earlier ++ x ∷ []) xs ++ after_some e ys) (append_assoc earlier (x ∷ []) xs))
      ∙ sym (append_assoc (each_index earlier x) (after_some (earlier ++ x ∷ []) xs) (after_some (earlier ++ x ∷ xs) ys))

  -- an index of a node among siblings without a fault: its level, the node's id, and what is below it
  record IsKept (earlier : List Node) (n : Node) (i : ℕ) : Type 0 where
    pub shallow : level ≤ most_ids
    pub new : not ((i == 0) && has_id (out-Node n).id earlier) ≡ true
    pub count : ℕ
    pub inner : first_fault count (deeper (name_at above n i) (address_at base n i) (children_of tables n)) ≡ None

  kept_head : (earlier : List Node) (n : Node) (i left count : ℕ)
      → first_fault count (indexes deeper tables level above base earlier n i (suc left)) ≡ None
      → IsKept earlier n i
      × ((next : ℕ) × (first_fault next (indexes deeper tables level above base earlier n (i + 1) left) ≡ None))
  unfolding indexes
  kept_head earlier n i left count h =
      let v = visit_of level above base earlier n i in
      let inner = deeper (name_at above n i) (address_at base n i) (children_of tables n) in
      let rest = indexes deeper tables level above base earlier n (i + 1) left in
      let (kept, later) = kept_of v (first_broken (visit_rules count v)) (first_fault (count + 1) (inner ++ rest)) h in
      let (shallow, new) =
      kept_rules (nat_lt count most_nodes) (nat_le level most_ids) (not v.repeated)
      (nat_lt (last_address v.register) (2 ^ 32)) kept in
      let (none_in, none_after) =
      none_of (first_fault (count + 1) inner) (first_fault (count + 1 + length inner) rest)
      (sym (first_fault-append inner rest (count + 1)) ∙ later) in (
        record { shallow = leb-true level most_ids shallow; new = new; count = count + 1; inner = none_in },
        (count + 1 + length inner, none_after),
      )

  kept_index : (earlier : List Node) (n : Node) (i left j k count : ℕ) → i + j ≡ k → j < left
      → first_fault count (indexes deeper tables level above base earlier n i left) ≡ None → IsKept earlier n k
  kept_index earlier n i zero j k count sum within h = absurd (omega arith)
  kept_index earlier n i (suc left) zero k count sum within h =
      let same : i ≡ k = omega arith in subst (IsKept earlier n) same (kept_head earlier n i left count h).0
  kept_index earlier n i (suc left) (suc j) k count sum within h =
      let rest = (kept_head earlier n i left count h).1 in
      kept_index earlier n (i + 1) left j k rest.0 (omega arith) (omega arith) rest.1

  kept_at : (count : ℕ) (before : List Node) (n : Node) (after : List Node) (i : ℕ) → i ≤ last_index n
      → first_fault count (after_some [] (before ++ n ∷ after)) ≡ None → IsKept before n i
  unfolding siblings
  kept_at count before n after i within h =
      let parts =
      sym (first_fault-append (after_some [] before) (after_some before (n ∷ after)) count)
      ∙ ap (first_fault count) (sym (siblings-append [] before (n ∷ after))) ∙ h in
      let start = count + length (after_some [] before) in
      let here =
      (none_of (first_fault count (after_some [] before)) (first_fault start (after_some before (n ∷ after))) parts).1 in
      let first =
      (none_of (first_fault start (each_index before n))
      (first_fault (start + length (each_index before n)) (after_some (before ++ n ∷ []) after))
      (sym (first_fault-append (each_index before n) (after_some (before ++ n ∷ []) after) start) ∙ here)).0 in
      kept_index before n 0 (last_index n + 1) i i start (omega arith) (omega arith) first

-- siblings without a fault, at some level, address and place of the walk
record AreFaultless (tables : TableMap) (above : Name) (ns : List Node) : Type 0 where
  pub level : ℕ
  pub base : ℕ
  pub count : ℕ
  pub none : first_fault count (siblings (walk tables (most_ids + 1 - level) (level + 1)) tables level above base [] ns)
      ≡ None

first_level : (tables : TableMap) (root : Name)
    → root_walk tables root ≡ siblings (walk tables (most_ids + 1 - 1) (1 + 1)) tables 1 [] 0 [] (nodes_of tables root)
unfolding walk
first_level tables root = refl

faultless : (tables : TableMap) (root above : Name) (ns : List Node) → first_fault 0 (root_walk tables root) ≡ None
    → AreSiblings tables root above ns → AreFaultless tables above ns
faultless tables root above ns none top =
    record { level = 1; base = 0; count = 0; none = ap (first_fault 0) (sym (first_level tables root)) ∙ none }
faultless tables root above ns none (below over before n after i within sibs) =
    let around = faultless tables root over (before ++ n ∷ after) none sibs in
    let kept =
    kept_at (walk tables (most_ids + 1 - around.level) (around.level + 1)) tables around.level over around.base
    around.count before n after i within around.none in
    record {
      level = around.level + 1;
      base = address_at around.base n i;
      count = kept.count;
      none =
          ap (first_fault kept.count)
          (sym (walk-level tables around.level (name_at over n i) (address_at around.base n i)
          (children_of tables n) kept.shallow)) ∙ kept.inner;
    }

pub siblings_differ : (tables : TableMap) (root above : Name) (before : List Node) (n : Node) (after : List Node)
    → KeepsRules tables root → AreSiblings tables root above (before ++ n ∷ after) → HasId (out-Node n).id before → ⊥
siblings_differ tables root above before n after rules sibs earlier =
    let around = faultless tables root above (before ++ n ∷ after) rules.nodes sibs in
    let kept =
    kept_at (walk tables (most_ids + 1 - around.level) (around.level + 1)) tables around.level above around.base
    around.count before n after 0 (omega arith) around.none in
    not_both (has_id (out-Node n).id before) (id-true (out-Node n).id before earlier) kept.new
