-- A node that is told as a duplicate has an earlier sibling with its id.
use Rattle.std.proofs.Common.{◌≡◌, ◌⊎◌, ◌≤◌, ◌==◌, inl, inr, ℕ, zero, suc, ◌+◌, List, [], ◌∷◌, ◌++◌, length, Bool, true}
use Rattle.std.proofs.Common.{false, not, Option, Some, None, refl, ap, sym, ◌∙◌, subst, append_assoc, arith}
use Rattle.std.proofs.lemmas.Bool.{false≢true, and_parts}
use Rattle.std.proofs.lemmas.Bool.Decides.{nat_tests}
use Rattle.std.specs.Option.{option_or}
use Rattle.address_table.specs.Rules.{first_broken}
use Rattle.address_table.specs.declared.nodes.Node.{Node, out-Node}
use Rattle.node_tree.specs.Limits.{most_ids}
use Rattle.node_tree.specs.declared.refusal.CompileWhy.{CompileWhy}
use Rattle.node_tree.specs.declared.refusal.CompileWhy.TheVariants.{UnknownModule, ModuleCycle, TooMany, TooDeep}
use Rattle.node_tree.specs.declared.refusal.CompileWhy.TheVariants.{Duplicate, AddressPastEnd}
use Rattle.node_tree.specs.declared.refusal.CompileRefusal.{CompileRefusal}
use Rattle.node_tree.specs.declared.refusal.CompileRefusal.TheVariants.{At, NoMemory}
use Rattle.node_tree.specs.Maps.{Name, TableMap, nodes_of}
use Rattle.node_tree.specs.Names.{children_of, last_index, name_at, address_at}
use Rattle.node_tree.specs.Walk.{Visit, Below, visit_of, has_id, indexes, siblings, walk, root_walk, visit_rules}
use Rattle.node_tree.specs.Walk.{first_fault, fault_or}
use Rattle.node_tree.specs.Repeats.{AreSiblings, top, below, IsRepeated, TellsRepeated}
use Rattle.node_tree.specs.Refusals.{IsRefusal}
use Rattle.node_tree.proofs.RepeatLemmas.{first_fault-append, true-id}

abbrev Duplicates : Name → Option (Name × CompileWhy) → Type 0
Duplicates path fault = fault ≡ Some (path, Duplicate)

first_case : (v : Visit) (o : Option CompileWhy) (rest : Option (Name × CompileWhy)) (path : Name)
    → Duplicates path (fault_or v o rest) → ((o ≡ Some Duplicate) × (v.name ≡ path)) ⊎ Duplicates path rest
first_case v None rest path h = inr h
first_case v (Some why) rest path h =
    let same : ◌≡◌ {A = Name × CompileWhy} (v.name, why) (path, Duplicate) = cc in
    inl (ap (λ f. Some f.1) same, ap (λ f. f.0) same)

either_fault : (a b : Option (Name × CompileWhy)) (path : Name) → Duplicates path (option_or a b)
    → Duplicates path a ⊎ Duplicates path b
either_fault None b path h = inr h
either_fault (Some fault) b path h = inl h

repeated_rule : (a b c d : Bool)
    → first_broken ((TooMany, a) ∷ (TooDeep, b) ∷ (Duplicate, c) ∷ (AddressPastEnd, d) ∷ []) ≡ Some Duplicate
    → c ≡ false
repeated_rule true true true true h = let bad : ⊥ = cc in absurd bad
repeated_rule true true true false h = let bad : ⊥ = cc in absurd bad
repeated_rule true true false d h = refl
repeated_rule true false c d h = let bad : ⊥ = cc in absurd bad
repeated_rule false b c d h = let bad : ⊥ = cc in absurd bad

not_false : (b : Bool) → not b ≡ false → b ≡ true
not_false true h = refl
not_false false h = absurd (false≢true (sym h))

is_zero : (i : ℕ) → (i == 0) ≡ true → i ≡ 0
is_zero i h = grind (arith, nat_tests)

module _ (tables : TableMap) (root : Name) where
  module _ (deeper : Below) (path : Name)
      (inner_case : (called : Name) (address : ℕ) (ms : List Node) (count : ℕ) → AreSiblings tables root called ms
      → Duplicates path (first_fault count (deeper called address ms)) → IsRepeated tables root path)
      (level : ℕ) (above : Name) (base : ℕ) where
    repeated-indexes : (n : Node) (ns done : List Node) (i left count : ℕ) → i + left ≤ last_index n + 1
        → AreSiblings tables root above (done ++ n ∷ ns)
        → Duplicates path (first_fault count (indexes deeper tables level above base done n i left))
        → IsRepeated tables root path
    unfolding indexes
    repeated-indexes n ns done i zero count within sibs fault = let bad : ⊥ = cc in absurd bad
    repeated-indexes n ns done i (suc left) count within sibs fault =
        let v = visit_of level above base done n i in
        let inner = deeper (name_at above n i) (address_at base n i) (children_of tables n) in
        let rest = indexes deeper tables level above base done n (i + 1) left in
        elim (first_case v (first_broken (visit_rules count v)) (first_fault (count + 1) (inner ++ rest)) path fault) [
          | inl here ↦ (
              let (first, earlier) =
              and_parts (i == 0) (has_id (out-Node n).id done) (not_false _ (repeated_rule _ _ _ _ here.0)) in
              record {
                above = above;
                before = done;
                repeated = n;
                after = ns;
                siblings = sibs;
                called = sym here.1 ∙ ap (name_at above n) (is_zero i first);
                earlier = true-id (out-Node n).id done earlier;
              })
          | inr later ↦ elim (either_fault (first_fault (count + 1) inner)
              (first_fault (count + 1 + length inner) rest) path
              (sym (first_fault-append inner rest (count + 1)) ∙ later)) [
                | inl fault_in ↦ inner_case (name_at above n i) (address_at base n i) (children_of tables n) (count + 1)
                    (below above done n ns i (omega arith) sibs) fault_in
                | inr fault_after ↦ repeated-indexes n ns done (i + 1) left (count + 1 + length inner) (omega arith)
                    sibs fault_after
              ]
        ]

    repeated-in : (ns done : List Node) (count : ℕ)
        → AreSiblings tables root above (done ++ ns)
        → Duplicates path (first_fault count (siblings deeper tables level above base done ns))
        → IsRepeated tables root path
    unfolding siblings
    repeated-in [] done count sibs fault = let bad : ⊥ = cc in absurd bad
    repeated-in (n ∷ ns) done count sibs fault =
        let each = indexes deeper tables level above base done n 0 (last_index n + 1) in
        let rest = siblings deeper tables level above base (done ++ n ∷ []) ns in
        elim (either_fault (first_fault count each) (first_fault (count + length each) rest) path
        (sym (first_fault-append each rest count) ∙ fault)) [
          | inl here ↦ repeated-indexes n ns done 0 (last_index n + 1) count (omega arith) sibs here
          | inr later ↦ repeated-in ns (done ++ n ∷ []) (count + length each)
              (subst (AreSiblings tables root above) (sym (append_assoc done (n ∷ []) ns)) sibs) later
        ]

  repeated-walk : (path : Name) (levels level : ℕ) (above : Name) (base : ℕ) (ns : List Node) (count : ℕ)
      → AreSiblings tables root above ns
      → Duplicates path (first_fault count (walk tables levels level above base ns)) → IsRepeated tables root path
  unfolding walk
  repeated-walk path zero level above base ns count sibs fault = let bad : ⊥ = cc in absurd bad
  repeated-walk path (suc levels) level above base ns count sibs fault =
      repeated-in (walk tables levels (level + 1)) path
      (λ called address ms inner_count sibs_ms inner. repeated-walk path levels
      (level + 1) called address ms inner_count sibs_ms inner)
      level above base ns [] count sibs fault

-- the first fault is a duplicate only where an earlier sibling has the id
pub repeated-root : (tables : TableMap) (root path : Name)
    → first_fault 0 (root_walk tables root) ≡ Some (path, Duplicate) → IsRepeated tables root path
repeated-root tables root path fault =
    repeated-walk tables root path (most_ids + 1) 1 [] 0 (nodes_of tables root) 0 top fault

pub tells-repeated : (tables : TableMap) (root : Name) (refusal : CompileRefusal) → IsRefusal tables root refusal
    → TellsRepeated tables root refusal
tells-repeated tables root NoMemory told = tt
tells-repeated tables root (At name path UnknownModule) told = λ same. let bad : ⊥ = cc in absurd bad
tells-repeated tables root (At name path ModuleCycle) told = λ same. let bad : ⊥ = cc in absurd bad
tells-repeated tables root (At name path TooMany) told = λ same. let bad : ⊥ = cc in absurd bad
tells-repeated tables root (At name path TooDeep) told = λ same. let bad : ⊥ = cc in absurd bad
tells-repeated tables root (At name path Duplicate) told = λ same. repeated-root tables root path told.3
tells-repeated tables root (At name path AddressPastEnd) told = λ same. let bad : ⊥ = cc in absurd bad
