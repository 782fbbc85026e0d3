-- The walk of the code, node by node.
use Rattle.std.proofs.Common.{◌≡◌, ℕ, suc, ◌+◌, ◌-◌, ◌<◌, ◌≤◌, List, [], ◌∷◌, ◌++◌, length, take, drop, get_or, Ok, Err}
use Rattle.std.proofs.Common.{refl, ap, sym, ◌∙◌, arith}
use Rattle.std.proofs.lemmas.List.{at_drop_more, at_drop_all, take_more}
use Rattle.address_table.specs.declared.nodes.Node.{Node, out-Node}
use Rattle.node_tree.specs.declared.walking.Found.{Found}
use Rattle.node_tree.specs.declared.walking.Fault.{Fault}
use Rattle.node_tree.specs.declared.walking.Fault.TheVariants.{At, NoMemory}
use Rattle.node_tree.specs.Maps.{Name, TableMap}
use Rattle.node_tree.specs.Names.{children_of, last_index, plain_name, name_at, address_at, register_at}
use Rattle.node_tree.specs.Limits.{most_ids}
use Rattle.node_tree.specs.Walk.{Visit, Below, twin_text, indexes, siblings, walk}
use Rattle.node_tree.specs.Run.{Outcome, run, run_on, visit_next, IsStop}

run_each : (f g h : Found → Outcome) → ((found : Found) → h found ≡ run_on g (f found)) → (r : Outcome)
    → run_on h r ≡ run_on g (run_on f r)
run_each f g h each (Ok found) = each found
run_each f g h each (Err fault) = refl

pub run-append : (xs ys : List Visit) (found : Found) → run (xs ++ ys) found ≡ run_on (run ys) (run xs found)
unfolding run
run-append [] ys found = refl
run-append (v ∷ xs) ys found =
    run_each (run xs) (run ys) (run (xs ++ ys)) (run-append xs ys) (visit_next found v.name v.twin v.level v.register)

-- ---- the indexes of a node

module _ (below : Below) (tables : TableMap) (level : ℕ) (above : Name) (base : ℕ) (earlier : List Node) (n : Node) where
  -- from an index on
  abbrev from_index : ℕ → ℕ → List Visit
  from_index i left = indexes below tables level above base earlier n i left

  abbrev under_index : ℕ → List Visit
  under_index i = below (name_at above n i) (address_at base n i) (children_of tables n)

  -- what comes of an index
  abbrev next_index : ℕ → Found → Outcome
  next_index i found =
      visit_next found (name_at above n i) (plain_name above n ++ twin_text (out-Node n).count) level
      (register_at base n i)

  -- the indexes from one on: the index there, what is below it, and the later ones
  run-index : (i count : ℕ) (found : Found) → i < count
      → run (from_index i (count - i)) found
      ≡ run_on (run (under_index i ++ from_index (i + 1) (count - (i + 1)))) (next_index i found)
  unfolding run indexes
  run-index i count found h = let more : count - i ≡ suc (count - (i + 1)) = omega arith in rw more refl

  -- an index that stops the walk
  pub stopped_at : (i count : ℕ) (found : Found) (fault : Fault) → i < count → IsStop (next_index i found) fault
      → IsStop (run (from_index i (count - i)) found) fault
  stopped_at i count found NoMemory h stop = tt
  stopped_at i count found (At name why) h stop = run-index i count found h ∙ ap (run_on _) stop

  -- past an index the walk goes on with what is below it
  past_index : (i count : ℕ) (found next : Found) → i < count → next_index i found ≡ Ok next
      → run (from_index i (count - i)) found
      ≡ run_on (run (from_index (i + 1) (count - (i + 1)))) (run (under_index i) next)
  past_index i count found next h ok =
      run-index i count found h
      ∙ ap (run_on (run (under_index i ++ from_index (i + 1) (count - (i + 1))))) ok
      ∙ run-append (under_index i) (from_index (i + 1) (count - (i + 1))) next

  -- a stop below an index
  pub stopped_below : (i count : ℕ) (found next : Found) (fault : Fault) → i < count → next_index i found ≡ Ok next
      → IsStop (run (under_index i) next) fault
      → IsStop (run (from_index i (count - i)) found) fault
  stopped_below i count found next NoMemory h ok stop = tt
  stopped_below i count found next (At name why) h ok stop = past_index i count found next h ok ∙ ap (run_on _) stop

  -- past an index and what is below it the walk goes on with the later ones
  pub past_both : (i count : ℕ) (found next last : Found) → i < count → next_index i found ≡ Ok next
      → run (under_index i) next ≡ Ok last
      → run (from_index i (count - i)) found ≡ run (from_index (i + 1) (count - (i + 1))) last
  past_both i count found next last h ok more = past_index i count found next h ok ∙ ap (run_on _) more

  pub no_index_left : (i count : ℕ) (found : Found) → count ≤ i → run (from_index i (count - i)) found ≡ Ok found
  unfolding run indexes
  no_index_left i count found h = let none : count - i ≡ 0 = omega arith in rw none refl

-- ---- siblings

module _ (below : Below) (tables : TableMap) (level : ℕ) (above : Name) (base : ℕ) where
  -- all indexes of a node, after its earlier siblings
  abbrev each_index : List Node → Node → List Visit
  each_index earlier n = indexes below tables level above base earlier n 0 (last_index n + 1)

  -- the nodes from a place on: the node there and the later nodes
  siblings-drop : (ns : List Node) (i : ℕ) (n : Node) → i < length ns → n ≡ get_or ns i n
      → siblings below tables level above base (take i ns) (drop i ns)
      ≡ each_index (take i ns) n ++ siblings below tables level above base (take (i + 1) ns) (drop (i + 1) ns)
  unfolding siblings
  siblings-drop ns i n h here =
      at_drop_more (siblings below tables level above base (take i ns)) ns i n h
      ∙ ap (λ m. siblings below tables level above base (take i ns) (m ∷ drop (i + 1) ns)) (sym here)
      ∙ ap (λ earlier. each_index (take i ns) n ++ siblings below tables level above base earlier (drop (i + 1) ns))
      (ap (λ m. take i ns ++ m ∷ []) here ∙ sym (take_more ns i n h))

  run-drop : (ns : List Node) (i : ℕ) (n : Node) (found : Found) → i < length ns → n ≡ get_or ns i n
      → run (siblings below tables level above base (take i ns) (drop i ns)) found
      ≡ run_on (run (siblings below tables level above base (take (i + 1) ns) (drop (i + 1) ns)))
      (run (each_index (take i ns) n) found)
  run-drop ns i n found h here =
      ap (λ vs. run vs found) (siblings-drop ns i n h here)
      ∙ run-append (each_index (take i ns) n)
      (siblings below tables level above base (take (i + 1) ns) (drop (i + 1) ns)) found

  -- a stop within a node
  pub stopped_node : (ns : List Node) (i : ℕ) (n : Node) (found : Found) (fault : Fault) → i < length ns
      → n ≡ get_or ns i n
      → IsStop (run (each_index (take i ns) n) found) fault
      → IsStop (run (siblings below tables level above base (take i ns) (drop i ns)) found) fault
  stopped_node ns i n found NoMemory h here stop = tt
  stopped_node ns i n found (At name why) h here stop = run-drop ns i n found h here ∙ ap (run_on _) stop

  -- past a node the walk goes on with the later nodes
  pub past_node : (ns : List Node) (i : ℕ) (n : Node) (found next : Found) → i < length ns → n ≡ get_or ns i n
      → run (each_index (take i ns) n) found ≡ Ok next
      → run (siblings below tables level above base (take i ns) (drop i ns)) found
      ≡ run (siblings below tables level above base (take (i + 1) ns) (drop (i + 1) ns)) next
  past_node ns i n found next h here ok = run-drop ns i n found h here ∙ ap (run_on _) ok

  pub none_left : (ns : List Node) (i : ℕ) (found : Found) → length ns ≤ i
      → run (siblings below tables level above base (take i ns) (drop i ns)) found ≡ Ok found
  unfolding run siblings
  none_left ns i found h = at_drop_all (λ ms. run (siblings below tables level above base (take i ns) ms) found) ns i h

-- what is below a node of a level
pub walk-level : (tables : TableMap) (level : ℕ) (above : Name) (base : ℕ) (ns : List Node) → level ≤ most_ids
    → walk tables (most_ids + 1 - level) (level + 1) above base ns
    ≡ siblings (walk tables (most_ids + 1 - (level + 1)) (level + 1 + 1)) tables (level + 1) above base [] ns
unfolding walk
walk-level tables level above base ns h =
    let more : most_ids + 1 - level ≡ suc (most_ids + 1 - (level + 1)) = omega arith in rw more refl

pub below_is : (tables : TableMap) (level : ℕ) (name called : Name) (base address : ℕ) (ns children : List Node)
    → level ≤ most_ids → name ≡ called → base ≡ address → ns ≡ children
    → siblings (walk tables (most_ids + 1 - (level + 1)) (level + 1 + 1)) tables (level + 1) name base [] ns
    ≡ walk tables (most_ids + 1 - level) (level + 1) called address children
below_is tables level name called base address ns children h p q r =
    let more = walk-level tables level called address children h in
    rw (p, q, r) (sym more)
