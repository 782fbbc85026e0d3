-- The walk as the code goes along it, with the registers and the number of nodes so far. No public clause speaks of it.
use Rattle.std.specs.Prelude.{◌≡◌, ℕ, ◌+◌, ◌-◌, ◌^◌, Bool, not, ◌||◌, nat_lt, nat_le, List, [], ◌∷◌, Option, Some, None}
use Rattle.std.specs.Prelude.{Result, Ok, Err}
use Rattle.std.specs.FinMap.{contains_key, insert}
use Rattle.address_table.specs.Rules.{first_broken}
use Rattle.address_table.specs.declared.nodes.Node.{Node}
use Rattle.node_tree.specs.Limits.{most_nodes, most_ids}
use Rattle.node_tree.specs.declared.register.Register.{Register}
use Rattle.node_tree.specs.declared.refusal.CompileWhy.{CompileWhy}
use Rattle.node_tree.specs.declared.refusal.CompileWhy.TheVariants.{TooMany, TooDeep, Duplicate, AddressPastEnd}
use Rattle.node_tree.specs.declared.walking.Found.{Found}
use Rattle.node_tree.specs.declared.walking.Fault.{Fault}
use Rattle.node_tree.specs.declared.walking.Fault.TheVariants.{At, NoMemory}
use Rattle.node_tree.specs.Maps.{Name, TableMap}
use Rattle.node_tree.specs.Names.{last_index}
use Rattle.node_tree.specs.Walk.{Visit, indexes, walk, last_address}

-- what was found, or the name of a faulty node and the rule that it breaks
abbrev pub Outcome : Type 0
Outcome = Result Found (Name × CompileWhy)

-- the rules for the next index of a node: its name or its twin's is there already where an earlier sibling has the id
abbrev pub next_rules : Found → Name → Name → ℕ → Register → List (CompileWhy × Bool)
next_rules found name twin level r =
    (TooMany, nat_lt found.count most_nodes)
    ∷ (TooDeep, nat_le level most_ids)
    ∷ (Duplicate, not (contains_key found.names name || contains_key found.names twin))
    ∷ (AddressPastEnd, nat_lt (last_address r) (2 ^ 32))
    ∷ []

abbrev pub found_more : Found → Name → Register → Found
found_more found name r = record { names = insert found.names name r; count = found.count + 1 }

-- one more node, or the rule that it breaks
abbrev pub step : Found → Name → Register → Option CompileWhy → Outcome
step found name r None = Ok (found_more found name r)
step found name r (Some why) = Err (name, why)

unfoldable pub visit_next : Found → Name → Name → ℕ → Register → Outcome
visit_next found name twin level r = step found name r (first_broken (next_rules found name twin level r))

abbrev pub run_on : (Found → Outcome) → Outcome → Outcome
run_on rest (Ok found) = rest found
run_on rest (Err fault) = Err fault

unfoldable pub run : List Visit → Found → Outcome
run [] found = Ok found
run (v ∷ vs) found = run_on (run vs) (visit_next found v.name v.twin v.level v.register)

-- all indexes of a node of a level, below a name and an address, after its earlier siblings
abbrev pub each_index : TableMap → ℕ → Name → ℕ → Node → List Node → List Visit
each_index tables ids above base n earlier =
    indexes (walk tables (most_ids + 1 - ids) (ids + 1)) tables ids above base earlier n 0 (last_index n + 1)

-- a fault of the code tells this one, want of memory aside
abbrev pub IsStop : Outcome → Fault → Type 0
IsStop r (At name why) = r ≡ Err (name, why)
IsStop r NoMemory = Unit {0}
