-- When tables are compiled, and which refusal comes where they are not. Profile.
use Rattle.std.specs.Prelude.{◌≡◌, ◌⊎◌, [], Some, None, IsSome}
use Rattle.std.specs.FinMap.{get}
use Rattle.node_tree.specs.declared.refusal.CompileWhy.{CompileWhy}
use Rattle.node_tree.specs.declared.refusal.CompileWhy.TheVariants.{UnknownModule, ModuleCycle}
use Rattle.node_tree.specs.declared.refusal.CompileRefusal.{CompileRefusal}
use Rattle.node_tree.specs.declared.refusal.CompileRefusal.TheVariants.{At, NoMemory}
use Rattle.node_tree.specs.Maps.{Name, TableMap}
use Rattle.node_tree.specs.Modules.{HasUnknown, ReachesItself, NoTable, IsFirstTable}
use Rattle.node_tree.specs.Walk.{root_walk, first_fault}

-- every module is a table, and so is the root
pub record AreKnown (tables : TableMap) (root : Name) : Type 0 where
  pub modules : NoTable tables (HasUnknown tables)
  pub root_table : IsSome (get tables root)

-- no rule is broken
pub record KeepsRules (tables : TableMap) (root : Name) : Type 0 where
  pub known : AreKnown tables root
  pub acyclic : NoTable tables (ReachesItself tables)
  pub nodes : first_fault 0 (root_walk tables root) ≡ None

-- the first table in byte order with an unknown module, or the root where all modules are known and it is no table
abbrev pub TellsUnknown : TableMap → Name → Name → Type 0
TellsUnknown tables root name =
    IsFirstTable tables (HasUnknown tables) name
    ⊎ (NoTable tables (HasUnknown tables) × (name ≡ root) × (get tables root ≡ None))

-- all modules are known, and this is the first table in byte order that leads to itself
abbrev pub TellsCycle : TableMap → Name → Name → Type 0
TellsCycle tables root name = AreKnown tables root × IsFirstTable tables (ReachesItself tables) name

-- the modules are in order, and this is the first faulty node of the walk from the root
abbrev pub TellsNode : TableMap → Name → Name → Name → CompileWhy → Type 0
TellsNode tables root name path why =
    AreKnown tables root
    × NoTable tables (ReachesItself tables)
    × (name ≡ root)
    × (first_fault 0 (root_walk tables root) ≡ Some (path, why))

-- A refusal tells the first rule that is broken, want of memory aside: an unknown module, then a cycle of modules, both
-- with an empty path, and then a rule that the first faulty node breaks.
abbrev pub IsRefusal : TableMap → Name → CompileRefusal → Type 0
IsRefusal tables root (At name path UnknownModule) = (path ≡ []) × TellsUnknown tables root name
IsRefusal tables root (At name path ModuleCycle) = (path ≡ []) × TellsCycle tables root name
IsRefusal tables root (At name path why) = TellsNode tables root name path why
IsRefusal tables root NoMemory = Unit {0}

-- a refusal tells this table, path and rule, want of memory aside
abbrev pub Refuses : Name → Name → CompileWhy → CompileRefusal → Type 0
Refuses name path why (At n p w) = (n ≡ name) × (p ≡ path) × (w ≡ why)
Refuses name path why NoMemory = Unit {0}
