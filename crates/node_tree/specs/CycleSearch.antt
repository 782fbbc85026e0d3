-- What the search for tables that lead to themselves keeps. No public clause speaks of it. Profile.
use Rattle.std.specs.Prelude.{◌≡◌, ◌⊎◌, ℕ, ◌+◌, ◌≤◌, false, List, [], ◌∷◌, length, map, Some, if◌then◌else◌}
use Rattle.std.specs.Borrow.{Bor}
use Rattle.std.specs.List.{Contains}
use Rattle.std.specs.Ordering.{nat_cmp}
use Rattle.std.specs.Cmp.Lexicographic.{slice_cmp}
use Rattle.std.specs.FinMap.{FinMap, get, contains_key, entries}
use Rattle.address_table.specs.declared.nodes.Node.{Node}
use Rattle.address_table.specs.declared.nodes.Table.{Table}
use Rattle.node_tree.specs.Maps.{Name, TableMap, nodes_of}
use Rattle.node_tree.specs.Modules.{Mentions, IsIn}

-- a set of names
abbrev pub NameSet : Type 0
NameSet = FinMap (slice_cmp nat_cmp) (Unit {0})

-- the names of a list of texts
abbrev pub names_of : List (Bor (List ℕ)) → List Name
names_of texts = map (λ text. text.now) texts

-- how many tables of a list have no entry of their name in a map
abbrev pub missing : {V : Type 0} → FinMap (slice_cmp nat_cmp) V → List (Name × Table) → ℕ
missing found [] = 0
missing found (e ∷ es) = (if contains_key found e.0 then 0 else 1) + missing found es

-- each name of a fact is that of a table
abbrev pub AreTables : TableMap → (Name → Type 0) → Type 0
AreTables tables P = (m : Name) → P m → (t : Table) × (get tables m ≡ Some t)

-- A set after some names of a fact were put into it. A list has those that were not in it, and there are as many fewer
-- tables that are not in the set.
pub record Opens (old new : NameSet) (before after : List Name) (P : Name → Type 0) : Type 0 where
  pub kept : (m : Name) → IsIn old m → IsIn new m
  pub only : (m : Name) → IsIn new m → IsIn old m ⊎ P m
  pub opened : (m : Name) → IsIn new m → IsIn old m ⊎ Contains after m
  pub open_kept : (m : Name) → Contains before m → Contains after m
  pub open_only : (m : Name) → Contains after m → Contains before m ⊎ IsIn new m
  pub fewer : (tables : TableMap) → AreTables tables P
      → missing new (entries tables) + length after ≤ missing old (entries tables) + length before

-- all names of a fact were put into the set
pub record OpensAll (old new : NameSet) (before after : List Name) (P : Name → Type 0) : Type 0 where
  pub opens : Opens old new before after P
  pub added : (m : Name) → P m → IsIn new m

-- numbers of tables
abbrev pub Ranks : Type 0
Ranks = FinMap (slice_cmp nat_cmp) ℕ

-- a name with a rank of at least a number
abbrev pub IsRanked : Ranks → ℕ → Name → Type 0
IsRanked ranks least name = (rank : ℕ) × (get ranks name ≡ Some rank) × (least ≤ rank)

-- each module of the nodes has a rank of at least a number
abbrev pub AllRanked : Ranks → ℕ → List Node → Type 0
AllRanked ranks least ns = (m : Name) → Mentions ns m → IsRanked ranks least m

-- no table has a rank above that of a module of its nodes
abbrev pub AreRising : TableMap → Ranks → Type 0
AreRising tables ranks = (a : Name) (rank : ℕ) → get ranks a ≡ Some rank → AllRanked ranks rank (nodes_of tables a)

-- a table has a rank below those of all its modules
abbrev pub IsBelowModules : TableMap → Ranks → Name → Type 0
IsBelowModules tables ranks name =
    (rank : ℕ) × (get ranks name ≡ Some rank) × AllRanked ranks (rank + 1) (nodes_of tables name)

-- names that have a rank keep one
abbrev pub KeepsNames : Ranks → Ranks → Type 0
KeepsNames old new = (m : Name) → IsIn old m → IsIn new m

-- and a further name has one
abbrev pub RanksMore : Ranks → Ranks → Name → Type 0
RanksMore old new name = KeepsNames old new × IsIn new name

-- a table without a rank
abbrev pub IsNewTable : TableMap → Ranks → Name → Type 0
IsNewTable tables ranks name = (contains_key ranks name ≡ false) × ((t : Table) × (get tables name ≡ Some t))
