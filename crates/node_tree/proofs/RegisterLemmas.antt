-- Every register that valid tables name fits its mode, and ends at an address of 32 bits.
use Rattle.std.proofs.Common.{◌≡◌, ℕ, ◌<◌, ◌≤◌, ◌^◌, List, [], ◌∷◌, Option, Some, None, Result, Ok, Err, OnOk, OnErr}
use Rattle.std.proofs.Common.{IfSome, inl, inr, sym, subst, arith}
use Rattle.std.specs.FinMap.{get, insert, empty, get-empty}
use Rattle.address_table.specs.Valid.{FitsMode, AreValid, IsValid}
use Rattle.address_table.specs.declared.kinds.Mode.{Mode}
use Rattle.address_table.specs.declared.kinds.Mode.TheVariants.{Single, Block, Port, Hierarchical}
use Rattle.address_table.specs.declared.nodes.Node.{Node, out-Node}
use Rattle.address_table.specs.declared.nodes.Table.{Table}
use Rattle.node_tree.specs.declared.register.Register.{Register}
use Rattle.node_tree.specs.Maps.{Name, TableMap, RegisterMap, nodes_of, AreValidTables, IsRegister, AreRegisters}
use Rattle.node_tree.specs.Addresses.{words_of, last_address}
use Rattle.node_tree.specs.Names.{Names, itself, child, later, children_of, name_at, address_at}
use Rattle.node_tree.proofs.NodeLemmas.{parts, named_nodes, children_if}
use Rattle.node_tree.proofs.NamedLemmas.{by_bytes}
use Rattle.node_tree.proofs.EntryLemmas.{get-cases}

abbrev Fits : Register → Type 0
Fits r = FitsMode r.mode r.mask r.size

names-fit : (tables : TableMap) → AreValidTables tables
    → (ns : List Node) (above : Name) (base : ℕ) (name : Name) (r : Register)
    → AreValid ns → Names tables ns above base name r → Fits r
names-fit tables valid ms above base name r are (itself n ns above' base' i within) = (parts (n ∷ ns) are).0.register
names-fit tables valid ms above base name r are (child n ns above' base' i name' r' within named) =
    let (here, below, others) = parts (n ∷ ns) are in
    names-fit tables valid (children_of tables n) (name_at above' n i) (address_at base' n i) name' r'
    (children_if tables valid (out-Node n).«module» (out-Node n).nodes.items below) named
names-fit tables valid ms above base name r are (later n ns above' base' name' r' named) =
    let (here, below, others) = parts (n ∷ ns) are in
    names-fit tables valid ns above' base' name' r' others named

pub some_words : (mode : Mode) (size : ℕ) → 1 ≤ size → 1 ≤ words_of mode size
some_words Single size h = omega arith
some_words Block size h = h
some_words Port size h = omega arith
some_words Hierarchical size h = omega arith

-- a register that fits its mode and whose last address has 32 bits
pub fitting : (r : Register) → Fits r → last_address r < 2 ^ 32 → IsRegister r
fitting r fits last =
    let some : 1 ≤ words_of r.mode r.size = some_words r.mode r.size fits.some_words in
    record { fits = fits; last = last; within = omega arith }

pub root-register : (tables : TableMap) (root name : Name) (r : Register) → AreValidTables tables
    → Names tables (nodes_of tables root) [] 0 name r
    → last_address r < 2 ^ 32 → IsRegister r
root-register tables root name r valid named last =
    fitting r (names-fit tables valid (nodes_of tables root) [] 0 name r (named_nodes tables valid root) named) last

-- no table, and one more
pub empty-valid : AreValidTables empty
empty-valid name t h = let bad : ⊥ = cc (get-empty {X = Table} by_bytes name) in absurd bad

inserted-valid : (tables : TableMap) (k : Name) (t : Table) → AreValidTables tables → IsValid t
    → AreValidTables (insert tables k t)
inserted-valid tables k t valid here name u h =
    elim (get-cases tables k name t u h) [ inl same ↦ subst IsValid same.1 here | inr old ↦ valid name u old ]

pub put-valid : {X E : Type 0} (r : Result X E) (old new : TableMap) (k : Name) (t : Table)
    → OnOk r (new ≡ insert old k t) → OnErr r (new ≡ old)
    → AreValidTables old → IsValid t → AreValidTables new
put-valid (Ok x) old new k t ok err valid here = subst AreValidTables (sym ok) (inserted-valid old k t valid here)
put-valid (Err e) old new k t ok err valid here = subst AreValidTables (sym err) valid

-- what is found among registers
pub found-register : (m : RegisterMap) (name : Name) (o : Option Register) → AreRegisters m → o ≡ get m name
    → IfSome o IsRegister
found-register m name None are is = tt
found-register m name (Some r) are is = are name r (sym is)
