-- The registers that the tables of a document name keep the rules of registers, and their masks have 32 bits.
use Rattle.std.proofs.Common.{◌≡◌, inl, inr, ℕ, ◌+◌, ◌^◌, ◌<◌, ◌≤◌, List, [], ◌∷◌, Bool, true, false, not, Option}
use Rattle.std.proofs.Common.{Some, None, codes, nat_lt, nat_le, refl, subst, arith}
use Rattle.std.specs.List.{AllByRecursion, AllZip}
use Rattle.std.specs.Option.{option_map_or}
use Rattle.std.specs.FinMap.{get}
use Rattle.std.proofs.lemmas.Bool.{ltb-true, leb-true}
use Rattle.ipb_base.specs.Word.{IsWord}
use Rattle.toml.specs.Data.{Data, Items, no_items, array, get_member, Members}
use Rattle.address_table.specs.Numbers.{number}
use Rattle.address_table.specs.Rules.{first_broken}
use Rattle.address_table.specs.Tables.{IsTable, IsNode, node, AreNodes, none, more, children}
use Rattle.address_table.specs.declared.nodes.Node.{Node, out-Node}
use Rattle.address_table.specs.declared.nodes.Table.{Table}
use Rattle.address_table.proofs.ValidNodes.{nodes-valid}
use Rattle.board_specs.specs.declared.spec.BoardSpec.{BoardSpec}
use Rattle.node_tree.specs.Addresses.{last_address}
use Rattle.node_tree.specs.Limits.{most_nodes, most_ids}
use Rattle.node_tree.specs.Maps.{Name, TableMap, RegisterMap, nodes_of, AreValidTables, IsRegister}
use Rattle.node_tree.specs.Names.{Names, itself, child, later, children_of, name_at, address_at}
use Rattle.node_tree.specs.Names.{IsIndexOf, RootNames}
use Rattle.node_tree.specs.Refusals.{KeepsRules}
use Rattle.node_tree.specs.Walk.{Visit, Lists, HasLevel, root_walk, visit_rules, fault_or, first_fault}
use Rattle.node_tree.specs.declared.refusal.CompileWhy.{CompileWhy}
use Rattle.node_tree.specs.declared.refusal.CompileWhy.TheVariants.{TooMany, TooDeep, Duplicate, AddressPastEnd}
use Rattle.node_tree.specs.declared.register.Register.{Register}
use Rattle.node_tree.proofs.NamesLemmas.{named-listed}
use Rattle.node_tree.proofs.RegisterLemmas.{root-register}
use Rattle.script_lang.specs.declared.session.Session.{Session}
use Rattle.script_lang.specs.Document.{IsTableAt, IsSession}
use Rattle.script_lang.specs.Sessions.{format_of, tables_of}
use Rattle.script_lang.proofs.SmallNumbers.{IsSmall, number_small}

-- ---- tables that are written in a document

-- some items are written in some format so that they are these nodes
abbrev AreWritten : List Node → Type 0
AreWritten ns = (format : ℕ) × (ds : Items) × AreNodes format ds ns

abbrev AreWrittenTables : TableMap → Type 0
AreWrittenTables tables = (name : Name) (t : Table) → get tables name ≡ Some t → AreWritten t.nodes.items

table_written : (format : ℕ) (value : Data) (t : Table) → IsTable format value t → AreWritten t.nodes.items
table_written format (array ds) t is = (format, ds, is)
table_written format value t is = absurd is

table_at : (format : ℕ) (value : Option Data) (found : Option Table) (t : Table) → IsTableAt format value found
    → found ≡ Some t → AreWritten t.nodes.items
table_at format None None t is there = absurd cc
table_at format None (Some u) t is there = absurd is
table_at format (Some value) None t is there = absurd is
table_at format (Some value) (Some u) t is there =
    let same : u ≡ t = cc in
    subst (λ (x : Table). AreWritten x.nodes.items) same (table_written format value u is)

session_tables : (document : Members) (session : Session) → IsSession document session
    → AreWrittenTables session.tables
session_tables document session is name t there =
    table_at (format_of document) (get_member name (tables_of document)) (get session.tables name) t
    (is.tables name) there

valid_tables : (tables : TableMap) → AreWrittenTables tables → AreValidTables tables
valid_tables tables written name t there =
    let is = written name t there in
    nodes-valid is.0 is.1 t.nodes.items is.2

-- ---- masks

key_small : (found : Option Data) (n : ℕ) → option_map_or number found (Some 0xffffffff) ≡ Some n → IsWord n
key_small None n is =
    let same : 0xffffffff ≡ n = cc in
    omega arith
key_small (Some value) n is = subst IsSmall is (number_small value)

node_parts : (format : ℕ) (d : Data) (n : Node) → IsNode format d n
    → IsWord (out-Node n).mask × AreWritten (out-Node n).nodes.items
node_parts format d n (node ms m kept says are) =
    (key_small (get_member (codes "mask") ms) (out-Node m).mask says.mask, (format, children ms, are))

-- the first of some nodes, those in it, and the others
abbrev Parts : List Node → Type 0
Parts [] = Unit {0}
Parts (n ∷ ns) = IsWord (out-Node n).mask × AreWritten (out-Node n).nodes.items × AreWritten ns

parts : (format : ℕ) (ds : Items) (ns : List Node) → AreNodes format ds ns → Parts ns
parts format ds ns none = tt
parts format ds ns (more d n es ms one others) =
    let here = node_parts format d n one in
    (here.0, here.1, (format, es, others))

named_written : (tables : TableMap) → AreWrittenTables tables → (found : Option Table)
    → ((t : Table) → found ≡ Some t → AreWritten t.nodes.items)
    → AreWritten (option_map_or (λ (t : Table). t.nodes.items) found [])
named_written tables written None look = (1, no_items, none)
named_written tables written (Some t) look = look t refl

children_written : (tables : TableMap) → AreWrittenTables tables → (name : Option Name) (own : List Node)
    → AreWritten own → AreWritten (option_map_or (nodes_of tables) name own)
children_written tables written None own are = are
children_written tables written (Some name) own are =
    named_written tables written (get tables name) (written name)

mask_small : (tables : TableMap) → AreWrittenTables tables → (ns : List Node) (above : Name) (base : ℕ) (name : Name)
    (r : Register)
    → AreWritten ns → Names tables ns above base name r → IsWord r.mask
mask_small tables written ms above base name r are (itself n ns above' base' i within) =
    (parts are.0 are.1 (n ∷ ns) are.2).0
mask_small tables written ms above base name r are (child n ns above' base' i name' r' within named) =
    mask_small tables written (children_of tables n) (name_at above' n i) (address_at base' n i) name' r'
    (children_written tables written (out-Node n).«module» (out-Node n).nodes.items
    (parts are.0 are.1 (n ∷ ns) are.2).1)
    named
mask_small tables written ms above base name r are (later n ns above' base' name' r' named) =
    mask_small tables written ns above' base' name' r' (parts are.0 are.1 (n ∷ ns) are.2).2 named

-- ---- last addresses

rules_kept : (a b c d : Bool)
    → first_broken ((TooMany, a) ∷ (TooDeep, b) ∷ (Duplicate, c) ∷ (AddressPastEnd, d) ∷ []) ≡ None
    → (b ≡ true) × (d ≡ true)
rules_kept true true true true h = (refl, refl)
rules_kept true true true false h = absurd cc
rules_kept true true false d h = absurd cc
rules_kept true false c d h = absurd cc
rules_kept false b c d h = absurd cc

both_none : (v : Visit) (found : Option CompileWhy) (rest : Option (Name × CompileWhy)) → fault_or v found rest ≡ None
    → (found ≡ None) × (rest ≡ None)
both_none v None rest is = (refl, is)
both_none v (Some why) rest is = absurd cc

visit_kept : (count : ℕ) (v : Visit) (vs : List Visit) → first_fault count (v ∷ vs) ≡ None
    → (v.level ≤ most_ids) × (last_address v.register < 2 ^ 32) × (first_fault (count + 1) vs ≡ None)
visit_kept count v vs is =
    let both = both_none v (first_broken (visit_rules count v)) (first_fault (count + 1) vs) is in
    let kept = rules_kept (nat_lt count most_nodes) (nat_le v.level most_ids) (not v.repeated)
    (nat_lt (last_address v.register) (2 ^ 32)) both.0 in
    (leb-true v.level most_ids kept.0, ltb-true (last_address v.register) (2 ^ 32) kept.1, both.1)

last_kept : (count : ℕ) (vs : List Visit) (name : Name) (r : Register) → first_fault count vs ≡ None
    → Lists vs name r → last_address r < 2 ^ 32
last_kept count [] name r is listed = absurd listed
last_kept count (v ∷ vs) name r is (inl here) =
    subst (λ (x : Register). last_address x < 2 ^ 32) here.1 (visit_kept count v vs is).1
last_kept count (v ∷ vs) name r is (inr others) =
    last_kept (count + 1) vs name r (visit_kept count v vs is).2 others

level_kept : (count : ℕ) (vs : List Visit) (level : ℕ) → first_fault count vs ≡ None → HasLevel vs level
    → level ≤ most_ids
level_kept count [] level is has = absurd has
level_kept count (v ∷ vs) level is (inl here) =
    let low = (visit_kept count v vs is).0 in
    omega arith
level_kept count (v ∷ vs) level is (inr others) =
    level_kept (count + 1) vs level (visit_kept count v vs is).2 others

last_small : (tables : TableMap) (root name : Name) (r : Register) → KeepsRules tables root
    → RootNames tables root name r → last_address r < 2 ^ 32
last_small tables root name r kept named =
    elim (named-listed tables most_ids 1 [] 0 (nodes_of tables root) name r named) [
      | inl listed ↦ last_kept 0 (root_walk tables root) name r kept.nodes listed
      | inr deep ↦
          let low = level_kept 0 (root_walk tables root) (1 + most_ids) kept.nodes deep in
          absurd (omega arith)
    ]

-- ---- registers

-- each register of an index keeps the rules of registers, and its mask has 32 bits
pub record IsSoundRegister (r : Register) : Type 0 where
  pub register' : IsRegister r
  pub mask' : IsWord r.mask

abbrev pub AreSoundRegisters : RegisterMap → Type 0
AreSoundRegisters registers = (name : Name) (r : Register) → get registers name ≡ Some r → IsSoundRegister r

root_sound : (tables : TableMap) (root name : Name) (r : Register) → AreWrittenTables tables → KeepsRules tables root
    → RootNames tables root name r → IsSoundRegister r
root_sound tables root name r written kept named = record {
  register' = root-register tables root name r (valid_tables tables written) named
      (last_small tables root name r kept named);
  mask' = mask_small tables written (nodes_of tables root) [] 0 name r
      (named_written tables written (get tables root) (written root)) named;
}

indexes_sound : (tables : TableMap) → AreWrittenTables tables → (boards : List BoardSpec) (indexes : List RegisterMap)
    → AllByRecursion (λ (b : BoardSpec). KeepsRules tables b.table) boards
    → AllZip (λ (b : BoardSpec) (index : RegisterMap). IsIndexOf tables b.table index) boards indexes
    → AllByRecursion AreSoundRegisters indexes
indexes_sound tables written [] [] kept are = tt
indexes_sound tables written [] (index ∷ indexes) kept are = absurd are
indexes_sound tables written (b ∷ boards) [] kept are = absurd are
indexes_sound tables written (b ∷ boards) (index ∷ indexes) kept are = (
  λ name r there. root_sound tables b.table name r written kept.0 ((are.0 name r).0 there),
  indexes_sound tables written boards indexes kept.1 are.1,
)

pub session_registers : (document : Members) (session : Session) (indexes : List RegisterMap)
    → IsSession document session
    → AllByRecursion (λ (b : BoardSpec). KeepsRules session.tables b.table) session.boards
    → AllZip (λ (b : BoardSpec) (index : RegisterMap). IsIndexOf session.tables b.table index) session.boards indexes
    → AllByRecursion AreSoundRegisters indexes
session_registers document session indexes is kept are =
    indexes_sound session.tables (session_tables document session is) session.boards indexes kept are
