-- Tables that have the same nodes compile alike, and tables and a root have one index.
use Rattle.std.proofs.Common.{◌≡◌, ◌↔◌, ◌≤◌, inl, inr, ℕ, zero, suc, ◌+◌, List, [], ◌∷◌, ◌++◌, map, Bool, true, false}
use Rattle.std.proofs.Common.{◌&&◌, ◌||◌, T, cond, Option, Some, None, IsSome, is_some, bytes_eq, refl, ap, sym, ◌∙◌}
use Rattle.std.proofs.Common.{subst}
use Rattle.std.specs.List.{AllByRecursion}
use Rattle.std.specs.Option.{option_map, option_map_or}
use Rattle.std.specs.Ordering.{eq_by_cmp}
use Rattle.std.specs.FinMap.{get, entries, entries_sorted, get-entries, find, is_sorted, same_map}
use Rattle.std.specs.FinMap.{nat_cmp-IsAntisymmetric, slice_cmp-IsAntisymmetric}
use Rattle.std.specs.FinMap.Entries.{below_all, same_entries}
use Rattle.std.proofs.lemmas.Cmp.{nat_list_cmp_total}
use Rattle.address_table.specs.Tables.{SameKeys, SameNodes, neither, both}
use Rattle.address_table.specs.declared.nodes.Node.{Node, out-Node}
use Rattle.address_table.specs.declared.nodes.Table.{Table}
use Rattle.node_tree.specs.declared.register.Register.{Register}
use Rattle.node_tree.specs.declared.refusal.CompileWhy.TheVariants.{UnknownModule, ModuleCycle, TooMany, TooDeep}
use Rattle.node_tree.specs.declared.refusal.CompileWhy.TheVariants.{Duplicate, AddressPastEnd}
use Rattle.node_tree.specs.declared.refusal.CompileRefusal.{CompileRefusal}
use Rattle.node_tree.specs.declared.refusal.CompileRefusal.TheVariants.{At, NoMemory}
use Rattle.node_tree.specs.Limits.{most_ids}
use Rattle.node_tree.specs.Maps.{Name, TableMap, RegisterMap, nodes_of}
use Rattle.node_tree.specs.Names.{Names, itself, child, later, children_of, last_index, name_at, address_at}
use Rattle.node_tree.specs.Names.{register_at, IsIndexOf}
use Rattle.node_tree.specs.Modules as modules
use Rattle.node_tree.specs.Modules.{Mentions, Reaches, direct, through, HasUnknown, ReachesItself, NoTable}
use Rattle.node_tree.specs.Modules.{IsFirstTable}
use Rattle.node_tree.specs.Refusals.{AreKnown, KeepsRules, TellsUnknown, TellsCycle, TellsNode, IsRefusal}
use Rattle.node_tree.specs.Same.{SameFound, SameTables}
use Rattle.node_tree.specs.Walk.{Below, visit_of, has_id, indexes, siblings, walk, root_walk, first_fault}
use Rattle.node_tree.proofs.NamedLemmas.{by_bytes}
use Rattle.node_tree.proofs.EntryLemmas.{first, second}

-- two maps that have the same at each name are one
same_option : (o p : Option Register) → ((r : Register) → o ≡ Some r → p ≡ Some r)
    → ((r : Register) → p ≡ Some r → o ≡ Some r) → o ≡ p
same_option None None to from = refl
same_option None (Some r) to from = from r refl
same_option (Some r) p to from = sym (to r refl)

by_bytes-apart : (x y : Name) → by_bytes x y ≡ Rattle.std.proofs.Common.Equal → x ≡ y
by_bytes-apart x y h = slice_cmp-IsAntisymmetric nat_cmp-IsAntisymmetric x y h

pub one_index : (tables : TableMap) (root : Name) (index other : RegisterMap) → IsIndexOf tables root index
    → IsIndexOf tables root other → index ≡ other
one_index tables root index other is same =
    same_map nat_list_cmp_total (slice_cmp-IsAntisymmetric nat_cmp-IsAntisymmetric) index other
    (λ name. same_option (get index name) (get other name) (λ r there. (same name r).1 ((is name r).0 there))
    (λ r there. (is name r).1 ((same name r).0 there)))

keys-sym : (n m : Node) → SameKeys n m → SameKeys m n
keys-sym n m k = record {
  id = sym k.id;
  address = sym k.address;
  mask = sym k.mask;
  permission = sym k.permission;
  mode = sym k.mode;
  size = sym k.size;
  count = sym k.count;
  stride = sym k.stride;
  «module» = sym k.«module»;
  tags = sym k.tags;
  description = sym k.description;
}

nodes-sym : (ns ms : List Node) → SameNodes ns ms → SameNodes ms ns
nodes-sym ns ms neither = neither
nodes-sym ns ms (both n m ns' ms' keys below rest) =
    both m n ms' ns' (keys-sym n m keys) (nodes-sym _ _ below) (nodes-sym ns' ms' rest)

found-sym : (o p : Option Table) → SameFound o p → SameFound p o
found-sym None None h = tt
found-sym None (Some u) h = absurd h
found-sym (Some t) None h = absurd h
found-sym (Some t) (Some u) h = nodes-sym _ _ h

tables-sym : (tables others : TableMap) → SameTables tables others → SameTables others tables
tables-sym tables others same = λ name. found-sym (get tables name) (get others name) (same name)

pub both_ways : (P : TableMap → Type 0) → ((tables others : TableMap) → SameTables tables others → P tables → P others)
    → (tables others : TableMap)
    → SameTables tables others → P tables ↔ P others
both_ways P move tables others same = (move tables others same, move others tables (tables-sym tables others same))

-- the first of some nodes, and its like
record IsLike (n : Node) (ns ms : List Node) : Type 0 where
  like : Node
  rest : List Node
  is : ms ≡ like ∷ rest
  keys : SameKeys n like
  below : SameNodes (out-Node n).nodes.items (out-Node like).nodes.items
  others : SameNodes ns rest

abbrev AsSame : List Node → List Node → Type 0
AsSame [] ms = Unit {0}
AsSame (n ∷ ns) ms = IsLike n ns ms

as_same : (ns ms : List Node) → SameNodes ns ms → AsSame ns ms
as_same ns ms neither = tt
as_same ns ms (both n m ns' ms' keys below rest) =
    record { like = m; rest = ms'; is = refl; keys = keys; below = below; others = rest }

nodes-append : (ns ms : List Node) (n m : Node) → SameNodes ns ms → SameKeys n m
    → SameNodes (out-Node n).nodes.items (out-Node m).nodes.items
    → SameNodes (ns ++ n ∷ []) (ms ++ m ∷ [])
nodes-append ns ms n m neither keys below = both n m [] [] keys below neither
nodes-append ns ms n m (both x y xs ys k b rest) keys below =
    both x y (xs ++ n ∷ []) (ys ++ m ∷ []) k b (nodes-append xs ys n m rest keys below)

found-nodes : (o p : Option Table) → SameFound o p
    → SameNodes (option_map_or (λ t. t.nodes.items) o []) (option_map_or (λ t. t.nodes.items) p [])
found-nodes None None h = neither
found-nodes None (Some u) h = absurd h
found-nodes (Some t) None h = absurd h
found-nodes (Some t) (Some u) h = h

found-some : (o p : Option Table) → SameFound o p → is_some o ≡ is_some p
found-some None None h = refl
found-some None (Some u) h = absurd h
found-some (Some t) None h = absurd h
found-some (Some t) (Some u) h = refl

last-same : (n m : Node) → SameKeys n m → last_index n ≡ last_index m
last-same n m keys = rw keys.count refl

name-same : (above : Name) (n m : Node) (i : ℕ) → SameKeys n m → name_at above n i ≡ name_at above m i
name-same above n m i keys = rw (keys.id, keys.count) refl

address-same : (base : ℕ) (n m : Node) (i : ℕ) → SameKeys n m → address_at base n i ≡ address_at base m i
address-same base n m i keys = rw (keys.address, keys.stride) refl

register-same : (base : ℕ) (n m : Node) (i : ℕ) → SameKeys n m → register_at base n i ≡ register_at base m i
register-same base n m i keys =
    rw (keys.address, keys.stride, keys.mask, keys.permission, keys.mode, keys.size) refl

module _ (tables others : TableMap) (same : SameTables tables others) where
  nodes-same : (name : Name) → SameNodes (nodes_of tables name) (nodes_of others name)
  nodes-same name = found-nodes (get tables name) (get others name) (same name)

  children_if : (name : Option Name) (ns ms : List Node) → SameNodes ns ms
      → SameNodes (option_map_or (nodes_of tables) name ns) (option_map_or (nodes_of others) name ms)
  children_if None ns ms below = below
  children_if (Some name) ns ms below = nodes-same name

  children-same : (n m : Node) → SameKeys n m → SameNodes (out-Node n).nodes.items (out-Node m).nodes.items
      → SameNodes (children_of tables n) (children_of others m)
  children-same n m keys below =
      subst (λ name. SameNodes (children_of tables n) (option_map_or (nodes_of others) name (out-Node m).nodes.items))
      keys.«module»
      (children_if (out-Node n).«module» (out-Node n).nodes.items (out-Node m).nodes.items below)

  -- what nodes name
  names-same : (ks ms : List Node) (above : Name) (base : ℕ) (name : Name) (r : Register) → SameNodes ks ms
      → Names tables ks above base name r → Names others ms above base name r
  names-same ks ms above base name r alike (itself n ns above' base' i within) =
      let like = as_same (n ∷ ns) ms alike in
      let m = like.like in
      let last : i ≤ last_index m = subst (λ k. i ≤ k) (last-same n m like.keys) within in
      subst (λ ls. Names others ls above' base' (name_at above' n i) (register_at base' n i)) (sym like.is)
      (subst (λ x. Names others (m ∷ like.rest) above' base' x (register_at base' n i))
      (sym (name-same above' n m i like.keys))
      (subst (λ x. Names others (m ∷ like.rest) above' base' (name_at above' m i) x)
      (sym (register-same base' n m i like.keys)) (itself m like.rest above' base' i last)))
  names-same ks ms above base name r alike (child n ns above' base' i name' r' within named) =
      let like = as_same (n ∷ ns) ms alike in
      let m = like.like in
      let last : i ≤ last_index m = subst (λ k. i ≤ k) (last-same n m like.keys) within in
      let below =
      names-same (children_of tables n) (children_of others m) (name_at above' n i) (address_at base' n i) name' r'
      (children-same n m like.keys like.below) named in
      subst (λ ls. Names others ls above' base' name' r') (sym like.is)
      (child m like.rest above' base' i name' r' last
      (subst (λ x. Names others (children_of others m) x (address_at base' m i) name' r')
      (name-same above' n m i like.keys)
      (subst (λ x. Names others (children_of others m) (name_at above' n i) x name' r')
      (address-same base' n m i like.keys) below)))
  names-same ks ms above base name r alike (later n ns above' base' name' r' named) =
      let like = as_same (n ∷ ns) ms alike in
      subst (λ ls. Names others ls above' base' name' r') (sym like.is)
      (later like.like like.rest above' base' name' r'
      (names-same ns like.rest above' base' name' r' like.others named))

  -- the modules of nodes, and what they lead to
  mentions-same : (ks ms : List Node) (name : Name) → SameNodes ks ms → Mentions ks name → Mentions ms name
  mentions-same ks ms name alike (modules.itself n ns x is) =
      let like = as_same (n ∷ ns) ms alike in
      subst (λ ls. Mentions ls x) (sym like.is) (modules.itself like.like like.rest x (sym like.keys.«module» ∙ is))
  mentions-same ks ms name alike (modules.child n ns x mention) =
      let like = as_same (n ∷ ns) ms alike in
      subst (λ ls. Mentions ls x) (sym like.is)
      (modules.child like.like like.rest x (mentions-same _ _ x like.below mention))
  mentions-same ks ms name alike (modules.later n ns x mention) =
      let like = as_same (n ∷ ns) ms alike in
      subst (λ ls. Mentions ls x) (sym like.is)
      (modules.later like.like like.rest x (mentions-same ns like.rest x like.others mention))

  reaches-same : (a b : Name) → Reaches tables a b → Reaches others a b
  reaches-same a b (direct x y mention) = direct x y (mentions-same _ _ y (nodes-same x) mention)
  reaches-same a b (through x y z mention rest) =
      through x y z (mentions-same _ _ y (nodes-same x) mention) (reaches-same y z rest)

  unknown-same : (name : Name) → HasUnknown tables name → HasUnknown others name
  unknown-same name (m, mention, none) =
      (m, mentions-same _ _ m (nodes-same name) mention, sym (found-some (get tables m) (get others m) (same m)) ∙ none)

  -- the walk
  has_id-same : (a b : Name) (ns ms : List Node) → a ≡ b → SameNodes ns ms → has_id a ns ≡ has_id b ms
  has_id-same a b ns ms is neither = refl
  has_id-same a b ns ms is (both n m ns' ms' keys below rest) =
      ap (λ x. bytes_eq x a || has_id a ns') keys.id ∙ ap (λ x. bytes_eq (out-Node m).id x || has_id a ns') is
      ∙ ap (λ x. bytes_eq (out-Node m).id b || x) (has_id-same a b ns' ms' is rest)

  visit-same : (level : ℕ) (above : Name) (base : ℕ) (earlier before : List Node) (n m : Node) (i : ℕ)
      → SameNodes earlier before → SameKeys n m
      → visit_of level above base earlier n i ≡ visit_of level above base before m i
  visit-same level above base earlier before n m i alike keys =
      rw (
        has_id-same (out-Node n).id (out-Node m).id earlier before keys.id alike,
        register-same base n m i keys,
        keys.id,
        keys.count,
      ) refl

  abbrev SameBelow : Below → Below → Type 0
  SameBelow deeper deeper' =
      (called : Name) (address : ℕ) (ns ms : List Node) → SameNodes ns ms
      → deeper called address ns ≡ deeper' called address ms

  module _ (deeper deeper' : Below) (each : SameBelow deeper deeper') (level : ℕ) (above : Name) (base : ℕ) where
    indexes-same : (earlier before : List Node) (n m : Node) (i left : ℕ)
        → SameNodes earlier before → SameKeys n m
        → SameNodes (out-Node n).nodes.items (out-Node m).nodes.items
        → indexes deeper tables level above base earlier n i left
        ≡ indexes deeper' others level above base before m i left
    unfolding indexes
    indexes-same earlier before n m i zero alike keys below = refl
    indexes-same earlier before n m i (suc left) alike keys below =
        let inner : deeper (name_at above n i) (address_at base n i) (children_of tables n)
        ≡ deeper' (name_at above m i) (address_at base m i) (children_of others m) =
        each (name_at above n i) (address_at base n i) (children_of tables n) (children_of others m)
        (children-same n m keys below)
        ∙ ap (λ x. deeper' x (address_at base n i) (children_of others m)) (name-same above n m i keys)
        ∙ ap (λ x. deeper' (name_at above m i) x (children_of others m)) (address-same base n m i keys) in
        let after = indexes-same earlier before n m (i + 1) left alike keys below in
        ap (λ v. v ∷ (deeper (name_at above n i) (address_at base n i) (children_of tables n)
        ++ indexes deeper tables level above base earlier n (i + 1) left))
        (visit-same level above base earlier before n m i alike keys)
        ∙ ap (λ vs. visit_of level above base before m i
        ∷ (vs ++ indexes deeper tables level above base earlier n (i + 1) left)) inner
        ∙ ap (λ vs. visit_of level above base before m i
        ∷ (deeper' (name_at above m i) (address_at base m i) (children_of others m) ++ vs)) after

    siblings-same : (earlier before ns ms : List Node) → SameNodes earlier before → SameNodes ns ms
        → siblings deeper tables level above base earlier ns ≡ siblings deeper' others level above base before ms
    unfolding siblings
    siblings-same earlier before ns ms alike neither = refl
    siblings-same earlier before ns ms alike (both n m ns' ms' keys below rest) =
        let here =
        indexes-same earlier before n m 0 (last_index n + 1) alike keys below
        ∙ ap (λ k. indexes deeper' others level above base before m 0 (k + 1)) (last-same n m keys) in
        let after =
        siblings-same (earlier ++ n ∷ []) (before ++ m ∷ []) ns' ms'
        (nodes-append earlier before n m alike keys below) rest in
        ap (λ vs. vs ++ siblings deeper tables level above base (earlier ++ n ∷ []) ns') here
        ∙ ap (λ vs. indexes deeper' others level above base before m 0 (last_index m + 1) ++ vs) after

  walk-same : (levels level : ℕ) (above : Name) (base : ℕ) (ns ms : List Node) → SameNodes ns ms
      → walk tables levels level above base ns ≡ walk others levels level above base ms
  unfolding walk
  walk-same zero level above base ns ms alike = refl
  walk-same (suc levels) level above base ns ms alike =
      siblings-same (walk tables levels (level + 1)) (walk others levels (level + 1))
      (λ called address ks ls. walk-same levels (level + 1) called address ks ls) level above base [] [] ns ms
      neither alike

  root_walk-same : (root : Name) → root_walk tables root ≡ root_walk others root
  root_walk-same root = walk-same (most_ids + 1) 1 [] 0 (nodes_of tables root) (nodes_of others root) (nodes-same root)

-- the names of entries, and a map of them
abbrev keys : List (Name × Table) → List (Name × Unit {0})
keys es = map (λ e. (e.0, tt)) es

pair_of : (a b : Bool) → T a → T b → T (a && b)
pair_of true b h k = k
pair_of false b h k = absurd h

below-keys : (x : Name) (es : List (Name × Table)) → T (below_all by_bytes x es) → T (below_all by_bytes x (keys es))
below-keys x [] h = tt
below-keys x (e ∷ es) h = pair_of _ _ (first _ _ h) (below-keys x es (second _ _ h))

sorted-keys : (es : List (Name × Table)) → T (is_sorted by_bytes es) → T (is_sorted by_bytes (keys es))
sorted-keys [] h = tt
sorted-keys (e ∷ es) h = pair_of _ _ (below-keys e.0 es (first _ _ h)) (sorted-keys es (second _ _ h))

abbrev forget : Option Table → Option (Unit {0})
forget o = option_map (λ _. tt) o

forget-cond : (b : Bool) (t : Table) (o : Option Table) (p : Option (Unit {0})) → p ≡ forget o
    → cond b (Some tt) p ≡ forget (cond b (Some t) o)
forget-cond true t o p h = refl
forget-cond false t o p h = h

find-keys : (q : Name) (es : List (Name × Table)) → find by_bytes q (keys es) ≡ forget (find by_bytes q es)
find-keys q [] = refl
find-keys q (e ∷ es) =
    forget-cond (eq_by_cmp by_bytes q e.0) e.1 (find by_bytes q es) (find by_bytes q (keys es)) (find-keys q es)

forget-same : (o p : Option Table) → SameFound o p → forget o ≡ forget p
forget-same None None h = refl
forget-same None (Some u) h = absurd h
forget-same (Some t) None h = absurd h
forget-same (Some t) (Some u) h = refl

keys-same : (tables others : TableMap) → SameTables tables others → keys (entries tables) ≡ keys (entries others)
keys-same tables others same =
    same_entries by_bytes nat_list_cmp_total by_bytes-apart (keys (entries tables)) (keys (entries others))
    (sorted-keys (entries tables) (entries_sorted tables)) (sorted-keys (entries others) (entries_sorted others))
    (λ q. find-keys q (entries tables) ∙ ap forget (sym (get-entries tables q))
    ∙ forget-same (get tables q) (get others q) (same q) ∙ ap forget (get-entries others q)
    ∙ sym (find-keys q (entries others)))

head_name : (e f : Name × Table) (es fs : List (Name × Table)) → keys (e ∷ es) ≡ keys (f ∷ fs)
    → (e.0 ≡ f.0) × (keys es ≡ keys fs)
head_name e f es fs h =
    let head : ◌≡◌ {A = Name × Unit {0}} (e.0, tt) (f.0, tt) = cc in
    let tail : keys es ≡ keys fs = cc in
    (ap (λ x. x.0) head, tail)

abbrev None_of : (Name → Type 0) → List (Name × Table) → Type 0
None_of P es = AllByRecursion (λ e. P e.0 → ⊥) es

none-same : (P Q : Name → Type 0) → ((name : Name) → Q name → P name) → (es fs : List (Name × Table))
    → keys es ≡ keys fs → None_of P es → None_of Q fs
none-same P Q from [] [] h none = tt
none-same P Q from [] (f ∷ fs) h none = let bad : ⊥ = cc in absurd bad
none-same P Q from (e ∷ es) [] h none = let bad : ⊥ = cc in absurd bad
none-same P Q from (e ∷ es) (f ∷ fs) h none =
    let (head, tail) = head_name e f es fs h in
    (λ holds. none.0 (subst P (sym head) (from f.0 holds)), none-same P Q from es fs tail none.1)

-- the entry of the same name in the other list
record IsPlace (before : List (Name × Table)) (name : Name) (fs : List (Name × Table)) : Type 0 where
  earlier : List (Name × Table)
  found : Table
  later : List (Name × Table)
  place : fs ≡ earlier ++ (name, found) ∷ later
  alike : keys before ≡ keys earlier

place-same : (before : List (Name × Table)) (name : Name) (t : Table) (after fs : List (Name × Table))
    → keys (before ++ (name, t) ∷ after) ≡ keys fs → IsPlace before name fs
place-same [] name t after [] h = let bad : ⊥ = cc in absurd bad
place-same [] name t after (f ∷ fs) h =
    let (head, tail) = head_name (name, t) f after fs h in
    record { earlier = []; found = f.1; later = fs; place = ap (λ x. (x, f.1) ∷ fs) (sym head); alike = refl }
place-same (e ∷ es) name t after [] h = let bad : ⊥ = cc in absurd bad
place-same (e ∷ es) name t after (f ∷ fs) h =
    let (head, tail) = head_name e f (es ++ (name, t) ∷ after) fs h in
    let rest = place-same es name t after fs tail in
    record {
      earlier = f ∷ rest.earlier;
      found = rest.found;
      later = rest.later;
      place = ap (λ x. f ∷ x) rest.place;
      alike = ap (λ x. (x, tt) ∷ keys es) head ∙ ap (λ x. (f.0, tt) ∷ x) rest.alike;
    }

module _ (tables others : TableMap) (same : SameTables tables others) where
  no_table-same : (P Q : Name → Type 0) → ((name : Name) → Q name → P name) → NoTable tables P → NoTable others Q
  no_table-same P Q from none = none-same P Q from (entries tables) (entries others) (keys-same tables others same) none

  first-same : (P Q : Name → Type 0) (name : Name) → ((x : Name) → P x → Q x) → ((x : Name) → Q x → P x)
      → IsFirstTable tables P name → IsFirstTable others Q name
  first-same P Q name to from is =
      let other =
      place-same is.before name is.«table» is.after (entries others)
      (ap keys (sym is.place) ∙ keys-same tables others same) in
      record {
        before = other.earlier;
        «table» = other.found;
        after = other.later;
        place = other.place;
        holds = to name is.holds;
        first = none-same P Q from is.before other.earlier other.alike is.first;
      }

  back : SameTables others tables
  back = tables-sym tables others same

  no_unknown-same : NoTable tables (HasUnknown tables) → NoTable others (HasUnknown others)
  no_unknown-same none =
      no_table-same (HasUnknown tables) (HasUnknown others) (λ name. unknown-same others tables back name) none

  no_cycle-same : NoTable tables (ReachesItself tables) → NoTable others (ReachesItself others)
  no_cycle-same none =
      no_table-same (ReachesItself tables) (ReachesItself others)
      (λ name. reaches-same others tables back name name) none

  some-same : (o p : Option Table) → SameFound o p → IsSome o → IsSome p
  some-same o p alike h = sym (found-some o p alike) ∙ h

  none_found-same : (o p : Option Table) → SameFound o p → o ≡ None → p ≡ None
  none_found-same None None alike h = refl
  none_found-same None (Some u) alike h = absurd alike
  none_found-same (Some t) p alike h = let bad : ⊥ = cc in absurd bad

  known-same : (root : Name) → AreKnown tables root → AreKnown others root
  known-same root known =
      record {
        modules = no_unknown-same known.modules;
        root_table = some-same (get tables root) (get others root) (same root) known.root_table;
      }

  pub kept-same : (root : Name) → KeepsRules tables root → KeepsRules others root
  kept-same root kept = record {
    known = known-same root kept.known;
    acyclic = no_cycle-same kept.acyclic;
    nodes = ap (first_fault 0) (sym (root_walk-same tables others same root)) ∙ kept.nodes;
  }

  pub index-same : (root : Name) (index : RegisterMap) → IsIndexOf tables root index → IsIndexOf others root index
  index-same root index is = λ name r. (
    λ there. names-same tables others same (nodes_of tables root) (nodes_of others root) [] 0 name r
        (nodes-same tables others same root) ((is name r).0 there),
    λ named. (is name r).1
        (names-same others tables back (nodes_of others root) (nodes_of tables root) [] 0 name r
        (nodes-same others tables back root) named),
  )

  unknown_told-same : (root name : Name) → TellsUnknown tables root name → TellsUnknown others root name
  unknown_told-same root name (inl is) =
      inl (first-same (HasUnknown tables) (HasUnknown others) name (λ x. unknown-same tables others same x)
      (λ x. unknown-same others tables back x) is)
  unknown_told-same root name (inr (none, is, missing)) =
      inr (no_unknown-same none, is, none_found-same (get tables root) (get others root) (same root) missing)

  cycle_told-same : (root name : Name) → TellsCycle tables root name → TellsCycle others root name
  cycle_told-same root name (known, is) = (
    known-same root known,
    first-same (ReachesItself tables) (ReachesItself others) name (λ x. reaches-same tables others same x x)
        (λ x. reaches-same others tables back x x) is,
  )

  node_told-same : (root name path : Name) (why : Rattle.node_tree.specs.declared.refusal.CompileWhy.CompileWhy)
      → TellsNode tables root name path why → TellsNode others root name path why
  node_told-same root name path why (known, acyclic, is, fault) = (
    known-same root known,
    no_cycle-same acyclic,
    is,
    ap (first_fault 0) (sym (root_walk-same tables others same root)) ∙ fault,
  )

  pub refused-same : (root : Name) (refusal : CompileRefusal) → IsRefusal tables root refusal
      → IsRefusal others root refusal
  refused-same root NoMemory h = tt
  refused-same root (At name path UnknownModule) h = (h.0, unknown_told-same root name h.1)
  refused-same root (At name path ModuleCycle) h = (h.0, cycle_told-same root name h.1)
  refused-same root (At name path TooMany) h = node_told-same root name path TooMany h
  refused-same root (At name path TooDeep) h = node_told-same root name path TooDeep h
  refused-same root (At name path Duplicate) h = node_told-same root name path Duplicate h
  refused-same root (At name path AddressPastEnd) h = node_told-same root name path AddressPastEnd h
