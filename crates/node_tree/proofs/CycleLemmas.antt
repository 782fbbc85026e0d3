-- Tables that lead to themselves: tables below all their modules do not.
use Rattle.std.proofs.Common.{◌≡◌, ◌⊎◌, inl, inr, ℕ, ◌+◌, ◌<◌, ◌≤◌, List, [], ◌∷◌, Bool, true, false, cond, Option}
use Rattle.std.proofs.Common.{Some, None, is_some, refl, ap, sym, ◌∙◌, subst, arith}
use Rattle.std.proofs.lemmas.Bool.{false≢true}
use Rattle.std.specs.Option.{option_map_or}
use Rattle.std.specs.List.{AllByRecursion}
use Rattle.std.specs.Ordering.{eq_by_cmp}
use Rattle.std.specs.FinMap.{FinMap, get, entries, contains_key, empty, find, get-entries, get-empty}
use Rattle.std.specs.FinMap.{nat_cmp-IsAntisymmetric, slice_cmp-IsAntisymmetric}
use Rattle.address_table.specs.declared.nodes.Table.{Table}
use Rattle.node_tree.specs.Maps.{Name, TableMap, nodes_of}
use Rattle.node_tree.specs.Modules.{Mentions, Reaches, direct, through, NoTable, HasUnknown, ReachesItself, IsIn}
use Rattle.node_tree.specs.Modules.{HasAll}
use Rattle.node_tree.specs.CycleSearch.{Ranks, IsRanked, AllRanked, AreRising, IsBelowModules, missing}
use Rattle.node_tree.proofs.MentionLemmas.{none_mentioned}
use Rattle.node_tree.proofs.SetLemmas.{equal_of}
use Rattle.node_tree.proofs.NamedLemmas.{by_bytes}
use Rattle.node_tree.proofs.EntryLemmas.{all-get}

pub either : {A B C : Type 0} → A ⊎ B → (A → C) → (B → C) → C
either (inl a) f g = f a
either (inr b) f g = g b

-- what a table leads to is in a set that has its modules, and the modules of all tables in it
pub reach-in : (tables : TableMap) (set : FinMap by_bytes (Unit {0})) (a c : Name)
    → ((b : Name) → IsIn set b → HasAll set (nodes_of tables b)) → HasAll set (nodes_of tables a) → Reaches tables a c
    → IsIn set c
reach-in tables set a c closed own (direct x y mention) = own y mention
reach-in tables set a c closed own (through x y z mention more) =
    reach-in tables set y z closed (closed y (own y mention)) more

-- a table leads on to the modules of what it leads to
pub reach-more : (tables : TableMap) (a b c : Name) → Reaches tables a b → Mentions (nodes_of tables b) c
    → Reaches tables a c
reach-more tables a b c (direct x y mention) next = through x y c mention (direct y c next)
reach-more tables a b c (through x y z mention more) next = through x y c mention (reach-more tables y z c more next)

-- where ranks rise, what a table leads to has a rank as high as its modules have
reach-ranked : (tables : TableMap) (ranks : Ranks) (least : ℕ) (a c : Name) → AreRising tables ranks
    → AllRanked ranks least (nodes_of tables a) → Reaches tables a c → IsRanked ranks least c
reach-ranked tables ranks least a c rising all (direct x y mention) = all y mention
reach-ranked tables ranks least a c rising all (through x y z mention more) =
    let (rank, is, above) = all y mention in
    reach-ranked tables ranks least y z rising
    (λ m h. let (next, next_is, more_above) = rising y rank is m h in (next, next_is, omega arith)) more

pub not_itself : (tables : TableMap) (ranks : Ranks) (a : Name) → AreRising tables ranks → IsBelowModules tables ranks a
    → ReachesItself tables a → ⊥
not_itself tables ranks a rising (rank, is, all) loop =
    let (again, again_is, above) = reach-ranked tables ranks (rank + 1) a a rising all loop in
    let same : rank ≡ again = cc in
    omega arith

-- what holds of the modules of a table holds of those of a name, which is no table or has that table
by_table : (P : Name → Type 0) (tables : TableMap) (a m : Name)
    → ((t : Table) → get tables a ≡ Some t → (b : Name) → Mentions t.nodes.items b → P b)
    → (o : Option Table) → get tables a ≡ o → Mentions (option_map_or (λ t. t.nodes.items) o []) m → P m
by_table P tables a m each None is mention = absurd (none_mentioned m mention)
by_table P tables a m each (Some t) is mention = each t is m mention

-- a table's rank, where it has one, is not above those of its modules
abbrev pub IsRising : Ranks → Name × Table → Type 0
IsRising ranks e = (rank : ℕ) → get ranks e.0 ≡ Some rank → AllRanked ranks rank e.1.nodes.items

pub rising-all : (tables : TableMap) (ranks : Ranks) → AllByRecursion (IsRising ranks) (entries tables)
    → AreRising tables ranks
rising-all tables ranks all a rank is m mention =
    by_table (IsRanked ranks rank) tables a m (λ t found. all-get (IsRising ranks) tables a t all found rank is)
    (get tables a) refl mention

pub rising-empty : (tables : TableMap) → AreRising tables empty
rising-empty tables a rank is = let none : get {X = ℕ} {R = by_bytes} empty a ≡ None = get-empty by_bytes a in cc

fewer : (a b : Bool) → (a ≡ true → b ≡ true) → cond b 0 1 ≤ cond a 0 1
fewer true true h = omega arith
fewer true false h = absurd (false≢true (h refl))
fewer false true h = omega arith
fewer false false h = omega arith

one_fewer : (a b : Bool) → a ≡ false → b ≡ true → cond b 0 1 + 1 ≤ cond a 0 1
one_fewer a b p q = rw (p, q) (omega arith)

module _ {V : Type 0} where
  pub missing-kept : (old new : FinMap by_bytes V) (es : List (Name × Table)) → ((m : Name) → IsIn old m → IsIn new m)
      → missing new es ≤ missing old es
  missing-kept old new [] kept = omega arith
  missing-kept old new (e ∷ es) kept =
      let here : cond (contains_key new e.0) 0 1 ≤ cond (contains_key old e.0) 0 1 =
      fewer (contains_key old e.0) (contains_key new e.0) (kept e.0) in
      let rest : missing new es ≤ missing old es = missing-kept old new es kept in
      omega arith

  less_at : (old new : FinMap by_bytes V) (q k : Name) (t u : Table) (es : List (Name × Table)) (b : Bool)
      → eq_by_cmp by_bytes q k ≡ b → ((m : Name) → IsIn old m → IsIn new m)
      → contains_key old q ≡ false → IsIn new q → (find by_bytes q es ≡ Some t → missing new es + 1 ≤ missing old es)
      → cond b (Some u) (find by_bytes q es) ≡ Some t
      → missing new ((k, u) ∷ es) + 1 ≤ missing old ((k, u) ∷ es)
  less_at old new q k t u es true tie kept absent there others is =
      let same : q ≡ k = slice_cmp-IsAntisymmetric nat_cmp-IsAntisymmetric q k (equal_of (by_bytes q k) tie) in
      let here : cond (contains_key new k) 0 1 + 1 ≤ cond (contains_key old k) 0 1 =
      one_fewer (contains_key old k) (contains_key new k) (subst (λ x. contains_key old x ≡ false) same absent)
      (subst (IsIn new) same there) in
      let rest : missing new es ≤ missing old es = missing-kept old new es kept in
      omega arith
  less_at old new q k t u es false tie kept absent there others is =
      let here : cond (contains_key new k) 0 1 ≤ cond (contains_key old k) 0 1 =
      fewer (contains_key old k) (contains_key new k) (kept k) in
      let rest : missing new es + 1 ≤ missing old es = others is in
      omega arith

  less_in : (old new : FinMap by_bytes V) (q : Name) (t : Table) (es : List (Name × Table))
      → ((m : Name) → IsIn old m → IsIn new m)
      → contains_key old q ≡ false → IsIn new q → find by_bytes q es ≡ Some t → missing new es + 1 ≤ missing old es
  less_in old new q t [] kept absent there is = cc
  less_in old new q t (e ∷ es) kept absent there is =
      less_at old new q e.0 t e.1 es (eq_by_cmp by_bytes q e.0) refl kept absent there
      (less_in old new q t es kept absent there) is

  -- a set that got a table that it had not has fewer missing
  pub missing-less : (tables : TableMap) (old new : FinMap by_bytes V) (q : Name) (t : Table)
      → ((m : Name) → IsIn old m → IsIn new m)
      → contains_key old q ≡ false → IsIn new q → get tables q ≡ Some t
      → missing new (entries tables) < missing old (entries tables)
  missing-less tables old new q t kept absent there is =
      let less : missing new (entries tables) + 1 ≤ missing old (entries tables) =
      less_in old new q t (entries tables) kept absent there (sym (get-entries tables q) ∙ is) in
      omega arith

known_at : (tables : TableMap) (a m : Name) → NoTable tables (HasUnknown tables) → (o p : Option Table)
    → get tables a ≡ o → get tables m ≡ p
    → Mentions (option_map_or (λ t. t.nodes.items) o []) m → (t : Table) × (get tables m ≡ Some t)
known_at tables a m known None p is found mention = absurd (none_mentioned m mention)
known_at tables a m known (Some t) (Some u) is found mention = (u, found)
known_at tables a m known (Some t) None is found mention =
    absurd (all-get (λ e. HasUnknown tables e.0 → ⊥) tables a t known is
    (m, subst (λ o. Mentions (option_map_or (λ x. x.nodes.items) o []) m) (sym is) mention, ap is_some found))

-- where all modules are known, a module is a table
pub known-module : (tables : TableMap) (a m : Name) → NoTable tables (HasUnknown tables)
    → Mentions (nodes_of tables a) m → (t : Table) × (get tables m ≡ Some t)
known-module tables a m known mention = known_at tables a m known (get tables a) (get tables m) refl refl mention
