-- Tables that keep the rules are not refused, and tables that are refused are refused in one way.
use Rattle.std.proofs.Common.{◌≡◌, inl, inr, List, [], ◌∷◌, ◌++◌, Option, Some, None, IsSome, refl, ap, sym, ◌∙◌, subst}
use Rattle.std.proofs.lemmas.Bool.{false≢true}
use Rattle.std.specs.List.{AllByRecursion}
use Rattle.std.specs.FinMap.{get}
use Rattle.address_table.specs.declared.nodes.Table.{Table}
use Rattle.node_tree.specs.declared.refusal.CompileWhy.{CompileWhy}
use Rattle.node_tree.specs.declared.refusal.CompileWhy.TheVariants.{UnknownModule, ModuleCycle, TooMany, TooDeep}
use Rattle.node_tree.specs.declared.refusal.CompileWhy.TheVariants.{Duplicate, AddressPastEnd}
use Rattle.node_tree.specs.declared.refusal.CompileRefusal.TheVariants.{At}
use Rattle.node_tree.specs.Maps.{Name, TableMap}
use Rattle.node_tree.specs.Modules.{HasUnknown, ReachesItself, NoTable, IsFirstTable}
use Rattle.node_tree.specs.Refusals.{AreKnown, KeepsRules, TellsUnknown, TellsCycle, TellsNode, IsRefusal}
use Rattle.node_tree.specs.Walk.{root_walk, first_fault}

none_at : (P : Name × Table → Type 0) (e : Name × Table) (before after : List (Name × Table))
    → AllByRecursion P (before ++ e ∷ after) → P e
none_at P e [] after all = all.0
none_at P e (x ∷ before) after all = none_at P e before after all.1

-- a table of a fact and no table of it
not_none : (tables : TableMap) (P : Name → Type 0) (name : Name) → IsFirstTable tables P name → NoTable tables P → ⊥
not_none tables P name first none =
    none_at (λ e. P e.0 → ⊥) (name, first.«table») first.before first.after
    (subst (AllByRecursion (λ e. P e.0 → ⊥)) first.place none) first.holds

first_of_two : (P : Name → Type 0) (a b : Name) (s t : Table) (xs ys us vs : List (Name × Table))
    → xs ++ (a, s) ∷ us ≡ ys ++ (b, t) ∷ vs
    → P a → P b → AllByRecursion (λ e. P e.0 → ⊥) xs → AllByRecursion (λ e. P e.0 → ⊥) ys → a ≡ b
first_of_two P a b s t [] [] us vs same holds other early earlier =
    let head : ◌≡◌ {A = Name × Table} (a, s) (b, t) = cc in
    ap (λ e. e.0) head
first_of_two P a b s t [] (y ∷ ys) us vs same holds other early earlier =
    let head : ◌≡◌ {A = Name × Table} (a, s) y = cc in
    absurd (earlier.0 (subst (λ e. P e.0) head holds))
first_of_two P a b s t (x ∷ xs) [] us vs same holds other early earlier =
    let head : ◌≡◌ {A = Name × Table} (b, t) x = cc in
    absurd (early.0 (subst (λ e. P e.0) head other))
first_of_two P a b s t (x ∷ xs) (y ∷ ys) us vs same holds other early earlier =
    let tail : xs ++ (a, s) ∷ us ≡ ys ++ (b, t) ∷ vs = cc in
    first_of_two P a b s t xs ys us vs tail holds other early.1 earlier.1

-- the first table of a fact is one
one_first : (tables : TableMap) (P : Name → Type 0) (a b : Name) → IsFirstTable tables P a → IsFirstTable tables P b
    → a ≡ b
one_first tables P a b x y =
    first_of_two P a b x.«table» y.«table» x.before y.before x.after y.after
    (sym x.place ∙ y.place) x.holds y.holds x.first y.first

no_root : (tables : TableMap) (root : Name) → get tables root ≡ None → IsSome (get tables root) → ⊥
no_root tables root none some = false≢true (subst IsSome none some)

known_or_not : (tables : TableMap) (root name : Name) → TellsUnknown tables root name → AreKnown tables root → ⊥
known_or_not tables root name (inl first) known = not_none tables (HasUnknown tables) name first known.modules
known_or_not tables root name (inr rest) known = no_root tables root rest.2 known.root_table

one_unknown : (tables : TableMap) (root a b : Name) → TellsUnknown tables root a → TellsUnknown tables root b → a ≡ b
one_unknown tables root a b (inl x) (inl y) = one_first tables (HasUnknown tables) a b x y
one_unknown tables root a b (inl x) (inr y) = absurd (not_none tables (HasUnknown tables) a x y.0)
one_unknown tables root a b (inr x) (inl y) = absurd (not_none tables (HasUnknown tables) b y x.0)
one_unknown tables root a b (inr x) (inr y) = x.1 ∙ sym y.1

-- what a refusal tells, by the part of the rules that is broken: a module, a cycle, or a node
data Tells (tables : TableMap) (root name path : Name) (why : CompileWhy) : Type 0 where
  unknown : why ≡ UnknownModule → path ≡ [] → TellsUnknown tables root name → Tells tables root name path why
  cycle : why ≡ ModuleCycle → path ≡ [] → TellsCycle tables root name → Tells tables root name path why
  node : TellsNode tables root name path why → Tells tables root name path why

told : (tables : TableMap) (root name path : Name) (why : CompileWhy) → IsRefusal tables root (At name path why)
    → Tells tables root name path why
told tables root name path UnknownModule h = unknown refl h.0 h.1
told tables root name path ModuleCycle h = cycle refl h.0 h.1
told tables root name path TooMany h = node h
told tables root name path TooDeep h = node h
told tables root name path Duplicate h = node h
told tables root name path AddressPastEnd h = node h

no_fault_told : (tables : TableMap) (root name path : Name) (why : CompileWhy) → KeepsRules tables root
    → Tells tables root name path why → ⊥
no_fault_told tables root name path why kept (unknown is empty tells) = known_or_not tables root name tells kept.known
no_fault_told tables root name path why kept (cycle is empty tells) =
    not_none tables (ReachesItself tables) name tells.1 kept.acyclic
no_fault_told tables root name path why kept (node tells) =
    let bad : ◌≡◌ {A = Option (Name × CompileWhy)} None (Some (path, why)) = sym kept.nodes ∙ tells.3 in cc

pub not_refused : (tables : TableMap) (root name path : Name) (why : CompileWhy) → KeepsRules tables root
    → IsRefusal tables root (At name path why) → ⊥
not_refused tables root name path why kept refusal =
    no_fault_told tables root name path why kept (told tables root name path why refusal)

abbrev pub AreSame : Name → Name → Name → Name → CompileWhy → CompileWhy → Type 0
AreSame name other path place why rule = (name ≡ other) × (path ≡ place) × (why ≡ rule)

one_fault : (name other path place : Name) (why rule : CompileWhy) (o : Option (Name × CompileWhy)) → name ≡ other
    → o ≡ Some (path, why) → o ≡ Some (place, rule) → AreSame name other path place why rule
one_fault name other path place why rule o same a b =
    let both : ◌≡◌ {A = Name × CompileWhy} (path, why) (place, rule) = cc in
    (same, ap (λ f. f.0) both, ap (λ f. f.1) both)

one_told : (tables : TableMap) (root name other path place : Name) (why rule : CompileWhy)
    → Tells tables root name path why → Tells tables root other place rule → AreSame name other path place why rule
one_told tables root name other path place why rule (unknown a b c) (unknown x y z) =
    (one_unknown tables root name other c z, b ∙ sym y, a ∙ sym x)
one_told tables root name other path place why rule (unknown a b c) (cycle x y z) =
    absurd (known_or_not tables root name c z.0)
one_told tables root name other path place why rule (unknown a b c) (node z) =
    absurd (known_or_not tables root name c z.0)
one_told tables root name other path place why rule (cycle a b c) (unknown x y z) =
    absurd (known_or_not tables root other z c.0)
one_told tables root name other path place why rule (cycle a b c) (cycle x y z) =
    (one_first tables (ReachesItself tables) name other c.1 z.1, b ∙ sym y, a ∙ sym x)
one_told tables root name other path place why rule (cycle a b c) (node z) =
    absurd (not_none tables (ReachesItself tables) name c.1 z.1)
one_told tables root name other path place why rule (node c) (unknown x y z) =
    absurd (known_or_not tables root other z c.0)
one_told tables root name other path place why rule (node c) (cycle x y z) =
    absurd (not_none tables (ReachesItself tables) other z.1 c.1)
one_told tables root name other path place why rule (node c) (node z) =
    one_fault name other path place why rule (first_fault 0 (root_walk tables root)) (c.2 ∙ sym z.2) c.3 z.3

pub one_refusal : (tables : TableMap) (root name other path place : Name) (why rule : CompileWhy)
    → IsRefusal tables root (At name path why) → IsRefusal tables root (At other place rule)
    → AreSame name other path place why rule
one_refusal tables root name other path place why rule a b =
    one_told tables root name other path place why rule (told tables root name path why a)
    (told tables root other place rule b)
