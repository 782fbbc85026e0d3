-- The registers of the walk are those that the table names.
use Rattle.std.proofs.Common.{◌≡◌, ◌⊎◌, inl, inr, ℕ, zero, suc, ◌+◌, ◌<◌, ◌≤◌, List, [], ◌∷◌, ◌++◌, refl, subst, arith}
use Rattle.address_table.specs.declared.nodes.Node.{Node}
use Rattle.node_tree.specs.declared.register.Register.{Register}
use Rattle.node_tree.specs.Maps.{Name, TableMap}
use Rattle.node_tree.specs.Names.{Names, itself, child, later, children_of, last_index, name_at, address_at}
use Rattle.node_tree.specs.Names.{register_at}
use Rattle.node_tree.specs.Walk.{Visit, Lists, HasLevel, Below, visit_of, indexes, siblings, walk}

pub listed-left : (xs ys : List Visit) (name : Name) (r : Register) → Lists xs name r → Lists (xs ++ ys) name r
listed-left [] ys name r h = absurd h
listed-left (x ∷ xs) ys name r (inl h) = inl h
listed-left (x ∷ xs) ys name r (inr h) = inr (listed-left xs ys name r h)

pub listed-right : (xs ys : List Visit) (name : Name) (r : Register) → Lists ys name r → Lists (xs ++ ys) name r
listed-right [] ys name r h = h
listed-right (x ∷ xs) ys name r h = inr (listed-right xs ys name r h)

pub listed-either : (xs ys : List Visit) (name : Name) (r : Register) → Lists (xs ++ ys) name r
    → Lists xs name r ⊎ Lists ys name r
listed-either [] ys name r h = inr h
listed-either (x ∷ xs) ys name r (inl h) = inl (inl h)
listed-either (x ∷ xs) ys name r (inr h) = elim (listed-either xs ys name r h) [ inl a ↦ inl (inr a) | inr b ↦ inr b ]

pub level-left : (xs ys : List Visit) (k : ℕ) → HasLevel xs k → HasLevel (xs ++ ys) k
level-left [] ys k h = absurd h
level-left (x ∷ xs) ys k (inl h) = inl h
level-left (x ∷ xs) ys k (inr h) = inr (level-left xs ys k h)

pub level-right : (xs ys : List Visit) (k : ℕ) → HasLevel ys k → HasLevel (xs ++ ys) k
level-right [] ys k h = h
level-right (x ∷ xs) ys k h = inr (level-right xs ys k h)

-- what a walk lists is named
module _ (tables : TableMap) (below : Below) (level : ℕ) (name : Name) (r : Register)
    (deeper : (called : Name) (address : ℕ) (ms : List Node) → Lists (below called address ms) name r
    → Names tables ms called address name r) where
  listed-indexes : (above : Name) (base : ℕ) (earlier : List Node) (n : Node) (ns : List Node) (i left : ℕ)
      → i + left ≤ last_index n + 1
      → Lists (indexes below tables level above base earlier n i left) name r
      → Names tables (n ∷ ns) above base name r
  unfolding indexes
  listed-indexes above base earlier n ns i zero few h = absurd h
  listed-indexes above base earlier n ns i (suc left) few (inl h) =
      subst (λ x. Names tables (n ∷ ns) above base x r) h.0
      (subst (λ x. Names tables (n ∷ ns) above base (name_at above n i) x) h.1
      (itself n ns above base i (omega arith)))
  listed-indexes above base earlier n ns i (suc left) few (inr h) =
      elim (listed-either (below (name_at above n i) (address_at base n i) (children_of tables n))
      (indexes below tables level above base earlier n (i + 1) left) name r h) [
        | inl inner ↦ child n ns above base i name r (omega arith) (deeper _ _ _ inner)
        | inr rest ↦ listed-indexes above base earlier n ns (i + 1) left (omega arith) rest
      ]

  listed-siblings : (above : Name) (base : ℕ) (earlier ns : List Node)
      → Lists (siblings below tables level above base earlier ns) name r → Names tables ns above base name r
  unfolding siblings
  listed-siblings above base earlier [] h = absurd h
  listed-siblings above base earlier (n ∷ ns) h =
      elim (listed-either (indexes below tables level above base earlier n 0 (last_index n + 1))
      (siblings below tables level above base (earlier ++ n ∷ []) ns) name r h) [
        | inl here ↦ listed-indexes above base earlier n ns 0 (last_index n + 1) (omega arith) here
        | inr rest ↦ later n ns above base name r (listed-siblings above base (earlier ++ n ∷ []) ns rest)
      ]

pub listed-named : (tables : TableMap) (levels level : ℕ) (above : Name) (base : ℕ) (ns : List Node) (name : Name)
    (r : Register)
    → Lists (walk tables levels level above base ns) name r → Names tables ns above base name r
unfolding walk
listed-named tables zero level above base ns name r h = absurd h
listed-named tables (suc levels) level above base ns name r h =
    listed-siblings tables (walk tables levels (level + 1)) level name r
    (λ called address ms. listed-named tables levels (level + 1) called address ms name r) above base [] ns h

-- what is listed, or deep, at one index is so among them
abbrev Has : List Visit → Name → Register → ℕ → Type 0
Has vs name r k = Lists vs name r ⊎ HasLevel vs k

has-left : (xs ys : List Visit) (name : Name) (r : Register) (k : ℕ) → Has xs name r k → Has (xs ++ ys) name r k
has-left xs ys name r k (inl h) = inl (listed-left xs ys name r h)
has-left xs ys name r k (inr h) = inr (level-left xs ys k h)

has-right : (xs ys : List Visit) (name : Name) (r : Register) (k : ℕ) → Has ys name r k → Has (xs ++ ys) name r k
has-right xs ys name r k (inl h) = inl (listed-right xs ys name r h)
has-right xs ys name r k (inr h) = inr (level-right xs ys k h)

has-later : (v : Visit) (vs : List Visit) (name : Name) (r : Register) (k : ℕ) → Has vs name r k → Has (v ∷ vs) name r k
has-later v vs name r k (inl h) = inl (inr h)
has-later v vs name r k (inr h) = inr (inr h)

module _ (tables : TableMap) (below : Below) (level : ℕ) (above : Name) (base : ℕ) (earlier : List Node) (n : Node)
  where
    abbrev from_index : ℕ → ℕ → List Visit
    from_index i left = indexes below tables level above base earlier n i left

    -- the visit of an index stands among those from an earlier one on
    index-listed : (i left j k : ℕ) → i + j ≡ k → j < left
        → Lists (from_index i left) (name_at above n k) (register_at base n k)
    unfolding indexes
    index-listed i zero j k sum h = absurd (omega arith)
    index-listed i (suc left) zero k sum h =
        let same : i ≡ k = omega arith in
        subst (λ x. Lists (from_index i (suc left)) (name_at above n x) (register_at base n x)) same (inl (refl, refl))
    index-listed i (suc left) (suc j) k sum h =
        inr (listed-right (below (name_at above n i) (address_at base n i) (children_of tables n))
        (from_index (i + 1) left) (name_at above n k) (register_at base n k)
        (index-listed (i + 1) left j k (omega arith) (omega arith)))

    index-level : (i left : ℕ) → 0 < left → HasLevel (from_index i left) level
    unfolding indexes
    index-level i zero h = absurd (omega arith)
    index-level i (suc left) h = inl refl

    -- and what is below it
    index-below : (i left j k : ℕ) (name : Name) (r : Register) (deep : ℕ) → i + j ≡ k → j < left
        → Has (below (name_at above n k) (address_at base n k) (children_of tables n)) name r deep
        → Has (from_index i left) name r deep
    unfolding indexes
    index-below i zero j k name r deep sum h has = absurd (omega arith)
    index-below i (suc left) zero k name r deep sum h has =
        let same : k ≡ i = omega arith in
        let here : Has (below (name_at above n i) (address_at base n i) (children_of tables n)) name r deep =
        subst (λ x. Has (below (name_at above n x) (address_at base n x) (children_of tables n)) name r deep) same has in
        has-later (visit_of level above base earlier n i) _ name r deep
        (has-left (below (name_at above n i) (address_at base n i) (children_of tables n)) (from_index (i + 1) left) name r
        deep here)
    index-below i (suc left) (suc j) k name r deep sum h has =
        has-later (visit_of level above base earlier n i) _ name r deep
        (has-right (below (name_at above n i) (address_at base n i) (children_of tables n)) (from_index (i + 1) left) name r
        deep (index-below (i + 1) left j k name r deep (omega arith) (omega arith) has))

-- what is named is listed, or the walk comes to its last level
named-siblings : (tables : TableMap) (levels level : ℕ) (above : Name) (base : ℕ) (earlier ns : List Node) (name : Name)
    (r : Register)
    → Names tables ns above base name r
    → Has (siblings (walk tables levels (level + 1)) tables level above base earlier ns) name r (level + levels)
unfolding walk siblings
named-siblings tables levels level above base earlier ms name r (itself n ns above' base' i within) =
    inl (listed-left (indexes (walk tables levels (level + 1)) tables level above base earlier n 0 (last_index n + 1)) _
    name r
    (index-listed tables (walk tables levels (level + 1)) level above base earlier n 0 (last_index n + 1) i i
    (omega arith) (omega arith)))
named-siblings tables levels level above base earlier ms name r (later n ns above' base' name' r' named) =
    has-right (indexes (walk tables levels (level + 1)) tables level above base earlier n 0 (last_index n + 1)) _ name r
    (level + levels) (named-siblings tables levels level above base (earlier ++ n ∷ []) ns name r named)
named-siblings tables zero level above base earlier ms name r (child n ns above' base' i name' r' within named) =
    let deep : level ≡ level + zero = omega arith in
    inr (level-left (indexes (walk tables zero (level + 1)) tables level above base earlier n 0 (last_index n + 1)) _
    (level + zero)
    (subst (HasLevel (indexes (walk tables zero (level + 1)) tables level above base earlier n 0 (last_index n + 1)))
    deep
    (index-level tables (walk tables zero (level + 1)) level above base earlier n 0 (last_index n + 1) (omega arith))))
named-siblings tables (suc levels) level above base earlier ms name r (child n ns above' base' i name' r' within named) =
    let deeper = named-siblings tables levels (level + 1) (name_at above n i) (address_at base n i) []
    (children_of tables n) name r named in
    let same : level + 1 + levels ≡ level + suc levels = omega arith in
    has-left (indexes (walk tables (suc levels) (level + 1)) tables level above base earlier n 0 (last_index n + 1)) _
    name r (level + suc levels)
    (index-below tables (walk tables (suc levels) (level + 1)) level above base earlier n 0 (last_index n + 1) i i name r
    (level + suc levels) (omega arith) (omega arith)
    (subst (Has (siblings (walk tables levels (level + 1 + 1)) tables (level + 1) (name_at above n i)
    (address_at base n i) [] (children_of tables n)) name r) same deeper))

pub named-listed : (tables : TableMap) (levels level : ℕ) (above : Name) (base : ℕ) (ns : List Node) (name : Name)
    (r : Register)
    → Names tables ns above base name r
    → Lists (walk tables (suc levels) level above base ns) name r
    ⊎ HasLevel (walk tables (suc levels) level above base ns) (level + levels)
unfolding walk
named-listed tables levels level above base ns name r named =
    named-siblings tables levels level above base [] ns name r named
