-- A name is there already exactly where an earlier sibling has the node's id, since ids have no dot and no bracket,
-- and the indexes of a node differ.
use Rattle.std.proofs.Common.{◌≡◌, ◌⊎◌, inl, inr, ℕ, zero, suc, ◌+◌, ◌<◌, ◌≤◌, ◌^◌, ◌==◌, nat_lt, nat_le, List, []}
use Rattle.std.proofs.Common.{◌∷◌, ◌++◌, length, Bool, true, false, not, ◌||◌, ◌&&◌, Option, Some, None}
use Rattle.std.proofs.Common.{bytes_eq, codes, refl, ap, sym, ◌∙◌, subst, append_assoc, arith}
use Rattle.std.proofs.lemmas.Bool.{false≢true, or_left, or_right}
use Rattle.std.proofs.lemmas.Bool.Decides.{nat_tests}
use Rattle.std.proofs.lemmas.Fmt.{decimal_digit}
use Rattle.std.proofs.lemmas.List.{append-nil, append_cancel_left}
use Rattle.std.proofs.lemmas.Slice.Eq.{bytes_eq-Decides}
use Rattle.std.specs.List.{AllByRecursion}
use Rattle.std.specs.Option.{option_or}
use Rattle.address_table.specs.Rules.{first_broken}
use Rattle.address_table.specs.Limits.{most_indexes}
use Rattle.address_table.specs.Valid.{AreValid}
use Rattle.address_table.specs.declared.nodes.Node.{Node, out-Node}
use Rattle.node_tree.specs.declared.refusal.CompileWhy.{CompileWhy}
use Rattle.node_tree.specs.Limits.{most_nodes, most_ids}
use Rattle.node_tree.specs.declared.refusal.CompileWhy.TheVariants.{TooMany, TooDeep, Duplicate, AddressPastEnd}
use Rattle.node_tree.specs.Maps.{Name, TableMap, nodes_of, AreValidTables}
use Rattle.node_tree.specs.Names.{dot, children_of, name_below, last_index, index_text, plain_name, name_at, address_at}
use Rattle.node_tree.specs.Walk.{Visit, Below, twin_text, visit_of, has_id, indexes, siblings, walk, root_walk}
use Rattle.node_tree.specs.Walk.{visit_rules, first_fault, fault_or}
use Rattle.node_tree.specs.Walk.{last_address}
use Rattle.node_tree.specs.Repeats.{HasId}
use Rattle.node_tree.proofs.NodeLemmas.{parts, named_nodes, children_if}
use Rattle.node_tree.proofs.Faults.{is_named_by, named_rules, first_named}
use Rattle.node_tree.proofs.RepeatNames.{BeginsIn, Plain, Stops, Under, UnderIndex, all-append, all-map, all-pushed, indexes-under}
use Rattle.node_tree.proofs.RepeatNames.{begins-id, begins-last, begins-push, below-prefix, below_index}
use Rattle.node_tree.proofs.RepeatNames.{few_indexes, from_named, id_at, index-apart, index-stops, index_name}
use Rattle.node_tree.proofs.RepeatNames.{name-below, named-pushed, node-plain, or-cases, prefix, pushed, twin-apart}
use Rattle.node_tree.proofs.RepeatNames.{walk-under}

new_rule : (a b c d : Bool)
    → first_broken ((TooMany, a) ∷ (TooDeep, b) ∷ (Duplicate, c) ∷ (AddressPastEnd, d) ∷ []) ≡ None → c ≡ true
new_rule true true true d h = refl
new_rule true true false d h = let bad : ⊥ = cc in absurd bad
new_rule true false c d h = let bad : ⊥ = cc in absurd bad
new_rule false b c d h = let bad : ⊥ = cc in absurd bad

not_both : (b : Bool) → b ≡ true → not b ≡ true → ⊥
not_both true h k = false≢true k
not_both false h k = false≢true h

-- a name below that of a list begins with the id of a node of it that the walk came to
abbrev Known : Name → List Node → Visit → Type 0
Known above done u = (tail : Name) → u.name ≡ prefix above ++ tail → BeginsIn done tail

-- the same, or it goes on from an index of a node before this one
abbrev OwnBefore : Node → ℕ → Name → Type 0
OwnBefore n i tail = (j : ℕ) × (j < i) × (rest : Name) × Stops rest × (tail ≡ id_at n j ++ rest)

abbrev KnownAt : Name → List Node → Node → ℕ → Visit → Type 0
KnownAt above done n i u = (tail : Name) → u.name ≡ prefix above ++ tail → BeginsIn done tail ⊎ OwnBefore n i tail

-- the walk came to a node
abbrev Seen : Name → List Visit → Node → Type 0
Seen above before m = is_named_by (name_at above m 0) before ≡ true

seen-id : (above id : Name) (done : List Node) (before : List Visit) → HasId id done
    → AllByRecursion (Seen above before) done
    → (count : Option ℕ) × (is_named_by (name_below above id ++ index_text count 0) before ≡ true)
seen-id above id [] before h seen = absurd h
seen-id above id (m ∷ ms) before (inl same) seen = (
  (out-Node m).count,
  subst (λ i. is_named_by (name_below above i ++ index_text (out-Node m).count 0) before ≡ true) same seen.0,
)
seen-id above id (m ∷ ms) before (inr h) seen = seen-id above id ms before h seen.1

first_text : (count : ℕ) → index_text (Some count) 0 ≡ codes "[0]"
first_text count = ap (λ digits. codes "[" ++ (digits ++ codes "]")) (decimal_digit 0 (omega arith))

-- the first name of an id, with a count or without one, is a node's own or its twin's
own_or_twin : (own other : Option ℕ) (plain : Name) (before : List Visit)
    → is_named_by (plain ++ index_text other 0) before ≡ true
    → (is_named_by (plain ++ index_text own 0) before || is_named_by (plain ++ twin_text own) before) ≡ true
own_or_twin None None plain before h = or_left _ _ h
own_or_twin None (Some c) plain before h =
    or_right (is_named_by (plain ++ index_text None 0) before) _
    (subst (λ text. is_named_by (plain ++ text) before ≡ true) (first_text c) h)
own_or_twin (Some c) None plain before h = or_right (is_named_by (plain ++ index_text (Some c) 0) before) _ h
own_or_twin (Some c) (Some d) plain before h = or_left _ _ h

not_itself : (id tail : Name) → id ≡ id ++ dot ∷ tail → ⊥
not_itself id tail h = let none : [] ≡ dot ∷ tail = append_cancel_left id [] (dot ∷ tail) (append-nil id ∙ h) in cc

-- both tell the same fault of some nodes, after those that the walk came to before
abbrev SameFault : List Visit → List Visit → Type 0
SameFault before vs = first_named before vs ≡ first_fault (length before) vs

same_bool : (a b : Bool) → (a ≡ true → b ≡ true) → (b ≡ true → a ≡ true) → a ≡ b
same_bool true true f g = refl
same_bool true false f g = sym (f refl)
same_bool false true f g = g refl
same_bool false false f g = refl

fault_or-same : (v : Visit) (o : Option CompileWhy) (a b : Option (Name × CompileWhy)) → (o ≡ None → a ≡ b)
    → fault_or v o a ≡ fault_or v o b
fault_or-same v None a b h = h refl
fault_or-same v (Some why) a b h = refl

same-node : (before : List Visit) (v : Visit) (vs : List Visit)
    → (is_named_by v.name before || is_named_by v.twin before) ≡ v.repeated
    → (first_broken (named_rules before v) ≡ None → SameFault (v ∷ before) vs) → SameFault before (v ∷ vs)
same-node before v vs here after =
    let one : length (v ∷ before) ≡ length before + 1 = omega arith in
    fault_or-same v (first_broken (named_rules before v)) (first_named (v ∷ before) vs)
    (first_fault (length before + 1) vs) (λ kept. after kept ∙ ap (λ k. first_fault k vs) one)
    ∙ ap (λ b. fault_or v
    (first_broken ((TooMany, nat_lt (length before) most_nodes) ∷ (TooDeep, nat_le v.level most_ids)
    ∷ (Duplicate, not b) ∷ (AddressPastEnd, nat_lt (last_address v.register) (2 ^ 32)) ∷ []))
    (first_fault (length before + 1) vs)) here

fault_or-or : (v : Visit) (o : Option CompileWhy) (a b : Option (Name × CompileWhy))
    → fault_or v o (option_or a b) ≡ option_or (fault_or v o a) b
fault_or-or v None a b = refl
fault_or-or v (Some why) a b = refl

first_named-append : (xs ys before : List Visit)
    → first_named before (xs ++ ys) ≡ option_or (first_named before xs) (first_named (pushed xs before) ys)
first_named-append [] ys before = refl
first_named-append (v ∷ xs) ys before =
    ap (fault_or v (first_broken (named_rules before v))) (first_named-append xs ys (v ∷ before))
    ∙ fault_or-or v (first_broken (named_rules before v)) (first_named (v ∷ before) xs)
    (first_named (pushed xs (v ∷ before)) ys)

-- the first fault of nodes one after another
pub first_fault-append : (xs ys : List Visit) (count : ℕ)
    → first_fault count (xs ++ ys) ≡ option_or (first_fault count xs) (first_fault (count + length xs) ys)
first_fault-append [] ys count = let same : count ≡ count + 0 = omega arith in ap (λ k. first_fault k ys) same
first_fault-append (v ∷ xs) ys count =
    let same : count + 1 + length xs ≡ count + length (v ∷ xs) = omega arith in
    ap (fault_or v (first_broken (visit_rules count v))) (first_fault-append xs ys (count + 1))
    ∙ fault_or-or v (first_broken (visit_rules count v)) (first_fault (count + 1) xs)
    (first_fault (count + 1 + length xs) ys)
    ∙ ap (λ k. option_or (first_fault count (v ∷ xs)) (first_fault k ys)) same

length-pushed : (xs before : List Visit) → length (pushed xs before) ≡ length before + length xs
length-pushed [] before = omega arith
length-pushed (v ∷ xs) before = let rest = length-pushed xs (v ∷ before) in omega arith

same-append : (xs ys before : List Visit) → SameFault before xs → SameFault (pushed xs before) ys
    → SameFault before (xs ++ ys)
same-append xs ys before a b =
    first_named-append xs ys before
    ∙ ap (λ o. option_or o (first_named (pushed xs before) ys)) a
    ∙ ap (option_or (first_fault (length before) xs)) (b ∙ ap (λ k. first_fault k ys) (length-pushed xs before))
    ∙ sym (first_fault-append xs ys (length before))

pub id-true : (id : Name) (ns : List Node) → HasId id ns → has_id id ns ≡ true
id-true id [] h = absurd h
id-true id (n ∷ ns) (inl same) =
    or_left (bytes_eq (out-Node n).id id) (has_id id ns) ((bytes_eq-Decides (out-Node n).id id).1 same)
id-true id (n ∷ ns) (inr later) = or_right (bytes_eq (out-Node n).id id) (has_id id ns) (id-true id ns later)

pub true-id : (id : Name) (ns : List Node) → has_id id ns ≡ true → HasId id ns
true-id id [] h = absurd (false≢true h)
true-id id (n ∷ ns) h =
    elim (or-cases (bytes_eq (out-Node n).id id) (has_id id ns) h)
    [ inl here ↦ inl ((bytes_eq-Decides (out-Node n).id id).0 here) | inr later ↦ inr (true-id id ns later) ]

not_named : (b : Bool) → (b ≡ true → ⊥) → b ≡ false
not_named true h = absurd (h refl)
not_named false h = refl

twin-stops : (count : Option ℕ) → Stops (twin_text count)
twin-stops None = inr refl
twin-stops (Some count) = tt

not_first : (i : ℕ) → (suc i == 0) ≡ false
not_first i = grind (arith, nat_tests)

-- a node of a list of which the walk came to the earlier ones
module _ (above : Name) (done : List Node) (n : Node) (plain : Plain (out-Node n).id)
    (few : last_index n ≤ most_indexes) where
  -- a name that goes on from the node's id
  named-id : (text : Name) (before : List Visit) → Stops text → AllByRecursion (Known above done) before
      → is_named_by (plain_name above n ++ text) before ≡ true → HasId (out-Node n).id done
  named-id text before stops known named =
      let id = (out-Node n).id in
      from_named (HasId id done) (plain_name above n ++ text) before named
      (all-map (Known above done) (λ u. plain_name above n ++ text ≡ u.name → HasId id done) before
      (λ u known_u same. begins-id id text (id ++ text) done plain.1 stops refl
      (known_u (id ++ text) (sym same ∙ name-below above id text ∙ below-prefix above (id ++ text)))) known)

  -- at the first index
  taken-first : (before : List Visit) → AllByRecursion (Known above done) before
      → AllByRecursion (Seen above before) done
      → (is_named_by (name_at above n 0) before
      || is_named_by (plain_name above n ++ twin_text (out-Node n).count) before)
      ≡ has_id (out-Node n).id done
  taken-first before known seen =
      let id = (out-Node n).id in
      let count = (out-Node n).count in
      let own = is_named_by (name_at above n 0) before in
      let twin = is_named_by (plain_name above n ++ twin_text count) before in
      same_bool (own || twin) (has_id id done)
      (λ taken. id-true id done
      (elim (or-cases own twin taken) [
        | inl here ↦ named-id (index_text count 0) before
            (subst Stops (append-nil (index_text count 0)) (index-stops count 0 [] tt)) known here
        | inr there ↦ named-id (twin_text count) before (twin-stops count) known there
      ]))
      (λ earlier.
      let found = seen-id above id done before (true-id id done earlier) seen in
      own_or_twin count found.0 (plain_name above n) before found.1)

  -- a name that goes on from the id is not there at a later index
  not-taken : (i : ℕ) (text : Name) (before : List Visit) → Stops text → (HasId (out-Node n).id done → ⊥)
      → ((j : ℕ) (more : Name) → j < i → text ≡ index_text (out-Node n).count j ++ more → ⊥)
      → AllByRecursion (KnownAt above done n i) before → is_named_by (plain_name above n ++ text) before ≡ false
  not-taken i text before stops fresh apart known =
      let id = (out-Node n).id in
      not_named (is_named_by (plain_name above n ++ text) before)
      (λ named. from_named ⊥ (plain_name above n ++ text) before named
      (all-map (KnownAt above done n i) (λ u. plain_name above n ++ text ≡ u.name → ⊥) before
      (λ u known_u same.
      elim (known_u (id ++ text) (sym same ∙ name-below above id text ∙ below-prefix above (id ++ text))) [
        | inl earlier ↦ fresh (begins-id id text (id ++ text) done plain.1 stops refl earlier)
        | inr own ↦ apart own.0 own.2 own.1
            (append_cancel_left id text (index_text (out-Node n).count own.0 ++ own.2)
            (own.4 ∙ append_assoc id (index_text (out-Node n).count own.0) own.2))
      ]) known))

  taken-later : (i : ℕ) (before : List Visit) → i ≤ last_index n → (HasId (out-Node n).id done → ⊥)
      → AllByRecursion (KnownAt above done n i) before
      → (is_named_by (name_at above n i) before
      || is_named_by (plain_name above n ++ twin_text (out-Node n).count) before)
      ≡ false
  taken-later i before last fresh known =
      let count = (out-Node n).count in
      rw (
        not-taken i (index_text count i) before
            (subst Stops (append-nil (index_text count i)) (index-stops count i [] tt)) fresh
            (λ j more lower same. index-apart count i j [] more lower last (omega arith)
            (append-nil (index_text count i) ∙ same)) known,
        not-taken i (twin_text count) before (twin-stops count) fresh
            (λ j more lower same. twin-apart count i j more lower last same) known,
      ) refl

  -- nothing that the walk came to is below an index that it comes to for the first time
  known-below : (i : ℕ) (before : List Visit) (v : Visit) → v.name ≡ name_at above n i → i ≤ last_index n
      → (HasId (out-Node n).id done → ⊥)
      → AllByRecursion (KnownAt above done n i) before
      → AllByRecursion (Known (name_at above n i) []) (v ∷ before)
  known-below i before v is last fresh known =
      let id = (out-Node n).id in
      let text = index_text (out-Node n).count i in (
        λ tail h. not_itself (id_at n i) tail
            (append_cancel_left (prefix above) (id_at n i) (id_at n i ++ dot ∷ tail)
            (sym (index_name above n i) ∙ sym is ∙ below_index above n i tail v.name plain.0 h)),
        all-map (KnownAt above done n i) (Known (name_at above n i) []) before
            (λ u known_u tail h.
            elim (known_u (id_at n i ++ dot ∷ tail) (below_index above n i tail u.name plain.0 h)) [
              | inl earlier ↦ fresh
                  (begins-id id (text ++ dot ∷ tail) (id_at n i ++ dot ∷ tail) done plain.1
                  (index-stops (out-Node n).count i (dot ∷ tail) (inl refl)) (append_assoc id text (dot ∷ tail))
                  earlier)
              | inr own ↦ index-apart (out-Node n).count i own.0 (dot ∷ tail) own.2 own.1 last (omega arith)
                  (append_cancel_left id (text ++ dot ∷ tail) (index_text (out-Node n).count own.0 ++ own.2)
                  (sym (append_assoc id text (dot ∷ tail)) ∙ own.4
                  ∙ append_assoc id (index_text (out-Node n).count own.0) own.2))
            ]) known,
      )

  -- after an index and what is below it
  known-index : (i : ℕ) (before inner : List Visit) (v : Visit) → v.name ≡ name_at above n i
      → AllByRecursion (KnownAt above done n i) before
      → AllByRecursion (Under (name_at above n i)) inner
      → AllByRecursion (KnownAt above done n (i + 1)) (pushed inner (v ∷ before))
  known-index i before inner v is known under =
      all-pushed (KnownAt above done n (i + 1)) inner (v ∷ before)
      (all-map (Under (name_at above n i)) (KnownAt above done n (i + 1)) inner
      (λ u under_u tail h. inr (
        i,
        omega arith,
        dot ∷ under_u.0,
        inl refl,
        append_cancel_left (prefix above) tail (id_at n i ++ dot ∷ under_u.0)
            (sym h ∙ below_index above n i under_u.0 u.name plain.0 under_u.1),
      )) under) (
        λ tail h. inr (
          i,
          omega arith,
          [],
          tt,
          append_cancel_left (prefix above) tail (id_at n i ++ [])
              (sym h ∙ is ∙ index_name above n i ∙ ap (λ x. prefix above ++ x) (sym (append-nil (id_at n i)))),
        ),
        all-map (KnownAt above done n i) (KnownAt above done n (i + 1)) before
            (λ u known_u tail h.
            elim (known_u tail h) [
              | inl earlier ↦ inl earlier
              | inr own ↦ inr (own.0, (let low = own.1 in omega arith), own.2, own.3, own.4)
            ]) known,
      )

  -- after all indexes of the node
  known-after : (count : ℕ) (before each : List Visit) → AllByRecursion (Known above done) before
      → AllByRecursion (UnderIndex above n count) each
      → AllByRecursion (Known above (done ++ n ∷ [])) (pushed each before)
  known-after count before each known under =
      all-pushed (Known above (done ++ n ∷ [])) each before
      (all-map (UnderIndex above n count) (Known above (done ++ n ∷ [])) each
      (λ u own tail h.
      let text = index_text (out-Node n).count own.0 in
      begins-last done n tail (text ++ own.2) plain.1 (index-stops (out-Node n).count own.0 own.2 own.3)
      (append_cancel_left (prefix above) tail (id_at n own.0 ++ own.2) (sym h ∙ own.4)
      ∙ append_assoc (out-Node n).id text own.2)) under)
      (all-map (Known above done) (Known above (done ++ n ∷ [])) before
      (λ u known_u tail h. begins-push done n tail (known_u tail h)) known)

  seen-after : (before inner : List Visit) (v : Visit) → v.name ≡ name_at above n 0
      → AllByRecursion (Seen above before) done
      → AllByRecursion (Seen above (pushed inner (v ∷ before))) (done ++ n ∷ [])
  seen-after before inner v is seen =
      all-append (Seen above (pushed inner (v ∷ before))) done (n ∷ [])
      (all-map (Seen above before) (Seen above (pushed inner (v ∷ before))) done
      (λ m seen_m. named-pushed (name_at above m 0) inner (v ∷ before)
      (or_right (bytes_eq (name_at above m 0) v.name) (is_named_by (name_at above m 0) before) seen_m)) seen) (
        named-pushed (name_at above n 0) inner (v ∷ before)
            (or_left (bytes_eq (name_at above n 0) v.name) (is_named_by (name_at above n 0) before)
            (subst (λ name. bytes_eq (name_at above n 0) name ≡ true) (sym is)
            ((bytes_eq-Decides (name_at above n 0) (name_at above n 0)).1 refl))),
        tt,
      )

module _ (tables : TableMap) (deeper : Below)
    (under : (called : Name) (address : ℕ) (ms : List Node) → AllByRecursion (Under called) (deeper called address ms))
    (inner_case : (called : Name) (address : ℕ) (ms : List Node) (before : List Visit) → AreValid ms
    → AllByRecursion (Known called []) before → SameFault before (deeper called address ms))
    (level : ℕ) (above : Name) (base : ℕ) where
  -- the indexes of a node from one on
  module _ (done : List Node) (n : Node) (plain : Plain (out-Node n).id) (few : last_index n ≤ most_indexes)
      (children : AreValid (children_of tables n)) where
    -- what is known at the first index, and at a later one
    abbrev IsFresh : ℕ → List Visit → Type 0
    IsFresh zero before = AllByRecursion (Known above done) before × AllByRecursion (Seen above before) done
    IsFresh (suc i) before = HasId (out-Node n).id done → ⊥

    taken-at : (i : ℕ) (before : List Visit) → i ≤ last_index n → IsFresh i before
        → AllByRecursion (KnownAt above done n i) before
        → (is_named_by (name_at above n i) before
        || is_named_by (plain_name above n ++ twin_text (out-Node n).count) before)
        ≡ ((i == 0) && has_id (out-Node n).id done)
    taken-at zero before last fresh known = taken-first above done n plain few before fresh.0 fresh.1
    taken-at (suc i) before last fresh known =
        taken-later above done n plain few (suc i) before last fresh known
        ∙ ap (λ first. first && has_id (out-Node n).id done) (sym (not_first i))

    -- past an index no earlier sibling has the id
    fresh-past : (i : ℕ) (before : List Visit) → IsFresh i before
        → not ((i == 0) && has_id (out-Node n).id done) ≡ true → HasId (out-Node n).id done → ⊥
    fresh-past zero before fresh new h = not_both (has_id (out-Node n).id done) (id-true (out-Node n).id done h) new
    fresh-past (suc i) before fresh new h = fresh h

    fresh-next : (i : ℕ) (before : List Visit) → (HasId (out-Node n).id done → ⊥) → IsFresh (i + 1) before
    fresh-next i before none = let one : i + 1 ≡ suc i = omega arith in rw one none

    same-indexes : (i left : ℕ) (before : List Visit) → i + left ≤ last_index n + 1 → IsFresh i before
        → AllByRecursion (KnownAt above done n i) before
        → SameFault before (indexes deeper tables level above base done n i left)
    unfolding indexes
    same-indexes i zero before within fresh known = refl
    same-indexes i (suc left) before within fresh known =
        let v = visit_of level above base done n i in
        let inner = deeper (name_at above n i) (address_at base n i) (children_of tables n) in
        let rest = indexes deeper tables level above base done n (i + 1) left in
        let taken = taken-at i before (omega arith) fresh known in
        same-node before v (inner ++ rest) taken
        (λ kept.
        let new : not ((i == 0) && has_id (out-Node n).id done) ≡ true = ap not (sym taken) ∙ new_rule _ _ _ _ kept in
        let none : HasId (out-Node n).id done → ⊥ = fresh-past i before fresh new in
        same-append inner rest (v ∷ before)
        (inner_case (name_at above n i) (address_at base n i) (children_of tables n) (v ∷ before) children
        (known-below above done n plain few i before v refl (omega arith) none known))
        (same-indexes (i + 1) left (pushed inner (v ∷ before)) (omega arith)
        (fresh-next i (pushed inner (v ∷ before)) none)
        (known-index above done n plain few i before inner v refl known (under _ _ _))))

  -- the first of the indexes is that at 0
  indexes-first : (done : List Node) (n : Node)
      → indexes deeper tables level above base done n 0 (last_index n + 1)
      ≡ visit_of level above base done n 0
      ∷ (deeper (name_at above n 0) (address_at base n 0) (children_of tables n)
      ++ indexes deeper tables level above base done n (0 + 1) (last_index n))
  unfolding indexes
  indexes-first done n = let one : last_index n + 1 ≡ suc (last_index n) = omega arith in rw one refl

  same-in : AreValidTables tables → (ns done : List Node) (before : List Visit) → AreValid ns
      → AllByRecursion (Known above done) before → AllByRecursion (Seen above before) done
      → SameFault before (siblings deeper tables level above base done ns)
  unfolding siblings
  same-in valid [] done before are known seen = refl
  same-in valid (n ∷ ns) done before are known seen =
      let (here, below, others) = parts (n ∷ ns) are in
      let plain = node-plain n here in
      let few = few_indexes (out-Node n).count here.indexes.few_indexes in
      let children_are = children_if tables valid (out-Node n).«module» (out-Node n).nodes.items below in
      let each = indexes deeper tables level above base done n 0 (last_index n + 1) in
      same-append each (siblings deeper tables level above base (done ++ n ∷ []) ns) before
      (same-indexes done n plain few children_are 0 (last_index n + 1) before (omega arith) (known, seen)
      (all-map (Known above done) (KnownAt above done n 0) before (λ u known_u tail h. inl (known_u tail h)) known))
      (same-in valid ns (done ++ n ∷ []) (pushed each before) others
      (known-after above done n plain few (last_index n + 1) before each known
      (indexes-under tables deeper level above base under done n 0 (last_index n + 1) (last_index n + 1) plain.0
      (omega arith)))
      (subst (λ vs. AllByRecursion (Seen above (pushed vs before)) (done ++ n ∷ [])) (sym (indexes-first done n))
      (seen-after above done n plain few before
      (deeper (name_at above n 0) (address_at base n 0) (children_of tables n)
      ++ indexes deeper tables level above base done n (0 + 1) (last_index n))
      (visit_of level above base done n 0) refl seen)))

module _ (tables : TableMap) where
  same-walk : AreValidTables tables
      → (levels level : ℕ) (above : Name) (base : ℕ) (ns : List Node) (before : List Visit) → AreValid ns
      → AllByRecursion (Known above []) before → SameFault before (walk tables levels level above base ns)
  unfolding walk
  same-walk valid zero level above base ns before are known = refl
  same-walk valid (suc levels) level above base ns before are known =
      same-in tables (walk tables levels (level + 1))
      (λ called address ms. walk-under tables levels (level + 1) called address ms)
      (λ called address ms seen_before are_ms known_ms. same-walk valid levels
      (level + 1) called address ms seen_before are_ms known_ms)
      level above base valid ns [] before are known tt

-- the first fault by names is the first fault
pub same-root : (tables : TableMap) (root : Name) → AreValidTables tables
    → first_named [] (root_walk tables root) ≡ first_fault 0 (root_walk tables root)
same-root tables root valid =
    same-walk tables valid (most_ids + 1) 1 [] 0 (nodes_of tables root) [] (named_nodes tables valid root) tt
