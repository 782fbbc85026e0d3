-- The names that a walk finds: ids have no dot and no bracket, so a name tells its node and its index, and what lies
-- below it.
use Rattle.std.proofs.Common.{◌≡◌, ◌⊎◌, inl, inr, ℕ, zero, suc, ◌+◌, ◌-◌, ◌<◌, ◌≤◌, ◌^◌, List, []}
use Rattle.std.proofs.Common.{◌∷◌, ◌++◌, length, drop, Bool, true, false, ◌||◌, Option, Some, None, IfSome}
use Rattle.std.proofs.Common.{bytes_eq, codes, refl, ap, sym, ◌∙◌, subst, append_assoc, arith}
use Rattle.std.specs.Fmt.{decimal}
use Rattle.std.proofs.lemmas.Bool.{false≢true, and_parts, or_right}
use Rattle.std.proofs.lemmas.List.{append-nil}
use Rattle.std.proofs.lemmas.Slice.Eq.{bytes_eq-Decides}
use Rattle.std.specs.List.{AllByRecursion, list_all}
use Rattle.std.specs.Option.{option_map_or}
use Rattle.ipb_base.specs.Digits.{is_between}
use Rattle.address_table.specs.Rules.{is_id, is_id_byte}
use Rattle.address_table.specs.Limits.{longest_id, most_indexes}
use Rattle.address_table.specs.Valid.{IsValidNode}
use Rattle.address_table.specs.declared.nodes.Node.{Node, out-Node}
use Rattle.node_tree.specs.Maps.{Name, TableMap}
use Rattle.node_tree.specs.Names.{dot, children_of, name_below, last_index, index_text, name_at, address_at}
use Rattle.node_tree.specs.Walk.{Visit, Below, twin_text, indexes, siblings, walk}
use Rattle.node_tree.specs.Repeats.{HasId}
use Rattle.node_tree.proofs.Faults.{is_named_by}
use Rattle.node_tree.proofs.IndexTexts.{decimal_front, closed}

-- the byte before an index
abbrev pub bracket : ℕ
bracket = 91

-- what may stand behind an id: a dot or a bracket
abbrev pub EndsId : ℕ → Type 0
EndsId byte = (byte ≡ dot) ⊎ (byte ≡ bracket)

abbrev pub NoEnds : Name → Type 0
NoEnds id = AllByRecursion (λ byte. EndsId byte → ⊥) id

abbrev pub Plain : Name → Type 0
Plain id = (id ≡ [] → ⊥) × NoEnds id

pub byte_no_end : (byte : ℕ) → is_id_byte byte ≡ true → EndsId byte → ⊥
byte_no_end byte h (inl is) = false≢true (subst (λ b. is_id_byte b ≡ true) is h)
byte_no_end byte h (inr is) = false≢true (subst (λ b. is_id_byte b ≡ true) is h)

pub no_ends : (id : Name) → list_all is_id_byte id ≡ true → NoEnds id
no_ends [] h = tt
no_ends (byte ∷ id) h =
    let (here, rest) = and_parts (is_id_byte byte) (list_all is_id_byte id) h in
    (byte_no_end byte here, no_ends id rest)

pub id-plain : (id : Name) → is_id id ≡ true → Plain id
id-plain id h =
    let (some, bytes) = and_parts (is_between 1 longest_id (length id)) (list_all is_id_byte id) h in
    (λ none. false≢true (subst (λ x. is_between 1 longest_id (length x) ≡ true) none some), no_ends id bytes)

pub node-plain : (n : Node) → IsValidNode n → Plain (out-Node n).id
node-plain n valid = id-plain (out-Node n).id valid.named

-- what stands before the ids below a name: nothing at the top, and else the name and a dot
abbrev pub prefix : Name → Name
prefix [] = []
prefix (byte ∷ bytes) = (byte ∷ bytes) ++ dot ∷ []

pub below-prefix : (above id : Name) → name_below above id ≡ prefix above ++ id
below-prefix [] id = refl
below-prefix (byte ∷ bytes) id = sym (append_assoc (byte ∷ bytes) (dot ∷ []) id)

pub prefix-more : (byte : ℕ) (bytes id : Name)
    → prefix (name_below (byte ∷ bytes) id) ≡ prefix (byte ∷ bytes) ++ (id ++ dot ∷ [])
prefix-more byte bytes id =
    append_assoc (byte ∷ bytes) (dot ∷ id) (dot ∷ []) ∙ sym (append_assoc (byte ∷ bytes) (dot ∷ []) (id ++ dot ∷ []))

pub prefix-id : (id : Name) → (id ≡ [] → ⊥) → prefix id ≡ id ++ dot ∷ []
prefix-id [] some = absurd (some refl)
prefix-id (byte ∷ bytes) some = refl

pub prefix-below : (above id : Name) → (id ≡ [] → ⊥) → prefix (name_below above id) ≡ prefix above ++ (id ++ dot ∷ [])
prefix-below [] id some = prefix-id id some
prefix-below (byte ∷ bytes) id some = prefix-more byte bytes id

pub name_after : (above id t name p : Name) → p ≡ prefix above ++ (id ++ dot ∷ []) → name ≡ p ++ t
    → name ≡ prefix above ++ (id ++ dot ∷ t)
name_after above id t name p is h =
    h ∙ ap (λ x. x ++ t) is ∙ append_assoc (prefix above) (id ++ dot ∷ []) t
    ∙ ap (λ q. prefix above ++ q) (append_assoc id (dot ∷ []) t)

-- a name below a node's
pub deeper_name : (above id t name : Name) → (id ≡ [] → ⊥) → name ≡ prefix (name_below above id) ++ t
    → name ≡ prefix above ++ (id ++ dot ∷ t)
deeper_name above id t name some h =
    name_after above id t name (prefix (name_below above id)) (prefix-below above id some) h

pub under-below : (above id t name : Name) → name ≡ prefix (name_below above id) ++ t
    → (tail : Name) × (name ≡ prefix above ++ tail)
under-below [] id t name h = (name, refl)
under-below (byte ∷ bytes) id t name h = (
  id ++ dot ∷ t,
  name_after (byte ∷ bytes) id t name (prefix (name_below (byte ∷ bytes) id))
      (prefix-more byte bytes id) h,
)

-- after an id a name ends, or goes on with a dot or a bracket
abbrev pub Stops : Name → Type 0
Stops [] = Unit {0}
Stops (byte ∷ bytes) = EndsId byte

pub no_end : (x y : ℕ) → (EndsId x → ⊥) → x ≡ y → EndsId y → ⊥
no_end x y none same ends = none (subst EndsId (sym same) ends)

pub same_id : (a b r s : Name) → NoEnds a → NoEnds b → Stops r → Stops s → a ++ r ≡ b ++ s → a ≡ b
same_id [] [] r s da db sr ss h = refl
same_id [] (y ∷ b) [] s da db sr ss h = let bad : ⊥ = cc in absurd bad
same_id [] (y ∷ b) (x ∷ r) s da db sr ss h = let head : y ≡ x = cc in absurd (no_end y x db.0 head sr)
same_id (x ∷ a) [] r [] da db sr ss h = let bad : ⊥ = cc in absurd bad
same_id (x ∷ a) [] r (y ∷ s) da db sr ss h = let head : x ≡ y = cc in absurd (no_end x y da.0 head ss)
same_id (x ∷ a) (y ∷ b) r s da db sr ss h =
    let head : x ≡ y = cc in
    let tail : a ++ r ≡ b ++ s = cc in
    let rest : a ≡ b = same_id a b r s da.1 db.1 sr ss tail in
    cc

-- a name begins with the id of one of the nodes
abbrev pub BeginsIn : List Node → Name → Type 0
BeginsIn [] tail = ⊥
BeginsIn (m ∷ ms) tail =
    (NoEnds (out-Node m).id × (rest : Name) × Stops rest × (tail ≡ (out-Node m).id ++ rest)) ⊎ BeginsIn ms tail

pub begins-id : (id rest tail : Name) (done : List Node) → NoEnds id → Stops rest → tail ≡ id ++ rest → BeginsIn done tail
    → HasId id done
begins-id id rest tail [] ends stop is h = h
begins-id id rest tail (m ∷ ms) ends stop is (inl here) =
    let (plain, after, stops, same) = here in
    inl (same_id (out-Node m).id id after rest plain ends stops stop (sym same ∙ is))
begins-id id rest tail (m ∷ ms) ends stop is (inr later) = inr (begins-id id rest tail ms ends stop is later)

pub begins-push : (done : List Node) (n : Node) (tail : Name) → BeginsIn done tail → BeginsIn (done ++ n ∷ []) tail
begins-push [] n tail h = absurd h
begins-push (m ∷ ms) n tail (inl h) = inl h
begins-push (m ∷ ms) n tail (inr h) = inr (begins-push ms n tail h)

pub begins-last : (done : List Node) (n : Node) (tail rest : Name) → NoEnds (out-Node n).id → Stops rest
    → tail ≡ (out-Node n).id ++ rest → BeginsIn (done ++ n ∷ []) tail
begins-last [] n tail rest ends stop is = inl (ends, rest, stop, is)
begins-last (m ∷ ms) n tail rest ends stop is = inr (begins-last ms n tail rest ends stop is)

-- ---- indexes

-- an id with an index
abbrev pub id_at : Node → ℕ → Name
id_at n i = (out-Node n).id ++ index_text (out-Node n).count i

pub name-below : (above id text : Name) → name_below above id ++ text ≡ name_below above (id ++ text)
name-below [] id text = refl
name-below (byte ∷ bytes) id text = append_assoc (byte ∷ bytes) (dot ∷ id) text

pub some_id : (id text : Name) → (id ≡ [] → ⊥) → id ++ text ≡ [] → ⊥
some_id [] text some none = some refl
some_id (byte ∷ id) text some none = let bad : ⊥ = cc in bad

pub index-stops : (count : Option ℕ) (i : ℕ) (rest : Name) → Stops rest → Stops (index_text count i ++ rest)
index-stops None i rest stop = stop
index-stops (Some count) i rest stop = inr refl

-- two indexes of a node have names that neither begins with the other's
pub index-apart : (count : Option ℕ) (i j : ℕ) (rest more : Name) → j < i → i ≤ option_map_or (λ c. c - 1) count 0
    → i < 2 ^ 64
    → index_text count i ++ rest ≡ index_text count j ++ more → ⊥
index-apart None i j rest more before last small h = absurd (omega arith)
index-apart (Some count) i j rest more before last small h =
    let tails : (decimal i ++ codes "]") ++ rest ≡ (decimal j ++ codes "]") ++ more = ap (drop 1) h in
    let same : i ≡ j =
    decimal_front i j (codes "]" ++ rest) (codes "]" ++ more) small (omega arith) (closed rest) (closed more)
    (sym (append_assoc (decimal i) (codes "]") rest) ∙ tails ∙ append_assoc (decimal j) (codes "]") more) in
    absurd (omega arith)

-- nor does the id alone begin with an index
pub twin-apart : (count : Option ℕ) (i j : ℕ) (more : Name) → j < i → i ≤ option_map_or (λ c. c - 1) count 0
    → twin_text count ≡ index_text count j ++ more → ⊥
twin-apart None i j more before last h = absurd (omega arith)
twin-apart (Some count) i j more before last h = let bad : ⊥ = cc in bad

pub few_indexes : (count : Option ℕ) → IfSome count (λ c. c ≤ most_indexes)
    → option_map_or (λ c. c - 1) count 0 ≤ most_indexes
few_indexes None few = omega arith
few_indexes (Some count) few = omega arith

-- lists of which a fact holds
pub all-map : {X : Type 0} (F G : X → Type 0) (xs : List X) → ((x : X) → F x → G x) → AllByRecursion F xs
    → AllByRecursion G xs
all-map F G [] f all = tt
all-map F G (x ∷ xs) f all = (f x all.0, all-map F G xs f all.1)

pub all-append : {X : Type 0} (F : X → Type 0) (xs ys : List X) → AllByRecursion F xs → AllByRecursion F ys
    → AllByRecursion F (xs ++ ys)
all-append F [] ys a b = b
all-append F (x ∷ xs) ys a b = (a.0, all-append F xs ys a.1 b)

-- the nodes that the walk came to, the latest first
abbrev pub pushed : List Visit → List Visit → List Visit
pushed [] before = before
pushed (v ∷ vs) before = pushed vs (v ∷ before)

pub all-pushed : (F : Visit → Type 0) (vs before : List Visit) → AllByRecursion F vs → AllByRecursion F before
    → AllByRecursion F (pushed vs before)
all-pushed F [] before a b = b
all-pushed F (v ∷ vs) before a b = all-pushed F vs (v ∷ before) a.1 (a.0, b)

pub or-cases : (a b : Bool) → (a || b) ≡ true → (a ≡ true) ⊎ (b ≡ true)
or-cases true b h = inl refl
or-cases false b h = inr h

pub named-pushed : (name : Name) (vs before : List Visit) → is_named_by name before ≡ true
    → is_named_by name (pushed vs before) ≡ true
named-pushed name [] before h = h
named-pushed name (v ∷ vs) before h =
    named-pushed name vs (v ∷ before) (or_right (bytes_eq name v.name) (is_named_by name before) h)

pub from_named : (G : Type 0) (name : Name) (before : List Visit) → is_named_by name before ≡ true
    → AllByRecursion (λ u. name ≡ u.name → G) before → G
from_named G name [] h all = absurd (false≢true h)
from_named G name (u ∷ before) h all =
    elim (or-cases (bytes_eq name u.name) (is_named_by name before) h)
    [ inl here ↦ all.0 ((bytes_eq-Decides name u.name).0 here) | inr rest ↦ from_named G name before rest all.1 ]

-- each index of a walk has a name below that of its list
abbrev pub Under : Name → Visit → Type 0
Under above u = (tail : Name) × (u.name ≡ prefix above ++ tail)

-- a name goes on from an index of a node
abbrev pub UnderIndex : Name → Node → ℕ → Visit → Type 0
UnderIndex above n count u =
    (j : ℕ) × (j < count) × (rest : Name) × Stops rest × (u.name ≡ prefix above ++ (id_at n j ++ rest))

-- the name of an index, and names below it
pub index_name : (above : Name) (n : Node) (i : ℕ) → name_at above n i ≡ prefix above ++ id_at n i
index_name above n i =
    name-below above (out-Node n).id (index_text (out-Node n).count i) ∙ below-prefix above (id_at n i)

pub below_index : (above : Name) (n : Node) (i : ℕ) (t name : Name) → ((out-Node n).id ≡ [] → ⊥)
    → name ≡ prefix (name_at above n i) ++ t → name ≡ prefix above ++ (id_at n i ++ dot ∷ t)
below_index above n i t name some h =
    deeper_name above (id_at n i) t name (some_id (out-Node n).id _ some)
    (h ∙ ap (λ x. prefix x ++ t) (name-below above (out-Node n).id (index_text (out-Node n).count i)))

module _ (tables : TableMap) (deeper : Below) (level : ℕ) (above : Name) (base : ℕ)
    (each : (called : Name) (address : ℕ) (ms : List Node) → AllByRecursion (Under called) (deeper called address ms))
  where
    pub indexes-under : (earlier : List Node) (n : Node) (i left count : ℕ) → ((out-Node n).id ≡ [] → ⊥) → i + left ≤ count
        → AllByRecursion (UnderIndex above n count) (indexes deeper tables level above base earlier n i left)
    unfolding indexes
    indexes-under earlier n i zero count some few = tt
    indexes-under earlier n i (suc left) count some few = (
      (
        i,
        omega arith,
        [],
        tt,
        index_name above n i ∙ ap (λ x. prefix above ++ x) (sym (append-nil (id_at n i))),
      ),
      all-append (UnderIndex above n count) (deeper (name_at above n i) (address_at base n i) (children_of tables n))
          (indexes deeper tables level above base earlier n (i + 1) left)
          (all-map (Under (name_at above n i)) (UnderIndex above n count) _
          (λ u h. (i, omega arith, dot ∷ h.0, inl refl, below_index above n i h.0 u.name some h.1)) (each _ _ _))
          (indexes-under earlier n (i + 1) left count some (omega arith)),
    )

    -- the same of each index, whatever the id
    indexes-some : (earlier : List Node) (n : Node) (i left : ℕ)
        → AllByRecursion (Under above) (indexes deeper tables level above base earlier n i left)
    unfolding indexes
    indexes-some earlier n i zero = tt
    indexes-some earlier n i (suc left) = (
      (id_at n i, index_name above n i),
      all-append (Under above) (deeper (name_at above n i) (address_at base n i) (children_of tables n))
          (indexes deeper tables level above base earlier n (i + 1) left)
          (all-map (Under (name_at above n i)) (Under above) _
          (λ u h. under-below above (id_at n i) h.0 u.name
          (h.1 ∙ ap (λ x. prefix x ++ h.0) (name-below above (out-Node n).id (index_text (out-Node n).count i))))
          (each _ _ _))
          (indexes-some earlier n (i + 1) left),
    )

    siblings-under : (earlier ns : List Node)
        → AllByRecursion (Under above) (siblings deeper tables level above base earlier ns)
    unfolding siblings
    siblings-under earlier [] = tt
    siblings-under earlier (n ∷ ns) =
        all-append (Under above) (indexes deeper tables level above base earlier n 0 (last_index n + 1))
        (siblings deeper tables level above base (earlier ++ n ∷ []) ns)
        (indexes-some earlier n 0 (last_index n + 1)) (siblings-under (earlier ++ n ∷ []) ns)

pub walk-under : (tables : TableMap) (levels level : ℕ) (above : Name) (base : ℕ) (ns : List Node)
    → AllByRecursion (Under above) (walk tables levels level above base ns)
unfolding walk
walk-under tables zero level above base ns = tt
walk-under tables (suc levels) level above base ns =
    siblings-under tables (walk tables levels (level + 1)) level above base
    (λ called address ms. walk-under tables levels (level + 1) called address ms) [] ns
