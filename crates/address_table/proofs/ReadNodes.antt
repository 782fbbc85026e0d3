-- Reading the items of an array one after another.
use Rattle.std.proofs.Common.{◌≡◌, ℕ, zero, suc, ◌+◌, ◌<◌, ◌≤◌, List, [], ◌∷◌, ◌++◌, length, take, drop, get_or, Some}
use Rattle.std.proofs.Common.{option_map, option_and_then, Ordering, Less, Equal, Greater, nat_cmp, refl, ap, sym, ◌∙◌}
use Rattle.std.proofs.Common.{subst, arith}
use Rattle.std.specs.Option.{option_or}
use Rattle.std.specs.Ordering.{match_ordering}
use Rattle.std.specs.Cmp.Lexicographic.{slice_cmp}
use Rattle.std.proofs.lemmas.List.{take_more}
use Rattle.toml.specs.Data.{Data, string, integer, float, boolean, datetime, array, table, Items, no_items, item}
use Rattle.toml.specs.Data.{Members, no_members, member, get_member, as_array, push_item, depth, items_depth}
use Rattle.toml.specs.Data.{members_depth}
use Rattle.toml.specs.View.{view, items_view}
use Rattle.toml.specs.declared.value.Value.{Value}
use Rattle.toml.proofs.Views.{items_view-push, items_view-drop}
use Rattle.address_table.specs.declared.refusal.TableRefusal.{TableRefusal}
use Rattle.address_table.specs.declared.refusal.TableRefusal.TheVariants.{At, NoMemory}
use Rattle.address_table.specs.Tables.{IsFault, first_fault, preorder, preorder_items, IsNode, AreNodes, none, more}
use Rattle.address_table.specs.declared.nodes.Node.{Node}
use Rattle.address_table.proofs.Faults.{below_fault, first_fault-item, node-faultless}

-- one more node at the end
pub AreNodes-push : (format : ℕ) (ds : Items) (ns : List Node) (d : Data) (n : Node) → AreNodes format ds ns → IsNode format d n
    → AreNodes format (push_item ds d) (ns ++ n ∷ [])
AreNodes-push format ds ns d n none one = more d n no_items [] one none
AreNodes-push format ds ns d n (more e m es ms first others) one =
    more e m (push_item es d) (ms ++ n ∷ []) first (AreNodes-push format es ms d n others one)

-- the nodes of the items so far, and of one more
pub next_node : (format : ℕ) (vs : List Value) (i : ℕ) (v : Value) (ns : List Node) (n : Node) → i < length vs → v ≡ get_or vs i v
    → AreNodes format (items_view (take i vs)) ns → IsNode format (view v) n
    → AreNodes format (items_view (take (i + 1) vs)) (ns ++ n ∷ [])
next_node format vs i v ns n more_left here are one =
    rw (take_more vs i v more_left, ← here, items_view-push (take i vs) v)
    (AreNodes-push format (items_view (take i vs)) ns (view v) n are one)

-- the first fault from an item on is that of the item, or else that of the items after it
from_item : (format : ℕ) (vs : List Value) (i : ℕ) (v : Value) → i < length vs → v ≡ get_or vs i v
    → first_fault format (preorder_items i (items_view (drop i vs)))
    ≡ option_or (option_map (below_fault i) (first_fault format (preorder (view v))))
    (first_fault format (preorder_items (i + 1) (items_view (drop (i + 1) vs))))
from_item format vs i v more_left here =
    ap (λ ds. first_fault format (preorder_items i ds)) (items_view-drop vs i v more_left)
    ∙ ap (λ w. first_fault format (preorder_items i (item (view w) (items_view (drop (i + 1) vs))))) (sym here)
    ∙ first_fault-item format i (view v) (items_view (drop (i + 1) vs))

-- what refuses the next item refuses those from it on
pub next_refused : (format : ℕ) (vs : List Value) (i : ℕ) (v : Value) (refusal : TableRefusal) → i < length vs → v ≡ get_or vs i v
    → IsFault (option_map (below_fault i) (first_fault format (preorder (view v)))) refusal
    → IsFault (first_fault format (preorder_items i (items_view (drop i vs)))) refusal
next_refused format vs i v NoMemory more_left here fault = tt
next_refused format vs i v (At path why) more_left here fault = from_item format vs i v more_left here ∙ rw fault refl

-- past a node there is the first fault of the items after it
pub past_node : (format : ℕ) (vs : List Value) (i : ℕ) (v : Value) (n : Node) → i < length vs → v ≡ get_or vs i v → IsNode format (view v) n
    → first_fault format (preorder_items i (items_view (drop i vs)))
    ≡ first_fault format (preorder_items (i + 1) (items_view (drop (i + 1) vs)))
past_node format vs i v n more_left here one =
    from_item format vs i v more_left here ∙ rw (node-faultless format (view v) n one) refl

-- an item is no deeper than all of them
depth-at : (vs : List Value) (i : ℕ) (d : Value) → i < length vs
    → depth (view (get_or vs i d)) ≤ items_depth (items_view vs)
depth-at [] i d h = absurd (omega arith)
depth-at (v ∷ vs) zero d h = omega arith
depth-at (v ∷ vs) (suc i) d h =
    let rest : depth (view (get_or vs i d)) ≤ items_depth (items_view vs) = depth-at vs i d (omega arith) in omega arith

pub depth-item : (vs : List Value) (i : ℕ) (v : Value) → i < length vs → v ≡ get_or vs i v
    → depth (view v) ≤ items_depth (items_view vs)
depth-item vs i v more_left here =
    subst (λ w. depth (view w) ≤ items_depth (items_view vs)) (sym here) (depth-at vs i v more_left)

depth-array : (d : Data) (ds : Items) → as_array d ≡ Some ds → depth d ≡ items_depth ds + 1
depth-array (string s) ds h = cc
depth-array (integer z) ds h = cc
depth-array (float x) ds h = cc
depth-array (boolean b) ds h = cc
depth-array (datetime t) ds h = cc
depth-array (table ms) ds h = cc
depth-array (array es) ds h = let same : es ≡ ds = cc in rw same (omega arith)

depth-found : (o : Ordering) (k : List ℕ) (d : Data) (ms : Members) (ds : Items)
    → (option_and_then as_array (get_member k ms) ≡ Some ds → items_depth ds + 1 ≤ members_depth ms)
    → option_and_then as_array (match_ordering o (get_member k ms) (Some d) (get_member k ms)) ≡ Some ds
    → items_depth ds + 1 ≤ members_depth (member k d ms)
depth-found Less k d ms ds ih h = let rest : items_depth ds + 1 ≤ members_depth ms = ih h in omega arith
depth-found Greater k d ms ds ih h = let rest : items_depth ds + 1 ≤ members_depth ms = ih h in omega arith
depth-found Equal k d ms ds ih h = let here : depth d ≡ items_depth ds + 1 = depth-array d ds h in omega arith

-- the items of an array at a key are less deep than the members
pub depth-children : (k : List ℕ) (ms : Members) (ds : Items) → option_and_then as_array (get_member k ms) ≡ Some ds
    → items_depth ds + 1 ≤ members_depth ms
depth-children k no_members ds h = cc
depth-children k (member l d ms) ds h = depth-found (slice_cmp nat_cmp k l) k d ms ds (depth-children k ms ds) h
