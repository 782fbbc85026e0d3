-- The modules of nodes, node by node.
use Rattle.std.proofs.Common.{◌≡◌, ℕ, zero, suc, ◌+◌, ◌<◌, ◌≤◌, List, [], ◌∷◌, length, drop, get_or, Some, sym, ap, ◌∙◌}
use Rattle.std.proofs.Common.{subst}
use Rattle.std.proofs.lemmas.List.{drop_more, drop_all}
use Rattle.address_table.specs.declared.nodes.Node.{Node, out-Node}
use Rattle.node_tree.specs.Named.{Name}
use Rattle.node_tree.specs.Modules.{Mentions, itself, child, later}

pub none_mentioned : (m : Name) → Mentions [] m → ⊥
none_mentioned m h = elim h [ ]

pub none_after : (ns : List Node) (i : ℕ) (m : Name) → length ns ≤ i → Mentions (drop i ns) m → ⊥
none_after ns i m h mention = none_mentioned m (subst (λ ms. Mentions ms m) (drop_all i ns h) mention)

-- what holds of the modules of each part of a list
abbrev pub HoldsOfParts : (Name → Type 0) → List Node → Type 0
HoldsOfParts P [] = Unit {0}
HoldsOfParts P (n ∷ ns) =
    ((m : Name) → (out-Node n).«module» ≡ Some m → P m) × ((m : Name) → Mentions (out-Node n).nodes.items m → P m)
    × ((m : Name) → Mentions ns m → P m)

by_parts : (P : Name → Type 0) (ns : List Node) (m : Name) → Mentions ns m → HoldsOfParts P ns → P m
by_parts P ns m (itself n others name is) parts = parts.0 name is
by_parts P ns m (child n others name mention) parts = parts.1 name mention
by_parts P ns m (later n others name mention) parts = parts.2 name mention

rest_is : (ns : List Node) (i : ℕ) (n : Node) → i < length ns → n ≡ get_or ns i n → drop i ns ≡ n ∷ drop (i + 1) ns
rest_is ns i n h here = drop_more ns i n h ∙ ap (λ x. x ∷ drop (i + 1) ns) (sym here)

-- a module of the nodes from a place on is one of the node there, of what is below it, or of the later nodes
pub from_place : (P : Name → Type 0) (ns : List Node) (i : ℕ) (n : Node) → i < length ns → n ≡ get_or ns i n
    → ((m : Name) → (out-Node n).«module» ≡ Some m → P m) → ((m : Name) → Mentions (out-Node n).nodes.items m → P m)
    → ((m : Name) → Mentions (drop (i + 1) ns) m → P m)
    → (m : Name) → Mentions (drop i ns) m → P m
from_place P ns i n h here own inner rest m mention =
    by_parts P (n ∷ drop (i + 1) ns) m (subst (λ ms. Mentions ms m) (rest_is ns i n h here) mention) (own, inner, rest)

pub in_whole : (ns : List Node) (i : ℕ) (m : Name) → Mentions (drop i ns) m → Mentions ns m
in_whole [] zero m mention = mention
in_whole [] (suc i) m mention = mention
in_whole (n ∷ ns) zero m mention = mention
in_whole (n ∷ ns) (suc i) m mention = later n ns m (in_whole ns i m mention)

-- a module of the node at a place, or of what is below it
pub own_module : (ns : List Node) (i : ℕ) (n : Node) (m : Name) → i < length ns → n ≡ get_or ns i n
    → (out-Node n).«module» ≡ Some m → Mentions ns m
own_module ns i n m h here is =
    in_whole ns i m (subst (λ ms. Mentions ms m) (sym (rest_is ns i n h here)) (itself n (drop (i + 1) ns) m is))

pub inner_module : (ns : List Node) (i : ℕ) (n : Node) (m : Name) → i < length ns → n ≡ get_or ns i n
    → Mentions (out-Node n).nodes.items m → Mentions ns m
inner_module ns i n m h here mention =
    in_whole ns i m (subst (λ ms. Mentions ms m) (sym (rest_is ns i n h here)) (child n (drop (i + 1) ns) m mention))
