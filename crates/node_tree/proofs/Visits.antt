-- What comes of one node of the walk.
use Rattle.std.proofs.Common.{◌≡◌, ℕ, ◌<◌, ◌≤◌, ◌^◌, Bool, true, false, ◌||◌, cond, Ok, Err, refl}
use Rattle.std.proofs.lemmas.Bool.{lt-ltb, le-ltb, le-leb, lt-leb}
use Rattle.std.specs.FinMap.{contains_key}
use Rattle.node_tree.specs.declared.walking.Found.{Found}
use Rattle.node_tree.specs.declared.refusal.CompileWhy.{CompileWhy}
use Rattle.node_tree.specs.declared.refusal.CompileWhy.TheVariants.{TooMany, TooDeep, Duplicate, AddressPastEnd}
use Rattle.node_tree.specs.Limits.{most_nodes, most_ids}
use Rattle.node_tree.specs.declared.register.Register.{Register}
use Rattle.node_tree.specs.Named.{Name}
use Rattle.node_tree.specs.Walk.{last_address}
use Rattle.node_tree.specs.Run.{visit_next, found_more}

pub too_many : (found : Found) (name twin : Name) (level : ℕ) (r : Register) → most_nodes ≤ found.count
    → visit_next found name twin level r ≡ Err (name, TooMany)
unfolding visit_next
too_many found name twin level r h = rw (le-ltb found.count most_nodes h) refl

pub too_deep : (found : Found) (name twin : Name) (level : ℕ) (r : Register) → found.count < most_nodes → most_ids < level
    → visit_next found name twin level r ≡ Err (name, TooDeep)
unfolding visit_next
too_deep found name twin level r few h = rw (lt-ltb found.count most_nodes few, lt-leb level most_ids h) refl

pub duplicate : (found : Found) (name twin : Name) (level : ℕ) (r : Register) → found.count < most_nodes → level ≤ most_ids
    → (contains_key found.names name || contains_key found.names twin) ≡ true → visit_next found name twin level r ≡ Err (name, Duplicate)
unfolding visit_next
duplicate found name twin level r few shallow h =
    rw (lt-ltb found.count most_nodes few, le-leb level most_ids shallow, h) refl

pub past_end : (found : Found) (name twin : Name) (level : ℕ) (r : Register) → found.count < most_nodes → level ≤ most_ids
    → (contains_key found.names name || contains_key found.names twin) ≡ false → 2 ^ 32 ≤ last_address r
    → visit_next found name twin level r ≡ Err (name, AddressPastEnd)
unfolding visit_next
past_end found name twin level r few shallow new h =
    rw (lt-ltb found.count most_nodes few, le-leb level most_ids shallow, new, le-ltb (last_address r) (2 ^ 32) h) refl

past_by : (found : Found) (name twin : Name) (level : ℕ) (r : Register) (why : CompileWhy) (taken : Bool)
    → found.count < most_nodes → level ≤ most_ids → 2 ^ 32 ≤ last_address r
    → (contains_key found.names name || contains_key found.names twin) ≡ taken → why ≡ cond taken Duplicate AddressPastEnd
    → visit_next found name twin level r ≡ Err (name, why)
past_by found name twin level r why true few shallow h is rule = rw rule (duplicate found name twin level r few shallow is)
past_by found name twin level r why false few shallow h is rule = rw rule (past_end found name twin level r few shallow is h)

-- past the last address, the rule on ids comes first
pub past_the_end : (found : Found) (name twin : Name) (level : ℕ) (r : Register) (why : CompileWhy)
    → found.count < most_nodes → level ≤ most_ids → 2 ^ 32 ≤ last_address r
    → why ≡ cond (contains_key found.names name || contains_key found.names twin) Duplicate AddressPastEnd
    → visit_next found name twin level r ≡ Err (name, why)
past_the_end found name twin level r why few shallow h rule =
    past_by found name twin level r why (contains_key found.names name || contains_key found.names twin) few shallow h refl rule

pub visited : (found : Found) (name twin : Name) (level : ℕ) (r : Register) → found.count < most_nodes → level ≤ most_ids
    → (contains_key found.names name || contains_key found.names twin) ≡ false → last_address r < 2 ^ 32
    → visit_next found name twin level r ≡ Ok (found_more found name r)
unfolding visit_next
visited found name twin level r few shallow new h =
    rw (lt-ltb found.count most_nodes few, le-leb level most_ids shallow, new, lt-ltb (last_address r) (2 ^ 32) h) refl
