-- Registers that share bits of a word. Profile; uHAL for names, masks and modes.
use Rattle.std.specs.Prelude.{◌≡◌, ℕ, ◌+◌, ◌<◌, ◌≤◌, List, [], ◌∷◌, ◌++◌, Bool, true, false, not, ◌&&◌, ◌==◌, nat_eq}
use Rattle.std.specs.Prelude.{nat_lt, length, slice_get, bit_and, codes, Option, Some, None}
use Rattle.std.specs.List.{position_from, starts_with}
use Rattle.address_table.specs.declared.kinds.Mode.{Mode}
use Rattle.address_table.specs.declared.kinds.Mode.TheVariants.{Single, Block, Port, Hierarchical}
use Rattle.node_tree.specs.declared.register.Register.{Register}
use Rattle.node_tree.specs.Named.{Name}
use Rattle.node_tree.specs.Walk.{words_of}

-- the other name begins with this one and a dot
abbrev pub is_dotted_prefix : Name → Name → Bool
is_dotted_prefix name other = starts_with nat_eq other (name ++ codes ".")

-- a hierarchical node has no words of its own
abbrev pub takes_words : Mode → Bool
takes_words Hierarchical = false
takes_words Single = true
takes_words Block = true
takes_words Port = true

-- one begins before the other ends, and the other way round
abbrev pub share_an_address : Register → Register → Bool
share_an_address a b =
    nat_lt a.address (b.address + words_of b.mode b.size) && nat_lt b.address (a.address + words_of a.mode a.size)

-- some bit is in both masks
abbrev pub share_a_bit : Register → Register → Bool
share_a_bit a b = not (bit_and a.mask b.mask == 0)

-- both have words of their own, they share a bit of a word, and neither stands below the other in the tree of names
abbrev pub overlap : Name × Register → Name × Register → Bool
overlap a b =
    ((takes_words a.1.mode && takes_words b.1.mode) && (share_an_address a.1 b.1 && share_a_bit a.1 b.1))
    && (not (is_dotted_prefix a.0 b.0) && not (is_dotted_prefix b.0 a.0))

-- a place and this one
abbrev pub pair_with : ℕ → Option ℕ → List (ℕ × ℕ)
pair_with j None = []
pair_with j (Some i) = (i, j) ∷ []

-- for each entry that overlaps one before it, the places of the first such one and of the entry
abbrev pub overlapping : List (Name × Register) → List (Name × Register) → List (ℕ × ℕ)
overlapping before [] = []
overlapping before (e ∷ es) =
    pair_with (length before) (position_from (λ a. overlap a e) 0 before) ++ overlapping (before ++ e ∷ []) es

-- an entry that is there passes a test
abbrev pub passes : (Name × Register → Bool) → Option (Name × Register) → Bool
passes test None = false
passes test (Some e) = test e

-- the entries at two places overlap
abbrev pub overlap_at : List (Name × Register) → ℕ → ℕ → Bool
overlap_at es a b = passes (λ y. passes (λ x. overlap x y) (slice_get es a)) (slice_get es b)

-- the entry at the second place overlaps the one at the first, which is before it, and none before that
pub record IsFirstOverlap (es : List (Name × Register)) (a b : ℕ) : Type 0 where
  pub later : a < b
  pub found : overlap_at es a b ≡ true
  pub first : (c : ℕ) → c < a → overlap_at es c b ≡ false

-- an address of a register
abbrev pub HasAddress : Register → ℕ → Type 0
HasAddress r address = (r.address ≤ address) × (address < r.address + words_of r.mode r.size)
