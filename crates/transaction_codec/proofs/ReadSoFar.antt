-- Items read one after the other, up to a fault or to the end.
use Rattle.std.proofs.Common.{◌≡◌, ℕ, ◌-◌, ◌<◌, List, [], ◌∷◌, ◌++◌, length, Result, Err, refl, sym, ap, subst, ◌∙◌}
use Rattle.std.proofs.Common.{arith}
use Rattle.std.proofs.lemmas.List.{append-nil, append_assoc, length-append}
use Rattle.std.specs.List.{AllByRecursion, flat_map}
use Rattle.ipb_base.proofs.AllLemmas.{AllByRecursion-append}
use Rattle.transaction_codec.specs.declared.refusal.Why.{Why}
use Rattle.transaction_codec.specs.declared.refusal.BadWords.TheVariants.{At}
use Rattle.transaction_codec.specs.Listing.{IsFirstFault}
use Rattle.transaction_codec.proofs.Lists.{IsFormat, first_fault, one_fault, fault_is_no_list, one_list}
use Rattle.transaction_codec.proofs.OneMore.{words_of_more}

-- the items so far and the words that are left
pub record IsReadSoFar {Item : Type 0} (item_words : Item → List ℕ) (IsItem : Item → Type 0) (words : List ℕ)
    (items : List Item) (rest : List ℕ) : Type 0 where
  pub ranges : AllByRecursion IsItem items
  pub parts : words ≡ flat_map item_words items ++ rest

-- an item that was read joins the items, and its words those that were read
pub read_more : {Item : Type 0} {item_words : Item → List ℕ} {IsItem : Item → Type 0} {words rest later : List ℕ}
    {items all : List Item} {item read : Item} → IsReadSoFar item_words IsItem words items rest
    → all ≡ items ++ item ∷ [] → item ≡ read → IsItem read × (rest ≡ item_words read ++ later)
    → IsReadSoFar item_words IsItem words all later
read_more {Item = Item} {item_words = item_words} {IsItem = IsItem} {later = later} {items = items} {all = all}
    {item = item} so_far grown same front = record {
      ranges = subst (AllByRecursion IsItem) (sym grown)
          (AllByRecursion-append IsItem items (item ∷ []) so_far.ranges (subst IsItem (sym same) front.0, tt));
      parts = so_far.parts
          ∙ (ap (λ (left : List ℕ). flat_map item_words items ++ left)
          (front.1 ∙ ap (λ (i : Item). item_words i ++ later) (sym same))
          ∙ (sym (append_assoc (flat_map item_words items) (item_words item) later)
          ∙ ap (λ (made : List ℕ). made ++ later) (sym (words_of_more item_words items all item grown))));
    }

module _ {Item : Type 0} {item_words : Item → List ℕ} {IsItem : Item → Type 0} {Breaks : Why → ℕ → List ℕ → Type 0}
    {item_at : List ℕ → Result (Item × List ℕ) Why} (format : IsFormat item_words IsItem Breaks item_at) where
  -- no words are left, so they are this list and no other
  pub only_list : {words : List ℕ} {items : List Item} {rest : List ℕ} → IsReadSoFar item_words IsItem words items rest
      → rest ≡ [] → (list : List Item) → AllByRecursion IsItem list → words ≡ flat_map item_words list → items ≡ list
  only_list {items = items} so_far none list ranges e =
      one_list item_words IsItem Breaks item_at format items list so_far.ranges ranges
      (sym (append-nil (flat_map item_words items))
      ∙ (ap (λ (rest : List ℕ). flat_map item_words items ++ rest) (sym none) ∙ (sym so_far.parts ∙ e)))

  -- what stands behind a list is the first fault, where it is no item
  pub fault_after : (before : List Item) (rest : List ℕ) (why : Why) → AllByRecursion IsItem before → 0 < length rest
      → item_at rest ≡ Err why → IsFirstFault item_words IsItem Breaks (flat_map item_words before ++ rest)
      (length (flat_map item_words before)) why
  fault_after before rest why ranges some bad =
      first_fault item_words IsItem Breaks item_at format (flat_map item_words before ++ rest) before rest why
      (length (flat_map item_words before)) ranges refl some bad (length-append (flat_map item_words before) rest)

  module _ {words : List ℕ} {items : List Item} {rest : List ℕ}
      (so_far : IsReadSoFar item_words IsItem words items rest) (why : Why) (some : 0 < length rest)
      (bad : item_at rest ≡ Err why) where
    -- what is left stands at the first fault
    pub fault_here : IsFirstFault item_words IsItem Breaks words (length words - length rest) why
    fault_here =
        first_fault item_words IsItem Breaks item_at format words items rest why (length words - length rest)
        so_far.ranges so_far.parts some bad
        (omega (arith, ap length so_far.parts, length-append (flat_map item_words items) rest))

    -- so the words are no list
    pub no_list : (list : List Item) → AllByRecursion IsItem list → words ≡ flat_map item_words list → ⊥
    no_list list ranges e =
        fault_is_no_list item_words IsItem Breaks item_at format words (length words - length rest) why fault_here list
        ranges e

    -- and they have no other first fault
    pub no_other_fault : (place : ℕ) (rule : Why) → IsFirstFault item_words IsItem Breaks words place rule
        → At (length words - length rest) why ≡ At place rule
    no_other_fault place rule fault =
        let same = one_fault item_words IsItem Breaks item_at format words (length words - length rest) place why rule
        fault_here fault in
        rw (same.0, same.1) refl
