-- Lines that are written while the items that they tell of are read.
use Rattle.std.proofs.Common.{◌≡◌, ℕ, ◌<◌, List, [], ◌∷◌, ◌++◌, length, Result, Ok, Err, refl, sym, ap, ◌∙◌}
use Rattle.std.proofs.Common.{Bool, true, false}
use Rattle.std.specs.Prelude.{IfOk}
use Rattle.std.proofs.lemmas.List.{append-nil, append_assoc, length-append, flat_map_more}
use Rattle.std.specs.List.{AllByRecursion, flat_map}
use Rattle.ipb_base.proofs.AllLemmas.{AllByRecursion-append}
use Rattle.transaction_codec.specs.declared.refusal.Why.{Why}
use Rattle.transaction_codec.proofs.Lists.{IsFormat, first_fault, fault_is_no_list}
use Rattle.capture_reader.specs.Describing.{Adds}

-- the lines so far, those of the items that were read, and the words that are left
pub record IsWritten {Item : Type 0} (item_words : Item → List ℕ) (IsItem : Item → Type 0) (line : Item → List ℕ)
    (words old out rest : List ℕ) : Type 0 where
  pub items : List Item
  pub ranges : AllByRecursion IsItem items
  pub parts : words ≡ flat_map item_words items ++ rest
  pub lines : out ≡ old ++ flat_map line items

module _ {Item : Type 0} {item_words : Item → List ℕ} {IsItem : Item → Type 0} {line : Item → List ℕ} where
  pub none_written : (words old : List ℕ) → IsWritten item_words IsItem line words old old words
  none_written words old = record { items = []; ranges = tt; parts = refl; lines = sym (append-nil old) }

  -- one item more
  pub write_more : {words old out rest : List ℕ} (new later : List ℕ) (item : Item)
      → IsWritten item_words IsItem line words old out rest → IsItem item → rest ≡ item_words item ++ later
      → new ≡ out ++ line item → IsWritten item_words IsItem line words old new later
  write_more {words = words} {old = old} new later item so_far is front added = record {
    items = so_far.items ++ item ∷ [];
    ranges = AllByRecursion-append IsItem so_far.items (item ∷ []) so_far.ranges (is, tt);
    parts = so_far.parts
        ∙ (ap (λ (left : List ℕ). flat_map item_words so_far.items ++ left) front
        ∙ (sym (append_assoc (flat_map item_words so_far.items) (item_words item) later)
        ∙ ap (λ (made : List ℕ). made ++ later) (flat_map_more item_words [] so_far.items item)));
    lines = added
        ∙ (ap (λ (made : List ℕ). made ++ line item) so_far.lines
        ∙ flat_map_more line old so_far.items item);
  }

  -- no words are left
  pub all_written : {words old out rest : List ℕ} → IsWritten item_words IsItem line words old out rest → rest ≡ []
      → Adds (AllByRecursion IsItem) (flat_map item_words) (flat_map line) words old out true
  all_written so_far none = (
    so_far.items,
    so_far.ranges,
    so_far.parts ∙ (ap (λ (left : List ℕ). flat_map item_words so_far.items ++ left) none
        ∙ append-nil (flat_map item_words so_far.items)),
    so_far.lines,
  )

  -- what is left begins with no item, so the words are no list
  pub no_more_written : {Breaks : Why → ℕ → List ℕ → Type 0} {item_at : List ℕ → Result (Item × List ℕ) Why}
      {words old out rest : List ℕ} → IsFormat item_words IsItem Breaks item_at
      → IsWritten item_words IsItem line words old out rest → (why : Why) → 0 < length rest → item_at rest ≡ Err why
      → Adds (AllByRecursion IsItem) (flat_map item_words) (flat_map line) words old out false
  no_more_written {Breaks = Breaks} {item_at = item_at} {words = words} {rest = rest} format so_far why some bad =
      let place = length (flat_map item_words so_far.items) in (
        λ list ranges e. fault_is_no_list item_words IsItem Breaks item_at format words place why
            (first_fault item_words IsItem Breaks item_at format words so_far.items rest why place so_far.ranges
            so_far.parts some bad
            (ap length so_far.parts ∙ length-append (flat_map item_words so_far.items) rest)) list ranges e,
        (flat_map line so_far.items, so_far.lines),
      )

-- what stands in front of a text is a part of what is added
pub added_behind : {Item : Type 0} (Are : List Item → Type 0) (spelled text : List Item → List ℕ) (words old out new head : List ℕ) (b : Bool)
    → out ≡ old ++ head → Adds Are spelled text words out new b
    → Adds Are spelled (λ items. head ++ text items) words old new b
added_behind Are spelled text words old out new head true front (items, is, same, e) =
    (items, is, same, e ∙ (ap (λ (t : List ℕ). t ++ text items) front ∙ append_assoc old head (text items)))
added_behind Are spelled text words old out new head false front (none, some) =
    (none, (head ++ some.0, some.1 ∙ (ap (λ (t : List ℕ). t ++ some.0) front ∙ append_assoc old head some.0)))

pub read_behind : {Item X : Type 0} (Are : List Item → Type 0) (spelled text : List Item → List ℕ) (r : Result Bool X)
    (words old out new head : List ℕ) → out ≡ old ++ head → IfOk r (Adds Are spelled text words out new)
    → IfOk r (Adds Are spelled (λ items. head ++ text items) words old new)
read_behind Are spelled text (Ok b) words old out new head front added =
    added_behind Are spelled text words old out new head b front added
read_behind Are spelled text (Err x) words old out new head front added = tt
