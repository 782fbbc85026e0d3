-- Lists of items that grow by one, and their words.
use Rattle.std.proofs.Common.{◌≡◌, ℕ, ◌+◌, ◌<◌, List, [], ◌∷◌, ◌++◌, length, take, get_or, ap, sym, ◌∙◌}
use Rattle.std.specs.List.{flat_map}
use Rattle.std.proofs.lemmas.List.{append-nil, take_more}
use Rattle.std.proofs.lemmas.List.Concat.{flat_map-append}

module _ {Item : Type 0} (item_words : Item → List ℕ) where
  -- the words of one item more
  pub words_of_more : (items all : List Item) (item : Item) → all ≡ items ++ item ∷ []
      → flat_map item_words all ≡ flat_map item_words items ++ item_words item
  words_of_more items all item grown =
      ap (flat_map item_words) grown
      ∙ (flat_map-append item_words items (item ∷ [])
      ∙ ap (λ (words : List ℕ). flat_map item_words items ++ words) (append-nil (item_words item)))

  -- the words of the items up to a place, and of the one there
  pub written_more : (items : List Item) (i : ℕ) (item : Item) (out more : List ℕ) → i < length items
      → item ≡ get_or items i item → out ≡ flat_map item_words (take i items) → more ≡ out ++ item_words item
      → more ≡ flat_map item_words (take (i + 1) items)
  written_more items i item out more within is made grown =
      grown
      ∙ (ap (λ (words : List ℕ). words ++ item_words item) made
      ∙ sym (words_of_more (take i items) (take (i + 1) items) item
      (take_more items i item within ∙ ap (λ (one : Item). take i items ++ one ∷ []) (sym is))))
