-- What is known of kept registers.
use Rattle.std.proofs.Common.{◌≡◌, Bool, true, false, not, refl, sym}
use Rattle.std.specs.List.{filter}
use Rattle.std.proofs.lemmas.Bool.{and_parts}
use Rattle.node_tree.specs.Maps.{Name}
use Rattle.node_tree.specs.Overlaps.{is_dotted_prefix}
use Rattle.node_tree.specs.declared.register.Register.{Register}
use Rattle.config_store.specs.Kept.{has_below, is_kept, is_rw_word}
use Rattle.config_store.specs.Searches.{AreWords}
use Rattle.config_store.proofs.NameSearch.{Registers}
use Rattle.config_store.proofs.Places.{filter_has, none_has}

not_true : (b : Bool) → not b ≡ true → b ≡ false
not_true true h = sym h
not_true false h = refl

pub kept_parts : (es : Registers) (e : Name × Register) → is_kept es e ≡ true
    → (is_rw_word e.1 ≡ true) × (has_below es e.0 ≡ false)
kept_parts es e h =
    let (word, lowest) = and_parts (is_rw_word e.1) (not (has_below es e.0)) h in
    (word, not_true (has_below es e.0) lowest)

pub kept_words : (es : Registers) → AreWords (filter (is_kept es) es)
kept_words es = record {
  each = λ i e at. (kept_parts es e (filter_has (is_kept es) es i e at).0).0;
  apart = λ i j a b at other.
      let lowest = (kept_parts es a (filter_has (is_kept es) es i a at).0).1 in
      let (m, there) = (filter_has (is_kept es) es j b other).1 in
      none_has (λ x. is_dotted_prefix a.0 x.0) es m b lowest there;
}
