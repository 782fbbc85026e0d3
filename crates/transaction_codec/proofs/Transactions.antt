-- Requests and replies are both read by five rules on a header, in their order. What follows for either is here, from
-- the rules that differ and what they let pass.
use Rattle.std.proofs.Common.{◌≡◌, ℕ, ◌<◌, Bool, false, not, List, [], ◌∷◌, ◌++◌, length, take, drop, Result, Ok}
use Rattle.std.proofs.Common.{Err, inl, inr, refl, sym, ap, subst, ◌∙◌, arith, eqb, ltb}
use Rattle.std.specs.Prelude.{IfOk, IfErr, MatchResult}
use Rattle.std.proofs.lemmas.Bool.{eqb-true}
use Rattle.std.proofs.lemmas.List.{take-append-drop, length-drop}
use Rattle.ipb_base.specs.Word.{AreWords}
use Rattle.transaction_codec.specs.declared.refusal.Why.{Why}
use Rattle.transaction_codec.specs.declared.refusal.Why.TheVariants.{Version, Short}
use Rattle.transaction_codec.specs.Header.{header, version_of, tid_of, count_of, kind_of, code_of}
use Rattle.transaction_codec.specs.First.{IsFaultAtFront}
use Rattle.transaction_codec.specs.Listing.{IsFirstRule}
use Rattle.transaction_codec.proofs.Fields.{header-fields}
use Rattle.transaction_codec.proofs.Steps.{by_tests, test_of, Says, first_test, first_rule, no_test, all_read}
use Rattle.transaction_codec.proofs.Steps.{not-false, not_both, rule_is}

-- what differs between the two: three tests on a header, how many words it has after it, and what is read there
pub record Rules (Item : Type 0) : Type 0 where
  pub wrong_kind : ℕ → Bool
  pub wrong_code : ℕ → Bool
  pub wrong_count : ℕ → Bool
  pub len : ℕ → ℕ
  pub item : ℕ → List ℕ → Item

-- whether a header breaks a rule
abbrev pub is_broken : {Item : Type 0} → Rules Item → ℕ → List ℕ → Why → Bool
is_broken rules word after =
    test_of (not (eqb (version_of word) 2)) (rules.wrong_kind word) (rules.wrong_code word) (rules.wrong_count word)
    (ltb (length after) (rules.len word))

-- what is read at a header
abbrev pub read_by : {Item : Type 0} → Rules Item → ℕ → List ℕ → Result (Item × List ℕ) Why
read_by rules word after =
    by_tests (not (eqb (version_of word) 2)) (rules.wrong_kind word) (rules.wrong_code word) (rules.wrong_count word)
    (ltb (length after) (rules.len word)) (rules.item word after, drop (rules.len word) after)

-- no rule is broken
abbrev pub Passes : {Item : Type 0} → Rules Item → ℕ → List ℕ → Type 0
Passes rules word after = (rule : Why) → is_broken rules word after rule ≡ false

-- the reading goes by these rules, and what passes them is spelled with the fields of its header
pub record IsReadBy {Item : Type 0} (rules : Rules Item) (item_words : Item → List ℕ) (IsItem : Item → Type 0)
    (Breaks : Why → ℕ → List ℕ → Type 0) (item_at : List ℕ → Result (Item × List ℕ) Why) : Type 0 where
  pub nothing : item_at [] ≡ Err Short
  pub by_rules : (word : ℕ) (after : List ℕ) → item_at (word ∷ after) ≡ read_by rules word after
  pub says : (word : ℕ) (after : List ℕ) (rule : Why) → Says (is_broken rules word after rule) (Breaks rule word after)
  pub ranges : (word : ℕ) (after : List ℕ) → Passes rules word after → AreWords after → IsItem (rules.item word after)
  pub spelled : (word : ℕ) (after : List ℕ) → Passes rules word after
      → item_words (rules.item word after)
      ≡ header (tid_of word) (count_of word) (kind_of word) (code_of word) ∷ take (rules.len word) after

module _ {Item : Type 0} {rules : Rules Item} {item_words : Item → List ℕ} {IsItem : Item → Type 0}
    {Breaks : Why → ℕ → List ℕ → Type 0} {item_at : List ℕ → Result (Item × List ℕ) Why}
    (is : IsReadBy rules item_words IsItem Breaks item_at) where
  -- an item is the header of its fields, and its words stand before the rest
  pub found : (words : List ℕ) (x : Item × List ℕ) → AreWords words → item_at words ≡ Ok x → IsItem x.0
      × (words ≡ item_words x.0 ++ x.1)
  found [] x fits e = absurd (not_both x Short (sym is.nothing ∙ e))
  found (word ∷ after) x fits e =
      let reads = sym (is.by_rules word after) ∙ e in
      let passes = no_test _ _ _ _ _ _ x reads in
      let version_is : version_of word ≡ 2 = eqb-true (version_of word) 2 (not-false _ (passes Version)) in
      let spelled : word ∷ after ≡ item_words (rules.item word after) ++ drop (rules.len word) after =
      rw (is.spelled word after passes, ← header-fields word version_is)
      (ap (λ (ws : List ℕ). word ∷ ws) (sym (take-append-drop (rules.len word) after))) in
      subst (λ (y : Item × List ℕ). IsItem y.0 × (word ∷ after ≡ item_words y.0 ++ y.1))
      (all_read _ _ _ _ _ _ x reads) (is.ranges word after passes fits.1, spelled)

  -- and fewer words are left
  shorter : (words : List ℕ) (x : Item × List ℕ) → item_at words ≡ Ok x → length x.1 < length words
  shorter [] x e = absurd (not_both x Short (sym is.nothing ∙ e))
  shorter (word ∷ after) x e =
      subst (λ (y : Item × List ℕ). length y.1 < length (word ∷ after))
      (all_read _ _ _ _ _ _ x (sym (is.by_rules word after) ∙ e)) (omega (arith, length-drop (rules.len word) after))

  pub refuses : (words : List ℕ) (why : Why) → 0 < length words → item_at words ≡ Err why
      → IsFirstRule Breaks words why
  refuses [] why some e = absurd (omega arith)
  refuses (word ∷ after) why some e =
      first_rule Breaks word after _ _ _ _ _ why (is.says word after)
      (first_test _ _ _ _ _ _ why (sym (is.by_rules word after) ∙ e))

  -- what is read breaks no rule
  pub keeps_rules : (word : ℕ) (after : List ℕ) (x : Item × List ℕ) (why : Why) → item_at (word ∷ after) ≡ Ok x
      → Breaks why word after → ⊥
  keeps_rules word after x why e broken =
      (is.says word after why).not_so (no_test _ _ _ _ _ _ x (sym (is.by_rules word after) ∙ e) why) broken

  fault_at_front : (words : List ℕ) (why : Why) → item_at words ≡ Err why → IsFaultAtFront Breaks words why
  fault_at_front [] why e = inl (refl, rule_is (Item × List ℕ) why Short (sym e ∙ is.nothing))
  fault_at_front (word ∷ after) why e = inr (refuses (word ∷ after) why (omega arith) e)

  -- a reader that answers the item with its words where they stand, and the words after it
  module _ {First : Type 0} (item_of : First → Item) (rest_of : First → List ℕ) where
    abbrev pub answers : List ℕ → Result First Why → Type 0
    answers words r =
        MatchResult r (λ first. item_at words ≡ Ok (item_of first, rest_of first)) (λ why. item_at words ≡ Err why)

    pub first_found : (words : List ℕ) (r : Result First Why) → AreWords words → answers words r
        → IfOk r (λ first. IsItem (item_of first) × (words ≡ item_words (item_of first) ++ rest_of first))
    first_found words (Ok first) fits exact = found words (item_of first, rest_of first) fits exact
    first_found words (Err why) fits exact = tt

    pub first_shorter : (words : List ℕ) (r : Result First Why) → answers words r
        → IfOk r (λ first. length (rest_of first) < length words)
    first_shorter words (Ok first) exact = shorter words (item_of first, rest_of first) exact
    first_shorter words (Err why) exact = tt

    pub first_fault_is : (words : List ℕ) (r : Result First Why) → answers words r
        → IfErr r (IsFaultAtFront Breaks words)
    first_fault_is words (Ok first) exact = tt
    first_fault_is words (Err why) exact = fault_at_front words why exact
