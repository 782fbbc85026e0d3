-- Lists of items one after the other, from the two laws of one item: what is read is spelled so, and what is spelled
-- so is read, whatever follows.
use Rattle.std.proofs.Common.{cond, eqb, subst, inl, inr, ◌≡◌, ℕ, ◌+◌, ◌<◌, ◌≤◌, List, [], ◌∷◌, ◌++◌, length, drop}
use Rattle.std.proofs.Common.{Result, Ok, Err, refl, sym, ap, ◌∙◌, append_assoc, arith}
use Rattle.std.proofs.lemmas.Bool.{cases_lt}
use Rattle.std.proofs.lemmas.List.{drop_all, take_at, drop_at, length-append, append-nil, take-append-drop, length-drop}
use Rattle.std.proofs.lemmas.List.{length-take}
use Rattle.std.proofs.lemmas.List.Concat.{flat_map-cons}
use Rattle.std.specs.List.{AllByRecursion, flat_map}
use Rattle.ipb_base.specs.Lists.{IsProperPrefix}
use Rattle.transaction_codec.specs.declared.refusal.Why.{Why}
use Rattle.transaction_codec.specs.declared.refusal.Why.TheVariants.{Version, Kind, Code, Count, Short}
use Rattle.transaction_codec.specs.Listing.{why_number, IsFirstRule, IsFirstFault}
use Rattle.transaction_codec.proofs.Steps.{read_is, not_both}

-- a rule by its number
why_at : ℕ → Why
why_at n = cond (eqb n 1) Version (cond (eqb n 2) Kind (cond (eqb n 3) Code (cond (eqb n 4) Count Short)))

why_again : (why : Why) → why_at (why_number why) ≡ why
unfolding why_at
why_again Version = refl
why_again Kind = refl
why_again Code = refl
why_again Count = refl
why_again Short = refl

rule_is : (why rule : Why) → why_number why ≡ why_number rule → why ≡ rule
rule_is why rule same = sym (why_again why) ∙ ap why_at same ∙ why_again rule

pub record IsFormat {Item : Type 0} (item_words : Item → List ℕ) (IsItem : Item → Type 0) (Breaks : Why → ℕ → List ℕ
    → Type 0)
    (item_at : List ℕ → Result (Item × List ℕ) Why) : Type 0 where
  pub again : (item : Item) (rest : List ℕ) → IsItem item → item_at (item_words item ++ rest) ≡ Ok (item, rest)
  pub has_words : (item : Item) → 0 < length (item_words item)
  pub refuses : (words : List ℕ) (why : Why) → 0 < length words → item_at words ≡ Err why → IsFirstRule Breaks words why

module _ {Item : Type 0} (item_words : Item → List ℕ) (IsItem : Item → Type 0) (Breaks : Why → ℕ → List ℕ → Type 0)
    (item_at : List ℕ → Result (Item × List ℕ) Why) (format : IsFormat item_words IsItem Breaks item_at) where
  -- the same words have one first item
  pub same_first : (left right : Item) (x y : List ℕ) → IsItem left → IsItem right → item_words left ++ x
      ≡ item_words right ++ y → (left ≡ right) × (x ≡ y)
  same_first left right x y is_left is_right e =
      let same = read_is (left, x) (right, y) (sym (format.again left x is_left) ∙ ap item_at e ∙ format.again right y
      is_right) in
      (ap (λ (p : Item × List ℕ). p.0) same, ap (λ (p : Item × List ℕ). p.1) same)

  pub no_proper_prefix : (left right : Item) → IsItem left → IsItem right → IsProperPrefix (item_words left)
      (item_words right) → ⊥
  no_proper_prefix left right is_left is_right cut =
      let whole : item_words left ++ drop cut.0 (item_words right) ≡ item_words right ++ [] =
      rw cut.2 (take-append-drop cut.0 (item_words right)) ∙ sym (append-nil (item_words right)) in
      let same = same_first left right (drop cut.0 (item_words right)) [] is_left is_right whole in
      omega (arith, cut.1, ap length same.1, length-drop cut.0 (item_words right))

  pub one_list : (left right : List Item) → AllByRecursion IsItem left → AllByRecursion IsItem right
      → flat_map item_words left ≡ flat_map item_words right → left ≡ right
  one_list [] [] is_left is_right e = refl
  one_list [] (item ∷ items) is_left is_right e =
      absurd (omega (
        arith,
        format.has_words item,
        ap length (e ∙ flat_map-cons item_words item items),
        length-append
            (item_words item) (flat_map item_words items),
      ))
  one_list (item ∷ items) [] is_left is_right e =
      absurd (omega (
        arith,
        format.has_words item,
        ap length (sym (flat_map-cons item_words item items) ∙ e),
        length-append (item_words item) (flat_map item_words items),
      ))
  one_list (l ∷ ls) (r ∷ rs) is_left is_right e =
      let same = same_first l r (flat_map item_words ls) (flat_map item_words rs) is_left.0 is_right.0
      (sym (flat_map-cons item_words l ls) ∙ e ∙ flat_map-cons item_words r rs) in
      let rest = one_list ls rs is_left.1 is_right.1 same.1 in
      cc

  -- no list stands beyond a place where no item stands
  pub longest : (before items : List Item) (rest more : List ℕ) (why : Why) → AllByRecursion IsItem before
      → AllByRecursion IsItem items → item_at rest ≡ Err why
      → flat_map item_words before ++ rest ≡ flat_map item_words items ++ more → length (flat_map item_words items) ≤
      length (flat_map item_words before)
  longest before [] rest more why is_before is_items bad e = omega arith
  longest [] (item ∷ items) rest more why is_before is_items bad e =
      let reads : item_at rest ≡ Ok (item, flat_map item_words items ++ more) =
      ap item_at (e ∙ ap (λ (ws : List ℕ). ws ++ more) (flat_map-cons item_words item items)
      ∙ append_assoc (item_words item) (flat_map item_words items) more)
      ∙ format.again item (flat_map item_words items ++ more) is_items.0 in
      absurd (not_both (item, flat_map item_words items ++ more) why (sym bad ∙ reads))
  longest (b ∷ bs) (item ∷ items) rest more why is_before is_items bad e =
      let spread_left : flat_map item_words (b ∷ bs) ++ rest ≡ item_words b ++ (flat_map item_words bs ++ rest) =
      ap (λ (ws : List ℕ). ws ++ rest) (flat_map-cons item_words b bs) ∙ append_assoc (item_words b)
      (flat_map item_words bs) rest in
      let spread_right : flat_map item_words (item ∷ items) ++ more ≡ item_words item ++ (flat_map item_words items
      ++ more) =
      ap (λ (ws : List ℕ). ws ++ more) (flat_map-cons item_words item items) ∙ append_assoc (item_words item)
      (flat_map item_words items) more in
      let same = same_first b item (flat_map item_words bs ++ rest) (flat_map item_words items ++ more) is_before.0
      is_items.0 (sym spread_left ∙ e ∙ spread_right) in
      let shorter = longest bs items rest more why is_before.1 is_items.1 bad same.1 in
      let first : length (item_words b) ≡ length (item_words item) = ap (λ (i : Item). length (item_words i)) same.0 in
      omega (
        arith,
        first,
        shorter,
        ap length (flat_map-cons item_words b bs),
        ap length (flat_map-cons item_words item items),
        length-append (item_words b) (flat_map item_words bs),
        length-append (item_words item) (flat_map item_words items),
      )

  -- the words are a list and then words at whose front no item stands
  pub first_fault : (words : List ℕ) (before : List Item) (rest : List ℕ) (why : Why) (place : ℕ)
      → AllByRecursion IsItem before → words ≡ flat_map item_words before ++ rest
      → 0 < length rest → item_at rest ≡ Err why → length words ≡ place + length rest → IsFirstFault item_words IsItem
      Breaks words place why
  first_fault words before rest why place is_before parts some bad there =
      let len : length (flat_map item_words before) ≡ place =
      omega (arith, there, ap length parts, length-append (flat_map item_words before) rest) in
      record {
        before = before;
        ranges = is_before;
        front = rw parts (take_at (flat_map item_words before) rest place len);
        longest = λ items is_items prefix. rw (← len) (longest before items rest prefix.0 why is_before is_items bad
            (sym parts ∙ prefix.1));
        rule = rw (parts, drop_at (flat_map item_words before) rest place len) (format.refuses rest why some bad);
      }

  -- a rule is broken at a place within the words
  within : (words : List ℕ) (place : ℕ) (why : Why) → IsFirstRule Breaks (drop place words) why → place < length words
  within words place why rule =
      elim (cases_lt place (length words)) [
        | inl lt ↦ lt
        | inr le ↦ absurd (subst (λ (rest : List ℕ). IsFirstRule Breaks rest why) (drop_all place words le) rule)
      ]

  -- a header breaks one rule first
  one_rule : (rest : List ℕ) (why rule : Why) → IsFirstRule Breaks rest why → IsFirstRule Breaks rest rule → why ≡ rule
  one_rule [] why rule left right = absurd left
  one_rule (word ∷ after) why rule left right =
      elim (cases_lt (why_number why) (why_number rule)) [
        | inl earlier ↦ absurd (right.1 why earlier left.0)
        | inr not_earlier ↦ elim (cases_lt (why_number rule) (why_number why)) [
          | inl later ↦ absurd (left.1 rule later right.0)
          | inr not_later ↦ rule_is why rule (omega arith)
        ]
      ]

  -- a fault is not behind another
  not_behind : (words : List ℕ) (place other : ℕ) (why rule : Why) → IsFirstFault item_words IsItem Breaks words place
      why → IsFirstFault item_words IsItem Breaks words other rule → other ≤ place
  not_behind words place other why rule left right =
      let begins : words ≡ flat_map item_words right.before ++ drop other words = sym (take-append-drop other words)
      ∙ ap (λ (front : List ℕ). front ++ drop other words) right.front in
      omega (
        arith,
        left.longest right.before right.ranges (drop other words, begins),
        ap length right.front,
        length-take other words,
        within words other rule right.rule,
      )

  -- words have one first fault
  pub one_fault : (words : List ℕ) (place other : ℕ) (why rule : Why) → IsFirstFault item_words IsItem Breaks words
      place why → IsFirstFault item_words IsItem Breaks words other rule
      → (place ≡ other) × (why ≡ rule)
  one_fault words place other why rule left right =
      let same : place ≡ other = omega (
        arith,
        not_behind words place other why rule left right,
        not_behind words
            other place rule why right left,
      ) in (
        same,
        one_rule (drop other words) why rule (subst (λ (n : ℕ). IsFirstRule Breaks (drop n words) why) same
            left.rule) right.rule,
      )

  -- words with a fault are no list
  pub fault_is_no_list : (words : List ℕ) (place : ℕ) (why : Why) → IsFirstFault item_words IsItem Breaks words place
      why → (items : List Item) → AllByRecursion IsItem items
      → words ≡ flat_map item_words items → ⊥
  fault_is_no_list words place why fault items is_items e =
      let all : length (flat_map item_words items) ≤ place =
      fault.longest items is_items ([], e ∙ sym (append-nil (flat_map item_words items))) in
      omega (arith, within words place why fault.rule, all, ap length e)
