-- A name that is written from ids and indexes is read as them.
use Rattle.std.proofs.Common.{◌≡◌, ◌≤◌, ℕ, ◌==◌, List, [], ◌∷◌, ◌++◌, map, Bool, true, false, not, ◌&&◌}
use Rattle.std.proofs.Common.{Option, Some, None, refl, ap, arith, ◌∙◌, decimal}
use Rattle.std.specs.List.{AllByRecursion, list_all}
use Rattle.std.proofs.lemmas.Bool.Decides.{nat_tests}
use Rattle.std.proofs.lemmas.Fmt.{digits_decimal}
use Rattle.std.proofs.lemmas.List.{append-nil}
use Rattle.std.proofs.lemmas.List.Folds.{list_all-append}
use Rattle.address_table.specs.Rules.{is_id, is_id_byte}
use Rattle.node_tree.specs.Names.{dot}
use Rattle.script_lang.specs.Texts.{cut_at, is_digit}
use Rattle.access_policy.specs.Names.{IsNameItem, NameItem, in_brackets, index_text, item_with_index, item_of, item_text, items_of}
use Rattle.access_policy.specs.Names.{name_text, parts_of}
use Rattle.access_policy.specs.declared.limits.TheConstants.{MAX_INDEX}
use Rattle.access_policy.proofs.Decimals.{index_found, own}
use Rattle.access_policy.proofs.Parts.{split_as, split_first}

-- a text has no such byte
abbrev pub IsWithout : ℕ → List ℕ → Type 0
IsWithout cut text = list_all (λ byte. not (byte == cut)) text ≡ true

pub both_of : (a b : Bool) → (a && b) ≡ true → (a ≡ true) × (b ≡ true)
both_of true b h = (refl, h)
both_of false b h = cc

other : (byte cut : ℕ) → not (byte == cut) ≡ true → (byte == cut) ≡ false
other byte cut h = grind (arith, nat_tests)

same : (cut : ℕ) → (cut == cut) ≡ true
same cut = grind (arith, nat_tests)

pub cut_found : (cut : ℕ) (front rest : List ℕ) → IsWithout cut front → cut_at cut (front ++ cut ∷ rest) ≡ Some (front, rest)
cut_found cut [] rest h = rw (same cut) refl
cut_found cut (byte ∷ front) rest h =
    let p = both_of (not (byte == cut)) (list_all (λ byte. not (byte == cut)) front) h in
    rw (other byte cut p.0, cut_found cut front rest p.1) refl

cut_none : (cut : ℕ) (text : List ℕ) → IsWithout cut text → cut_at cut text ≡ None
cut_none cut [] h = refl
cut_none cut (byte ∷ text) h =
    let p = both_of (not (byte == cut)) (list_all (λ byte. not (byte == cut)) text) h in
    rw (other byte cut p.0, cut_none cut text p.1) refl

pub all_so : (p q : ℕ → Bool) → ((n : ℕ) → p n ≡ true → q n ≡ true) → (xs : List ℕ) → list_all p xs ≡ true
    → list_all q xs ≡ true
all_so p q so [] h = refl
all_so p q so (x ∷ xs) h =
    let parts = both_of (p x) (list_all p xs) h in rw (so x parts.0) (all_so p q so xs parts.1)

pub id_bytes : (id : List ℕ) → is_id id ≡ true → list_all is_id_byte id ≡ true
id_bytes id h = (both_of _ (list_all is_id_byte id) h).1

pub no_bracket : (byte : ℕ) → is_id_byte byte ≡ true → not (byte == 91) ≡ true
no_bracket byte h = grind (arith, nat_tests)

pub no_dot : (byte : ℕ) → is_id_byte byte ≡ true → not (byte == dot) ≡ true
no_dot byte h = grind (arith, nat_tests)

pub digit_no_bracket : (byte : ℕ) → is_digit byte ≡ true → not (byte == 93) ≡ true
digit_no_bracket byte h = grind (arith, nat_tests)

pub digit_no_dot : (byte : ℕ) → is_digit byte ≡ true → not (byte == dot) ≡ true
digit_no_dot byte h = grind (arith, nat_tests)

pub digits_of : (n : ℕ) → n ≤ MAX_INDEX → list_all is_digit (decimal n) ≡ true
digits_of n small = digits_decimal own n (omega (arith, small))

-- ---- one id

plain_item : (id : List ℕ) → is_id id ≡ true → item_of (id ++ []) ≡ record { id = id; index = None }
unfolding in_brackets item_with_index
plain_item id is =
    rw (append-nil id, cut_none 91 id (all_so is_id_byte (λ byte. not (byte == 91)) no_bracket id (id_bytes id is))) refl

indexed_item : (id : List ℕ) (n : ℕ) → is_id id ≡ true → n ≤ MAX_INDEX
    → item_of (id ++ 91 ∷ (decimal n ++ 93 ∷ [])) ≡ record { id = id; index = Some n }
unfolding in_brackets item_with_index
indexed_item id n is small =
    rw (
      cut_found 91 id (decimal n ++ 93 ∷ []) (all_so is_id_byte (λ byte. not (byte == 91)) no_bracket id (id_bytes id is)),
      cut_found 93 (decimal n) [] (all_so is_digit (λ byte. not (byte == 93)) digit_no_bracket (decimal n) (digits_of n small)),
      index_found n small,
    ) refl

one_item : (id : List ℕ) (index : Option ℕ) → IsNameItem (record { id = id; index = index })
    → item_of (id ++ index_text index) ≡ record { id = id; index = index }
one_item id None is = plain_item id is.id'
one_item id (Some n) is = indexed_item id n is.id' is.index'

-- ---- no dots within

pub and_also : (a b : Bool) → a ≡ true → b ≡ true → (a && b) ≡ true
and_also a b h k = rw (h, k) refl

index_without : (index : Option ℕ) (id : List ℕ) → IsNameItem (record { id = id; index = index })
    → IsWithout dot (index_text index)
index_without None id is = refl
index_without (Some n) id is =
    list_all-append (λ byte. not (byte == dot)) (decimal n) (93 ∷ [])
    ∙ and_also (list_all (λ byte. not (byte == dot)) (decimal n)) true
    (all_so is_digit (λ byte. not (byte == dot)) digit_no_dot (decimal n) (digits_of n is.index')) refl

item_without : (id : List ℕ) (index : Option ℕ) → IsNameItem (record { id = id; index = index })
    → IsWithout dot (id ++ index_text index)
item_without id index is =
    list_all-append (λ byte. not (byte == dot)) id (index_text index)
    ∙ and_also (list_all (λ byte. not (byte == dot)) id) (list_all (λ byte. not (byte == dot)) (index_text index))
    (all_so is_id_byte (λ byte. not (byte == dot)) no_dot id (id_bytes id is.id')) (index_without index id is)

-- ---- all ids

pub one_part : (text : List ℕ) → IsWithout dot text → parts_of text ≡ text ∷ []
one_part text h = split_first text ∙ ap (split_as text) (cut_none dot text h)

pub more_parts : (text rest : List ℕ) → IsWithout dot text → parts_of (text ++ dot ∷ rest) ≡ text ∷ parts_of rest
more_parts text rest h =
    split_first (text ++ dot ∷ rest) ∙ ap (split_as (text ++ dot ∷ rest)) (cut_found dot text rest h)

pub name_back : (item : NameItem) (items : List NameItem) → AllByRecursion IsNameItem (item ∷ items)
    → items_of (name_text (item ∷ items)) ≡ item ∷ items
name_back item [] are =
    ap (map item_of) (one_part (item_text item) (item_without item.id item.index are.0))
    ∙ ap (λ x. x ∷ []) (one_item item.id item.index are.0)
name_back item (next ∷ items) are =
    ap (map item_of) (more_parts (item_text item) (name_text (next ∷ items)) (item_without item.id item.index are.0))
    ∙ ap (λ x. x ∷ items_of (name_text (next ∷ items))) (one_item item.id item.index are.0)
    ∙ ap (λ xs. item ∷ xs) (name_back next items are.1)
