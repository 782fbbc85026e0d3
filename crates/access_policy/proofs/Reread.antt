-- A pattern that can be written is read back from its text, and what was read can be written.
use Rattle.std.proofs.Common.{◌≡◌, ◌≤◌, ◌⊎◌, inl, inr, ℕ, ◌==◌, List, [], ◌∷◌, ◌++◌, length, codes, Bool, true, false, not}
use Rattle.std.proofs.Common.{cond, ◌&&◌, Some, None, option_map, refl, ap, sym, subst, arith, ◌∙◌, bytes_eq, decimal}
use Rattle.std.specs.List.{AllByRecursion, join_with_byte, list_all}
use Rattle.std.proofs.lemmas.Bool.Decides.{nat_tests}
use Rattle.std.proofs.lemmas.List.{append-nil}
use Rattle.std.proofs.lemmas.List.Folds.{list_all-append}
use Rattle.ipb_base.specs.Digits.{is_between}
use Rattle.address_table.specs.Limits.{longest_id}
use Rattle.address_table.specs.Rules.{is_id, is_id_byte}
use Rattle.node_tree.specs.Names.{dot}
use Rattle.script_lang.specs.Texts.{◌>>=◌, cut_at, is_digit}
use Rattle.access_policy.specs.Names.{in_brackets, index_in, index_text, parts_of}
use Rattle.access_policy.specs.Spelling.{IsBoardPattern, IsItemPattern, IsPattern, board_in, board_text, index_pattern}
use Rattle.access_policy.specs.Spelling.{indexed_in, is_last, is_rest, item_in, item_text, item_texts, items_in, items_in_parts}
use Rattle.access_policy.specs.Spelling.{pattern_of, pattern_text}
use Rattle.access_policy.specs.declared.limits.TheConstants.{MAX_INDEX}
use Rattle.access_policy.specs.declared.policy.BoardPattern.{BoardPattern}
use Rattle.access_policy.specs.declared.policy.BoardPattern.TheVariants as boards
use Rattle.access_policy.specs.declared.policy.ItemPattern.{ItemPattern}
use Rattle.access_policy.specs.declared.policy.ItemPattern.TheVariants.{Any, Id, Indexed, AnyIndex}
use Rattle.access_policy.specs.declared.policy.Pattern.{Pattern}
use Rattle.access_policy.proofs.Decimals.{index_found, index_small}
use Rattle.access_policy.proofs.NamesBack.{IsWithout, all_so, and_also, both_of, cut_found, digit_no_bracket, digit_no_dot}
use Rattle.access_policy.proofs.NamesBack.{digits_of, id_bytes, more_parts, no_bracket, no_dot, one_part}
use Rattle.access_policy.proofs.Parts.{has_part}
use Rattle.access_policy.proofs.Written.{bound, items_back, mapped, pick, same_some, when}

-- ---- an id is no `*`

no_star : (byte : ℕ) → is_id_byte byte ≡ true → (byte == 42) ≡ false
no_star byte h = grind (arith, nat_tests)

digit_no_star : (byte : ℕ) → is_digit byte ≡ true → (byte == 42) ≡ false
digit_no_star byte h = grind (arith, nat_tests)

no_colon : (byte : ℕ) → is_id_byte byte ≡ true → not (byte == 58) ≡ true
no_colon byte h = grind (arith, nat_tests)

-- what begins with an id does not begin with a `*`
not_starred : (id behind stars : List ℕ) → is_id id ≡ true → bytes_eq (id ++ behind) (42 ∷ stars) ≡ false
not_starred [] behind stars is = cc
not_starred (byte ∷ id) behind stars is =
    rw (no_star byte (both_of (is_id_byte byte) (list_all is_id_byte id) (id_bytes (byte ∷ id) is)).0) refl

id_not_starred : (id stars : List ℕ) → is_id id ≡ true → bytes_eq id (42 ∷ stars) ≡ false
id_not_starred id stars is = ap (λ text. bytes_eq text (42 ∷ stars)) (sym (append-nil id)) ∙ not_starred id [] stars is

digits_not_starred : (digits : List ℕ) → list_all is_digit digits ≡ true → bytes_eq digits (codes "*") ≡ false
digits_not_starred [] are = refl
digits_not_starred (byte ∷ digits) are =
    rw (digit_no_star byte (both_of (is_digit byte) (list_all is_digit digits) are).0) refl

and_false : (a : Bool) → (a && false) ≡ false
and_false true = refl
and_false false = refl

-- nor is an id what has a bracket
not_id : (id behind : List ℕ) → is_id (id ++ 91 ∷ behind) ≡ false
not_id id behind =
    let fits = is_between 1 longest_id (length (id ++ 91 ∷ behind)) in
    ap (λ all. fits && all) (list_all-append is_id_byte id (91 ∷ behind) ∙ and_false (list_all is_id_byte id))
    ∙ and_false fits

-- ---- one item

brackets_read : (id inside : List ℕ) → is_id id ≡ true → IsWithout 93 inside
    → indexed_in (id ++ 91 ∷ (inside ++ 93 ∷ [])) ≡ index_pattern id inside
unfolding indexed_in in_brackets
brackets_read id inside is without =
    rw (
      cut_found 91 id (inside ++ 93 ∷ []) (all_so is_id_byte (λ byte. not (byte == 91)) no_bracket id (id_bytes id is)),
      cut_found 93 inside [] without,
      is,
    ) refl

bracketed_item : (id inside : List ℕ) → is_id id ≡ true → IsWithout 93 inside
    → item_in (id ++ 91 ∷ (inside ++ 93 ∷ [])) ≡ index_pattern id inside
bracketed_item id inside is without =
    rw (not_starred id (91 ∷ (inside ++ 93 ∷ [])) [] is, not_id id (inside ++ 93 ∷ [])) (brackets_read id inside is without)

item_read : (item : ItemPattern) → IsItemPattern item → item_in (item_text item) ≡ Some item
item_read Any is = refl
item_read (Id id) is = rw (id_not_starred id [] is, is) refl
item_read (Indexed id n) is =
    bracketed_item id (decimal n) is.0
    (all_so is_digit (λ byte. not (byte == 93)) digit_no_bracket (decimal n) (digits_of n is.1))
    ∙ rw (digits_not_starred (decimal n) (digits_of n is.1), index_found n is.1) refl
item_read (AnyIndex id) is = bracketed_item id (codes "*") is refl

not_rest : (item : ItemPattern) → IsItemPattern item → bytes_eq (item_text item) (codes "**") ≡ false
not_rest Any is = refl
not_rest (Id id) is = id_not_starred id (codes "*") is
not_rest (Indexed id n) is = not_starred id (index_text (Some n)) (codes "*") is.0
not_rest (AnyIndex id) is = not_starred id (codes "[*]") (codes "*") is

id_without : (id : List ℕ) → is_id id ≡ true → IsWithout dot id
id_without id is = all_so is_id_byte (λ byte. not (byte == dot)) no_dot id (id_bytes id is)

behind_without : (id behind : List ℕ) → is_id id ≡ true → IsWithout dot behind → IsWithout dot (id ++ behind)
behind_without id behind is without =
    list_all-append (λ byte. not (byte == dot)) id behind
    ∙ and_also (list_all (λ byte. not (byte == dot)) id) (list_all (λ byte. not (byte == dot)) behind)
    (id_without id is) without

index_without : (n : ℕ) → n ≤ MAX_INDEX → IsWithout dot (index_text (Some n))
index_without n small =
    list_all-append (λ byte. not (byte == dot)) (decimal n) (93 ∷ [])
    ∙ and_also (list_all (λ byte. not (byte == dot)) (decimal n)) true
    (all_so is_digit (λ byte. not (byte == dot)) digit_no_dot (decimal n) (digits_of n small)) refl

item_without : (item : ItemPattern) → IsItemPattern item → IsWithout dot (item_text item)
item_without Any is = refl
item_without (Id id) is = id_without id is
item_without (Indexed id n) is = behind_without id (index_text (Some n)) is.0 (index_without n is.1)
item_without (AnyIndex id) is = behind_without id (codes "[*]") is refl

-- ---- all items

texts_without : (items : List ItemPattern) (rest : Bool) → AllByRecursion IsItemPattern items
    → AllByRecursion (IsWithout dot) (item_texts items rest)
texts_without [] true are = (refl, tt)
texts_without [] false are = tt
texts_without (item ∷ items) rest are = (item_without item are.0, texts_without items rest are.1)

parts_back : (text : List ℕ) (texts : List (List ℕ)) → AllByRecursion (IsWithout dot) (text ∷ texts)
    → parts_of (join_with_byte dot (text ∷ texts)) ≡ text ∷ texts
parts_back text [] are = one_part text are.0
parts_back text (next ∷ texts) are =
    more_parts text (join_with_byte dot (next ∷ texts)) are.0 ∙ ap (λ xs. text ∷ xs) (parts_back next texts are.1)

parts_read : (items : List ItemPattern) (rest : Bool) → AllByRecursion IsItemPattern items
    → items_in_parts (item_texts items rest) ≡ Some (items, rest)
parts_read [] true are = refl
parts_read [] false are = refl
parts_read (item ∷ items) rest are =
    rw (not_rest item are.0, item_read item are.0, parts_read items rest are.1) refl

items_read : (items : List ItemPattern) (rest : Bool) → (rest ≡ false → 1 ≤ length items)
    → AllByRecursion IsItemPattern items
    → items_in (join_with_byte dot (item_texts items rest)) ≡ Some (items, rest)
items_read [] true some are = refl
items_read [] false some are = absurd (omega (arith, some refl))
items_read (item ∷ items) rest some are =
    ap items_in_parts (parts_back (item_text item) (item_texts items rest) (texts_without (item ∷ items) rest are))
    ∙ parts_read (item ∷ items) rest are

-- ---- the pattern

board_without : (board : BoardPattern) → IsBoardPattern board → IsWithout 58 (board_text board)
board_without boards.Any is = refl
board_without (boards.Named name) is = all_so is_id_byte (λ byte. not (byte == 58)) no_colon name (id_bytes name is)

board_read : (board : BoardPattern) → IsBoardPattern board → board_in (board_text board) ≡ Some board
board_read boards.Any is = refl
board_read (boards.Named name) is = rw (id_not_starred name [] is, is) refl

pub pattern_read : (pattern : Pattern) → IsPattern pattern → pattern_of (pattern_text pattern) ≡ Some pattern
unfolding pattern_of
pattern_read pattern is =
    rw (
      cut_found 58 (board_text pattern.board) (join_with_byte dot (item_texts pattern.items pattern.rest))
          (board_without pattern.board is.board'),
      board_read pattern.board is.board',
      items_read pattern.items pattern.rest is.some is.items',
    ) refl

-- ---- what was read can be written

index_kept : (id inside : List ℕ) (item : ItemPattern) → is_id id ≡ true → index_pattern id inside ≡ Some item
    → IsItemPattern item
index_kept id inside item is h =
    by_star (pick (bytes_eq inside (codes "*")) (Some (AnyIndex id)) (option_map (Indexed id) (index_in inside)) item h)
  where
    by_star : ((bytes_eq inside (codes "*") ≡ true) × (Some (AnyIndex id) ≡ Some item))
        ⊎ ((bytes_eq inside (codes "*") ≡ false) × (option_map (Indexed id) (index_in inside) ≡ Some item))
        → IsItemPattern item
    by_star (inl h) = subst IsItemPattern (same_some (AnyIndex id) item h.1) is
    by_star (inr h) =
        let found = mapped (Indexed id) (index_in inside) item h.1 in
        subst IsItemPattern found.2 (is, index_small inside found.0 found.1)

indexed_kept : (text : List ℕ) (item : ItemPattern) → indexed_in text ≡ Some item → IsItemPattern item
unfolding indexed_in
indexed_kept text item h =
    let parts = bound (in_brackets text) _ item h in
    let named = when (is_id parts.0.0) (index_pattern parts.0.0 parts.0.1) item parts.2 in
    index_kept parts.0.0 parts.0.1 item named.0 named.1

item_kept : (text : List ℕ) (item : ItemPattern) → item_in text ≡ Some item → IsItemPattern item
item_kept text item h =
    by_star (pick (bytes_eq text (codes "*")) (Some Any) (cond (is_id text) (Some (Id text)) (indexed_in text)) item h)
  where
    by_id : ((is_id text ≡ true) × (Some (Id text) ≡ Some item)) ⊎ ((is_id text ≡ false) × (indexed_in text ≡ Some item))
        → IsItemPattern item
    by_id (inl h) = subst IsItemPattern (same_some (Id text) item h.1) h.0
    by_id (inr h) = indexed_kept text item h.1

    by_star : ((bytes_eq text (codes "*") ≡ true) × (Some Any ≡ Some item))
        ⊎ ((bytes_eq text (codes "*") ≡ false) × (cond (is_id text) (Some (Id text)) (indexed_in text) ≡ Some item))
        → IsItemPattern item
    by_star (inl h) = subst IsItemPattern (same_some Any item h.1) tt
    by_star (inr h) = by_id (pick (is_id text) (Some (Id text)) (indexed_in text) item h.1)

board_kept : (text : List ℕ) (board : BoardPattern) → board_in text ≡ Some board → IsBoardPattern board
board_kept text board h =
    by_star (pick (bytes_eq text (codes "*")) (Some boards.Any) (cond (is_id text) (Some (boards.Named text)) None) board
    h)
  where
    by_star : ((bytes_eq text (codes "*") ≡ true) × (Some boards.Any ≡ Some board))
        ⊎ ((bytes_eq text (codes "*") ≡ false) × (cond (is_id text) (Some (boards.Named text)) None ≡ Some board))
        → IsBoardPattern board
    by_star (inl h) = subst IsBoardPattern (same_some boards.Any board h.1) tt
    by_star (inr h) =
        let named = when (is_id text) (Some (boards.Named text)) board h.1 in
        subst IsBoardPattern (same_some (boards.Named text) board named.1) named.0

-- all items of parts that were read
items_kept : (parts : List (List ℕ)) (items : List ItemPattern × Bool) → items_in_parts parts ≡ Some items
    → AllByRecursion IsItemPattern items.0
items_kept [] items h =
    let now : List ItemPattern × Bool = ([], false) in
    subst (λ x. AllByRecursion IsItemPattern x.0) (same_some now items h) tt
items_kept (part ∷ parts) items h =
    by_rest (items_kept parts) (pick (is_rest part parts) (Some ([], true))
    (item_in part >>= λ item. option_map (λ more. (item ∷ more.0, more.1)) (items_in_parts parts)) items h)
  where
    by_rest : ((later : List ItemPattern × Bool) → items_in_parts parts ≡ Some later → AllByRecursion IsItemPattern later.0)
        → ((is_rest part parts ≡ true) × (Some ([], true) ≡ Some items))
        ⊎ ((is_rest part parts ≡ false)
        × ((item_in part >>= λ item. option_map (λ more. (item ∷ more.0, more.1)) (items_in_parts parts)) ≡ Some items))
        → AllByRecursion IsItemPattern items.0
    by_rest kept (inl h) =
        let now : List ItemPattern × Bool = ([], true) in
        subst (λ x. AllByRecursion IsItemPattern x.0) (same_some now items h.1) tt
    by_rest kept (inr h) =
        let first = bound (item_in part) _ items h.1 in
        let more = mapped _ (items_in_parts parts) items first.2 in
        subst (λ x. AllByRecursion IsItemPattern x.0) more.2 (item_kept part first.0 first.1, kept more.0 more.1)

-- no text is that of no items
some_written : (items : List ItemPattern) (rest : Bool) → is_last (item_texts items rest) ≡ false → rest ≡ false
    → 1 ≤ length items
some_written [] true h is = cc
some_written [] false h is = cc
some_written (item ∷ items) rest h is = omega arith

pub pattern_kept : (text : List ℕ) (pattern : Pattern) → pattern_of text ≡ Some pattern → IsPattern pattern
unfolding pattern_of
pattern_kept text pattern h =
    let parts = bound (cut_at 58 text) _ pattern h in
    let board = bound (board_in parts.0.0) _ pattern parts.2 in
    let items = bound (items_in parts.0.1) _ pattern board.2 in
    let now : Pattern = record { board = board.0; items = items.0.0; rest = items.0.1 } in
    let is : now ≡ pattern = same_some now pattern items.2 in
    subst IsPattern is (record {
      board' = board_kept parts.0.0 board.0 board.1;
      items' = items_kept (parts_of parts.0.1) items.0 items.1;
      some = some_written items.0.0 items.0.1
          (ap is_last (items_back (parts_of parts.0.1) items.0 items.1) ∙ has_part parts.0.1);
    })
