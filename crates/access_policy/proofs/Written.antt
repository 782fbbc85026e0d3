-- A pattern that was read is written as it stood.
use Rattle.std.proofs.Common.{◌≡◌, ◌⊎◌, inl, inr, ℕ, List, [], ◌∷◌, ◌++◌, codes, Bool, true, false, cond, ◌&&◌, ◌==◌, Option, Some, None}
use Rattle.std.proofs.Common.{option_map, refl, ap, sym, arith, ◌∙◌, bytes_eq, unwrap_or}
use Rattle.std.specs.List.{join_with_byte}
use Rattle.std.proofs.lemmas.Bool.Decides.{nat_tests}
use Rattle.std.proofs.lemmas.List.Splits.{join_with_byte-slice_split}
use Rattle.std.proofs.lemmas.Slice.Eq.{bytes_eq-Decides}
use Rattle.address_table.specs.Rules.{is_id}
use Rattle.node_tree.specs.Names.{dot}
use Rattle.script_lang.specs.Texts.{◌>>=◌, cut_at}
use Rattle.access_policy.specs.Names.{in_brackets, before_last_byte, index_in, parts_of}
use Rattle.access_policy.specs.Spelling.{board_in, board_text, index_pattern, indexed_in, is_last, is_rest, item_in, item_text}
use Rattle.access_policy.specs.Spelling.{item_texts, items_in, items_in_parts, pattern_of, pattern_text}
use Rattle.access_policy.specs.declared.policy.BoardPattern.{BoardPattern}
use Rattle.access_policy.specs.declared.policy.BoardPattern.TheVariants as boards
use Rattle.access_policy.specs.declared.policy.ItemPattern.{ItemPattern}
use Rattle.access_policy.specs.declared.policy.ItemPattern.TheVariants.{Any, Id, Indexed, AnyIndex}
use Rattle.access_policy.specs.declared.policy.Pattern.{Pattern}
use Rattle.access_policy.proofs.Decimals.{index_back}

pub same_some : {A : Type 0} (x y : A) → Some x ≡ Some y → x ≡ y
same_some x y h = ap (λ o. unwrap_or o x) h

-- what a step that was taken had before it
pub bound : {A B : Type 0} (found : Option A) (f : A → Option B) (y : B) → (found >>= f) ≡ Some y
    → (x : A) × (found ≡ Some x) × (f x ≡ Some y)
bound None f y h = cc
bound (Some x) f y h = (x, refl, h)

pub mapped : {A B : Type 0} (f : A → B) (found : Option A) (y : B) → option_map f found ≡ Some y
    → (x : A) × (found ≡ Some x) × (f x ≡ y)
mapped f None y h = cc
mapped f (Some x) y h = (x, refl, same_some (f x) y h)

pub when : {A : Type 0} (test : Bool) (found : Option A) (y : A) → cond test found None ≡ Some y
    → (test ≡ true) × (found ≡ Some y)
when true found y h = (refl, h)
when false found y h = cc

-- ---- cuts

cut_by : (here : Bool) (cut byte : ℕ) (text : List ℕ) (found : Option (List ℕ × List ℕ)) (parts : List ℕ × List ℕ)
    → (here ≡ true → byte ≡ cut)
    → ((more : List ℕ × List ℕ) → found ≡ Some more → more.0 ++ cut ∷ more.1 ≡ text)
    → cond here (Some ([], text)) (option_map (λ p. (byte ∷ p.0, p.1)) found) ≡ Some parts
    → parts.0 ++ cut ∷ parts.1 ≡ byte ∷ text
cut_by true cut byte text found parts same more h =
    let now : List ℕ × List ℕ = ([], text) in
    let is : now ≡ parts = same_some now parts h in
    ap (λ p. p.0 ++ cut ∷ p.1) (sym is) ∙ ap (λ b. b ∷ text) (sym (same refl))
cut_by false cut byte text None parts same more h = cc
cut_by false cut byte text (Some found) parts same more h =
    let now : List ℕ × List ℕ = (byte ∷ found.0, found.1) in
    let is : now ≡ parts = same_some now parts h in
    ap (λ p. p.0 ++ cut ∷ p.1) (sym is) ∙ ap (λ xs. byte ∷ xs) (more found refl)

same_byte : (byte cut : ℕ) → (byte == cut) ≡ true → byte ≡ cut
same_byte byte cut h = grind (arith, nat_tests)

-- the parts of a text with the cut between them
pub cut_back : (cut : ℕ) (text : List ℕ) (parts : List ℕ × List ℕ) → cut_at cut text ≡ Some parts
    → parts.0 ++ cut ∷ parts.1 ≡ text
cut_back cut [] parts h = cc
cut_back cut (byte ∷ text) parts h =
    cut_by (byte == cut) cut byte text (cut_at cut text) parts (same_byte byte cut) (cut_back cut text) h

closed_back : (parts : List ℕ × List ℕ) (inside : List ℕ) → before_last_byte parts ≡ Some inside
    → parts.0 ++ 93 ∷ parts.1 ≡ inside ++ 93 ∷ []
closed_back (before, []) inside h = ap (λ xs. xs ++ 93 ∷ []) (same_some before inside h)
closed_back (before, byte ∷ rest) inside h = cc

pub bracketed_back : (text : List ℕ) (parts : List ℕ × List ℕ) → in_brackets text ≡ Some parts
    → parts.0 ++ 91 ∷ (parts.1 ++ 93 ∷ []) ≡ text
unfolding in_brackets
bracketed_back text parts h =
    let first = bound (cut_at 91 text) _ parts h in
    let second = bound (cut_at 93 first.0.1) _ parts first.2 in
    let third = bound (before_last_byte second.0) _ parts second.2 in
    let now : List ℕ × List ℕ = (first.0.0, third.0) in
    let is : now ≡ parts = same_some now parts third.2 in
    ap (λ p. p.0 ++ 91 ∷ (p.1 ++ 93 ∷ [])) (sym is)
    ∙ ap (λ xs. first.0.0 ++ 91 ∷ xs) (sym (closed_back second.0 third.0 third.1))
    ∙ ap (λ xs. first.0.0 ++ 91 ∷ xs) (cut_back 93 first.0.1 second.0 second.1)
    ∙ cut_back 91 text first.0 first.1

-- ---- items

pub pick : {A : Type 0} (test : Bool) (here later : Option A) (y : A) → cond test here later ≡ Some y
    → ((test ≡ true) × (here ≡ Some y)) ⊎ ((test ≡ false) × (later ≡ Some y))
pick true here later y h = inl (refl, h)
pick false here later y h = inr (refl, h)

pub same_text : (text other : List ℕ) → bytes_eq text other ≡ true → text ≡ other
same_text text other h = (bytes_eq-Decides text other).0 h

index_item : (id inside : List ℕ) (item : ItemPattern) → index_pattern id inside ≡ Some item
    → item_text item ≡ id ++ 91 ∷ (inside ++ 93 ∷ [])
index_item id inside item h = by_star (pick (bytes_eq inside (codes "*")) (Some (AnyIndex id))
    (option_map (Indexed id) (index_in inside)) item h)
  where
    by_star : ((bytes_eq inside (codes "*") ≡ true) × (Some (AnyIndex id) ≡ Some item))
        ⊎ ((bytes_eq inside (codes "*") ≡ false) × (option_map (Indexed id) (index_in inside) ≡ Some item))
        → item_text item ≡ id ++ 91 ∷ (inside ++ 93 ∷ [])
    by_star (inl h) =
        ap item_text (sym (same_some (AnyIndex id) item h.1))
        ∙ ap (λ xs. id ++ 91 ∷ (xs ++ 93 ∷ [])) (sym (same_text inside (codes "*") h.0))
    by_star (inr h) =
        let found = mapped (Indexed id) (index_in inside) item h.1 in
        ap item_text (sym found.2)
        ∙ ap (λ xs. id ++ 91 ∷ (xs ++ 93 ∷ [])) (index_back inside found.0 found.1)

indexed_back : (text : List ℕ) (item : ItemPattern) → indexed_in text ≡ Some item → item_text item ≡ text
unfolding indexed_in
indexed_back text item h =
    let parts = bound (in_brackets text) _ item h in
    let named = when (is_id parts.0.0) (index_pattern parts.0.0 parts.0.1) item parts.2 in
    index_item parts.0.0 parts.0.1 item named.1 ∙ bracketed_back text parts.0 parts.1

item_back : (text : List ℕ) (item : ItemPattern) → item_in text ≡ Some item → item_text item ≡ text
item_back text item h =
    by_star (pick (bytes_eq text (codes "*")) (Some Any) (cond (is_id text) (Some (Id text)) (indexed_in text)) item h)
  where
    by_id : ((is_id text ≡ true) × (Some (Id text) ≡ Some item)) ⊎ ((is_id text ≡ false) × (indexed_in text ≡ Some item))
        → item_text item ≡ text
    by_id (inl h) = ap item_text (sym (same_some (Id text) item h.1))
    by_id (inr h) = indexed_back text item h.1

    by_star : ((bytes_eq text (codes "*") ≡ true) × (Some Any ≡ Some item))
        ⊎ ((bytes_eq text (codes "*") ≡ false) × (cond (is_id text) (Some (Id text)) (indexed_in text) ≡ Some item))
        → item_text item ≡ text
    by_star (inl h) = ap item_text (sym (same_some Any item h.1)) ∙ sym (same_text text (codes "*") h.0)
    by_star (inr h) = by_id (pick (is_id text) (Some (Id text)) (indexed_in text) item h.1)

board_back : (text : List ℕ) (board : BoardPattern) → board_in text ≡ Some board → board_text board ≡ text
board_back text board h =
    by_star (pick (bytes_eq text (codes "*")) (Some boards.Any) (cond (is_id text) (Some (boards.Named text)) None) board
    h)
  where
    by_star : ((bytes_eq text (codes "*") ≡ true) × (Some boards.Any ≡ Some board))
        ⊎ ((bytes_eq text (codes "*") ≡ false) × (cond (is_id text) (Some (boards.Named text)) None ≡ Some board))
        → board_text board ≡ text
    by_star (inl h) = ap board_text (sym (same_some boards.Any board h.1)) ∙ sym (same_text text (codes "*") h.0)
    by_star (inr h) =
        ap board_text (sym (same_some (boards.Named text) board (when (is_id text) (Some (boards.Named text)) board h.1).1))

both_of : (a b : Bool) → (a && b) ≡ true → (a ≡ true) × (b ≡ true)
both_of true b h = (refl, h)
both_of false b h = cc

last_is : (parts : List (List ℕ)) → is_last parts ≡ true → parts ≡ []
last_is [] h = refl
last_is (part ∷ parts) h = cc

-- the texts of items that were read are the parts that they were read from
pub items_back : (parts : List (List ℕ)) (items : List ItemPattern × Bool) → items_in_parts parts ≡ Some items
    → item_texts items.0 items.1 ≡ parts
items_back [] items h =
    let now : List ItemPattern × Bool = ([], false) in
    let is : now ≡ items = same_some now items h in ap (λ x. item_texts x.0 x.1) (sym is)
items_back (part ∷ parts) items h =
    by_rest (items_back parts) (pick (is_rest part parts) (Some ([], true))
    (item_in part >>= λ item. option_map (λ more. (item ∷ more.0, more.1)) (items_in_parts parts)) items h)
  where
    by_rest : ((later : List ItemPattern × Bool) → items_in_parts parts ≡ Some later → item_texts later.0 later.1 ≡ parts)
        → ((is_rest part parts ≡ true) × (Some ([], true) ≡ Some items))
        ⊎ ((is_rest part parts ≡ false)
        × ((item_in part >>= λ item. option_map (λ more. (item ∷ more.0, more.1)) (items_in_parts parts)) ≡ Some items))
        → item_texts items.0 items.1 ≡ part ∷ parts
    by_rest back (inl h) =
        let now : List ItemPattern × Bool = ([], true) in
        let is : now ≡ items = same_some now items h.1 in
        let tests = both_of (bytes_eq part (codes "**")) (is_last parts) h.0 in
        ap (λ x. item_texts x.0 x.1) (sym is)
        ∙ ap (λ x. x ∷ []) (sym (same_text part (codes "**") tests.0))
        ∙ ap (λ xs. part ∷ xs) (sym (last_is parts tests.1))
    by_rest back (inr h) =
        let first = bound (item_in part) _ items h.1 in
        let more = mapped _ (items_in_parts parts) items first.2 in
        ap (λ x. item_texts x.0 x.1) (sym more.2)
        ∙ ap (λ xs. xs ∷ item_texts more.0.0 more.0.1) (item_back part first.0 first.1)
        ∙ ap (λ xs. part ∷ xs) (back more.0 more.1)

pub pattern_back : (text : List ℕ) (pattern : Pattern) → pattern_of text ≡ Some pattern → pattern_text pattern ≡ text
unfolding pattern_of
pattern_back text pattern h =
    let parts = bound (cut_at 58 text) _ pattern h in
    let board = bound (board_in parts.0.0) _ pattern parts.2 in
    let items = bound (items_in parts.0.1) _ pattern board.2 in
    let now : Pattern = record { board = board.0; items = items.0.0; rest = items.0.1 } in
    let is : now ≡ pattern = same_some now pattern items.2 in
    ap pattern_text (sym is)
    ∙ ap (λ xs. xs ++ 58 ∷ join_with_byte dot (item_texts items.0.0 items.0.1)) (board_back parts.0.0 board.0 board.1)
    ∙ ap (λ xs. parts.0.0 ++ 58 ∷ join_with_byte dot xs) (items_back (parts_of parts.0.1) items.0 items.1)
    ∙ ap (λ xs. parts.0.0 ++ 58 ∷ xs) (join_with_byte-slice_split dot parts.0.1)
    ∙ cut_back 58 text parts.0 parts.1
