-- A key that is taken out of a document, and the others.
use Rattle.std.proofs.Common.{◌≡◌, ◌≢◌, ℕ, List, [], ◌∷◌, cond, if◌then◌else◌, Option, Some, None, option_map, Ordering}
use Rattle.std.proofs.Common.{Less, Equal, Greater, nat_cmp, is_eq, String, Global, string_bytes, refl, sym, ap, ◌∙◌}
use Rattle.std.specs.BTreeMap.{is_at}
use Rattle.std.specs.Cmp.Lexicographic.{slice_cmp}
use Rattle.std.specs.Map.{lookup, remove_entry}
use Rattle.std.specs.Ordering.{match_ordering}
use Rattle.toml.specs.Data.{Data, Members, no_members, member, get_member}
use Rattle.toml.specs.View.{view, members_view}
use Rattle.toml.specs.declared.value.Value.{Value}
use Rattle.script_lang.specs.Aside.{without}
use Rattle.script_lang.proofs.TableLists.{Entry, same_name}

-- ---- members

gone_at : (o : Ordering) (key name : List ℕ) (value : Data) (rest : Members) → slice_cmp nat_cmp key name ≡ o
    → get_member key rest ≡ None → get_member key (if is_eq o then rest else member name value rest) ≡ None
gone_at Less key name value rest is none = rw is none
gone_at Equal key name value rest is none = none
gone_at Greater key name value rest is none = rw is none

pub gone : (key : List ℕ) (document : Members) → get_member key (without key document) ≡ None
gone key no_members = refl
gone key (member name value ms) =
    gone_at (slice_cmp nat_cmp key name) key name value (without key ms) refl (gone key ms)

-- the value under a name, where those that are left have this one
abbrev found_at : Ordering → Data → Option Data → Option Data
found_at o value later = match_ordering o later (Some value) later

other_at : (o p : Ordering) (other name : List ℕ) (value : Data) (ms rest : Members) → slice_cmp nat_cmp other name ≡ p
    → (o ≡ Equal → p ≡ Equal → ⊥) → get_member other rest ≡ get_member other ms
    → get_member other (if is_eq o then rest else member name value rest) ≡ get_member other (member name value ms)
other_at Less p other name value ms rest is apart same = ap (found_at (slice_cmp nat_cmp other name) value) same
other_at Greater p other name value ms rest is apart same = ap (found_at (slice_cmp nat_cmp other name) value) same
other_at Equal Less other name value ms rest is apart same = rw is same
other_at Equal Greater other name value ms rest is apart same = rw is same
other_at Equal Equal other name value ms rest is apart same = absurd (apart refl refl)

pub others : (key other : List ℕ) (document : Members) → other ≢ key
    → get_member other (without key document) ≡ get_member other document
others key other no_members apart = refl
others key other (member name value ms) apart =
    other_at (slice_cmp nat_cmp key name) (slice_cmp nat_cmp other name) other name value ms (without key ms) refl
    (λ one two. apart (same_name other name two ∙ sym (same_name key name one)))
    (others key other ms apart)

unchanged_at : (o : Ordering) (key name : List ℕ) (value : Data) (ms rest : Members)
    → found_at o value (get_member key ms) ≡ None → (get_member key ms ≡ None → rest ≡ ms)
    → (if is_eq o then rest else member name value rest) ≡ member name value ms
unchanged_at Less key name value ms rest none same = ap (member name value) (same none)
unchanged_at Equal key name value ms rest none same = absurd cc
unchanged_at Greater key name value ms rest none same = ap (member name value) (same none)

pub unchanged : (key : List ℕ) (document : Members) → get_member key document ≡ None → without key document ≡ document
unchanged key no_members none = refl
unchanged key (member name value ms) none =
    unchanged_at (slice_cmp nat_cmp key name) key name value ms (without key ms) none (unchanged key ms)

-- ---- the map of a table

-- whether a key of the map is this one
abbrev pub is_key : List ℕ → String Global → Ordering
is_key key name = slice_cmp nat_cmp key (string_bytes name)

seen_at : (o : Ordering) (value : Value) (later : Option Value) (seen : Option Data) → option_map view later ≡ seen
    → option_map view (cond (is_eq o) (Some value) later) ≡ found_at o (view value) seen
seen_at Less value later seen same = same
seen_at Equal value later seen same = refl
seen_at Greater value later seen same = same

-- what the map finds at a key
pub seen : (key : List ℕ) (es : List Entry)
    → option_map view (lookup (is_at (is_key key)) es) ≡ get_member key (members_view es)
seen key [] = refl
seen key (e ∷ es) =
    seen_at (is_key key e.0) e.1 (lookup (is_at (is_key key)) es) (get_member key (members_view es)) (seen key es)

left_at : (o : Ordering) (key : List ℕ) (e : Entry) (es : List Entry)
    → lookup (is_at (is_key key)) (cond (is_eq o) es (e ∷ remove_entry (is_at (is_key key)) es)) ≡ None
    → is_key key e.0 ≡ o
    → (lookup (is_at (is_key key)) (remove_entry (is_at (is_key key)) es) ≡ None
    → members_view (remove_entry (is_at (is_key key)) es) ≡ without key (members_view es))
    → members_view (cond (is_eq o) es (e ∷ remove_entry (is_at (is_key key)) es))
    ≡ (if is_eq o then without key (members_view es)
    else member (string_bytes e.0) (view e.1) (without key (members_view es)))
left_at Less key e es none is left = ap (member (string_bytes e.0) (view e.1)) (left (none_later is none))
  where
    none_later : is_key key e.0 ≡ Less
        → lookup (is_at (is_key key)) (e ∷ remove_entry (is_at (is_key key)) es) ≡ None
        → lookup (is_at (is_key key)) (remove_entry (is_at (is_key key)) es) ≡ None
    none_later is none = rw is at none
left_at Equal key e es none is left =
    sym (unchanged key (members_view es) (sym (seen key es) ∙ ap (option_map view) none))
left_at Greater key e es none is left = ap (member (string_bytes e.0) (view e.1)) (left (none_later is none))
  where
    none_later : is_key key e.0 ≡ Greater
        → lookup (is_at (is_key key)) (e ∷ remove_entry (is_at (is_key key)) es) ≡ None
        → lookup (is_at (is_key key)) (remove_entry (is_at (is_key key)) es) ≡ None
    none_later is none = rw is at none

-- the map without an entry of the key, where no other has it
pub left : (key : List ℕ) (es : List Entry)
    → lookup (is_at (is_key key)) (remove_entry (is_at (is_key key)) es) ≡ None
    → members_view (remove_entry (is_at (is_key key)) es) ≡ without key (members_view es)
left key [] none = refl
left key (e ∷ es) none = left_at (is_key key e.0) key e es none refl (left key es)
