-- The names of the boards of a session are ids.
use Rattle.std.proofs.Common.{◌≡◌, ℕ, zero, suc, Bool, true, false, not, ◌&&◌, if◌then◌else◌, List, [], ◌∷◌, ◌++◌, codes}
use Rattle.std.proofs.Common.{Option, Some, None, is_some, refl, sym, ap, ◌∙◌, subst}
use Rattle.std.specs.List.{AllByRecursion, slice_get}
use Rattle.std.specs.Option.{unwrap_or}
use Rattle.std.proofs.lemmas.Option.{same_Some}
use Rattle.toml.specs.Data.{Data, Members, as_str, get_member}
use Rattle.address_table.specs.Rules.{has_key, holds_of, is_id}
use Rattle.board_specs.specs.declared.spec.BoardSpec.{BoardSpec}
use Rattle.script_lang.specs.Document.{IsSession, duplicates, misfits, size_faults}
use Rattle.script_lang.specs.Fields.{text_at}
use Rattle.script_lang.specs.Keys.{KeyRule, board_keys, document_keys, is_udp, kind_at, sim_keys, sim_keys_with_noise}
use Rattle.script_lang.specs.Keys.{udp_keys}
use Rattle.script_lang.specs.Sessions.{board_of, boards_of}
use Rattle.script_lang.specs.Walk.{Way, keys_faults, missing, shape_faults, table_faults, value_faults}
use Rattle.script_lang.specs.declared.session.Session.{Session}
use Rattle.script_lang.proofs.Kept.{each_table, items_kept, kept_value, mapped_none, no_fault, parts_none}

-- what stands under the key `name` is an id
name_id : (udp fates : Bool) (value : Data)
    → value_faults (kind_at (if udp then udp_keys else if fates then sim_keys else sim_keys_with_noise) (codes "name")) value
    ≡ []
    → holds_of is_id (as_str value) ≡ true
name_id true fates value none = no_fault (holds_of is_id (as_str value)) none
name_id false true value none = no_fault (holds_of is_id (as_str value)) none
name_id false false value none = no_fault (holds_of is_id (as_str value)) none

first_missing : (needed has : Bool) → needed ≡ true → (way : Way) (ways : List Way)
    → (if needed && not has then way ∷ ways else ways) ≡ [] → has ≡ true
first_missing true true needed way ways none = refl
first_missing true false needed way ways none = absurd cc
first_missing false has needed way ways none = absurd cc

later_missing : (lacks : Bool) (way : Way) (ways : List Way) → (if lacks then way ∷ ways else ways) ≡ [] → ways ≡ []
later_missing true way ways none = absurd cc
later_missing false way ways none = none

missing_has : (keys : List KeyRule) (ms : Members) (i : ℕ) (key : KeyRule) → missing keys ms ≡ []
    → slice_get keys i ≡ Some key → key.is_needed ≡ true → has_key key.name ms ≡ true
missing_has [] ms i key none at needed = absurd cc
missing_has (k ∷ keys) ms zero key none at needed =
    let same : k ≡ key = same_Some k key at in
    let is : k.is_needed ≡ true = ap (λ (x : KeyRule). x.is_needed) same ∙ needed in
    subst (λ (x : KeyRule). has_key x.name ms ≡ true) same
    (first_missing k.is_needed (has_key k.name ms) is _ (missing keys ms) none)
missing_has (k ∷ keys) ms (suc i) key none at needed =
    missing_has keys ms i key (later_missing (k.is_needed && not (has_key k.name ms)) _ (missing keys ms) none) at needed

name_missing : (udp fates : Bool) (ms : Members)
    → missing (if udp then udp_keys else if fates then sim_keys else sim_keys_with_noise) ms ≡ []
    → has_key (codes "name") ms ≡ true
name_missing true fates ms none = missing_has udp_keys ms 2 _ none refl refl
name_missing false true ms none = missing_has sim_keys ms 5 _ none refl refl
name_missing false false ms none = missing_has sim_keys_with_noise ms 6 _ none refl refl

kept_id : (o : Option (List ℕ)) → holds_of is_id o ≡ true → is_id (unwrap_or o []) ≡ true
kept_id None h = absurd cc
kept_id (Some text) h = h

id_there : (ms : Members) (o : Option Data) → get_member (codes "name") ms ≡ o → has_key (codes "name") ms ≡ true
    → keys_faults (board_keys ms) ms ≡ [] → is_id (text_at (codes "name") ms) ≡ true
id_there ms None is has none =
    let lacks : has_key (codes "name") ms ≡ false = ap (λ (o : Option Data). is_some o) is in
    let both : true ≡ false = sym has ∙ lacks in absurd cc
id_there ms (Some value) is has none =
    rw is (kept_id (as_str value)
    (name_id (is_udp ms) (has_key (codes "fates") ms) value (kept_value (board_keys ms) (codes "name") ms value none is)))

board_id : (ms : Members) → table_faults (board_keys ms) ms ≡ [] → is_id (board_of ms).name ≡ true
board_id ms none =
    let both = parts_none (keys_faults (board_keys ms) ms) (missing (board_keys ms) ms) none in
    id_there ms (get_member (codes "name") ms) refl
    (name_missing (is_udp ms) (has_key (codes "fates") ms) ms both.1) both.0

boards_ids : (document : Members) → shape_faults document ≡ []
    → AllByRecursion (λ (b : BoardSpec). is_id b.name ≡ true) (boards_of document)
boards_ids document none =
    let keys = parts_none (keys_faults document_keys document) (missing document_keys document) none in
    let kept = items_kept document_keys _ (codes "board") document keys.0 refl in
    rw kept.same
    (each_table _ board_of (λ (b : BoardSpec). is_id b.name ≡ true) board_id 0 kept.inside kept.faultless).0

pub boards_have_ids : (document : Members) (session : Session) → IsSession document session
    → AllByRecursion (λ (b : BoardSpec). is_id b.name ≡ true) session.boards
boards_have_ids document session is =
    let named =
    parts_none (misfits document ++ size_faults document ++ duplicates [] 0 (boards_of document)) _ is.faultless in
    let sized = parts_none (misfits document ++ size_faults document) _ named.0 in
    let counted = parts_none (misfits document) _ sized.0 in
    rw is.boards (boards_ids document (mapped_none _ (shape_faults document) counted.0))
