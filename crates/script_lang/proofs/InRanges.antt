-- The numbers of a session lie in their ranges, its fates are known, and it has so many boards and clients.
use Rattle.std.proofs.Common.{◌≡◌, ℕ, ◌≤◌, ◌==◌, if◌then◌else◌, List, [], ◌∷◌, ◌++◌, length, Bool, true, false, Option}
use Rattle.std.proofs.Common.{Some, None, codes, nat_lt, refl, subst, arith}
use Rattle.std.specs.List.{AllByRecursion, list_all}
use Rattle.std.specs.Option.{option_and_then, unwrap_or}
use Rattle.toml.specs.Data.{Data, Members, get_member, as_str, as_table}
use Rattle.address_table.specs.Numbers.{number}
use Rattle.address_table.specs.Rules.{has_key, holds_of}
use Rattle.script_lang.specs.declared.session.Session.{Session}
use Rattle.script_lang.specs.Document.{Fault, breaks, misfits, size_faults, duplicates, IsSession}
use Rattle.script_lang.specs.declared.refusal.DocWhy.TheVariants.{NoBoards, ManyBoards}
use Rattle.script_lang.specs.declared.refusal.TheConstants.{MAX_BOARDS, MAX_CLIENTS}
use Rattle.std.proofs.lemmas.Bool.Decides.{nat_tests}
use Rattle.script_lang.specs.Fields.{items_at, tables_in, text_at, ruled_number}
use Rattle.script_lang.specs.declared.keys.ItemKind.TheVariants as items
use Rattle.script_lang.specs.declared.keys.Kind.TheVariants.{Number}
use Rattle.script_lang.specs.declared.keys.TableKind.TheVariants.{Board}
use Rattle.script_lang.specs.declared.keys.TextRule.TheVariants.{Fates}
use Rattle.script_lang.specs.Keys.{document_keys, sim_keys, board_keys, is_udp}
use Rattle.script_lang.specs.Limits.{IsBetween, AreFates, LinkKeepsRules, KeepsRules, IsWithin}
use Rattle.script_lang.specs.Sessions.{boards_of, scripts_of, script_of, board_of, link_of, sim_of, udp_of, fates_of}
use Rattle.script_lang.specs.Texts.{is_fate, keeps}
use Rattle.script_lang.specs.Walk.{keys_faults, table_faults, missing, shape_faults}
use Rattle.script_lang.proofs.Kept.{parts_none, mapped_none, no_fault, kept_value, items_kept, each_table}
use Rattle.script_lang.proofs.Numbers.{between-checked, are_limits}

in_rule : (least most default : ℕ) (name : List ℕ) (ms : Members) → least ≤ default → default ≤ most
    → IsBetween least most (ruled_number (Some (Number least most default)) (get_member name ms))
in_rule least most default name ms low high =
    let both = between-checked least most default (option_and_then number (get_member name ms)) low high in
    record { not_small = both.0; not_large = both.1 }

-- a text that keeps the rule of fates
kept_text : (o : Option (List ℕ)) → holds_of (keeps Fates) o ≡ true → list_all is_fate (unwrap_or o []) ≡ true
kept_text None h = cc
kept_text (Some text) h = h

text_there : (ms : Members) (o : Option Data) → get_member (codes "fates") ms ≡ o → is_udp ms ≡ false
    → keys_faults (board_keys ms) ms ≡ []
    → list_all is_fate (text_at (codes "fates") ms) ≡ true
text_there ms None is sim none = rw is refl
text_there ms (Some value) is sim none =
    let has : has_key (codes "fates") ms ≡ true = rw is refl in
    let rule : board_keys ms ≡ sim_keys = rw (sim, has) refl in
    let kept = kept_value sim_keys (codes "fates") ms value (subst (λ keys. keys_faults keys ms ≡ []) rule none) is in
    rw is (kept_text (as_str value) (no_fault (holds_of (keeps Fates) (as_str value)) kept))

fates_there : (ms : Members) (noise : Bool) → has_key (codes "noise") ms ≡ noise → is_udp ms ≡ false
    → keys_faults (board_keys ms) ms ≡ [] → AreFates (fates_of ms)
fates_there ms true is sim none =
    let number = in_rule 0 0xffffffff 0 (codes "noise") ms (omega arith) (omega arith) in
    rw is (omega (arith, number.not_large))
fates_there ms false is sim none = rw is (text_there ms (get_member (codes "fates") ms) refl sim none)

sim_in_rules : (ms : Members) → is_udp ms ≡ false → keys_faults (board_keys ms) ms ≡ [] → LinkKeepsRules (sim_of ms)
sim_in_rules ms sim none =
    let mtu = in_rule 92 9000 1500 (codes "mtu") ms (omega arith) (omega arith) in
    let buffers = in_rule 1 64 16 (codes "buffers") ms (omega arith) (omega arith) in
    let first = in_rule 1 65535 1 (codes "first") ms (omega arith) (omega arith) in
    record {
      mtu_in_range = (mtu.not_small, mtu.not_large);
      buffers_in_range = (buffers.not_small, buffers.not_large);
      first_in_range = record { from_one = first.not_small; up_to_end = first.not_large };
      known_fates = fates_there ms (has_key (codes "noise") ms) refl sim none;
    }

udp_in_rules : (ms : Members) → LinkKeepsRules (udp_of ms)
udp_in_rules ms = in_rule 1 10000 100 (codes "wait") ms (omega arith) (omega arith)

link_in_rules : (ms : Members) (udp : Bool) → is_udp ms ≡ udp → keys_faults (board_keys ms) ms ≡ []
    → LinkKeepsRules (link_of ms)
link_in_rules ms true is none = rw is (udp_in_rules ms)
link_in_rules ms false is none = rw is (sim_in_rules ms is none)

board_in_rules : (ms : Members) → table_faults (board_keys ms) ms ≡ [] → KeepsRules (board_of ms)
board_in_rules ms none =
    link_in_rules ms (is_udp ms) refl (parts_none (keys_faults (board_keys ms) ms) (missing (board_keys ms) ms) none).0

boards_in_rules : (document : Members) → shape_faults document ≡ []
    → AllByRecursion KeepsRules (boards_of document)
    × (length (boards_of document) ≡ length (items_at (codes "board") document))
boards_in_rules document none =
    let keys = parts_none (keys_faults document_keys document) (missing document_keys document) none in
    let kept = items_kept document_keys (items.Table Board) (codes "board") document keys.0 refl in
    rw kept.same (each_table Board board_of KeepsRules board_in_rules 0 kept.inside kept.faultless)

few : (most n : ℕ) (f : Fault) → (if nat_lt most n then f ∷ [] else []) ≡ [] → n ≤ most
few most n f h = grind (arith, nat_tests)

some : (n : ℕ) (f : Fault) → (if n == 0 then f ∷ [] else []) ≡ [] → 1 ≤ n
some n f h = grind (arith, nat_tests)

kept_more : {A : Type 0} (read : Members → A) (d : Data) (ds : List Data) (o : Option Members) → as_table d ≡ o
    → length (tables_in read ds) ≤ length ds → length (tables_in read (d ∷ ds)) ≤ length (d ∷ ds)
kept_more read d ds None is h = rw is (omega arith)
kept_more read d ds (Some ms) is h = rw is (omega arith)

kept_length : {A : Type 0} (read : Members → A) (ds : List Data) → length (tables_in read ds) ≤ length ds
kept_length read [] = omega arith
kept_length read (d ∷ ds) = kept_more read d ds (as_table d) refl (kept_length read ds)

pub within : (document : Members) (session : Session) → IsSession document session → IsWithin session
within document session is =
    let boards = items_at (codes "board") document in
    let clients = items_at (codes "client") document in
    let named =
    parts_none (misfits document ++ size_faults document ++ duplicates [] 0 (boards_of document)) _
    is.faultless in
    let sized = parts_none (misfits document ++ size_faults document) _ named.0 in
    let counted = parts_none (misfits document) _ sized.0 in
    let last =
    parts_none ((if length boards == 0 then breaks NoBoards else [])
    ++ (if nat_lt MAX_BOARDS (length boards) then breaks ManyBoards else [])) _ counted.1 in
    let many = parts_none (if length boards == 0 then breaks NoBoards else []) _ last.0 in
    let ruled = boards_in_rules document (mapped_none _ (shape_faults document) counted.0) in
    let some_boards : 1 ≤ length boards = some (length boards) _ many.0 in
    let few_boards : length boards ≤ MAX_BOARDS = few MAX_BOARDS (length boards) _ many.1 in
    let few_clients : length clients ≤ MAX_CLIENTS = few MAX_CLIENTS (length clients) _ last.1 in
    let all_boards : length (boards_of document) ≡ length boards = ruled.1 in
    let kept_clients : length (scripts_of document) ≤ length clients = kept_length script_of clients in
    record {
      some_boards = rw is.boards (omega arith);
      few_boards = rw is.boards (omega arith);
      few_clients = rw is.scripts (omega arith);
      boards = rw is.boards ruled.0;
      settings = rw is.settings (are_limits document);
    }
