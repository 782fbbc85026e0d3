-- Names of boards are keys without quotes, and names of registers stand for themselves between quotes.
use Rattle.std.proofs.Common.{◌≡◌, ℕ, ◌<◌, true}
use Rattle.std.proofs.Common.{length, Some, refl, arith}
use Rattle.std.specs.Char.{digit_value}
use Rattle.std.specs.FinMap.{get}
use Rattle.std.specs.List.{AllByRecursion, list_all}
use Rattle.std.proofs.lemmas.Bool.{and_parts}
use Rattle.std.proofs.lemmas.Bool.Decides.{nat_tests}
use Rattle.ipb_base.specs.Digits.{is_between}
use Rattle.ipb_base.proofs.AllLemmas.{all-map}
use Rattle.toml.specs.Data.{Members}
use Rattle.toml_parser.specs.Lexical.{is_bare}
use Rattle.address_table.specs.Limits.{longest_id}
use Rattle.address_table.specs.Rules.{is_id, is_id_byte}
use Rattle.board_specs.specs.declared.spec.BoardSpec.{BoardSpec}
use Rattle.node_tree.specs.Maps.{AreValidTables, Name, RegisterMap, TableMap}
use Rattle.node_tree.specs.Names.{IsIndexOf}
use Rattle.node_tree.specs.declared.register.Register.{Register}
use Rattle.node_tree.proofs.NameBytes.{register_passes}
use Rattle.script_lang.specs.Document.{IsSession}
use Rattle.script_lang.specs.declared.session.Session.{Session}
use Rattle.script_lang.proofs.BoardIds.{boards_have_ids}
use Rattle.config_laws.specs.ReadBack.{IsBareKey, is_quotable}
use Rattle.config_laws.proofs.TextWords.{pass_each}

-- ---- bytes

abbrev pub IsQuotable : Name → Type 0
IsQuotable name = list_all is_quotable name ≡ true

id_quotable : (byte : ℕ) → is_id_byte byte ≡ true → is_quotable byte ≡ true
id_quotable byte h = grind (arith, nat_tests)

id_bare : (byte : ℕ) → is_id_byte byte ≡ true → is_bare byte ≡ true
id_bare byte h = grind (arith, nat_tests)

bare_key : (name : Name) → is_id name ≡ true → IsBareKey name
bare_key name is =
    let (long, bytes) = and_parts (is_between 1 longest_id (length name)) (list_all is_id_byte name) is in
    record {
      some = grind (arith, nat_tests);
      bare = pass_each is_id_byte is_bare id_bare name bytes;
    }

-- ---- names of registers

quotable_digit : (c : ℕ) → digit_value c < 10 → is_quotable c ≡ true
quotable_digit c less = grind (arith, nat_tests)

pub register_quotable : (tables : TableMap) (root : Name) (index : RegisterMap) (name : Name) (r : Register)
    → AreValidTables tables → IsIndexOf tables root index → get index name ≡ Some r → IsQuotable name
register_quotable = register_passes is_quotable id_quotable quotable_digit refl refl refl

-- ---- names of boards

pub boards_bare : (document : Members) (session : Session) → IsSession document session
    → AllByRecursion (λ (b : BoardSpec). IsBareKey b.name) session.boards
boards_bare document session is =
    all-map (λ (b : BoardSpec). is_id b.name ≡ true) (λ (b : BoardSpec). IsBareKey b.name) session.boards
    (λ b. bare_key b.name) (boards_have_ids document session is)
