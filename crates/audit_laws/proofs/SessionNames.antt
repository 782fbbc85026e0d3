-- The names of registers have no line feed: ids have none, and nor have the indexes behind them.
use Rattle.std.proofs.Common.{◌≡◌, ℕ, ◌<◌, ◌≤◌, List, Some, true, refl, arith}
use Rattle.std.proofs.lemmas.Bool.Decides.{nat_tests}
use Rattle.std.specs.Char.{digit_value}
use Rattle.std.specs.FinMap.{get}
use Rattle.address_table.specs.Rules.{is_id, is_id_byte}
use Rattle.node_tree.specs.Maps.{AreValidTables, Name, RegisterMap, TableMap}
use Rattle.node_tree.specs.Names.{IsIndexOf}
use Rattle.node_tree.specs.declared.register.Register.{Register}
use Rattle.node_tree.proofs.NameBytes.{id_passes, register_passes}
use Rattle.transcript_reader.specs.Shown.{is_no_line_feed, IsOneLine}

no_line_feed : (byte : ℕ) → is_id_byte byte ≡ true → is_no_line_feed byte ≡ true
no_line_feed byte h = grind (arith, nat_tests)

pub id_line : (text : List ℕ) → is_id text ≡ true → IsOneLine text
id_line = id_passes is_no_line_feed no_line_feed

digit_low : (c : ℕ) → digit_value c < 10 → 48 ≤ c
digit_low c h = grind (arith, nat_tests)

past_line_feed : (c : ℕ) → 48 ≤ c → is_no_line_feed c ≡ true
past_line_feed c h = grind (arith, nat_tests)

pub register_line : (tables : TableMap) (root : Name) (index : RegisterMap) (name : Name) (r : Register)
    → AreValidTables tables → IsIndexOf tables root index → get index name ≡ Some r → IsOneLine name
register_line =
    register_passes is_no_line_feed no_line_feed (λ byte digit. past_line_feed byte (digit_low byte digit)) refl refl
    refl
