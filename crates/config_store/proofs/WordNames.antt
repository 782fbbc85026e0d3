-- Names of boards and of registers are words of a line.
use Rattle.std.proofs.Common.{◌≡◌, ℕ, ◌<◌, ◌≤◌, List, Some, true, refl, arith}
use Rattle.std.proofs.lemmas.Bool.Decides.{nat_tests}
use Rattle.std.specs.Char.{digit_value}
use Rattle.std.specs.FinMap.{get}
use Rattle.address_table.specs.Rules.{is_id, is_id_byte}
use Rattle.node_tree.specs.Maps.{AreValidTables, Name, RegisterMap, TableMap}
use Rattle.node_tree.specs.Names.{IsIndexOf}
use Rattle.node_tree.specs.declared.register.Register.{Register}
use Rattle.node_tree.proofs.NameBytes.{id_passes, register_passes}
use Rattle.config_store.specs.Meanings.{is_no_colon, is_word_byte, IsBoardWord, IsOneWord}

visible : (byte : ℕ) → is_id_byte byte ≡ true → is_word_byte byte ≡ true
visible byte h = grind (arith, nat_tests)

no_colon : (byte : ℕ) → is_id_byte byte ≡ true → is_no_colon byte ≡ true
no_colon byte h = grind (arith, nat_tests)

pub board_word : (text : List ℕ) → is_id text ≡ true → IsBoardWord text
board_word text is = (id_passes is_word_byte visible text is, id_passes is_no_colon no_colon text is)

digit_low : (c : ℕ) → digit_value c < 10 → 48 ≤ c
digit_low c h = grind (arith, nat_tests)

visible_digit : (c : ℕ) → 48 ≤ c → is_word_byte c ≡ true
visible_digit c h = grind (arith, nat_tests)

pub register_word : (tables : TableMap) (root : Name) (index : RegisterMap) (name : Name) (r : Register)
    → AreValidTables tables → IsIndexOf tables root index → get index name ≡ Some r → IsOneWord name
register_word =
    register_passes is_word_byte visible (λ byte digit. visible_digit byte (digit_low byte digit)) refl refl refl
