-- The boards of a session have names that are words of a line, and registers whose fields can be read and written.
use Rattle.std.proofs.Common.{◌≡◌, ℕ, zero, suc, true, List, [], ◌∷◌, Some}
use Rattle.std.proofs.Common.{ap, subst, arith}
use Rattle.std.specs.List.{AllByRecursion, AllZip, slice_get, zip}
use Rattle.std.specs.FinMap.{get}
use Rattle.std.proofs.lemmas.Option.{same_Some}
use Rattle.ipb_base.proofs.AllLemmas.{all-map}
use Rattle.toml.specs.Data.{Members}
use Rattle.address_table.specs.Rules.{is_id}
use Rattle.board_specs.specs.declared.spec.BoardSpec.{BoardSpec}
use Rattle.node_tree.specs.Maps.{AreValidTables, Name, RegisterMap, TableMap}
use Rattle.node_tree.specs.Names.{IsIndexOf}
use Rattle.node_tree.specs.Refusals.{KeepsRules}
use Rattle.node_tree.specs.declared.register.Register.{Register}
use Rattle.script_lang.specs.Document.{IsSession}
use Rattle.script_lang.specs.declared.session.Session.{Session}
use Rattle.script_lang.proofs.BoardIds.{boards_have_ids}
use Rattle.script_lang.proofs.Registers.{AreSoundRegisters, IsSoundRegister, session_registers}
use Rattle.script_lang.proofs.ValidTables.{valid_tables}
use Rattle.board_history.proofs.Lists.{all_at}
use Rattle.config_store.specs.Kept.{indexed_boards}
use Rattle.config_store.specs.Meanings.{HaveWordNames, IsBoardWord, IsOneWord}
use Rattle.config_laws.specs.Fields.{HasField, HaveFields}
use Rattle.config_laws.proofs.SavedLines.{first_of}

abbrev pub BoardWords : Type 0
BoardWords = (name : Name) → is_id name ≡ true → IsBoardWord name

abbrev pub RegisterWords : Type 0
RegisterWords = (tables : TableMap) (root : Name) (index : RegisterMap) (name : Name) (r : Register)
    → AreValidTables tables → IsIndexOf tables root index → get index name ≡ Some r → IsOneWord name

-- ---- boards and indexes at their places

pub second_of : {A B : Type 0} (xs : List A) (ys : List B) (k : ℕ) (pair : A × B) → slice_get (zip xs ys) k ≡ Some pair
    → slice_get ys k ≡ Some pair.1
second_of [] ys k pair at = absurd cc
second_of (x ∷ xs) [] k pair at = absurd cc
second_of (x ∷ xs) (y ∷ ys) zero pair at = ap (λ p. Some p.1) (same_Some (x, y) pair at)
second_of (x ∷ xs) (y ∷ ys) (suc k) pair at = second_of xs ys k pair at

pub zip_at : {A B : Type 0} (R : A → B → Type 0) (xs : List A) (ys : List B) (k : ℕ) (pair : A × B) → AllZip R xs ys
    → slice_get (zip xs ys) k ≡ Some pair → R pair.0 pair.1
zip_at R [] ys k pair all at = absurd cc
zip_at R (x ∷ xs) [] k pair all at = absurd cc
zip_at R (x ∷ xs) (y ∷ ys) zero pair all at =
    subst (λ p. R p.0 p.1) (same_Some (x, y) pair at) all.0
zip_at R (x ∷ xs) (y ∷ ys) (suc k) pair all at = zip_at R xs ys k pair all.1 at

pub word_names : BoardWords → RegisterWords → (document : Members) (session : Session) (indexes : List RegisterMap)
    → IsSession document session
    → AllZip (λ (b : BoardSpec) (index : RegisterMap). IsIndexOf session.tables b.table index) session.boards indexes
    → HaveWordNames (indexed_boards session.boards indexes)
word_names words names document session indexes is are = record {
  boards' = λ i b at.
      all_at (λ (board : BoardSpec). IsBoardWord board.name) session.boards i b.0 (all-map
      (λ (board : BoardSpec). is_id board.name ≡ true) (λ (board : BoardSpec). IsBoardWord board.name) session.boards
      (λ board. words board.name) (boards_have_ids document session is)) (first_of session.boards indexes i b at);
  registers' = λ i b name r at there.
      names session.tables b.0.table b.1 name r (valid_tables document session is)
      (zip_at (λ (board : BoardSpec) (index : RegisterMap). IsIndexOf session.tables board.table index) session.boards
      indexes i b are at) there;
}

has_field : (r : Register) → IsSoundRegister r → HasField r
has_field r is = record { address' = omega (arith, is.register'.last); some = is.register'.fits.masked; mask' = is.mask' }

pub have_fields : (document : Members) (session : Session) (indexes : List RegisterMap) → IsSession document session
    → AllByRecursion (λ (b : BoardSpec). KeepsRules session.tables b.table) session.boards
    → AllZip (λ (b : BoardSpec) (index : RegisterMap). IsIndexOf session.tables b.table index) session.boards indexes
    → HaveFields (indexed_boards session.boards indexes)
have_fields document session indexes is kept are i b name r at there =
    has_field r (all_at AreSoundRegisters indexes i b.1 (session_registers document session indexes is kept are)
    (second_of session.boards indexes i b at) name r there)
