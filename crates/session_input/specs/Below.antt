-- What laws of the crates below say of documents and of tables: no public clause speaks of it.
use Rattle.std.specs.Prelude.{◌≡◌, ◌↔◌, ℕ, List}
use Rattle.node_tree.specs.declared.refusal.CompileWhy.{CompileWhy}
use Rattle.node_tree.specs.declared.refusal.CompileRefusal.{CompileRefusal}
use Rattle.node_tree.specs.declared.refusal.CompileRefusal.TheVariants.{At}
use Rattle.node_tree.specs.Maps.{Name, TableMap, RegisterMap}
use Rattle.node_tree.specs.Names.{IsIndexOf}
use Rattle.node_tree.specs.Refusals.{KeepsRules, IsRefusal}
use Rattle.node_tree.specs.Same.{SameTables}
use Rattle.script_lang.specs.declared.session.Session.{Session}
use Rattle.script_lang.specs.Document.{IsSession, IsToml, SameSession}
use Rattle.toml.specs.Data.{Members}

-- bytes are the text of one document, which stands for one session
pub record DocumentLaws : Type 0 where
  pub one_document : (bytes : List ℕ) (one other : Members) → IsToml bytes one → IsToml bytes other → one ≡ other
  pub one_session : (document : Members) (s t : Session) → IsSession document s → IsSession document t
      → SameSession s t

-- tables compile into one index or are refused in one way, and tables of the same nodes alike
pub record TableLaws : Type 0 where
  pub not_refused : (tables : TableMap) (root name path : Name) (why : CompileWhy)
      → KeepsRules tables root → IsRefusal tables root (At name path why) → ⊥
  pub one_refusal : (tables : TableMap) (root name other path place : Name) (why rule : CompileWhy)
      → IsRefusal tables root (At name path why) → IsRefusal tables root (At other place rule)
      → (name ≡ other) × (path ≡ place) × (why ≡ rule)
  pub one_index : (tables : TableMap) (root : Name) (index other : RegisterMap)
      → IsIndexOf tables root index → IsIndexOf tables root other → index ≡ other
  pub same_index : (tables others : TableMap) (root : Name) (index : RegisterMap)
      → SameTables tables others → IsIndexOf tables root index ↔ IsIndexOf others root index
  pub same_kept : (tables others : TableMap) (root : Name)
      → SameTables tables others → KeepsRules tables root ↔ KeepsRules others root
  pub same_refused : (tables others : TableMap) (root : Name) (refusal : CompileRefusal)
      → SameTables tables others → IsRefusal tables root refusal ↔ IsRefusal others root refusal
