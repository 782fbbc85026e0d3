-- What reading a parsed document gives, said of the bytes that it was parsed from.
use Rattle.std.proofs.Common.{◌≡◌, ℕ, List, [], Option, Some, None, Result, Ok, Err, IfOk, IfErr, MatchResult}
use Rattle.std.proofs.Common.{slice_get, refl, sym, ◌∙◌, subst}
use Rattle.toml.specs.Data.{Data, Members}
use Rattle.address_table.specs.declared.nodes.Table.{Table}
use Rattle.address_table.specs.declared.refusal.TableRefusal.TheVariants as table_refusal
use Rattle.address_table.proofs.Same.{one_table}
use Rattle.script_lang.specs.declared.refusal.DocWhy.TheVariants.{NotToml, Shape, NoBoards, ManyBoards, ManyClients}
use Rattle.script_lang.specs.declared.refusal.DocWhy.TheVariants.{DuplicateBoard}
use Rattle.script_lang.specs.declared.refusal.SessionRefusal.{SessionRefusal}
use Rattle.script_lang.specs.declared.refusal.SessionRefusal.TheVariants as refusal
use Rattle.script_lang.specs.declared.session.Session.{Session}
use Rattle.script_lang.specs.Document.{Fault, faults, IsTableAt, IsSession, IsToml, StandsFor, IsRefusal}
use Rattle.script_lang.specs.Document.{SameTableAt, SameSession, TellsFault, TellsNotToml}

same_at : (format : ℕ) (value : Option Data) (t u : Option Table) → IsTableAt format value t → IsTableAt format value u
    → SameTableAt t u
same_at format None None None a b = tt
same_at format None (Some t) u a b = absurd a
same_at format None None (Some u) a b = absurd b
same_at format (Some d) (Some t) (Some u) a b = one_table format format d t u a b
same_at format (Some d) None u a b = absurd a
same_at format (Some d) (Some t) None a b = absurd b

-- a document stands for one session
pub one_session : (document : Members) (s t : Session) → IsSession document s → IsSession document t → SameSession s t
one_session document s t a b = record {
  settings = a.settings ∙ sym b.settings;
  tables = λ name. same_at _ _ _ _ (a.tables name) (b.tables name);
  boards = a.boards ∙ sym b.boards;
  scripts = a.scripts ∙ sym b.scripts;
}

the_same : {A : Type 0} (o : Option A) (x y : A) → o ≡ Some x → o ≡ Some y → x ≡ y
the_same o x y a b = cc

-- bytes are the TOML text of one document
pub one_document : (bytes : List ℕ) (c d : Members) → IsToml bytes c → IsToml bytes d → c ≡ d
one_document bytes c d a b = the_same _ c d a.1 b.1

none_first : (fs : List Fault) (f : Fault) → fs ≡ [] → slice_get fs 0 ≡ Some f → ⊥
none_first fs f none h = cc

-- where there is no fault, only want of memory is told
pub only_memory : (fs : List Fault) (r : SessionRefusal) → fs ≡ [] → TellsFault fs r → r ≡ refusal.NoMemory
only_memory fs (refusal.Document path NotToml) none h = absurd h
only_memory fs (refusal.Document path Shape) none h = absurd (none_first fs _ none h)
only_memory fs (refusal.Document path NoBoards) none h = absurd (none_first fs _ none h)
only_memory fs (refusal.Document path ManyBoards) none h = absurd (none_first fs _ none h)
only_memory fs (refusal.Document path ManyClients) none h = absurd (none_first fs _ none h)
only_memory fs (refusal.Document path DuplicateBoard) none h = absurd (none_first fs _ none h)
only_memory fs (refusal.Table name (table_refusal.At path why)) none h = absurd (none_first fs _ none h)
only_memory fs (refusal.Table name table_refusal.NoMemory) none h = absurd h
only_memory fs refusal.NoMemory none h = refl

-- bytes that stand for a session are TOML, so that only want of memory is left
pub memory_alone : (bytes : List ℕ) (r : SessionRefusal) (session : Session) → TellsNotToml bytes r
    → StandsFor bytes session → r ≡ refusal.NoMemory
memory_alone bytes (refusal.Document path NotToml) session told stands = absurd (told.1 stands.0 stands.1)
memory_alone bytes (refusal.Document path Shape) session told stands = absurd told
memory_alone bytes (refusal.Document path NoBoards) session told stands = absurd told
memory_alone bytes (refusal.Document path ManyBoards) session told stands = absurd told
memory_alone bytes (refusal.Document path ManyClients) session told stands = absurd told
memory_alone bytes (refusal.Document path DuplicateBoard) session told stands = absurd told
memory_alone bytes (refusal.Table name why) session told stands = absurd told
memory_alone bytes refusal.NoMemory session told stands = refl

pub not_toml : (bytes : List ℕ) (r : SessionRefusal) → TellsNotToml bytes r → IsRefusal bytes r
not_toml bytes (refusal.Document path NotToml) told = told
not_toml bytes (refusal.Document path Shape) told = absurd told
not_toml bytes (refusal.Document path NoBoards) told = absurd told
not_toml bytes (refusal.Document path ManyBoards) told = absurd told
not_toml bytes (refusal.Document path ManyClients) told = absurd told
not_toml bytes (refusal.Document path DuplicateBoard) told = absurd told
not_toml bytes (refusal.Table name why) told = absurd told
not_toml bytes refusal.NoMemory told = tt

-- what reading a document gives is the session that it stands for
pub only : (document : Members) (result : Result Session SessionRefusal) → IfOk result (IsSession document)
    → IfErr result (TellsFault (faults document)) → (session : Session) → IsSession document session
    → MatchResult result (λ read. SameSession read session) (λ r. r ≡ refusal.NoMemory)
only document (Ok read) found told session is = one_session document read session found is
only document (Err r) found told session is = only_memory (faults document) r is.faultless told

module _ (bytes : List ℕ) (document : Members) (toml : IsToml bytes document) where
  refused_as : (r : SessionRefusal) → TellsFault (faults document) r → IsRefusal bytes r
  refused_as (refusal.Document path NotToml) h = absurd h
  refused_as (refusal.Document path Shape) h = (document, toml, h)
  refused_as (refusal.Document path NoBoards) h = (document, toml, h)
  refused_as (refusal.Document path ManyBoards) h = (document, toml, h)
  refused_as (refusal.Document path ManyClients) h = (document, toml, h)
  refused_as (refusal.Document path DuplicateBoard) h = (document, toml, h)
  refused_as (refusal.Table name (table_refusal.At path why)) h = (document, toml, h)
  refused_as (refusal.Table name table_refusal.NoMemory) h = absurd h
  refused_as refusal.NoMemory h = tt

  pub refused : (result : Result Session SessionRefusal) → IfErr result (TellsFault (faults document))
      → IfErr result (IsRefusal bytes)
  refused (Ok read) h = tt
  refused (Err r) h = refused_as r h

  -- what the bytes stand for is what their document stands for
  pub of_document : (session : Session) → StandsFor bytes session → IsSession document session
  of_document session stands =
      subst (λ d. IsSession d session) (one_document bytes stands.0 document stands.1 toml) stands.2
