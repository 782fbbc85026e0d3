-- Bytes have one answer.
use Rattle.std.proofs.Common.{◌≡◌, ℕ, List, [], Option, Some, slice_get, refl, subst}
use Rattle.address_table.specs.declared.refusal.TableRefusal.TheVariants as table_refusal
use Rattle.script_lang.specs.declared.refusal.DocWhy.TheVariants.{NotToml, Shape, NoBoards, ManyBoards, ManyClients}
use Rattle.script_lang.specs.declared.refusal.DocWhy.TheVariants.{DuplicateBoard}
use Rattle.script_lang.specs.declared.refusal.SessionRefusal.{SessionRefusal}
use Rattle.script_lang.specs.declared.refusal.SessionRefusal.TheVariants as refusal
use Rattle.script_lang.specs.declared.session.Session.{Session}
use Rattle.script_lang.specs.Document.{Fault, faults, IsSession, IsNotToml, StandsFor, HasFirstFault, IsRefusal}
use Rattle.script_lang.specs.Document.{SameSession}
use Rattle.script_lang.proofs.Answered.{one_session, one_document}

pub stands_once : (bytes : List ℕ) (s t : Session) → StandsFor bytes s → StandsFor bytes t → SameSession s t
stands_once bytes s t a b =
    one_session a.0 s t a.2 (subst (λ d. IsSession d t) (one_document bytes b.0 a.0 b.1 a.1) b.2)

no_first : (bytes : List ℕ) (session : Session) (f : Fault) → StandsFor bytes session → HasFirstFault bytes f → ⊥
no_first bytes session f stands first =
    let none : faults first.0 ≡ [] =
    subst (λ d. faults d ≡ []) (one_document bytes stands.0 first.0 stands.1 first.1) stands.2.faultless in
    let bad : slice_get [] 0 ≡ Some f = subst (λ fs. slice_get fs 0 ≡ Some f) none first.2 in
    cc

pub not_both : (bytes : List ℕ) (session : Session) (r : SessionRefusal) → StandsFor bytes session → IsRefusal bytes r
    → r ≡ refusal.NoMemory
not_both bytes session (refusal.Document path NotToml) stands told = absurd (told.1 stands.0 stands.1)
not_both bytes session (refusal.Document path Shape) stands told = absurd (no_first bytes session _ stands told)
not_both bytes session (refusal.Document path NoBoards) stands told = absurd (no_first bytes session _ stands told)
not_both bytes session (refusal.Document path ManyBoards) stands told = absurd (no_first bytes session _ stands told)
not_both bytes session (refusal.Document path ManyClients) stands told = absurd (no_first bytes session _ stands told)
not_both bytes session (refusal.Document path DuplicateBoard) stands told =
    absurd (no_first bytes session _ stands told)
not_both bytes session (refusal.Table name (table_refusal.At path why)) stands told =
    absurd (no_first bytes session _ stands told)
not_both bytes session (refusal.Table name table_refusal.NoMemory) stands told = absurd told
not_both bytes session refusal.NoMemory stands told = refl

the_same : {A : Type 0} (o : Option A) (x y : A) → o ≡ Some x → o ≡ Some y → x ≡ y
the_same o x y a b = cc

pub same_fault : (bytes : List ℕ) (f g : Fault) → HasFirstFault bytes f → HasFirstFault bytes g → f ≡ g
same_fault bytes f g a b =
    the_same _ f g a.2 (subst (λ d. slice_get (faults d) 0 ≡ Some g) (one_document bytes b.0 a.0 b.1 a.1) b.2)

pub is_toml : (bytes : List ℕ) (f : Fault) → HasFirstFault bytes f → IsNotToml bytes → ⊥
is_toml bytes f a no_toml = no_toml a.0 a.1

pub ruleset one_fault = (same_fault, is_toml)
