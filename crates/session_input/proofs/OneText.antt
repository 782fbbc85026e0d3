-- Bytes have one answer to a command.
use Rattle.std.proofs.Common.{◌≡◌, ◌⊎◌, ℕ, ◌≤◌, ◌<◌, List, [], Option, Some, None, length, map, slice_get, inl, inr}
use Rattle.std.proofs.Common.{refl, sym, ap, subst, ◌∙◌, arith}
use Rattle.access_policy.specs.Reading.{policy_faults}
use Rattle.access_policy.specs.declared.policy.Rule.{Rule}
use Rattle.node_tree.specs.Maps.{RegisterMap}
use Rattle.script_steps.specs.declared.operation.Step.{Step}
use Rattle.script_lang.specs.declared.refusal.DocWhy.TheVariants.{NotToml, Shape, NoBoards, ManyBoards, ManyClients}
use Rattle.script_lang.specs.declared.refusal.DocWhy.TheVariants.{DuplicateBoard}
use Rattle.script_lang.specs.declared.session.Session.{Session}
use Rattle.script_lang.specs.Document.{Fault, in_document, in_table, faults, IsSession, IsToml, IsNotToml, SameSession}
use Rattle.script_lang.specs.Paths.{path as path_text}
use Rattle.toml.specs.Data.{Data, Members, get_member}
use Rattle.session_input.specs.declared.refusal.Refusal.{Refusal}
use Rattle.session_input.specs.declared.refusal.Refusal.TheVariants.{TooLong, Document, Table, Policy, NoServe}
use Rattle.session_input.specs.declared.refusal.Refusal.TheVariants.{OneBoard, NotSim, Compile, Board, Script}
use Rattle.session_input.specs.Below.{DocumentLaws, TableLaws}
use Rattle.session_input.specs.Numbers.{document_bytes}
use Rattle.session_input.specs.Deserved.{AreSteps, BreaksInRun, BreaksInServe, BreaksInCheck, BreaksDocument, BreaksParts}
use Rattle.session_input.specs.Deserved.{BreaksPolicy, DeservesUnread, Deserves, HasFirstRefusal, HasPolicy, IsListed}
use Rattle.session_input.specs.Deserved.{IsPolicyOf, IsRunnable, IsServable, StandsForSession, policy_key, session_part}
use Rattle.session_input.proofs.OneAnswer.{one_break, one_serve_break, runs_unbroken, one_steps, same_table, table_apart}
use Rattle.session_input.proofs.Moved.{root_moved, told_moved, steps_moved, break_moved, serve_moved}

-- ---- the document and its policy

abbrev told_of : Fault → Refusal
told_of (in_document path why) = Document path why
told_of (in_table table path why) = Table table path why

-- what a refusal of a document is: that of its first fault, or of its policy
abbrev pub IsOfParts : Members → Option Data → Refusal → Type 0
IsOfParts rest value r =
    ((f : Fault) × (r ≡ told_of f) × (slice_get (faults rest) 0 ≡ Some f))
    ⊎ ((path : List ℕ) × (r ≡ Policy path) × (faults rest ≡ []) × BreaksPolicy value path)

pub of_parts : (rest : Members) (value : Option Data) (r : Refusal) → BreaksParts rest value r → IsOfParts rest value r
of_parts rest value (Document path NotToml) broken = absurd broken
of_parts rest value (Document path Shape) broken = inl (in_document path Shape, refl, broken)
of_parts rest value (Document path NoBoards) broken = inl (in_document path NoBoards, refl, broken)
of_parts rest value (Document path ManyBoards) broken = inl (in_document path ManyBoards, refl, broken)
of_parts rest value (Document path ManyClients) broken = inl (in_document path ManyClients, refl, broken)
of_parts rest value (Document path DuplicateBoard) broken = inl (in_document path DuplicateBoard, refl, broken)
of_parts rest value (Table table path why) broken = inl (in_table table path why, refl, broken)
of_parts rest value (Policy path) broken = inr (path, refl, broken.0, broken.1)
of_parts rest value TooLong broken = absurd broken
of_parts rest value NoServe broken = absurd broken
of_parts rest value OneBoard broken = absurd broken
of_parts rest value (NotSim name) broken = absurd broken
of_parts rest value (Compile table path why) broken = absurd broken
of_parts rest value (Board name why) broken = absurd broken
of_parts rest value (Script client line why) broken = absurd broken

not_first : {X : Type 0} (xs : List X) (x : X) → xs ≡ [] → slice_get xs 0 ≡ Some x → ⊥
not_first xs x none first = cc

same_some : {X : Type 0} (o : Option X) (x y : X) → o ≡ Some x → o ≡ Some y → x ≡ y
same_some o x y a b = cc

same_path : (value : Option Data) (path other : List ℕ) → BreaksPolicy value path → BreaksPolicy value other
    → path ≡ other
same_path None path other first second = absurd first
same_path (Some value) path other first second =
    same_some (slice_get (map path_text (policy_faults value)) 0) path other first second

pub same_broken : (rest : Members) (value : Option Data) (r q : Refusal) → IsOfParts rest value r → IsOfParts rest value q
    → r ≡ q
same_broken rest value r q (inl a) (inl b) =
    a.1 ∙ (ap told_of (same_some (slice_get (faults rest) 0) a.0 b.0 a.2 b.2) ∙ sym b.1)
same_broken rest value r q (inl a) (inr b) = absurd (not_first (faults rest) a.0 b.2 a.2)
same_broken rest value r q (inr a) (inl b) = absurd (not_first (faults rest) b.0 a.2 b.2)
same_broken rest value r q (inr a) (inr b) =
    a.1 ∙ (ap (λ path. Policy path) (same_path value a.0 b.0 a.3 b.3) ∙ sym b.1)

policy_faultless : (value : Option Data) (policy : Option (List Rule)) (path : List ℕ) → IsPolicyOf value policy
    → BreaksPolicy value path → ⊥
policy_faultless None policy path is broken = broken
policy_faultless (Some value) None path is broken = is
policy_faultless (Some value) (Some rules) path is broken =
    not_first (map path_text (policy_faults value)) path
    (ap (map path_text) is.0) broken

-- what stands for a session and a policy breaks no rule
pub unbroken : (rest : Members) (value : Option Data) (s : Session) (policy : Option (List Rule)) (r : Refusal)
    → IsSession rest s → IsPolicyOf value policy → IsOfParts rest value r → ⊥
unbroken rest value s policy r is has (inl a) = not_first (faults rest) a.0 is.faultless a.2
unbroken rest value s policy r is has (inr a) = policy_faultless value policy a.0 has a.3

pub same_policy : (value : Option Data) (p q : Option (List Rule)) → IsPolicyOf value p → IsPolicyOf value q → p ≡ q
same_policy None None None one other = refl
same_policy None (Some rules) q one other = absurd one
same_policy None None (Some rules) one other = absurd other
same_policy (Some value) None q one other = absurd one
same_policy (Some value) (Some rules) None one other = absurd other
same_policy (Some value) (Some rules) (Some more) one other =
    ap (λ (all : List Rule). Some all) (one.1 ∙ sym other.1)

-- ---- bytes

-- what a refusal of bytes is that are no document of a session: they are too long, or no TOML, or break a first rule
abbrev pub IsKind : List ℕ → Refusal → Type 0
IsKind bytes r =
    ((r ≡ TooLong) × (document_bytes < length bytes))
    ⊎ (((r ≡ Document [] NotToml) × (length bytes ≤ document_bytes) × IsNotToml bytes)
    ⊎ ((length bytes ≤ document_bytes) × HasFirstRefusal bytes r))

pub kind_of : (bytes : List ℕ) (r : Refusal) → DeservesUnread bytes r → IsKind bytes r
kind_of bytes TooLong d = inl (refl, d)
kind_of bytes (Document path NotToml) d = inr (inl (ap (λ p. Document p NotToml) d.1, d.0, d.2))
kind_of bytes (Document path Shape) d = inr (inr d)
kind_of bytes (Document path NoBoards) d = inr (inr d)
kind_of bytes (Document path ManyBoards) d = inr (inr d)
kind_of bytes (Document path ManyClients) d = inr (inr d)
kind_of bytes (Document path DuplicateBoard) d = inr (inr d)
kind_of bytes (Table table path why) d = inr (inr d)
kind_of bytes (Policy path) d = inr (inr d)
kind_of bytes NoServe d = inr (inr d)
kind_of bytes OneBoard d = inr (inr d)
kind_of bytes (NotSim name) d = inr (inr d)
kind_of bytes (Compile table path why) d = inr (inr d)
kind_of bytes (Board name why) d = inr (inr d)
kind_of bytes (Script client line why) d = inr (inr d)

pub not_both_sizes : (n : ℕ) → document_bytes < n → n ≤ document_bytes → ⊥
not_both_sizes n long fits = omega (arith, long, fits)

module _ (documents : DocumentLaws) where
  -- what a document breaks that bytes are
  of_bytes : (bytes : List ℕ) (document : Members) (r : Refusal) → IsToml bytes document → HasFirstRefusal bytes r
      → IsOfParts (session_part document) (get_member policy_key document) r
  of_bytes bytes document r toml has =
      of_parts (session_part document) (get_member policy_key document) r
      (subst (λ d. BreaksDocument d r) (documents.one_document bytes has.0 document has.1 toml) has.2)

  stands_unread : (bytes : List ℕ) (s : Session) (policy : Option (List Rule)) (r : Refusal)
      → length bytes ≤ document_bytes → StandsForSession bytes s policy → IsKind bytes r → ⊥
  stands_unread bytes s policy r fits stands (inl long) = not_both_sizes (length bytes) long.1 fits
  stands_unread bytes s policy r fits stands (inr (inl none)) = none.2 stands.document stands.toml
  stands_unread bytes s policy r fits stands (inr (inr has)) =
      unbroken (session_part stands.document) (get_member policy_key stands.document) s policy r stands.is_session
      stands.has_policy (of_bytes bytes stands.document r stands.toml has.1)

  pub same_kind : (bytes : List ℕ) (r q : Refusal) → IsKind bytes r → IsKind bytes q → r ≡ q
  same_kind bytes r q (inl a) (inl b) = a.0 ∙ sym b.0
  same_kind bytes r q (inl a) (inr (inl b)) = absurd (not_both_sizes (length bytes) a.1 b.1)
  same_kind bytes r q (inl a) (inr (inr b)) = absurd (not_both_sizes (length bytes) a.1 b.0)
  same_kind bytes r q (inr (inl a)) (inl b) = absurd (not_both_sizes (length bytes) b.1 a.1)
  same_kind bytes r q (inr (inl a)) (inr (inl b)) = a.0 ∙ sym b.0
  same_kind bytes r q (inr (inl a)) (inr (inr b)) = absurd (a.2 b.1.0 b.1.1)
  same_kind bytes r q (inr (inr a)) (inl b) = absurd (not_both_sizes (length bytes) b.1 a.0)
  same_kind bytes r q (inr (inr a)) (inr (inl b)) = absurd (b.2 a.1.0 a.1.1)
  same_kind bytes r q (inr (inr a)) (inr (inr b)) =
      let document = a.1.0 in
      same_broken (session_part document) (get_member policy_key document) r q
      (of_bytes bytes document r a.1.1 a.1) (of_bytes bytes document q a.1.1 b.1)

  -- bytes stand for one session and one policy
  pub one_stated : (bytes : List ℕ) (s t : Session) (p q : Option (List Rule)) → StandsForSession bytes s p
      → StandsForSession bytes t q → SameSession s t × (p ≡ q)
  one_stated bytes s t p q one other =
      let same = documents.one_document bytes other.document one.document other.toml one.toml in (
        documents.one_session (session_part one.document) s t one.is_session
            (subst (λ d. IsSession (session_part d) t) same other.is_session),
        same_policy (get_member policy_key one.document) p q one.has_policy
            (subst (λ d. HasPolicy d q) same other.has_policy),
      )

  -- a command whose sessions break one rule first, and the same as sessions that are the same
  pub one_deserved : (Breaks : Session → Option (List Rule) → Refusal → Type 0)
      → ((s : Session) (p : Option (List Rule)) (r q : Refusal) → Breaks s p r → Breaks s p q → r ≡ q)
      → ((s t : Session) (p : Option (List Rule)) (r : Refusal) → SameSession s t → Breaks t p r → Breaks s p r)
      → (bytes : List ℕ) (r q : Refusal) → Deserves Breaks bytes r → Deserves Breaks bytes q → r ≡ q
  one_deserved Breaks one moved bytes r q (inl a) (inl b) = same_kind bytes r q (kind_of bytes r a) (kind_of bytes q b)
  one_deserved Breaks one moved bytes r q (inl a) (inr b) =
      absurd (stands_unread bytes b.session b.policy r b.fits b.stands (kind_of bytes r a))
  one_deserved Breaks one moved bytes r q (inr a) (inl b) =
      absurd (stands_unread bytes a.session a.policy q a.fits a.stands (kind_of bytes q b))
  one_deserved Breaks one moved bytes r q (inr a) (inr b) =
      let same = one_stated bytes a.session b.session a.policy b.policy a.stands b.stands in
      one a.session a.policy r q a.broken
      (moved a.session b.session a.policy q same.0 (subst (λ p. Breaks b.session p q) (sym same.1) b.broken))

  -- a session that keeps the rules of a command
  pub not_deserved : (Breaks : Session → Option (List Rule) → Refusal → Type 0)
      → ((s t : Session) (p : Option (List Rule)) (r : Refusal) → SameSession s t → Breaks t p r → Breaks s p r)
      → (bytes : List ℕ) (s : Session) (p : Option (List Rule)) (r : Refusal) → length bytes ≤ document_bytes
      → StandsForSession bytes s p → (Breaks s p r → ⊥)
      → Deserves Breaks bytes r → ⊥
  not_deserved Breaks moved bytes s p r fits stands unbroken (inl a) =
      stands_unread bytes s p r fits stands (kind_of bytes r a)
  not_deserved Breaks moved bytes s p r fits stands unbroken (inr b) =
      let same = one_stated bytes s b.session p b.policy stands b.stands in
      unbroken (moved s b.session p r same.0 (subst (λ q. Breaks b.session q r) (sym same.1) b.broken))

  module _ (tables : TableLaws) where
    pub run_once : (bytes : List ℕ) (s t : Session) (steps more : List (List Step))
        → IsRunnable bytes s steps → IsRunnable bytes t more → SameSession s t × (steps ≡ more)
    run_once bytes s t steps more one other =
        let same = one_stated bytes s t one.policy other.policy one.stands other.stands in (
          same.0,
          one_steps tables s one.policy steps more one.runs
              (steps_moved tables s t same.0 one.policy more (subst (λ p. AreSteps t p more) (sym same.1) other.runs)),
        )

    pub run_refused_once : (bytes : List ℕ) (r q : Refusal) → Deserves BreaksInRun bytes r
        → Deserves BreaksInRun bytes q → r ≡ q
    run_refused_once bytes r q one other =
        one_deserved BreaksInRun (λ s. one_break tables s)
        (λ s t p r same broken. break_moved tables s t same p r broken) bytes r q one other

    pub run_not_both : (bytes : List ℕ) (s : Session) (steps : List (List Step)) (r : Refusal)
        → IsRunnable bytes s steps → Deserves BreaksInRun bytes r → ⊥
    run_not_both bytes s steps r runs deserved =
        not_deserved BreaksInRun
        (λ s t p r same broken. break_moved tables s t same p r broken) bytes s runs.policy r runs.fits runs.stands
        (runs_unbroken tables s runs.policy r steps runs.runs) deserved

    pub serve_once : (bytes : List ℕ) (s t : Session) → IsServable bytes s → IsServable bytes t → SameSession s t
    serve_once bytes s t one other = (one_stated bytes s t None None one.stands other.stands).0

    pub serve_refused_once : (bytes : List ℕ) (r q : Refusal) → Deserves BreaksInServe bytes r
        → Deserves BreaksInServe bytes q → r ≡ q
    serve_refused_once bytes r q one other =
        one_deserved BreaksInServe (λ s. one_serve_break tables s)
        (λ s t p r same broken. serve_moved tables s t same p r broken) bytes r q one other

    pub serve_not_both : (bytes : List ℕ) (s : Session) (r : Refusal) → IsServable bytes s
        → Deserves BreaksInServe bytes r → ⊥
    serve_not_both bytes s r serves deserved =
        not_deserved BreaksInServe
        (λ s t p r same broken. serve_moved tables s t same p r broken) bytes s None r serves.fits serves.stands
        (runs_unbroken tables s None r serves.steps serves.runs) deserved

    pub list_once : (bytes root : List ℕ) (x y : RegisterMap) → IsListed bytes root x → IsListed bytes root y → x ≡ y
    list_once bytes root x y one other =
        let same = (one_stated bytes one.session other.session one.policy other.policy one.stands other.stands).0 in
        tables.one_index one.session.tables root x y one.is_index
        (root_moved tables one.session other.session same root y other.is_index)

    pub list_refused_once : (bytes root : List ℕ) (r q : Refusal)
        → Deserves (BreaksInCheck root) bytes r → Deserves (BreaksInCheck root) bytes q → r ≡ q
    list_refused_once bytes root r q one other =
        one_deserved (BreaksInCheck root) (λ s p r q a b. same_table tables s.tables root r q a b)
        (λ s t p r same broken. told_moved tables s t same root r broken) bytes r q one other

    pub list_not_both : (bytes root : List ℕ) (x : RegisterMap) (r : Refusal) → IsListed bytes root x
        → Deserves (BreaksInCheck root) bytes r → ⊥
    list_not_both bytes root x r lists deserved =
        not_deserved (BreaksInCheck root)
        (λ s t p r same broken. told_moved tables s t same root r broken) bytes lists.session lists.policy r lists.fits
        lists.stands
        (λ broken. table_apart tables lists.session.tables root r lists.compiles broken) deserved
