-- A document has one answer to a command.
use Rattle.std.proofs.Common.{◌≡◌, ◌⊎◌, ℕ, ◌≤◌, List, [], ◌∷◌, Option, Some, None, length, slice_get, inl, inr, sym}
use Rattle.std.proofs.Common.{ap, subst, ◌∙◌}
use Rattle.toml.specs.Data.{Members, get_member}
use Rattle.access_policy.specs.Decisions.{names_of, ruled_scripts}
use Rattle.access_policy.specs.declared.policy.Rule.{Rule}
use Rattle.node_tree.specs.Maps.{RegisterMap}
use Rattle.script_steps.specs.declared.operation.Step.{Step}
use Rattle.script_lang.specs.declared.refusal.DocWhy.TheVariants.{NotToml, Shape, NoBoards, ManyBoards, ManyClients}
use Rattle.script_lang.specs.declared.refusal.DocWhy.TheVariants.{DuplicateBoard}
use Rattle.script_lang.specs.declared.session.Session.{Session}
use Rattle.script_lang.specs.Document.{IsToml, SameSession}
use Rattle.script_lang.specs.Scripts.{script_faults, steps_of}
use Rattle.session_input.specs.declared.refusal.Refusal.{Refusal}
use Rattle.session_input.specs.declared.refusal.Refusal.TheVariants.{TooLong, Document, Table, Policy, NoServe}
use Rattle.session_input.specs.declared.refusal.Refusal.TheVariants.{OneBoard, NotSim, Compile, Board, Script}
use Rattle.session_input.specs.Below.{DocumentLaws, TableLaws}
use Rattle.session_input.specs.Numbers.{document_bytes}
use Rattle.session_input.specs.Deserved.{BreaksDocument, BreaksInRun, Compiles, HasBus, HaveBuses, IsNoText}
use Rattle.session_input.specs.Deserved.{TellsBus, TellsCompile, TellsLine, policy_key, session_part}
use Rattle.session_input.proofs.Moved.{buses_moved, compiled_moved, first_moved, kept_moved, told_moved}
use Rattle.session_input.proofs.NoText.{no_text}
use Rattle.session_input.proofs.OneAnswer.{all_right, bus_apart, no_line, one_break, one_indexes, same_line, table_apart}
use Rattle.session_input.proofs.OneText.{kind_of, not_both_sizes, of_parts, same_broken, same_kind, same_policy, unbroken}
use Rattle.config_store.specs.Kept.{indexed_boards}
use Rattle.config_store.specs.States.{StoreFault}
use Rattle.config_input.specs.declared.refusal.ConfigRefusal.{ConfigRefusal}
use Rattle.config_input.specs.declared.refusal.ConfigRefusal.TheVariants.{OfSession, OfState}
use Rattle.config_input.specs.Deserved.{BreaksBoards, BreaksCommand, BreaksInWork, BreaksOwnScripts, BreaksRule, Deserves}
use Rattle.config_input.specs.Deserved.{IsAsked, IsAskedBy, IsDocument, IsFirstFault, IsReadFor, Stands, TellsSession}
use Rattle.config_input.specs.Deserved.{TellsState}
use Rattle.config_input.specs.Work.{ConfigCommand, Work}

-- ---- refusals of two kinds

both_session : (P Q : Refusal → Type 0) → ((a b : Refusal) → P a → Q b → a ≡ b) → (r q : ConfigRefusal)
    → TellsSession P r → TellsSession Q q → r ≡ q
both_session P Q same (OfSession a) (OfSession b) one other = ap OfSession (same a b one other)
both_session P Q same (OfSession a) (OfState board name why) one other = absurd other
both_session P Q same (OfState board name why) q one other = absurd one

no_session : (P : Refusal → Type 0) → ((a : Refusal) → P a → ⊥) → (r : ConfigRefusal) → TellsSession P r → ⊥
no_session P never (OfSession a) told = never a told
no_session P never (OfState board name why) told = told

both_state : (P Q : StoreFault → Type 0) → ((a b : StoreFault) → P a → Q b → a ≡ b) → (r q : ConfigRefusal)
    → TellsState P r → TellsState Q q → r ≡ q
both_state P Q same (OfState b n w) (OfState c m v) one other =
    ap (λ (f : StoreFault). OfState f.0 f.1 f.2) (same (b, n, w) (c, m, v) one other)
both_state P Q same (OfState b n w) (OfSession a) one other = absurd other
both_state P Q same (OfSession a) q one other = absurd one

no_state : (P : StoreFault → Type 0) → ((a : StoreFault) → P a → ⊥) → (r : ConfigRefusal) → TellsState P r → ⊥
no_state P never (OfState b n w) told = never (b, n, w) told
no_state P never (OfSession a) told = told

moved_session : (P Q : Refusal → Type 0) → ((a : Refusal) → P a → Q a) → (r : ConfigRefusal) → TellsSession P r
    → TellsSession Q r
moved_session P Q gives (OfSession a) told = gives a told
moved_session P Q gives (OfState board name why) told = told

moved_state : (P Q : StoreFault → Type 0) → ((a : StoreFault) → P a → Q a) → (r : ConfigRefusal) → TellsState P r
    → TellsState Q r
moved_state P Q gives (OfState b n w) told = gives (b, n, w) told
moved_state P Q gives (OfSession a) told = told

same_some : {A : Type 0} (o : Option A) (x y : A) → o ≡ Some x → o ≡ Some y → x ≡ y
same_some o x y a b = cc

not_first : {A : Type 0} (xs : List A) (x : A) → xs ≡ [] → slice_get xs 0 ≡ Some x → ⊥
not_first xs x none first = cc

-- ---- one session

module _ (tables : TableLaws) (work : Work) (s : Session) where
  as_in_run : (a : Refusal) → BreaksBoards s a → BreaksInRun s None a
  as_in_run a (inl compiling) = inl compiling
  as_in_run a (inr bus) = inr (inl bus)

  same_boards : (a b : Refusal) → BreaksBoards s a → BreaksBoards s b → a ≡ b
  same_boards a b one other = one_break tables s None a b (as_in_run a one) (as_in_run b other)

  boards_apart : (indexes : List RegisterMap) → HaveBuses s indexes → (a : Refusal) → BreaksBoards s a → ⊥
  boards_apart indexes have a (inl compiling) =
      all_right (Compiles s.tables) (λ b. TellsCompile s.tables b.table a)
      (λ b kept told. table_apart tables s.tables b.table a kept told) s.boards have.compiled.compile compiling
  boards_apart indexes have a (inr bus) =
      all_right HasBus (λ b. TellsBus b a) (bus_apart a) s.boards have.buses bus.first

  one_index : (xs ys : List RegisterMap) → HaveBuses s xs → HaveBuses s ys → xs ≡ ys
  one_index xs ys one other = one_indexes tables s xs ys one.compiled other.compiled

  faults_at : (xs ys : List RegisterMap) → HaveBuses s xs → HaveBuses s ys
      → work.faults (indexed_boards s.boards xs) ≡ work.faults (indexed_boards s.boards ys)
  faults_at xs ys one other = ap (λ indexes. work.faults (indexed_boards s.boards indexes)) (one_index xs ys one other)

  same_fault : (a b : StoreFault) → IsFirstFault work s a → IsFirstFault work s b → a ≡ b
  same_fault a b one other =
      let same = faults_at one.indexes other.indexes one.boards other.boards in
      same_some (slice_get (work.faults (indexed_boards s.boards one.indexes)) 0) a b one.first
      (ap (λ (faults : List StoreFault). slice_get faults 0) same ∙ other.first)

  fault_apart : (xs : List RegisterMap) → HaveBuses s xs → work.faults (indexed_boards s.boards xs) ≡ [] → (a : StoreFault)
      → IsFirstFault work s a → ⊥
  fault_apart xs have none a one =
      not_first (work.faults (indexed_boards s.boards one.indexes)) a
      (faults_at one.indexes xs one.boards have ∙ none) one.first

  lines_at : (xs ys : List RegisterMap) → HaveBuses s xs → HaveBuses s ys
      → script_faults s.boards xs s.scripts ≡ script_faults s.boards ys s.scripts
  lines_at xs ys one other = ap (λ indexes. script_faults s.boards indexes s.scripts) (one_index xs ys one other)

  same_script : (a b : Refusal) → BreaksOwnScripts work s a → BreaksOwnScripts work s b → a ≡ b
  same_script a b one other =
      let same = lines_at other.indexes one.indexes other.boards one.boards in
      same_line (script_faults s.boards one.indexes s.scripts) a b one.first
      (subst (λ faults. TellsLine faults b) same other.first)

  script_apart : (xs : List RegisterMap) → HaveBuses s xs → script_faults s.boards xs s.scripts ≡ [] → (a : Refusal)
      → BreaksOwnScripts work s a → ⊥
  script_apart xs have none a one =
      no_line (script_faults s.boards one.indexes s.scripts) a
      (lines_at one.indexes xs one.boards have ∙ none) one.first

  -- behind the boards
  before_boards : (r q : ConfigRefusal) → TellsSession (BreaksBoards s) r
      → TellsState (IsFirstFault work s) q ⊎ TellsSession (BreaksOwnScripts work s) q → ⊥
  before_boards r (OfState b n w) told (inl fault) = no_session (BreaksBoards s) (boards_apart fault.indexes fault.boards) r told
  before_boards r (OfState b n w) told (inr script) = absurd script
  before_boards r (OfSession a) told (inl fault) = absurd fault
  before_boards r (OfSession a) told (inr script) =
      no_session (BreaksBoards s) (boards_apart script.indexes script.boards) r told

  before_scripts : (r q : ConfigRefusal) → TellsState (IsFirstFault work s) r → TellsSession (BreaksOwnScripts work s) q
      → ⊥
  before_scripts r (OfState b n w) told script = script
  before_scripts r (OfSession a) told script =
      no_state (IsFirstFault work s) (fault_apart script.indexes script.boards script.right) r told

  one_break_in_work : (r q : ConfigRefusal) → BreaksInWork work s r → BreaksInWork work s q → r ≡ q
  one_break_in_work r q (inl a) (inl b) = both_session (BreaksBoards s) (BreaksBoards s) same_boards r q a b
  one_break_in_work r q (inl a) (inr later) = absurd (before_boards r q a later)
  one_break_in_work r q (inr later) (inl b) = absurd (before_boards q r b later)
  one_break_in_work r q (inr (inl a)) (inr (inl b)) =
      both_state (IsFirstFault work s) (IsFirstFault work s) same_fault r q a b
  one_break_in_work r q (inr (inl a)) (inr (inr b)) = absurd (before_scripts r q a b)
  one_break_in_work r q (inr (inr a)) (inr (inl b)) = absurd (before_scripts q r b a)
  one_break_in_work r q (inr (inr a)) (inr (inr b)) =
      both_session (BreaksOwnScripts work s) (BreaksOwnScripts work s) same_script r q a b

  asked_unbroken : (policy : Option (List Rule)) (steps : List (List Step)) → IsAsked work s policy steps
      → (r : ConfigRefusal) → BreaksInWork work s r → ⊥
  asked_unbroken policy steps asks r (inl a) = no_session (BreaksBoards s) (boards_apart asks.registers asks.boards) r a
  asked_unbroken policy steps asks r (inr (inl b)) =
      no_state (IsFirstFault work s) (fault_apart asks.registers asks.boards asks.right) r b
  asked_unbroken policy steps asks r (inr (inr c)) =
      no_session (BreaksOwnScripts work s) (script_apart asks.registers asks.boards asks.faultless) r c

  one_steps : (policy : Option (List Rule)) (steps more : List (List Step)) → IsAsked work s policy steps
      → IsAsked work s policy more → steps ≡ more
  one_steps policy steps more one other =
      one.meant
      ∙ (ap (λ xs. ruled_scripts policy (names_of s.boards) (steps_of s.boards xs (work.script (indexed_boards s.boards xs) ∷ [])))
      (one_index one.registers other.registers one.boards other.boards) ∙ sym other.meant)

-- ---- sessions that are the same

module _ (tables : TableLaws) (work : Work) (s t : Session) (same : SameSession s t) where
  boards_moved : (a : Refusal) → BreaksBoards t a → BreaksBoards s a
  boards_moved a (inl compiling) =
      inl (rw same.boards
      (first_moved (Compiles t.tables) (Compiles s.tables) (λ b. TellsCompile t.tables b.table a)
      (λ b. TellsCompile s.tables b.table a)
      (kept_moved tables s t same) (λ b told. told_moved tables s t same b.table a told) t.boards compiling))
  boards_moved a (inr bus) =
      inr (record {
        indexes = bus.indexes;
        compiled = compiled_moved tables s t same bus.indexes bus.compiled;
        first = rw same.boards bus.first;
      })

  fault_moved : (a : StoreFault) → IsFirstFault work t a → IsFirstFault work s a
  fault_moved a one = record {
    indexes = one.indexes;
    boards = buses_moved tables s t same one.indexes one.boards;
    first = rw same.boards one.first;
  }

  script_moved : (a : Refusal) → BreaksOwnScripts work t a → BreaksOwnScripts work s a
  script_moved a one = record {
    indexes = one.indexes;
    boards = buses_moved tables s t same one.indexes one.boards;
    right = rw same.boards one.right;
    first = rw (same.boards, same.scripts) one.first;
  }

  break_moved : (r : ConfigRefusal) → BreaksInWork work t r → BreaksInWork work s r
  break_moved r (inl a) = inl (moved_session (BreaksBoards t) (BreaksBoards s) boards_moved r a)
  break_moved r (inr (inl b)) = inr (inl (moved_state (IsFirstFault work t) (IsFirstFault work s) fault_moved r b))
  break_moved r (inr (inr c)) =
      inr (inr (moved_session (BreaksOwnScripts work t) (BreaksOwnScripts work s) script_moved r c))

  asked_moved : (policy : Option (List Rule)) (steps : List (List Step)) → IsAsked work t policy steps
      → IsAsked work s policy steps
  asked_moved policy steps one = record {
    registers = one.registers;
    boards = buses_moved tables s t same one.registers one.boards;
    right = rw same.boards one.right;
    ordered = one.ordered;
    faultless = rw (same.boards, same.scripts) one.faultless;
    meant = rw same.boards one.meant;
  }

-- ---- one document

broken_same : (part : Members) (a b : Refusal) → BreaksDocument part a → BreaksDocument part b → a ≡ b
broken_same part a b one other =
    let rest = session_part part in
    let value = get_member policy_key part in
    same_broken rest value a b (of_parts rest value a one) (of_parts rest value b other)

broken_apart : (part : Members) (s : Session) (policy : Option (List Rule)) → Stands part s policy → (a : Refusal)
    → BreaksDocument part a → ⊥
broken_apart part s policy stands a broken =
    let rest = session_part part in
    let value = get_member policy_key part in
    unbroken rest value s policy a stands.is_session stands.has_policy (of_parts rest value a broken)

module _ (documents : DocumentLaws) (tables : TableLaws) (command : ConfigCommand) (d : Members) where
  one_session : (s t : Session) (p q : Option (List Rule)) → Stands (command.part d) s p → Stands (command.part d) t q
      → SameSession s t
  one_session s t p q one other =
      documents.one_session (session_part (command.part d)) s t one.is_session other.is_session

  one_rule : (r q : ConfigRefusal) → BreaksRule command d r → BreaksRule command d q → r ≡ q
  one_rule r q one other =
      let same = one_session one.session other.session one.policy other.policy one.stands other.stands in
      one_break_in_work tables (command.work d) one.session r q one.broken
      (break_moved tables (command.work d) one.session other.session same q other.broken)

  one_broken : (r q : ConfigRefusal) → BreaksCommand command d r → BreaksCommand command d q → r ≡ q
  one_broken r q (inl a) (inl b) =
      both_session (BreaksDocument (command.part d)) (BreaksDocument (command.part d)) (broken_same (command.part d)) r q a b
  one_broken r q (inl a) (inr b) =
      absurd (no_session (BreaksDocument (command.part d)) (broken_apart (command.part d) b.session b.policy b.stands) r a)
  one_broken r q (inr a) (inl b) =
      absurd (no_session (BreaksDocument (command.part d)) (broken_apart (command.part d) a.session a.policy a.stands) q b)
  one_broken r q (inr a) (inr b) = one_rule r q a b

  by_unbroken : (s : Session) (steps : List (List Step)) → IsAskedBy command d s steps → (r : ConfigRefusal)
      → BreaksCommand command d r → ⊥
  by_unbroken s steps is r (inl a) =
      no_session (BreaksDocument (command.part d)) (broken_apart (command.part d) s is.policy is.stands) r a
  by_unbroken s steps is r (inr b) =
      let same = one_session s b.session is.policy b.policy is.stands b.stands in
      asked_unbroken tables (command.work d) s is.policy steps is.asks r
      (break_moved tables (command.work d) s b.session same r b.broken)

  one_asked : (s t : Session) (steps more : List (List Step)) → IsAskedBy command d s steps
      → IsAskedBy command d t more → SameSession s t × (steps ≡ more)
  one_asked s t steps more one other =
      let same = one_session s t one.policy other.policy one.stands other.stands in
      let policy =
      same_policy (get_member policy_key (command.part d)) one.policy other.policy one.stands.has_policy
      other.stands.has_policy in (
        same,
        one_steps tables (command.work d) s one.policy steps more one.asks
            (asked_moved tables (command.work d) s t same one.policy more
            (subst (λ p. IsAsked (command.work d) t p more) (sym policy) other.asks)),
      )

-- ---- bytes

no_text_apart : (bytes : List ℕ) (d : Members) → length bytes ≤ document_bytes → IsToml bytes d → (a : Refusal)
    → IsNoText bytes a → ⊥
no_text_apart bytes d fits toml TooLong is = not_both_sizes (length bytes) is fits
no_text_apart bytes d fits toml (Document path NotToml) is = is.2 d toml
no_text_apart bytes d fits toml (Document path Shape) is = is
no_text_apart bytes d fits toml (Document path NoBoards) is = is
no_text_apart bytes d fits toml (Document path ManyBoards) is = is
no_text_apart bytes d fits toml (Document path ManyClients) is = is
no_text_apart bytes d fits toml (Document path DuplicateBoard) is = is
no_text_apart bytes d fits toml (Table table path why) is = is
no_text_apart bytes d fits toml (Policy path) is = is
no_text_apart bytes d fits toml NoServe is = is
no_text_apart bytes d fits toml OneBoard is = is
no_text_apart bytes d fits toml (NotSim name) is = is
no_text_apart bytes d fits toml (Compile table path why) is = is
no_text_apart bytes d fits toml (Board name why) is = is
no_text_apart bytes d fits toml (Script client line why) is = is

module _ (documents : DocumentLaws) (tables : TableLaws) (command : ConfigCommand) (bytes : List ℕ) where
  no_text_same : (a b : Refusal) → IsNoText bytes a → IsNoText bytes b → a ≡ b
  no_text_same a b one other =
      same_kind documents bytes a b (kind_of bytes a (no_text bytes a one)) (kind_of bytes b (no_text bytes b other))

  text_apart : {P : Members → Type 0} → IsDocument P bytes → (r : ConfigRefusal) → TellsSession (IsNoText bytes) r → ⊥
  text_apart is r told = no_session (IsNoText bytes) (no_text_apart bytes is.document is.fits is.toml) r told

  -- what holds of a document that the bytes are holds of the other
  of_one : (P Q : Members → Type 0) (one : IsDocument P bytes) → IsDocument Q bytes → Q one.document
  of_one P Q one other =
      subst Q (documents.one_document bytes other.document one.document other.toml one.toml) other.holds

  pub refused_once : (r q : ConfigRefusal) → Deserves command bytes r → Deserves command bytes q → r ≡ q
  refused_once r q (inl a) (inl b) = both_session (IsNoText bytes) (IsNoText bytes) no_text_same r q a b
  refused_once r q (inl a) (inr b) = absurd (text_apart b r a)
  refused_once r q (inr a) (inl b) = absurd (text_apart a q b)
  refused_once r q (inr a) (inr b) =
      one_broken documents tables command a.document r q a.holds
      (of_one (λ d. BreaksCommand command d r) (λ d. BreaksCommand command d q) a b)

  pub not_both : (s : Session) (steps : List (List Step)) (r : ConfigRefusal) → IsReadFor command bytes s steps
      → Deserves command bytes r → ⊥
  not_both s steps r is (inl a) = text_apart is r a
  not_both s steps r is (inr b) =
      by_unbroken documents tables command is.document s steps is.holds r
      (of_one (λ d. IsAskedBy command d s steps) (λ d. BreaksCommand command d r) is b)

  pub read_once : (s t : Session) (steps more : List (List Step)) → IsReadFor command bytes s steps
      → IsReadFor command bytes t more → SameSession s t × (steps ≡ more)
  read_once s t steps more one other =
      one_asked documents tables command one.document s t steps more one.holds
      (of_one (λ d. IsAskedBy command d s steps) (λ d. IsAskedBy command d t more) one other)
