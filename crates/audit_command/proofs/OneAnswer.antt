-- An input has one answer.
use Rattle.std.proofs.Common.{◌≡◌, ◌⊎◌, ◌∙◌, ℕ, List, [], ◌∷◌, ◌++◌, Option, length, inl, inr, refl, sym, ap, subst}
use Rattle.std.specs.List.{AllByRecursion}
use Rattle.access_policy.specs.declared.policy.Rule.{Rule}
use Rattle.board_specs.specs.declared.spec.BoardSpec.{BoardSpec}
use Rattle.board_specs.specs.declared.spec.LinkSpec.{LinkSpec}
use Rattle.board_specs.specs.declared.spec.LinkSpec.TheVariants.{Sim, Udp}
use Rattle.script_steps.specs.declared.operation.Step.{Step}
use Rattle.script_lang.specs.Document.{SameSession}
use Rattle.script_lang.specs.declared.session.Session.{Session}
use Rattle.session_input.specs.Below.{DocumentLaws, TableLaws}
use Rattle.session_input.specs.Deserved as input
use Rattle.session_input.specs.Deserved.{AreSteps, BreaksScripts, Compiles, HasBus, IsRunnable, TellsCompile}
use Rattle.session_input.specs.Recording.{IsSimulated, TellsNotSim}
use Rattle.session_input.specs.declared.refusal.Refusal.{Refusal}
use Rattle.session_input.proofs.Moved.{buses_moved, compiled_moved, first_moved, kept_moved, told_moved}
use Rattle.session_input.proofs.OneAnswer.{all_right, bus_apart, one_break, one_told, runs_unbroken, same_bus}
use Rattle.session_input.proofs.OneAnswer.{table_apart}
use Rattle.session_input.proofs.OneText.{not_deserved, one_deserved, run_once}
use Rattle.audit_command.specs.declared.refusal.AuditRefusal.{AuditRefusal}
use Rattle.audit_command.specs.declared.refusal.AuditRefusal.TheVariants.{NoLength, OfSession}
use Rattle.audit_command.specs.Boards.{AreSimulated, BreaksBoards, BreaksInAudit, IsAuditable, TellsBoard}
use Rattle.audit_command.specs.Input.{Deserves, IsInput, IsTooLong}
use Rattle.audit_command.proofs.Lengths.{not_long, one_parts, small_of}

-- ---- one board

kind_apart : (link : LinkSpec) (name : List ℕ) (r : Refusal) → IsSimulated link → TellsNotSim link name r → ⊥
kind_apart (Sim mtu buffers first ranges fates) name r is told = told
kind_apart (Udp address port wait) name r is told = is

same_kind : (link : LinkSpec) (name : List ℕ) (r q : Refusal) → TellsNotSim link name r → TellsNotSim link name q
    → r ≡ q
same_kind (Sim mtu buffers first ranges fates) name r q one other = absurd one
same_kind (Udp address port wait) name r q one other = one ∙ sym other

board_apart : (r : Refusal) (b : BoardSpec) → IsAuditable b → TellsBoard b r → ⊥
board_apart r b taken (inl bus) = bus_apart r b taken.bus bus
board_apart r b taken (inr kind) = kind_apart b.link b.name r taken.simulated kind.1

same_board : (r q : Refusal) (b : BoardSpec) → TellsBoard b r → TellsBoard b q → r ≡ q
same_board r q b (inl one) (inl other) = same_bus r q b one other
same_board r q b (inl one) (inr other) = absurd (bus_apart r b other.0 one)
same_board r q b (inr one) (inl other) = absurd (bus_apart q b one.0 other)
same_board r q b (inr one) (inr other) = same_kind b.link b.name r q one.1 other.1

all_taken : (boards : List BoardSpec) → AllByRecursion HasBus boards → AreSimulated boards
    → AllByRecursion IsAuditable boards
all_taken [] buses simulated = tt
all_taken (b ∷ bs) buses simulated =
    (record { bus = buses.0; simulated = simulated.0 }, all_taken bs buses.1 simulated.1)

-- ---- one session

module _ (tables : TableLaws) where
  module _ (s : Session) where
    abbrev Later : Refusal → Type 0
    Later r = BreaksBoards s r ⊎ (AreSimulated s.boards × BreaksScripts s r)

    compiled_by : (r : Refusal) → Later r → AllByRecursion (Compiles s.tables) s.boards
    compiled_by r (inl b) = b.compiled.compile
    compiled_by r (inr c) = c.1.boards.compiled.compile

    boards_apart : (r : Refusal) → AllByRecursion HasBus s.boards → AreSimulated s.boards → BreaksBoards s r → ⊥
    boards_apart r buses simulated b =
        all_right IsAuditable (λ board. TellsBoard board r) (board_apart r) s.boards
        (all_taken s.boards buses simulated) b.first

    later_once : (policy : Option (List Rule)) (r q : Refusal) → Later r → Later q → r ≡ q
    later_once policy r q (inl a) (inl b) =
        one_told IsAuditable (λ board. TellsBoard board r) (λ board. TellsBoard board q) (r ≡ q) (board_apart r)
        (board_apart q) (same_board r q) s.boards a.first b.first
    later_once policy r q (inl a) (inr b) = absurd (boards_apart r b.1.boards.buses b.0 a)
    later_once policy r q (inr a) (inl b) = absurd (boards_apart q a.1.boards.buses a.0 b)
    later_once policy r q (inr a) (inr b) = one_break tables s policy r q (inr (inr a.1)) (inr (inr b.1))

    tables_apart : (r q : Refusal) → input.BreaksCompiling s.tables s.boards r → Later q → ⊥
    tables_apart r q a later =
        all_right (Compiles s.tables) (λ b. TellsCompile s.tables b.table r)
        (λ b kept told. table_apart tables s.tables b.table r kept told) s.boards (compiled_by q later) a

    one_audit_break : (policy : Option (List Rule)) (r q : Refusal) → BreaksInAudit s policy r
        → BreaksInAudit s policy q → r ≡ q
    one_audit_break policy r q (inl a) (inl b) = one_break tables s policy r q (inl a) (inl b)
    one_audit_break policy r q (inl a) (inr later) = absurd (tables_apart r q a later)
    one_audit_break policy r q (inr later) (inl b) = absurd (tables_apart q r b later)
    one_audit_break policy r q (inr a) (inr b) = later_once policy r q a b

    audit_unbroken : (policy : Option (List Rule)) (r : Refusal) (steps : List (List Step)) → AreSteps s policy steps
        → AreSimulated s.boards → BreaksInAudit s policy r → ⊥
    audit_unbroken policy r steps runs simulated (inl a) = runs_unbroken tables s policy r steps runs (inl a)
    audit_unbroken policy r steps runs simulated (inr (inl b)) = boards_apart r runs.boards.buses simulated b
    audit_unbroken policy r steps runs simulated (inr (inr c)) =
        runs_unbroken tables s policy r steps runs (inr (inr c.1))

  audit_moved : (s t : Session) (policy : Option (List Rule)) (r : Refusal) → SameSession s t
      → BreaksInAudit t policy r → BreaksInAudit s policy r
  audit_moved s t policy r same (inl a) =
      inl (rw same.boards
      (first_moved (Compiles t.tables) (Compiles s.tables) (λ b. TellsCompile t.tables b.table r)
      (λ b. TellsCompile s.tables b.table r)
      (kept_moved tables s t same) (λ b told. told_moved tables s t same b.table r told) t.boards a))
  audit_moved s t policy r same (inr (inl b)) =
      inr (inl (record {
        indexes = b.indexes;
        compiled = compiled_moved tables s t same b.indexes b.compiled;
        first = rw same.boards b.first;
      }))
  audit_moved s t policy r same (inr (inr c)) =
      inr (inr (
        subst AreSimulated (sym same.boards) c.0,
        record {
          indexes = c.1.indexes;
          boards = buses_moved tables s t same c.1.indexes c.1.boards;
          first = rw (same.boards, same.scripts) c.1.first;
        },
      ))

  -- ---- one input

  module _ (documents : DocumentLaws) where
    same_broken : (document : List ℕ) (r q : Refusal) → input.Deserves BreaksInAudit document r
        → input.Deserves BreaksInAudit document q → r ≡ q
    same_broken document r q one other =
        one_deserved documents BreaksInAudit (λ s. one_audit_break s) audit_moved document r q one other

    pub one_refusal : (bytes : List ℕ) (r q : AuditRefusal) → Deserves bytes r → Deserves bytes q → r ≡ q
    one_refusal bytes NoLength NoLength a b = refl
    one_refusal bytes NoLength (OfSession q) a (inl b) = absurd (a.0 b.0)
    one_refusal bytes NoLength (OfSession q) a (inr b) = absurd (a.1 b.document b.transcript b.parts)
    one_refusal bytes (OfSession r) NoLength (inl a) b = absurd (b.0 a.0)
    one_refusal bytes (OfSession r) NoLength (inr a) b = absurd (b.1 a.document a.transcript a.parts)
    one_refusal bytes (OfSession r) (OfSession q) (inl a) (inl b) = ap OfSession (a.1 ∙ sym b.1)
    one_refusal bytes (OfSession r) (OfSession q) (inl a) (inr b) = absurd (b.fits a.0)
    one_refusal bytes (OfSession r) (OfSession q) (inr a) (inl b) = absurd (a.fits b.0)
    one_refusal bytes (OfSession r) (OfSession q) (inr a) (inr b) =
        let same = (one_parts bytes a.document a.transcript b.document b.transcript a.parts b.parts).0 in
        ap OfSession (same_broken a.document r q a.broken
        (subst (λ d. input.Deserves BreaksInAudit d q) (sym same) b.broken))

    not_too_long : (bytes : List ℕ) (s : Session) (steps : List (List Step)) (transcript : List ℕ)
        → IsInput bytes s steps transcript → IsTooLong bytes → ⊥
    not_too_long bytes s steps transcript is =
        not_long bytes is.fits
        (small_of bytes (length is.document) (is.document ++ transcript) is.parts is.runnable.fits)

    pub not_both : (bytes : List ℕ) (s : Session) (steps : List (List Step)) (transcript : List ℕ) (r : AuditRefusal)
        → IsInput bytes s steps transcript → Deserves bytes r → ⊥
    not_both bytes s steps transcript NoLength is d = d.1 is.document transcript is.parts
    not_both bytes s steps transcript (OfSession r) is (inl d) = not_too_long bytes s steps transcript is d.0
    not_both bytes s steps transcript (OfSession r) is (inr d) =
        let same = (one_parts bytes is.document transcript d.document d.transcript is.parts d.parts).0 in
        let runs = is.runnable in
        not_deserved documents BreaksInAudit audit_moved is.document s runs.policy r runs.fits runs.stands
        (λ broken. audit_unbroken s runs.policy r steps runs.runs is.simulated broken)
        (subst (λ doc. input.Deserves BreaksInAudit doc r) (sym same) d.broken)

    pub one_input : (bytes : List ℕ) (s t : Session) (steps more : List (List Step)) (transcript other : List ℕ)
        → IsInput bytes s steps transcript → IsInput bytes t more other
        → SameSession s t × (steps ≡ more) × (transcript ≡ other)
    one_input bytes s t steps more transcript other one also =
        let same = one_parts bytes one.document transcript also.document other one.parts also.parts in
        let run = run_once documents tables one.document s t steps more one.runnable
        (subst (λ doc. IsRunnable doc t more) (sym same.0) also.runnable) in (run.0, run.1, same.1)
