-- What a session breaks whose board is to be recorded.
use Rattle.std.proofs.Common.{◌≡◌, ◌≢◌, ◌∙◌, ℕ, List, [], ◌∷◌, length, Option, inl, inr, refl, sym, subst}
use Rattle.std.specs.Prelude.{get_or}
use Rattle.access_policy.specs.declared.policy.Rule.{Rule}
use Rattle.board_specs.specs.declared.spec.BoardSpec.{BoardSpec}
use Rattle.board_specs.specs.declared.spec.LinkSpec.{LinkSpec}
use Rattle.board_specs.specs.declared.spec.LinkSpec.TheVariants.{Sim, Udp}
use Rattle.script_steps.specs.declared.operation.Step.{Step}
use Rattle.script_lang.specs.declared.session.Session.{Session}
use Rattle.script_lang.specs.Document.{SameSession}
use Rattle.session_input.specs.declared.refusal.Refusal.{Refusal}
use Rattle.session_input.specs.declared.refusal.Refusal.TheVariants.{OneBoard}
use Rattle.session_input.specs.Below.{DocumentLaws, TableLaws}
use Rattle.session_input.specs.Deserved.{BreaksInRun, Deserves}
use Rattle.session_input.specs.Recording.{BreaksInRecord, IsOneSimulated, IsRecordable, IsSimulated, TellsNotOne}
use Rattle.session_input.specs.Recording.{TellsNotSim}
use Rattle.session_input.proofs.Moved.{break_moved}
use Rattle.session_input.proofs.OneAnswer.{one_break, runs_unbroken}
use Rattle.session_input.proofs.OneText.{not_deserved, one_deserved}

-- ---- one board

pub not_one : (boards : List BoardSpec) → length boards ≢ 1 → TellsNotOne boards OneBoard
not_one [] many = refl
not_one (board ∷ []) many = absurd (many refl)
not_one (board ∷ other ∷ boards) many = refl

pub one_simulated : (boards : List BoardSpec) (board : BoardSpec) → length boards ≡ 1 → board ≡ get_or boards 0 board
    → IsSimulated board.link → IsOneSimulated boards
one_simulated [] board one there is = absurd (cc)
one_simulated (first ∷ []) board one there is = subst (λ (b : BoardSpec). IsSimulated b.link) there is
one_simulated (first ∷ other ∷ boards) board one there is = absurd (cc)

pub not_simulated : (boards : List BoardSpec) (board : BoardSpec) (r : Refusal) → length boards ≡ 1
    → board ≡ get_or boards 0 board → TellsNotSim board.link board.name r → TellsNotOne boards r
not_simulated [] board r one there told = absurd (cc)
not_simulated (first ∷ []) board r one there told = subst (λ (b : BoardSpec). TellsNotSim b.link b.name r) there told
not_simulated (first ∷ other ∷ boards) board r one there told = absurd (cc)

-- ---- one refusal

same_kind : (link : LinkSpec) (name : List ℕ) (r q : Refusal) → TellsNotSim link name r → TellsNotSim link name q
    → r ≡ q
same_kind (Sim mtu buffers first ranges fates) name r q one other = absurd one
same_kind (Udp address port wait) name r q one other = one ∙ sym other

same_boards : (boards : List BoardSpec) (r q : Refusal) → TellsNotOne boards r → TellsNotOne boards q → r ≡ q
same_boards [] r q one other = one ∙ sym other
same_boards (board ∷ []) r q one other = same_kind board.link board.name r q one other
same_boards (board ∷ another ∷ boards) r q one other = one ∙ sym other

kind_apart : (link : LinkSpec) (name : List ℕ) (r : Refusal) → IsSimulated link → TellsNotSim link name r → ⊥
kind_apart (Sim mtu buffers first ranges fates) name r is told = told
kind_apart (Udp address port wait) name r is told = is

boards_apart : (boards : List BoardSpec) (r : Refusal) → IsOneSimulated boards → TellsNotOne boards r → ⊥
boards_apart [] r is told = is
boards_apart (board ∷ []) r is told = kind_apart board.link board.name r is told
boards_apart (board ∷ other ∷ boards) r is told = is

module _ (tables : TableLaws) where
  one_record_break : (s : Session) (policy : Option (List Rule)) (r q : Refusal) → BreaksInRecord s policy r
      → BreaksInRecord s policy q → r ≡ q
  one_record_break s policy r q (inl a) (inl b) = same_boards s.boards r q a b
  one_record_break s policy r q (inl a) (inr b) = absurd (boards_apart s.boards r b.0 a)
  one_record_break s policy r q (inr a) (inl b) = absurd (boards_apart s.boards q a.0 b)
  one_record_break s policy r q (inr a) (inr b) = one_break tables s policy r q a.1 b.1

  record_moved : (s t : Session) (policy : Option (List Rule)) (r : Refusal) → SameSession s t
      → BreaksInRecord t policy r → BreaksInRecord s policy r
  record_moved s t policy r same (inl a) =
      inl (subst (λ (boards : List BoardSpec). TellsNotOne boards r) (sym same.boards) a)
  record_moved s t policy r same (inr b) =
      inr (subst IsOneSimulated (sym same.boards) b.0, break_moved tables s t same policy r b.1)

  unbroken_record : (s : Session) (policy : Option (List Rule)) (r : Refusal) → IsOneSimulated s.boards
      → (BreaksInRun s policy r → ⊥) → BreaksInRecord s policy r → ⊥
  unbroken_record s policy r is runs (inl a) = boards_apart s.boards r is a
  unbroken_record s policy r is runs (inr b) = runs b.1

  module _ (documents : DocumentLaws) where
    pub record_refused_once : (bytes : List ℕ) (r q : Refusal) → Deserves BreaksInRecord bytes r
        → Deserves BreaksInRecord bytes q → r ≡ q
    record_refused_once bytes r q one other =
        one_deserved documents BreaksInRecord (λ s p a b. one_record_break s p a b)
        (λ s t p a same broken. record_moved s t p a same broken) bytes r q one other

    pub record_not_both : (bytes : List ℕ) (s : Session) (steps : List (List Step)) (r : Refusal)
        → IsRecordable bytes s steps → Deserves BreaksInRecord bytes r → ⊥
    record_not_both bytes s steps r is deserved =
        let runs = is.runnable in
        not_deserved documents BreaksInRecord
        (λ s t p a same broken. record_moved s t p a same broken) bytes s runs.policy r runs.fits runs.stands
        (λ broken. unbroken_record s runs.policy r is.one
        (λ b. runs_unbroken tables s runs.policy r steps runs.runs b) broken) deserved
