-- What a session is asked for, put together from what the steps of reading say.
use Rattle.std.proofs.Common.{◌≡◌, inl, inr, ℕ, suc, List, [], ◌∷◌, ◌++◌, length, slice_get, Option, Some}
use Rattle.std.proofs.Common.{Result, Ok, Err, IfOk, IfErr, OnOk, refl, sym, ap, subst, ◌∙◌}
use Rattle.std.specs.Prelude.{IsErrAnd}
use Rattle.std.specs.List.{AllZip}
use Rattle.access_policy.specs.Decisions.{names_of, ruled_scripts}
use Rattle.access_policy.specs.declared.policy.Rule.{Rule}
use Rattle.board_specs.specs.declared.spec.BoardSpec.{BoardSpec}
use Rattle.node_tree.specs.Maps.{RegisterMap, TableMap}
use Rattle.script_lang.specs.declared.session.Session.{Session}
use Rattle.script_lang.specs.Scripts.{script_faults, steps_of}
use Rattle.session_input.specs.declared.reading.Runnable.{Runnable}
use Rattle.session_input.specs.Deserved.{HasIndex, HaveBuses, TellsLine}
use Rattle.config_store.specs.Kept.{indexed_boards}
use Rattle.config_store.specs.Order.{AreInOrder}
use Rattle.config_store.specs.Refusals.{TellsFirst}
use Rattle.config_store.specs.States.{StoreFault}
use Rattle.config_store.specs.declared.refusal.StoreRefusal.{StoreRefusal}
use Rattle.config_store.specs.declared.refusal.StoreRefusal.TheVariants.{At, NoMemory}
use Rattle.config_input.specs.declared.refusal.ConfigRefusal.{ConfigRefusal}
use Rattle.config_input.specs.declared.refusal.ConfigRefusal.TheVariants.{OfSession, OfState}
use Rattle.config_input.specs.declared.refusal.ConfigUnread.{ConfigUnread}
use Rattle.config_input.specs.declared.refusal.ConfigUnread.TheVariants as unread
use Rattle.config_input.specs.Deserved.{BreaksInWork, IsAsked, Tells, TellsSession, of_store}
use Rattle.config_input.specs.Work.{Work}

as_many : (tables : TableMap) (boards : List BoardSpec) (indexes : List RegisterMap)
    → AllZip (HasIndex tables) boards indexes → length indexes ≡ length boards
as_many tables [] [] are = refl
as_many tables [] (index ∷ indexes) are = absurd are
as_many tables (b ∷ boards) [] are = absurd are
as_many tables (b ∷ boards) (index ∷ indexes) are = ap suc (as_many tables boards indexes are.1)

pub one_each : (session : Session) (indexes : List RegisterMap) → HaveBuses session indexes
    → length indexes ≡ length session.boards
one_each session indexes have = as_many session.tables session.boards indexes have.compiled.each_index

-- `shown` are the indexes as they are lent to a call
pub asked_by : (work : Work) (session : Session) (policy : Option (List Rule)) (indexes shown : List RegisterMap)
    (lines : List (List ℕ)) (result : Result Runnable ConfigUnread) → shown ≡ indexes → HaveBuses session indexes
    → work.faults (indexed_boards session.boards indexes) ≡ [] → AreInOrder work.values
    → lines ≡ work.script (indexed_boards session.boards indexes)
    → OnOk result (script_faults session.boards shown session.scripts ≡ [])
    → IfOk result (λ read. read.steps.items ≡ ruled_scripts policy (names_of session.boards)
    (steps_of session.boards shown (lines ∷ [])))
    → IfOk result (λ read. IsAsked work session policy read.steps.items)
asked_by work session policy indexes shown lines (Err why) same have right ordered are own meant = tt
asked_by work session policy indexes shown lines (Ok read) same have right ordered are own meant = record {
  registers = indexes;
  boards = have;
  right = right;
  ordered = ordered;
  faultless = subst (λ xs. script_faults session.boards xs session.scripts ≡ []) same own;
  meant = subst
      (λ script. read.steps.items ≡ ruled_scripts policy (names_of session.boards)
      (steps_of session.boards indexes (script ∷ []))) are
      (subst
      (λ xs. read.steps.items ≡ ruled_scripts policy (names_of session.boards) (steps_of session.boards xs (lines ∷ [])))
      same meant);
}

weaker : (P Q : ConfigRefusal → Type 0) → ((r : ConfigRefusal) → P r → Q r) → (u : ConfigUnread) → Tells P u → Tells Q u
weaker P Q gives (unread.Refused refusal) told = gives refusal told
weaker P Q gives unread.NoMemory told = tt

pub told_by : {T : Type 0} (result : Result T ConfigUnread) (P Q : ConfigRefusal → Type 0)
    → ((r : ConfigRefusal) → P r → Q r) → IfErr result (Tells P) → IfErr result (Tells Q)
told_by (Ok value) P Q gives told = tt
told_by (Err why) P Q gives told = weaker P Q gives why told

-- ---- a faulty line of the session's own scripts

own_breaks : (work : Work) (session : Session) (indexes : List RegisterMap) → HaveBuses session indexes
    → work.faults (indexed_boards session.boards indexes) ≡ [] → (r : ConfigRefusal)
    → TellsSession (TellsLine (script_faults session.boards indexes session.scripts)) r → BreaksInWork work session r
own_breaks work session indexes have right (OfSession refusal) told =
    inr (inr (record {
      indexes = indexes;
      boards = have;
      right = right;
      first = told;
    }))
own_breaks work session indexes have right (OfState board name why) told = absurd told

-- `shown` are the indexes as they are lent to a call
pub own_told : (work : Work) (session : Session) (indexes shown : List RegisterMap)
    (result : Result Runnable ConfigUnread) → shown ≡ indexes → HaveBuses session indexes
    → work.faults (indexed_boards session.boards indexes) ≡ []
    → IfErr result (Tells (TellsSession (TellsLine (script_faults session.boards shown session.scripts))))
    → IfErr result (Tells (BreaksInWork work session))
own_told work session indexes shown result same have right told =
    told_by result (TellsSession (TellsLine (script_faults session.boards indexes session.scripts)))
    (BreaksInWork work session) (own_breaks work session indexes have right)
    (subst (λ xs. IfErr result (Tells (TellsSession (TellsLine (script_faults session.boards xs session.scripts)))))
    same told)

-- ---- the first fault of a configuration

front_first : {A : Type 0} (xs ys : List A) (x : A) → slice_get xs 0 ≡ Some x → slice_get (xs ++ ys) 0 ≡ Some x
front_first [] ys x first = let bad : ⊥ = cc in absurd bad
front_first (y ∷ xs) ys x first = first

-- a fault of the front of those of a session
pub front_told : (work : Work) (session : Session) (indexes : List RegisterMap) (front rest : List StoreFault)
    (refusal : StoreRefusal) → HaveBuses session indexes
    → work.faults (indexed_boards session.boards indexes) ≡ front ++ rest → TellsFirst front refusal
    → Tells (BreaksInWork work session) (of_store refusal)
front_told work session indexes front rest NoMemory have are told = tt
front_told work session indexes front rest (At board name why) have are told =
    inr (inl (record {
      indexes = indexes;
      boards = have;
      first = subst (λ (faults : List StoreFault). slice_get faults 0 ≡ Some (board, name, why)) (sym are)
          (front_first front rest (board, name, why) told);
    }))

-- a fault behind a front that has none
pub behind_told : (work : Work) (session : Session) (indexes : List RegisterMap) (front rest : List StoreFault)
    (refusal : StoreRefusal) → HaveBuses session indexes
    → work.faults (indexed_boards session.boards indexes) ≡ front ++ rest → front ≡ [] → TellsFirst rest refusal
    → Tells (BreaksInWork work session) (of_store refusal)
behind_told work session indexes front rest NoMemory have are none told = tt
behind_told work session indexes front rest (At board name why) have are none told =
    inr (inl (record {
      indexes = indexes;
      boards = have;
      first = subst (λ (faults : List StoreFault). slice_get faults 0 ≡ Some (board, name, why))
          (sym (are ∙ ap (λ (some : List StoreFault). some ++ rest) none)) told;
    }))

-- an error that is handed on tells what it told
pub handed_on : {X : Type 0} (P : ConfigUnread → Type 0) (r : Result X ConfigUnread) (u : ConfigUnread)
    → IsErrAnd r (λ handed. handed ≡ u) → P u → IfErr r P
handed_on P (Ok x) u is told = tt
handed_on P (Err handed) u is told = subst P (sym is) told
