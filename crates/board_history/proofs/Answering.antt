-- Where nothing is lost, each body is answered.
use Rattle.std.proofs.Common.{◌≡◌, ◌↔◌, ℕ, ◌+◌, List, [], ◌∷◌, length, Option, Some, None}
use Rattle.std.proofs.Common.{refl, sym, ap, subst, drop, get_or}
use Rattle.std.specs.List.{AllByRecursion}
use Rattle.ipb_base.specs.Word.{AreWords}
use Rattle.ipb_base.proofs.AllLemmas.{all-map}
use Rattle.transaction_codec.specs.declared.request.Request.{Request}
use Rattle.transaction_codec.specs.Request.{AreRequests, SpellsRequests, requests_words}
use Rattle.transaction_codec.specs.Answer.{CanAnswer, IsReplyTo}
use Rattle.mtu_packer.proofs.Sizes.{requests_are_words}
use Rattle.reply_join.specs.declared.answer.Answer.{Answer}
use Rattle.reply_join.specs.Joining.{IsJoined}
use Rattle.reply_join.specs.ByWords.{answers}
use Rattle.board_bus.specs.Cells.{CellMap, HoldsWords}
use Rattle.board_bus.specs.Bodies.{run_body, replay}
use Rattle.board_specs.specs.declared.spec.BoardSpec.{BoardSpec}
use Rattle.script_steps.specs.declared.operation.Step.{Step}
use Rattle.lane_record.specs.declared.outcome.Outcome.{Outcome}
use Rattle.lane_record.specs.declared.outcome.Outcome.TheVariants.{Replied}
use Rattle.script_plans.specs.declared.board_run.ClientPart.{ClientPart}
use Rattle.script_plans.specs.declared.board_run.BoardRun.{BoardRun}
use Rattle.script_plans.specs.Plan.{ClientBodies, AreSpelled}
use Rattle.lane_record.specs.Outcomes.{place_of}
use Rattle.transcript.specs.Ends.{told_of, end_of, ends_with, told_by}
use Rattle.board_history.specs.InTurn.{outcomes_from}
use Rattle.board_history.specs.Runs.{parts_in_turn, plans_on, greeting_of, opens_with, board_run}
use Rattle.board_history.specs.Answering.{IsAnswered, AreAnswered, AsksRequests, AskRequests, OpensWithWords}
use Rattle.board_history.proofs.ReplyWords.{answer_words}
use Rattle.board_history.proofs.Lists.{Both}

-- ---- requests are words

pub spelled_words : (body : List ℕ) → SpellsRequests body → AreWords body
spelled_words body is = subst AreWords (sym is.2) (requests_are_words is.0 is.1)

-- ---- what the bus and joining promise

abbrev pub Answering : Type 0
Answering = (cells : CellMap) (requests : List Request) → HoldsWords cells → AreRequests requests
    → IsReplyTo (requests_words requests) (run_body cells (requests_words requests)).reply

abbrev pub AnsweringAny : Type 0
AnsweringAny = (cells : CellMap) (body : List ℕ) → HoldsWords cells → AreWords body
    → CanAnswer body (run_body cells body).reply

abbrev pub Keeping : Type 0
Keeping = (cells : CellMap) (body : List ℕ) → HoldsWords cells → AreWords body → HoldsWords (run_body cells body).cells

abbrev pub KeepingAll : Type 0
KeepingAll = (cells : CellMap) (bodies : List (List ℕ)) → HoldsWords cells → AllByRecursion AreWords bodies
    → HoldsWords (replay cells bodies).cells

abbrev pub Garbling : Type 0
Garbling = (body reply : List ℕ) → AreWords body → AreWords reply
    → ((answers body reply ≡ None) ↔ ¬ IsReplyTo body reply)

-- a body that was told its answers
pub record IsTold (body : List ℕ) (outcome : Outcome) : Type 0 where
  pub place' : ℕ
  pub words : List ℕ
  pub list : List Answer
  pub is : outcome ≡ Replied place' words
  pub joined : IsJoined body words list
  pub found : answers body words ≡ Some list

abbrev pub Joins : Type 0
Joins = (body reply : List ℕ) (list : List Answer) → AreWords body → AreWords reply
    → (IsJoined body reply list ↔ (answers body reply ≡ Some list))

abbrev pub ToldPart : ClientPart → Type 0
ToldPart p = Both IsTold p.planned.bodies p.outcomes

end_answered : (body : List ℕ) (outcome : Outcome) (late : Option (List ℕ)) → IsTold body outcome
    → IsAnswered (end_of body outcome late)
end_answered body outcome late is =
    subst (λ (o : Outcome). IsAnswered (record { place = place_of o; told = told_of body o late })) (sym is.is)
    (record { place' = is.place'; placed = refl; answers = is.list; answered = ap told_by is.found })

ends_answered : (bodies : List (List ℕ)) (outcomes : List Outcome) (lates : List (Option (List ℕ)))
    → Both IsTold bodies outcomes → AllByRecursion IsAnswered (ends_with bodies outcomes lates)
ends_answered [] outcomes lates both = tt
ends_answered (b ∷ bs) [] lates both = absurd both
ends_answered (b ∷ bs) (o ∷ os) lates both =
    (end_answered b o (get_or lates 0 None) both.0, ends_answered bs os (drop 1 lates) both.1)

module _ (answering : Answering) (any : AnsweringAny) (keeping : Keeping) (keeping_all : KeepingAll)
    (garbling : Garbling) (joins : Joins) where
  told_there : (place : ℕ) (body reply : List ℕ) (found : Option (List Answer)) → answers body reply ≡ found
      → AreWords body
      → AreWords reply → IsReplyTo body reply → IsTold body (Replied place reply)
  told_there place body reply None is asked words answered = absurd ((garbling body reply asked words).0 is answered)
  told_there place body reply (Some list) is asked words answered =
      record {
        place' = place;
        words = reply;
        list = list;
        is = refl;
        joined = (joins body reply list asked words).1 is;
        found = is;
      }

  pub body_told : (place : ℕ) (cells : CellMap) (body : List ℕ) → HoldsWords cells → SpellsRequests body
      → IsTold body (Replied place (run_body cells body).reply)
  body_told place cells body holds spelled =
      let asked = spelled_words body spelled in
      let reply = (run_body cells body).reply in
      told_there place body reply (answers body reply) refl asked
      (answer_words body reply (any cells body holds asked))
      (subst (λ (b : List ℕ). IsReplyTo b (run_body cells b).reply) (sym spelled.2)
      (answering cells spelled.0 holds spelled.1))

  client_told : (place : ℕ) (cells : CellMap) (bodies : List (List ℕ)) → HoldsWords cells → AreSpelled bodies
      → Both IsTold bodies (outcomes_from place cells bodies)
  client_told place cells [] holds spelled = tt
  client_told place cells (body ∷ bodies) holds spelled = (
    body_told place cells body holds spelled.0,
    client_told (place + 1) (run_body cells body).cells bodies
        (keeping cells body holds (spelled_words body spelled.0)) spelled.1,
  )

  pub parts_told : (place : ℕ) (cells : CellMap) (plans : List ClientBodies) → HoldsWords cells
      → AllByRecursion AsksRequests (parts_in_turn place cells plans)
      → AllByRecursion (λ (p : ClientPart). Both IsTold p.planned.bodies p.outcomes) (parts_in_turn place cells plans)
  parts_told place cells [] holds spelled = tt
  parts_told place cells (plan ∷ plans) holds spelled = (
    client_told place cells plan.bodies holds spelled.0,
    parts_told (place + length plan.bodies) (replay cells plan.bodies).cells plans
        (keeping_all cells plan.bodies holds
        (all-map SpellsRequests AreWords plan.bodies spelled_words spelled.0)) spelled.1,
  )

  pub run_answered : (spec : BoardSpec) (board : ℕ) (scripts : List (List Step)) (run : BoardRun)
      → run ≡ board_run spec board scripts → OpensWithWords spec → AskRequests run
      → AllByRecursion AreAnswered run.parts
  run_answered spec board scripts run is opens =
      subst (λ (r : BoardRun). AskRequests r → AllByRecursion AreAnswered r.parts) (sym is)
      (λ asks. all-map ToldPart AreAnswered (board_run spec board scripts).parts
      (λ p. ends_answered p.planned.bodies p.outcomes p.lates)
      (parts_told 1 (opens_with spec.link) (plans_on board (greeting_of spec.link) scripts) opens asks))
