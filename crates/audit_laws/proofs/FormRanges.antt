-- What became of bodies over a link that tells has the ranges of its fields.
use Rattle.std.proofs.Common.{◌≡◌, ℕ, zero, suc, ◌+◌, ◌<◌, ◌≤◌, ◌^◌, length, map, List, [], ◌∷◌, Option, Some, None}
use Rattle.std.proofs.Common.{subst, arith}
use Rattle.std.specs.List.{AllByRecursion, AllZip}
use Rattle.ipb_base.specs.Word.{AreWords}
use Rattle.ipb_base.proofs.AllLemmas.{AllByRecursion-append, all-map, front_of_all, back_of_all}
use Rattle.transaction_codec.specs.Request.{SpellsRequests}
use Rattle.transaction_codec.specs.Answer.{CanAnswer}
use Rattle.board_bus.specs.Cells.{CellMap, HoldsWords}
use Rattle.board_bus.specs.Bodies.{replay}
use Rattle.world_model.specs.Places.{at_place}
use Rattle.lane_record.specs.declared.outcome.Outcome.{Outcome}
use Rattle.lane_record.specs.declared.outcome.Outcome.TheVariants.{Replied, TimedOut, Unsent, LinkLost}
use Rattle.lane_record.specs.Outcomes.{TellsRounds, place_of}
use Rattle.lane_record.specs.Lists.{CountsFrom}
use Rattle.script_plans.specs.declared.board_run.ClientPart.{ClientPart}
use Rattle.transcript.specs.Claims.{HasWordsLate, IsInRange}
use Rattle.board_history.specs.Order.{Placed, all_placed, bodies_in, by_place, places_of, bodies_with_places, with_place}
use Rattle.board_history.specs.Parts.{AreBeside, IsLateReplyOf, IsReplyOf}
use Rattle.board_history.specs.Answering.{AsksRequests}
use Rattle.board_history.proofs.Answering.{spelled_words}
use Rattle.board_history.proofs.Asking.{heads}
use Rattle.board_history.proofs.Lists.{all_at}
use Rattle.board_history.proofs.ReplyWords.{answer_words}
use Rattle.board_history.proofs.Sorting.{all_sorted, sorted_all}
use Rattle.audit_laws.proofs.FormPieces.{IsFitPart}

-- ---- a board answers words

answers_words : (bodies replies : List (List ℕ)) → AllZip CanAnswer bodies replies → AllByRecursion AreWords replies
answers_words [] [] can = tt
answers_words [] (r ∷ replies) can = absurd can
answers_words (b ∷ bodies) [] can = absurd can
answers_words (b ∷ bodies) (r ∷ replies) can =
    (answer_words b r can.0, answers_words bodies replies can.1)

word_at : (replies : List (List ℕ)) (place : ℕ) (words : List ℕ) → AllByRecursion AreWords replies
    → at_place replies place ≡ Some words → AreWords words
word_at replies zero words all at = absurd cc
word_at replies (suc k) words all at = all_at AreWords replies k words all at

-- ---- the bodies of an order are words

abbrev HasBody : Placed → Type 0
HasBody p = AreWords p.body

place_words : (body : List ℕ) (place : Option ℕ) → AreWords body → AllByRecursion HasBody (with_place body place)
place_words body None words = tt
place_words body (Some place) words = (words, tt)

client_words : (bodies : List (List ℕ)) (outcomes : List Outcome) → AllByRecursion SpellsRequests bodies
    → AllByRecursion HasBody (bodies_with_places bodies outcomes)
client_words [] outcomes spelled = tt
client_words (b ∷ bodies) [] spelled = tt
client_words (b ∷ bodies) (o ∷ outcomes) spelled = AllByRecursion-append HasBody (with_place b (place_of o))
    (bodies_with_places bodies outcomes) (place_words b (place_of o) (spelled_words b spelled.0))
    (client_words bodies outcomes spelled.1)

abbrev bodies_of_parts : List ClientPart → List (List (List ℕ))
bodies_of_parts parts = map (λ (p : ClientPart). p.planned.bodies) parts

abbrev outcomes_in : List ClientPart → List (List Outcome)
outcomes_in parts = map (λ (p : ClientPart). p.outcomes) parts

abbrev lates_in : List ClientPart → List (List (Option (List ℕ)))
lates_in parts = map (λ (p : ClientPart). p.lates) parts

all_words : (parts : List ClientPart) → AllByRecursion AsksRequests parts
    → AllByRecursion HasBody (all_placed (bodies_of_parts parts) (outcomes_in parts))
all_words [] asks = tt
all_words (p ∷ parts) asks = AllByRecursion-append HasBody (bodies_with_places p.planned.bodies p.outcomes)
    (all_placed (bodies_of_parts parts) (outcomes_in parts)) (client_words p.planned.bodies p.outcomes asks.0)
    (all_words parts asks.1)

words_of : (ps : List Placed) → AllByRecursion HasBody ps → AllByRecursion AreWords (bodies_in ps)
words_of [] all = tt
words_of (p ∷ ps) all = (all.0, words_of ps all.1)

-- ---- places are no more than bodies

abbrev IsUpTo : ℕ → Placed → Type 0
IsUpTo most p = p.place ≤ most

counted : (first : ℕ) (ps : List Placed) → CountsFrom (first + 1) (places_of ps)
    → AllByRecursion (IsUpTo (first + length ps)) ps
counted first [] counts = tt
counted first (p ∷ ps) counts =
    let same : first + 1 + length ps ≡ first + length (p ∷ ps) = omega arith in (
      omega (arith, counts.0),
      subst (λ n. AllByRecursion (IsUpTo n) ps) same (counted (first + 1) ps counts.1),
    )

-- the places that an order counts, where it is what was sorted
pub up_to : (ps : List Placed) (most : ℕ) → CountsFrom 1 (places_of (by_place ps)) → length (by_place ps) ≤ most
    → AllByRecursion (IsUpTo most) ps
up_to ps most counts few =
    sorted_all (IsUpTo most) ps
    (all-map (IsUpTo (0 + length (by_place ps))) (IsUpTo most) (by_place ps) (λ p low. omega (arith, low, few))
    (counted 0 (by_place ps) counts))

-- ---- one body

module _ (rounds : ℕ) (few_rounds : rounds < 2 ^ 8) (most : ℕ) (few : most < 2 ^ 64) (replies : List (List ℕ))
    (words : AllByRecursion AreWords replies) where
  outcome_fits : (body : List ℕ) (o : Outcome) → AllByRecursion (IsUpTo most) (with_place body (place_of o))
      → IsReplyOf replies o → TellsRounds rounds o → IsInRange o
  outcome_fits body (Replied place reply) low is tells =
      (omega (arith, low.0, few), word_at replies place reply words is)
  outcome_fits body (TimedOut place told) low is tells = (omega (arith, low.0, few), omega (arith, tells, few_rounds))
  outcome_fits body Unsent low is tells = tt
  outcome_fits body (LinkLost None) low is tells = tt
  outcome_fits body (LinkLost (Some place)) low is tells = omega (arith, low.0, few)

  late_fits : (o : Outcome) (late : Option (List ℕ)) → IsLateReplyOf replies o late → HasWordsLate late
  late_fits o None is = tt
  late_fits (Replied place reply) (Some late) is = absurd is
  late_fits (TimedOut place told) (Some late) is = word_at replies place late words is
  late_fits Unsent (Some late) is = absurd is
  late_fits (LinkLost place) (Some late) is = absurd is

  -- ---- the bodies of a client

  outcomes_fit : (bodies : List (List ℕ)) (outcomes : List Outcome) → length outcomes ≡ length bodies
      → AllByRecursion (IsUpTo most) (bodies_with_places bodies outcomes) → AllByRecursion (IsReplyOf replies) outcomes
      → AllByRecursion (TellsRounds rounds) outcomes → AllByRecursion IsInRange outcomes
  outcomes_fit bodies [] long low is tells = tt
  outcomes_fit [] (o ∷ outcomes) long low is tells = absurd (omega (arith, long))
  outcomes_fit (b ∷ bodies) (o ∷ outcomes) long low is tells = (
    outcome_fits b o (front_of_all (IsUpTo most) (with_place b (place_of o)) (bodies_with_places bodies outcomes) low) is.0 tells.0,
    outcomes_fit bodies outcomes (omega (arith, long))
        (back_of_all (IsUpTo most) (with_place b (place_of o)) (bodies_with_places bodies outcomes) low) is.1 tells.1,
  )

  lates_fit : (outcomes : List Outcome) (lates : List (Option (List ℕ)))
      → AreBeside (IsLateReplyOf replies) outcomes lates → AllByRecursion HasWordsLate lates
  lates_fit outcomes [] is = tt
  lates_fit [] (late ∷ lates) is = absurd is
  lates_fit (o ∷ outcomes) (late ∷ lates) is = (late_fits o late is.0, lates_fit outcomes lates is.1)

  -- ---- of all clients

  parts_fit : (parts : List ClientPart)
      → AllByRecursion (λ (p : ClientPart). length p.outcomes ≡ length p.planned.bodies) parts
      → AllByRecursion (IsUpTo most) (all_placed (bodies_of_parts parts) (outcomes_in parts))
      → AllByRecursion (AllByRecursion (IsReplyOf replies)) (outcomes_in parts)
      → AreBeside (AreBeside (IsLateReplyOf replies)) (outcomes_in parts) (lates_in parts)
      → AllByRecursion (AllByRecursion (TellsRounds rounds)) (outcomes_in parts) → AllByRecursion IsFitPart parts
  parts_fit [] long low is late tells = tt
  parts_fit (p ∷ parts) long low is late tells =
      let mine = bodies_with_places p.planned.bodies p.outcomes in
      let rest = all_placed (bodies_of_parts parts) (outcomes_in parts) in (
        record {
          long = long.0;
          outcomes' = outcomes_fit p.planned.bodies p.outcomes long.0 (front_of_all (IsUpTo most) mine rest low) is.0
              tells.0;
          lates' = lates_fit p.outcomes p.lates late.0;
        },
        parts_fit parts long.1 (back_of_all (IsUpTo most) mine rest low) is.1 late.1 tells.1,
      )

-- ---- of a board

-- what each body of a client came to, by how many there are
pub each_long : (parts : List ClientPart) → map length (outcomes_in parts) ≡ map length (bodies_of_parts parts)
    → AllByRecursion (λ (p : ClientPart). length p.outcomes ≡ length p.planned.bodies) parts
each_long [] same = tt
each_long (p ∷ parts) same =
    let both = heads (length p.outcomes) (length p.planned.bodies) (map length (outcomes_in parts))
    (map length (bodies_of_parts parts)) same in
    (both.head, each_long parts both.tail)

-- the bus that opens with words answers words
abbrev pub AnsweringEach : Type 0
AnsweringEach = (cells : CellMap) (bodies : List (List ℕ)) → HoldsWords cells → AllByRecursion AreWords bodies
    → AllZip CanAnswer bodies (replay cells bodies).replies

pub board_fits : AnsweringEach → (opening : CellMap) (rounds most : ℕ) (parts : List ClientPart) → HoldsWords opening
    → rounds < 2 ^ 8 → most < 2 ^ 64 → AllByRecursion AsksRequests parts
    → map length (outcomes_in parts) ≡ map length (bodies_of_parts parts)
    → CountsFrom 1 (places_of (by_place (all_placed (bodies_of_parts parts) (outcomes_in parts))))
    → length (by_place (all_placed (bodies_of_parts parts) (outcomes_in parts))) ≤ most
    → AllByRecursion (AllByRecursion (IsReplyOf
    (replay opening (bodies_in (by_place (all_placed (bodies_of_parts parts) (outcomes_in parts))))).replies))
    (outcomes_in parts)
    → AreBeside (AreBeside (IsLateReplyOf
    (replay opening (bodies_in (by_place (all_placed (bodies_of_parts parts) (outcomes_in parts))))).replies))
    (outcomes_in parts) (lates_in parts)
    → AllByRecursion (AllByRecursion (TellsRounds rounds)) (outcomes_in parts) → AllByRecursion IsFitPart parts
board_fits answering opening rounds most parts holds few_rounds few asks same counts low replies late tells =
    let all = all_placed (bodies_of_parts parts) (outcomes_in parts) in
    let bodies = bodies_in (by_place all) in
    let are = words_of (by_place all) (all_sorted HasBody all (all_words parts asks)) in
    let words = answers_words bodies (replay opening bodies).replies (answering opening bodies holds are) in
    parts_fit rounds few_rounds most few (replay opening bodies).replies words parts (each_long parts same)
    (up_to all most counts low) replies late tells
