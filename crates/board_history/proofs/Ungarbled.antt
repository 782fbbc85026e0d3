-- No reply of a history is garbled.
use Rattle.std.proofs.Common.{◌≡◌, ℕ, zero, suc, ◌+◌, List, [], ◌∷◌, ◌++◌, length, map, take, Option, Some, None}
use Rattle.std.proofs.Common.{drop, get_or, refl, sym, ap, ◌∙◌, subst, arith, append_assoc, length-append}
use Rattle.std.specs.List.{AllByRecursion}
use Rattle.std.proofs.lemmas.Option.{same_Some}
use Rattle.ipb_base.specs.Word.{AreWords}
use Rattle.ipb_base.proofs.AllLemmas.{AllByRecursion-append, front_of_all, back_of_all}
use Rattle.transaction_codec.specs.Request.{SpellsRequests}
use Rattle.board_bus.specs.Cells.{CellMap, HoldsWords}
use Rattle.board_bus.specs.Bodies.{run_body, replay}
use Rattle.board_bus.proofs.Bodies.{replay-place}
use Rattle.world_model.specs.Places.{at_place}
use Rattle.world_model.proofs.Lists.{at_seam, at_map}
use Rattle.lane_record.specs.declared.outcome.Outcome.{Outcome}
use Rattle.lane_record.specs.declared.outcome.Outcome.TheVariants.{Replied, TimedOut, Unsent, LinkLost}
use Rattle.lane_record.specs.Outcomes.{place_of}
use Rattle.lane_record.specs.Lists.{CountsFrom}
use Rattle.reply_join.specs.ByWords.{answers}
use Rattle.script_plans.specs.declared.board_run.ClientPart.{ClientPart}
use Rattle.script_plans.specs.declared.board_run.BoardRun.{BoardRun}
use Rattle.script_plans.specs.Plan.{AreSpelled}
use Rattle.transcript.specs.Ends.{told_by, end_of, ends_of, ends_with}
use Rattle.board_history.specs.Order.{Placed, with_place, bodies_with_places, all_placed, order, places_of, bodies_in}
use Rattle.board_history.specs.Parts.{AreBeside, IsLateReplyOf, IsReplyOf}
use Rattle.board_history.specs.History.{ShowsHistory, bodies_by_client, outcomes_by_client}
use Rattle.board_history.proofs.Sorting.{all_sorted, sorted_all}
use Rattle.board_history.specs.Answering.{AsksRequests, AskRequests}
use Rattle.board_history.proofs.Answering.{Answering, AnsweringAny, Keeping, KeepingAll, Garbling, Joins, IsTold}
use Rattle.board_history.proofs.Answering.{body_told}
use Rattle.board_history.proofs.Answering.{spelled_words}
use Rattle.board_history.specs.LinkRuns.{IsUngarbled, NoneGarbled}
use Rattle.board_history.proofs.Lates.{beside_first, beside_rest}

-- ---- each body stands at its place in the order

abbrev pub StandsIn : List Placed → Placed → Type 0
StandsIn order p = at_place order p.place ≡ Some p

stand_behind : (front ps : List Placed) → CountsFrom (length front + 1) (places_of ps)
    → AllByRecursion (StandsIn (front ++ ps)) ps
stand_behind front [] counts = tt
stand_behind front (p ∷ ps) counts =
    let here = subst (λ (k : ℕ). at_place (front ++ (p ∷ ps)) k ≡ Some p) (sym counts.0) (at_seam front ps p) in
    let on : length front + 1 + 1 ≡ length (front ++ p ∷ []) + 1 = omega (arith, length-append front (p ∷ [])) in
    let later = stand_behind (front ++ p ∷ []) ps (subst (λ (k : ℕ). CountsFrom k (places_of ps)) on counts.1) in
    (here, subst (λ (all : List Placed). AllByRecursion (StandsIn all) ps) (append_assoc front (p ∷ []) ps) later)

pub all_stand : (ps : List Placed) → CountsFrom 1 (places_of ps) → AllByRecursion (StandsIn ps) ps
all_stand ps counts = stand_behind [] ps counts

-- ---- the bodies of an order are words

abbrev pub HasWords : Placed → Type 0
HasWords p = AreWords p.body

place_words : (body : List ℕ) (place : Option ℕ) → AreWords body → AllByRecursion HasWords (with_place body place)
place_words body None words = tt
place_words body (Some place) words = (words, tt)

placed_words : (bodies : List (List ℕ)) (outcomes : List Outcome) → AreSpelled bodies
    → AllByRecursion HasWords (bodies_with_places bodies outcomes)
placed_words [] outcomes spelled = tt
placed_words (b ∷ bs) [] spelled = tt
placed_words (b ∷ bs) (o ∷ os) spelled = AllByRecursion-append HasWords (with_place b (place_of o)) (bodies_with_places bs os)
    (place_words b (place_of o) (spelled_words b spelled.0)) (placed_words bs os spelled.1)

pub all_words : (parts : List ClientPart) → AllByRecursion AsksRequests parts
    → AllByRecursion HasWords (all_placed (map (λ (p : ClientPart). p.planned.bodies) parts)
    (map (λ (p : ClientPart). p.outcomes) parts))
all_words [] asks = tt
all_words (p ∷ parts) asks = AllByRecursion-append HasWords (bodies_with_places p.planned.bodies p.outcomes)
    (all_placed (map (λ (q : ClientPart). q.planned.bodies) parts) (map (λ (q : ClientPart). q.outcomes) parts))
    (placed_words p.planned.bodies p.outcomes asks.0) (all_words parts asks.1)

pub words_of : (ps : List Placed) → AllByRecursion HasWords ps → AllByRecursion AreWords (bodies_in ps)
words_of [] all = tt
words_of (p ∷ ps) all = (all.0, words_of ps all.1)

words_take : (n : ℕ) (bodies : List (List ℕ)) → AllByRecursion AreWords bodies → AllByRecursion AreWords (take n bodies)
words_take zero bodies all = tt
words_take (suc n) [] all = tt
words_take (suc n) (b ∷ bs) all = (all.0, words_take n bs all.1)

-- ---- the reply at a place is one to the body there

told_ungarbled : (body : List ℕ) (o : Outcome) (late : Option (List ℕ)) → IsTold body o
    → IsUngarbled (end_of body o late)
told_ungarbled body o late is = subst (λ (p : Outcome). IsUngarbled (end_of body p late)) (sym is.is) (record {
  in_time = λ e. let answered = ap told_by is.found in absurd cc;
  late = λ rounds e. let answered = ap told_by is.found in absurd cc;
})

-- a body that was timed out shows no reply, or its late answer
late_ungarbled : (body : List ℕ) (place rounds : ℕ) (late : Option (List ℕ))
    → ((words : List ℕ) → late ≡ Some words → IsTold body (Replied place words))
    → IsUngarbled (end_of body (TimedOut place rounds) late)
late_ungarbled body place rounds None told = record { in_time = λ e. absurd cc; late = λ more e. absurd cc }
late_ungarbled body place rounds (Some words) told =
    let is = told words refl in
    let same : words ≡ is.words = let replied = is.is in cc in
    let found = ap (answers body) same ∙ is.found in
    record { in_time = λ e. absurd cc; late = λ more e. absurd (let answered = found in cc) }

module _ (answering : Answering) (any : AnsweringAny) (keeping : Keeping) (keeping_all : KeepingAll)
    (garbling : Garbling) (joins : Joins) where
  pub reply_told : (opening : CellMap) (bodies : List (List ℕ)) (place : ℕ) (body words : List ℕ)
      → HoldsWords opening → AllByRecursion AreWords bodies → SpellsRequests body → at_place bodies place ≡ Some body
      → at_place (replay opening bodies).replies place ≡ Some words → IsTold body (Replied place words)
  reply_told opening bodies zero body words holds all spelled there reply = absurd cc
  reply_told opening bodies (suc k) body words holds all spelled there reply =
      let cells = (replay opening (take k bodies)).cells in
      let kept : HoldsWords cells = keeping_all opening (take k bodies) holds (words_take k bodies all) in
      let right : (run_body cells body).reply ≡ words =
      same_Some (run_body cells body).reply words (sym (replay-place opening bodies k body there) ∙ reply) in
      subst (λ (ws : List ℕ). IsTold body (Replied (suc k) ws)) right
      (body_told answering any keeping keeping_all garbling joins (suc k) cells body kept spelled)

  -- the late answer at the place of a body is one to that body
  pub late_told : (opening : CellMap) (ps : List Placed) (body : List ℕ) (place rounds : ℕ) (late : Option (List ℕ))
      → HoldsWords opening → AllByRecursion AreWords (bodies_in ps) → SpellsRequests body
      → StandsIn ps (record { place = place; body = body })
      → IsLateReplyOf (replay opening (bodies_in ps)).replies (TimedOut place rounds) late → (words : List ℕ)
      → late ≡ Some words → IsTold body (Replied place words)
  late_told opening ps body place rounds late holds all spelled stand right words came =
      reply_told opening (bodies_in ps) place body words holds all spelled
      (at_map (λ (p : Placed). p.body) ps place (record { place = place; body = body }) stand)
      (subst (IsLateReplyOf (replay opening (bodies_in ps)).replies (TimedOut place rounds)) came right)

  client_ungarbled : (opening : CellMap) (ps : List Placed) (bodies : List (List ℕ)) (outcomes : List Outcome)
      (lates : List (Option (List ℕ))) → HoldsWords opening → AllByRecursion AreWords (bodies_in ps)
      → AreSpelled bodies → AllByRecursion (StandsIn ps) (bodies_with_places bodies outcomes)
      → AllByRecursion (IsReplyOf (replay opening (bodies_in ps)).replies) outcomes
      → AreBeside (IsLateReplyOf (replay opening (bodies_in ps)).replies) outcomes lates
      → AllByRecursion IsUngarbled (ends_with bodies outcomes lates)
  client_ungarbled opening ps [] outcomes lates holds all spelled stand replies right = tt
  client_ungarbled opening ps (b ∷ bs) [] lates holds all spelled stand replies right = tt
  client_ungarbled opening ps (b ∷ bs) (Replied place words ∷ os) lates holds all spelled stand replies right =
      let is = IsLateReplyOf (replay opening (bodies_in ps)).replies in (
        told_ungarbled b (Replied place words) (get_or lates 0 None)
            (reply_told opening (bodies_in ps) place b words holds all spelled.0
            (at_map (λ (p : Placed). p.body) ps place (record { place = place; body = b }) stand.0) replies.0),
        client_ungarbled opening ps bs os (drop 1 lates) holds all spelled.1 stand.1 replies.1
            (beside_rest is (Replied place words) os lates right),
      )
  client_ungarbled opening ps (b ∷ bs) (TimedOut place rounds ∷ os) lates holds all spelled stand replies right =
      let is = IsLateReplyOf (replay opening (bodies_in ps)).replies in (
        late_ungarbled b place rounds (get_or lates 0 None)
            (late_told opening ps b place rounds (get_or lates 0 None) holds all spelled.0 stand.0
            (beside_first is (TimedOut place rounds) os lates tt right)),
        client_ungarbled opening ps bs os (drop 1 lates) holds all spelled.1 stand.1 replies.1
            (beside_rest is (TimedOut place rounds) os lates right),
      )
  client_ungarbled opening ps (b ∷ bs) (Unsent ∷ os) lates holds all spelled stand replies right = (
    record { in_time = λ e. absurd cc; late = λ rounds e. absurd cc },
    client_ungarbled opening ps bs os (drop 1 lates) holds all spelled.1 stand replies.1
        (beside_rest (IsLateReplyOf (replay opening (bodies_in ps)).replies) Unsent os lates right),
  )
  client_ungarbled opening ps (b ∷ bs) (LinkLost place ∷ os) lates holds all spelled stand replies right = (
    record { in_time = λ e. absurd cc; late = λ rounds e. absurd cc },
    client_ungarbled opening ps bs os (drop 1 lates) holds all spelled.1
        (back_of_all (StandsIn ps) (with_place b place) (bodies_with_places bs os) stand) replies.1
        (beside_rest (IsLateReplyOf (replay opening (bodies_in ps)).replies) (LinkLost place) os lates right),
  )

  parts_ungarbled : (opening : CellMap) (ps : List Placed) (parts : List ClientPart) → HoldsWords opening
      → AllByRecursion AreWords (bodies_in ps) → AllByRecursion AsksRequests parts
      → AllByRecursion (StandsIn ps) (all_placed (map (λ (p : ClientPart). p.planned.bodies) parts)
      (map (λ (p : ClientPart). p.outcomes) parts))
      → AllByRecursion (AllByRecursion (IsReplyOf (replay opening (bodies_in ps)).replies))
      (map (λ (p : ClientPart). p.outcomes) parts)
      → AreBeside (AreBeside (IsLateReplyOf (replay opening (bodies_in ps)).replies))
      (map (λ (p : ClientPart). p.outcomes) parts) (map (λ (p : ClientPart). p.lates) parts)
      → AllByRecursion (λ (part : ClientPart). AllByRecursion IsUngarbled (ends_of part)) parts
  parts_ungarbled opening ps [] holds all asks stand replies right = tt
  parts_ungarbled opening ps (p ∷ parts) holds all asks stand replies right =
      let mine = bodies_with_places p.planned.bodies p.outcomes in
      let rest = all_placed (map (λ (q : ClientPart). q.planned.bodies) parts)
      (map (λ (q : ClientPart). q.outcomes) parts) in (
        client_ungarbled opening ps p.planned.bodies p.outcomes p.lates holds all asks.0
            (front_of_all (StandsIn ps) mine rest stand) replies.0 right.0,
        parts_ungarbled opening ps parts holds all asks.1 (back_of_all (StandsIn ps) mine rest stand) replies.1
            right.1,
      )

  pub none_garbled : (opening : CellMap) (run : BoardRun) → HoldsWords opening → AskRequests run
      → ShowsHistory opening run → NoneGarbled run
  none_garbled opening run holds asks is =
      let placed_all = all_placed (bodies_by_client run) (outcomes_by_client run) in
      let all = order (bodies_by_client run) (outcomes_by_client run) in
      parts_ungarbled opening all run.parts holds
      (words_of all (all_sorted HasWords placed_all (all_words run.parts asks))) asks
      (sorted_all (StandsIn all) placed_all (all_stand all is.one_order)) is.replies is.late
