-- What the lines of a session show over links that tell.
use Rattle.std.proofs.Common.{◌≡◌, ◌⊎◌, ℕ, zero, suc, ◌+◌, List, [], ◌∷◌, length, map, Option, Some, None}
use Rattle.std.proofs.Common.{drop, get_or, refl, sym, ap, ◌∙◌, subst, inl, inr, arith}
use Rattle.std.specs.List.{AllByRecursion, slice_get}
use Rattle.std.proofs.lemmas.Option.{same_Some}
use Rattle.ipb_base.specs.Word.{AreWords}
use Rattle.ipb_base.proofs.AllLemmas.{front_of_all, back_of_all}
use Rattle.board_bus.specs.Cells.{CellMap, HoldsWords}
use Rattle.board_bus.specs.Bodies.{replay}
use Rattle.board_specs.specs.declared.spec.BoardSpec.{BoardSpec}
use Rattle.board_specs.specs.declared.spec.LinkSpec.{LinkSpec}
use Rattle.board_specs.specs.declared.spec.LinkSpec.TheVariants.{Sim, Udp}
use Rattle.world_model.specs.Board.{Board}
use Rattle.world_model.proofs.Lists.{at_map}
use Rattle.world_model.specs.Settings.{Limits}
use Rattle.script_steps.specs.declared.operation.Step.{Step}
use Rattle.board_specs.specs.OpeningWords.{OpensOnWords}
use Rattle.script_steps.specs.Executable.{AreExecutable}
use Rattle.lane_record.specs.declared.outcome.Outcome.{Outcome}
use Rattle.lane_record.specs.declared.outcome.Outcome.TheVariants.{Replied, TimedOut, Unsent, LinkLost}
use Rattle.lane_record.specs.Outcomes.{place_of}
use Rattle.reply_join.specs.ByWords.{answers}
use Rattle.reply_join.specs.Joining.{IsJoined}
use Rattle.script_plans.specs.declared.greeting.Greeting.{Greeting}
use Rattle.script_plans.specs.declared.greeting.Greeting.TheVariants.{Live, Silent, Down}
use Rattle.script_plans.specs.declared.board_run.ClientPart.{ClientPart}
use Rattle.script_plans.specs.declared.board_run.BoardRun.{BoardRun}
use Rattle.transcript.specs.declared.line.LateAnswer.{LateAnswer}
use Rattle.transcript.specs.declared.line.LateAnswer.TheVariants as late_answer
use Rattle.transcript.specs.declared.line.OpResult.{OpResult}
use Rattle.transcript.specs.declared.line.OpResult.TheVariants as result
use Rattle.script_plans.specs.Plan.{AreSpelled, plans_on}
use Rattle.board_history.specs.Order.{Placed, with_place, bodies_with_places, all_placed, order, bodies_in}
use Rattle.board_history.specs.Parts.{AreBeside, IsLateReplyOf, IsReplyOf, IsReplied}
use Rattle.board_history.specs.History.{ShowsHistory, bodies_by_client, outcomes_by_client}
use Rattle.board_history.proofs.Sorting.{all_sorted, sorted_all}
use Rattle.board_history.specs.Runs.{CanRun, RunsHere, greeting_of, opens_with}
use Rattle.board_history.specs.Answering.{AsksRequests, AskRequests}
use Rattle.board_history.specs.Lines.{IsBusResult}
use Rattle.board_history.proofs.Answering.{Answering, AnsweringAny, Keeping, KeepingAll, Garbling, Joins}
use Rattle.board_history.proofs.Lists.{BothWith}
use Rattle.board_history.proofs.BusResults.{IsBusAnswer, IsFine, IsToldLate, IsUntold}
use Rattle.board_history.proofs.BusLines.{FinePart, Shows, CanShow}
use Rattle.board_history.proofs.Readiness.{ArePackedFor, IsReady, AreReady, is_ready}
use Rattle.script_plans.proofs.PackedDispatches.{PacksWords}
use Rattle.board_history.proofs.Shaped.{Standing, lengths}
use Rattle.board_history.proofs.Spelled.{Spelling, parts_spelled}
use Rattle.board_history.specs.Links.{CanBeMade, LinkReport, IsBoardOf, IsFaithful, board_there}
use Rattle.board_history.specs.LinkRuns.{TellsPayload, IsLiveRun, IsAsTold, IsRunOver, AreRunsOver, AreWholeRuns}
use Rattle.board_history.specs.LinkRuns.{IsUngarbledResult}
use Rattle.board_history.proofs.Lates.{beside_first, beside_rest}
use Rattle.board_history.proofs.Ungarbled.{StandsIn, all_stand, HasWords, all_words, late_told, words_of, reply_told}
use Rattle.board_history.proofs.LaneShown.{is_history}

-- a body that was answered late, where what the bus gives is allowed behind its timeout
pub record MayBeLate (P : OpResult → Type 0) (outcome : Outcome) (late : Option (List ℕ)) : Type 0 where
  pub place' : ℕ
  pub rounds : ℕ
  pub words : List ℕ
  pub is : outcome ≡ TimedOut place' rounds
  pub came : late ≡ Some words
  pub allowed : (one : LateAnswer) → IsBusAnswer one → P (result.Late rounds one)

-- what is allowed of the outcome of a body: a reply, a late answer, or what else may be told of its transactions
abbrev pub MayBe : (OpResult → Type 0) → Outcome → Type 0
MayBe P outcome = (body : List ℕ) (late : Option (List ℕ))
    → IsReplied outcome ⊎ (MayBeLate P outcome late ⊎ IsUntold P body outcome late)

-- what is allowed of a run: of each outcome of a live board, and of a board that is not live
pub record IsAllowed (P : OpResult → Type 0) (run : BoardRun) : Type 0 where
  pub outcomes : (payload : ℕ) → run.greeting ≡ Live payload
      → AllByRecursion (AllByRecursion (MayBe P)) (outcomes_by_client run)
  pub silent : run.greeting ≡ Silent → P result.Unsent
  pub down : run.greeting ≡ Down → P result.LinkLost

abbrev pub AreAllowed : (OpResult → Type 0) → List BoardRun → Type 0
AreAllowed P runs = AllByRecursion (IsAllowed P) runs

-- ---- a board of this process

told_here : (link : LinkSpec) (payload : ℕ) → RunsHere link → TellsPayload link payload
    → Live payload ≡ greeting_of link
told_here (Sim mtu buffers first ranges fates) payload here packets = ap Live packets
told_here (Udp address port wait) payload here packets = absurd here

never_silent : (link : LinkSpec) → RunsHere link → greeting_of link ≡ Silent → ⊥
never_silent (Sim mtu buffers first ranges fates) here e = absurd cc
never_silent (Udp address port wait) here e = here

never_down : (link : LinkSpec) → RunsHere link → greeting_of link ≡ Down → ⊥
never_down (Sim mtu buffers first ranges fates) here e = absurd cc
never_down (Udp address port wait) here e = here

-- its link tells
there_is : (link : LinkSpec) (board : Option Board) → RunsHere link → IsBoardOf link board
    → (there : Board) × (board ≡ Some there)
there_is (Sim mtu buffers first ranges fates) None here of = absurd of
there_is (Sim mtu buffers first ranges fates) (Some there) here of = (there, refl)
there_is (Udp address port wait) board here of = absurd here

-- so it is a board of this process
pub here_if_told : (link : LinkSpec) (board : Option Board) (there : Board) → CanBeMade link → IsBoardOf link board
    → board ≡ Some there → RunsHere link
here_if_told (Sim mtu buffers first ranges fates) board there made of tells = made
here_if_told (Udp address port wait) None there made of tells = absurd cc
here_if_told (Udp address port wait) (Some other) there made of tells = absurd of

-- over links that are faithful all boards are
pub all_here : (settings : Limits) (board : ℕ) (specs : List BoardSpec) (scripts : List (List Step))
    (runs : List BoardRun) (links : List LinkReport) → AreRunsOver settings board specs scripts runs links
    → AllByRecursion (λ (spec : BoardSpec). CanBeMade spec.link) specs → AllByRecursion IsFaithful links
    → AllByRecursion CanRun specs
all_here settings board [] scripts runs links is made calm = tt
all_here settings board (spec ∷ specs) scripts [] links is made calm = absurd is
all_here settings board (spec ∷ specs) scripts (r ∷ runs) [] is made calm = absurd is
all_here settings board (spec ∷ specs) scripts (r ∷ runs) (l ∷ links) is made calm = (
  here_if_told spec.link (board_there l.telling) calm.0.there made.0 is.0.board' calm.0.tells,
  all_here settings (board + 1) specs scripts runs links is.1 made.1 calm.1,
)

module _ (P : OpResult → Type 0) (answering : Answering) (any : AnsweringAny) (keeping : Keeping)
    (keeping_all : KeepingAll) (garbling : Garbling) (joins : Joins) where
  -- ---- a client

  one_fine : (opening : CellMap) (ps : List Placed) (body : List ℕ) (outcome : Outcome) (late : Option (List ℕ))
      → HoldsWords opening → AllByRecursion AreWords (bodies_in ps) → AreSpelled (body ∷ [])
      → AllByRecursion (StandsIn ps) (with_place body (place_of outcome))
      → IsReplyOf (replay opening (bodies_in ps)).replies outcome → IsReplied outcome → IsFine P body outcome late
  one_fine opening ps body (Replied place words) late holds all spelled stand reply replied =
      inl (reply_told answering any keeping keeping_all garbling joins opening (bodies_in ps) place body words holds all
      spelled.0 (at_map (λ (p : Placed). p.body) ps place (record { place = place; body = body }) stand.0) reply)
  one_fine opening ps body (TimedOut place rounds) late holds all spelled stand reply replied = absurd replied
  one_fine opening ps body Unsent late holds all spelled stand reply replied = absurd replied
  one_fine opening ps body (LinkLost place) late holds all spelled stand reply replied = absurd replied

  -- a late answer is one to its body
  late_fine : (opening : CellMap) (ps : List Placed) (body : List ℕ) (outcome : Outcome) (late : Option (List ℕ))
      → HoldsWords opening → AllByRecursion AreWords (bodies_in ps) → AreSpelled (body ∷ [])
      → AllByRecursion (StandsIn ps) (with_place body (place_of outcome))
      → IsLateReplyOf (replay opening (bodies_in ps)).replies outcome late → MayBeLate P outcome late
      → IsToldLate P body outcome late
  late_fine opening ps body outcome late holds all spelled stand right may =
      let stands = subst (λ (o : Outcome). AllByRecursion (StandsIn ps) (with_place body (place_of o))) may.is stand in
      let is = late_told answering any keeping keeping_all garbling joins opening ps body may.place' may.rounds late
      holds all spelled.0 stands.0
      (subst (λ (o : Outcome). IsLateReplyOf (replay opening (bodies_in ps)).replies o late) may.is right) may.words
      may.came in
      let same : is.words ≡ may.words = let replied = is.is in cc in
      record {
        place' = may.place';
        rounds = may.rounds;
        words = may.words;
        list = is.list;
        is = may.is;
        came = may.came;
        joined = subst (λ (ws : List ℕ). IsJoined body ws is.list) same is.joined;
        found = ap (answers body) (sym same) ∙ is.found;
        allowed = may.allowed;
      }

  client_fine : (opening : CellMap) (ps : List Placed) (bodies : List (List ℕ)) (outcomes : List Outcome)
      (lates : List (Option (List ℕ))) → HoldsWords opening → AllByRecursion AreWords (bodies_in ps)
      → AreSpelled bodies → AllByRecursion (StandsIn ps) (bodies_with_places bodies outcomes)
      → AllByRecursion (IsReplyOf (replay opening (bodies_in ps)).replies) outcomes
      → AreBeside (IsLateReplyOf (replay opening (bodies_in ps)).replies) outcomes lates
      → AllByRecursion (MayBe P) outcomes → length outcomes ≡ length bodies
      → BothWith (IsFine P) bodies outcomes lates
  client_fine opening ps [] [] lates holds all spelled stand replies right may same = tt
  client_fine opening ps [] (o ∷ os) lates holds all spelled stand replies right may same =
      absurd (omega (arith, same))
  client_fine opening ps (b ∷ bs) [] lates holds all spelled stand replies right may same =
      absurd (omega (arith, same))
  client_fine opening ps (b ∷ bs) (o ∷ os) lates holds all spelled stand replies right may same =
      let mine = with_place b (place_of o) in
      let rest = bodies_with_places bs os in
      let late = get_or lates 0 None in
      let is = IsLateReplyOf (replay opening (bodies_in ps)).replies in
      let stands = front_of_all (StandsIn ps) mine rest stand in (
        elim (may.0 b late) [
          | inl replied ↦ one_fine opening ps b o late holds all (spelled.0, tt) stands replies.0 replied
          | inr (inl came) ↦ inr (inl (late_fine opening ps b o late holds all (spelled.0, tt) stands
              (beside_first is o os lates tt right) came))
          | inr (inr other) ↦ inr (inr other)
        ],
        client_fine opening ps bs os (drop 1 lates) holds all spelled.1 (back_of_all (StandsIn ps) mine rest stand)
            replies.1 (beside_rest is o os lates right) may.1 (omega (arith, same)),
      )

  parts_fine : (standing : Standing) (opening : CellMap) (ps : List Placed) (parts : List ClientPart)
      → HoldsWords opening → AllByRecursion AreWords (bodies_in ps) → AllByRecursion AsksRequests parts
      → AllByRecursion (StandsIn ps) (all_placed (map (λ (p : ClientPart). p.planned.bodies) parts)
      (map (λ (p : ClientPart). p.outcomes) parts))
      → AllByRecursion (AllByRecursion (IsReplyOf (replay opening (bodies_in ps)).replies))
      (map (λ (p : ClientPart). p.outcomes) parts)
      → AreBeside (AreBeside (IsLateReplyOf (replay opening (bodies_in ps)).replies))
      (map (λ (p : ClientPart). p.outcomes) parts) (map (λ (p : ClientPart). p.lates) parts)
      → AllByRecursion (AllByRecursion (MayBe P)) (map (λ (p : ClientPart). p.outcomes) parts)
      → map length (map (λ (p : ClientPart). p.outcomes) parts)
      ≡ map length (map (λ (p : ClientPart). p.planned.bodies) parts) → AllByRecursion (FinePart P) parts
  parts_fine standing opening ps [] holds all asks stand replies right may long = tt
  parts_fine standing opening ps (p ∷ parts) holds all asks stand replies right may long =
      let mine = bodies_with_places p.planned.bodies p.outcomes in
      let rest = all_placed (map (λ (q : ClientPart). q.planned.bodies) parts)
      (map (λ (q : ClientPart). q.outcomes) parts) in
      let here = lengths standing p parts long in (
        client_fine opening ps p.planned.bodies p.outcomes p.lates holds all asks.0
            (front_of_all (StandsIn ps) mine rest stand) replies.0 right.0 may.0 here.first,
        parts_fine standing opening ps parts holds all asks.1 (back_of_all (StandsIn ps) mine rest stand) replies.1
            right.1 may.1 here.rest,
      )

  history_fine : (standing : Standing) (opening : CellMap) (run : BoardRun) → HoldsWords opening → AskRequests run
      → ShowsHistory opening run → AllByRecursion (AllByRecursion (MayBe P)) (outcomes_by_client run)
      → AllByRecursion (FinePart P) run.parts
  history_fine standing opening run holds asks is may =
      let placed_all = all_placed (bodies_by_client run) (outcomes_by_client run) in
      let all = order (bodies_by_client run) (outcomes_by_client run) in
      parts_fine standing opening all run.parts holds
      (words_of all (all_sorted HasWords placed_all (all_words run.parts asks))) asks
      (sorted_all (StandsIn all) placed_all (all_stand all is.one_order)) is.replies is.late may is.shape

  -- ---- a board

  live_shows : (standing : Standing) (spelling : Spelling) (settings : Limits) (spec : BoardSpec) (board : ℕ)
      (scripts : List (List Step)) (run : BoardRun) (link : LinkReport) (payload : ℕ) → run.greeting ≡ Live payload
      → IsRunOver settings spec board scripts run link → IsReady spec board scripts → IsAllowed P run
      → Shows P board payload scripts run
  live_shows standing spelling settings spec board scripts run link payload greeted is ready may =
      let live : IsLiveRun settings spec payload run link =
      subst (IsAsTold settings spec run link) greeted is.as_told in
      let told : Live payload ≡ greeting_of spec.link = told_here spec.link payload ready.here live.any_link.packets in
      let there = there_is spec.link (board_there link.telling) ready.here is.board' in
      let history = is_history settings spec board scripts run link there.0 payload is greeted there.1 in
      let packed : AllByRecursion (ArePackedFor board (Live payload)) scripts =
      subst (λ (g : Greeting). AllByRecursion (ArePackedFor board g) scripts) (sym told) ready.packed' in
      let plans = is.scripts'.plans ∙ ap (λ (g : Greeting). plans_on board g scripts) greeted in
      let asks = parts_spelled spelling board (Live payload) scripts run.parts plans packed in
      record {
        live = greeted;
        plans' = plans;
        told = history_fine standing (opens_with spec.link) run ready.words asks history
            (may.outcomes payload greeted);
        packed' = packed;
      }

  board_shows : (standing : Standing) (spelling : Spelling) (settings : Limits) (spec : BoardSpec) (board : ℕ)
      (scripts : List (List Step)) (run : BoardRun) (link : LinkReport) (told : Greeting) → run.greeting ≡ told
      → IsRunOver settings spec board scripts run link → IsReady spec board scripts → IsAllowed P run
      → CanShow P board scripts run
  board_shows standing spelling settings spec board scripts run link (Live payload) greeted is ready may =
      inl (payload, live_shows standing spelling settings spec board scripts run link payload greeted is ready may)
  board_shows standing spelling settings spec board scripts run link Silent greeted is ready may =
      inr (inl (greeted, may.silent greeted))
  board_shows standing spelling settings spec board scripts run link Down greeted is ready may =
      inr (inr (greeted, may.down greeted))

  pub shows_at : (standing : Standing) (spelling : Spelling) (settings : Limits) (board : ℕ) (specs : List BoardSpec)
      (scripts : List (List Step)) (runs : List BoardRun) (links : List LinkReport)
      → AreRunsOver settings board specs scripts runs links → AreReady board specs scripts → AreAllowed P runs
      → (k : ℕ) (run : BoardRun) → slice_get runs k ≡ Some run → CanShow P (board + k) scripts run
  shows_at standing spelling settings board [] scripts [] [] is ready may k run at = absurd cc
  shows_at standing spelling settings board [] scripts [] (l ∷ links) is ready may k run at = absurd is
  shows_at standing spelling settings board [] scripts (r ∷ runs) links is ready may k run at = absurd is
  shows_at standing spelling settings board (spec ∷ specs) scripts [] links is ready may k run at = absurd is
  shows_at standing spelling settings board (spec ∷ specs) scripts (r ∷ runs) [] is ready may k run at = absurd is
  shows_at standing spelling settings board (spec ∷ specs) scripts (r ∷ runs) (l ∷ links) is ready may zero run at =
      let here = board_shows standing spelling settings spec board scripts r l r.greeting refl is.0 ready.0 may.0 in
      let same : board ≡ board + 0 = omega arith in
      subst (λ (b : ℕ). CanShow P b scripts run) same
      (subst (λ (x : BoardRun). CanShow P board scripts x) (same_Some r run at) here)
  shows_at standing spelling settings board (spec ∷ specs) scripts (r ∷ runs) (l ∷ links) is ready may (suc k) run at =
      let later =
      shows_at standing spelling settings (board + 1) specs scripts runs links is.1 ready.1 may.1 k run at in
      let same : board + 1 + k ≡ board + suc k = omega arith in
      subst (λ (b : ℕ). CanShow P b scripts run) same later

  -- a board whose link tells
  pub told_shows_at : (standing : Standing) (spelling : Spelling) → PacksWords → (settings : Limits) (board : ℕ)
      (specs : List BoardSpec) (scripts : List (List Step)) (runs : List BoardRun) (links : List LinkReport)
      → AreRunsOver settings board specs scripts runs links
      → AllByRecursion (λ (spec : BoardSpec). CanBeMade spec.link) specs
      → AllByRecursion OpensOnWords specs → AllByRecursion AreExecutable scripts → AreAllowed P runs
      → (k : ℕ) (run : BoardRun) (link : LinkReport) (there : Board) → slice_get runs k ≡ Some run
      → slice_get links k ≡ Some link → board_there link.telling ≡ Some there → CanShow P (board + k) scripts run
  told_shows_at standing spelling packs settings board [] scripts [] [] is made words can may k run link there at also
      tells =
      absurd cc
  told_shows_at standing spelling packs settings board [] scripts []
      (l ∷ links) is made words can may k run link there at
      also tells = absurd is
  told_shows_at standing spelling packs settings board [] scripts
      (r ∷ runs) links is made words can may k run link there at
      also tells = absurd is
  told_shows_at standing spelling packs settings board
      (spec ∷ specs) scripts [] links is made words can may k run link there
      at also tells = absurd is
  told_shows_at standing spelling packs settings board (spec ∷ specs) scripts
      (r ∷ runs) [] is made words can may k run link
      there at also tells = absurd is
  told_shows_at standing spelling packs settings board (spec ∷ specs) scripts (r ∷ runs)
      (l ∷ links) is made words can may
      zero run link there at also tells =
      let told : board_there l.telling ≡ Some there =
      ap (λ (x : LinkReport). board_there x.telling) (same_Some l link also) ∙ tells in
      let ready =
      is_ready packs spec board scripts
      (here_if_told spec.link (board_there l.telling) there made.0 is.0.board' told) words.0 can in
      let here = board_shows standing spelling settings spec board scripts r l r.greeting refl is.0 ready may.0 in
      let same : board ≡ board + 0 = omega arith in
      subst (λ (b : ℕ). CanShow P b scripts run) same
      (subst (λ (x : BoardRun). CanShow P board scripts x) (same_Some r run at) here)
  told_shows_at standing spelling packs settings board (spec ∷ specs) scripts (r ∷ runs)
      (l ∷ links) is made words can may
      (suc k) run link there at also tells =
      let later =
      told_shows_at standing spelling packs settings
      (board + 1) specs scripts runs links is.1 made.1 words.1 can may.1 k run
      link there at also tells in
      let same : board + 1 + k ≡ board + suc k = omega arith in
      subst (λ (b : ℕ). CanShow P b scripts run) same later

-- ---- no line is garbled

pub bus_is_ungarbled : (r : OpResult) → IsBusResult r → IsUngarbledResult r
bus_is_ungarbled (result.Value words) bus = record { in_time = λ e. absurd cc; late = λ rounds e. absurd cc }
bus_is_ungarbled result.Done bus = record { in_time = λ e. absurd cc; late = λ rounds e. absurd cc }
bus_is_ungarbled (result.Was word) bus = record { in_time = λ e. absurd cc; late = λ rounds e. absurd cc }
bus_is_ungarbled (result.Error code after) bus = record { in_time = λ e. absurd cc; late = λ rounds e. absurd cc }
bus_is_ungarbled result.Skipped bus = record { in_time = λ e. absurd cc; late = λ rounds e. absurd cc }
bus_is_ungarbled (result.TimedOut rounds) bus = absurd bus
bus_is_ungarbled (result.Late rounds answer) bus = absurd bus
bus_is_ungarbled result.Unsent bus = absurd bus
bus_is_ungarbled result.LinkLost bus = absurd bus
bus_is_ungarbled result.Garbled bus = absurd bus
bus_is_ungarbled (result.Denied rule) bus = record { in_time = λ e. absurd cc; late = λ rounds e. absurd cc }

-- a late answer that the bus gives is not garbled
answer_is_ungarbled : (rounds : ℕ) (one : LateAnswer) → IsBusAnswer one → IsUngarbledResult (result.Late rounds one)
answer_is_ungarbled rounds one bus = record {
  in_time = λ e. absurd cc;
  late = λ more e.
      let garbled : one ≡ late_answer.Garbled = cc in absurd (subst IsBusAnswer garbled bus);
}

any_outcome : (o : Outcome) → MayBe IsUngarbledResult o
any_outcome (Replied place words) body late = inl tt
any_outcome (TimedOut place rounds) body None = inr (inr (record {
  allowed = λ index v mask. record { in_time = λ e. absurd cc; late = λ more e. absurd cc };
  bad = λ index. refl;
}))
any_outcome (TimedOut place rounds) body (Some words) = inr (inl (record {
  place' = place;
  rounds = rounds;
  words = words;
  is = refl;
  came = refl;
  allowed = answer_is_ungarbled rounds;
}))
any_outcome Unsent body late = inr (inr (record {
  allowed = λ index v mask. record { in_time = λ e. absurd cc; late = λ more e. absurd cc };
  bad = λ index. refl;
}))
any_outcome (LinkLost place) body late = inr (inr (record {
  allowed = λ index v mask. record { in_time = λ e. absurd cc; late = λ more e. absurd cc };
  bad = λ index. refl;
}))

each_outcome : (os : List Outcome) → AllByRecursion (MayBe IsUngarbledResult) os
each_outcome [] = tt
each_outcome (o ∷ os) = (any_outcome o, each_outcome os)

all_outcomes : (oss : List (List Outcome)) → AllByRecursion (AllByRecursion (MayBe IsUngarbledResult)) oss
all_outcomes [] = tt
all_outcomes (os ∷ oss) = (each_outcome os, all_outcomes oss)

pub ungarbled_allowed : (runs : List BoardRun) → AreAllowed IsUngarbledResult runs
ungarbled_allowed [] = tt
ungarbled_allowed (run ∷ runs) = (
  record {
    outcomes = λ _ _. all_outcomes (outcomes_by_client run);
    silent = λ _. record { in_time = λ e. absurd cc; late = λ rounds e. absurd cc };
    down = λ _. record { in_time = λ e. absurd cc; late = λ rounds e. absurd cc };
  },
  ungarbled_allowed runs,
)

-- ---- where all were replied to, lines fail by codes of the bus alone

replied_may : (os : List Outcome) → AllByRecursion IsReplied os → AllByRecursion (MayBe IsBusResult) os
replied_may [] all = tt
replied_may (o ∷ os) all = ((λ body late. inl all.0), replied_may os all.1)

all_may : (oss : List (List Outcome)) → AllByRecursion (AllByRecursion IsReplied) oss
    → AllByRecursion (AllByRecursion (MayBe IsBusResult)) oss
all_may [] all = tt
all_may (os ∷ oss) all = (replied_may os all.0, all_may oss all.1)

pub whole_allowed : (board : ℕ) (specs : List BoardSpec) (scripts : List (List Step)) (runs : List BoardRun)
    (links : List LinkReport) → AreReady board specs scripts → AreWholeRuns specs runs links
    → AreAllowed IsBusResult runs
whole_allowed board [] scripts [] [] ready whole = tt
whole_allowed board [] scripts [] (l ∷ links) ready whole = absurd whole
whole_allowed board [] scripts (r ∷ runs) links ready whole = absurd whole
whole_allowed board (spec ∷ specs) scripts [] links ready whole = absurd whole
whole_allowed board (spec ∷ specs) scripts (r ∷ runs) [] ready whole = absurd whole
whole_allowed board (spec ∷ specs) scripts (r ∷ runs) (l ∷ links) ready whole = (
  record {
    outcomes = λ _ _. all_may (outcomes_by_client r) whole.0.replied;
    silent = λ e. absurd (never_silent spec.link ready.0.here (sym whole.0.greeting ∙ e));
    down = λ e. absurd (never_down spec.link ready.0.here (sym whole.0.greeting ∙ e));
  },
  whole_allowed (board + 1) specs scripts runs links ready.1 whole.1,
)
