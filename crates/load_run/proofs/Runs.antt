-- What the summary of a run of a generated session tells.
use Rattle.std.proofs.Common.{◌≡◌, ℕ, ◌+◌, ◌*◌, ◌^◌, ◌<◌, ◌≤◌, ◌==◌, true, List, [], ◌∷◌, ◌++◌, length, map, Some, None}
use Rattle.std.proofs.Common.{Option, refl, ap, sym, ◌∙◌, subst, arith, append-nil}
use Rattle.std.proofs.lemmas.List.{length-map}
use Rattle.std.specs.List.{AllByRecursion, count_by, sum, sum_by}
use Rattle.std.proofs.lemmas.Bool.Decides.{nat_tests}
use Rattle.std.proofs.lemmas.List.Sums.{count_by-le-length}
use Rattle.std.specs.Option.{IfSome}
use Rattle.ipb_base.specs.Numbers.{in_64_bits}
use Rattle.world_model.specs.Board.{Board}
use Rattle.lane_record.specs.declared.outcome.Outcome.{Outcome}
use Rattle.lane_record.specs.Lists.{CountsFrom}
use Rattle.lane_record.specs.Outcomes.{is_sent}
use Rattle.script_steps.specs.declared.operation.Step.{Step}
use Rattle.script_plans.specs.declared.greeting.Greeting.{Greeting}
use Rattle.script_plans.specs.declared.greeting.Greeting.TheVariants.{Live, Silent, Down}
use Rattle.script_plans.specs.declared.board_run.ClientPart.{ClientPart}
use Rattle.script_plans.specs.declared.board_run.BoardRun.{BoardRun}
use Rattle.script_plans.specs.Plan.{ClientBodies, no_bodies, planned_on, plans_on}
use Rattle.transcript.specs.Lines.{board_line, lines_from, transcript_of}
use Rattle.script_plans.specs.Runs.{outcomes_in, outcomes_on}
use Rattle.transcript.specs.Shown.{places_told}
use Rattle.board_history.specs.Order.{places_of}
use Rattle.board_history.specs.Order as orders
use Rattle.board_history.specs.Parts.{IsReplyOf}
use Rattle.board_history.specs.History.{bodies_by_client, outcomes_by_client}
use Rattle.board_bus.specs.Bodies.{replay}
use Rattle.board_history.specs.Runs.{opens_with}
use Rattle.board_history.specs.Links.{LinkReport, IsBoardOf, board_there}
use Rattle.board_history.specs.LinkRuns.{AreRunsOver, IsAsTold, IsRunOver, IsTrueRun}
use Rattle.load_run.specs.Claims.{HasEachBelow, is_done, order_on, sum_below, TellsRuns, word_at_place}
use Rattle.ipb_base.specs.Numbers.{most_operations}
use Rattle.load_run.specs.Generated.{board, boards, link, settings, shares, steps, steps_behind}
use Rattle.load_run.specs.Summary.{all_done, summary_of, words_before}
use Rattle.load_run.proofs.Shares.{all-shares}
use Rattle.load_run.proofs.Plans.{bodies-length, bodies-planned, bodies_of, payload, pieces-planned}
use Rattle.load_run.proofs.Lines.{AreParts, IsPart, all-words, down-words, no-words, silent-words}
use Rattle.load_run.proofs.Words.{each-below}
use Rattle.load_run.proofs.Totals.{IsTold, all-added, all-done, below, below-few, below-is, bodies_by, counted}
use Rattle.load_run.proofs.Totals.{flat-all, no-more-total, no-more-words, order-alike, order-sum, order_of}
use Rattle.load_run.proofs.Totals.{outcomes-length, outcomes_by, sums, told-all, words_in}

-- ---- the parts of the clients

one-part : (part : ClientPart) (n : ℕ) → part.planned ≡ planned_on 0 (Live payload) (steps_behind 0 n)
    → length part.outcomes ≡ length part.planned.bodies → IsPart part n
one-part part n planned size =
    let bodies : part.planned.bodies ≡ bodies_of n =
    ap (λ (p : ClientBodies). p.bodies) planned ∙ bodies-planned no_bodies 0 n in
    record {
      bodies' = bodies;
      pieces' = ap (λ (p : ClientBodies). p.pieces) planned ∙ pieces-planned no_bodies 0 n;
      outcomes' = size ∙ (ap length bodies ∙ bodies-length n);
    }

-- each client asked for the bodies of its script on a board that told this greeting
abbrev AreAsked : Greeting → List (List Step) → List ClientPart → Type 0
AreAsked greeting scripts parts = map (λ (part : ClientPart). part.planned) parts ≡ plans_on 0 greeting scripts

-- each body has an outcome
abbrev AreSized : List ClientPart → Type 0
AreSized parts = map length (outcomes_by parts) ≡ map length (bodies_by parts)

all-parts : (parts : List ClientPart) (ns : List ℕ)
    → AreAsked (Live payload) (map (steps_behind 0) ns) parts → AreSized parts
    → AreParts parts ns
all-parts [] [] planned size = tt
all-parts [] (n ∷ ns) planned size = let bad : ⊥ = cc in absurd bad
all-parts (part ∷ parts) [] planned size = let bad : ⊥ = cc in absurd bad
all-parts (part ∷ parts) (n ∷ ns) planned size =
    let here : part.planned ≡ planned_on 0 (Live payload) (steps_behind 0 n) = cc in
    let later : AreAsked (Live payload) (map (steps_behind 0) ns) parts = cc in
    let one : length part.outcomes ≡ length part.planned.bodies = cc in
    let others : AreSized parts = cc in
    (one-part part n here one, all-parts parts ns later others)

-- ---- a live board

-- what a bus with a single thread answers to the bodies of the order
abbrev pub single_thread : ℕ → BoardRun → List (List ℕ)
single_thread count run = (replay (opens_with (link count)) (orders.bodies_in (order_on run))).replies

-- what carries the numbers of a summary
pub record HasWords (count : ℕ) (run : BoardRun) (words : List ℕ) (sent : ℕ) : Type 0 where
  pub done : length words ≡ count_by is_done (outcomes_on run)
  pub total : sum words ≡ sum_by (word_at_place (single_thread count run)) (outcomes_on run)
  pub places : sent ≡ length (order_on run)
  pub few : length words ≤ count
  pub few_sent : sent ≤ count
  pub low : sum words ≤ 100000 * count
  pub whole : length words ≡ count → (sum words ≡ below count) × (sent ≡ count) × HasEachBelow count words

empty : (outcomes : List Outcome) → length outcomes ≡ 0 → outcomes ≡ []
empty [] none = refl
empty (o ∷ os) none = let bad : ⊥ = omega arith in absurd bad

-- what `board_history` promises
abbrev pub SendsLaw : Type 0
SendsLaw = (run : BoardRun) → map length (outcomes_by_client run) ≡ map length (bodies_by_client run)
    → count_by is_sent (outcomes_on run) ≡ length (orders.order (bodies_by_client run) (outcomes_by_client run))

module _ (sends : SendsLaw) where
  module _ (count : ℕ) (run : BoardRun) (report : LinkReport) (there : Board) (small : count ≤ most_operations)
      (live : run.greeting ≡ Live payload) (is : AreParts run.parts (shares count))
      (sized : AreSized run.parts)
      (counts : CountsFrom 1 (places_of (order_on run)))
      (replies : AllByRecursion (AllByRecursion (IsReplyOf (single_thread count run))) (outcomes_by run.parts)) where
    size : length (outcomes_on run) ≡ count
    size = outcomes-length run.parts (shares count) is ∙ all-shares count

    sent : count_by is_sent (outcomes_on run) ≡ length (order_on run)
    sent = sends run sized

    few-sent : length (orders.bodies_in (order_on run)) < 2 ^ 32
    few-sent =
        let placed = length-map (order_on run) (λ (p : orders.Placed). p.body) in
        omega (arith, placed, sent, count_by-le-length is_sent (outcomes_on run), size)

    each : AllByRecursion (IsReplyOf (single_thread count run)) (outcomes_on run)
    each = flat-all (IsReplyOf (single_thread count run)) run.parts replies

    told : AllByRecursion IsTold (outcomes_on run)
    told =
        told-all (orders.bodies_in (order_on run)) (order-alike run.parts (shares count) is) few-sent (outcomes_on run)
        each

    pub live-words : HasWords count run (words_in (outcomes_on run)) (count_by is_sent (outcomes_on run))
    live-words = record {
      done = all-done (outcomes_on run) told;
      total = all-added (single_thread count run) (outcomes_on run) told each;
      places = sent;
      few = omega (arith, no-more-words (outcomes_on run) told, size);
      few_sent = omega (arith, count_by-le-length is_sent (outcomes_on run), size);
      low =
          let placed = length (order_on run) in
          omega (
            arith,
            no-more-total (outcomes_on run) told,
            order-sum run.parts (shares count) is,
            counted 0 (order_on run) counts,
            below-few (0 + placed) (omega (arith, sent, count_by-le-length is_sent (outcomes_on run), size)),
            sent,
            count_by-le-length is_sent (outcomes_on run),
            size,
          );
      whole = λ all.
          let both = sums (outcomes_on run) told (omega (arith, all, size)) in
          let added = counted 0 (order_on run) counts in
          let length' : 0 + length (order_on run) ≡ count = omega (arith, sent, both.sent, size) in
          let placed : length (order_of run.parts) ≡ count = omega (arith, sent, both.sent, size) in (
            omega (arith, both.total, order-sum run.parts (shares count) is, added, ap below length'),
            omega (arith, both.sent, size),
            each-below run.parts count told both.replied' counts placed,
          );
    }

  -- ---- a board that is not live

  none-asked : (greeting : Greeting) (parts : List ClientPart) (scripts : List (List Step))
      → ((script : List Step) → planned_on 0 greeting script ≡ no_bodies)
      → AreAsked greeting scripts parts → AreSized parts → outcomes_in parts ≡ []
  none-asked greeting [] scripts none planned sized = refl
  none-asked greeting (part ∷ parts) [] none planned sized = let bad : ⊥ = cc in absurd bad
  none-asked greeting (part ∷ parts) (script ∷ scripts) none planned sized =
      let first : part.planned ≡ planned_on 0 greeting script = cc in
      let nothing : part.planned ≡ no_bodies = first ∙ none script in
      let one : length part.outcomes ≡ length part.planned.bodies = cc in
      let zero' : length part.outcomes ≡ 0 = one ∙ ap (λ (p : ClientBodies). length p.bodies) nothing in
      let later : AreAsked greeting scripts parts = cc in
      let others : AreSized parts = cc in
      let rest = none-asked greeting parts scripts none later others in
      ap (λ (os : List Outcome). part.outcomes ++ os) rest ∙ (append-nil part.outcomes ∙ empty part.outcomes zero')

  pub quiet-words : (count : ℕ) (run : BoardRun) → AreSized run.parts → outcomes_on run ≡ [] → HasWords count run [] 0
  quiet-words count run sized none =
      let no-order : length (order_on run) ≡ 0 = sym (sends run sized) ∙ ap (λ os. count_by is_sent os) none in
      record {
        done = sym (ap (λ os. count_by is_done os) none);
        total = sym (ap (λ os. sum_by (word_at_place (single_thread count run)) os) none);
        places = sym no-order;
        few = omega arith;
        few_sent = omega arith;
        low = omega arith;
        whole = λ all. (ap below all, all, λ k within. let bad : ⊥ = omega (arith, all, within) in absurd bad);
      }

  -- ---- the run of the board

  -- what a summary is made of
  abbrev pub line-words : ℕ → BoardRun → List ℕ
  line-words count run = words_before (lines_from (run ∷ []) 0 (steps count))

  abbrev pub Sends : BoardRun → ℕ
  Sends run = places_told (board_line run)

  abbrev pub IsSummed : ℕ → BoardRun → Type 0
  IsSummed count run = HasWords count run (line-words count run) (Sends run)

  as-summed : (count : ℕ) (run : BoardRun) (words : List ℕ) (sent : ℕ) → line-words count run ≡ words → Sends run ≡ sent
      → HasWords count run words sent → IsSummed count run
  as-summed count run words sent same places has =
      subst (λ (n : ℕ). HasWords count run (line-words count run) n) (sym places)
      (subst (λ (ws : List ℕ). HasWords count run ws sent) (sym same) has)

  by-board : (count : ℕ) (run : BoardRun) (report : LinkReport) (o : Option Board) → board_there report.telling ≡ o
      → count ≤ most_operations
      → run.greeting ≡ Live payload → AreParts run.parts (shares count) → AreSized run.parts
      → CountsFrom 1 (places_of (order_on run)) → IsBoardOf (link count) o
      → IfSome o (IsTrueRun settings (opens_with (link count)) run report.held) → IsSummed count run
  by-board count run report None at small live is sized counts of true-run = absurd of
  by-board count run report (Some there) at small live is sized counts of true-run =
      as-summed count run (words_in (outcomes_on run)) (count_by is_sent (outcomes_on run))
      (all-words run live [] run.parts 0 (shares count) refl refl is)
      (ap (λ g. places_told (board_line (record run { greeting = g }))) live)
      (live-words count run report there small live is sized counts true-run.replies)

  by-greeting : (count : ℕ) (run : BoardRun) (report : LinkReport) (g : Greeting) → run.greeting ≡ g
      → count ≤ most_operations → AreAsked g (steps count) run.parts → AreSized run.parts
      → IsBoardOf (link count) (board_there report.telling)
      → IsAsTold settings (board count) run report g → IsSummed count run
  by-greeting count run report (Live words) at small planned sized of is =
      let same : words ≡ payload = is.any_link.packets in
      let live : run.greeting ≡ Live payload = at ∙ ap Live same in
      let parts = all-parts run.parts (shares count)
      (subst (λ (p : ℕ). AreAsked (Live p) (steps count) run.parts) same planned) sized in
      by-board count run report (board_there report.telling) refl small live parts sized is.any_link.one_order of
      is.told
  by-greeting count run report Silent at small planned sized of is =
      as-summed count run [] 0 (no-words run (silent-words run at) 0 (shares count))
      (ap (λ g. places_told (board_line (record run { greeting = g }))) at)
      (quiet-words count run sized (none-asked Silent run.parts (steps count) (λ script. refl) planned sized))
  by-greeting count run report Down at small planned sized of is =
      as-summed count run [] 0 (no-words run (down-words run at) 0 (shares count))
      (ap (λ g. places_told (board_line (record run { greeting = g }))) at)
      (quiet-words count run sized (none-asked Down run.parts (steps count) (λ script. refl) planned sized))

  pub one-run : (count : ℕ) (run : BoardRun) (report : LinkReport) → count ≤ most_operations
      → IsRunOver settings (board count) 0 (steps count) run report → IsSummed count run
  one-run count run report small is =
      by-greeting count run report run.greeting refl small is.scripts'.plans is.scripts'.shape is.board' is.as_told

  -- ---- the summary

  -- what every fact of a summary follows from
  pub with-run : (P : List BoardRun → Type 0) (count : ℕ) (runs : List BoardRun) (links : List LinkReport)
      → count ≤ most_operations
      → AreRunsOver settings 0 (boards count) (steps count) runs links
      → ((run : BoardRun) → IsSummed count run → P (run ∷ [])) → P runs
  with-run P count [] links small is then = absurd is
  with-run P count (run ∷ runs) [] small is then = absurd is
  with-run P count (run ∷ []) (report ∷ []) small is then = then run (one-run count run report small is.0)
  with-run P count (run ∷ []) (report ∷ (other ∷ links)) small is then = absurd is.1
  with-run P count (run ∷ (other ∷ runs)) (report ∷ links) small is then = absurd is.1

  pub tells : (count : ℕ) (runs : List BoardRun) (links : List LinkReport) → count ≤ most_operations
      → AreRunsOver settings 0 (boards count) (steps count) runs links
      → TellsRuns count runs (summary_of count (transcript_of (steps count) runs))
  tells count runs links small is =
      with-run (λ rs. TellsRuns count rs (summary_of count (transcript_of (steps count) rs))) count runs links small is
      (λ run has. record {
        run = run;
        one = refl;
        done = omega (arith, has.done, has.few);
        total = omega (arith, has.total, has.low);
        places = omega (arith, has.places, has.few_sent);
      })

  pub few-done : (count : ℕ) (runs : List BoardRun) (links : List LinkReport) → count ≤ most_operations
      → AreRunsOver settings 0 (boards count) (steps count) runs links
      → (summary_of count (transcript_of (steps count) runs)).done ≤ count
  few-done count runs links small is =
      with-run (λ rs. (summary_of count (transcript_of (steps count) rs)).done ≤ count) count runs links small is
      (λ run has. omega (arith, has.few))

  all-counted : (done count : ℕ) → done ≤ count → count ≤ most_operations → (in_64_bits done == count) ≡ true
      → done ≡ count
  all-counted done count few small test =
      let same : in_64_bits done ≡ count = grind (arith, nat_tests) in
      omega (arith, same)

  pub whole-total : (count : ℕ) (runs : List BoardRun) (links : List LinkReport) → count ≤ most_operations
      → AreRunsOver settings 0 (boards count) (steps count) runs links
      → all_done (summary_of count (transcript_of (steps count) runs)) ≡ true
      → (summary_of count (transcript_of (steps count) runs)).total ≡ sum_below count
  whole-total count runs links small is =
      with-run (λ rs. all_done (summary_of count (transcript_of (steps count) rs)) ≡ true
      → (summary_of count (transcript_of (steps count) rs)).total ≡ sum_below count) count runs links small is
      (λ run has all.
      let added = (has.whole (all-counted (length (line-words count run)) count has.few small all)).0 in
      omega (arith, added, has.low, below-is count))

  pub whole-places : (count : ℕ) (runs : List BoardRun) (links : List LinkReport) → count ≤ most_operations
      → AreRunsOver settings 0 (boards count) (steps count) runs links
      → all_done (summary_of count (transcript_of (steps count) runs)) ≡ true
      → (summary_of count (transcript_of (steps count) runs)).places ≡ count
  whole-places count runs links small is =
      with-run (λ rs. all_done (summary_of count (transcript_of (steps count) rs)) ≡ true
      → (summary_of count (transcript_of (steps count) rs)).places ≡ count) count runs links small is
      (λ run has all.
      let placed = (has.whole (all-counted (length (line-words count run)) count has.few small all)).1 in
      omega (arith, placed, has.few_sent))

  pub whole-words : (count : ℕ) (runs : List BoardRun) (links : List LinkReport) → count ≤ most_operations
      → AreRunsOver settings 0 (boards count) (steps count) runs links
      → all_done (summary_of count (transcript_of (steps count) runs)) ≡ true
      → HasEachBelow count (words_before (transcript_of (steps count) runs).clients)
  whole-words count runs links small is =
      with-run (λ rs. all_done (summary_of count (transcript_of (steps count) rs)) ≡ true
      → HasEachBelow count (words_before (transcript_of (steps count) rs).clients)) count runs links small is
      (λ run has all. (has.whole (all-counted (length (line-words count run)) count has.few small all)).2)
