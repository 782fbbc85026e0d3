-- What a call on a berth means to whoever finds it.
use Rattle.std.proofs.Common.{◌≡◌, ◌∙◌, ℕ, ◌<◌, List, [], ◌∷◌, ◌++◌, Some, None, refl, sym, ap, subst, append-nil}
use Rattle.std.specs.List.{AllByRecursion}
use Rattle.turn_pass.specs.Record.{Record}
use Rattle.turn_pass.specs.Pass.{Knowledge}
use Rattle.lane_record.specs.declared.item.Item.{Item}
use Rattle.lane_record.specs.Items.{asked_count, planned_count}
use Rattle.lane_record.specs.NextEntry.{ask_of, took_of}
use Rattle.lane_tables.specs.Taken.{HasTakenAll, IsOldest}
use Rattle.hub_lane.specs.Calls.{AsksAs, IsSameRecord}
use Rattle.hub_lane.specs.Lanes.{LaneState}
use Rattle.hub_lane.specs.Step.{LooksAs, StepsAs}
use Rattle.hub_lane.specs.declared.answers.Asked.{Asked}
use Rattle.hub_lane.specs.declared.answers.Asked.TheVariants as asks
use Rattle.hub_lane.specs.declared.step.Looked.{Looked}
use Rattle.hub_lane.specs.declared.step.Looked.TheVariants as looks
use Rattle.hub_lane.specs.declared.step.Stepped.{Stepped}
use Rattle.hub_lane.specs.declared.step.Stepped.TheVariants as steps
use Rattle.links.specs.declared.link.Link.{Ghosts}
use Rattle.hub_multiplexer.specs.AnyCalls.{AskMeansAs, FindMeansAs, GrewAs, IsNone, MeansAs, StepMeansAs}
use Rattle.hub_multiplexer.specs.Lanes.{AsksOn, StepsOn}
use Rattle.hub_multiplexer.specs.OwnItems.{of_client}
use Rattle.hub_multiplexer.specs.Waiting.{FindsOn}
use Rattle.hub_multiplexer.specs.declared.answers.Performed.TheVariants as performs
use Rattle.hub_multiplexer.proofs.Grows.{found_by}
use Rattle.hub_multiplexer.proofs.LaneCalls.{IsPlanLaw, asks_on, steps_on}
use Rattle.hub_multiplexer.proofs.OwnItems.{asked_own, oldest_own, planned_own, taken_own}
use Rattle.std.specs.Prelude.{Option}
use Rattle.hub_multiplexer.specs.declared.answers.Performed.{Performed}
use Rattle.board_berth.specs.declared.greeting.Greeting.{Greeting}
use Rattle.board_berth.specs.declared.greeting.Greeting.TheVariants.{Answered, Silent, Down}
use Rattle.board_berth.specs.Berths.{BerthState, IsBerth, berth_record}
use Rattle.board_berth.specs.Calls.{Calls, LaneGrows, OnLane}
use Rattle.board_berth.specs.Greetings.{IsPresent, items_in}
use Rattle.board_berth.specs.Manner.{IsFoundBerth, berth_manner}
use Rattle.board_berth.proofs.Found.{Found, found_by_call, keeps_head, nothing_to_take, same_keeps_head}

-- ---- by what was found

module _ {L : Type 0} (seen : Ghosts L) (client : ℕ) (before after : Record) (s : Found seen before after) where
  abbrev pub grew : (added : List Item) → s.items' ≡ s.lane.items ++ added
      → AllByRecursion (λ (x : Item). x.client ≡ client) added → GrewAs berth_manner client before added after
  grew added is makers = record {
    lane = s.lane;
    was = s.was;
    now = s.now ∙ ap (λ (l : List Item). berth_manner.shows (record s.lane { items = l })) is;
    legal = subst (λ (l : List Item). IsFoundBerth (record s.lane { items = l })) is s.legal;
    makers = makers;
  }

  abbrev pub same : s.items' ≡ s.lane.items → GrewAs berth_manner client before [] after
  same is = grew [] (is ∙ sym (append-nil s.lane.items)) tt

  asked_is : (k : Knowledge) → k.number ≡ client
      → asked_count k.number (of_client k.number s.lane.items) ≡ asked_count client s.lane.items
  asked_is k number = asked_own k.number s.lane.items ∙ ap (λ (n : ℕ). asked_count n s.lane.items) number

  pub planned_is : (k : Knowledge) → k.number ≡ client
      → planned_count k.number (of_client k.number s.lane.items) ≡ planned_count client s.lane.items
  planned_is k number = planned_own k.number s.lane.items ∙ ap (λ (n : ℕ). planned_count n s.lane.items) number

  oldest_is : (k : Knowledge) → k.number ≡ client → (seq : ℕ) → IsOldest s.lane.items client seq
      → IsOldest (of_client k.number s.lane.items) k.number seq
  oldest_is k number seq o = oldest_own k.number seq s.lane.items
      (subst (λ (n : ℕ). IsOldest s.lane.items n seq) (sym number) o)

  taken_all_is : (k : Knowledge) → k.number ≡ client → HasTakenAll s.lane.items client
      → HasTakenAll (of_client k.number s.lane.items) k.number
  taken_all_is k number all = taken_own k.number s.lane.items
      (subst (λ (n : ℕ). HasTakenAll s.lane.items n) (sym number) all)

  pub looked : s.items' ≡ s.lane.items → MeansAs berth_manner client before (λ _. IsNone) after
  looked is = record { added = []; grew = same is; to_finder = λ _ _ _. refl }

  pub asks_of : (answer : Asked) → AsksOn s.lane.items client answer s.items'
      → MeansAs berth_manner client before (λ k. AskMeansAs berth_manner k answer) after
  asks_of (asks.Asked seq) (next, low, give_ups, entry) = record {
    added = ask_of client seq give_ups ∷ [];
    grew = grew (ask_of client seq give_ups ∷ []) entry (refl, tt);
    to_finder = λ k told number. record {
      next = next ∙ sym (asked_is k number);
      is_planned = subst (λ n. seq < n) (sym (planned_is k number)) low;
      give_ups = give_ups;
      entry = ap (λ n. ask_of n seq give_ups ∷ []) (sym number);
    };
  }
  asks_of asks.Nothing (all, is) = record {
    added = [];
    grew = same is;
    to_finder = λ k told number. (asked_is k number ∙ (all ∙ sym (planned_is k number)), refl);
  }

  pub steps_of : (answer : Stepped) → StepsOn s.lane.items client answer s.items'
      → MeansAs berth_manner client before (λ k. StepMeansAs berth_manner k answer) after
  steps_of (steps.Ready outcome) (seq, oldest, short, give_ups, entry) = record {
    added = took_of client seq outcome give_ups ∷ [];
    grew = grew (took_of client seq outcome give_ups ∷ []) entry (refl, tt);
    to_finder = λ k told number. record {
      seq = seq;
      oldest = oldest_is k number seq oldest;
      short = short;
      give_ups = give_ups;
      entry = ap (λ n. took_of n seq outcome give_ups ∷ []) (sym number);
    };
  }
  steps_of (steps.NotYet turned) ((seq, oldest), is) = record {
    added = [];
    grew = same is;
    to_finder = λ k told number. record { seq = seq; oldest = oldest_is k number seq oldest; none = refl };
  }
  steps_of steps.Nothing (all, is) = record {
    added = [];
    grew = same is;
    to_finder = λ k told number. (taken_all_is k number all, refl);
  }

  -- the same by what is found
  pub finds_of : (answer : Option Performed) → FindsOn s.lane.items client answer s.items'
      → MeansAs berth_manner client before (λ k. FindMeansAs berth_manner k answer) after
  finds_of (Some (performs.Ready outcome)) took = steps_of (steps.Ready outcome) took
  finds_of (Some performs.Nothing) all = steps_of steps.Nothing all
  finds_of None is = looked is

-- ---- by what a call did to the lane of the present greeting

module _ {L : Type 0} (seen : Ghosts L) where
  pub asks_in : IsPlanLaw → (settings : _) (number client : ℕ) (answer : Asked) (old new : Greeting L)
      → IsPresent seen settings number old
      → OnLane (λ lane after. AsksAs lane client after answer) (answer ≡ asks.Nothing) old new
      → AsksOn (items_in old) client answer (items_in new)
  asks_in law settings number client answer (Answered by lane) (Answered now after) is did =
      asks_on seen.telling law lane after client answer is.keeps.sound.kept.legal did.1
  asks_in law settings number client answer (Answered by lane) (Silent link) is did = absurd did
  asks_in law settings number client answer (Answered by lane) (Down link) is did = absurd did
  asks_in law settings number client answer (Silent link) new is did =
      subst (λ (a : Asked). AsksOn [] client a (items_in new)) (sym did.1) (refl, ap items_in did.0)
  asks_in law settings number client answer (Down link) new is did =
      subst (λ (a : Asked). AsksOn [] client a (items_in new)) (sym did.1) (refl, ap items_in did.0)

  pub steps_in : (client : ℕ) (answer : Stepped) (old new : Greeting L)
      → OnLane (λ lane after. StepsAs lane client after answer) (answer ≡ steps.Nothing) old new
      → StepsOn (items_in old) client answer (items_in new)
  steps_in client answer (Answered by lane) (Answered now after) did = steps_on lane after client answer did.1
  steps_in client answer (Answered by lane) (Silent link) did = absurd did
  steps_in client answer (Answered by lane) (Down link) did = absurd did
  steps_in client answer (Silent link) new did =
      subst (λ (a : Stepped). StepsOn [] client a (items_in new)) (sym did.1)
      ((nothing_to_take client).taken, ap items_in did.0)
  steps_in client answer (Down link) new did =
      subst (λ (a : Stepped). StepsOn [] client a (items_in new)) (sym did.1)
      ((nothing_to_take client).taken, ap items_in did.0)

  looks_on : (client : ℕ) (answer : Looked) (lane after : LaneState L) → LooksAs lane client after answer
      → FindsOn lane.items client (found_by answer) after.items
  looks_on client (looks.Ready outcome) lane after did = (
    did.seq,
    did.oldest,
    did.takes.short,
    lane.give_ups,
    ap (λ (l : LaneState L). l.items) did.takes.entry,
  )
  looks_on client looks.NotYet lane after did = ap (λ (l : LaneState L). l.items) did.none_yet.same
  looks_on client looks.Nothing lane after did = (did.1, ap (λ (l : LaneState L). l.items) did.0)

  pub looks_in : (client : ℕ) (answer : Looked) (old new : Greeting L)
      → OnLane (λ lane after. LooksAs lane client after answer) (answer ≡ looks.Nothing) old new
      → FindsOn (items_in old) client (found_by answer) (items_in new)
  looks_in client answer (Answered by lane) (Answered now after) did = looks_on client answer lane after did.1
  looks_in client answer (Answered by lane) (Silent link) did = absurd did
  looks_in client answer (Answered by lane) (Down link) did = absurd did
  looks_in client answer (Silent link) new did =
      subst (λ (a : Looked). FindsOn [] client (found_by a) (items_in new)) (sym did.1)
      ((nothing_to_take client).taken, ap items_in did.0)
  looks_in client answer (Down link) new did =
      subst (λ (a : Looked). FindsOn [] client (found_by a) (items_in new)) (sym did.1)
      ((nothing_to_take client).taken, ap items_in did.0)

  pub same_items_in : (old new : Greeting L) → OnLane IsSameRecord ⊥ old new → items_in new ≡ items_in old
  same_items_in (Answered by lane) (Answered now after) is = is.1.items
  same_items_in (Answered by lane) (Silent link) is = absurd is
  same_items_in (Answered by lane) (Down link) is = absurd is
  same_items_in (Silent link) new is = ap items_in is.0
  same_items_in (Down link) new is = ap items_in is.0

  module _ (client : ℕ) (old new : BerthState L) (was : IsBerth seen old) (is : IsBerth seen new) where
    pub ask_means : IsPlanLaw → (answer : Asked) → Calls (LaneGrows seen.telling client) (Unit {0}) old new
        → Calls (λ lane after. AsksAs lane client after answer) (answer ≡ asks.Nothing) old new
        → MeansAs berth_manner client (berth_record seen.telling old) (λ k. AskMeansAs berth_manner k answer)
        (berth_record seen.telling new)
    ask_means law answer grows did = asks_of seen client (berth_record seen.telling old)
        (berth_record seen.telling new) (found_by_call seen old new was is (keeps_head seen client old new grows)) answer
        (asks_in law old.settings old.number client answer old.present new.present was.of_present did.on_lane)

    pub step_means : (answer : Stepped) → Calls (LaneGrows seen.telling client) (Unit {0}) old new
        → Calls (λ lane after. StepsAs lane client after answer) (answer ≡ steps.Nothing) old new
        → MeansAs berth_manner client (berth_record seen.telling old) (λ k. StepMeansAs berth_manner k answer)
        (berth_record seen.telling new)
    step_means answer grows did = steps_of seen client (berth_record seen.telling old)
        (berth_record seen.telling new) (found_by_call seen old new was is (keeps_head seen client old new grows)) answer
        (steps_in client answer old.present new.present did.on_lane)

    pub looks_mean : (answer : Looked) → Calls (LaneGrows seen.telling client) (Unit {0}) old new
        → Calls (λ lane after. LooksAs lane client after answer) (answer ≡ looks.Nothing) old new
        → MeansAs berth_manner client (berth_record seen.telling old)
        (λ k. FindMeansAs berth_manner k (found_by answer)) (berth_record seen.telling new)
    looks_mean answer grows did = finds_of seen client (berth_record seen.telling old)
        (berth_record seen.telling new) (found_by_call seen old new was is (keeps_head seen client old new grows))
        (found_by answer) (looks_in client answer old.present new.present did.on_lane)

    -- no entry was added
    pub look_means : Calls (LaneGrows seen.telling client) (Unit {0}) old new → Calls IsSameRecord ⊥ old new
        → MeansAs berth_manner client (berth_record seen.telling old) (λ _. IsNone) (berth_record seen.telling new)
    look_means grows did = looked seen client (berth_record seen.telling old)
        (berth_record seen.telling new) (found_by_call seen old new was is (keeps_head seen client old new grows))
        (same_items_in old.present new.present did.on_lane)

    pub same_means : new ≡ old
        → MeansAs berth_manner client (berth_record seen.telling old) (λ _. IsNone) (berth_record seen.telling new)
    same_means same = looked seen client (berth_record seen.telling old)
        (berth_record seen.telling new) (found_by_call seen old new was is (same_keeps_head seen old new same))
        (ap (λ (b : BerthState L). items_in b.present) same)
