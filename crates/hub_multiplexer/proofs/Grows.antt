-- What a call on a lane means to whoever finds it.
use Rattle.std.proofs.Common.{◌≡◌, ℕ, ◌<◌, List, [], ◌∷◌, ◌++◌, Option, Some, None, refl, sym, ap, subst, ◌∙◌, append-nil}
use Rattle.std.specs.List.{AllByRecursion}
use Rattle.turn_pass.specs.Record.{Record}
use Rattle.turn_pass.specs.Pass.{Knowledge, Told}
use Rattle.lane_record.specs.declared.outcome.Outcome.{Outcome}
use Rattle.lane_record.specs.declared.item.Item.{Item}
use Rattle.lane_record.specs.Coding.{Head, record_of}
use Rattle.lane_record.specs.Items.{asked_count, planned_count}
use Rattle.lane_record.specs.Legal.{IsLegal}
use Rattle.lane_record.specs.NextEntry.{ask_of, took_of}
use Rattle.hub_multiplexer.specs.Calls.{AskMeans, IsNone, StepMeans}
use Rattle.hub_multiplexer.specs.Lanes.{AsksOn, Grew, Means, StepsOn, shown_record}
use Rattle.hub_multiplexer.specs.Waiting.{FindMeans, FindsOn}
use Rattle.hub_multiplexer.specs.declared.answers.Performed.{Performed}
use Rattle.hub_multiplexer.specs.declared.answers.Performed.TheVariants as performs
use Rattle.lane_tables.specs.Taken.{HasTakenAll, IsOldest}
use Rattle.hub_multiplexer.specs.OwnItems.{HasTakenAllOf, IsOldestOf, asked_by, of_client, own_items, planned_by}
use Rattle.hub_lane.specs.declared.answers.Asked.{Asked}
use Rattle.hub_lane.specs.declared.answers.Asked.TheVariants as asks
use Rattle.hub_lane.specs.declared.step.Looked.{Looked}
use Rattle.hub_lane.specs.declared.step.Looked.TheVariants as looks
use Rattle.hub_lane.specs.declared.step.Stepped.{Stepped}
use Rattle.hub_lane.specs.declared.step.Stepped.TheVariants as steps
use Rattle.links.specs.Telling.{Telling}
use Rattle.hub_lane.specs.Calls.{AsksAs, IsSameRecord}
use Rattle.hub_lane.specs.Lanes.{LaneState, opening_of}
use Rattle.hub_lane.specs.Step.{LooksAs, StepsAs}
use Rattle.hub_multiplexer.proofs.LaneCalls.{IsPlanLaw, ask_head, asks_on, head, same_head, steps_on, steps_same}
use Rattle.hub_multiplexer.proofs.OwnItems.{asked_own, oldest_own, planned_own, taken_own}

-- a lane's record before and after a call, as the lane shows it
pub record Shown (before after : Record) : Type 0 where
  pub head : Head
  pub items : List Item
  pub items' : List Item
  pub outcomes : List (Option Outcome)
  pub was : before ≡ record_of head items
  pub now : after ≡ record_of head items'
  pub legal : IsLegal items' outcomes
  pub own : (k : Knowledge) → Told k before → own_items k ≡ of_client k.number items

module _ (client : ℕ) (before after : Record) (s : Shown before after) where
  abbrev pub grew : (added : List Item) → s.items' ≡ s.items ++ added
      → AllByRecursion (λ (x : Item). x.client ≡ client) added → Grew client before added after
  grew added is makers = record {
    lane = record { head = s.head; items = s.items; outcomes = s.outcomes; front = [] };
    was = s.was;
    now = s.now ∙ ap (record_of s.head) is;
    legal = subst (λ l. IsLegal l s.outcomes) is s.legal;
    makers = makers;
  }

  abbrev pub same : s.items' ≡ s.items → Grew client before [] after
  same is = grew [] (is ∙ sym (append-nil s.items)) tt

  pub asked_is : (k : Knowledge) → Told k before → k.number ≡ client → asked_by k ≡ asked_count client s.items
  asked_is k told number = (λ i. asked_count (number i) (s.own k told i))
      ∙ ((λ i. asked_count client (of_client (number i) s.items)) ∙ asked_own client s.items)

  pub planned_is : (k : Knowledge) → Told k before → k.number ≡ client → planned_by k ≡ planned_count client s.items
  planned_is k told number = (λ i. planned_count (number i) (s.own k told i))
      ∙ ((λ i. planned_count client (of_client (number i) s.items)) ∙ planned_own client s.items)

  oldest_is : (k : Knowledge) → Told k before → k.number ≡ client → (seq : ℕ) → IsOldest s.items client seq
      → IsOldestOf k seq
  oldest_is k told number seq o = subst (λ l. IsOldest l k.number seq) (sym (s.own k told))
      (subst (λ (n : ℕ). IsOldest (of_client n s.items) n seq) (sym number) (oldest_own client seq s.items o))

  taken_all_is : (k : Knowledge) → Told k before → k.number ≡ client → HasTakenAll s.items client → HasTakenAllOf k
  taken_all_is k told number all = subst (λ l. HasTakenAll l k.number) (sym (s.own k told))
      (subst (λ (n : ℕ). HasTakenAll (of_client n s.items) n) (sym number) (taken_own client s.items all))

  pub looked : s.items' ≡ s.items → Means client before (λ _. IsNone) after
  looked is = record { added = []; grew = same is; to_finder = λ _ _ _. refl }

  pub asks_of : (answer : Asked) → AsksOn s.items client answer s.items'
      → Means client before (λ k. AskMeans k answer) after
  asks_of (asks.Asked seq) (next, low, give_ups, entry) = record {
    added = ask_of client seq give_ups ∷ [];
    grew = grew (ask_of client seq give_ups ∷ []) entry (refl, tt);
    to_finder = λ k told number. record {
      next = next ∙ sym (asked_is k told number);
      is_planned = subst (λ n. seq < n) (sym (planned_is k told number)) low;
      give_ups = give_ups;
      entry = ap (λ n. ask_of n seq give_ups ∷ []) (sym number);
    };
  }
  asks_of asks.Nothing (all, is) = record {
    added = [];
    grew = same is;
    to_finder = λ k told number. (asked_is k told number ∙ (all ∙ sym (planned_is k told number)), refl);
  }

  pub steps_of : (answer : Stepped) → StepsOn s.items client answer s.items'
      → Means client before (λ k. StepMeans k answer) after
  steps_of (steps.Ready outcome) (seq, oldest, short, give_ups, entry) = record {
    added = took_of client seq outcome give_ups ∷ [];
    grew = grew (took_of client seq outcome give_ups ∷ []) entry (refl, tt);
    to_finder = λ k told number. record {
      seq = seq;
      oldest = oldest_is k told number seq oldest;
      short = short;
      give_ups = give_ups;
      entry = ap (λ n. took_of n seq outcome give_ups ∷ []) (sym number);
    };
  }
  steps_of (steps.NotYet turned) ((seq, oldest), is) = record {
    added = [];
    grew = same is;
    to_finder = λ k told number. record { seq = seq; oldest = oldest_is k told number seq oldest; none = refl };
  }
  steps_of steps.Nothing (all, is) = record {
    added = [];
    grew = same is;
    to_finder = λ k told number.
        (taken_all_is k told number all, refl);
  }

  -- the same by what is found
  pub finds_of : (answer : Option Performed) → FindsOn s.items client answer s.items'
      → Means client before (λ k. FindMeans k answer) after
  finds_of (Some (performs.Ready outcome)) took = steps_of (steps.Ready outcome) took
  finds_of (Some performs.Nothing) all = steps_of steps.Nothing all
  finds_of None is = looked is

-- what a look found
abbrev pub found_by : Looked → Option Performed
found_by (looks.Ready outcome) = Some (performs.Ready outcome)
found_by looks.NotYet = None
found_by looks.Nothing = Some performs.Nothing

module _ {L : Type 0} (telling : L → Option Telling) where
  abbrev pub shown_of : (old new : LaneState L)
      → ((k : Knowledge) → Told k (shown_record telling old) → own_items k ≡ of_client k.number old.items)
      → IsLegal new.items new.outcomes → head telling new ≡ head telling old
      → Shown (shown_record telling old) (shown_record telling new)
  shown_of old new own legal same_head = record {
    head = head telling old;
    items = old.items;
    items' = new.items;
    outcomes = new.outcomes;
    was = refl;
    now = ap (λ h. record_of h new.items) same_head;
    legal = legal;
    own = own;
  }

  pub ask_means : IsPlanLaw → (old new : LaneState L) (client : ℕ) (answer : Asked)
      → ((k : Knowledge) → Told k (shown_record telling old) → own_items k ≡ of_client k.number old.items)
      → IsLegal old.items old.outcomes → IsLegal new.items new.outcomes
      → opening_of (telling new.link) ≡ opening_of (telling old.link) → AsksAs old client new answer
      → Means client (shown_record telling old) (λ k. AskMeans k answer) (shown_record telling new)
  ask_means law old new client answer own was legal opening a = asks_of client (shown_record telling old) (shown_record telling new)
      (shown_of old new own legal (ask_head telling old new client answer opening a)) answer
      (asks_on telling law old new client answer was a)

  pub step_means : (old new : LaneState L) (client : ℕ) (answer : Stepped)
      → ((k : Knowledge) → Told k (shown_record telling old) → own_items k ≡ of_client k.number old.items)
      → IsLegal new.items new.outcomes → opening_of (telling new.link) ≡ opening_of (telling old.link)
      → StepsAs old client new answer
      → Means client (shown_record telling old) (λ k. StepMeans k answer) (shown_record telling new)
  step_means old new client answer own legal opening s = let same = steps_same old new client answer s in
      steps_of client (shown_record telling old) (shown_record telling new)
      (shown_of old new own legal (same_head telling old new same.0 same.1 same.2 opening)) answer
      (steps_on old new client answer s)

  -- no entry was added
  pub look_means : (old new : LaneState L) (client : ℕ)
      → ((k : Knowledge) → Told k (shown_record telling old) → own_items k ≡ of_client k.number old.items)
      → IsLegal new.items new.outcomes → opening_of (telling new.link) ≡ opening_of (telling old.link)
      → IsSameRecord old new
      → Means client (shown_record telling old) (λ _. IsNone) (shown_record telling new)
  look_means old new client own legal opening s =
      looked client (shown_record telling old) (shown_record telling new) (shown_of old new own legal
      (same_head telling old new s.number s.settings s.status opening)) s.items

  pub same_means : (old new : LaneState L) (client : ℕ)
      → ((k : Knowledge) → Told k (shown_record telling old) → own_items k ≡ of_client k.number old.items)
      → IsLegal new.items new.outcomes → new ≡ old
      → Means client (shown_record telling old) (λ _. IsNone) (shown_record telling new)
  same_means old new client own legal e =
      looked client (shown_record telling old) (shown_record telling new) (shown_of old new own legal (ap (head telling) e))
      (ap (λ (l : LaneState L). l.items) e)

  pub find_means : (old new : LaneState L) (client : ℕ) (answer : Option Performed)
      → ((k : Knowledge) → Told k (shown_record telling old) → own_items k ≡ of_client k.number old.items)
      → IsLegal new.items new.outcomes → head telling new ≡ head telling old
      → FindsOn old.items client answer new.items
      → Means client (shown_record telling old) (λ k. FindMeans k answer) (shown_record telling new)
  find_means old new client answer own legal same f =
      finds_of client (shown_record telling old) (shown_record telling new) (shown_of old new own legal same) answer f

  pub looks_mean : (old new : LaneState L) (client : ℕ) (answer : Looked)
      → ((k : Knowledge) → Told k (shown_record telling old) → own_items k ≡ of_client k.number old.items)
      → IsLegal new.items new.outcomes → LooksAs old client new answer
      → Means client (shown_record telling old) (λ k. FindMeans k (found_by answer)) (shown_record telling new)
  looks_mean old new client (looks.Ready outcome) own legal l =
      find_means old new client (Some (performs.Ready outcome)) own legal (ap (head telling) l.takes.entry)
      (l.seq, l.oldest, l.takes.short, old.give_ups, ap (λ (lane : LaneState L). lane.items) l.takes.entry)
  looks_mean old new client looks.NotYet own legal l =
      find_means old new client None own legal (ap (head telling) l.none_yet.same)
      (ap (λ (lane : LaneState L). lane.items) l.none_yet.same)
  looks_mean old new client looks.Nothing own legal (e, all) =
      find_means old new client (Some performs.Nothing) own legal (ap (head telling) e)
      (all, ap (λ (lane : LaneState L). lane.items) e)

  -- what a lane shows stays where its head and its entries do
  pub shown_same : (old new : LaneState L) → opening_of (telling new.link) ≡ opening_of (telling old.link)
      → IsSameRecord old new → shown_record telling new ≡ shown_record telling old
  shown_same old new opening s =
      (λ i. record_of (same_head telling old new s.number s.settings s.status opening i) (s.items i))
