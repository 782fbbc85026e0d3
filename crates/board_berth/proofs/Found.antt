-- What a pass finds of a berth, and what the greetings make of it.
use Rattle.std.proofs.Common.{◌≡◌, ◌∙◌, ℕ, List, [], ◌∷◌, ◌++◌, length, map, Option, None, refl, sym, ap, inl, inr}
use Rattle.std.proofs.Common.{subst, arith, append_assoc, append-nil}
use Rattle.std.specs.List.{AllByRecursion}
use Rattle.turn_pass.specs.Record.{Record, Recorded}
use Rattle.world_model.specs.Settings.{Limits}
use Rattle.links.specs.declared.link.Link.{Ghosts}
use Rattle.lane_record.specs.declared.outcome.Outcome.{Outcome}
use Rattle.lane_record.specs.declared.item.Item.{Item}
use Rattle.lane_record.specs.Coding.{Head, as_recorded}
use Rattle.lane_record.specs.Legal.{IsLegal}
use Rattle.lane_tables.specs.Taken.{IsAllTaken}
use Rattle.hub_lane.specs.Lanes.{LaneState}
use Rattle.hub_lane.specs.Records.{head_shown}
use Rattle.hub_multiplexer.specs.Manner.{FoundLane}
use Rattle.board_berth.specs.declared.greeting.Greeting.{Greeting}
use Rattle.board_berth.specs.declared.greeting.Greeting.TheVariants.{Answered, Silent, Down}
use Rattle.board_berth.specs.Berths.{BerthState, IsBerth, berth_record}
use Rattle.board_berth.specs.Calls.{Calls, LaneGrows, OnLane}
use Rattle.board_berth.specs.Greetings.{IsMet, IsOver, IsPast, IsPresent, items_in}
use Rattle.board_berth.specs.Manner.{IsFoundBerth, IsOverBefore, berth_manner}
use Rattle.board_berth.specs.Records.{entries_from, greeted_entry, record_of_all, stretches}
use Rattle.board_berth.proofs.Growing.{all_entries, same_head}

-- ---- a greeting without entries

pub nothing_legal : IsLegal [] []
nothing_legal = record {
  made = tt;
  plans_count = record { count = λ client. tt; unsealed = tt };
  asks_follow_plans = record { count = λ client. tt; planned = tt };
  taken_once = tt;
  places_count = record { each = refl; places = tt };
  give_ups_rise = record { rise = tt; later = tt };
}

pub nothing_to_take : IsAllTaken []
nothing_to_take client = record { asked = refl; taken = λ n low. absurd (omega (arith, low)) }

-- where nothing is open, nothing of the entries is
pub over_taken : {L : Type 0} (greeting : Greeting L) → IsOver greeting → IsAllTaken (items_in greeting)
over_taken (Answered by lane) over = over
over_taken (Silent link) over = nothing_to_take
over_taken (Down link) over = nothing_to_take

-- ---- calls on the lane of the present greeting

module _ {L : Type 0} where
  pub on_lane_leads : (does leads : LaneState L → LaneState L → Type 0) (old new : Greeting L)
      → ((lane after : LaneState L) → does lane after → leads lane after) → OnLane does (Unit {0}) old new
      → OnLane leads (Unit {0}) old new
  on_lane_leads does leads (Answered by lane) (Answered now after) each is = (is.0, each lane after is.1)
  on_lane_leads does leads (Answered by lane) (Silent link) each is = absurd is
  on_lane_leads does leads (Answered by lane) (Down link) each is = absurd is
  on_lane_leads does leads (Silent link) new each is = (is.0, tt)
  on_lane_leads does leads (Down link) new each is = (is.0, tt)

  pub on_lane_twice : (does : LaneState L → LaneState L → Type 0) (old mid new : Greeting L)
      → ((a b c : LaneState L) → does a b → does b c → does a c) → OnLane does (Unit {0}) old mid
      → OnLane does (Unit {0}) mid new → OnLane does (Unit {0}) old new
  on_lane_twice does (Answered by lane) (Answered b l) (Answered now after) both first then =
      (then.0 ∙ first.0, both lane l after first.1 then.1)
  on_lane_twice does (Answered by lane) (Answered b l) (Silent link) both first then = absurd then
  on_lane_twice does (Answered by lane) (Answered b l) (Down link) both first then = absurd then
  on_lane_twice does (Answered by lane) (Silent link) new both first then = absurd first
  on_lane_twice does (Answered by lane) (Down link) new both first then = absurd first
  on_lane_twice does (Silent link) mid new both first then =
      subst (λ (g : Greeting L). OnLane does (Unit {0}) g new) first.0 then
  on_lane_twice does (Down link) mid new both first then =
      subst (λ (g : Greeting L). OnLane does (Unit {0}) g new) first.0 then

  abbrev pub outcomes_in : Greeting L → List (Option Outcome)
  outcomes_in (Answered by lane) = lane.outcomes
  outcomes_in (Silent link) = []
  outcomes_in (Down link) = []

-- ---- what is found

module _ {L : Type 0} (seen : Ghosts L) where
  abbrev pub found_in_vain : Limits → ℕ → List (Greeting L) → FoundLane
  found_in_vain settings number past = record {
    head = record {
      rounds = settings.rounds;
      window = settings.window;
      mtu = 0;
      buffers = 0;
      first = 0;
      link = number;
      opening = None;
    };
    items = [];
    outcomes = [];
    front = entries_from 0 (stretches seen.telling past);
  }

  abbrev pub in_front : List (Greeting L) → ℕ → Head → List Recorded
  in_front past by head = entries_from 0 (stretches seen.telling past)
      ++ greeted_entry (length (stretches seen.telling past)) (record { by = by; head = head; items = [] }) ∷ []

  abbrev pub found_in : Limits → ℕ → List (Greeting L) → Greeting L → FoundLane
  found_in settings number past (Answered by lane) = record {
    head = head_shown seen.telling lane;
    items = lane.items;
    outcomes = lane.outcomes;
    front = in_front past by (head_shown seen.telling lane);
  }
  found_in settings number past (Silent link) = found_in_vain settings number past
  found_in settings number past (Down link) = found_in_vain settings number past

  pub found_items : (settings : Limits) (number : ℕ) (past : List (Greeting L)) (present : Greeting L)
      → (found_in settings number past present).items ≡ items_in present
  found_items settings number past (Answered by lane) = refl
  found_items settings number past (Silent link) = refl
  found_items settings number past (Down link) = refl

  -- the record of a berth shows it
  pub shows_is : (settings : Limits) (number : ℕ) (past : List (Greeting L)) (present : Greeting L)
      → IsMet seen settings number present
      → record_of_all seen.telling settings number (past ++ present ∷ [])
      ≡ berth_manner.shows (found_in settings number past present)
  shows_is settings number past (Answered by lane) met =
      let front = entries_from 0 (stretches seen.telling past) in
      let first = greeted_entry (length (stretches seen.telling past))
      (record { by = by; head = head_shown seen.telling lane; items = [] }) in
      let items = map as_recorded lane.items in
      let entries = all_entries seen.telling past (Answered by lane)
      ∙ (ap (λ (l : List Recorded). front ++ first ∷ l) (append-nil items)
      ∙ sym (append_assoc front (first ∷ []) items)) in
      let limits = sym met.same_settings in
      let numbers = sym met.same_number in
      λ i. record {
        head = (limits i).rounds ∷ (limits i).window ∷ numbers i ∷ [];
        entries = entries i;
      }
  shows_is settings number past (Silent link) met =
      let entries = all_entries seen.telling past (Silent link) in
      λ i. record { head = settings.rounds ∷ settings.window ∷ number ∷ []; entries = entries i }
  shows_is settings number past (Down link) met =
      let entries = all_entries seen.telling past (Down link) in
      λ i. record { head = settings.rounds ∷ settings.window ∷ number ∷ []; entries = entries i }

  over_before : (settings : Limits) (number : ℕ) (head : Head) → settings.rounds ≡ head.rounds
      → settings.window ≡ head.window → number ≡ head.link → (past : List (Greeting L))
      → AllByRecursion (IsPast seen settings number) past
      → AllByRecursion (IsOverBefore head) (stretches seen.telling past)
  over_before settings number head rounds window link [] all = tt
  over_before settings number head rounds window link (Answered by lane ∷ past) all = (
    record {
      rounds = ap (λ (s : Limits). s.rounds) all.0.present.met.same_settings ∙ rounds;
      window = ap (λ (s : Limits). s.window) all.0.present.met.same_settings ∙ window;
      link = all.0.present.met.same_number ∙ link;
      outcomes = lane.outcomes;
      legal = all.0.present.keeps.sound.kept.legal;
      over = all.0.over;
    },
    over_before settings number head rounds window link past all.1,
  )
  over_before settings number head rounds window link (Silent l ∷ past) all =
      over_before settings number head rounds window link past all.1
  over_before settings number head rounds window link (Down l ∷ past) all =
      over_before settings number head rounds window link past all.1

  pub legal_is : (settings : Limits) (number : ℕ) (past : List (Greeting L)) (present : Greeting L)
      → AllByRecursion (IsPast seen settings number) past → IsPresent seen settings number present
      → IsFoundBerth (found_in settings number past present)
  legal_is settings number past (Answered by lane) all is = record {
    past = stretches seen.telling past;
    over = over_before settings number (head_shown seen.telling lane)
        (ap (λ (s : Limits). s.rounds) (sym is.met.same_settings))
        (ap (λ (s : Limits). s.window) (sym is.met.same_settings)) (sym is.met.same_number) past all;
    present = inl (record { by = by; front = refl });
    legal = is.keeps.sound.kept.legal;
  }
  legal_is settings number past (Silent link) all is = record {
    past = stretches seen.telling past;
    over = over_before settings number (found_in_vain settings number past).head refl refl refl past all;
    present = inr (record { front = refl; none = refl });
    legal = nothing_legal;
  }
  legal_is settings number past (Down link) all is = record {
    past = stretches seen.telling past;
    over = over_before settings number (found_in_vain settings number past).head refl refl refl past all;
    present = inr (record { front = refl; none = refl });
    legal = nothing_legal;
  }

  -- ---- what a call makes of it

  -- the lane knows as much from its greeting as before
  abbrev pub KeepsHead : LaneState L → LaneState L → Type 0
  KeepsHead lane after = head_shown seen.telling after ≡ head_shown seen.telling lane

  pub found_same : (settings : Limits) (number : ℕ) (past : List (Greeting L)) (old new : Greeting L)
      → OnLane KeepsHead (Unit {0}) old new → found_in settings number past new
      ≡ record (found_in settings number past old) { items = items_in new; outcomes = outcomes_in new }
  found_same settings number past (Answered by lane) (Answered now after) is =
      let who = is.0 in
      let heads = is.1 in
      λ i. record {
        head = heads i;
        items = after.items;
        outcomes = after.outcomes;
        front = in_front past (who i) (heads i);
      }
  found_same settings number past (Answered by lane) (Silent link) is = absurd is
  found_same settings number past (Answered by lane) (Down link) is = absurd is
  found_same settings number past (Silent link) new is =
      subst (λ (g : Greeting L). found_in settings number past g
      ≡ record (found_in_vain settings number past) { items = items_in g; outcomes = outcomes_in g }) (sym is.0) refl
  found_same settings number past (Down link) new is =
      subst (λ (g : Greeting L). found_in settings number past g
      ≡ record (found_in_vain settings number past) { items = items_in g; outcomes = outcomes_in g }) (sym is.0) refl

  -- what was found in a berth, and the same with the entries that it has now
  pub record Found (before after : Record) : Type 0 where
    pub lane : FoundLane
    pub items' : List Item
    pub was : before ≡ berth_manner.shows lane
    pub now : after ≡ berth_manner.shows (record lane { items = items' })
    pub legal : IsFoundBerth (record lane { items = items' })

  abbrev pub lane_found : BerthState L → FoundLane
  lane_found berth = found_in berth.settings berth.number berth.past berth.present

  pub whole_is : (old new : BerthState L) → Calls KeepsHead (Unit {0}) old new → lane_found new
      ≡ record (lane_found old) { items = items_in new.present; outcomes = outcomes_in new.present }
  whole_is old new call =
      let settings = call.same_settings in
      let number = call.same_number in
      let past = call.same_past in
      (λ i. found_in (settings i) (number i) (past i) new.present)
      ∙ found_same old.settings old.number old.past old.present new.present call.on_lane

  abbrev pub found_by_call : (old new : BerthState L) → IsBerth seen old → IsBerth seen new
      → Calls KeepsHead (Unit {0}) old new
      → Found (berth_record seen.telling old) (berth_record seen.telling new)
  found_by_call old new was is call = record {
    lane = record (lane_found old) { items = items_in old.present; outcomes = outcomes_in new.present };
    items' = items_in new.present;
    was = shows_is old.settings old.number old.past old.present was.of_present.met
        ∙ ap (λ (l : List Item). berth_manner.shows (record (lane_found old) { items = l }))
        (found_items old.settings old.number old.past old.present);
    now = shows_is new.settings new.number new.past new.present is.of_present.met
        ∙ ap berth_manner.shows (whole_is old new call);
    legal = subst IsFoundBerth (whole_is old new call)
        (legal_is new.settings new.number new.past new.present is.of_past is.of_present);
  }

  pub keeps_head : (client : ℕ) (old new : BerthState L) → Calls (LaneGrows seen.telling client) (Unit {0}) old new
      → Calls KeepsHead (Unit {0}) old new
  keeps_head client old new call = record {
    same_settings = call.same_settings;
    same_number = call.same_number;
    same_past = call.same_past;
    on_lane = on_lane_leads (LaneGrows seen.telling client) KeepsHead old.present new.present
        (λ lane after grows. same_head seen.telling client lane after grows) call.on_lane;
  }

  pub same_keeps_head : (old new : BerthState L) → new ≡ old → Calls KeepsHead (Unit {0}) old new
  same_keeps_head old new same = record {
    same_settings = ap (λ (b : BerthState L). b.settings) same;
    same_number = ap (λ (b : BerthState L). b.number) same;
    same_past = ap (λ (b : BerthState L). b.past) same;
    on_lane = subst (λ (b : BerthState L). OnLane KeepsHead (Unit {0}) old.present b.present) (sym same)
        (stays old.present);
  }
    where
      stays : (greeting : Greeting L) → OnLane KeepsHead (Unit {0}) greeting greeting
      stays (Answered by lane) = (refl, refl)
      stays (Silent link) = (refl, tt)
      stays (Down link) = (refl, tt)
