-- What another greeting makes of what is found.
use Rattle.std.proofs.Common.{◌≡◌, ◌∙◌, ◌⊎◌, ℕ, List, [], ◌∷◌, ◌++◌, length, map, refl, sym, ap, subst, inl, inr, append-nil}
use Rattle.std.specs.Prelude.{Result, Ok, Err, IfOk, OnErr}
use Rattle.std.specs.List.{filter_map}
use Rattle.turn_pass.specs.Record.{GrowsBy, Record, Recorded}
use Rattle.world_model.specs.Settings.{Limits}
use Rattle.links.specs.declared.link.Link.{Ghosts}
use Rattle.lane_record.specs.declared.item.Item.{Item}
use Rattle.lane_record.specs.Coding.{as_recorded, item_from}
use Rattle.lane_tables.specs.Taken.{IsAllTaken}
use Rattle.hub_lane.specs.Lanes.{LaneState}
use Rattle.hub_lane.specs.Records.{head_shown}
use Rattle.hub_multiplexer.specs.AnyCalls.{BeginsAs}
use Rattle.board_berth.specs.declared.answers.Begun.{Begun}
use Rattle.board_berth.specs.declared.answers.NotBegun.{NotBegun}
use Rattle.board_berth.specs.declared.greeting.Greeting.{Greeting}
use Rattle.board_berth.specs.declared.greeting.Greeting.TheVariants.{Answered, Silent, Down}
use Rattle.board_berth.specs.Berths.{BerthState, IsBerth, berth_record}
use Rattle.board_berth.specs.Calls.{Begins, IsSameBerth}
use Rattle.board_berth.specs.Greetings.{IsNew, IsSameGreeting, items_in}
use Rattle.board_berth.specs.Manner.{IsBegun, berth_manner}
use Rattle.board_berth.specs.Records.{entries_from, greeted_entry, stretch_of, stretches}
use Rattle.board_berth.proofs.Beginning.{new_entries, same_record}
use Rattle.board_berth.proofs.Found.{found_in, found_items, lane_found, legal_is, over_taken, shows_is}
use Rattle.board_berth.proofs.Growing.{all_entries}

module _ {L : Type 0} (seen : Ghosts L) where
  -- the entries of a greeting that was just begun, behind these past ones
  abbrev pub first_entries : List (Greeting L) → Greeting L → List Recorded
  first_entries past greeting =
      entries_from (length (stretches seen.telling past)) (stretch_of seen.telling greeting)

  no_items : (settings : Limits) (number client by : ℕ) (lane : LaneState L)
      → IsNew seen settings number client (Answered by lane) → lane.items ≡ []
  no_items settings number client by lane new = ap (λ (l : LaneState L). l.items) new.new

  of_no_body : (settings : Limits) (number client : ℕ) (past : List (Greeting L)) (greeting : Greeting L)
      → IsNew seen settings number client greeting → filter_map item_from (first_entries past greeting) ≡ []
  of_no_body settings number client past (Answered by lane) new =
      ap (λ (items : List Item). filter_map item_from (map as_recorded items ++ []))
      (no_items settings number client by lane new)
  of_no_body settings number client past (Silent link) new = refl
  of_no_body settings number client past (Down link) new = refl

  front_is : (s : Limits) (n : ℕ) (settings : Limits) (number client : ℕ) (past : List (Greeting L))
      (greeting : Greeting L) → IsNew seen settings number client greeting → (found_in seen s n past greeting).front
      ≡ entries_from 0 (stretches seen.telling past) ++ first_entries past greeting
  front_is s n settings number client past (Answered by lane) new =
      let none = sym (no_items settings number client by lane new) in
      let before = entries_from 0 (stretches seen.telling past) in
      let first = greeted_entry (length (stretches seen.telling past))
      (record { by = by; head = head_shown seen.telling lane; items = [] }) in
      ap (λ (items : List Item). before ++ first ∷ (map as_recorded items ++ [])) none
  front_is s n settings number client past (Silent link) new = sym (append-nil _)
  front_is s n settings number client past (Down link) new = sym (append-nil _)

  told_is : (s : Limits) (n : ℕ) (settings : Limits) (number client : ℕ) (past : List (Greeting L))
      (greeting : Greeting L) → IsNew seen settings number client greeting → (first_entries past greeting ≡ [])
      ⊎ ((before by : ℕ) × (first_entries past greeting ≡ greeted_entry before
      (record { by = by; head = (found_in seen s n past greeting).head; items = [] }) ∷ []))
  told_is s n settings number client past (Answered by lane) new =
      let first = greeted_entry (length (stretches seen.telling past))
      (record { by = by; head = head_shown seen.telling lane; items = [] }) in
      inr (
        length (stretches seen.telling past),
        by,
        ap (λ (items : List Item). first ∷ (map as_recorded items ++ []))
            (no_items settings number client by lane new),
      )
  told_is s n settings number client past (Silent link) new = inl refl
  told_is s n settings number client past (Down link) new = inl refl

  none_yet : (s : Limits) (n : ℕ) (settings : Limits) (number client : ℕ) (past : List (Greeting L))
      (greeting : Greeting L) → IsNew seen settings number client greeting
      → ((found_in seen s n past greeting).items ≡ []) × ((found_in seen s n past greeting).outcomes ≡ [])
  none_yet s n settings number client past (Answered by lane) new =
      (no_items settings number client by lane new, ap (λ (l : LaneState L). l.outcomes) new.new)
  none_yet s n settings number client past (Silent link) new = (refl, refl)
  none_yet s n settings number client past (Down link) new = (refl, refl)

  same_items : (old new : Greeting L) → IsSameGreeting seen old new → items_in new ≡ items_in old
  same_items (Answered by lane) (Answered now after) is = ap (λ (l : LaneState L). l.items) is.1.lane
  same_items (Answered by lane) (Silent link) is = absurd is
  same_items (Answered by lane) (Down link) is = absurd is
  same_items (Silent link) (Answered now after) is = absurd is
  same_items (Silent link) (Silent after) is = refl
  same_items (Silent link) (Down after) is = refl
  same_items (Down link) (Answered now after) is = absurd is
  same_items (Down link) (Silent after) is = refl
  same_items (Down link) (Down after) is = refl

  -- ---- none began

  pub none_begins : (client : ℕ) (old new : BerthState L) → IsBerth seen old
      → berth_record seen.telling new ≡ berth_record seen.telling old
      → BeginsAs berth_manner client (berth_record seen.telling old) (berth_record seen.telling new)
  none_begins client old new was same =
      let shows = shows_is seen old.settings old.number old.past old.present was.of_present.met in
      record {
        lane = lane_found seen old;
        next = lane_found seen old;
        was = shows;
        now = same ∙ shows;
        legal = legal_is seen old.settings old.number old.past old.present was.of_past was.of_present;
        grew = record {
          head = ap (λ (r : Record). r.head) same;
          added = [];
          entries = ap (λ (r : Record). r.entries) same ∙ sym (append-nil _);
          makers = tt;
        };
        no_body = refl;
        begins = inl (refl, refl);
      }

  -- ---- one began

  module _ (client : ℕ) (old new : BerthState L) (begun : Begun) (was : IsBerth seen old) (is : IsBerth seen new)
      (b : Begins seen old client new begun) where
    abbrev pub added : List Recorded
    added = first_entries new.past new.present

    pub record_asked : berth_record seen.telling b.asked ≡ berth_record seen.telling old
    record_asked = same_record seen old b.asked b.same

    pub past_is : entries_from 0 (stretches seen.telling new.past) ≡ (berth_record seen.telling old).entries
    past_is = ap (λ (gs : List (Greeting L)). entries_from 0 (stretches seen.telling gs)) b.follows.past
        ∙ ap (λ (r : Record). r.entries) record_asked

    abbrev pub grows : GrowsBy client (berth_record seen.telling old) (berth_record seen.telling new)
    grows = record {
      head = (let settings : new.settings ≡ old.settings = b.follows.same_settings ∙ b.same.same_settings in
          let number : new.number ≡ old.number = b.follows.same_number ∙ b.same.same_number in
          λ i. (settings i).rounds ∷ (settings i).window ∷ number i ∷ []);
      added = added;
      entries = all_entries seen.telling new.past new.present
          ∙ ap (λ (l : List Recorded). l ++ added) past_is;
      makers = new_entries seen b.asked.settings b.asked.number client (length (stretches seen.telling new.past))
          new.present b.follows.present;
    }

    begins_found : IsBegun (lane_found seen old) added (lane_found seen new)
    begins_found =
        let shows = shows_is seen old.settings old.number old.past old.present was.of_present.met in
        let made = b.follows.present in
        let none = none_yet new.settings new.number b.asked.settings b.asked.number client new.past new.present made in
        record {
          over = subst IsAllTaken (same_items old.present b.asked.present b.same.same_present
              ∙ sym (found_items seen old.settings old.number old.past old.present))
              (over_taken b.asked.present b.follows.over);
          past = front_is new.settings new.number b.asked.settings b.asked.number client new.past new.present made
              ∙ ap (λ (l : List Recorded). l ++ added) (past_is ∙ ap (λ (r : Record). r.entries) shows);
          told = told_is new.settings new.number b.asked.settings b.asked.number client new.past new.present made;
          none = none.0;
          no_outcomes = none.1;
        }

    pub one_begins : BeginsAs berth_manner client (berth_record seen.telling old) (berth_record seen.telling new)
    one_begins = record {
      lane = lane_found seen old;
      next = lane_found seen new;
      was = shows_is seen old.settings old.number old.past old.present was.of_present.met;
      now = shows_is seen new.settings new.number new.past new.present is.of_present.met;
      legal = legal_is seen new.settings new.number new.past new.present is.of_past is.of_present;
      grew = grows;
      no_body = of_no_body b.asked.settings b.asked.number client new.past new.present b.follows.present;
      begins = inr begins_found;
    }

  pub begins_either : (client : ℕ) (old new : BerthState L) (result : Result Begun NotBegun) → IsBerth seen old
      → IsBerth seen new → IfOk result (Begins seen old client new) → OnErr result (IsSameBerth seen old new)
      → BeginsAs berth_manner client (berth_record seen.telling old) (berth_record seen.telling new)
  begins_either client old new (Ok begun) was is began same = one_begins client old new begun was is began
  begins_either client old new (Err why) was is began same =
      none_begins client old new was (same_record seen old new same)
