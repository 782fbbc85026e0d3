-- How the record of a berth grows.
use Rattle.std.proofs.Common.{◌≡◌, ◌∙◌, ℕ, ◌+◌, List, [], ◌∷◌, ◌++◌, length, map, Option, refl, sym, ap, subst, arith}
use Rattle.std.proofs.Common.{append_assoc, append-nil}
use Rattle.std.proofs.lemmas.List.{map-append}
use Rattle.std.specs.List.{AllByRecursion}
use Rattle.turn_pass.specs.Record.{AreMadeBy, GrowsBy, Recorded}
use Rattle.world_model.specs.Settings.{Limits}
use Rattle.links.specs.Telling.{Telling}
use Rattle.lane_record.specs.declared.item.Item.{Item}
use Rattle.lane_record.specs.Coding.{as_recorded}
use Rattle.hub_lane.specs.Lanes.{LaneState, opening_of}
use Rattle.hub_lane.specs.Records.{head_shown}
use Rattle.board_berth.specs.declared.greeting.Greeting.{Greeting}
use Rattle.board_berth.specs.declared.greeting.Greeting.TheVariants.{Answered, Silent, Down}
use Rattle.board_berth.specs.Berths.{BerthState, berth_record}
use Rattle.board_berth.specs.Calls.{LaneGrows, OnLane}
use Rattle.board_berth.specs.Greetings.{number_in}
use Rattle.board_berth.specs.Records.{Stretch, entries_from, greeted_entry, stretch_of, stretches}

-- ---- the entries of all greetings

pub entries_append : (before : ℕ) (some more : List Stretch)
    → entries_from before (some ++ more) ≡ entries_from before some ++ entries_from (before + length some) more
entries_append before [] more = ap (λ (n : ℕ). entries_from n more) (omega arith)
entries_append before (s ∷ some) more =
    let first = greeted_entry before s in
    let items = map as_recorded s.items in
    let rest = entries_from (before + 1) some in
    ap (λ (later : List Recorded). first ∷ (items ++ later)) (entries_append (before + 1) some more)
    ∙ (ap (λ (all : List Recorded). first ∷ all) (sym (append_assoc items rest (entries_from (before + 1 + length some) more)))
    ∙ ap (λ (n : ℕ). first ∷ ((items ++ rest) ++ entries_from n more)) (omega arith))

module _ {L : Type 0} (tells : L → Option Telling) where
  pub stretches_append : (some more : List (Greeting L))
      → stretches tells (some ++ more) ≡ stretches tells some ++ stretches tells more
  stretches_append [] more = refl
  stretches_append (greeting ∷ some) more =
      ap (λ (later : List Stretch). stretch_of tells greeting ++ later) (stretches_append some more)
      ∙ sym (append_assoc (stretch_of tells greeting) (stretches tells some) (stretches tells more))

  pub with_present : (past : List (Greeting L)) (present : Greeting L)
      → stretches tells (past ++ present ∷ []) ≡ stretches tells past ++ stretch_of tells present
  with_present past present = stretches_append past (present ∷ [])
      ∙ ap (λ (all : List Stretch). stretches tells past ++ all) (append-nil (stretch_of tells present))

  -- the entries of the past greetings, and then those of the present one
  pub all_entries : (past : List (Greeting L)) (present : Greeting L)
      → entries_from 0 (stretches tells (past ++ present ∷ []))
      ≡ entries_from 0 (stretches tells past) ++ entries_from (length (stretches tells past)) (stretch_of tells present)
  all_entries past present = ap (entries_from 0) (with_present past present)
      ∙ (entries_append 0 (stretches tells past) (stretch_of tells present)
      ∙ ap (λ (n : ℕ). entries_from 0 (stretches tells past) ++ entries_from n (stretch_of tells present)) (omega arith))

  -- ---- a call on the lane of the present one

  pub same_head : (client : ℕ) (old new : LaneState L) → LaneGrows tells client old new
      → head_shown tells new ≡ head_shown tells old
  same_head client old new grows =
      let settings : new.settings ≡ old.settings = grows.settings in
      let status : new.status ≡ old.status = grows.status in
      let number : new.number ≡ old.number = grows.number in
      let opening : opening_of (tells new.link) ≡ opening_of (tells old.link) = grows.opening in
      cc

  made_by_client : (client : ℕ) (items : List Item) → AllByRecursion (λ (x : Item). x.client ≡ client) items
      → AreMadeBy client (map as_recorded items)
  made_by_client client [] made = tt
  made_by_client client (x ∷ xs) made = (made.0, made_by_client client xs made.1)

  -- the entries of the present greeting with more behind them
  record Grown (client before : ℕ) (old new : Greeting L) : Type 0 where
    added : List Recorded
    entries : entries_from before (stretch_of tells new) ≡ entries_from before (stretch_of tells old) ++ added
    makers : AreMadeBy client added

  grown_lane : (client before by : ℕ) (old new : LaneState L) → LaneGrows tells client old new
      → Grown client before (Answered by old) (Answered by new)
  grown_lane client before by old new grows =
      let added = map as_recorded grows.added in
      let s : Stretch = record { by = by; head = head_shown tells old; items = old.items } in
      let first = greeted_entry before s in
      record {
        added = added;
        entries = ap (λ h. let t : Stretch = record { by = by; head = h; items = new.items } in
            greeted_entry before t ∷ (map as_recorded new.items ++ [])) (same_head client old new grows)
            ∙ (ap (λ (all : List Recorded). first ∷ all) (append-nil (map as_recorded new.items))
            ∙ (ap (λ (items : List Item). first ∷ map as_recorded items) grows.items
            ∙ (ap (λ (all : List Recorded). first ∷ all) (map-append as_recorded old.items grows.added)
            ∙ ap (λ (all : List Recorded). first ∷ (all ++ added)) (sym (append-nil (map as_recorded old.items))))));
        makers = made_by_client client grows.added grows.makers;
      }

  grown : (client before : ℕ) (old new : Greeting L) → OnLane (LaneGrows tells client) (Unit {0}) old new
      → Grown client before old new
  grown client before (Answered by lane) (Answered now after) is =
      subst (λ (n : ℕ). Grown client before (Answered by lane) (Answered n after)) (sym is.0)
      (grown_lane client before by lane after is.1)
  grown client before (Answered by lane) (Silent link) is = absurd is
  grown client before (Answered by lane) (Down link) is = absurd is
  grown client before (Silent link) new is = subst (λ (g : Greeting L). Grown client before (Silent link) g) (sym is.0)
      (record { added = []; entries = refl; makers = tt })
  grown client before (Down link) new is = subst (λ (g : Greeting L). Grown client before (Down link) g) (sym is.0)
      (record { added = []; entries = refl; makers = tt })

  same_number : (numbers : L → ℕ) (client : ℕ) (old new : Greeting L)
      → OnLane (LaneGrows tells client) (Unit {0}) old new → number_in numbers new ≡ number_in numbers old
  same_number numbers client (Answered by lane) (Answered now after) is = is.1.number
  same_number numbers client (Answered by lane) (Silent link) is = absurd is
  same_number numbers client (Answered by lane) (Down link) is = absurd is
  same_number numbers client (Silent link) new is = ap (number_in numbers) is.0
  same_number numbers client (Down link) new is = ap (number_in numbers) is.0

  abbrev pub state_with : (L → ℕ) → Limits → List (Greeting L) → Greeting L → BerthState L
  state_with numbers settings past present = record {
    settings = settings;
    number = number_in numbers present;
    past = past;
    present = present;
  }

  pub record_grows : (numbers : L → ℕ) (client : ℕ) (settings : Limits) (past : List (Greeting L))
      (old new : Greeting L) → OnLane (LaneGrows tells client) (Unit {0}) old new
      → GrowsBy client (berth_record tells (state_with numbers settings past old))
      (berth_record tells (state_with numbers settings past new))
  record_grows numbers client settings past old new is =
      let before = length (stretches tells past) in
      let more = grown client before old new is in
      let front = entries_from 0 (stretches tells past) in
      let last = entries_from before (stretch_of tells old) in
      record {
        head = ap (λ (n : ℕ). settings.rounds ∷ settings.window ∷ n ∷ []) (same_number numbers client old new is);
        added = more.added;
        entries = all_entries past new
            ∙ (ap (λ (all : List Recorded). front ++ all) more.entries
            ∙ (sym (append_assoc front last more.added)
            ∙ ap (λ (all : List Recorded). all ++ more.added) (sym (all_entries past old))));
        makers = more.makers;
      }
