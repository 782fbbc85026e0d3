-- A greeting that begins: what stood there is past, and the record grows by the entry in front of the new one.
use Rattle.std.proofs.Common.{◌≡◌, ◌∙◌, ℕ, ◌+◌, ◌-◌, ◌^◌, ◌<◌, List, [], ◌∷◌, ◌++◌, length, map, min, Option, refl, sym, ap}
use Rattle.std.proofs.Common.{subst, arith, append-nil, length-append}
use Rattle.std.specs.Prelude.{IfOk, OnErr, OnOk, Result, Ok, Err}
use Rattle.std.specs.List.{AllByRecursion}
use Rattle.turn_pass.specs.Record.{AreMadeBy, GrowsBy, Record}
use Rattle.world_model.specs.Settings.{Limits}
use Rattle.links.specs.Telling.{Telling}
use Rattle.links.specs.declared.link.Link.{Ghosts}
use Rattle.lane_record.specs.declared.item.Item.{Item}
use Rattle.lane_record.specs.Coding.{as_recorded}
use Rattle.hub_lane.specs.Lanes.{LaneState}
use Rattle.board_berth.specs.declared.answers.Begun.{Begun}
use Rattle.board_berth.specs.declared.answers.NotBegun.{NotBegun}
use Rattle.board_berth.specs.declared.greeting.Greeting.{Greeting}
use Rattle.board_berth.specs.declared.greeting.Greeting.TheVariants.{Answered, Silent, Down}
use Rattle.board_berth.specs.Berths.{BerthState, IsKept, berth_record, greetings_of}
use Rattle.board_berth.specs.Calls.{Begins, Follows, IsSameBerth, OnLane}
use Rattle.board_berth.specs.Greetings.{IsMet, IsNew, IsOver, IsPast, IsSameGreeting, IsSameLane, KeepsAllIn}
use Rattle.board_berth.specs.Greetings.{number_in}
use Rattle.board_berth.specs.Records.{Stretch, entries_from, record_of_all, stretch_of, stretches}
use Rattle.board_berth.proofs.Growing.{all_entries, with_present}

all_and_one : {A : Type 0} (P : A → Type 0) (xs : List A) (x : A) → AllByRecursion P xs → P x
    → AllByRecursion P (xs ++ x ∷ [])
all_and_one P [] x all one = (one, tt)
all_and_one P (y ∷ ys) x all one = (all.0, all_and_one P ys x all.1 one)

pub number_stays : {L : Type 0} (numbers : L → ℕ) (does : LaneState L → LaneState L → Type 0) (none : Type 0)
    (old new : Greeting L) → ((lane after : LaneState L) → does lane after → after.number ≡ lane.number)
    → OnLane does none old new → number_in numbers new ≡ number_in numbers old
number_stays numbers does none (Answered by lane) (Answered now after) keeps is = keeps lane after is.1
number_stays numbers does none (Answered by lane) (Silent link) keeps is = absurd is
number_stays numbers does none (Answered by lane) (Down link) keeps is = absurd is
number_stays numbers does none (Silent link) new keeps is = ap (number_in numbers) is.0
number_stays numbers does none (Down link) new keeps is = ap (number_in numbers) is.0

module _ {L : Type 0} (seen : Ghosts L) where
  -- ---- what is the same

  pub record_stays : (settings : Limits) (number other : ℕ) (past : List (Greeting L)) (old new : Greeting L)
      → other ≡ number → stretch_of seen.telling new ≡ stretch_of seen.telling old
      → record_of_all seen.telling settings other (past ++ new ∷ [])
      ≡ record_of_all seen.telling settings number (past ++ old ∷ [])
  record_stays settings number other past old new same stretch =
      let with = ap (λ (ss : List Stretch). stretches seen.telling past ++ ss) stretch in
      let all = with_present seen.telling past new ∙ (with ∙ sym (with_present seen.telling past old)) in
      ap (λ (n : ℕ). record_of_all seen.telling settings n (past ++ new ∷ [])) same
      ∙ ap (λ (ss : List Stretch). let r : Record = record {
        head = settings.rounds ∷ settings.window ∷ number ∷ [];
        entries = entries_from 0 ss;
      } in r) all

  same_lane : (by : ℕ) (old new : LaneState L) → IsSameLane seen old new
      → stretch_of seen.telling (Answered by new) ≡ stretch_of seen.telling (Answered by old)
  same_lane by old new is =
      let telling : seen.telling new.link ≡ seen.telling old.link = is.shows.telling in
      let lane = is.lane in
      ap (λ (l : LaneState L). stretch_of seen.telling (Answered by l)) lane
      ∙ ap (λ (t : Option Telling). stretch_of (λ _. t) (Answered by old)) telling

  pub same_stretch : (old new : Greeting L) → IsSameGreeting seen old new
      → stretch_of seen.telling new ≡ stretch_of seen.telling old
  same_stretch (Answered by lane) (Answered now after) is =
      ap (λ (n : ℕ). stretch_of seen.telling (Answered n after)) is.0 ∙ same_lane by lane after is.1
  same_stretch (Answered by lane) (Silent link) is = absurd is
  same_stretch (Answered by lane) (Down link) is = absurd is
  same_stretch (Silent link) (Answered now after) is = absurd is
  same_stretch (Silent link) (Silent after) is = refl
  same_stretch (Silent link) (Down after) is = absurd is
  same_stretch (Down link) (Answered now after) is = absurd is
  same_stretch (Down link) (Silent after) is = absurd is
  same_stretch (Down link) (Down after) is = refl

  pub over_still : (old new : Greeting L) → IsSameGreeting seen old new → IsOver old → IsOver new
  over_still (Answered by lane) (Answered now after) is over =
      let items : after.items ≡ lane.items = ap (λ (l : LaneState L). l.items) is.1.lane in
      rw items over
  over_still (Answered by lane) (Silent link) is over = absurd is
  over_still (Answered by lane) (Down link) is over = absurd is
  over_still (Silent link) (Answered now after) is over = absurd is
  over_still (Silent link) (Silent after) is over = tt
  over_still (Silent link) (Down after) is over = absurd is
  over_still (Down link) (Answered now after) is over = absurd is
  over_still (Down link) (Silent after) is over = absurd is
  over_still (Down link) (Down after) is over = tt

  pub same_record : (old new : BerthState L) → IsSameBerth seen old new
      → berth_record seen.telling new ≡ berth_record seen.telling old
  same_record old new is =
      ap (λ (s : Limits). record_of_all seen.telling s new.number (greetings_of new)) is.same_settings
      ∙ (ap (λ (past : List (Greeting L)). record_of_all seen.telling old.settings new.number (past ++ new.present ∷ []))
      is.same_past
      ∙ record_stays old.settings old.number new.number old.past old.present new.present is.same_number
      (same_stretch old.present new.present is.same_present))

  -- ---- the record grows

  pub new_entries : (settings : Limits) (number client before : ℕ) (greeting : Greeting L)
      → IsNew seen settings number client greeting → AreMadeBy client (entries_from before (stretch_of seen.telling greeting))
  new_entries settings number client before (Answered by lane) new =
      let none : lane.items ≡ [] = ap (λ (l : LaneState L). l.items) new.new in
      (new.for_client, subst (λ (items : List Item). AreMadeBy client (map as_recorded items ++ [])) (sym none) tt)
  new_entries settings number client before (Silent link) new = tt
  new_entries settings number client before (Down link) new = tt

  follows_grows : (old : BerthState L) (client : ℕ) (new : BerthState L) (begun : Begun)
      → Follows seen old client new begun
      → GrowsBy client (berth_record seen.telling old) (berth_record seen.telling new)
  follows_grows old client new begun is =
      let settings : new.settings ≡ old.settings = is.same_settings in
      let number : new.number ≡ old.number = is.same_number in
      let past = old.past ++ old.present ∷ [] in
      let before = length (stretches seen.telling past) in
      record {
        head = cc;
        added = entries_from before (stretch_of seen.telling new.present);
        entries = ap (λ (gs : List (Greeting L)). entries_from 0 (stretches seen.telling (gs ++ new.present ∷ []))) is.past
            ∙ all_entries seen.telling past new.present;
        makers = new_entries old.settings old.number client before new.present is.present;
      }

  pub begin_grows : (old : BerthState L) (client : ℕ) (new : BerthState L) (begun : Begun)
      → Begins seen old client new begun
      → GrowsBy client (berth_record seen.telling old) (berth_record seen.telling new)
  begin_grows old client new begun is =
      subst (λ (r : Record). GrowsBy client r (berth_record seen.telling new)) (same_record old is.asked is.same)
      (follows_grows is.asked client new begun is.follows)

  pub same_grows : (client : ℕ) (old new : BerthState L) → IsSameBerth seen old new
      → GrowsBy client (berth_record seen.telling old) (berth_record seen.telling new)
  same_grows client old new is =
      let same = same_record old new is in
      record {
        head = ap (λ (r : Record). r.head) same;
        added = [];
        entries = ap (λ (r : Record). r.entries) same ∙ sym (append-nil _);
        makers = tt;
      }

  -- ---- what is kept

  pub number_met : (settings : Limits) (number : ℕ) (greeting : Greeting L) → IsMet seen settings number greeting
      → number_in seen.number greeting ≡ number
  number_met settings number (Answered by lane) met = met.same_number
  number_met settings number (Silent link) met = met.of_rack
  number_met settings number (Down link) met = met.of_rack

  pub new_met : (settings : Limits) (number client : ℕ) (greeting : Greeting L)
      → IsNew seen settings number client greeting → IsMet seen settings number greeting
  new_met settings number client (Answered by lane) new = record {
    same_settings = ap (λ (l : LaneState L). l.settings) new.new;
    same_number = ap (λ (l : LaneState L). l.number) new.new;
  }
  new_met settings number client (Silent link) new = new
  new_met settings number client (Down link) new = new

  pub kept_on : (settings : Limits) (number : ℕ) (past : List (Greeting L)) (present next : Greeting L)
      (entries greetings entries_now greetings_now : ℕ) → IsKept seen settings number past present entries greetings
      → KeepsAllIn seen present → IsOver present → IsMet seen settings number next
      → entries_now ≡ length (entries_from 0 (stretches seen.telling (past ++ present ∷ []))) → entries_now < 2 ^ 62
      → greetings_now ≡ min (greetings + 1) (2 ^ 64 - 1)
      → IsKept seen settings (number_in seen.number next) (past ++ present ∷ []) next entries_now greetings_now
  kept_on settings number past present next entries greetings entries_now greetings_now kept keeps over met e few g =
      let counted = kept.counted in
      let longer = length-append past (present ∷ []) in
      subst (λ (n : ℕ). IsKept seen settings n (past ++ present ∷ []) next entries_now greetings_now)
      (sym (number_met settings number next met)) (record {
        of_past = all_and_one (IsPast seen settings number) past present kept.of_past
            (record { present = record { met = kept.met; keeps = keeps }; over = over });
        met = met;
        entries_are = e;
        few = few;
        counted = omega (arith, counted, longer, g);
      })

  pub same_number_in : (old new : Greeting L) → IsSameGreeting seen old new
      → number_in seen.number new ≡ number_in seen.number old
  same_number_in (Answered by lane) (Answered now after) is = ap (λ (l : LaneState L). l.number) is.1.lane
  same_number_in (Answered by lane) (Silent link) is = absurd is
  same_number_in (Answered by lane) (Down link) is = absurd is
  same_number_in (Silent link) (Answered now after) is = absurd is
  same_number_in (Silent link) (Silent after) is = is.number
  same_number_in (Silent link) (Down after) is = absurd is
  same_number_in (Down link) (Answered now after) is = absurd is
  same_number_in (Down link) (Silent after) is = absurd is
  same_number_in (Down link) (Down after) is = is.number

  pub begun_so : (old asked : BerthState L) (client : ℕ) (new : BerthState L) (result : Result Begun NotBegun)
      → IsSameBerth seen old asked → IfOk result (Follows seen asked client new)
      → IfOk result (Begins seen old client new)
  begun_so old asked client new (Ok begun) same follows = record { asked = asked; same = same; follows = follows }
  begun_so old asked client new (Err why) same follows = tt

  pub result_grows : (old asked : BerthState L) (client : ℕ) (new : BerthState L) (result : Result Begun NotBegun)
      → IsSameBerth seen old asked → IfOk result (Follows seen asked client new) → OnErr result (new ≡ asked)
      → GrowsBy client (berth_record seen.telling old) (berth_record seen.telling new)
  result_grows old asked client new (Ok begun) same follows stays =
      begin_grows old client new begun (record { asked = asked; same = same; follows = follows })
  result_grows old asked client new (Err why) same follows stays =
      subst (λ (b : BerthState L). GrowsBy client (berth_record seen.telling old) (berth_record seen.telling b)) (sym stays)
      (same_grows client old asked same)

pub on_any_ok : {A E : Type 0} {P : Type 0} (result : Result A E) → P → OnOk result P
on_any_ok (Ok x) holds = holds
on_any_ok (Err e) holds = tt
