-- A body that is planned and asked in one call on a berth.
use Rattle.std.proofs.Common.{◌≡◌, ◌∙◌, ◌<◌, ◌+◌, inl, inr, ℕ, eqb, Bool, true, false, cond, List, [], ◌∷◌, ◌++◌, length, drop}
use Rattle.std.proofs.Common.{map, refl, sym, ap, subst, arith, append-nil, append_assoc, length-append}
use Rattle.std.specs.List.{AllByRecursion, filter_map}
use Rattle.std.proofs.Math.Seq.{drop-append_seam}
use Rattle.std.proofs.lemmas.List.Elements.{filter-append, filter_map-append}
use Rattle.ipb_base.specs.Numbers.{payload_of}
use Rattle.turn_pass.specs.Record.{Record, Recorded, made_by, past}
use Rattle.turn_pass.specs.Pass.{Knowledge, Told}
use Rattle.world_model.specs.Settings.{Limits}
use Rattle.links.specs.declared.link.Link.{Ghosts}
use Rattle.lane_record.specs.declared.item.Item.{Item}
use Rattle.lane_record.specs.Coding.{as_recorded, item_from}
use Rattle.lane_record.specs.Items.{ask_in, asked_count, numbers, plan_in, planned_count}
use Rattle.lane_record.specs.NextEntry.{ask_of, plan_of}
use Rattle.lane_record.proofs.Lookups.{numbers_append}
use Rattle.hub_lane.specs.Lanes.{LaneState}
use Rattle.hub_lane.specs.Plans.{CanPlan, IsRefused, Plans}
use Rattle.hub_lane.specs.declared.answers.Asked.TheVariants as asks
use Rattle.hub_lane.specs.declared.answers.PlanRefusal.{PlanRefusal}
use Rattle.hub_lane.specs.declared.answers.PlanRefusal.TheVariants as refusals
use Rattle.hub_multiplexer.specs.AnyCalls.{HasSubmittedAs, MeansAs}
use Rattle.hub_multiplexer.specs.Manner.{FoundLane, IsAllAsked}
use Rattle.hub_multiplexer.specs.OwnItems.{of_client, own_items}
use Rattle.hub_multiplexer.proofs.LaneCalls.{IsPlanLaw}
use Rattle.hub_multiplexer.proofs.OwnItems.{CanBeRead, asked_own, planned_own}
use Rattle.hub_multiplexer.proofs.Submits.{asked_same, planned_more}
use Rattle.board_berth.specs.declared.answers.BerthRefusal.{BerthRefusal}
use Rattle.board_berth.specs.declared.answers.BerthRefusal.TheVariants as refuses
use Rattle.board_berth.specs.declared.greeting.Greeting.{Greeting}
use Rattle.board_berth.specs.declared.greeting.Greeting.TheVariants.{Answered, Silent, Down}
use Rattle.board_berth.specs.Berths.{BerthState, IsBerth, berth_record, greetings_of}
use Rattle.board_berth.specs.Calls.{Calls, CallsLane, IsAskedIn, IsRefusedAt, LaneGrows, OnLane}
use Rattle.board_berth.specs.Greetings.{IsPast, items_in}
use Rattle.board_berth.specs.Manner.{BerthRefused, RefusedByLane, berth_manner}
use Rattle.board_berth.specs.Records.{Stretch, entries_from, greeted_entry, stretches}
use Rattle.board_berth.proofs.Found.{KeepsHead, found_by_call, found_in, keeps_head}
use Rattle.board_berth.proofs.Found.{on_lane_twice, outcomes_in, same_keeps_head}
use Rattle.board_berth.proofs.Means.{asks_in, grew, planned_is, same}

-- ---- what a pass knows of its client, greeting by greeting

-- all entries of the maker are those of the opening and those past it
pub all_made : (k : Knowledge) (r : Record) → Told k r
    → made_by k.number k.opening.entries ++ k.mine ≡ made_by k.number r.entries
all_made k r told =
    let rest = told.opening_begins.entries in
    let later : past k.opening r ≡ rest.0 = ap (drop (length k.opening.entries)) rest.1
    ∙ drop-append_seam k.opening.entries rest.0 in
    ap (λ l. made_by k.number k.opening.entries ++ l) (told.own ∙ ap (made_by k.number) later)
    ∙ sym (ap (made_by k.number) rest.1 ∙ filter-append (λ (x : Recorded). eqb x.entry.maker k.number) k.opening.entries
    rest.0)

abbrev pub own_in : ℕ → List Stretch → List Item
own_in n [] = []
own_in n (s ∷ later) = of_client n s.items ++ own_in n later

pub read_made : CanBeRead → (n : ℕ) (items : List Item)
    → filter_map item_from (made_by n (map as_recorded items)) ≡ of_client n items
read_made read n [] = refl
read_made read n (x ∷ xs) = cases (eqb x.client n) (read_made read n xs)
  where
    cases : (b : Bool) → filter_map item_from (made_by n (map as_recorded xs)) ≡ of_client n xs
        → filter_map item_from (cond b (as_recorded x ∷ made_by n (map as_recorded xs)) (made_by n (map as_recorded xs))) ≡ cond
        b (x ∷ of_client n xs) (of_client n xs)
    cases true e = rw (read x) (ap (λ l. x ∷ l) e)
    cases false e = e

-- the entry in front of a greeting is of no body
pub read_greeted : (n before : ℕ) (s : Stretch) (rest : List Recorded)
    → filter_map item_from (made_by n (greeted_entry before s ∷ rest)) ≡ filter_map item_from (made_by n rest)
read_greeted n before s rest = cases (eqb s.by n)
  where
    cases : (b : Bool) → filter_map item_from (cond b (greeted_entry before s ∷ made_by n rest) (made_by n rest))
        ≡ filter_map item_from (made_by n rest)
    cases true = refl
    cases false = refl

pub read_all : CanBeRead → (n before : ℕ) (ss : List Stretch)
    → filter_map item_from (made_by n (entries_from before ss)) ≡ own_in n ss
read_all read n before [] = refl
read_all read n before (s ∷ later) =
    let items = map as_recorded s.items in
    let rest = entries_from (before + 1) later in
    read_greeted n before s (items ++ rest)
    ∙ (ap (filter_map item_from) (filter-append (λ (x : Recorded). eqb x.entry.maker n) items rest)
    ∙ (filter_map-append item_from (made_by n items) (made_by n rest)
    ∙ (ap (λ (l : List Item). l ++ filter_map item_from (made_by n rest)) (read_made read n s.items)
    ∙ ap (λ (l : List Item). of_client n s.items ++ l) (read_all read n (before + 1) later))))

pub asked_more : (n : ℕ) (some more : List Item)
    → asked_count n (some ++ more) ≡ asked_count n some + asked_count n more
asked_more n some more = ap length (numbers_append ask_in n some more)
    ∙ length-append (numbers ask_in n some) (numbers ask_in n more)

pub planned_with : (n : ℕ) (some more : List Item)
    → planned_count n (some ++ more) ≡ planned_count n some + planned_count n more
planned_with n some more = ap length (numbers_append plan_in n some more)
    ∙ length-append (numbers plan_in n some) (numbers plan_in n more)

module _ {L : Type 0} (seen : Ghosts L) where
  -- what was planned in the present greeting alone may still be to be asked
  all_but_present : (settings : Limits) (number n : ℕ) (past : List (Greeting L)) (last : List Item)
      → AllByRecursion (IsPast seen settings number) past
      → asked_count n (own_in n (stretches seen.telling past) ++ last)
      ≡ planned_count n (own_in n (stretches seen.telling past) ++ last)
      → asked_count n last ≡ planned_count n last
  all_but_present settings number n [] last of_past all = all
  all_but_present settings number n (Answered by lane ∷ past) last of_past all =
      let first = of_client n lane.items in
      let rest = own_in n (stretches seen.telling past) in
      let over : asked_count n lane.items ≡ planned_count n lane.items = (of_past.0.over n).asked in
      let apart = append_assoc first rest last in
      let asked = ap (asked_count n) apart ∙ asked_more n first (rest ++ last) in
      let planned = ap (planned_count n) apart ∙ planned_with n first (rest ++ last) in
      let asked' = asked_own n lane.items in
      let planned' = planned_own n lane.items in
      all_but_present settings number n past last of_past.1
      (omega (arith, all, over, asked, planned, asked', planned'))
  all_but_present settings number n (Silent link ∷ past) last of_past all =
      all_but_present settings number n past last of_past.1 all
  all_but_present settings number n (Down link ∷ past) last of_past all =
      all_but_present settings number n past last of_past.1 all

  own_of_last : (n : ℕ) (past : List (Greeting L)) (present : Greeting L)
      → own_in n (stretches seen.telling (past ++ present ∷ []))
      ≡ own_in n (stretches seen.telling past) ++ of_client n (items_in present)
  own_of_last n [] (Answered by lane) = append-nil (of_client n lane.items)
  own_of_last n [] (Silent link) = refl
  own_of_last n [] (Down link) = refl
  own_of_last n (Answered by lane ∷ past) present =
      ap (λ (l : List Item). of_client n lane.items ++ l) (own_of_last n past present)
      ∙ sym (append_assoc (of_client n lane.items) (own_in n (stretches seen.telling past))
      (of_client n (items_in present)))
  own_of_last n (Silent link ∷ past) present = own_of_last n past present
  own_of_last n (Down link ∷ past) present = own_of_last n past present

  pub all_asked_there : CanBeRead → (client : ℕ) (berth : BerthState L) → IsBerth seen berth
      → IsAllAsked client (berth_record seen.telling berth)
      → asked_count client (items_in berth.present) ≡ planned_count client (items_in berth.present)
  all_asked_there read client berth sound (k, told, number, all) =
      let n = k.number in
      let items = items_in berth.present in
      let own : own_items k ≡ own_in n (stretches seen.telling berth.past) ++ of_client n items =
      ap (filter_map item_from) (all_made k (berth_record seen.telling berth) told)
      ∙ (read_all read n 0 (stretches seen.telling (greetings_of berth))
      ∙ own_of_last n berth.past berth.present) in
      let last = all_but_present berth.settings berth.number n berth.past (of_client n items) sound.of_past
      (subst (λ (l : List Item). asked_count n l ≡ planned_count n l) own all) in
      subst (λ (c : ℕ). asked_count c items ≡ planned_count c items) number
      (sym (asked_own n items) ∙ (last ∙ planned_own n items))

  -- ---- planned and asked

  items_planned : (client seq : ℕ) (body : List ℕ) (old mid : Greeting L)
      → OnLane (λ lane after. Plans lane client body after seq) ⊥ old mid
      → items_in mid ≡ items_in old ++ plan_of client seq body ∷ []
  items_planned client seq body (Answered by lane) (Answered now after) did =
      ap (λ (l : LaneState L). l.items) did.1.entry
  items_planned client seq body (Answered by lane) (Silent link) did = absurd did
  items_planned client seq body (Answered by lane) (Down link) did = absurd did
  items_planned client seq body (Silent link) new did = absurd did.1
  items_planned client seq body (Down link) new did = absurd did.1

  planned_next : (client seq : ℕ) (body : List ℕ) (old mid : Greeting L)
      → OnLane (λ lane after. Plans lane client body after seq) ⊥ old mid
      → seq ≡ planned_count client (items_in old)
  planned_next client seq body (Answered by lane) (Answered now after) did = did.1.number
  planned_next client seq body (Answered by lane) (Silent link) did = absurd did
  planned_next client seq body (Answered by lane) (Down link) did = absurd did
  planned_next client seq body (Silent link) new did = absurd did.1
  planned_next client seq body (Down link) new did = absurd did.1

  planned_can : (settings : Limits) (number client seq : ℕ) (body : List ℕ) (past : List (Greeting L))
      (old mid : Greeting L) → OnLane (λ lane after. Plans lane client body after seq) ⊥ old mid
      → CanPlan (items_in old) (payload_of (found_in seen settings number past old).head.mtu) body
  planned_can settings number client seq body past (Answered by lane) (Answered now after) did = did.1.can
  planned_can settings number client seq body past (Answered by lane) (Silent link) did = absurd did
  planned_can settings number client seq body past (Answered by lane) (Down link) did = absurd did
  planned_can settings number client seq body past (Silent link) new did = absurd did.1
  planned_can settings number client seq body past (Down link) new did = absurd did.1

  -- the body that was just planned is the next to be asked
  pub next_asked : (client seq : ℕ) (body : List ℕ) (old mid : BerthState L)
      → asked_count client (items_in old.present) ≡ planned_count client (items_in old.present)
      → CallsLane (λ lane after. Plans lane client body after seq) old mid
      → asked_count client (items_in mid.present) < planned_count client (items_in mid.present)
  next_asked client seq body old mid all did =
      let items = items_planned client seq body old.present mid.present did.on_lane in
      subst (λ l. asked_count client l < planned_count client l) (sym items)
      (let a = asked_same client seq body (items_in old.present) in
      let b = planned_more client seq body (items_in old.present) in omega (arith, a, b, all))

  abbrev pub both_keep : (old mid new : BerthState L) → Calls (KeepsHead seen) (Unit {0}) old mid
      → Calls (KeepsHead seen) (Unit {0}) mid new → Calls (KeepsHead seen) (Unit {0}) old new
  both_keep old mid new first then = record {
    same_settings = then.same_settings ∙ first.same_settings;
    same_number = then.same_number ∙ first.same_number;
    same_past = then.same_past ∙ first.same_past;
    on_lane = on_lane_twice (KeepsHead seen) old.present mid.present new.present (λ a b c p q. q ∙ p) first.on_lane
        then.on_lane;
  }

  module _ (client : ℕ) (body : List ℕ) (old mid new : BerthState L) (was : IsBerth seen old) (is : IsBerth seen new)
    where
      pub submit_means : IsPlanLaw → IsBerth seen mid → (seq : ℕ)
          → asked_count client (items_in old.present) ≡ planned_count client (items_in old.present)
          → CallsLane (λ lane after. Plans lane client body after seq) old mid
          → Calls (LaneGrows seen.telling client) (Unit {0}) old mid → IsAskedIn mid client new
          → Calls (LaneGrows seen.telling client) (Unit {0}) mid new
          → MeansAs berth_manner client (berth_record seen.telling old) (λ k. HasSubmittedAs berth_manner k body seq)
          (berth_record seen.telling new)
      submit_means law between seq all planned grew_first asked grew_then =
          let before = berth_record seen.telling old in
          let after = berth_record seen.telling new in
          let f = found_by_call seen old new was is (both_keep old mid new (keeps_head seen client old mid grew_first)
          (keeps_head seen client mid new grew_then)) in
          let n = asked.seq in
          let on = asks_in seen law mid.settings mid.number client (asks.Asked n) mid.present new.present between.of_present
          asked.as_next.on_lane in
          let items = items_planned client seq body old.present mid.present planned.on_lane in
          let number' = planned_next client seq body old.present mid.present planned.on_lane in
          let n_is : n ≡ seq = on.0 ∙ (ap (asked_count client) items
          ∙ (asked_same client seq body (items_in old.present) ∙ (all ∙ sym number'))) in
          let g = on.2 in
          let whole : items_in new.present
          ≡ items_in old.present ++ plan_of client seq body ∷ ask_of client seq g ∷ [] = on.3
          ∙ ((λ i. items i ++ ask_of client (n_is i) g ∷ [])
          ∙ append_assoc (items_in old.present) (plan_of client seq body ∷ []) (ask_of client seq g ∷ [])) in
          record {
            added = plan_of client seq body ∷ ask_of client seq g ∷ [];
            grew = grew seen client before after f (plan_of client seq body ∷ ask_of client seq g ∷ []) whole
                (refl, (refl, tt));
            to_finder = λ k told number. record {
              next = number' ∙ sym (planned_is seen client before after f k number);
              can = planned_can old.settings old.number client seq body old.past old.present mid.present planned.on_lane;
              give_ups = g;
              entries = λ i. plan_of (sym number i) seq body ∷ ask_of (sym number i) seq g ∷ [];
            };
          }

      -- planned, and then memory ran out
      pub planned_means : (seq : ℕ) → CallsLane (λ lane after. Plans lane client body after seq) old mid
          → Calls (LaneGrows seen.telling client) (Unit {0}) old mid → new ≡ mid
          → MeansAs berth_manner client (berth_record seen.telling old)
          (λ k. BerthRefused k body (refuses.ByLane refusals.NoMemory)) (berth_record seen.telling new)
      planned_means seq planned grows stays =
          let before = berth_record seen.telling old in
          let after = berth_record seen.telling new in
          let f = found_by_call seen old new was is (both_keep old mid new (keeps_head seen client old mid grows)
          (same_keeps_head seen mid new stays)) in
          let number' = planned_next client seq body old.present mid.present planned.on_lane in
          let items = ap (λ (b : BerthState L). items_in b.present) stays
          ∙ items_planned client seq body old.present mid.present planned.on_lane in
          record {
            added = plan_of client seq body ∷ [];
            grew = grew seen client before after f (plan_of client seq body ∷ []) items (refl, tt);
            to_finder = λ k told number. inr (λ i. plan_of (sym number i)
                ((number' ∙ sym (planned_is seen client before after f k number)) i) body ∷ []);
          }

      refused_by : (k : Knowledge) (why : PlanRefusal) (lane : FoundLane)
          → IsRefused lane.items (payload_of lane.head.mtu) body why → RefusedByLane k body why lane []
      refused_by k refusals.Sealed lane r = (refl, r)
      refused_by k refusals.TooLong lane r = (refl, r)
      refused_by k refusals.ReplyTooLong lane r = (refl, r)
      refused_by k refusals.Overfull lane r = (refl, r)
      refused_by k refusals.NoMemory lane r = inl refl

      abbrev pub found_there : Greeting L → FoundLane
      found_there greeting = record (found_in seen old.settings old.number old.past greeting)
          { items = items_in greeting; outcomes = outcomes_in new.present }

      refused_at : (k : Knowledge) (why : BerthRefusal) (greeting : Greeting L) → IsRefusedAt greeting body why
          → BerthRefused k body why (found_there greeting) []
      refused_at k refuses.Silent (Answered by lane) r = absurd r
      refused_at k refuses.Down (Answered by lane) r = absurd r
      refused_at k refuses.Later (Answered by lane) r = (refl, r)
      refused_at k (refuses.ByLane why) (Answered by lane) r = refused_by k why (found_there (Answered by lane)) r
      refused_at k why (Silent link) r = subst (λ (w : BerthRefusal). BerthRefused k body w (found_there (Silent link)) [])
          (sym r) (refl, stretches seen.telling old.past, record { front = refl; none = refl })
      refused_at k why (Down link) r = subst (λ (w : BerthRefusal). BerthRefused k body w (found_there (Down link)) [])
          (sym r) (refl, stretches seen.telling old.past, record { front = refl; none = refl })

      pub refused_means : (why : BerthRefusal) → new ≡ old → IsRefusedAt old.present body why
          → MeansAs berth_manner client (berth_record seen.telling old) (λ k. BerthRefused k body why)
          (berth_record seen.telling new)
      refused_means why stays refused =
          let before = berth_record seen.telling old in
          let after = berth_record seen.telling new in
          let f = found_by_call seen old new was is (same_keeps_head seen old new stays) in
          record {
            added = [];
            grew = same seen client before after f (ap (λ (b : BerthState L). items_in b.present) stays);
            to_finder = λ k told number. refused_at k why old.present refused;
          }
