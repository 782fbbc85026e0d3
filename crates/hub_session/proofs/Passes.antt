-- What a pass knows of its client's bodies, where each is planned, asked and taken before the next.
use Rattle.std.proofs.Common.{◌≡◌, ℕ, ◌+◌, true, false, ◌==◌, List, [], ◌∷◌, ◌++◌, map, length, Option, Some}
use Rattle.std.proofs.Common.{None, is_some, inl, inr, refl, sym, ap, ◌∙◌, subst, arith, append-nil, append_assoc}
use Rattle.std.proofs.Common.{length-append, ◌⊎◌, if◌then◌else◌}
use Rattle.std.proofs.lemmas.Bool.{eq-eqb, eqb-true, cases_lt}
use Rattle.std.proofs.lemmas.List.{map-append}
use Rattle.std.proofs.lemmas.List.Elements.{filter_map-append}
use Rattle.std.specs.List.{filter_map}
use Rattle.std.specs.Option.{option_or}
use Rattle.turn_pass.specs.Record.{Begins, Record, Recorded, made_by}
use Rattle.turn_pass.specs.Pass.{Knowledge, Told}
use Rattle.turn_pass.proofs.Records.{begins_on, begins_self}
use Rattle.lane_record.specs.declared.outcome.Outcome.{Outcome}
use Rattle.lane_record.specs.declared.item.Item.{Item}
use Rattle.lane_record.specs.Items.{ask_in, asked_count, told_by_first, numbers, plan_in, planned_count, took_in}
use Rattle.lane_record.specs.NextEntry.{ask_of, plan_of, took_of}
use Rattle.lane_record.specs.Coding.{item_from, record_of, as_recorded}
use Rattle.lane_record.proofs.Coding.{read_item}
use Rattle.lane_record.proofs.Lookups.{found_append, numbers_append}
use Rattle.ipb_base.specs.Numbers.{payload_of}
use Rattle.hub_lane.specs.Plans.{IsRefused}
use Rattle.hub_lane.specs.declared.answers.PlanRefusal.TheVariants as refusals
use Rattle.lane_tables.proofs.TakenRows.{or_right}
use Rattle.hub_multiplexer.specs.Calls.{Adds, FoundLane, HasSubmitted, HasTaken, IsNone, MadeInTime, PerformMeans}
use Rattle.hub_multiplexer.specs.Calls.{SubmitRefused}
use Rattle.hub_multiplexer.specs.declared.answers.Performed.TheVariants as performs
use Rattle.hub_multiplexer.specs.OwnItems.{HasTakenAllOf, IsOldestOf, asked_by, own_items, planned_by}
use Rattle.hub_multiplexer.proofs.AskedAll.{read_back}
use Rattle.hub_multiplexer.proofs.OwnItems.{own_are, planned_own}
use Rattle.hub_session.specs.declared.got.BodyRefusal.{BodyRefusal}
use Rattle.hub_session.specs.declared.got.BodyRefusal.TheVariants.{Sealed, TooLong, ReplyTooLong, Overfull}
use Rattle.hub_session.specs.Exchanges.{GrewBy, HasCome, WasRefused, plan_refusal}
use Rattle.hub_multiplexer.specs.Seats.{ChangesAt, SeatState}
use Rattle.hub_session.specs.Serving.{HasAskedToo, HasPlannedOnly, Looked, PlannedOnly, Reached, ReachesFor}
use Rattle.hub_session.specs.Inside.{IsSettled}

-- ---- entries behind those before

pub mine_read : (k after : Knowledge) (added : List Item) → GrewBy added k after
    → filter_map item_from after.mine ≡ filter_map item_from k.mine ++ added
mine_read k after added g = ap (filter_map item_from) g.mine_now
    ∙ (filter_map-append item_from k.mine (map as_recorded added)
    ∙ ap (λ (l : List Item). filter_map item_from k.mine ++ l) (read_back read_item added))

pub number_same : (k after : Knowledge) (added : List Item) → GrewBy added k after → after.number ≡ k.number
number_same k after added g = ap (λ (z : Knowledge). z.number) g.rest_same

own_grew : (k after : Knowledge) (added : List Item) → GrewBy added k after → own_items after ≡ own_items k ++ added
own_grew k after added g =
    let opened = made_by k.number k.opening.entries in
    (λ i. filter_map item_from (made_by (g.rest_same i).number (g.rest_same i).opening.entries ++ g.mine_now i))
    ∙ (ap (filter_map item_from) (sym (append_assoc opened k.mine (map as_recorded added)))
    ∙ (filter_map-append item_from (opened ++ k.mine) (map as_recorded added)
    ∙ ap (λ (l : List Item). own_items k ++ l) (read_back read_item added)))

asked_grew : (k after : Knowledge) (added : List Item) → GrewBy added k after
    → asked_by after ≡ asked_by k + asked_count k.number added
asked_grew k after added g =
    (λ i. asked_count (number_same k after added g i) (own_grew k after added g i))
    ∙ (ap length (numbers_append ask_in k.number (own_items k) added)
    ∙ length-append (numbers ask_in k.number (own_items k)) (numbers ask_in k.number added))

pub planned_grew : (k after : Knowledge) (added : List Item) → GrewBy added k after
    → planned_by after ≡ planned_by k + planned_count k.number added
planned_grew k after added g =
    (λ i. planned_count (number_same k after added g i) (own_grew k after added g i))
    ∙ (ap length (numbers_append plan_in k.number (own_items k) added)
    ∙ length-append (numbers plan_in k.number (own_items k)) (numbers plan_in k.number added))

took_grew : (k after : Knowledge) (added : List Item) → GrewBy added k after → (seq : ℕ)
    → told_by_first took_in after.number seq (own_items after)
    ≡ option_or (told_by_first took_in k.number seq (own_items k)) (told_by_first took_in k.number seq added)
took_grew k after added g seq =
    (λ i. told_by_first took_in (number_same k after added g i) seq (own_grew k after added g i))
    ∙ found_append took_in k.number seq (own_items k) added

-- one growth behind another
pub grew_then : (k mid after : Knowledge) (xs ys : List Item) → GrewBy xs k mid → GrewBy ys mid after
    → GrewBy (xs ++ ys) k after
grew_then k mid after xs ys g h = record {
  begins = begins_on k.seen mid.seen after.seen g.begins h.begins;
  mine_now = h.mine_now ∙ (ap (λ (l : List Recorded). l ++ map as_recorded ys) g.mine_now
      ∙ (append_assoc k.mine (map as_recorded xs) (map as_recorded ys)
      ∙ ap (λ (l : List Recorded). k.mine ++ l) (sym (map-append as_recorded xs ys))));
  rest_same = h.rest_same
      ∙ (λ i. record (g.rest_same i) { seen = after.seen; mine = after.mine; vain = after.vain });
}

pub grew_none : (k : Knowledge) → GrewBy [] k k
grew_none k =
    record { begins = begins_self k.seen; mine_now = sym (append-nil k.mine); rest_same = refl }

-- the record that the pass found begins the one that it has then seen
found_stays : (k after : Knowledge) (lane : FoundLane) (added : List Item) → Adds k lane added after
    → Begins (record_of lane.head lane.items) after.seen
found_stays k after lane added a = subst (λ (r : Record). Begins (record_of lane.head lane.items) r) (sym a.seen_now)
    (record { head = refl; entries = (map as_recorded added, map-append as_recorded lane.items added) })

-- of the client's Plans the record that the pass found has those of the pass
own_planned : (k : Knowledge) (lane : FoundLane) → Told k (record_of lane.head lane.items)
    → planned_count k.number lane.items ≡ planned_by k
own_planned k lane told = sym (ap (planned_count k.number)
    (own_are read_item k lane.head lane.items (record_of lane.head lane.items) refl told)
    ∙ planned_own k.number lane.items)

pub grew_as : (k after : Knowledge) (lane : FoundLane) (added said : List Item) → Adds k lane added after
    → added ≡ said → GrewBy said k after
grew_as k after lane added said a e = record {
  begins = begins_on k.seen (record_of lane.head lane.items) after.seen a.found.seen_begins
      (found_stays k after lane added a);
  mine_now = a.mine_now ∙ ap (λ (l : List Item). k.mine ++ map as_recorded l) e;
  rest_same = a.rest_same;
}

-- ---- a body that is planned and asked, and then taken

module _ (client seq : ℕ) where
  pub planned_one : (body : List ℕ) (outcome : Outcome) (at took : ℕ)
      → planned_count client (plan_of client seq body ∷ ask_of client seq at ∷ took_of client seq outcome took ∷ []) ≡ 1
  planned_one body outcome at took = rw (eq-eqb client client refl) refl

  asked_one : (body : List ℕ) (outcome : Outcome) (at took : ℕ)
      → asked_count client (plan_of client seq body ∷ ask_of client seq at ∷ took_of client seq outcome took ∷ []) ≡ 1
  asked_one body outcome at took = rw (eq-eqb client client refl) refl

  asked_two : (body : List ℕ) (at : ℕ)
      → asked_count client (plan_of client seq body ∷ ask_of client seq at ∷ []) ≡ 1
  asked_two body at = rw (eq-eqb client client refl) refl

  none_taken : (body : List ℕ) (at n : ℕ)
      → told_by_first took_in client n (plan_of client seq body ∷ ask_of client seq at ∷ []) ≡ None
  none_taken body at n = rw (eq-eqb client client refl) (elim (seq == n) as (λ b.
      option_or {T = Outcome} (if b then None else None)
      (option_or {T = Outcome} (if b then None else None) None) ≡ None) [
        | true ↦ refl
        | false ↦ refl
      ])

  none_taken_of_three : (body : List ℕ) (outcome : Outcome) (at took n : ℕ) → (seq ≡ n → ⊥)
      → told_by_first took_in client n (plan_of client seq body ∷ ask_of client seq at ∷ took_of client seq outcome took ∷ [])
      ≡ None
  none_taken_of_three body outcome at took n ne = rw (eq-eqb client client refl) (elim (seq == n) as (λ b.
      (seq == n) ≡ b → option_or {T = Outcome} (if b then None else None)
      (option_or {T = Outcome} (if b then None else None)
      (option_or {T = Outcome} (if b then Some outcome else None) None)) ≡ None) [
        | true ↦ λ e. absurd (ne (eqb-true seq n e))
        | false ↦ λ e. refl
      ] refl)

  taken_of_three : (body : List ℕ) (outcome : Outcome) (at took : ℕ)
      → is_some (told_by_first took_in client seq
      (plan_of client seq body ∷ ask_of client seq at ∷ took_of client seq outcome took ∷ [])) ≡ true
  taken_of_three body outcome at took = rw (eq-eqb client client refl) (rw (eq-eqb seq seq refl) refl)

some_front : {A : Type 0} (o p : Option A) → is_some o ≡ true → is_some (option_or o p) ≡ true
some_front None p e = absurd cc
some_front (Some x) p e = refl

none_both : {A : Type 0} (o p : Option A) → o ≡ None → p ≡ None → option_or o p ≡ None
none_both o p e f = rw e (rw f refl)

-- ---- a client that is settled

module _ (k after : Knowledge) (body : List ℕ) where
  -- behind the Plan and the Ask of its next body
  pub asked_next : (at : ℕ)
      → GrewBy (plan_of k.number (planned_by k) body ∷ ask_of k.number (planned_by k) at ∷ []) k after
      → asked_by after ≡ asked_by k + 1
  asked_next at g = asked_grew k after _ g
      ∙ ap (λ (n : ℕ). asked_by k + n) (asked_two k.number (planned_by k) body at)

  -- the body is the oldest one that was not taken, and no other is
  pub oldest_is : (at seq : ℕ) → IsSettled k
      → GrewBy (plan_of k.number (planned_by k) body ∷ ask_of k.number (planned_by k) at ∷ []) k after
      → IsOldestOf after seq → seq ≡ planned_by k
  oldest_is at seq s g o =
      let one = asked_next at g in
      let all = s.all_asked in
      let low = o.is_asked in
      elim (cases_lt seq (asked_by k)) [
        | inl lt ↦ let yes = some_front (told_by_first took_in k.number seq (own_items k)) _ (s.all_taken seq lt) in
            let none : is_some {T = Outcome} None ≡ true =
            ap is_some (sym o.untaken ∙ took_grew k after _ g seq) ∙ yes in
            absurd cc
        | inr ge ↦ omega arith
      ]

  pub not_taken : (at : ℕ) → IsSettled k
      → GrewBy (plan_of k.number (planned_by k) body ∷ ask_of k.number (planned_by k) at ∷ []) k after
      → HasTakenAllOf after → ⊥
  not_taken at s g taken =
      let one = asked_next at g in
      let all = s.all_asked in
      let n = planned_by k in
      let none = took_grew k after _ g n ∙ none_both (told_by_first took_in k.number n (own_items k)) _
      (s.none_more n (omega arith)) (none_taken k.number n body at n) in
      let yes = taken n (omega arith) in
      let no_one : is_some {T = Outcome} None ≡ true = ap is_some (sym none) ∙ yes in
      absurd cc

  -- behind the Took of it too
  pub settled_next : (outcome : Outcome) → IsSettled k → HasCome body outcome k after → IsSettled after
  settled_next outcome s h =
      let n = planned_by k in
      let three : List Item = plan_of k.number n body ∷ ask_of k.number n h.asked_at
      ∷ took_of k.number n outcome h.took_at ∷ [] in
      let all = s.all_asked in
      let a : asked_by after ≡ asked_by k + 1 = asked_grew k after _ h.grew
      ∙ ap (λ (m : ℕ). asked_by k + m) (asked_one k.number n body outcome h.asked_at h.took_at) in
      let p : planned_by after ≡ planned_by k + 1 = planned_grew k after _ h.grew
      ∙ ap (λ (m : ℕ). planned_by k + m) (planned_one k.number n body outcome h.asked_at h.took_at) in record {
        all_asked = a ∙ (ap (λ (m : ℕ). m + 1) all ∙ sym p);
        all_taken = λ m low. ap is_some (took_grew k after _ h.grew m) ∙ elim (cases_lt m (asked_by k)) [
          | inl lt ↦ some_front (told_by_first took_in k.number m (own_items k)) _ (s.all_taken m lt)
          | inr ge ↦ let same : n ≡ m = omega arith in
              or_right (told_by_first took_in k.number m (own_items k)) _
              (subst (λ (z : ℕ). is_some (told_by_first took_in k.number z three) ≡ true) same
              (taken_of_three k.number n body outcome h.asked_at h.took_at))
        ];
        none_more = λ m ge. took_grew k after _ h.grew m ∙ none_both (told_by_first took_in k.number m (own_items k)) _
            (s.none_more m (omega arith)) (none_taken_of_three k.number n body outcome h.asked_at h.took_at m
            (λ same. omega arith));
      }

pub settled_looked : (k after : Knowledge) → IsSettled k → GrewBy [] k after → IsSettled after
settled_looked k after s g =
    let a : asked_by after ≡ asked_by k + 0 = asked_grew k after [] g in
    let p : planned_by after ≡ planned_by k + 0 = planned_grew k after [] g in
    let all = s.all_asked in record {
      all_asked = omega arith;
      all_taken = λ n low. ap is_some (took_grew k after [] g n)
          ∙ some_front (told_by_first took_in k.number n (own_items k)) None (s.all_taken n (omega arith));
      none_more = λ n ge. took_grew k after [] g n
          ∙ none_both (told_by_first took_in k.number n (own_items k)) None (s.none_more n (omega arith)) refl;
    }

-- ---- what the calls of the hub say

said_of : {mid : Knowledge} (k : Knowledge) (body : List ℕ) (seq : ℕ) (m : MadeInTime k (HasSubmitted k body seq) mid)
    → m.added ≡ plan_of k.number (planned_by k) body ∷ ask_of k.number (planned_by k) m.meaning.give_ups ∷ []
said_of k body seq m = m.meaning.entries
    ∙ ap (λ (n : ℕ). plan_of k.number n body ∷ ask_of k.number n m.meaning.give_ups ∷ []) m.meaning.next

pub submitted : (k mid : Knowledge) (body : List ℕ) (seq : ℕ) (m : MadeInTime k (HasSubmitted k body seq) mid)
    → GrewBy (plan_of k.number (planned_by k) body ∷ ask_of k.number (planned_by k) m.meaning.give_ups ∷ []) k mid
submitted k mid body seq m = grew_as k mid m.lane m.added _ m.adds (said_of k body seq m)

pub looked : (k after : Knowledge) → MadeInTime k IsNone after → GrewBy [] k after
looked k after m = grew_as k after m.lane m.added [] m.adds m.meaning

pub came : (k mid after : Knowledge) (body : List ℕ) (seq : ℕ) (outcome : Outcome) → IsSettled k
    → MadeInTime k (HasSubmitted k body seq) mid → MadeInTime mid (PerformMeans mid (performs.Ready outcome)) after
    → HasCome body outcome k after
came k mid after body seq outcome s m n =
    let g = submitted k mid body seq m in
    let t : HasTaken mid outcome n.added = n.meaning in
    let next : t.seq ≡ planned_by k = oldest_is k mid body m.meaning.give_ups t.seq s g t.oldest in
    let number = number_same k mid _ g in
    let h : GrewBy (took_of k.number (planned_by k) outcome t.give_ups ∷ []) mid after =
    grew_as mid after n.lane n.added _ n.adds
    (t.entry ∙ (λ i. took_of (number i) (next i) outcome t.give_ups ∷ [])) in
    record {
      head = m.lane.head;
      items = m.lane.items;
      found = m.adds.found.seen_begins;
      own = own_planned k m.lane m.adds.found;
      can = m.meaning.can;
      asked_at = m.meaning.give_ups;
      stays = subst (λ (r : Record). Begins r after.seen)
          (m.adds.seen_now ∙ ap (λ (l : List Item). record_of m.lane.head (m.lane.items ++ l)) (said_of k body seq m))
          h.begins;
      took_at = t.give_ups;
      grew = grew_then k mid after _ (took_of k.number (planned_by k) outcome t.give_ups ∷ []) g h;
      short = t.short;
    }

pub asked_too : (k mid after : Knowledge) (body : List ℕ) (seq : ℕ) → MadeInTime k (HasSubmitted k body seq) mid
    → MadeInTime mid IsNone after → HasAskedToo body k after
asked_too k mid after body seq m n = record {
  asked_at = m.meaning.give_ups;
  grew = grew_then k mid after _ [] (submitted k mid body seq m) (looked mid after n);
}

refused_as : (k : Knowledge) (body : List ℕ) (why : BodyRefusal) (lane : FoundLane) (added : List Item)
    → SubmitRefused k body (plan_refusal why) lane added
    → (added ≡ []) × IsRefused lane.items (payload_of lane.head.mtu) body (plan_refusal why)
refused_as k body Sealed lane added r = r
refused_as k body TooLong lane added r = r
refused_as k body ReplyTooLong lane added r = r
refused_as k body Overfull lane added r = r

pub was_refused : (k after : Knowledge) (body : List ℕ) (why : BodyRefusal)
    → MadeInTime k (SubmitRefused k body (plan_refusal why)) after → WasRefused body why k after
was_refused k after body why m =
    let r = refused_as k body why m.lane m.added m.meaning in record {
      head = m.lane.head;
      items = m.lane.items;
      seen_now = m.adds.seen_now
          ∙ ap (record_of m.lane.head) (ap (λ (l : List Item). m.lane.items ++ l) r.0 ∙ append-nil m.lane.items);
      own = own_planned k m.lane m.adds.found;
      refused = r.1;
      grew = grew_as k after m.lane m.added [] m.adds r.0;
    }

-- after want of memory nothing was added, or the Plan alone
pub without_memory : (k after : Knowledge) (body : List ℕ) → MadeInTime k (SubmitRefused k body refusals.NoMemory) after
    → GrewBy [] k after ⊎ HasPlannedOnly body k after
without_memory k after body m = elim m.meaning [
  | inl none ↦ inl (grew_as k after m.lane m.added [] m.adds none)
  | inr plan ↦ inr (record { grew = grew_as k after m.lane m.added _ m.adds plan })
]

pub no_memory_at : (lane : ℕ) (old new : SeatState) (body : List ℕ)
    → ChangesAt lane old new (λ k. MadeInTime k (SubmitRefused k body refusals.NoMemory))
    → (reached : Reached) × ReachesFor (Some (record { lane = lane; body = body })) reached old new
no_memory_at lane old new body c = elim (without_memory c.before c.after body c.relation) [
  | inl none ↦ (
    Looked,
    record { before = c.before; after = c.after; there = c.there; becomes = c.becomes; relation = none },
  )
  | inr plan ↦ (
    PlannedOnly,
    record { before = c.before; after = c.after; there = c.there; becomes = c.becomes; relation = plan },
  )
]
