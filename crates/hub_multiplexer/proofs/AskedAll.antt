-- Whether every planned body of a client was asked, after a call.
use Rattle.std.proofs.Common.{◌≡◌, ℕ, ◌+◌, zero, suc, List, [], ◌∷◌, ◌++◌, map, length, set, IfSome, refl}
use Rattle.std.proofs.Common.{sym, ap, subst, ◌∙◌, append_assoc, length-append, eq-eqb}
use Rattle.std.specs.List.{filter_map, slice_get}
use Rattle.std.proofs.lemmas.List.Elements.{filter_map-append}
use Rattle.turn_pass.specs.Record.{made_by}
use Rattle.turn_pass.specs.Pass.{Knowledge}
use Rattle.lane_record.specs.declared.outcome.Outcome.{Outcome}
use Rattle.lane_record.specs.declared.item.Item.{Item}
use Rattle.lane_record.specs.Coding.{item_from, as_recorded}
use Rattle.lane_record.specs.Items.{ask_in, asked_count, numbers, plan_in, planned_count}
use Rattle.lane_record.specs.NextEntry.{ask_of, plan_of, took_of}
use Rattle.lane_record.proofs.Lookups.{numbers_append}
use Rattle.hub_multiplexer.specs.declared.answers.Performed.{Performed}
use Rattle.hub_multiplexer.specs.declared.answers.Performed.TheVariants as performs
use Rattle.hub_multiplexer.specs.AnyCalls.{AddsAs, HasSubmittedAs, MadeInTimeAs, PerformMeansAs}
use Rattle.hub_multiplexer.specs.Manner.{FoundLane, Manner}
use Rattle.hub_multiplexer.specs.OwnItems.{HasAskedAll, asked_by, own_items, planned_by}
use Rattle.hub_multiplexer.specs.Seats.{ChangesAt, SeatState}
use Rattle.hub_multiplexer.proofs.OwnItems.{CanBeRead}

abbrev pub AllAsked : Knowledge → Type 0
AllAsked k = asked_by k ≡ planned_by k

pub read_back : CanBeRead → (items : List Item) → filter_map item_from (map as_recorded items) ≡ items
read_back read [] = refl
read_back read (x ∷ xs) = rw (read x) (ap (λ l. x ∷ l) (read_back read xs))

-- the client's entries after a call are those before it and those that it added
own_more : {R : Type 0} (m : Manner R) → CanBeRead → (k : Knowledge) (lane : FoundLane) (added : List Item)
    (after : Knowledge) → AddsAs m k lane added after → own_items after ≡ own_items k ++ added
own_more m read k lane added after a =
    let opened = made_by k.number k.opening.entries in
    (λ i. filter_map item_from (made_by (a.rest_same i).number (a.rest_same i).opening.entries ++ a.mine_now i))
    ∙ (ap (filter_map item_from) (sym (append_assoc opened k.mine (map as_recorded added)))
    ∙ (filter_map-append item_from (opened ++ k.mine) (map as_recorded added)
    ∙ ap (λ l. own_items k ++ l) (read_back read added)))

asked_more : (client : ℕ) (items added : List Item)
    → asked_count client (items ++ added) ≡ asked_count client items + asked_count client added
asked_more client items added = ap length (numbers_append ask_in client items added)
    ∙ length-append (numbers ask_in client items) (numbers ask_in client added)

planned_more : (client : ℕ) (items added : List Item)
    → planned_count client (items ++ added) ≡ planned_count client items + planned_count client added
planned_more client items added = ap length (numbers_append plan_in client items added)
    ∙ length-append (numbers plan_in client items) (numbers plan_in client added)

-- as many Plans as Asks were added
pub all_asked_after : {R : Type 0} (m : Manner R) → CanBeRead → (k : Knowledge) (lane : FoundLane) (added : List Item)
    (after : Knowledge) → AddsAs m k lane added after → asked_count k.number added ≡ planned_count k.number added
    → AllAsked k → AllAsked after
all_asked_after m read k lane added after a same all =
    let number : after.number ≡ k.number = ap (λ (z : Knowledge). z.number) a.rest_same in
    let own = own_more m read k lane added after a in
    (λ i. asked_count (number i) (own i))
    ∙ (asked_more k.number (own_items k) added
    ∙ ((λ i. all i + same i)
    ∙ (sym (planned_more k.number (own_items k) added)
    ∙ (λ i. planned_count (sym number i) (sym own i)))))

module _ (client seq : ℕ) where
  pub as_submitted : (body : List ℕ) (give_ups : ℕ)
      → asked_count client (plan_of client seq body ∷ ask_of client seq give_ups ∷ [])
      ≡ planned_count client (plan_of client seq body ∷ ask_of client seq give_ups ∷ [])
  as_submitted body give_ups = rw (eq-eqb client client refl) refl

  pub as_taken : (outcome : Outcome) (give_ups : ℕ)
      → asked_count client (took_of client seq outcome give_ups ∷ [])
      ≡ planned_count client (took_of client seq outcome give_ups ∷ [])
  as_taken outcome give_ups = rw (eq-eqb client client refl) refl

there_after : (ks : List Knowledge) (board : ℕ) (k : Knowledge) (P : Knowledge → Type 0) → P k
    → IfSome (slice_get (set ks board k) board) P
there_after [] board k P p = tt
there_after (x ∷ xs) zero k P p = p
there_after (x ∷ xs) (suc board) k P p = there_after xs board k P p

-- what a call tells of the pass on its board is told of the seat
pub asked_at : (board : ℕ) (old new : SeatState) (P : Knowledge → Knowledge → Type 0) → ChangesAt board old new P
    → ((k after : Knowledge) → P k after → AllAsked after) → HasAskedAll new board
asked_at board old new P c all =
    subst (λ (s : SeatState). HasAskedAll s board) (sym c.becomes)
    (there_after old.knows board c.after AllAsked (all c.before c.after c.relation))

pub still_asked_at : (board : ℕ) (old new : SeatState) (P : Knowledge → Knowledge → Type 0) → HasAskedAll old board
    → ChangesAt board old new P → ((k after : Knowledge) → P k after → AllAsked k → AllAsked after)
    → HasAskedAll new board
still_asked_at board old new P was c still =
    subst (λ (s : SeatState). HasAskedAll s board) (sym c.becomes)
    (there_after old.knows board c.after AllAsked
    (still c.before c.after c.relation (subst (λ o. IfSome o AllAsked) c.there was)))

pub submitted_at_once : {R : Type 0} (m : Manner R) → CanBeRead → (body : List ℕ) (seq : ℕ) (k after : Knowledge)
    → MadeInTimeAs m k (HasSubmittedAs m k body seq) after → AllAsked k → AllAsked after
submitted_at_once m read body seq k after made = all_asked_after m read k made.lane made.added after made.adds
    (ap (λ l. asked_count k.number l) made.meaning.entries
    ∙ (as_submitted k.number seq body made.meaning.give_ups
    ∙ ap (λ l. planned_count k.number l) (sym made.meaning.entries)))

none_more : (client : ℕ) (added : List Item) → added ≡ [] → asked_count client added ≡ planned_count client added
none_more client added none = rw none refl

performed_same : {R : Type 0} (m : Manner R) (k : Knowledge) (performed : Performed) (lane : FoundLane)
    (added : List Item) → PerformMeansAs m k performed lane added
    → asked_count k.number added ≡ planned_count k.number added
performed_same m k (performs.Ready outcome) lane added t = ap (λ l. asked_count k.number l) t.entry
    ∙ (as_taken k.number t.seq outcome t.give_ups ∙ ap (λ l. planned_count k.number l) (sym t.entry))
performed_same m k performs.Nothing lane added t = none_more k.number added t.1

pub performed_still : {R : Type 0} (m : Manner R) → CanBeRead → (performed : Performed) (k after : Knowledge)
    → MadeInTimeAs m k (PerformMeansAs m k performed) after → AllAsked k → AllAsked after
performed_still m read performed k after made = all_asked_after m read k made.lane made.added after made.adds
    (performed_same m k performed made.lane made.added made.meaning)

-- nothing was left to ask
pub nothing_left : {R : Type 0} (m : Manner R) → CanBeRead → (k : Knowledge) (lane : FoundLane) (added : List Item)
    (after : Knowledge) → AddsAs m k lane added after → AllAsked k × (added ≡ []) → AllAsked after
nothing_left m read k lane added after a n =
    all_asked_after m read k lane added after a (none_more k.number added n.1) n.0
