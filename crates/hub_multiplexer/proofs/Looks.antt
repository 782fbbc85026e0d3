-- Calls of a pass that only looked before.
use Rattle.std.proofs.Common.{◌≡◌, ◌⊎◌, ⊎_elim, inr, ℕ, List, ◌++◌, map, Option, ap, subst, ◌∙◌, arith}
use Rattle.std.proofs.Common.{append-nil}
use Rattle.turn_pass.specs.Record.{Begins, Record}
use Rattle.turn_pass.specs.Pass.{Knowledge, Told}
use Rattle.turn_pass.proofs.Records.{begins_on}
use Rattle.lane_record.specs.declared.item.Item.{Item}
use Rattle.lane_record.specs.Coding.{as_recorded}
use Rattle.hub_multiplexer.specs.AnyCalls.{AddsAs, FindMeansAs, FindMeansOf, IsNone, MadeInTimeAs, PerformMeansAs}
use Rattle.hub_multiplexer.specs.AnyCalls.{PerformMeansOf}
use Rattle.hub_multiplexer.specs.Manner.{FoundLane, IsManner, Manner}
use Rattle.hub_multiplexer.specs.declared.answers.Performed.{Performed}

-- the pass did nothing, or it only looked
abbrev pub HasLooked : {R : Type 0} → Manner R → Knowledge → Knowledge → Type 0
HasLooked m k now = (now ≡ k) ⊎ MadeInTimeAs m k IsNone now

module _ {R : Type 0} (m : Manner R) (k now : Knowledge) (made : MadeInTimeAs m k IsNone now) where
  no_more : now.mine ≡ k.mine
  no_more = made.adds.mine_now ∙ (ap (λ l. k.mine ++ map as_recorded l) made.meaning ∙ append-nil k.mine)

  now_is : now ≡ record k { seen = now.seen; vain = now.vain }
  now_is = made.adds.rest_same ∙ (λ i. record k { seen = now.seen; mine = no_more i; vain = now.vain })

  seen_is : now.seen ≡ m.shows made.lane
  seen_is = made.adds.seen_now ∙ ap (λ (l : List Item). m.shows (record made.lane { items = l }))
      (ap (λ l. made.lane.items ++ l) made.meaning ∙ append-nil made.lane.items)

  -- what it is told now it would have been told before
  told_before : (r : Record) → Told now r → Told k r
  told_before r told = let t : Told (record k { seen = now.seen; vain = now.vain }) r = subst
      (λ z. Told z r) now_is told in record {
        opening_begins = t.opening_begins;
        seen_begins = begins_on k.seen (m.shows made.lane) r made.adds.found.seen_begins
            (subst (λ z. Begins z r) seen_is t.seen_begins);
        own = t.own;
        joined_stand = t.joined_stand;
        unmade = t.unmade;
      }

  adds_before : (lane : FoundLane) (added : List Item) (after : Knowledge) → AddsAs m now lane added after
      → AddsAs m k lane added after
  adds_before lane added after a = record {
    found = told_before (m.shows lane) a.found;
    legal = a.legal;
    seen_now = a.seen_now;
    mine_now = a.mine_now ∙ ap (λ l. l ++ map as_recorded added) no_more;
    rest_same = a.rest_same ∙ (λ i. record (now_is i) { seen = after.seen; mine = after.mine; vain = after.vain });
  }

  made_before : (P : Knowledge → FoundLane → List Item → Type 0) (after : Knowledge)
      → ((lane : FoundLane) (added : List Item) → P (record k { seen = now.seen; vain = now.vain }) lane added
      → P k lane added)
      → MadeInTimeAs m now (P now) after → MadeInTimeAs m k (P k) after
  made_before P after back n = record {
    lane = n.lane;
    added = n.added;
    meaning = back n.lane n.added (subst (λ z. P z n.lane n.added) now_is n.meaning);
    adds = adds_before n.lane n.added after n.adds;
    more_vain = omega (arith, made.more_vain, n.more_vain);
  }

pub none_before : (k : Knowledge) (s : Record) (v : ℕ) (lane : FoundLane) (added : List Item) → IsNone lane added
    → IsNone lane added
none_before k s v lane added none = none

module _ {R : Type 0} (m : Manner R) where
  -- it only looked before: the call is as one of the pass before it looked
  pub after_looking : (P : Knowledge → FoundLane → List Item → Type 0) (k now after : Knowledge) → HasLooked m k now
      → ((s : Record) (v : ℕ) (lane : FoundLane) (added : List Item) → P (record k { seen = s; vain = v }) lane added
      → P k lane added)
      → MadeInTimeAs m now (P now) after → MadeInTimeAs m k (P k) after
  after_looking P k now after looked back made = ⊎_elim
      (λ (e : now ≡ k). subst (λ z. MadeInTimeAs m z (P z) after) e made)
      (λ (before : MadeInTimeAs m k IsNone now). made_before m k now before P after (back now.seen now.vain) made) looked

  pub looked_more : (k now after : Knowledge) → HasLooked m k now → MadeInTimeAs m now IsNone after
      → HasLooked m k after
  looked_more k now after looked made = inr (after_looking (λ _. IsNone) k now after looked (none_before k) made)

  -- what was performed does not depend on what was seen before
  pub performed_before : IsManner m → (k : Knowledge) (answer : Performed) (s : Record) (v : ℕ) (lane : FoundLane)
      (added : List Item) → PerformMeansAs m (record k { seen = s; vain = v }) answer lane added
      → PerformMeansAs m k answer lane added
  performed_before sound k answer s v lane added t =
      subst (λ (own : List Item). PerformMeansOf own k.number answer added) (sound.own_same k s v lane) t

  pub found_before : IsManner m → (k : Knowledge) (answer : Option Performed) (s : Record) (v : ℕ) (lane : FoundLane)
      (added : List Item) → FindMeansAs m (record k { seen = s; vain = v }) answer lane added
      → FindMeansAs m k answer lane added
  found_before sound k answer s v lane added t =
      subst (λ (own : List Item). FindMeansOf own k.number answer added) (sound.own_same k s v lane) t
