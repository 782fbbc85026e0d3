-- What a pass knows after it took the value of a turn and gave it back.
use Rattle.std.proofs.Common.{◌≡◌, ◌≤◌, ℕ, true, false, List, [], ◌∷◌, ◌++◌, map, length, drop, Result, Ok, Err, IfErr, Option}
use Rattle.std.proofs.Common.{IfOk, OnErr, sym, ap, subst, ◌∙◌}
use Rattle.std.specs.List.{AllByRecursion}
use Rattle.std.proofs.Math.Seq.{drop-append_seam}
use Rattle.turn_pass.specs.Record.{AreMadeBy, GrowsBy, Record, Recorded}
use Rattle.turn_pass.specs.Pass.{Knowledge, PassState, Told, having_given, having_seen}
use Rattle.lane_record.specs.declared.item.Item.{Item}
use Rattle.lane_record.specs.Coding.{as_recorded}
use Rattle.hub_multiplexer.specs.AnyCalls.{AddsAs, BeginsAs, BegunAs, FindMeansAs, FindMeansOf, GrewAs, MadeAs}
use Rattle.hub_multiplexer.specs.AnyCalls.{MadeInTimeAs, MeansAs}
use Rattle.hub_multiplexer.specs.AnyCalls.{StepMeansAs, StepMeansOf}
use Rattle.hub_multiplexer.specs.declared.answers.Performed.{Performed}
use Rattle.hub_lane.specs.declared.step.Stepped.{Stepped}
use Rattle.hub_multiplexer.specs.Manner.{FoundLane, IsManner, Manner}

made_by_client : (client : ℕ) (items : List Item) → AllByRecursion (λ (x : Item). x.client ≡ client) items
    → AreMadeBy client (map as_recorded items)
made_by_client client [] a = tt
made_by_client client (x ∷ xs) a = (a.0, made_by_client client xs a.1)

-- the pass gave back what it took with these entries more
given_more : (k mid final : Knowledge) (before after : Record) (added : List Recorded)
    → after.entries ≡ before.entries ++ added → mid ≡ record (having_seen k before) { vain = mid.vain }
    → final ≡ having_given mid after
    → (final.mine ≡ k.mine ++ added) × (final ≡ record k { seen = final.seen; mine = final.mine; vain = final.vain })
given_more k mid final before after added more took gave = (
  ap (λ (z : Knowledge). z.mine) gave
      ∙ ((λ i. (took i).mine ++ drop (length (took i).seen.entries) (more i))
      ∙ ap (λ l. k.mine ++ l) (drop-append_seam before.entries added)),
  gave ∙ (λ i. record (took i) {
    seen = (sym gave i).seen;
    mine = (sym gave i).mine;
    vain = (sym gave i).vain;
  }),
)

module _ {R : Type 0} (m : Manner R) (sound : IsManner m) where
  entries_grew : (client : ℕ) (before : Record) (added : List Item) (after : Record)
      → GrewAs m client before added after → after.entries ≡ before.entries ++ map as_recorded added
  entries_grew client before added after g =
      ap (λ (r : Record). r.entries) g.now ∙ ((sound.more g.lane added).entries
      ∙ ap (λ (r : Record). r.entries ++ map as_recorded added) (sym g.was))

  -- so the lane may be given back
  may_give : (client : ℕ) (before : Record) (added : List Item) (after : Record)
      → GrewAs m client before added after → GrowsBy client before after
  may_give client before added after g = record {
    head = ap (λ (r : Record). r.head) g.now ∙ ((sound.more g.lane added).head
        ∙ ap (λ (r : Record). r.head) (sym g.was));
    added = map as_recorded added;
    entries = entries_grew client before added after g;
    makers = made_by_client client added g.makers;
  }

  -- mid is what the pass knew while it held the value
  adds_of : (client : ℕ) (k mid final : Knowledge) (before : Record) (added : List Item) (after : Record)
      → (g : GrewAs m client before added after) → Told k before
      → mid ≡ record (having_seen k before) { vain = mid.vain } → final ≡ having_given mid after
      → (final.vain ≡ mid.vain) × AddsAs m k g.lane added final
  adds_of client k mid final before added after g told took gave =
      let given = given_more k mid final before after (map as_recorded added)
      (entries_grew client before added after g) took gave in (
        ap (λ (z : Knowledge). z.vain) gave,
        record {
          found = subst (Told k) g.was told;
          legal = g.legal;
          seen_now = ap (λ (z : Knowledge). z.seen) gave ∙ g.now;
          mine_now = given.0;
          rest_same = given.1;
        },
      )

  -- after one exchange
  pub at_once : (client : ℕ) (old mid final : PassState) (before after : Record)
      (P : Knowledge → FoundLane → List Item → Type 0) → MeansAs m client before P after → old.knows.number ≡ client
      → Told old.knows before
      → mid ≡ record old { holds = true; knows = having_seen old.knows before }
      → final ≡ record mid { holds = false; knows = having_given mid.knows after }
      → MadeAs m old.knows (P old.knows) final.knows
  at_once client old mid final before after P means number told took gave =
      let knew : mid.knows ≡ having_seen old.knows before = ap (λ (p : PassState). p.knows) took in
      let same : mid.knows.vain ≡ old.knows.vain = ap (λ (k : Knowledge). k.vain) knew in
      let a = adds_of client old.knows mid.knows final.knows before means.added after means.grew told
      (knew ∙ (λ i. record (having_seen old.knows before) { vain = sym same i }))
      (ap (λ (p : PassState). p.knows) gave) in
      record {
        lane = means.grew.lane;
        added = means.added;
        meaning = means.to_finder old.knows told number;
        adds = a.1;
        same_vain = a.0 ∙ same;
      }

  -- after some exchanges in vain
  pub in_time : (client : ℕ) (old mid final : PassState) (before after : Record)
      (P : Knowledge → FoundLane → List Item → Type 0) → MeansAs m client before P after → old.knows.number ≡ client
      → Told old.knows before → old.knows.vain ≤ mid.knows.vain
      → mid ≡ record old { holds = true; knows = record (having_seen old.knows before) { vain = mid.knows.vain } }
      → final ≡ record mid { holds = false; knows = having_given mid.knows after }
      → MadeInTimeAs m old.knows (P old.knows) final.knows
  in_time client old mid final before after P means number told waited took gave =
      let a = adds_of client old.knows mid.knows final.knows before means.added after means.grew told
      (ap (λ (p : PassState). p.knows) took) (ap (λ (p : PassState). p.knows) gave) in
      record {
        lane = means.grew.lane;
        added = means.added;
        meaning = means.to_finder old.knows told number;
        adds = a.1;
        more_vain = subst (λ n. old.knows.vain ≤ n) (sym a.0) waited;
      }

  -- a call on a lane that was taken, however it went, lets the lane be given back
  grew_either : {A E : Type 0} (client : ℕ) (before after : Record) (P : A → Knowledge → FoundLane → List Item → Type 0)
      (Q : Knowledge → FoundLane → List Item → Type 0) (r : Result A E)
      → IfOk r (λ a. MeansAs m client before (P a) after) → OnErr r (MeansAs m client before Q after)
      → GrowsBy client before after
  grew_either client before after P Q (Ok a) ok err = may_give client before ok.added after ok.grew
  grew_either client before after P Q (Err e) ok err = may_give client before err.added after err.grew

  pub may_give_back : {A E : Type 0} (client : ℕ) (old mid : PassState) (before after : Record) (vain : ℕ)
      (P : A → Knowledge → FoundLane → List Item → Type 0) (Q : Knowledge → FoundLane → List Item → Type 0)
      (r : Result A E)
      → mid ≡ record old { holds = true; knows = record (having_seen old.knows before) { vain = vain } }
      → old.knows.number ≡ client → IfOk r (λ a. MeansAs m client before (P a) after) → OnErr r (MeansAs m client before Q after)
      → GrowsBy mid.knows.number mid.knows.seen after
  may_give_back client old mid before after vain P Q r took number ok err =
      subst (λ (p : PassState). GrowsBy p.knows.number p.knows.seen after) (sym took)
      (subst (λ (n : ℕ). GrowsBy n before after) (sym number) (grew_either client before after P Q r ok err))

  -- the same of a call that says what a refusal means
  pub may_give_either : {A E : Type 0} (client : ℕ) (old mid : PassState) (before after : Record) (vain : ℕ)
      (P : A → Knowledge → FoundLane → List Item → Type 0) (Q : E → Knowledge → FoundLane → List Item → Type 0)
      (r : Result A E)
      → mid ≡ record old { holds = true; knows = record (having_seen old.knows before) { vain = vain } }
      → old.knows.number ≡ client → IfOk r (λ a. MeansAs m client before (P a) after)
      → IfErr r (λ e. MeansAs m client before (Q e) after)
      → GrowsBy mid.knows.number mid.knows.seen after
  may_give_either {A} {E} client old mid before after vain P Q r took number ok err =
      subst (λ (p : PassState). GrowsBy p.knows.number p.knows.seen after) (sym took)
      (subst (λ (n : ℕ). GrowsBy n before after) (sym number) (cases r ok err))
    where
      cases : (r : Result A E) → IfOk r (λ a. MeansAs m client before (P a) after)
          → IfErr r (λ e. MeansAs m client before (Q e) after) → GrowsBy client before after
      cases (Ok a) ok err = may_give client before ok.added after ok.grew
      cases (Err e) ok err = may_give client before err.added after err.grew

-- what a step came to, as a visit tells it
pub found_by_step : {R : Type 0} (m : Manner R) (client : ℕ) (before after : Record) (stepped : Stepped)
    (found : Option Performed)
    → ((own : List Item) (n : ℕ) (added : List Item) → StepMeansOf own n stepped added → FindMeansOf own n found added)
    → MeansAs m client before (λ k. StepMeansAs m k stepped) after
    → MeansAs m client before (λ k. FindMeansAs m k found) after
found_by_step m client before after stepped found tells means = record {
  added = means.added;
  grew = means.grew;
  to_finder = λ k told number. tells (m.own k means.grew.lane) k.number means.added (means.to_finder k told number);
}

-- another greeting began, or none was due
pub begun_of : {R : Type 0} (m : Manner R) (client : ℕ) (old mid final : PassState) (before after : Record)
    → BeginsAs m client before after → old.knows.number ≡ client → Told old.knows before
    → old.knows.vain ≤ mid.knows.vain
    → mid ≡ record old { holds = true; knows = record (having_seen old.knows before) { vain = mid.knows.vain } }
    → final ≡ record mid { holds = false; knows = having_given mid.knows after }
    → BegunAs m old.knows final.knows
begun_of m client old mid final before after b number told waited took gave =
    let knew : mid.knows ≡ record (having_seen old.knows before) { vain = mid.knows.vain } =
    ap (λ (p : PassState). p.knows) took in
    let given : final.knows ≡ having_given mid.knows after = ap (λ (p : PassState). p.knows) gave in
    let more = given_more old.knows mid.knows final.knows before after b.grew.added b.grew.entries knew given in
    record {
      lane = b.lane;
      next = b.next;
      found = subst (Told old.knows) b.was told;
      legal = b.legal;
      grew = record {
        head = ap (λ (r : Record). r.head) (sym b.now) ∙ (b.grew.head ∙ ap (λ (r : Record). r.head) b.was);
        added = b.grew.added;
        entries = ap (λ (r : Record). r.entries) (sym b.now)
            ∙ (b.grew.entries ∙ ap (λ (r : Record). r.entries ++ b.grew.added) b.was);
        makers = subst (λ (n : ℕ). AreMadeBy n b.grew.added) (sym number) b.grew.makers;
      };
      no_body = b.no_body;
      begins = b.begins;
      seen_now = ap (λ (k : Knowledge). k.seen) given ∙ b.now;
      mine_now = more.0;
      rest_same = more.1;
      more_vain = subst (λ n. old.knows.vain ≤ n) (sym (ap (λ (k : Knowledge). k.vain) given)) waited;
    }

-- so the value may be given back
pub may_give_begun : {R : Type 0} (m : Manner R) (client : ℕ) (old mid : PassState) (before after : Record) (vain : ℕ)
    → BeginsAs m client before after
    → mid ≡ record old { holds = true; knows = record (having_seen old.knows before) { vain = vain } }
    → old.knows.number ≡ client → GrowsBy mid.knows.number mid.knows.seen after
may_give_begun m client old mid before after vain b took number =
    subst (λ (p : PassState). GrowsBy p.knows.number p.knows.seen after) (sym took)
    (subst (λ (n : ℕ). GrowsBy n before after) (sym number) b.grew)
