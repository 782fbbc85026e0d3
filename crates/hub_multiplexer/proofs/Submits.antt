-- A body that is planned and asked in one call.
use Rattle.std.proofs.Common.{◌≡◌, ◌<◌, ◌+◌, inl, inr, ℕ, List, [], ◌∷◌, ◌++◌, length, Option, refl, sym, ap, subst}
use Rattle.std.proofs.Common.{◌∙◌, arith, append_assoc, append-nil, length-append, eq-eqb}
use Rattle.ipb_base.specs.Numbers.{payload_of}
use Rattle.turn_pass.specs.Pass.{Knowledge, Told}
use Rattle.links.specs.Telling.{Telling}
use Rattle.lane_record.specs.declared.item.Item.{Item}
use Rattle.lane_record.specs.Items.{ask_in, asked_count, numbers, plan_in, planned_count}
use Rattle.lane_record.specs.Legal.{IsLegal}
use Rattle.lane_record.specs.NextEntry.{ask_of, plan_of}
use Rattle.lane_record.proofs.Lookups.{numbers_append}
use Rattle.hub_lane.specs.Lanes.{LaneState, opening_of}
use Rattle.hub_lane.specs.Plans.{IsRefused, Plans}
use Rattle.hub_lane.specs.declared.answers.Asked.TheVariants as asks
use Rattle.hub_lane.specs.declared.answers.PlanRefusal.{PlanRefusal}
use Rattle.hub_lane.specs.declared.answers.PlanRefusal.TheVariants as refusals
use Rattle.hub_multiplexer.specs.Calls.{HasSubmitted, SubmitRefused}
use Rattle.hub_multiplexer.specs.Lanes.{IsAskedNext, Means, shown_record}
use Rattle.hub_multiplexer.specs.OwnItems.{asked_by, of_client, own_items, planned_by}
use Rattle.hub_multiplexer.proofs.Grows.{grew, planned_is, same, shown_of}
use Rattle.hub_multiplexer.proofs.OwnItems.{asked_own, planned_own}
use Rattle.hub_multiplexer.proofs.LaneCalls.{IsPlanLaw, ask_head, asks_on, head}

-- a Plan counts among the Plans of its client alone
one_plan : (client seq : ℕ) (body : List ℕ) → numbers plan_in client (plan_of client seq body ∷ []) ≡ seq ∷ []
one_plan client seq body = rw (eq-eqb client client refl) refl

no_ask : (client seq : ℕ) (body : List ℕ) → numbers ask_in client (plan_of client seq body ∷ []) ≡ []
no_ask client seq body = rw (eq-eqb client client refl) refl

pub planned_more : (client seq : ℕ) (body : List ℕ) (items : List Item)
    → planned_count client (items ++ plan_of client seq body ∷ []) ≡ planned_count client items + 1
planned_more client seq body items =
    ap length (numbers_append plan_in client items (plan_of client seq body ∷ [])
    ∙ ap (λ l. numbers plan_in client items ++ l) (one_plan client seq body))
    ∙ length-append (numbers plan_in client items) (seq ∷ [])

pub asked_same : (client seq : ℕ) (body : List ℕ) (items : List Item)
    → asked_count client (items ++ plan_of client seq body ∷ []) ≡ asked_count client items
asked_same client seq body items =
    ap length (numbers_append ask_in client items (plan_of client seq body ∷ [])
    ∙ (ap (λ l. numbers ask_in client items ++ l) (no_ask client seq body)
    ∙ append-nil (numbers ask_in client items)))

-- so the body that was just planned is the next to be asked
pub next_asked : {L : Type 0} (old mid : LaneState L) (client seq : ℕ) (body : List ℕ)
    → asked_count client old.items ≡ planned_count client old.items → Plans old client body mid seq
    → asked_count client mid.items < planned_count client mid.items
next_asked {L} old mid client seq body all p =
    let items : mid.items ≡ old.items ++ plan_of client seq body ∷ [] = ap (λ (l : LaneState L). l.items) p.entry in
    subst (λ l. asked_count client l < planned_count client l) (sym items)
    (let a = asked_same client seq body old.items in let b = planned_more client seq body old.items in omega
    (arith, a, b, all))

module _ {L : Type 0} (telling : L → Option Telling) (old mid new : LaneState L) (client : ℕ) (body : List ℕ)
    (own : (k : Knowledge) → Told k (shown_record telling old) → own_items k ≡ of_client k.number old.items) where
  -- planned and asked
  pub submit_means : IsPlanLaw → (seq : ℕ) → IsLegal mid.items mid.outcomes → IsLegal new.items new.outcomes
      → asked_count client old.items ≡ planned_count client old.items → Plans old client body mid seq
      → opening_of (telling new.link) ≡ opening_of (telling mid.link) → IsAskedNext mid client new
      → Means client (shown_record telling old) (λ k. HasSubmitted k body seq) (shown_record telling new)
  submit_means law seq legal_mid legal all p opening a =
      let n = a.seq in
      let on = asks_on telling law mid new client (asks.Asked n) legal_mid a.as_next in
      let planned_items : mid.items ≡ old.items ++ plan_of client seq body ∷ [] = ap
      (λ (l : LaneState L). l.items) p.entry in
      let n_is : n ≡ seq = on.0 ∙ (ap (asked_count client) planned_items
      ∙ (asked_same client seq body old.items ∙ (all ∙ sym p.number))) in
      let g = on.2 in
      let items : new.items ≡ old.items ++ plan_of client seq body ∷ ask_of client seq g ∷ [] = on.3
      ∙ ((λ i. planned_items i ++ ask_of client (n_is i) g ∷ [])
      ∙ append_assoc old.items (plan_of client seq body ∷ []) (ask_of client seq g ∷ [])) in
      let same_head : head telling new ≡ head telling old = ask_head telling mid new client (asks.Asked n) opening
      a.as_next
      ∙ ap (head telling) p.entry in
      let s = shown_of telling old new own legal same_head in record {
        added = plan_of client seq body ∷ ask_of client seq g ∷ [];
        grew = grew client (shown_record telling old) (shown_record telling new) s
            (plan_of client seq body ∷ ask_of client seq g ∷ []) items (refl, (refl, tt));
        to_finder = λ k told number. record {
          next = p.number ∙ sym (planned_is client (shown_record telling old) (shown_record telling new) s k told number);
          can = p.can;
          give_ups = g;
          entries = λ i. plan_of (sym number i) seq body ∷ ask_of (sym number i) seq g ∷ [];
        };
      }

  -- refused by the lane
  refused_as : (k : Knowledge) (why : PlanRefusal) (lane : Rattle.hub_multiplexer.specs.Calls.FoundLane)
      → IsRefused lane.items (payload_of lane.head.mtu) body why → SubmitRefused k body why lane []
  refused_as k refusals.Sealed lane r = (refl, r)
  refused_as k refusals.TooLong lane r = (refl, r)
  refused_as k refusals.ReplyTooLong lane r = (refl, r)
  refused_as k refusals.Overfull lane r = (refl, r)
  refused_as k refusals.NoMemory lane r = inl refl

  pub refused_means : (why : PlanRefusal) → IsLegal new.items new.outcomes → new ≡ old
      → IsRefused old.items (payload_of old.status.mtu) body why
      → Means client (shown_record telling old) (λ k. SubmitRefused k body why) (shown_record telling new)
  refused_means why legal e r =
      let s = shown_of telling old new own legal (ap (head telling) e) in record {
        added = [];
        grew = same client (shown_record telling old) (shown_record telling new) s (ap (λ (l : LaneState L). l.items) e);
        to_finder = λ k told number. refused_as k why _ r;
      }

  -- planned, and then memory ran out
  pub planned_means : (seq : ℕ) → IsLegal new.items new.outcomes → Plans old client body mid seq → new ≡ mid
      → Means client (shown_record telling old) (λ k. SubmitRefused k body refusals.NoMemory) (shown_record telling new)
  planned_means seq legal p e =
      let s = shown_of telling old new own legal (ap (head telling) (e ∙ p.entry)) in record {
        added = plan_of client seq body ∷ [];
        grew = grew client (shown_record telling old) (shown_record telling new) s (plan_of client seq body ∷ [])
            (ap (λ (l : LaneState L). l.items) (e ∙ p.entry)) (refl, tt);
        to_finder = λ k told number. inr (λ i. plan_of (sym number i)
            ((p.number ∙ sym (planned_is client (shown_record telling old) (shown_record telling new) s k told number)) i) body ∷ []);
      }

-- what a pass knows of its client holds of the record that it finds
pub all_asked_there : (client : ℕ) (k : Knowledge) (items : List Item) → k.number ≡ client
    → own_items k ≡ of_client k.number items → asked_by k ≡ planned_by k → asked_count client items ≡ planned_count client items
all_asked_there client k items number own all =
    let mine : own_items k ≡ of_client client items = own ∙ ap (λ n. of_client n items) number in
    sym (asked_own client items) ∙ ((λ i. asked_count (sym number i) (sym mine i))
    ∙ (all ∙ ((λ i. planned_count (number i) (mine i)) ∙ planned_own client items)))
