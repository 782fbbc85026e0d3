-- What a board executed is a merge, at any moment.
use Rattle.std.proofs.Common.{◌≡◌, ℕ, zero, suc, ◌+◌, ◌≤◌, Bool, true, false, ◌==◌, List, [], ◌∷◌}
use Rattle.std.proofs.Common.{◌++◌, length, map, drop, Option, Some, refl, sym, ap, ◌∙◌, subst, arith}
use Rattle.std.proofs.Common.{append-nil, if◌then◌else◌, inl}
use Rattle.std.specs.List.{AllByRecursion, cons_option, filter_map, slice_get}
use Rattle.std.proofs.lemmas.Bool.{eqb-true, eq-eqb}
use Rattle.std.proofs.lemmas.List.{map-append}
use Rattle.ipb_base.specs.Lists.{IsPrefix}
use Rattle.ipb_base.proofs.AllLemmas.{AllByRecursion-append, all-map}
use Rattle.world_model.proofs.Lists.{get_front}
use Rattle.world_model.specs.declared.offered.Offered.{Offered}
use Rattle.world_model.specs.Facts.{bodies_of, offered_body}
use Rattle.board_specs.specs.declared.spec.BoardSpec.{BoardSpec}
use Rattle.lane_record.specs.declared.outcome.Outcome.{Outcome}
use Rattle.lane_record.specs.declared.item.Item.{Item}
use Rattle.lane_record.specs.Lists.{CountsFrom}
use Rattle.lane_record.specs.Items.{plan_in, numbers, told_by_first}
use Rattle.lane_record.specs.Claims.{Claim, claims}
use Rattle.lane_record.specs.FirstSends.{may_have_place}
use Rattle.lane_record.specs.Offers.{offers_from}
use Rattle.lane_record.specs.Legal.{IsLegal}
use Rattle.board_history.specs.Merges.{IsSubsequence, Owned, bodies_by, bodies_owned, IsOfClients, AreSubsequences}
use Rattle.board_history.specs.Merges.{IsMergeOfSome}
use Rattle.board_history.proofs.Merging.{front_of_merge, sub_skip}
use Rattle.board_history.specs.Records.{planned_in, bodies_planned, ArePlansOf, IsPartlyPlanned}
use Rattle.lane_record.specs.Dispatches.{plans_from, all_plans_from}
use Rattle.board_history.specs.Records.{HaveLeft, IsRecordOf}
use Rattle.script_steps.specs.declared.operation.Step.{Step}
use Rattle.script_plans.specs.declared.greeting.Greeting.TheVariants.{Live}
use Rattle.script_plans.specs.Plan.{ClientBodies, plans_on}
use Rattle.board_history.specs.Lanes.{bodies_offered}
use Rattle.board_history.specs.LinkRuns.{IsMergeOfAsked, TellsPayload}
use Rattle.board_history.proofs.Lookups.{IsNot}
use Rattle.board_history.proofs.Planned.{plan_at}
use Rattle.board_history.proofs.Steps.{asked_within, seqs_of, claims_seqs, claims_within, step_planned}

-- ---- the offers, with their owners

abbrev pub owned_offers : List Claim → List (Option Outcome) → List Owned
owned_offers cs [] = []
owned_offers [] (o ∷ os) = []
owned_offers (c ∷ cs) (o ∷ os) =
    if may_have_place o then record { client = c.client; body = c.body } ∷ owned_offers cs os else owned_offers cs os

owned_same : (n : ℕ) (cs : List Claim) (os : List (Option Outcome))
    → bodies_owned (owned_offers cs os) ≡ map (λ (o : Offered). o.body) (offers_from n cs os)
owned_same n cs [] = refl
owned_same n [] (o ∷ os) = refl
owned_same n (c ∷ cs) (o ∷ os) = elim (may_have_place o) as
    (λ b. bodies_owned
    (if b then record { client = c.client; body = c.body } ∷ owned_offers cs os else owned_offers cs os)
    ≡ map (λ (x : Offered). x.body)
    (if b then record { tag = n; body = c.body } ∷ offers_from (n + 1) cs os else offers_from (n + 1) cs os)) [
      | true ↦ ap (λ (bs : List (List ℕ)). c.body ∷ bs) (owned_same (n + 1) cs os)
      | false ↦ owned_same (n + 1) cs os
    ]

all_owned : (many : ℕ) (cs : List Claim) (os : List (Option Outcome))
    → AllByRecursion (λ (c : Claim). (1 ≤ c.client) × (c.client ≤ many)) cs
    → AllByRecursion (IsOfClients many) (owned_offers cs os)
all_owned many cs [] all = tt
all_owned many [] (o ∷ os) all = tt
all_owned many (c ∷ cs) (o ∷ os) all = elim (may_have_place o) as
    (λ b. AllByRecursion (IsOfClients many)
    (if b then record { client = c.client; body = c.body } ∷ owned_offers cs os else owned_offers cs os)) [
      | true ↦ (all.0, all_owned many cs os all.1)
      | false ↦ all_owned many cs os all.1
    ]

-- ---- a client's are a subsequence of its bodies

-- a client's body is the one of its number
abbrev pub IsNumbered : ℕ → List (List ℕ) → Claim → Type 0
IsNumbered client bodies c = c.client ≡ client → slice_get bodies c.seq ≡ Some c.body

drop_at : (k : ℕ) (bodies : List (List ℕ)) (body : List ℕ) → slice_get bodies k ≡ Some body
    → drop k bodies ≡ body ∷ drop (suc k) bodies
drop_at k [] body e = absurd cc
drop_at zero (b ∷ bodies) body e = let s : b ≡ body = cc in ap (λ (z : List ℕ). z ∷ bodies) s
drop_at (suc k) (b ∷ bodies) body e = drop_at k bodies body e

-- its own offer, or none
own_offer : (client : ℕ) (c : Claim) (b : Bool) (os : List Owned) (ys : List (List ℕ)) → c.client ≡ client
    → IsSubsequence (bodies_by client os) ys
    → IsSubsequence (bodies_by client (if b then record { client = c.client; body = c.body } ∷ os else os))
    (c.body ∷ ys)
own_offer client c true os ys e s =
    let own : (c.client == client) ≡ true = eq-eqb c.client client e in
    rw own (inl (refl, s))
own_offer client c false os ys e s = sub_skip (bodies_by client os) c.body ys s

other_offer : (client : ℕ) (c : Claim) (b : Bool) (os : List Owned) → (c.client == client) ≡ false
    → bodies_by client (if b then record { client = c.client; body = c.body } ∷ os else os) ≡ bodies_by client os
other_offer client c true os e = rw e refl
other_offer client c false os e = refl

sub_from : (client k : ℕ) (bodies : List (List ℕ)) (cs : List Claim) (os : List (Option Outcome))
    → CountsFrom k (seqs_of client cs) → AllByRecursion (IsNumbered client bodies) cs
    → IsSubsequence (bodies_by client (owned_offers cs os)) (drop k bodies)
sub_from client k bodies cs [] counts all = tt
sub_from client k bodies [] (o ∷ os) counts all = tt
sub_from client k bodies (c ∷ cs) (o ∷ os) counts all = elim (c.client == client) as
    (λ t. (c.client == client) ≡ t
    → CountsFrom k (if t then c.seq ∷ seqs_of client cs else seqs_of client cs)
    → IsSubsequence (bodies_by client (owned_offers (c ∷ cs) (o ∷ os))) (drop k bodies)) [
      | true ↦ λ e counted.
          let mine = eqb-true c.client client e in
          let here : slice_get bodies k ≡ Some c.body =
          subst (λ (n : ℕ). slice_get bodies n ≡ Some c.body) counted.0 (all.0 mine) in
          let up : k + 1 ≡ suc k = omega arith in
          let later = subst (λ (n : ℕ). IsSubsequence (bodies_by client (owned_offers cs os)) (drop n bodies)) up
          (sub_from client (k + 1) bodies cs os counted.1 all.1) in
          subst (IsSubsequence (bodies_by client (owned_offers (c ∷ cs) (o ∷ os))))
          (sym (drop_at k bodies c.body here))
          (own_offer client c (may_have_place o) (owned_offers cs os) (drop (suc k) bodies) mine later)
      | false ↦ λ e counted.
          subst (λ (xs : List (List ℕ)). IsSubsequence xs (drop k bodies))
          (sym (other_offer client c (may_have_place o) (owned_offers cs os) e))
          (sub_from client k bodies cs os counted all.1)
    ] refl counts

-- the Plan of a number is the body of that number
plan_is_body : (client seq : ℕ) (bodies : List (List ℕ)) (body : List ℕ) (items : List Item)
    → CountsFrom 0 (numbers plan_in client items) → IsPrefix (bodies_planned client items) bodies
    → told_by_first plan_in client seq items ≡ Some body → slice_get bodies seq ≡ Some body
plan_is_body client seq bodies body items counts front f =
    subst (λ (bs : List (List ℕ)). slice_get bs seq ≡ Some body) (sym front.1)
    (get_front (bodies_planned client items) front.0 seq body (plan_at client seq body items counts f))

-- ---- each client's

each_sub : (client : ℕ) (bodies : List (List (List ℕ))) (items : List Item) (became : List (Option Outcome))
    → IsLegal items became → ArePlansOf client bodies items
    → AreSubsequences client bodies (owned_offers (claims items) became)
each_sub client [] items became legal plans = tt
each_sub client (bs ∷ later) items became legal plans =
    let counts : CountsFrom 0 (seqs_of client (claims items)) =
    subst (CountsFrom 0) (sym (claims_seqs client [] items)) (legal.asks_follow_plans.count client) in
    let numbered : AllByRecursion (IsNumbered client bs) (claims items) =
    all-map (λ (c : Claim). told_by_first plan_in c.client c.seq items ≡ Some c.body) (IsNumbered client bs) (claims items)
    (λ c f mine. plan_is_body client c.seq bs c.body items (legal.plans_count.count client) plans.0
    (subst (λ (n : ℕ). told_by_first plan_in n c.seq items ≡ Some c.body) mine f)) (step_planned items became legal) in
    (sub_from client 0 bs (claims items) became counts numbered, each_sub (client + 1) later items became legal plans.1)

pub merge_at : (bodies : List (List (List ℕ))) (items : List Item) (became : List (Option Outcome))
    (done : List (List ℕ)) → IsLegal items became → IsPartlyPlanned bodies items
    → IsPrefix done (bodies_offered (claims items) became) → IsMergeOfSome bodies done
merge_at bodies items became done legal planned front =
    let within = asked_within (length bodies) items legal.made planned.nobody_else in
    let owners = owned_offers (claims items) became in
    front_of_merge bodies done owners
    (subst (IsPrefix done) (sym (owned_same 0 (claims items) became)) front)
    (each_sub 1 bodies items became legal planned.each)
    (all_owned (length bodies) (claims items) became (claims_within (length bodies) items within))

-- ---- what the scripts ask

-- what a hub has sent is the first part of what its lane offered
pub sent_offered : (sent queue : List Offered) (cs : List Claim) (became : List (Option Outcome))
    → sent ++ queue ≡ offers_from 0 cs became → IsPrefix (bodies_of sent) (bodies_offered cs became)
sent_offered sent queue cs became same =
    (bodies_of queue, sym (ap (map offered_body) same) ∙ map-append offered_body sent queue)

pub sent_asked : (spec : BoardSpec) (board : ℕ) (scripts : List (List Step)) (payload : ℕ) (items : List Item)
    (became : List (Option Outcome)) (sent queue : List Offered) → TellsPayload spec.link payload
    → IsPartlyPlanned (map (λ (p : ClientBodies). p.bodies) (plans_on board (Live payload) scripts)) items
    → IsLegal items became → sent ++ queue ≡ offers_from 0 (claims items) became
    → IsMergeOfAsked spec board scripts (bodies_of sent)
sent_asked spec board scripts payload items became sent queue packets planned legal same = record {
  payload = payload;
  told = packets;
  merge = merge_at (map (λ (p : ClientBodies). p.bodies) (plans_on board (Live payload) scripts)) items became
      (bodies_of sent) legal planned (sent_offered sent queue (claims items) became same);
}

pub first_asked : (spec : BoardSpec) (board : ℕ) (scripts : List (List Step)) (first bodies : List (List ℕ))
    → IsPrefix first bodies → IsMergeOfAsked spec board scripts bodies → IsMergeOfAsked spec board scripts first
first_asked spec board scripts first bodies front asked = record {
  payload = asked.payload;
  told = asked.told;
  merge = front_of_merge (map (λ (p : ClientBodies). p.bodies) (plans_on board (Live asked.payload) scripts)) first
      asked.merge.owned (subst (IsPrefix first) asked.merge.same front) asked.merge.each asked.merge.nobody_else;
}

-- ---- the record that clients leave

all_planned : (client : ℕ) (bodies : List (List (List ℕ))) (outcomes : List (List (List Outcome)))
    (items : List Item) → HaveLeft client bodies outcomes items → ArePlansOf client bodies items
all_planned client [] [] items left = tt
all_planned client [] (os ∷ others) items left = absurd left
all_planned client (bs ∷ later) [] items left = absurd left
all_planned client (bs ∷ later) (os ∷ others) items left = (
  ([], sym left.0.planned ∙ sym (append-nil (bodies_planned client items))),
  all_planned (client + 1) later others items left.1,
)

pub partly_planned : (bodies : List (List (List ℕ))) (outcomes : List (List (List Outcome))) (items : List Item)
    → IsRecordOf bodies outcomes items → IsPartlyPlanned bodies items
partly_planned bodies outcomes items is =
    record { each = all_planned 1 bodies outcomes items is.each; nobody_else = is.nobody_else }

-- ---- Plans one after another

pub plans_planned : (client seq : ℕ) (bodies : List (List ℕ)) (rest : List Item)
    → filter_map planned_in (plans_from client seq bodies ++ rest) ≡ bodies ++ filter_map planned_in rest
plans_planned client seq [] rest = refl
plans_planned client seq (b ∷ bs) rest =
    ap (λ (xs : List (List ℕ)). b ∷ xs) (plans_planned client (seq + 1) bs rest)

pub none_planned : (xs : List Item) → AllByRecursion (IsNot plan_in) xs → filter_map planned_in xs ≡ []
none_planned [] all = refl
none_planned (x ∷ xs) all =
    ap (λ (o : Option (List ℕ)). cons_option o (filter_map planned_in xs)) all.0 ∙ none_planned xs all.1

abbrev pub IsAtMost : ℕ → Item → Type 0
IsAtMost many x = x.client ≤ many

plans_at_most : (many client seq : ℕ) (bodies : List (List ℕ)) → client ≤ many
    → AllByRecursion (IsAtMost many) (plans_from client seq bodies)
plans_at_most many client seq [] le = tt
plans_at_most many client seq (b ∷ bs) le = (le, plans_at_most many client (seq + 1) bs le)

pub opening_at_most : (many client : ℕ) (bodies : List (List (List ℕ))) → client + length bodies ≤ many + 1
    → AllByRecursion (IsAtMost many) (all_plans_from client bodies)
opening_at_most many client [] le = tt
opening_at_most many client (bs ∷ later) le =
    AllByRecursion-append (IsAtMost many) (plans_from client 0 bs) (all_plans_from (client + 1) later)
    (plans_at_most many client 0 bs (omega (arith, le))) (opening_at_most many (client + 1) later (omega (arith, le)))
