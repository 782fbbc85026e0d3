-- What rows tell of the Asks, one more entry at a time.
use Rattle.std.proofs.Common.{◌≡◌, ◌≢◌, ◌+◌, ◌<◌, ◌≤◌, ℕ, suc, false, List, [], ◌∷◌, ◌++◌, length, Option, Some, None, IfSome}
use Rattle.std.proofs.Common.{IfNone, is_some, inl, inr, refl, sym, ap, subst, ◌∙◌, arith, append-nil, length-append}
use mathlib.Core.Logic.{dite}
use native.Mathlib.Decide.{ℕ_discrete}
use Rattle.std.specs.List.{slice_get}
use Rattle.std.specs.Option.{unwrap_or}
use Rattle.std.proofs.lemmas.Bool.{cases_lt}
use Rattle.std.proofs.lemmas.Bool.Decides.{eqb_tells}
use Rattle.world_model.proofs.Lists.{get_front, get_seam}
use Rattle.lane_record.specs.declared.item.Item.{Item}
use Rattle.lane_record.specs.Claims.{Claim, claim_in, claims, claims_behind}
use Rattle.lane_record.specs.Items.{ask_in, asked_count, told_by_first, plan_in}
use Rattle.lane_record.specs.NextEntry.{ask_of, plan_of}
use Rattle.lane_record.proofs.Lookups.{claims_push}
use Rattle.lane_tables.specs.declared.rows.PlannedBody.{PlannedBody}
use Rattle.lane_tables.specs.Books.{HasNext, IsAskedRow, Row, TellsAsks, after_ask, after_took, as_asked, as_taken}
use Rattle.lane_tables.specs.Books.{ask_at, just_planned, with_changed_body, row_of, with_ask, with_plan, with_took}
use Rattle.lane_tables.specs.Taken.{IsAskAt}
use Rattle.lane_tables.proofs.ClientRows.{becomes, grown, row_changed, row_changed_other, row_planned, row_planned_other}
use Rattle.lane_tables.proofs.PlannedBodies.{ask_here, ask_other, ask_push, ask_taken}

-- ---- how many Asks there are

pub same_claims : (items : List Item) (x : Item) → ask_in x.what ≡ None → claims (items ++ x ∷ []) ≡ claims items
same_claims items x none = claims_push items x
    ∙ (ap (λ (o : Option ℕ). claims items ++ claim_in items x o) none ∙ append-nil (claims items))

pub same_count : (items : List Item) (x : Item) → ask_in x.what ≡ None
    → length (claims (items ++ x ∷ [])) ≡ length (claims items)
same_count items x none = ap (λ (cs : List Claim). length cs) (same_claims items x none)

pub one_more_claim : (items : List Item) (client seq g : ℕ)
    → length (claims (items ++ ask_of client seq g ∷ [])) ≡ length (claims items) + 1
one_more_claim items client seq g =
    ap (λ (cs : List Claim). length cs) (claims_push items (ask_of client seq g))
    ∙ length-append (claims items) (claim_in items (ask_of client seq g) (Some g))

claims_few_behind : (front items : List Item) → length (claims_behind front items) ≤ length items
claims_few_behind front [] = omega arith
claims_few_behind front (x ∷ xs) =
    let rest = claims_few_behind (front ++ x ∷ []) xs in
    elim (ask_in x.what)
    as (λ o. length (claim_in front x o ++ claims_behind (front ++ x ∷ []) xs) ≤ suc (length xs)) [
      | None ↦ omega (arith, rest)
      | Some g ↦ omega (arith, rest)
    ]

pub claims_few : (items : List Item) → length (claims items) ≤ length items
claims_few items = claims_few_behind [] items

-- ---- an entry more

ask_stays : (items : List Item) (x : Item) (client seq ask : ℕ) → IsAskAt items client seq ask
    → IsAskAt (items ++ x ∷ []) client seq ask
ask_stays items x client seq ask at = record {
  claim = at.claim;
  is = record {
    there = ap (λ (cs : List Claim). slice_get cs ask) (claims_push items x)
        ∙ get_front (claims items) (claim_in items x (ask_in x.what)) ask at.claim at.is.there;
    same_client = at.is.same_client;
    same_seq = at.is.same_seq;
  };
}

tells_still : (items : List Item) (x : Item) (client : ℕ) (bodies : List PlannedBody) (asks : ℕ)
    → TellsAsks items client bodies asks → TellsAsks (items ++ x ∷ []) client bodies asks
tells_still items x client bodies asks is = record {
  right = λ seq ask there. ask_stays items x client seq ask (is.right seq ask there);
  all = is.all;
}

row_still : (items : List Item) (x : Item) (client : ℕ) (row : Option Row) → IsAskedRow items client row
    → IsAskedRow (items ++ x ∷ []) client row
row_still items x client None is = tells_still items x client [] 0 is
row_still items x client (Some r) is = tells_still items x client r.bodies r.asked is

pub asked_stay : (items : List Item) (rows : List Row) (x : Item) → ((c : ℕ) → IsAskedRow items c (row_of c rows))
    → (other : ℕ) → IsAskedRow (items ++ x ∷ []) other (row_of other rows)
asked_stay items rows x are other = row_still items x other (row_of other rows) (are other)

-- ---- bodies whose Asks are the same

tells_alike : (items : List Item) (client : ℕ) (bodies more : List PlannedBody) (asks : ℕ)
    → ((n : ℕ) → ask_at more n ≡ ask_at bodies n) → TellsAsks items client bodies asks
    → TellsAsks items client more asks
tells_alike items client bodies more asks same is = record {
  right = λ seq ask there. is.right seq ask (sym (same seq) ∙ there);
  all = λ seq less. ap is_some (same seq) ∙ is.all seq less;
}

row_grown : (items : List Item) (client : ℕ) (words : List ℕ) (row : Option Row) → IsAskedRow items client row
    → IsAskedRow items client (Some (grown client words row))
row_grown items client words None is = tells_alike items client [] (just_planned words ∷ []) 0 (ask_push [] words) is
row_grown items client words (Some r) is =
    tells_alike items client r.bodies (r.bodies ++ just_planned words ∷ []) r.asked (ask_push r.bodies words) is

pub asked_plan : (items : List Item) (rows : List Row) (client seq : ℕ) (body : List ℕ)
    → ((c : ℕ) → IsAskedRow items c (row_of c rows))
    → (other : ℕ) → IsAskedRow (items ++ plan_of client seq body ∷ []) other
    (row_of other (with_plan client body rows))
asked_plan items rows client seq body are other =
    row_still items (plan_of client seq body) other (row_of other (with_plan client body rows))
    (elim (eqb_tells client other) [
      | inl same ↦ subst (λ (c : ℕ). IsAskedRow items c (row_of c (with_plan client body rows))) same.1
          (subst (IsAskedRow items client) (sym (row_planned client body rows))
          (row_grown items client body (row_of client rows) (are client)))
      | inr apart ↦ subst (IsAskedRow items other) (sym (row_planned_other client body other rows apart.0)) (are other)
    ])

row_taken : (items : List Item) (client seq : ℕ) (row : Option Row) → IsAskedRow items client row
    → IsAskedRow items client (becomes (after_took seq) row)
row_taken items client seq None is = is
row_taken items client seq (Some r) is =
    tells_alike items client r.bodies (with_changed_body seq as_taken r.bodies) r.asked (ask_taken seq r.bodies) is

pub asked_took : (items : List Item) (rows : List Row) (client seq : ℕ) (x : Item)
    → ((c : ℕ) → IsAskedRow items c (row_of c rows))
    → (other : ℕ) → IsAskedRow (items ++ x ∷ []) other (row_of other (with_took client seq rows))
asked_took items rows client seq x are other =
    row_still items x other (row_of other (with_took client seq rows))
    (elim (eqb_tells client other) [
      | inl same ↦ subst (λ (c : ℕ). IsAskedRow items c (row_of c (with_took client seq rows))) same.1
          (subst (IsAskedRow items client) (sym (row_changed client (after_took seq) rows (λ r. refl)))
          (row_taken items client seq (row_of client rows) (are client)))
      | inr apart ↦ subst (IsAskedRow items other)
          (sym (row_changed_other client (after_took seq) other rows (λ r. refl) apart.0)) (are other)
    ])

-- ---- one more Ask

new_ask : (items : List Item) (client seq g : ℕ)
    → IsAskAt (items ++ ask_of client seq g ∷ []) client seq (length (claims items))
new_ask items client seq g =
    let claim : Claim = record {
      client = client;
      seq = seq;
      give_ups = g;
      body = unwrap_or (told_by_first plan_in client seq items) [];
    } in
    record {
      claim = claim;
      is = record {
        there = ap (λ (cs : List Claim). slice_get cs (length (claims items))) (claims_push items (ask_of client seq g))
            ∙ get_seam (claims items) [] claim;
        same_client = refl;
        same_seq = refl;
      };
    }

tells_one_more : (items : List Item) (client g ask : ℕ) (bodies : List PlannedBody) (asks : ℕ) → asks < length bodies
    → ask ≡ length (claims items) → TellsAsks items client bodies asks
    → TellsAsks (items ++ ask_of client asks g ∷ []) client (with_changed_body asks (as_asked ask) bodies) (asks + 1)
tells_one_more items client g ask bodies asks left number is =
    let x = ask_of client asks g in
    record {
      right = λ seq found there. dite (ℕ_discrete seq asks)
          (λ (e : seq ≡ asks). (
          let here : Some ask ≡ Some found = sym (ask_here asks ask bodies left)
          ∙ (ap (ask_at (with_changed_body asks (as_asked ask) bodies)) (sym e) ∙ there) in
          let same : ask ≡ found = cc in
          subst (IsAskAt (items ++ x ∷ []) client seq) (sym number ∙ same)
          (subst (λ (n : ℕ). IsAskAt (items ++ x ∷ []) client n (length (claims items))) (sym e)
          (new_ask items client asks g))))
          (λ (ne : seq ≢ asks). ask_stays items x client seq found
          (is.right seq found (sym (ask_other asks ask bodies seq ne) ∙ there)));
      all = λ seq less. dite (ℕ_discrete seq asks)
          (λ (e : seq ≡ asks). ap is_some (ap (ask_at (with_changed_body asks (as_asked ask) bodies)) e
          ∙ ask_here asks ask bodies left))
          (λ (ne : seq ≢ asks). ap is_some (ask_other asks ask bodies seq ne)
          ∙ is.all seq (elim (cases_lt seq asks) [
            | inl lower ↦ lower
            | inr most ↦ absurd (ne (omega (arith, most, less)))
          ]));
    }

row_asked : (items : List Item) (client seq g ask : ℕ) (row : Option Row) (r : Row) → row ≡ Some r
    → r.asked < length r.bodies → r.asked ≡ seq → ask ≡ length (claims items) → IsAskedRow items client row
    → IsAskedRow (items ++ ask_of client seq g ∷ []) client (becomes (after_ask ask) row)
row_asked items client seq g ask None r e left next number is = absurd cc
row_asked items client seq g ask (Some q) r e left next number is =
    (let same : r ≡ q = cc in
    subst (λ (n : ℕ). TellsAsks (items ++ ask_of client n g ∷ []) client (with_changed_body q.asked (as_asked ask) q.bodies)
    (q.asked + 1)) (subst (λ (x : Row). x.asked ≡ seq) same next)
    (tells_one_more items client g ask q.bodies q.asked
    (subst (λ (x : Row). x.asked < length x.bodies) same left) number is))

pub asked_ask : (items : List Item) (rows : List Row) (client seq g ask : ℕ) → ask ≡ length (claims items)
    → (next : HasNext client rows) → next.row.asked ≡ seq → ((c : ℕ) → IsAskedRow items c (row_of c rows))
    → (other : ℕ) → IsAskedRow (items ++ ask_of client seq g ∷ []) other (row_of other (with_ask client ask rows))
asked_ask items rows client seq g ask number next number_is are other =
    let x = ask_of client seq g in
    elim (eqb_tells client other) [
      | inl same ↦ subst (λ (c : ℕ). IsAskedRow (items ++ x ∷ []) c (row_of c (with_ask client ask rows))) same.1
          (subst (IsAskedRow (items ++ x ∷ []) client) (sym (row_changed client (after_ask ask) rows (λ r. refl)))
          (row_asked items client seq g ask (row_of client rows) next.row next.there next.left number_is number
          (are client)))
      | inr apart ↦ subst (IsAskedRow (items ++ x ∷ []) other)
          (sym (row_changed_other client (after_ask ask) other rows (λ r. refl) apart.0))
          (row_still items x other (row_of other rows) (are other))
    ]

-- ---- the Ask of a body

pub is_ask : (items : List Item) (client : ℕ) (bodies : List PlannedBody) (asks seq : ℕ) (found : Option ℕ)
    → TellsAsks items client bodies asks → found ≡ ask_at bodies seq → IfSome found (IsAskAt items client seq)
is_ask items client bodies asks seq None tells is = tt
is_ask items client bodies asks seq (Some ask) tells is = tells.right seq ask (sym is)

pub is_not_asked : (items : List Item) (client : ℕ) (bodies : List PlannedBody) (asks seq : ℕ) (found : Option ℕ)
    → TellsAsks items client bodies asks → asks ≡ asked_count client items → found ≡ ask_at bodies seq
    → IfNone found (asked_count client items ≤ seq)
is_not_asked items client bodies asks seq (Some ask) tells count is = tt
is_not_asked items client bodies asks seq None tells count is = elim (cases_lt seq asks) [
  | inl less ↦ absurd (let there = tells.all seq less in let none : is_some (ask_at bodies seq) ≡ false
      = ap is_some (sym is) in cc)
  | inr most ↦ omega (arith, most, count)
]
