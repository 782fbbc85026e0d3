-- The Plan of a number is the body of that number among those that a client planned.
use Rattle.std.proofs.Common.{◌≡◌, ℕ, suc, ◌+◌, Bool, true, false, ◌==◌, ◌&&◌, List, [], ◌∷◌}
use Rattle.std.proofs.Common.{Option, Some, None, refl, sym, ap, ◌∙◌, subst, arith, if◌then◌else◌}
use Rattle.std.specs.Prelude.{is_some}
use Rattle.std.specs.List.{AllByRecursion, cons_option, filter_map, slice_get}
use Rattle.std.specs.Option.{option_or}
use Rattle.std.proofs.lemmas.Bool.{eq-eqb}
use Rattle.std.proofs.lemmas.Bool.Decides.{nat_tests}
use Rattle.lane_record.specs.declared.item.Item.{Item}
use Rattle.lane_record.specs.Lists.{CountsFrom}
use Rattle.lane_record.specs.Items.{plan_in, numbers, told_by_first, is_of}
use Rattle.lane_record.specs.Dispatches.{entries_by}
use Rattle.board_history.specs.Records.{planned_in, bodies_planned}
use Rattle.board_history.proofs.Own.{IsBy, all_by, own_found, own_numbers}

pub record IsPlannedAt (k seq : ℕ) (bodies : List (List ℕ)) (body : List ℕ) : Type 0 where
  pub j : ℕ
  pub number : seq ≡ k + j
  pub there : slice_get bodies j ≡ Some body

-- behind the Plan of number k
planned_behind : (k seq : ℕ) (first : List ℕ) (bodies : List (List ℕ)) (body : List ℕ)
    → IsPlannedAt (k + 1) seq bodies body → IsPlannedAt k seq (first ∷ bodies) body
planned_behind k seq first bodies body is =
    record { j = suc is.j; number = omega (arith, is.number); there = is.there }

planned_here : (client k seq : ℕ) (x : Item) (b body : List ℕ) (xs : List Item) (bodies : List (List ℕ))
    → x.seq ≡ k → option_or (if is_of client seq x then Some b else None) (told_by_first plan_in client seq xs) ≡ Some body
    → (told_by_first plan_in client seq xs ≡ Some body → IsPlannedAt (k + 1) seq bodies body)
    → IsPlannedAt k seq (b ∷ bodies) body
planned_here client k seq x b body xs bodies e f later = elim (is_of client seq x) as
    (λ t. is_of client seq x ≡ t → option_or (if t then Some b else None) (told_by_first plan_in client seq xs) ≡ Some body
    → IsPlannedAt k seq (b ∷ bodies) body) [
      | true ↦ λ is g.
          let same : b ≡ body = cc in
          record {
            j = 0;
            number = grind (arith, nat_tests, is, e);
            there = ap (λ (z : List ℕ). Some z) same;
          }
      | false ↦ λ is g. planned_behind k seq b bodies body (later g)
    ] refl f

skip_none : (b : Bool) (o : Option (List ℕ)) (body : List ℕ) → option_or (if b then None else None) o ≡ Some body
    → o ≡ Some body
skip_none true o body e = e
skip_none false o body e = e

no_plan_first : (client : ℕ) (x : Item) (ns : List ℕ)
    → (if (x.client == client) && false then x.seq ∷ ns else ns) ≡ ns
no_plan_first client x ns = elim (x.client == client) as (λ b. (if b && false then x.seq ∷ ns else ns) ≡ ns) [
  | true ↦ refl
  | false ↦ refl
]

planned_at : (client k seq : ℕ) (body : List ℕ) (xs : List Item) → AllByRecursion (IsBy client) xs
    → CountsFrom k (numbers plan_in client xs) → told_by_first plan_in client seq xs ≡ Some body
    → IsPlannedAt k seq (filter_map planned_in xs) body
planned_at client k seq body [] by counts f = absurd cc
planned_at client k seq body (x ∷ xs) by counts f =
    let own : (x.client == client) ≡ true = eq-eqb x.client client by.0 in
    elim (plan_in x.what) as
    (λ o. CountsFrom k (if (x.client == client) && is_some o then x.seq ∷ numbers plan_in client xs
    else numbers plan_in client xs)
    → option_or (if is_of client seq x then o else None) (told_by_first plan_in client seq xs) ≡ Some body
    → IsPlannedAt k seq (cons_option o (filter_map planned_in xs)) body) [
      | None ↦ λ c g. planned_at client k seq body xs by.1
          (subst (CountsFrom k) (no_plan_first client x (numbers plan_in client xs)) c)
          (skip_none (is_of client seq x) (told_by_first plan_in client seq xs) body g)
      | Some b ↦ λ c g.
          let counted : CountsFrom k (x.seq ∷ numbers plan_in client xs) = rw own at c in
          planned_here client k seq x b body xs (filter_map planned_in xs) counted.0 g
          (λ h. planned_at client (k + 1) seq body xs by.1 counted.1 h)
    ] counts f

pub plan_at : (client seq : ℕ) (body : List ℕ) (items : List Item) → CountsFrom 0 (numbers plan_in client items)
    → told_by_first plan_in client seq items ≡ Some body → slice_get (bodies_planned client items) seq ≡ Some body
plan_at client seq body items counts f =
    let at = planned_at client 0 seq body (entries_by client items) (all_by client items)
    (subst (CountsFrom 0) (own_numbers plan_in client items) counts) (sym (own_found plan_in client seq items) ∙ f) in
    let same : at.j ≡ seq = omega (arith, at.number) in
    subst (λ (n : ℕ). slice_get (bodies_planned client items) n ≡ Some body) same at.there
