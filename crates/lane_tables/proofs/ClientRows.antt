-- The rows of clients, looked up and changed.
use Rattle.std.proofs.Common.{◌≡◌, ℕ, suc, ◌+◌, ◌<◌, true, false, cond, ◌==◌, List, [], ◌∷◌, ◌++◌, length}
use Rattle.std.proofs.Common.{Option, Some, None, refl, sym, ap, ◌∙◌, arith, set}
use Rattle.std.specs.List.{slice_get}
use Rattle.std.specs.Prelude.{OnOk, Result, Ok, Err}
use Rattle.std.proofs.lemmas.Bool.{eqb-true, eq-eqb}
use Rattle.lane_tables.specs.Books.{Row, after_plan, with_changed_row, first_row, one_later, row_at, row_of, with_plan}

-- the first row of a client stands there
pub record IsFirstAt (client : ℕ) (rows : List Row) (at : ℕ) : Type 0 where
  pub row : Row
  pub there : slice_get rows at ≡ Some row
  pub mine : row_of client rows ≡ Some row
  pub client_is : row.client ≡ client
  pub within : at < length rows

later_is : (r : Option ℕ) (at : ℕ) → one_later r ≡ Some at → (k : ℕ) × (r ≡ Some k) × (at ≡ k + 1)
later_is None at is = absurd cc
later_is (Some k) at is = (k, refl, cc)

pub found_at : (client : ℕ) (rows : List Row) (at : ℕ) → row_at client rows ≡ Some at → IsFirstAt client rows at
found_at client [] at is = absurd cc
found_at client (r ∷ rs) at is = elim (r.client == client)
    as (λ b. (r.client == client) ≡ b → cond b (Some 0) (one_later (row_at client rs)) ≡ Some at
    → IsFirstAt client (r ∷ rs) at) [
      | true ↦ λ same e. (let zero_is : at ≡ 0 = cc in rw zero_is (record {
        row = r;
        there = refl;
        mine = rw same refl;
        client_is = eqb-true _ _ same;
        within = omega arith;
      }))
      | false ↦ λ other e.
          let later = later_is (row_at client rs) at e in
          let rest = found_at client rs later.0 later.1 in
          let next : at ≡ suc later.0 = (let h = later.2 in omega (arith, h)) in
          rw next (record {
            row = rest.row;
            there = rest.there;
            mine = rw other rest.mine;
            client_is = rest.client_is;
            within = (let h = rest.within in omega (arith, h));
          })
    ] refl is

none_later : (r : Option ℕ) → one_later r ≡ None → r ≡ None
none_later None is = refl
none_later (Some at) is = absurd cc

pub no_row : (client : ℕ) (rows : List Row) → row_at client rows ≡ None → row_of client rows ≡ None
no_row client [] is = refl
no_row client (r ∷ rs) is = elim (r.client == client)
    as (λ b. cond b (Some 0) (one_later (row_at client rs)) ≡ None → cond b (Some r) (row_of client rs) ≡ None) [
      | true ↦ λ e. absurd cc
      | false ↦ λ e. no_row client rs (none_later (row_at client rs) e)
    ] is

-- ---- a row is changed where it stands

pub set_changed : (client : ℕ) (change : Row → Row) (rows : List Row) (at : ℕ) → row_at client rows ≡ Some at
    → (row : Row) → slice_get rows at ≡ Some row → set rows at (change row) ≡ with_changed_row client change rows
set_changed client change [] at is row there = absurd cc
set_changed client change (r ∷ rs) at is row there = elim (r.client == client)
    as (λ b. cond b (Some 0) (one_later (row_at client rs)) ≡ Some at
    → set (r ∷ rs) at (change row) ≡ cond b (change r ∷ rs) (r ∷ with_changed_row client change rs)) [
      | true ↦ λ e.
          let zero_is : at ≡ 0 = cc in
          let here : slice_get (r ∷ rs) 0 ≡ Some row = ap (slice_get (r ∷ rs)) (sym zero_is) ∙ there in
          let same : r ≡ row = cc in
          rw zero_is (ap (λ (x : Row). change x ∷ rs) (sym same))
      | false ↦ λ e.
          let later = later_is (row_at client rs) at e in
          let next : at ≡ suc later.0 = (let h = later.2 in omega (arith, h)) in
          let here : slice_get rs later.0 ≡ Some row = ap (slice_get (r ∷ rs)) (sym next) ∙ there in
          rw next (ap (λ (xs : List Row). r ∷ xs) (set_changed client change rs later.0 later.1 row here))
    ] is

pub plan_changed : (client : ℕ) (words : List ℕ) (rows : List Row) (at : ℕ) → row_at client rows ≡ Some at
    → with_plan client words rows ≡ with_changed_row client (after_plan words) rows
plan_changed client words [] at is = absurd cc
plan_changed client words (r ∷ rs) at is = elim (r.client == client)
    as (λ b. cond b (Some 0) (one_later (row_at client rs)) ≡ Some at
    → cond b (after_plan words r ∷ rs) (r ∷ with_plan client words rs)
    ≡ cond b (after_plan words r ∷ rs) (r ∷ with_changed_row client (after_plan words) rs)) [
      | true ↦ λ e. refl
      | false ↦ λ e. let later = later_is (row_at client rs) at e in
          ap (λ (xs : List Row). r ∷ xs) (plan_changed client words rs later.0 later.1)
    ] is

pub first_plan : (client : ℕ) (words : List ℕ) (rows : List Row) → row_at client rows ≡ None
    → with_plan client words rows ≡ rows ++ first_row client words ∷ []
first_plan client words [] is = refl
first_plan client words (r ∷ rs) is = elim (r.client == client)
    as (λ b. cond b (Some 0) (one_later (row_at client rs)) ≡ None
    → cond b (after_plan words r ∷ rs) (r ∷ with_plan client words rs)
    ≡ r ∷ (rs ++ first_row client words ∷ [])) [
      | true ↦ λ e. absurd cc
      | false ↦ λ e. ap (λ (xs : List Row). r ∷ xs) (first_plan client words rs (none_later (row_at client rs) e))
    ] is

pub on_ok : {E : Type 0} {P Q : Type 0} (r : Result (Unit {0}) E) → (P → Q) → OnOk r P → OnOk r Q
on_ok (Ok x) f is = f is
on_ok (Err e) f is = tt

pub none_of : (r : Option ℕ) → ((x : ℕ) → r ≡ Some x → ⊥) → r ≡ None
none_of None not_some = refl
none_of (Some x) not_some = absurd (not_some x refl)

-- ---- the row of a client after a change

abbrev pub becomes : (Row → Row) → Option Row → Option Row
becomes change None = None
becomes change (Some r) = Some (change r)

pub row_changed : (client : ℕ) (change : Row → Row) (rows : List Row) → ((r : Row) → (change r).client ≡ r.client)
    → row_of client (with_changed_row client change rows) ≡ becomes change (row_of client rows)
row_changed client change [] keeps = refl
row_changed client change (r ∷ rs) keeps = elim (r.client == client)
    as (λ b. (r.client == client) ≡ b
    → row_of client (cond b (change r ∷ rs) (r ∷ with_changed_row client change rs))
    ≡ becomes change (cond b (Some r) (row_of client rs))) [
      | true ↦ λ same. (let e : ((change r).client == client) ≡ true = ap (λ (n : ℕ). n == client) (keeps r) ∙ same in
          rw e refl)
      | false ↦ λ other. rw other (row_changed client change rs keeps)
    ] refl

pub row_changed_other : (client : ℕ) (change : Row → Row) (other : ℕ) (rows : List Row)
    → ((r : Row) → (change r).client ≡ r.client) → (client == other) ≡ false
    → row_of other (with_changed_row client change rows) ≡ row_of other rows
row_changed_other client change other [] keeps apart = refl
row_changed_other client change other (r ∷ rs) keeps apart = elim (r.client == client)
    as (λ b. (r.client == client) ≡ b
    → row_of other (cond b (change r ∷ rs) (r ∷ with_changed_row client change rs)) ≡ row_of other (r ∷ rs)) [
      | true ↦ λ same. (
          let e : (r.client == other) ≡ false = ap (λ (n : ℕ). n == other) (eqb-true _ _ same) ∙ apart in
          let f : ((change r).client == other) ≡ false = ap (λ (n : ℕ). n == other) (keeps r) ∙ e in
          rw (e, f) refl)
      | false ↦ λ _. ap (λ (rest : Option Row). cond (r.client == other) (Some r) rest)
          (row_changed_other client change other rs keeps apart)
    ] refl

abbrev pub grown : ℕ → List ℕ → Option Row → Row
grown client words None = first_row client words
grown client words (Some r) = after_plan words r

pub row_planned : (client : ℕ) (words : List ℕ) (rows : List Row)
    → row_of client (with_plan client words rows) ≡ Some (grown client words (row_of client rows))
row_planned client words [] = let same = eq-eqb client client refl in rw same refl
row_planned client words (r ∷ rs) = elim (r.client == client)
    as (λ b. (r.client == client) ≡ b
    → row_of client (cond b (after_plan words r ∷ rs) (r ∷ with_plan client words rs))
    ≡ Some (grown client words (cond b (Some r) (row_of client rs)))) [
      | true ↦ λ same. rw same refl
      | false ↦ λ other. rw other (row_planned client words rs)
    ] refl

pub row_planned_other : (client : ℕ) (words : List ℕ) (other : ℕ) (rows : List Row) → (client == other) ≡ false
    → row_of other (with_plan client words rows) ≡ row_of other rows
row_planned_other client words other [] apart = rw apart refl
row_planned_other client words other (r ∷ rs) apart = elim (r.client == client)
    as (λ b. (r.client == client) ≡ b
    → row_of other (cond b (after_plan words r ∷ rs) (r ∷ with_plan client words rs))
    ≡ row_of other (r ∷ rs)) [
      | true ↦ λ same. (let e : (r.client == other) ≡ false = ap (λ (n : ℕ). n == other) (eqb-true _ _ same) ∙ apart in
          rw e refl)
      | false ↦ λ _. ap (λ (rest : Option Row). cond (r.client == other) (Some r) rest)
          (row_planned_other client words other rs apart)
    ] refl
