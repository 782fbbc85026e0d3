-- The numbers of a client in a record, with one more entry.
use Rattle.std.proofs.Common.{◌≡◌, ℕ, ◌+◌, Bool, true, false, cond, ◌==◌, ◌&&◌, List, [], ◌∷◌, ◌++◌, length, Option}
use Rattle.std.proofs.Common.{None, refl, ap, ◌∙◌, arith, length-append}
use Rattle.std.specs.Prelude.{is_some}
use Rattle.std.proofs.lemmas.Bool.{eqb-true}
use Rattle.std.proofs.Math.Bool.{and-false}
use Rattle.lane_record.specs.declared.item.Item.{Item}
use Rattle.lane_record.specs.declared.item.What.{What}
use Rattle.lane_record.specs.Items.{numbers}
use Rattle.lane_record.proofs.Lookups.{numbers_append}

pub one_number : {A : Type 0} (kind : What → Option A) (client : ℕ) (items : List Item) (x : Item)
    → length (numbers kind client (items ++ x ∷ []))
    ≡ length (numbers kind client items) + cond ((x.client == client) && is_some (kind x.what)) 1 0
one_number kind client items x =
    ap (λ (ns : List ℕ). length ns) (numbers_append kind client items (x ∷ []))
    ∙ (length-append (numbers kind client items) (numbers kind client (x ∷ []))
    ∙ ap (λ (n : ℕ). length (numbers kind client items) + n)
    (elim ((x.client == client) && is_some (kind x.what))
    as (λ b. length (cond b (x.seq ∷ []) []) ≡ cond b 1 0) [ true ↦ refl | false ↦ refl ]))

pub same_number : {A : Type 0} (kind : What → Option A) (client : ℕ) (items : List Item) (x : Item) → kind x.what ≡ None
    → length (numbers kind client (items ++ x ∷ [])) ≡ length (numbers kind client items)
same_number kind client items x none =
    let told : is_some (kind x.what) ≡ false = ap is_some none in
    let n = one_number kind client items x in
    let off : ◌≡◌ {A = ℕ} (cond ((x.client == client) && is_some (kind x.what)) 1 0) 0 =
    ap (λ (b : Bool). cond ((x.client == client) && b) 1 0) told
    ∙ ap (λ (b : Bool). cond b 1 0) (and-false (x.client == client)) in
    omega (arith, n, off)

pub of_client : (client other : ℕ) → (client == other) ≡ true → client ≡ other
of_client client other same = eqb-true client other same
