-- What each client left in a record of clients.
use Rattle.std.proofs.Common.{◌≡◌, ℕ, ◌+◌, ◌<◌, ◌≤◌, true, false, ◌==◌, List, [], ◌∷◌, ◌++◌, length, map}
use Rattle.std.proofs.Common.{refl, ap, ◌∙◌, arith, append-nil}
use Rattle.std.specs.Prelude.{is_some}
use Rattle.std.specs.List.{AllByRecursion}
use Rattle.std.proofs.lemmas.Bool.Decides.{nat_tests}
use Rattle.lane_record.specs.declared.outcome.Outcome.{Outcome}
use Rattle.lane_record.specs.declared.item.Item.{Item}
use Rattle.lane_record.specs.Items.{ask_in}
use Rattle.lane_record.specs.Dispatches.{outcomes_in_order, entries_by}
use Rattle.lane_record.specs.Dispatches.{plans_from, all_plans_from}
use Rattle.board_history.specs.Records.{HaveLeft, IsOfClient, IsRecordOf, bodies_planned, entries_beside_plans}
use Rattle.board_history.proofs.Own.{by_append, all_by, none_by, only_by, IsBy}
use Rattle.board_history.proofs.Rans.{Ran, outcomes_ran, ran_items, AreWhole, rans_in}
use Rattle.board_history.proofs.Beside.{all_beside}

-- ---- the Plans of a client

plans_by : (client seq : ℕ) (bodies : List (List ℕ)) → AllByRecursion (IsBy client) (plans_from client seq bodies)
plans_by client seq [] = tt
plans_by client seq (b ∷ bs) = (refl, plans_by client (seq + 1) bs)

pub own_plans : (client seq : ℕ) (bodies : List (List ℕ))
    → entries_by client (plans_from client seq bodies) ≡ plans_from client seq bodies
own_plans client seq bodies = only_by client (plans_from client seq bodies) (plans_by client seq bodies)

plans_not_by : (client other seq : ℕ) (bodies : List (List ℕ)) → (other == client) ≡ false
    → AllByRecursion (λ (x : Item). (x.client == client) ≡ false) (plans_from other seq bodies)
plans_not_by client other seq [] e = tt
plans_not_by client other seq (b ∷ bs) e = (e, plans_not_by client other (seq + 1) bs e)

pub no_plans : (client other seq : ℕ) (bodies : List (List ℕ)) → (other == client) ≡ false
    → entries_by client (plans_from other seq bodies) ≡ []
no_plans client other seq bodies e =
    none_by client (plans_from other seq bodies) (plans_not_by client other seq bodies e)

-- clients from a later number on planned nothing of this one's
pub none_later : (client from : ℕ) (bodies : List (List (List ℕ))) → 1 ≤ client → client < from
    → entries_by client (all_plans_from from bodies) ≡ []
none_later client from [] low h = refl
none_later client from (bs ∷ later) low h =
    let other : (from == client) ≡ false = grind (arith, nat_tests) in
    by_append client (plans_from from 0 bs) (all_plans_from (from + 1) later)
    ∙ ap (λ (xs : List Item). xs ++ entries_by client (all_plans_from (from + 1) later))
    (no_plans client from 0 bs other)
    ∙ none_later client (from + 1) later low (omega arith)

pub own_opening : (client : ℕ) (bodies : List (List ℕ)) (later : List (List (List ℕ))) → 1 ≤ client
    → entries_by client (all_plans_from client (bodies ∷ later)) ≡ plans_from client 0 bodies
own_opening client bodies later low =
    by_append client (plans_from client 0 bodies) (all_plans_from (client + 1) later)
    ∙ ap (λ (xs : List Item). xs ++ entries_by client (all_plans_from (client + 1) later)) (own_plans client 0 bodies)
    ∙ ap (λ (xs : List Item). plans_from client 0 bodies ++ xs)
    (none_later client (client + 1) later low (omega arith))
    ∙ append-nil (plans_from client 0 bodies)

-- ---- each client

-- a client planned its bodies, and its other entries are its dispatches, with an outcome for each body
pub record ClientRan (client : ℕ) (bodies : List (List ℕ)) (dispatches : List (List Outcome)) (items : List Item)
    : Type 0 where
  pub rans : List Ran
  pub whole : AreWhole rans
  pub planned : bodies_planned client items ≡ bodies
  pub entries : entries_beside_plans client items ≡ ran_items client 0 rans
  pub same : dispatches ≡ map outcomes_ran rans
  pub count : length (outcomes_in_order dispatches) ≡ length bodies

abbrev pub AllRan : ℕ → List (List (List ℕ)) → List (List (List Outcome)) → List Item → Type 0
AllRan client [] [] items = Unit {0}
AllRan client [] (os ∷ others) items = ⊥
AllRan client (bs ∷ later) [] items = ⊥
AllRan client (bs ∷ later) (os ∷ others) items = ClientRan client bs os items × AllRan (client + 1) later others items

abbrev pub shape_of : List (List Outcome) → ℕ
shape_of dispatches = length (outcomes_in_order dispatches)

all_ran : (client : ℕ) (bodies : List (List (List ℕ))) (outcomes : List (List (List Outcome))) (items : List Item)
    → HaveLeft client bodies outcomes items → AllRan client bodies outcomes items
all_ran client [] [] items left = tt
all_ran client [] (os ∷ others) items left = absurd left
all_ran client (bs ∷ later) [] items left = absurd left
all_ran client (bs ∷ later) (os ∷ others) items left =
    let ran = rans_in client 0 os (entries_beside_plans client items)
    (all_beside (IsBy client) (entries_by client items) (all_by client items)) left.0.did in (
      record {
        rans = ran.rans;
        whole = ran.whole;
        planned = left.0.planned;
        entries = ran.items;
        same = ran.same;
        count = left.0.count;
      },
      all_ran (client + 1) later others items left.1,
    )

pub each_ran : (bodies : List (List (List ℕ))) (outcomes : List (List (List Outcome))) (items : List Item)
    → IsRecordOf bodies outcomes items → AllRan 1 bodies outcomes items
each_ran bodies outcomes items is = all_ran 1 bodies outcomes items is.each

pub same_shape : (client : ℕ) (bodies : List (List (List ℕ))) (outcomes : List (List (List Outcome)))
    (items : List Item) → HaveLeft client bodies outcomes items → map shape_of outcomes ≡ map length bodies
same_shape client [] [] items left = refl
same_shape client [] (os ∷ others) items left = absurd left
same_shape client (bs ∷ later) [] items left = absurd left
same_shape client (bs ∷ later) (os ∷ others) items left =
    ap (λ (n : ℕ). n ∷ map shape_of others) left.0.count
    ∙ ap (λ (ns : List ℕ). length bs ∷ ns) (same_shape (client + 1) later others items left.1)

-- ---- nobody else asked

abbrev pub IsAskWithin : ℕ → Item → Type 0
IsAskWithin many x = is_some (ask_in x.what) ≡ true → IsOfClient many x
