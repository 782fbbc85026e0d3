-- When a client has done all, and when all clients have.
use Rattle.std.proofs.Common.{◌≡◌, ◌<◌, ◌∙◌, ℕ, ◌+◌, List, Option, Some, None, refl, sym, ap, subst}
use Rattle.std.proofs.Common.{arith, length, inl, inr}
use Rattle.std.proofs.lemmas.Bool.{cases_lt}
use Rattle.std.specs.List.{slice_get}
use Rattle.lane_record.specs.declared.item.Item.{Item}
use Rattle.lane_tables.specs.Books.{IsRow, Row, row_at, row_of}
use Rattle.lane_tables.specs.Taken.{HasDoneAll, IsAllTaken, IsOldest}
use Rattle.lane_tables.proofs.ClientRows.{found_at, no_row}

pub never_done : (items : List Item) (client seq : ℕ) → IsOldest items client seq → HasDoneAll items client → ⊥
never_done items client seq oldest done =
    let taken = done.taken seq oldest.is_asked in
    let left = oldest.untaken in
    cc

-- all clients that have a row have done all, below this number of rows
abbrev pub HaveDoneAll : List Item → List Row → ℕ → Type 0
HaveDoneAll items rows most = (at : ℕ) (row : Row) → at < most → slice_get rows at ≡ Some row
    → HasDoneAll items row.client

no_more : (items : List Item) (client : ℕ) → IsRow items client None → HasDoneAll items client
no_more items client is = record {
  asked = sym is.asked_are ∙ is.planned_are;
  taken = λ n less. (let none = is.asked_are in absurd (omega (arith, less, none)));
}

pub all_done : (items : List Item) (rows : List Row) (most : ℕ) → most ≡ length rows
    → ((client : ℕ) → IsRow items client (row_of client rows)) → HaveDoneAll items rows most → IsAllTaken items
all_done items rows most all rows_are done client = elim (row_at client rows)
    as (λ (o : Option ℕ). row_at client rows ≡ o → HasDoneAll items client) [
      | None ↦ λ is. no_more items client (subst (IsRow items client) (no_row client rows is) (rows_are client))
      | Some at ↦ λ is.
          let found = found_at client rows at is in
          let within = found.within in
          subst (HasDoneAll items) found.client_is (done at found.row (omega (arith, within, all)) found.there)
    ] refl

pub one_more_done : (items : List Item) (rows : List Row) (most : ℕ) (here : Row) → slice_get rows most ≡ Some here
    → HasDoneAll items here.client → HaveDoneAll items rows most → HaveDoneAll items rows (most + 1)
one_more_done items rows most here there done before at row less is = elim (cases_lt at most) [
  | inl lower ↦ before at row lower is
  | inr past ↦
      let last : at ≡ most = omega (arith, less, past) in
      let same : row ≡ here = (let one = ap (slice_get rows) (sym last) ∙ is in let e = sym one ∙ there in cc) in
      rw same done
]
