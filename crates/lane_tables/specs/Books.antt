-- The record of a lane as it grows: the entries with their contents, and the bodies of each client by number. The
-- calls of `Book` speak of the entries; the rows are how the code finds them. Profile.
use Rattle.std.specs.Prelude.{◌≡◌, ℕ, zero, suc, ◌+◌, ◌-◌, ◌≤◌, ◌<◌, ◌==◌, min, Bool, false, true, if◌then◌else◌}
use Rattle.std.specs.Prelude.{List, [], ◌∷◌, ◌++◌}
use Rattle.std.specs.Prelude.{length}
use Rattle.std.specs.Prelude.{Option, Some, None, is_some}
use Rattle.std.specs.List.{slice_get}
use Rattle.lane_record.specs.declared.item.Item.{Item}
use Rattle.lane_record.specs.Claims.{claims}
use Rattle.lane_record.specs.Items.{asked_count, told_by_first, is_sealed, numbers, plan_in, planned_count, took_in}
use Rattle.lane_record.specs.Lists.{CountsFrom}
use Rattle.lane_tables.specs.declared.rows.PlannedBody.{PlannedBody}
use Rattle.lane_tables.specs.Taken.{IsAskAt}
use Rattle.lane_tables.specs.Planned.{most_bodies, most_words, planned_bodies, planned_words}

-- the entries of a record, and how many more there is room for
pub record BookState : Type 0 where
  pub items : List Item
  pub room : ℕ

-- ---- the bodies of a client

-- a body of these words that was planned; the same once it was asked, and once what became of it was taken
abbrev pub just_planned : List ℕ → PlannedBody
just_planned words = record { words = words; ask = None; is_taken = false }

abbrev pub as_asked : ℕ → PlannedBody → PlannedBody
as_asked ask body = record { words = body.words; ask = Some ask; is_taken = body.is_taken }

abbrev pub as_taken : PlannedBody → PlannedBody
as_taken body = record { words = body.words; ask = body.ask; is_taken = true }

-- the body of this number becomes another
abbrev pub with_changed_body : ℕ → (PlannedBody → PlannedBody) → List PlannedBody → List PlannedBody
with_changed_body k change [] = []
with_changed_body zero change (b ∷ bs) = change b ∷ bs
with_changed_body (suc k) change (b ∷ bs) = b ∷ with_changed_body k change bs

-- the number of its Ask
abbrev pub ask_of_body : Option PlannedBody → Option ℕ
ask_of_body None = None
ask_of_body (Some body) = body.ask

abbrev pub ask_at : List PlannedBody → ℕ → Option ℕ
ask_at bodies n = ask_of_body (slice_get bodies n)

-- whether the body of this number was taken
abbrev pub is_marked : List PlannedBody → ℕ → Bool
is_marked [] n = false
is_marked (b ∷ bs) zero = b.is_taken
is_marked (b ∷ bs) (suc n) = is_marked bs n

-- So many were asked. All below the other number were taken, and the body of that number was not, if it was asked; of
-- the asked ones behind it nothing is said. None that was not asked was taken.
pub record IsFirstUntaken (bodies : List PlannedBody) (asked taken : ℕ) : Type 0 where
  pub few : asked ≤ length bodies
  pub within : taken ≤ asked
  pub below : (n : ℕ) → n < taken → is_marked bodies n ≡ true
  pub stops : taken < asked → is_marked bodies taken ≡ false
  pub later : (n : ℕ) → asked ≤ n → is_marked bodies n ≡ false

-- the bodies of a client, by number, and how many were asked
pub record Row : Type 0 where
  pub client : ℕ
  pub bodies : List PlannedBody
  pub asked : ℕ

-- a row with one Plan, and with one more Plan, the Ask of this number, or a Took
abbrev pub first_row : ℕ → List ℕ → Row
first_row client words = record { client = client; bodies = just_planned words ∷ []; asked = 0 }

abbrev pub after_plan : List ℕ → Row → Row
after_plan words r = record { client = r.client; bodies = r.bodies ++ just_planned words ∷ []; asked = r.asked }

abbrev pub after_ask : ℕ → Row → Row
after_ask ask r = record {
  client = r.client;
  bodies = with_changed_body r.asked (as_asked ask) r.bodies;
  asked = r.asked + 1;
}

abbrev pub after_took : ℕ → Row → Row
after_took seq r = record { client = r.client; bodies = with_changed_body seq as_taken r.bodies; asked = r.asked }

-- ---- the rows of all clients

-- the row of a client
abbrev pub row_of : ℕ → List Row → Option Row
row_of client [] = None
row_of client (r ∷ rs) = if r.client == client then Some r else row_of client rs

-- where it stands among the rows
abbrev pub one_later : Option ℕ → Option ℕ
one_later None = None
one_later (Some at) = Some (at + 1)

abbrev pub row_at : ℕ → List Row → Option ℕ
row_at client [] = None
row_at client (r ∷ rs) = if r.client == client then Some 0 else one_later (row_at client rs)

abbrev pub later_by : ℕ → Option ℕ → Option ℕ
later_by n None = None
later_by n (Some at) = Some (n + at)

-- the words of the next body that was not asked
abbrev pub words_of : Option PlannedBody → Option (List ℕ)
words_of None = None
words_of (Some body) = Some body.words

abbrev pub next_in : Row → Option (List ℕ)
next_in r = words_of (slice_get r.bodies r.asked)

-- the row of a client becomes another
abbrev pub with_changed_row : ℕ → (Row → Row) → List Row → List Row
with_changed_row client change [] = []
with_changed_row client change (r ∷ rs) = if r.client == client then change r ∷ rs else r ∷ with_changed_row client change rs

-- one more Plan of a client, of a body of these words
abbrev pub with_plan : ℕ → List ℕ → List Row → List Row
with_plan client words [] = first_row client words ∷ []
with_plan client words (r ∷ rs) =
    if r.client == client then after_plan words r ∷ rs else r ∷ with_plan client words rs

-- one more Ask of a client, under this number
abbrev pub with_ask : ℕ → ℕ → List Row → List Row
with_ask client ask rows = with_changed_row client (after_ask ask) rows

-- one more Took of a client
abbrev pub with_took : ℕ → ℕ → List Row → List Row
with_took client seq rows = with_changed_row client (after_took seq) rows

-- a client asked its body of this number
pub record HasAsked (client seq : ℕ) (rows : List Row) : Type 0 where
  pub row : Row
  pub there : row_of client rows ≡ Some row
  pub is_asked : seq < row.asked

-- a client has a Plan that was not asked
pub record HasNext (client : ℕ) (rows : List Row) : Type 0 where
  pub row : Row
  pub there : row_of client rows ≡ Some row
  pub left : row.asked < length row.bodies

-- ---- what the rows tell of the entries

-- a row tells the bodies of its client, and where there is no row there are none
pub record TellsBodies (items : List Item) (client : ℕ) (bodies : List PlannedBody) (asks : ℕ) : Type 0 where
  pub planned_are : length bodies ≡ planned_count client items
  pub asked_are : asks ≡ asked_count client items
  pub no_more : asks ≤ length bodies
  pub words_are : (seq : ℕ) (body : PlannedBody) → slice_get bodies seq ≡ Some body
      → told_by_first plan_in client seq items ≡ Some body.words

abbrev pub IsRow : List Item → ℕ → Option Row → Type 0
IsRow items client None = TellsBodies items client [] 0
IsRow items client (Some r) = TellsBodies items client r.bodies r.asked

-- what a row tells of the Asks of its client, and where there is no row there are none
pub record TellsAsks (items : List Item) (client : ℕ) (bodies : List PlannedBody) (asks : ℕ) : Type 0 where
  pub right : (seq ask : ℕ) → ask_at bodies seq ≡ Some ask → IsAskAt items client seq ask
  pub all : (seq : ℕ) → seq < asks → is_some (ask_at bodies seq) ≡ true

abbrev pub IsAskedRow : List Item → ℕ → Option Row → Type 0
IsAskedRow items client None = TellsAsks items client [] 0
IsAskedRow items client (Some r) = TellsAsks items client r.bodies r.asked

-- what a row tells of the bodies that its client took, and where there is no row none was taken
pub record TellsTaken (items : List Item) (client : ℕ) (bodies : List PlannedBody) (asks : ℕ) : Type 0 where
  pub marks : (n : ℕ) → is_some (told_by_first took_in client n items) ≡ is_marked bodies n
  pub later : (n : ℕ) → asks ≤ n → told_by_first took_in client n items ≡ None

abbrev pub IsTakenRow : List Item → ℕ → Option Row → Type 0
IsTakenRow items client None = TellsTaken items client [] 0
IsTakenRow items client (Some r) = TellsTaken items client r.bodies r.asked

-- a client has a body that was planned and not asked
pub record HasMorePlans (client : ℕ) (items : List Item) : Type 0 where
  pub body : List ℕ
  pub there : told_by_first plan_in client (asked_count client items) items ≡ Some body

-- how many more items and entries there is room for
abbrev pub room_of : ℕ → ℕ → ℕ → ℕ → ℕ
room_of items items_len entries entries_len = min (items - items_len) (entries - entries_len)

-- the tables are those of the entries; there is always room for the Seal
pub record IsBook (book : BookState) (rows : List Row) (asks bodies words : ℕ) (closed : Bool) : Type 0 where
  pub plans_count : (client : ℕ) → CountsFrom 0 (numbers plan_in client book.items)
  pub rows_are : (client : ℕ) → IsRow book.items client (row_of client rows)
  pub asked_are : (client : ℕ) → IsAskedRow book.items client (row_of client rows)
  pub taken_are : (client : ℕ) → IsTakenRow book.items client (row_of client rows)
  pub asks_are : asks ≡ length (claims book.items)
  pub bodies_are : bodies ≡ planned_bodies book.items
  pub words_are : words ≡ planned_words book.items
  pub closed_is : closed ≡ is_sealed book.items
  pub few_bodies : bodies ≤ most_bodies
  pub few_words : words ≤ most_words
  pub seal_fits : is_sealed book.items ≡ false → 1 ≤ book.room
