-- What contracts see of seats, and of the master who makes them. Profile.
use Rattle.std.specs.Prelude.{◌≡◌, ℕ, false, List, [], ◌∷◌, map, Some}
use Rattle.std.specs.List.{slice_get, slice_set}
use Rattle.turn_pass.specs.Pass.{Knowledge, PassState, TurnId, newcomer, one_more_made, taking_in}

-- the turn that each pass is of, and what each knows
abbrev pub turns_of : List PassState → List TurnId
turns_of passes = map (λ pass. pass.turn) passes

abbrev pub knows_of : List PassState → List Knowledge
knows_of passes = map (λ pass. pass.knows) passes

-- a pass that holds nothing, of this number
pub record IsIdle (n : ℕ) (pass : PassState) : Type 0 where
  pub holds_nothing : pass.holds ≡ false
  pub has_number : pass.knows.number ≡ n

-- a first pass that holds nothing, after so many passes were made
pub record IsFirst (made : ℕ) (pass : PassState) : Type 0 where
  pub idle : IsIdle 0 pass
  pub has_made : pass.knows.made ≡ made

-- the first pass of a board after one more was made, and the one that was made
abbrev pub after_split : PassState → PassState
after_split pass = record pass { knows = one_more_made pass.knows }

abbrev pub split_off : PassState → PassState
split_off pass = record pass { knows = newcomer pass.knows }

-- the first passes after they took in those of a seat, board by board
abbrev pub after_join : List PassState → List PassState → List PassState
after_join [] others = []
after_join (pass ∷ passes) [] = pass ∷ passes
after_join (pass ∷ passes) (other ∷ others) =
    record pass { knows = taking_in pass.knows other.knows } ∷ after_join passes others

-- A seat: its client, the turns that its passes are of, board by board, and what each pass knows.
pub record SeatState : Type 0 where
  pub client : ℕ
  pub turns : List TurnId
  pub knows : List Knowledge

-- The master: how many seats were made, the turns of all boards and the turn of the room, and what the first pass of
-- each board knows.
pub record MasterState : Type 0 where
  pub seats : ℕ
  pub turns : List TurnId
  pub room : TurnId
  pub knows : List Knowledge

-- A hub: the turns of all boards, and the turn of the room for handing the lanes back.
pub record HubState : Type 0 where
  pub turns : List TurnId
  pub room : TurnId

-- a seat, and a master, of this hub
abbrev pub IsSeatOf : HubState → SeatState → Type 0
IsSeatOf hub seat = seat.turns ≡ hub.turns

abbrev pub IsMasterOf : HubState → MasterState → Type 0
IsMasterOf hub master = (master.turns ≡ hub.turns) × (master.room ≡ hub.room)

-- a call on one board changed what the seat knows of it so, and nothing else
pub record ChangesAt (board : ℕ) (old new : SeatState) (P : Knowledge → Knowledge → Type 0) : Type 0 where
  pub before : Knowledge
  pub after : Knowledge
  pub there : slice_get old.knows board ≡ Some before
  pub becomes : new ≡ record old { knows = slice_set old.knows board after }
  pub relation : P before after

-- what the first passes know after they took in those of a seat, board by board
abbrev pub knows_after_join : List Knowledge → List Knowledge → List Knowledge
knows_after_join [] others = []
knows_after_join (k ∷ ks) [] = k ∷ ks
knows_after_join (k ∷ ks) (other ∷ others) = taking_in k other ∷ knows_after_join ks others
