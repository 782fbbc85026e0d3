-- The bodies that were asked, in the order in which they were asked. Profile.
use Rattle.std.specs.Prelude.{◌≡◌, ℕ, List, [], ◌∷◌, ◌++◌, map, Option, Some, None}
use Rattle.std.specs.List.{slice_get, AllByRecursion}
use Rattle.std.specs.Option.{unwrap_or}
use Rattle.lane_record.specs.declared.outcome.Outcome.{Outcome}
use Rattle.lane_record.specs.declared.item.Item.{Item}
use Rattle.lane_record.specs.Items.{plan_in, ask_in, took_in, told_by_first}

-- An asked body: whose it is, its number among the client's, how many times the lane had given up when it was asked,
-- and its words, which are those of its Plan. In a legal record each Ask has its Plan.
pub record Claim : Type 0 where
  pub client : ℕ
  pub seq : ℕ
  pub give_ups : ℕ
  pub body : List ℕ

-- what one more entry behind others asks
abbrev pub claim_in : List Item → Item → Option ℕ → List Claim
claim_in front x None = []
claim_in front x (Some give_ups) =
    record {
      client = x.client;
      seq = x.seq;
      give_ups = give_ups;
      body = unwrap_or (told_by_first plan_in x.client x.seq front) [];
    } ∷ []

abbrev pub claims_behind : List Item → List Item → List Claim
claims_behind front [] = []
claims_behind front (x ∷ xs) = claim_in front x (ask_in x.what) ++ claims_behind (front ++ x ∷ []) xs

-- The Asks of a record, in order. The first has number 0.
abbrev pub claims : List Item → List Claim
claims items = claims_behind [] items

-- the Ask of this number is that of this client's body
pub record IsAskOf (items : List Item) (k client seq : ℕ) (claim : Claim) : Type 0 where
  pub there : slice_get (claims items) k ≡ Some claim
  pub same_client : claim.client ≡ client
  pub same_seq : claim.seq ≡ seq

-- what a client took for an asked body
abbrev pub outcome_taken : List Item → Claim → Option Outcome
outcome_taken items claim = told_by_first took_in claim.client claim.seq items

-- what was taken for each Ask, in order
abbrev pub taken_outcomes : List Item → List (Option Outcome)
taken_outcomes items = map (outcome_taken items) (claims items)

abbrev pub IsTaken : List Item → Claim → Type 0
IsTaken items claim = (outcome : Outcome) × (outcome_taken items claim ≡ Some outcome)

-- every Ask has its Took
abbrev pub IsFinished : List Item → Type 0
IsFinished items = AllByRecursion (IsTaken items) (claims items)
