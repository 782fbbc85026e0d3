-- Which bodies of a client were asked, and which were taken. Profile.
use Rattle.std.specs.Prelude.{◌≡◌, ℕ, ◌<◌, true, None, is_some, List}
use Rattle.lane_record.specs.declared.item.Item.{Item}
use Rattle.lane_record.specs.Claims.{Claim, IsAskOf}
use Rattle.lane_record.specs.Items.{asked_count, planned_count, told_by_first, took_in}

-- the Ask of this number is that of the client's body
pub record IsAskAt (items : List Item) (client seq ask : ℕ) : Type 0 where
  pub claim : Claim
  pub is : IsAskOf items ask client seq claim

-- a body of a client that was taken
abbrev pub IsTakenIn : List Item → ℕ → ℕ → Type 0
IsTakenIn items client seq = is_some (told_by_first took_in client seq items) ≡ true

-- the oldest body of a client that was asked and not taken
pub record IsOldest (items : List Item) (client seq : ℕ) : Type 0 where
  pub is_asked : seq < asked_count client items
  pub untaken : told_by_first took_in client seq items ≡ None
  pub before : (n : ℕ) → n < seq → IsTakenIn items client n

-- the client has no asked body to take
abbrev pub HasTakenAll : List Item → ℕ → Type 0
HasTakenAll items client = (n : ℕ) → n < asked_count client items → IsTakenIn items client n

-- Each body that a client planned was asked, and what became of it was taken.
pub record HasDoneAll (items : List Item) (client : ℕ) : Type 0 where
  pub asked : asked_count client items ≡ planned_count client items
  pub taken : HasTakenAll items client

-- so of all clients
abbrev pub IsAllTaken : List Item → Type 0
IsAllTaken items = (client : ℕ) → HasDoneAll items client
