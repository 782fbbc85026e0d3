-- WHAT A COMMAND OWES to its input. Each command says it in one record, and what the program promises is said of that
-- record, so that a reader of a command reads its record alone. Profile.
use Rattle.std.specs.Prelude.{◌≡◌, ◌⊎◌, ℕ, ◌+◌, ◌<◌, Bool, false, List, length, Option, Some, None}
use Rattle.board_specs.specs.declared.spec.LinkSpec.{LinkSpec}
use Rattle.board_history.specs.Links.{LinkReport}
use Rattle.command_terms.specs.Numbers.{IsDoneStatus, refused_status}
use Rattle.command_terms.specs.Outside.{GivenBack}

pub record Terms : Type 1 where
  -- how many bytes its input may have, and none where it reads no input
  pub limit : Option ℕ
  -- whether it makes links by the rack, and whether it lets clients in by the door
  pub makes_links : Bool
  pub lets_in : Bool
  -- the line of an input that is longer
  pub long_line : List ℕ
  -- the bytes stand for what it asks
  pub Right : List ℕ → Type 0
  -- the bytes break a rule of it, and this is the line of the first
  pub Refuses : List ℕ → List ℕ → Type 0
  -- what it makes of bytes that break none, where these links and pairs were given back: a status and a text
  pub Done : List ℕ → GivenBack → ℕ → List ℕ → Type 0
  -- at every status: links were made of these specs, those of the first boards that it uses for the bytes, in order,
  -- and these are the links of these boards, in order
  pub Uses : List ℕ → List LinkSpec → List LinkReport → Type 0

-- no boards are used
abbrev pub uses_none : List ℕ → List LinkSpec → List LinkReport → Type 0
uses_none bytes specs links = ⊥

-- What it owes to bytes: what it makes of them, or the line of the refusal that they deserve.
abbrev pub Owes : Terms → List ℕ → GivenBack → ℕ → List ℕ → Type 0
Owes terms bytes given status text =
    terms.Done bytes given status text ⊎ ((status ≡ refused_status) × terms.Refuses bytes text)

-- how many bytes it takes of its input at most: one more than it may have, or none
abbrev pub most_of : Option ℕ → ℕ
most_of None = 0
most_of (Some limit) = limit + 1

abbrev pub most_bytes : Terms → ℕ
most_bytes terms = most_of terms.limit

-- it reads its input
abbrev pub Reads : Terms → Type 0
Reads terms = (limit : ℕ) × (terms.limit ≡ Some limit)

-- What holds of the terms of every command, so that what a command owes is one thing.
pub record AreTerms (terms : Terms) : Type 0 where
  -- what it makes of bytes goes with 0 or 1
  pub told : (bytes : List ℕ) (given : GivenBack) (status : ℕ) (text : List ℕ)
      → terms.Done bytes given status text → IsDoneStatus status
  -- bytes deserve one refusal
  pub one_line : (bytes line other : List ℕ) → terms.Refuses bytes line → terms.Refuses bytes other → line ≡ other
  -- and none where they are right, where something was made of them, or where boards were used for them
  pub right_apart : (bytes line : List ℕ) → terms.Right bytes → ¬ terms.Refuses bytes line
  pub done_apart : (bytes line : List ℕ) (given : GivenBack) (status : ℕ) (text : List ℕ)
      → terms.Done bytes given status text → ¬ terms.Refuses bytes line
  pub uses_apart : (bytes line : List ℕ) (specs : List LinkSpec) (links : List LinkReport)
      → terms.Uses bytes specs links → ¬ terms.Refuses bytes line
  -- bytes that are too many deserve the line that says so
  pub long : (limit : ℕ) (bytes : List ℕ) → terms.limit ≡ Some limit → limit < length bytes
      → terms.Refuses bytes terms.long_line
  -- where no input is read, nothing is refused, and where no links are made, none are used
  pub unrefused : terms.limit ≡ None → (bytes line : List ℕ) → ¬ terms.Refuses bytes line
  pub unlinked : terms.makes_links ≡ false → (bytes : List ℕ) (specs : List LinkSpec) (links : List LinkReport)
      → ¬ terms.Uses bytes specs links
