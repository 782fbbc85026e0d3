-- Turns that are being made, from the last value on. No public contract speaks of them.
use Rattle.std.specs.Prelude.{◌≡◌, false, List, ◌++◌, map, reverse}
use Rattle.std.specs.List.{AllByRecursion}
use Rattle.turn_pass.specs.Record.{Record}
use Rattle.turn_pass.specs.Pass.{PassState, TurnId, first_knowledge}
use Rattle.hub_multiplexer.specs.Seats.{turns_of}

-- the first pass of a turn that nobody has taken from
pub record IsFresh (pass : PassState) : Type 0 where
  pub holds_nothing : pass.holds ≡ false
  pub knows_opening : pass.knows ≡ first_knowledge pass.knows.opening

-- the records with which the turns of these passes opened
abbrev pub openings_of : List PassState → List Record
openings_of passes = map (λ pass. pass.knows.opening) passes

-- turns and their first passes
pub record AreFresh (turns : List TurnId) (passes : List PassState) : Type 0 where
  pub same_turns : turns_of passes ≡ turns
  pub fresh : AllByRecursion IsFresh passes

-- turns of values with these records, in order
pub record AreOpened (records : List Record) (turns : List TurnId) (passes : List PassState) : Type 0 where
  pub are_fresh : AreFresh turns passes
  pub openings : openings_of passes ≡ records

-- turns from the last value on, while some values are left
pub record IsOpening (all left : List Record) (turns : List TurnId) (passes : List PassState) : Type 0 where
  pub are_fresh : AreFresh turns passes
  pub split : all ≡ left ++ reverse (openings_of passes)
