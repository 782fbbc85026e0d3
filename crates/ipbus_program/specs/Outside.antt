-- What a call finds outside of the program and what it leaves there, as contracts see it. Profile.
use Rattle.std.specs.Prelude.{ℕ, List, Option}
use Rattle.board_specs.specs.declared.spec.LinkSpec.{LinkSpec}
use Rattle.command_terms.specs.Outside.{GivenBack}

-- The outside before a call and after it.
pub record Outside : Type 0 where
  -- the bytes that the input has left, where it tells them
  pub left : Option (List ℕ)
  pub left_now : Option (List ℕ)
  -- the bytes that the output was given, where it tells them
  pub written : Option (List ℕ)
  pub written_now : Option (List ℕ)
  -- the specs that the rack has made links of, in order
  pub made : List LinkSpec
  pub made_now : List LinkSpec
  -- the links and the pairs that came into the program by this call and went back
  pub given_back : GivenBack
