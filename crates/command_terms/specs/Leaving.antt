-- What a command leaves of the outside, whether it has an answer or not. Profile.
use Rattle.std.specs.Prelude.{◌≡◌, ◌⊎◌, ℕ, List, [], ◌++◌, length, Result, Err, IfOk}
use Rattle.std.specs.List.{AllByRecursion}
use Rattle.ipb_outside.specs.Pairs.{PairReport}
use Rattle.board_specs.specs.declared.spec.LinkSpec.{LinkSpec}
use Rattle.board_history.specs.Links.{AreInOrderMade, IsUntouched}
use Rattle.command_terms.specs.declared.answer.Answer.{Answer}
use Rattle.command_terms.specs.Outside.{GivenBack}
use Rattle.command_terms.specs.Terms.{Owes, Terms}

-- What a command left by these bytes, where the rack had made links of these specs before and after. `Served` says what
-- became of the pairs that came, `Fails` which faults come of boards, and `rack_failed` is that of a rack.
pub record Leaves {E : Type 0} (Served : List PairReport → List PairReport → Type 0) (Fails : E → Type 0)
    (rack_failed : E) (terms : Terms) (bytes : List ℕ) (made makes : List LinkSpec) (result : Result Answer E)
    (given : GivenBack) : Type 0 where
  -- links were made of these specs, and each went back
  pub specs : List LinkSpec
  pub grown : makes ≡ made ++ specs
  pub counted : length specs ≡ length given.links
  -- each link stands where the spec does that it was made of: it is the one that was made as the first, the second ..
  pub in_order : AreInOrderMade (length made) given.links
  -- the specs and the links are those of the first boards that it uses, or there are none
  pub used : (given.links ≡ []) ⊎ terms.Uses bytes specs given.links
  -- each pair that came was served and went back
  pub back : Served given.came given.back
  -- an answer is what is owed to the bytes
  pub owed : IfOk result (λ answer. Owes terms bytes given answer.status answer.text.items)
  -- a fault of boards comes of bytes that break no rule
  pub behind : (fault : E) → result ≡ Err fault → Fails fault → terms.Uses bytes specs given.links
  -- and where a link could not be made, no board executed anything
  pub untouched : result ≡ Err rack_failed → AllByRecursion IsUntouched given.links
