-- The links of boards, made by a rack and given back to it. Profile.
use Rattle.std.specs.Prelude.{◌≡◌, ℕ, List, ◌++◌, length, map}
use Rattle.ipb_base.specs.Lists.{IsPrefix}
use Rattle.links.specs.declared.link.Link.{Ghosts as LinkGhosts}
use Rattle.links.specs.declared.rack.Rack.{Ghosts as RackGhosts}
use Rattle.board_greeting.specs.Reports.{shown_by}
use Rattle.board_specs.specs.declared.spec.BoardSpec.{BoardSpec}
use Rattle.board_specs.specs.declared.spec.LinkSpec.{LinkSpec}
use Rattle.board_specs.specs.OpeningWords.{OpensOnWords}
use Rattle.board_history.specs.Links.{AreInOrderMade, CanBeMade, LinkReport}

-- These links were given back to the rack behind those that were kept before, in this order, and so much holds of what
-- they show.
abbrev pub Keeps : {R L : Type 0} → RackGhosts R L → LinkGhosts L → R → R → (List LinkReport → Type 0) → Type 0
Keeps {R} {L} seen link old new holds =
    (links : List L) × (seen.kept new ≡ seen.kept old ++ links) × holds (map (shown_by link) links)

-- the specs of the links of boards
abbrev pub link_specs : List BoardSpec → List LinkSpec
link_specs boards = map (λ board. board.link) boards

-- A rack made these links of the specs of the first boards, in order: what it had made links of before and has now. So the
-- link of a board is the one that was made of its spec.
pub record AreMadeFor (boards : List BoardSpec) (links : List LinkReport) (before now : List LinkSpec) : Type 0 where
  pub specs : List LinkSpec
  pub grown : now ≡ before ++ specs
  pub many : length specs ≡ length links
  pub first : IsPrefix specs (link_specs boards)
  pub in_order : AreInOrderMade (length before) links

-- the link of the board can be made, and its ranges open a bus of words of 32 bits
pub record CanBeReached (spec : BoardSpec) : Type 0 where
  pub made : CanBeMade spec.link
  pub words : OpensOnWords spec
