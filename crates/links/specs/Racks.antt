-- A rack: what makes links and keeps them. Profile.
use Rattle.std.specs.Prelude.{◌≡◌, ℕ, List, [], ◌∷◌, ◌++◌, Option, Some, None, Result, Ok, Err}
use Rattle.status_packet.specs.Range.{IsMtu, IsBufferCount}
use Rattle.board_bus.specs.declared.range.Range.{Range}
use Rattle.board_bus.specs.Ranges.{opening_bus, refusal_of}
use Rattle.board_specs.specs.declared.spec.LinkSpec.{LinkSpec}
use Rattle.board_specs.specs.declared.spec.LinkSpec.TheVariants.{Sim, Udp}
use Rattle.world_model.specs.Board.{Board}
use Rattle.links.specs.Telling.{Telling}

-- a board that opens with these ranges and has executed nothing
abbrev pub fresh_board : ℕ → ℕ → ℕ → List Range → Board
fresh_board mtu buffers first ranges =
    record { opening = opening_bus ranges; mtu = mtu; buffers = buffers; first = first; log = [] }

-- what a link can be made for: a simulated board's ranges are those of a bus, its MTU and its buffers are in range
pub record IsSimulable (mtu buffers : ℕ) (ranges : List Range) : Type 0 where
  pub bus : refusal_of ranges ≡ None
  pub greatest_packet : IsMtu mtu
  pub kept_replies : IsBufferCount buffers

abbrev pub IsMakeable : LinkSpec → Type 0
IsMakeable (Sim mtu buffers first ranges fates) = IsSimulable mtu buffers ranges
IsMakeable (Udp address port wait) = Unit {0}

-- what a link tells that was just made: a fresh board and an empty air; one to a network tells nothing
abbrev pub telling_for : LinkSpec → Option Telling
telling_for (Sim mtu buffers first ranges fates) = Some (record {
  told = record { board = fresh_board mtu buffers first ranges; air = [] };
  due = [];
  handed = [];
})
telling_for (Udp address port wait) = None

-- what links were made of, after a make by this spec
abbrev pub made_after : {L E : Type 0} → Result L E → LinkSpec → List LinkSpec → List LinkSpec
made_after (Ok link) spec made = made ++ spec ∷ []
made_after (Err fault) spec made = made
