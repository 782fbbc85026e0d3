-- What a client asks of its boards: the bodies of its scripts' operations, dispatch by dispatch. uHAL: operations are
-- queued, and sent at a dispatch. Profile.
use Rattle.std.specs.Prelude.{ℕ, ◌+◌, ◌<◌, ◌≤◌, ◌^◌, ◌==◌, if◌then◌else◌, List, [], ◌∷◌, ◌++◌, length, map, fold}
use Rattle.std.specs.Prelude.{Option, Some, None, count_by}
use Rattle.std.specs.List.{AllByRecursion, filter_map, flat_map}
use Rattle.transaction_codec.specs.declared.request.Op.{Op}
use Rattle.transaction_codec.specs.Request.{SpellsRequests}
use Rattle.mtu_packer.specs.declared.packed.Piece.{Piece}
use Rattle.mtu_packer.specs.declared.packing.TheConstants.{MIN_PAYLOAD, MAX_PAYLOAD}
use Rattle.mtu_packer.specs.Packed.{Contents, FitsPackets, packed_contents}
use Rattle.script_steps.specs.declared.operation.RegOp.{RegOp}
use Rattle.script_steps.specs.declared.operation.Step.{Step}
use Rattle.script_steps.specs.declared.operation.Step.TheVariants.{Do, Denied, Dispatch}
use Rattle.script_plans.specs.declared.greeting.Greeting.{Greeting}
use Rattle.script_plans.specs.declared.greeting.Greeting.TheVariants.{Live, Silent, Down}
use Rattle.script_plans.specs.declared.planned.PieceAt.{PieceAt}

-- the operation of a step that is done; one that is denied is none
abbrev pub operation_in : Step → Option RegOp
operation_in (Do op) = Some op
operation_in (Denied rule op) = None
operation_in Dispatch = None

-- the operations of a client that are not denied, in order
abbrev pub operations : List Step → List RegOp
operations steps = filter_map operation_in steps

-- an operation joins the dispatch that is next
abbrev pub into_next_dispatch : RegOp → List (List RegOp) → List (List RegOp)
into_next_dispatch op [] = (op ∷ []) ∷ []
into_next_dispatch op (dispatch ∷ later) = (op ∷ dispatch) ∷ later

-- the operations of each dispatch, without those that are denied; the end of a script is one
abbrev pub dispatches : List Step → List (List RegOp)
dispatches [] = [] ∷ []
dispatches (Do op ∷ steps) = into_next_dispatch op (dispatches steps)
dispatches (Denied rule op ∷ steps) = dispatches steps
dispatches (Dispatch ∷ steps) = [] ∷ dispatches steps

-- what operations ask of the bus of one board
abbrev pub ops_on : ℕ → List RegOp → List Op
ops_on board [] = []
ops_on board (o ∷ os) = if o.board == board then o.op ∷ ops_on board os else ops_on board os

-- how many of these operations are on a board
abbrev pub count_on : ℕ → List RegOp → ℕ
count_on board ops = count_by (λ (op : RegOp). op.board == board) ops

-- A client's plan on a board that takes packets of `payload` words: for each dispatch the bodies, and where the pieces
-- of each operation stand in them. One dispatch never shares a body with another.
abbrev pub plan : ℕ → ℕ → List Step → List Contents
plan payload board steps = map (λ dispatch. packed_contents payload (ops_on board dispatch)) (dispatches steps)

-- the bodies of a plan, dispatch by dispatch
abbrev pub bodies_in : List Contents → List (List (List ℕ))
bodies_in dispatches = map (λ (c : Contents). c.bodies) dispatches

-- ---- the plan as one list

-- All bodies of a client on a board, where the pieces of each of its operations there stand, and how many bodies each
-- dispatch has. The bodies are numbered from 0 through all dispatches.
pub record ClientBodies : Type 0 where
  pub bodies : List (List ℕ)
  pub pieces : List (List PieceAt)
  pub counts : List ℕ

abbrev pub no_bodies : ClientBodies
no_bodies = record { bodies = []; pieces = []; counts = [] }

-- a piece in a dispatch that begins with the body of this number
abbrev pub piece_behind : ℕ → Piece → PieceAt
piece_behind first piece = record { body = first + piece.body; index = piece.index }

-- a dispatch more
abbrev pub with_dispatch : ClientBodies → Contents → ClientBodies
with_dispatch all dispatch = record {
  bodies = all.bodies ++ dispatch.bodies;
  pieces = all.pieces ++ map (λ pieces. map (piece_behind (length all.bodies)) pieces) dispatch.pieces;
  counts = all.counts ++ length dispatch.bodies ∷ [];
}

abbrev pub all_dispatches : List Contents → ClientBodies
all_dispatches dispatches = fold with_dispatch no_bodies dispatches

-- a client's bodies on a board: one that is not live is asked nothing
abbrev pub planned_on : ℕ → Greeting → List Step → ClientBodies
planned_on board (Live payload) steps = all_dispatches (plan payload board steps)
planned_on board Silent steps = no_bodies
planned_on board Down steps = no_bodies

-- what the clients ask of a board that told this greeting
abbrev pub plans_on : ℕ → Greeting → List (List Step) → List ClientBodies
plans_on board told scripts = map (planned_on board told) scripts

-- the bodies of all clients
abbrev pub all_bodies : List ClientBodies → List (List ℕ)
all_bodies plans = flat_map (λ (p : ClientBodies). p.bodies) plans

-- what a greeting can tell of the packets of a live board
abbrev pub IsGreeting : Greeting → Type 0
IsGreeting (Live payload) = (MIN_PAYLOAD ≤ payload) × (payload ≤ MAX_PAYLOAD)
IsGreeting Silent = Unit {0}
IsGreeting Down = Unit {0}

-- the packets that a live board takes have room for bodies and for the longest answers to them
abbrev pub FitGreeting : Greeting → List (List ℕ) → Type 0
FitGreeting (Live payload) bodies = AllByRecursion (FitsPackets payload) bodies
FitGreeting Silent bodies = Unit {0}
FitGreeting Down bodies = Unit {0}

-- ---- what holds of the bodies of every plan

-- each body is the words of requests alone
abbrev pub AreSpelled : List (List ℕ) → Type 0
AreSpelled bodies = AllByRecursion SpellsRequests bodies

-- a transaction has a number of 12 bits in its body
abbrev pub IsWithinBody : PieceAt → Type 0
IsWithinBody piece = piece.index < 2 ^ 12

pub record AreSound (all : ClientBodies) : Type 0 where
  pub spelled : AreSpelled all.bodies
  pub within : AllByRecursion (AllByRecursion IsWithinBody) all.pieces
