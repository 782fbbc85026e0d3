-- The session that `load COUNT` runs: four clients add 1 to one register of one board, COUNT times together, with a
-- dispatch after each. Profile.
use Rattle.std.specs.Prelude.{ℕ, zero, suc, ◌+◌, ◌*◌, ◌%◌, ◌==◌, if◌then◌else◌, List, [], ◌∷◌, map, codes}
use Rattle.board_bus.specs.declared.range.Range.{Range}
use Rattle.board_bus.specs.declared.kind.RangeKind.TheVariants.{Rw}
use Rattle.board_specs.specs.declared.spec.BoardSpec.{BoardSpec}
use Rattle.board_specs.specs.declared.spec.Fates.TheVariants.{Noise}
use Rattle.board_specs.specs.declared.spec.LinkSpec.{LinkSpec}
use Rattle.board_specs.specs.declared.spec.LinkSpec.TheVariants.{Sim}
use Rattle.world_model.specs.Settings.{Limits}
use Rattle.transaction_codec.specs.declared.request.Op.TheVariants.{RmwSum as adds}
use Rattle.script_steps.specs.declared.operation.RegOp.{RegOp}
use Rattle.script_steps.specs.declared.operation.Step.{Step}
use Rattle.script_steps.specs.declared.operation.Step.TheVariants.{Do, Dispatch}
use Rattle.script_steps.specs.declared.operation.Verb.TheVariants.{RmwSum}

abbrev pub settings : Limits
settings = record { rounds = 255; window = 16 }

-- ---- the board

-- 16 words that may be read and written, and begin as 0
abbrev pub range : Range
range = record { base = 0; size = 16; kind = Rw; init = [] }

-- the random numbers of the fates begin with the count
abbrev pub link : ℕ → LinkSpec
link count = Sim 1500 16 1 (range ∷ []) (Noise count)

abbrev pub board : ℕ → BoardSpec
board count = record { name = codes "b0"; «table» = codes "main"; link = link count }

abbrev pub boards : ℕ → List BoardSpec
boards count = board count ∷ []

-- ---- the scripts

-- `rmwsum b0:count 1`, where the register `count` is the whole word at address 0, behind so many operations of its
-- client. Each of these has a line, and its dispatch another.
abbrev pub operation : ℕ → RegOp
operation before = record {
  line = 2 * before + 1;
  verb = RmwSum;
  board = 0;
  name = codes "count";
  mask = 0xffffffff;
  op = adds 0 1;
}

-- so many operations of a client, with so many before them, each followed by a dispatch
abbrev pub steps_behind : ℕ → ℕ → List Step
steps_behind before zero = []
steps_behind before (suc more) = Do (operation before) ∷ Dispatch ∷ steps_behind (before + 1) more

-- How many of the operations 0, 1, .. up to the one before `count` belong to a client, counted from 0: operation i
-- belongs to client i mod 4.
abbrev pub share : ℕ → ℕ → ℕ
share zero client = 0
share (suc i) client = share i client + (if i % 4 == client then 1 else 0)

-- how many operations each of the four clients has
abbrev pub shares : ℕ → List ℕ
shares count = map (share count) (0 ∷ 1 ∷ 2 ∷ 3 ∷ [])

abbrev pub steps : ℕ → List (List Step)
steps count = map (steps_behind 0) (shares count)
