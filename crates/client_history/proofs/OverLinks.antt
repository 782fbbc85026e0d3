-- Over each link of boards that were served passed what the machine of the protocol does.
use Rattle.std.proofs.Common.{List, [], ◌∷◌}
use Rattle.std.specs.List.{AllByRecursion}
use Rattle.board_specs.specs.declared.spec.BoardSpec.{BoardSpec}
use Rattle.world_model.specs.Settings.{Limits}
use Rattle.board_history.specs.Links.{LinkReport}
use Rattle.board_history.specs.Machine.{RanAsMachine}
use Rattle.board_history.proofs.OverLinks.{ran_as_told}
use Rattle.client_history.specs.Boards.{AreServedOver, ServedBoard, run_of}

pub ran_served : (settings : Limits) (specs : List BoardSpec) (boards : List ServedBoard) (links : List LinkReport)
    → AreServedOver settings specs boards links → AllByRecursion RanAsMachine links
ran_served settings [] [] [] are = tt
ran_served settings [] [] (link ∷ links) are = absurd are
ran_served settings [] (served ∷ boards) links are = absurd are
ran_served settings (spec ∷ specs) [] links are = absurd are
ran_served settings (spec ∷ specs) (served ∷ boards) [] are = absurd are
ran_served settings (spec ∷ specs) (served ∷ boards) (link ∷ links) are = (
  ran_as_told settings spec (run_of spec served) link served.told are.0.as_told,
  ran_served settings specs boards links are.1,
)
