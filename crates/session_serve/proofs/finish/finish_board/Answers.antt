use Rattle.std.proofs.Common.{◌∙◌, ap, subst, sym}
use Rattle.board_greeting.specs.Boards.{IsEndedLane}
use Rattle.board_greeting.specs.Reports.{shown_by}
use Rattle.session_serve.specs.Finish.{IsSound}
use Rattle.session_serve.proofs.finish.finish_board.Goals as goal

pub returns-in-Live-clause-sound : goal.returns-in-Live-clause-sound
returns-in-Live-clause-sound g c =
    let link = g.L.Link in
    let lane = c.in-Live.lane in
    subst (IsSound link) (sym c.in-Live.is) (
      c.is_sound.ensures,
      λ settings spec to. subst (λ (l : g.row.L.Denot). IsEndedLane settings spec lane (shown_by link l))
          c.close_lane.ensures.link (c.close_lane.ensures.ended settings spec to),
      ap link.number (sym c.close_lane.ensures.link) ∙ c.close_lane.ensures.number,
    )
