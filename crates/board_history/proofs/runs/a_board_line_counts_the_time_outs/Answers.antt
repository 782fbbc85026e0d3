use Rattle.std.proofs.Common.{ap}
use Rattle.std.specs.List.{count_by}
use Rattle.lane_record.specs.Outcomes.{is_timed_out}
use Rattle.board_history.proofs.Live.{in_line, run_joined}
use Rattle.board_history.proofs.runs.a_board_line_counts_the_time_outs.Goals as goal

pub returns : goal.returns
returns c = λ spec board scripts run shows. ap (count_by is_timed_out)
    (in_line run (run_joined c.bodies_stand_dispatch_by_dispatch.ensures.bodies spec board scripts run shows))
