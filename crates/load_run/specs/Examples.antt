-- Generated sessions written out, and the summary of a run in which the clients go one after another.
use Rattle.std.specs.Prelude.{ℕ, codes}
use Rattle.transaction_codec.specs.declared.request.Op.TheVariants.{RmwSum as adds}
use Rattle.script_steps.specs.declared.operation.Step.{Step}
use Rattle.script_steps.specs.declared.operation.Step.TheVariants.{Do}
use Rattle.script_steps.specs.declared.operation.Verb.TheVariants.{RmwSum}
use Rattle.transcript.specs.Lines.{transcript_of}
use Rattle.board_history.specs.Runs.{runs_from}
use Rattle.load_run.specs.declared.summary.Summary.{Summary}
use Rattle.load_run.specs.Generated.{boards, steps}
use Rattle.load_run.specs.Summary.{summary_of}

-- `rmwsum b0:count 1` in this line of a script
abbrev pub adds_one : ℕ → Step
adds_one line = Do (record {
  line = line;
  verb = RmwSum;
  board = 0;
  name = codes "count";
  mask = 0xffffffff;
  op = adds 0 1;
})

-- the summary where the clients run one after another and nothing is lost
abbrev pub summary_in_turn : ℕ → Summary
summary_in_turn count = summary_of count (transcript_of (steps count) (runs_from 0 (boards count) (steps count)))
