-- The transcript of a session: a function of the clients' steps, and of what became of each board, where outcomes stand
-- in the shape of the plan. Profile.
use Rattle.std.specs.Prelude.{List}
use Rattle.script_steps.specs.declared.operation.Step.{Step}
use Rattle.transcript.specs.Lines.{Transcript, transcript_of}
use Rattle.script_plans.specs.Runs.{BoardFate, runs_from}

-- the lines of a session, by the steps of each client and what became of each board, in the document's order
abbrev pub transcript : List (List Step) → List BoardFate → Transcript
transcript scripts fates = transcript_of scripts (runs_from 0 scripts fates)
