-- A RUN of the steps of a session's clients, and what its lines show. Profile.
use Rattle.std.specs.Prelude.{◌≡◌, List, map}
use Rattle.std.specs.List.{AllByRecursion, AllZip}
use Rattle.board_history.specs.Links.{LinkReport, IsFaithful}
use Rattle.board_history.specs.Lines.{IsBusLine}
use Rattle.board_history.specs.LinkRuns.{AreRunsOver, AreWholeRuns, IsLineOfRounds, IsUngarbledWhereTold}
use Rattle.board_history.specs.LinkRuns.{RepliesCame, ShowAloneRuns, ShowAloneRunsWhereTold, TimeOutsWaited}
use Rattle.script_steps.specs.declared.operation.Step.{Step}
use Rattle.script_lang.specs.declared.session.Session.{Session}
use Rattle.script_plans.specs.declared.board_run.BoardRun.{BoardRun}
use Rattle.transcript.specs.Claims.{HasNoPlaceIfDenied, rules_of, rules_shown}
use Rattle.transcript.specs.Lines.{transcript_of, run_status}
use Rattle.transcript.specs.Shown.{ShowsAllPlaces}

-- Of the steps of a session's clients, an outcome for each body that they ask of a board, and what the links that were
-- given back show:
pub record IsSessionRun (session : Session) (steps : List (List Step)) (runs : List BoardRun) (links : List LinkReport)
    : Type 0 where
  -- of each board and its link: the bodies that were sent have one order, each client's in that of its steps; where the
  -- link tells, the board executed a front of it, each body once, and each reply is that of a bus with a single thread;
  -- bodies were given up only after their rounds, and lost only with a link that failed
  pub boards : AreRunsOver session.settings 0 session.boards steps runs links
  -- the lines show of each board the places 1, 2, .. up to the number in its line, and no other place
  pub places : ShowsAllPlaces (transcript_of steps runs)
  -- a line shows a rule exactly where the policy denies its operation, the number of the rule that does, and no place
  -- then; nothing is planned of such an operation, so nothing of it stands in the order of a board
  pub denied : map rules_shown (transcript_of steps runs).clients ≡ map rules_of steps
  pub unplaced : AllByRecursion (AllByRecursion HasNoPlaceIfDenied) (transcript_of steps runs).clients
  -- no line of a board whose link tells is garbled: each reply answers the packet at its place
  pub answered : AllByRecursion (AllByRecursion (IsUngarbledWhereTold runs links)) (transcript_of steps runs).clients
  -- a line that was timed out shows the rounds of the session
  pub rounds : AllByRecursion (AllByRecursion (IsLineOfRounds session.settings.rounds))
      (transcript_of steps runs).clients
  -- with so many timeouts in the line of a board, its link had the quiet receives of their rounds, and where it tells
  -- it held a datagram in each
  pub waited : AllZip (TimeOutsWaited session.settings) (transcript_of steps runs).boards links
  -- for each reply that the line of a board counts, its link handed out a datagram, and one that answered the greeting
  pub heard : AllZip RepliesCame (transcript_of steps runs).boards links
  -- where no link held anything back and none failed, lines fail only by codes of the bus and by the policy
  pub codes : AllByRecursion IsFaithful links
      → AllByRecursion (AllByRecursion IsBusLine) (transcript_of steps runs).clients
  -- and there every body was replied to, each board executed all bodies of all clients, and a board that one client uses
  -- alone shows what the bus gives to that client
  pub whole : AllByRecursion IsFaithful links → AreWholeRuns session.boards runs links
  pub alone : AllByRecursion IsFaithful links → ShowAloneRuns 0 session.boards steps runs
  -- where every line is a value, `done` or `was`, such a board, where its link tells, shows that whatever the link lost,
  -- repeated, delayed or reordered
  pub settled : run_status (transcript_of steps runs).clients ≡ 0
      → ShowAloneRunsWhereTold 0 session.boards steps runs links
