-- THE HEADLINE: what `run` promises of the text that it writes with status 0 or 1.
--
-- Take any session, any way in which the threads of its clients take turns, and any losses, repeats, delays and changes
-- of order on the links. An operation that the policy of the session denies is sent nowhere, and is printed so. Each
-- board has one order of packets, those of a client in the order of its script. Of a board whose link tells, as that of
-- every simulated board does: what is printed as the reply to an operation, in time or late, is what a bus with a single
-- thread answers at the printed places of that order, and each packet that the board executed stands there once.
-- `timeout` is printed only after as many rounds as the line says, and where the link tells, of a packet that was
-- executed once or never, and once where a late answer stands behind it. Of any live board, as of one on a network
-- whose link does not tell: what passed over its link is a greeting, and then a run of the hub's machine with the bodies
-- that the clients asked; and what is printed of each body, in time or late, is its fate in that run.
--
-- It is one record, `IsTranscriptOf`, whose parts are these words. What it says of the lines is said of the steps of
-- any run, by `IsSessionRun` of run_laws/specs/Runs. Profile.
--
--   the session, its policy      IsRunnable                              session_input/specs/Deserved
--   the text                     transcript_of, transcript_text          transcript/specs/Lines, Text
--   one order on each board      HasOneOrder, ShowsAllPlaces             board_history/specs/Parts,
--                                                                        transcript/specs/Shown
--   each client in its order     KeepsScripts                            board_history/specs/Parts
--   executed once                IsExecutedOnce                          board_history/specs/Parts
--   each reply                   AreRepliesOf, IsUngarbledWhereTold      board_history/specs/Parts,
--                                                                        board_history/specs/LinkRuns
--   late answers                 ShowsLates, AreLateExactly,             board_history/specs/LinkRuns, Lates,
--                                AreLateRepliesOf                        board_history/specs/Parts
--   timeouts                     GaveUpOnlyAfter, TimeOutsWaited,        board_history/specs/GiveUps,
--                                IsLineOfRounds                          board_history/specs/LinkRuns
--   replies over any link        RepliesCame, HasBroughtReply            board_history/specs/LinkRuns, Receives
--   lost links, down, silent     IsLostOnlyIfFailed, IsDownRun,          board_history/specs/Links, LinkRuns
--                                IsSilentRun                             board_history/specs/LinkRuns
--   error and skipped            op_result, told_of                      transcript/specs/Results, Ends
--   denied                       ruled_scripts, rules_shown, planned_on  access_policy/specs/Decisions,
--                                                                        transcript/specs/Claims,
--                                                                        script_plans/specs/Plan
--   the status                   run_status, IsBusLine                   transcript/specs/Lines,
--                                                                        board_history/specs/Lines
--   where nothing was held back  AreWholeRuns, ShowAloneRuns             board_history/specs/LinkRuns
--   where all was done           ShowAloneRunsWhereTold                  board_history/specs/LinkRuns
--   over any link, told or not   HoldsOverAnyLink                        board_history/specs/LinkRuns
--   what passed over any link    IsMachineBoard                          board_history/specs/Machine
--   at every status              RanSomeOf, below, by AreLeft            session_run/specs/Links
--   which link is which          in_order of Ended                       ipbus_program/specs/Ended
--
-- What holds of one board and its link is `IsRunOver` of board_history/specs/LinkRuns, which has a sentence for each part.
use Rattle.std.specs.Prelude.{◌≡◌, ℕ, List}
use Rattle.ipb_base.specs.Lists.{IsPrefix}
use Rattle.board_specs.specs.declared.spec.LinkSpec.{LinkSpec}
use Rattle.board_history.specs.Links.{LinkReport}
use Rattle.run_laws.specs.Runs.{IsSessionRun}
use Rattle.script_steps.specs.declared.operation.Step.{Step}
use Rattle.script_lang.specs.declared.session.Session.{Session}
use Rattle.session_input.specs.Deserved.{IsRunnable}
use Rattle.session_run.specs.Links.{AreLeft, link_specs}
use Rattle.script_plans.specs.declared.board_run.BoardRun.{BoardRun}
use Rattle.transcript.specs.Lines.{transcript_of, run_status}
use Rattle.transcript.specs.Text.{transcript_text}

-- Of the bytes of the input, what the links that were given back show, the status and the text:
pub record IsTranscriptOf (bytes : List ℕ) (links : List LinkReport) (status : ℕ) (text : List ℕ) : Type 0 where
  -- the bytes stand for a session that can be run, and under its policy these are the steps of its scripts
  pub session : Session
  pub steps : List (List Step)
  pub runnable : IsRunnable bytes session steps
  -- there is an outcome for each body that the scripts ask of a board, such that it is a run of these steps over these
  -- links, with one order of bodies on each board, and all that the lines of such a run show
  pub runs : List BoardRun
  pub run : IsSessionRun session steps runs links
  -- the text is the transcript of these outcomes, and nothing else
  pub spelled : text ≡ transcript_text (transcript_of steps runs)
  -- the status is 0 exactly where every line of an operation is a value, `done` or `was`
  pub told : status ≡ run_status (transcript_of steps runs).clients

-- At every status: the bytes stand for a session that can be run, links were made of the specs of its first boards, in
-- order, and the links are those of these boards, in order, each given back once; what was sent to each board, and so
-- what it executed, is a merge of bodies that the scripts ask of it, some of each client's, in its order.
pub record RanSomeOf (bytes : List ℕ) (specs : List LinkSpec) (links : List LinkReport) : Type 0 where
  pub session : Session
  pub steps : List (List Step)
  pub runnable : IsRunnable bytes session steps
  pub first : IsPrefix specs (link_specs session.boards)
  pub left : AreLeft 0 session.boards steps links
