-- What `record` promises of the text that it writes with status 0 or 1. Profile.
--
-- It is one record, `IsRecordOf`, of the bytes of the input and of the link that was given back.
--
--   the session, its policy      IsRecordable                            session_input/specs/Recording
--   a run of it                  IsSessionRun                            run_laws/specs/Runs
--   the text                     capture_text                            capture_reader/specs/CaptureText
--   what the capture proves      IsProved                                capture_reader/specs/Proved
--   the traffic of the link      caught_in                               record_command/specs/Passing
--   the datagrams in its air     IsTrafficOf                             record_command/specs/Traffic
--   what the capture shows sent  bodies_in                               record_command/specs/Captures
--   what the scripts ask         IsMergeOfAsked                          board_history/specs/LinkRuns
use Rattle.std.specs.Prelude.{◌≡◌, ℕ, ◌≤◌, ◌==◌, ◌&&◌, List, [], ◌∷◌, length, sum_by, Option, Some, None}
use Rattle.ipb_base.specs.Lists.{IsPrefix}
use Rattle.world_model.specs.Board.{bodies_executed}
use Rattle.board_specs.specs.declared.spec.BoardSpec.{BoardSpec}
use Rattle.board_specs.specs.declared.spec.LinkSpec.{LinkSpec}
use Rattle.board_specs.specs.declared.spec.LinkSpec.TheVariants.{Sim, Udp}
use Rattle.links.specs.Telling.{Telling}
use Rattle.board_history.specs.Links.{LinkReport}
use Rattle.board_history.specs.LinkRuns.{IsMergeOfAsked}
use Rattle.script_steps.specs.declared.operation.Step.{Step}
use Rattle.script_lang.specs.declared.session.Session.{Session}
use Rattle.script_plans.specs.declared.board_run.BoardRun.{BoardRun}
use Rattle.script_plans.specs.declared.board_run.ClientPart.{ClientPart}
use Rattle.transcript.specs.Lines.{all_good, transcript_of}
use Rattle.session_input.specs.Recording.{IsRecordable}
use Rattle.session_run.specs.Links.{AreLeft, link_specs}
use Rattle.run_laws.specs.Runs.{IsSessionRun}
use Rattle.command_terms.specs.Numbers.{told_status}
use Rattle.capture_reader.specs.declared.capture.Capture.{Capture}
use Rattle.capture_reader.specs.CaptureText.{IsCapture, capture_text}
use Rattle.capture_reader.specs.Proved.{IsProved}
use Rattle.record_command.specs.Passing.{caught_in}
use Rattle.record_command.specs.Traffic.{IsTrafficOf}
use Rattle.record_command.specs.Captures.{bodies_in}

-- the identifier that the one board of a session expects first
abbrev pub first_of : LinkSpec → Option ℕ
first_of (Sim mtu buffers first ranges fates) = Some first
first_of (Udp address port wait) = None

-- how many bodies the clients ask of boards
abbrev pub bodies_of_part : ClientPart → ℕ
bodies_of_part part = length part.planned.bodies

abbrev pub bodies_of_run : BoardRun → ℕ
bodies_of_run run = sum_by bodies_of_part run.parts

abbrev pub body_count : List BoardRun → ℕ
body_count runs = sum_by bodies_of_run runs

-- What a capture that proves so many packets shows of the board of this document, over a link that tells this.
pub record ShowsTraffic (board : BoardSpec) (steps : List (List Step)) (capture : Capture) (proved : ℕ)
    (telling : Telling) : Type 0 where
  -- what was sent are the datagrams for the board in the air of the link, all of them in order, and what was received
  -- are those that it handed out, in order
  pub traffic : IsTrafficOf telling capture.items
  -- the bodies of the packets that were sent for the first time are a merge of bodies that the scripts ask of the
  -- board, each client's in the order of its script
  pub sent : IsMergeOfAsked board 0 steps (bodies_in capture)
  -- the board executed the first of them, at least as many as are proved
  pub executed_first : IsPrefix (bodies_executed telling.told.board) (bodies_in capture)
  pub executed_proved : proved ≤ length (bodies_executed telling.told.board)

-- Of the bytes of the input, what the link that was given back shows, the status and the text:
pub record IsRecordOf (bytes : List ℕ) (links : List LinkReport) (status : ℕ) (text : List ℕ) : Type 0 where
  -- the bytes stand for a session of one simulated board that can be run, and under its policy these are the steps of
  -- its scripts
  pub session : Session
  pub steps : List (List Step)
  pub recordable : IsRecordable bytes session steps
  pub board : BoardSpec
  pub one_board : session.boards ≡ board ∷ []
  -- there is an outcome for each body that the scripts ask of the board, such that it is a run of these steps over this
  -- link, with one order of bodies, and all that the lines of such a run show; these lines are not written
  pub runs : List BoardRun
  pub run : IsSessionRun session steps runs links
  -- the text is that of a capture from the board's first identifier on, and nothing else
  pub capture : Capture
  pub first : first_of board.link ≡ Some capture.first
  pub has_text : IsCapture capture
  pub spelled : text ≡ capture_text capture
  -- the status is 0 exactly where every line of an operation is a value, `done` or `was`, and the capture proves that
  -- the board executed all bodies that the scripts ask of it
  pub proved : ℕ
  pub is_proved : IsProved capture proved
  pub told : status ≡ told_status (all_good (transcript_of steps runs).clients && (proved == body_count runs))
  -- the link of the board was given back, and the capture is what passed over it: each datagram that was sent on it or
  -- received from it, in the order of the calls
  pub link : LinkReport
  pub one_link : links ≡ link ∷ []
  pub is_traffic : capture.items ≡ caught_in link.traffic
  -- it tells, and the capture shows this of the datagrams in its air
  pub telling : Telling
  pub tells : link.telling ≡ Some telling
  pub shows : ShowsTraffic board steps capture proved telling

-- At every status: the bytes stand for such a session, and a link was made of the spec of its board and given back, or
-- none was.
pub record RecordedSomeOf (bytes : List ℕ) (specs : List LinkSpec) (links : List LinkReport) : Type 0 where
  pub session : Session
  pub steps : List (List Step)
  pub recordable : IsRecordable bytes session steps
  pub first : IsPrefix specs (link_specs session.boards)
  pub left : AreLeft 0 session.boards steps links
