-- SERVING: what `serve` promises of the text that it writes with status 0 or 1.
--
-- Take any session and any connections, with any bytes from their clients, in any pieces, any way in which the threads
-- of the connections take turns, and any losses, repeats, delays and changes of order on the links. The line of a
-- connection is what passed over it, from its pair as it came to its pair as it went back, where these tell: each
-- request frame that it counts was answered by one reply frame, in order. The connections are the clients of the
-- boards, and each board has one order of packets.
--
-- What a frame was answered, by the code of its reply frame:
--
--   0     The body of the frame was sent and has a place of its own in the order of its board, behind those of the
--         frames of its connection before it. Where the link of the board tells, the board executed the body there, and
--         the reply frame has the words that a bus with a single thread gives there. Whether it tells or not, they are
--         the body of a control packet that it received behind the board's first status, with the identifier of the
--         place.
--   1     The board is live, and the hub gave up after the rounds of the session. The body was sent and has a place of
--         its own, so that where the link tells, it was executed once or never.
--   2     The board is live, the hub gave up after those rounds, and the body has no place, since it was not sent; or
--         the line of the board is `silent`.
--   3     The link of the board failed, later or at the greeting: so it is where the line of the board is `down`.
--   4     exactly where the bytes of the frame are no control packet
--   5     exactly where they are one, and the session has no board at that position
--   6     for a live board, exactly where the body of the frame is too long for a packet of the board
--   7     for a live board, exactly where it is not, and its longest reply is
--   8     for a live board, only where both fit, and connections filled its lane: the other ones, and that of the frame
--         before it
--
-- Where the link of a board tells, held nothing back and did not fail, no frame for it is answered by 1, 2 or 3.
--
-- It is one record, `IsServiceOf`, whose parts are these words. Profile.
--
--   the session                  IsServable                              session_input/specs/Deserved
--   the text, the status         serve_text, serve_status                serve_command/specs/Text
--   the connections              HaveExchanged: IsServed, HasFaultsOf    session_serve/specs/Connections,
--                                                                        hub_session/specs/Serving
--   each answer, by its code     answer, reply_to                        hub_session/specs/Answers
--   how the boards stand         states_of                               session_serve/specs/Boards
--   the lines of boards          lines_of, IsAddedUp                     session_serve/specs/Boards,
--                                                                        client_history/specs/Shown
--   each board and its link      IsServedOver: IsLiveRun, IsSilentRun,   client_history/specs/Boards,
--                                IsDownRun                               board_history/specs/LinkRuns
--   what passed over any link    IsMachineBoard                          board_history/specs/Machine
--   timeouts in those lines      TimeOutsWaited                          board_history/specs/LinkRuns
--   replies in those lines       RepliesCame                             board_history/specs/LinkRuns
--   lost packets in those lines  HasLostOnlyIfFailed                     client_history/specs/Shown
--   the numbers of answers       AllTellAnswers                          serve_command/specs/Answers
--   the frames for each board    OfEachBoard, OfEachWithCode             serve_command/specs/Frames
--   their places                 PlacesOfFramesRise,                     serve_command/specs/Frames
--                                PlacesOfFramesDiffer, IsPlaced
--   code 0: executed there       IsAnsweredRightly, IsReplyAt            serve_command/specs/Frames,
--                                                                        client_history/specs/Shown
--   code 0: over any link        IsAnsweredAsCarried,                    serve_command/specs/Frames,
--                                HasBroughtReply                         board_history/specs/Receives
--   codes 1 and 2: the rounds    FramesGivenUpOnlyAfterRounds            serve_command/specs/Frames
--   code 3: the link failed      IsLostOnlyWithLink                      serve_command/specs/Frames
--   codes 4, 5, idle boards      HasUnaskedCodes                         serve_command/specs/Frames
--   codes 6 to 8: the rules      AreCodedByRules                         serve_command/specs/Ruled
--   code 8: filled before it     AreServed.filled_before:                session_serve/specs/Refusals
--                                AreFilledBefore
--   no lane beyond its limits    AreServed.limits: KeepLimits            client_history/specs/Planned
--   over a faithful link         IsFaithful, NoneIsGivenUpOrLost         board_history/specs/Links,
--                                                                        serve_command/specs/Frames
--   the pairs, at every status   GivesBack, AreBack                      ipb_outside/specs/Pairs,
--                                                                        session_serve/specs/Serving
--   the links, at every status   IsLinkedTo, below                       session_serve/specs/Boards
--   what boards executed, at     CameInFrames, of serve_document and     session_serve/specs/Executed
--   every status                 control
use Rattle.std.specs.Prelude.{◌≡◌, ℕ, ◌≤◌, List, [], ◌∷◌, length, None, IfSome}
use Rattle.std.specs.List.{AllByRecursion}
use Rattle.ipb_base.specs.Lists.{IsPrefix}
use Rattle.ipb_outside.specs.Pairs.{PairReport}
use Rattle.board_specs.specs.declared.spec.BoardSpec.{BoardSpec}
use Rattle.board_specs.specs.declared.spec.LinkSpec.{LinkSpec}
use Rattle.world_model.specs.Board.{bodies_executed}
use Rattle.world_model.specs.Settings.{Limits}
use Rattle.script_lang.specs.declared.session.Session.{Session}
use Rattle.transcript.specs.declared.line.BoardLine.{BoardLine}
use Rattle.transcript.specs.Lines.{board_line}
use Rattle.transcript.specs.Shown.{places_told}
use Rattle.board_history.specs.Runs.{greeting_of, opens_with}
use Rattle.board_history.specs.Links.{LinkReport, IsFaithful, board_there}
use Rattle.board_greeting.specs.Links.{link_specs}
use Rattle.board_history.specs.LinkRuns.{RepliesCame, TimeOutsWaited}
use Rattle.client_history.specs.Boards.{ServedBoard, run_of}
use Rattle.client_history.specs.Shown.{HasLostOnlyIfFailed, IsAddedUp}
use Rattle.hub_lane.specs.declared.answers.BoardState.{BoardState}
use Rattle.hub_session.specs.declared.served.Served.{Served}
use Rattle.hub_session.specs.Codes.{replied_code, timed_out_code, unsent_code}
use Rattle.session_serve.specs.Boards.{AreLinksTo, states_of}
use Rattle.session_serve.specs.Connections.{Conversation}
use Rattle.session_serve.specs.Serving.{AreServed, HadMemory}
use Rattle.serve_command.specs.Answers.{AllTellAnswers, HasWrittenAll}
use Rattle.serve_command.specs.Frames.{FramesGivenUpOnlyAfterRounds, HasLane, HasUnaskedCodes, IsAnsweredAsCarried}
use Rattle.serve_command.specs.Frames.{IsAnsweredRightly}
use Rattle.serve_command.specs.Frames.{IsLostOnlyWithLink, IsPlaced, NoneIsGivenUpOrLost, OfEachBoard, OfEachFrame}
use Rattle.serve_command.specs.Frames.{OfEachWithCode, PlacesOfFramesDiffer, PlacesOfFramesRise, place_on}
use Rattle.serve_command.specs.Ruled.{AreCodedByRules}
use Rattle.serve_command.specs.Text.{serve_text, serve_status}
use Rattle.session_input.specs.Deserved.{IsServable}

-- What follows for a board that was served, and its link:
pub record IsServedRightly (settings : Limits) (spec : BoardSpec) (served : ServedBoard) (link : LinkReport) : Type 0
  where
    -- where the link tells, the board executed no more packets than its line tells places
    pub executed_some : IfSome (board_there link.telling)
        (λ board. length (bodies_executed board) ≤ places_told (board_line (run_of spec served)))
    -- each place in its line was replied to, timed out or lost
    pub summed : IsAddedUp (board_line (run_of spec served))
    -- with so many timeouts in its line, its link had the quiet receives of their rounds, and where it tells it held a
    -- datagram in each round
    pub waited : TimeOutsWaited settings (board_line (run_of spec served)) link
    -- for each reply that its line counts, its link handed out a datagram, and one that answered the greeting
    pub heard : RepliesCame (board_line (run_of spec served)) link
    -- its line tells a packet lost only where the link failed
    pub lost : HasLostOnlyIfFailed (board_line (run_of spec served)) link
    -- where the link tells, held nothing back and did not fail, the board is live
    pub live : IsFaithful link → served.told ≡ greeting_of spec.link

-- so of all boards, in order: there is one link for each
abbrev pub AreServedRightly : Limits → List BoardSpec → List ServedBoard → List LinkReport → Type 0
AreServedRightly settings [] [] [] = Unit {0}
AreServedRightly settings (spec ∷ specs) (served ∷ boards) (link ∷ links) =
    IsServedRightly settings spec served link × AreServedRightly settings specs boards links
AreServedRightly settings specs boards links = ⊥

-- What the frames of all connections for the board at a position were answered, where `boards` are the states of all
-- boards, and `link` is the link of this one:
pub record AreAnsweredRightly (settings : Limits) (boards : List BoardState) (conversations : List Conversation)
    (position : ℕ) (spec : BoardSpec) (link : LinkReport) : Type 0 where
  -- the places of a connection's frames rise in the order of the frames, and no two frames have one place
  pub rise : PlacesOfFramesRise position conversations
  pub differ : PlacesOfFramesDiffer position conversations
  -- a frame that is answered by code 0 or 1 has a place, whether the link tells or not, and one by code 2 has none
  pub replied_placed : OfEachWithCode replied_code position boards (IsPlaced position) conversations
  pub timed_out_placed : OfEachWithCode timed_out_code position boards (IsPlaced position) conversations
  pub unsent_unplaced : OfEachWithCode unsent_code position boards (λ e. place_on position e ≡ None) conversations
  -- where the link tells, each frame that is answered by code 0 has a place where the board executed its body, and the
  -- reply frame has the words of a bus with a single thread there
  pub replied : IfSome (board_there link.telling) (λ board. OfEachWithCode replied_code position boards
      (IsAnsweredRightly (opens_with spec.link) (bodies_executed board) boards position) conversations)
  -- whether the link tells or not, each frame that is answered by code 0 has the words of a control packet that the
  -- link brought behind the greeting, with the identifier of its place
  pub carried : OfEachWithCode replied_code position boards (IsAnsweredAsCarried link boards position) conversations
  -- where the board is live and so many frames of a connection are answered by code 1 or 2, the link had a quiet
  -- receive behind the greeting in each of the rounds of each and one more, and where it tells it held a datagram in
  -- each of the rounds
  pub gave_up : HasLane position boards
      → FramesGivenUpOnlyAfterRounds settings link position boards conversations
  -- a frame is answered by code 3 only where the link failed
  pub lost : IsLostOnlyWithLink link position boards conversations
  -- where the link tells, held nothing back and did not fail, no frame is answered by code 1, 2 or 3
  pub none_lost : IsFaithful link → NoneIsGivenUpOrLost position boards conversations

-- Of the bytes of the input, the number of connections that was asked for, what the links that were given back show,
-- what the pairs showed that came and that went back, the status and the text:
pub record IsServiceOf (bytes : List ℕ) (count : ℕ) (links : List LinkReport) (came back : List PairReport) (status : ℕ)
    (text : List ℕ) : Type 0 where
  -- the bytes stand for a session that can be served, one without a policy that could be run; its scripts were checked
  -- and not run
  pub session : Session
  pub servable : IsServable bytes session
  -- there are lines of the connections and of the boards, and the text is these lines and nothing else
  pub connections : List Served
  pub lines : List BoardLine
  pub spelled : text ≡ serve_text connections lines
  -- as many pairs came as were asked for, each is a connection, and none ended with want of memory
  pub pairs : length came ≡ count
  pub as_many : length connections ≡ count
  pub memory : AllByRecursion HadMemory connections
  -- Each line of a connection is what passed over its pair from its coming to its going back, where the boards
  -- stand as their lines tell. The bodies that a board was asked, and what became of them, are those of the frames of
  -- all connections, and over its link they are one legal history: places from 1, each of one body, replies of one bus
  -- with a single thread where the link tells, bodies given up only after their rounds, and lost only with a link that
  -- failed. Each line of a board tells that. Bodies were refused by the rules of planning alone, and connections
  -- submitted to no lane more than it takes.
  pub served : AreServed session.settings session.boards links came back connections lines
  -- from which follows for each board
  pub rightly : AreServedRightly session.settings session.boards served.boards links
  -- and for the frames for each board, by the codes of their reply frames
  pub frames : OfEachBoard
      (AreAnsweredRightly session.settings (states_of served.boards) served.conversations) session.boards links
  -- a frame is answered by code 4 exactly where its bytes are no control packet, and by code 5 exactly where they are
  -- one and the session has no board at its position; a control packet for a board whose line is `silent` is answered
  -- by code 2, and one for a board whose line is `down` by code 3
  pub unasked : OfEachFrame (HasUnaskedCodes session.boards (states_of served.boards)) served.conversations
  -- a frame for a live board is answered by code 6 exactly where its body is too long for a packet of the board, by
  -- code 7 exactly where it is not and its longest reply is, and by code 8 only where connections filled its lane
  pub ruled : (position : ℕ) → AreCodedByRules served.boards served.conversations position
  -- where no connection ended with a fault of writing, the line of a live board tells as many packets replied to, and
  -- as many timed out, as requests for it were answered by these codes
  pub numbers : AllByRecursion HasWrittenAll connections
      → AllTellAnswers (states_of served.boards) served.conversations 0 lines
  -- the status is 0 exactly where every connection ended between two frames, with no fault
  pub status' : status ≡ serve_status connections

-- At every status: the bytes stand for a session that can be served, links were made of the specs of its first boards,
-- in order, and the links are those of these boards, in order, each given back once.
pub record IsLinkedTo (bytes : List ℕ) (specs : List LinkSpec) (links : List LinkReport) : Type 0 where
  pub session : Session
  pub servable : IsServable bytes session
  pub first : IsPrefix specs (link_specs session.boards)
  pub linked : AreLinksTo session.boards links
