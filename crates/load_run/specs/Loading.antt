-- LOADING: what is promised of the summary of a generated session. Profile.
--
-- Four clients ask for COUNT operations on one board together. In whatever order their threads take turns, and whatever
-- the link loses, repeats, delays or reorders, the board has one order of packets. The summary tells how many
-- operations were replied to with code 0, the sum of the words that a bus with a single thread answers to them at their
-- places of that order, and how many packets the order has. Where every operation was done, these words are 0, 1, .. up
-- to the one before COUNT, in some order: each was executed once.
use Rattle.std.specs.Prelude.{◌≡◌, ◌<◌, ◌≤◌, ◌^◌, ℕ, ◌+◌, Bool, true, List, length, Result, Err, IfOk}
use Rattle.std.specs.List.{AllByRecursion, AllZip}
use Rattle.board_specs.specs.declared.spec.BoardSpec.{BoardSpec}
use Rattle.board_specs.specs.declared.spec.LinkSpec.{LinkSpec}
use Rattle.world_model.specs.Settings.{Limits}
use Rattle.script_steps.specs.declared.operation.Step.{Step}
use Rattle.script_lang.specs.declared.script_refusal.TheConstants.{MAX_LINES}
use Rattle.board_history.specs.Lines.{IsBusLine}
use Rattle.script_plans.specs.declared.board_run.BoardRun.{BoardRun}
use Rattle.transcript.specs.Lines.{transcript_of}
use Rattle.transcript.specs.Shown.{ShowsAllPlaces}
use Rattle.board_history.specs.Links.{IsFaithful, IsUntouched, LinkReport}
use Rattle.board_history.specs.LinkRuns.{AreRunsOver, AreWholeRuns, IsLineOfRounds, IsUngarbledWhereTold}
use Rattle.board_history.specs.LinkRuns.{RepliesCame, ShowAloneRuns, TimeOutsWaited}
use Rattle.session_run.specs.Scripts.{CanBeRun}
use Rattle.load_run.specs.Claims.{HasEachBelow, TellsRuns, sum_below}
use Rattle.ipb_base.specs.Numbers.{most_operations}
use Rattle.load_run.specs.Generated.{boards, settings, steps}
use Rattle.load_run.specs.Summary.{all_done, summary_of, summary_text, words_before}
use Rattle.session_run.specs.Links.{AreLeft, AreMadeFor, CanBeReached}
use Rattle.session_run.specs.declared.session.RunFault.{RunFault}
use Rattle.session_run.specs.declared.session.RunFault.TheVariants.{Rack}
use Rattle.load_run.specs.declared.run.Load.{Load}

-- What follows for the run of a generated session over these links:
pub record IsRightLoad (count : ℕ) (runs : List BoardRun) (links : List LinkReport) : Type 0 where
  -- what the numbers of its summary are
  pub summed : TellsRuns count runs (summary_of count (transcript_of (steps count) runs))
  -- its lines show the places 1, 2, .. up to the number of packets that were sent first, and no other place
  pub places : ShowsAllPlaces (transcript_of (steps count) runs)
  -- none is garbled where the link tells: each reply answers the packet at its place
  pub answered : AllByRecursion (AllByRecursion (IsUngarbledWhereTold runs links))
      (transcript_of (steps count) runs).clients
  -- one that was timed out shows the rounds of the session, and with so many timeouts the link had the quiet receives
  -- of their rounds, and where it tells it held a datagram in each
  pub rounds : AllByRecursion (AllByRecursion (IsLineOfRounds settings.rounds))
      (transcript_of (steps count) runs).clients
  pub waited : AllZip (TimeOutsWaited settings) (transcript_of (steps count) runs).boards links
  -- for each reply that the line of the board counts, the link handed out a datagram, and one that answered the
  -- greeting
  pub heard : AllZip RepliesCame (transcript_of (steps count) runs).boards links
  -- where the link held nothing back and did not fail, lines fail by codes of the bus alone, every body was replied to,
  -- and the board executed all bodies
  pub codes : AllByRecursion IsFaithful links
      → AllByRecursion (AllByRecursion IsBusLine) (transcript_of (steps count) runs).clients
  pub whole : AllByRecursion IsFaithful links → AreWholeRuns (boards count) runs links
  pub alone : AllByRecursion IsFaithful links → ShowAloneRuns 0 (boards count) (steps count) runs
  -- where every operation was done, the words before are the numbers below the count, their sum is that of these
  -- numbers, and as many packets were sent as operations were asked for
  pub words : all_done (summary_of count (transcript_of (steps count) runs)) ≡ true
      → HasEachBelow count (words_before (transcript_of (steps count) runs).clients)
  pub total : all_done (summary_of count (transcript_of (steps count) runs)) ≡ true
      → (summary_of count (transcript_of (steps count) runs)).total ≡ sum_below count
  pub asked : all_done (summary_of count (transcript_of (steps count) runs)) ≡ true
      → (summary_of count (transcript_of (steps count) runs)).places ≡ count

-- Of the number of operations that were asked for, what the link that was given back shows, whether all was done, and
-- the text:
pub record IsLoadOf (count : ℕ) (links : List LinkReport) (done : Bool) (text : List ℕ) : Type 0 where
  -- there is an outcome for each body that the generated scripts ask of the board, such that the bodies that were sent
  -- have one order, each client's in that of its script, and all that `run` promises of a board and its link
  pub runs : List BoardRun
  pub over : AreRunsOver settings 0 (boards count) (steps count) runs links
  -- the text is the summary of these outcomes, and nothing else
  pub spelled : text ≡ summary_text (summary_of count (transcript_of (steps count) runs))
  -- from which follows
  pub rightly : IsRightLoad count runs links
  -- all is done exactly where every operation was replied to with code 0
  pub told : done ≡ all_done (summary_of count (transcript_of (steps count) runs))

-- ---- what private functions promise one another

-- the same without what follows
pub record PrintsLoad (count : ℕ) (links : List LinkReport) (done : Bool) (text : List ℕ) : Type 0 where
  pub runs : List BoardRun
  pub over : AreRunsOver settings 0 (boards count) (steps count) runs links
  pub spelled : text ≡ summary_text (summary_of count (transcript_of (steps count) runs))
  pub told : done ≡ all_done (summary_of count (transcript_of (steps count) runs))

abbrev pub LoadLaw : Type 0
LoadLaw = (count : ℕ) (runs : List BoardRun) (links : List LinkReport) → count ≤ most_operations
    → AreRunsOver settings 0 (boards count) (steps count) runs links → IsRightLoad count runs links

-- these are the parts of a generated session, which can be run
pub record IsGenerated (count : ℕ) (limits : Limits) (specs : List BoardSpec)
    (scripts : List (List Step)) : Type 0 where
  pub limits' : limits ≡ settings
  pub specs' : specs ≡ boards count
  pub scripts' : scripts ≡ steps count
  pub few_boards : length specs < 2 ^ 32
  pub reached : AllByRecursion CanBeReached specs
  pub can : CanBeRun scripts
  pub short : AllByRecursion (λ steps. length steps ≤ MAX_LINES) scripts

-- What a load left: `made` and `makes` are the specs that the rack made links of before and after, and `Tells` is what
-- holds of the text. Links were made of the specs of the first boards and given back once each; what was sent to a board,
-- and so what it executed, is a merge of bodies that the scripts ask of it.
pub record LoadLeaves (Tells : ℕ → List LinkReport → Bool → List ℕ → Type 0) (count : ℕ)
    (made makes : List LinkSpec) (result : Result Load RunFault) (links : List LinkReport) : Type 0 where
  pub left : AreLeft 0 (boards count) (steps count) links
  pub links_made : AreMadeFor (boards count) links made makes
  pub tells : IfOk result (λ load. Tells count links load.done load.text.items)
  pub untouched : result ≡ Err Rack → AllByRecursion IsUntouched links
