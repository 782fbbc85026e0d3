-- A board that was greeted over a tap, and what is given back behind it.
use Rattle.std.proofs.Common.{◌≡◌, ◌≤◌, ◌∙◌, ℕ, ◌++◌, ◌&&◌, Bool, true, false, List, [], ◌∷◌, length, map}
use Rattle.std.proofs.Common.{Result, Ok, Err, IfOk, Option, Some, None, IfSome}
use Rattle.std.proofs.Common.{ap, ap₂, refl, slice_index_or, subst, sym, arith}
use Rattle.std.proofs.lemmas.List.{length-map}
use Rattle.std.specs.Global.{Vec}
use Rattle.ipb_base.specs.Lists.{IsPrefix}
use Rattle.std.specs.List.{AllByRecursion}
use Rattle.links.specs.Telling.{Telling}
use Rattle.world_model.specs.Board.{bodies_executed}
use Rattle.world_model.specs.Facts.{bodies_of}
use Rattle.world_model.specs.Hub.{Hub}
use Rattle.world_model.specs.Settings.{Limits}
use Rattle.board_specs.specs.declared.spec.BoardSpec.{BoardSpec}
use Rattle.board_specs.specs.declared.spec.LinkSpec.{LinkSpec}
use Rattle.board_specs.specs.declared.spec.LinkSpec.TheVariants.{Sim, Udp}
use Rattle.links.specs.Racks.{telling_for}
use Rattle.hub_lane.specs.declared.greeting.Greeted.{Greeted}
use Rattle.hub_lane.specs.declared.greeting.Greeted.TheVariants.{Ready, Silent, Down, NoMemory}
use Rattle.hub_lane.specs.Greeting.{link_of}
use Rattle.hub_lane.specs.Standing.{IsStanding}
use Rattle.lane_record.specs.declared.outcome.Outcome.{Outcome}
use Rattle.board_history.specs.Links.{IsBoardOf, LinkReport, board_there, numbers_of}
use Rattle.board_history.specs.LinkRuns.{AreRunsOver, IsMergeOfAsked}
use Rattle.board_history.proofs.LaneShown.{at_some}
use Rattle.board_greeting.specs.Boards.{AreReached, HasMemory, IsFreshLink, IsReached}
use Rattle.board_greeting.specs.Reports.{shown_by}
use Rattle.board_greeting.specs.Standings.{links_in, standing_of}
use Rattle.links.specs.declared.link.Link.{Ghosts}
use Rattle.board_greeting.specs.declared.standing.Standing.{Standing}
use Rattle.board_greeting.proofs.Boards.{stands_as_told}
use Rattle.script_steps.specs.declared.operation.Step.{Step}
use Rattle.script_lang.specs.declared.session.Session.{Session}
use Rattle.script_plans.specs.declared.board_run.BoardRun.{BoardRun}
use Rattle.session_input.specs.Recording.{IsOneSimulated}
use Rattle.session_run.specs.Links.{AreLeft, HasStood}
use Rattle.session_run.proofs.Left.{FirstLaw}
use Rattle.session_run.proofs.Sessions.{FreshLaw}
use Rattle.command_terms.specs.declared.answer.Answer.{Answer}
use Rattle.command_terms.proofs.Leaving.{Told, at_links}
use Rattle.capture_reader.specs.declared.capture.Capture.{Capture}
use Rattle.capture_reader.specs.declared.capture.Caught.{Caught}
use Rattle.capture_reader.specs.CaptureText.{AreItems}
use Rattle.capture_reader.specs.Proved.{IsProved}
use Rattle.record_command.specs.Traffic.{HasCaught, IsTrafficOf, IsUnused}
use Rattle.record_command.specs.Captures.{bodies_in}
use Rattle.record_command.specs.Headline.{ShowsTraffic, first_of}
use Rattle.record_command.specs.Steps.{Records, WritesOf}

-- ---- one board

pub one_is_one : (boards : List BoardSpec) → IsOneSimulated boards → length boards ≡ 1
one_is_one [] is = absurd is
one_is_one (board ∷ []) is = refl
one_is_one (board ∷ other ∷ boards) is = absurd is

pub at_first : (P : BoardSpec → Type 0) (boards : List BoardSpec) (board : BoardSpec) → IsOneSimulated boards
    → AllByRecursion P boards → board ≡ slice_index_or boards 0 board → P board
at_first P [] board one all is = absurd one
at_first P (first ∷ []) board one all is = subst P (sym is) all.0
at_first P (first ∷ other ∷ boards) board one all is = absurd one

pub one_board : (boards : List BoardSpec) (board : BoardSpec) → IsOneSimulated boards
    → board ≡ slice_index_or boards 0 board → boards ≡ board ∷ []
one_board [] board one is = absurd one
one_board (b ∷ []) board one is = ap (λ (spec : BoardSpec). spec ∷ []) (sym is)
one_board (b ∷ other ∷ boards) board one is = absurd one

pub left_alone : FreshLaw → (settings : Limits) (specs : List BoardSpec) (scripts : List (List Step))
    (shown : LinkReport) → length specs ≡ 1
    → ((spec : BoardSpec) → specs ≡ spec ∷ [] → IsFreshLink settings spec shown)
    → AreLeft 0 specs scripts (shown ∷ [])
left_alone law settings [] scripts shown one reached = absurd (omega (arith, one))
left_alone law settings (spec ∷ []) scripts shown one reached =
    (law settings spec 0 scripts shown (reached spec refl), tt)
left_alone law settings (spec ∷ other ∷ specs) scripts shown one reached = absurd (omega (arith, one))

pub reached_alone : {L : Type 0} (shows : L → LinkReport) (settings : Limits) (specs : List BoardSpec)
    (board : Greeted L) → length specs ≡ 1 → HasMemory board
    → ((spec : BoardSpec) → specs ≡ spec ∷ [] → IsReached settings spec board (shows (link_of board)))
    → AreReached shows settings specs (standing_of board ∷ [])
reached_alone shows settings [] board one memory reached = absurd (omega (arith, one))
reached_alone shows settings (spec ∷ []) board one memory reached =
    (stands_as_told shows settings spec board memory (reached spec refl), tt)
reached_alone shows settings (spec ∷ other ∷ specs) board one memory reached = absurd (omega (arith, one))

-- one that is put where none is
pub pushed_alone : {A : Type 0} (before now : List A) (item : A) → now ≡ before ++ item ∷ [] → before ≡ []
    → now ≡ item ∷ []
pushed_alone before now item is none = is ∙ ap (λ (l : List _). l ++ item ∷ []) none

-- and one that is given back alone
pub link_alone : {L : Type 0} (board : Greeted L) → links_in (standing_of board ∷ []) ≡ link_of board ∷ []
link_alone (Ready lane) = refl
link_alone (Silent link rounds) = refl
link_alone (Down link) = refl
link_alone (NoMemory link) = refl

pub back_alone : {L : Type 0} (old : List L) (boards : List (Standing L)) (now : List L) (board : Greeted L)
    → now ≡ old ++ links_in boards → old ≡ [] → boards ≡ standing_of board ∷ [] → now ≡ link_of board ∷ []
back_alone old boards now board is none one =
    is ∙ (ap₂ (λ (before : List _) (given : List (Standing _)). before ++ links_in given) none one ∙ link_alone board)

pub same_alone : {A : Type 0} (one other : A) → one ∷ [] ≡ other ∷ [] → one ≡ other
same_alone one other same = ap (λ (l : List _). slice_index_or l 0 one) same

-- as many taps are given back as there are boards, so one
pub kept_one : {L : Type 0} (shows : L → LinkReport) (old new : List L) → old ≡ [] → (specs : List BoardSpec)
    → length specs ≡ 1 → (holds : List LinkReport → Type 0) (numbers : List ℕ)
    → Told shows old new (λ links. holds links × (length links ≡ length specs) × (numbers_of links ≡ numbers))
    → length new ≡ 1
kept_one shows old new none specs one holds numbers told =
    ap length (told.1 ∙ ap (λ (l : List _). l ++ told.0) none) ∙ sym (length-map told.0 shows) ∙ told.2.1 ∙ one

-- and what is left is told of that one
pub stays_left : {L : Type 0} (shows : L → LinkReport) (old new : List L) (tap : L) → old ≡ [] → new ≡ tap ∷ []
    → (specs : List BoardSpec) (holds : List LinkReport → Type 0) (numbers : List ℕ)
    → Told shows old new (λ links. holds links × (length links ≡ length specs) × (numbers_of links ≡ numbers))
    → holds (shows tap ∷ []) × (numbers_of (shows tap ∷ []) ≡ numbers)
stays_left shows old new tap none is specs holds numbers told =
    let all = at_links shows old new (tap ∷ []) (is ∙ ap (λ (l : List _). l ++ tap ∷ []) (sym none))
    (λ links. holds links × (length links ≡ length specs) × (numbers_of links ≡ numbers)) told in
    (all.0, all.2)

-- its link has the number of the one that was greeted
pub number_stays : {L : Type 0} (seen : Ghosts L) (tap : L) (board : Greeted L) (boards : List (Standing L))
    → boards ≡ standing_of board ∷ []
    → numbers_of (shown_by seen tap ∷ []) ≡ numbers_of (map (shown_by seen) (links_in boards))
    → seen.number tap ≡ seen.number (link_of board)
number_stays {L} seen tap board boards one same =
    same_alone (seen.number tap) (seen.number (link_of board))
    (same ∙ ap (λ (ls : List L). numbers_of (map (shown_by seen) ls))
    (ap (λ (bs : List (Standing L)). links_in bs) one ∙ link_alone board))

pub ran_alone : {L E : Type 0} (shows : L → LinkReport) (old new : List L) (tap : L) → old ≡ [] → new ≡ tap ∷ []
    → (holds : List BoardRun → List LinkReport → Type 0) (result : Result (Vec BoardRun) E)
    → IfOk result (λ runs. Told shows old new (holds runs.items))
    → IfOk result (λ runs. holds runs.items (shows tap ∷ []))
ran_alone shows old new tap none is holds (Ok runs) told =
    at_links shows old new (tap ∷ []) (is ∙ ap (λ (l : List _). l ++ tap ∷ []) (sym none)) (holds runs.items) told
ran_alone shows old new tap none is holds (Err why) told = tt

pub ran_for : {L E : Type 0} (session : Session) (steps : List (List Step)) (specs : List BoardSpec)
    (shows : L → LinkReport) (there link : L) (result : Result (Vec BoardRun) E) → specs ≡ session.boards → link ≡ there
    → IfOk result (λ runs. AreRunsOver session.settings 0 specs steps runs.items (shows there ∷ []))
    → IfOk result (λ runs. AreRunsOver session.settings 0 session.boards steps runs.items (shows link ∷ []))
ran_for session steps specs shows there link (Ok runs) same is ran =
    subst (λ (boards : List BoardSpec). AreRunsOver session.settings 0 boards steps runs.items (shows link ∷ [])) same
    (subst (λ (l : _). AreRunsOver session.settings 0 specs steps runs.items (shows l ∷ [])) (sym is) ran)
ran_for session steps specs shows there link (Err why) same is ran = tt

-- a link that was just made for a board was not used
pub unused_for : (spec : LinkSpec) (telling : Option Telling) → telling ≡ telling_for spec → IfSome telling IsUnused
unused_for (Sim mtu buffers first ranges fates) telling is =
    subst (λ (t : Option Telling). IfSome t IsUnused) (sym is) (record { air = refl; handed = refl })
unused_for (Udp address port wait) telling is = subst (λ (t : Option Telling). IfSome t IsUnused) (sym is) tt

-- ---- what is written

pub both_true : (a b all : Bool) → a ≡ true → all ≡ b → all ≡ (a && b)
both_true a b all true_is is = is ∙ ap (λ (x : Bool). x && b) (sym true_is)

pub one_false : (a b all : Bool) → a ≡ false → all ≡ a → all ≡ (a && b)
one_false a b all false_is is = is ∙ (false_is ∙ ap (λ (x : Bool). x && b) (sym false_is))

-- ---- what the capture shows

-- over the link of a simulated board, which tells
told_first : (spec : LinkSpec) (telling : Option Telling) (first : ℕ) → IsBoardOf spec (board_there telling)
    → first_of spec ≡ Some first → (t : Telling) × (telling ≡ Some t) × (first ≡ t.told.board.first)
told_first (Sim mtu buffers own ranges fates) None first is same = absurd is
told_first (Sim mtu buffers own ranges fates) (Some t) first is same = (t, refl, cc)
told_first (Udp address port wait) telling first is same = absurd cc

abbrev pub SentLaw : Type 0
SentLaw = (stopped : Bool) (limits : Limits) (hub : Hub) (outcomes : List (Option Outcome))
    (lates : List (Option (List ℕ))) (t : Telling) (items : List Caught)
    → IsStanding stopped limits hub outcomes lates t → IsTrafficOf t items
    → IsPrefix (bodies_in (record { first = t.told.board.first; items = items })) (bodies_of hub.sent)

abbrev pub ExecutedLaw : Type 0
ExecutedLaw = (stopped : Bool) (limits : Limits) (hub : Hub) (outcomes : List (Option Outcome))
    (lates : List (Option (List ℕ))) (t : Telling) (items : List Caught)
    → IsStanding stopped limits hub outcomes lates t → IsTrafficOf t items
    → IsPrefix (bodies_executed t.told.board) (bodies_in (record { first = t.told.board.first; items = items }))

abbrev pub ProvedLaw : Type 0
ProvedLaw = (stopped : Bool) (limits : Limits) (hub : Hub) (outcomes : List (Option Outcome))
    (lates : List (Option (List ℕ))) (t : Telling) (items : List Caught) (proved : ℕ)
    → IsStanding stopped limits hub outcomes lates t → IsTrafficOf t items
    → AreItems items → IsProved (record { first = t.told.board.first; items = items }) proved
    → proved ≤ length (bodies_executed t.told.board)

module _ (sent : SentLaw) (executes : ExecutedLaw) (proves : ProvedLaw) (front : FirstLaw) where
  shows_traffic : (spec : BoardSpec) (steps : List (List Step)) (t : Telling) (first : ℕ) (items : List Caught)
      (proved : ℕ) → first ≡ t.told.board.first → HasStood spec 0 steps t → IsTrafficOf t items → AreItems items
      → IsProved (record { first = first; items = items }) proved
      → ShowsTraffic spec steps (record { first = first; items = items }) proved t
  shows_traffic spec steps t first items proved same stood traffic short is_proved =
      let from = sym same in record {
        traffic = traffic;
        sent = subst (λ (n : ℕ). IsMergeOfAsked spec 0 steps (bodies_in (record { first = n; items = items }))) from
            (front spec 0 steps (bodies_in (record { first = t.told.board.first; items = items }))
            (bodies_of stood.hub.sent)
            (sent stood.stopped stood.limits stood.hub stood.outcomes stood.lates t items stood.standing traffic) stood.sent);
        executed_first = subst (λ (n : ℕ). IsPrefix (bodies_executed t.told.board)
            (bodies_in (record { first = n; items = items }))) from
            (executes stood.stopped stood.limits stood.hub stood.outcomes stood.lates t items stood.standing traffic);
        executed_proved = proves stood.stopped stood.limits stood.hub stood.outcomes stood.lates t items proved stood.standing
            traffic short (subst (λ (n : ℕ). IsProved (record { first = n; items = items }) proved) same is_proved);
      }

  pub records_of : {E : Type 0} (session : Session) (steps : List (List Step)) (board : BoardSpec)
      (result : Result (Vec BoardRun) E) (capture : Capture) (answer : Answer) (shown : LinkReport)
      → session.boards ≡ board ∷ []
      → IfOk result (λ runs. AreRunsOver session.settings 0 session.boards steps runs.items (shown ∷ []))
      → AreLeft 0 session.boards steps (shown ∷ []) → first_of board.link ≡ Some capture.first
      → HasCaught shown.telling shown.traffic capture.items → WritesOf steps result capture answer
      → Records session steps (shown ∷ []) answer.status answer.text.items
  records_of session steps board (Ok runs) capture answer shown one ran left first caught writes =
      let is = (subst (λ (bs : List BoardSpec). AreLeft 0 bs steps (shown ∷ [])) one left).0 in
      let told = told_first board.link shown.telling capture.first is.board' first in
      let stood = at_some (HasStood board 0 steps) shown.telling told.0 told.1 is.stood in
      let traffic = at_some (λ (t : Telling). IsTrafficOf t capture.items) shown.telling told.0 told.1 caught.traffic in
      record {
        board = board;
        one_board = one;
        runs = runs.items;
        boards = ran;
        capture = capture;
        first = first;
        writes = writes;
        link = shown;
        one_link = refl;
        is_traffic = caught.is_traffic;
        telling = told.0;
        tells = told.1;
        shows = shows_traffic board steps told.0 capture.first capture.items writes.proved told.2 stood traffic
            caught.short writes.is_proved;
      }
  records_of session steps board (Err why) capture answer shown one ran left first caught writes = absurd writes
