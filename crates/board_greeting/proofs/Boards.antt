-- Boards at their greeting.
use Rattle.std.proofs.Common.{◌≡◌, ℕ, ◌+◌, ◌*◌, ◌≤◌, List, [], ◌∷◌, ◌++◌, length, map, suc}
use Rattle.std.proofs.Common.{Option, Some, None, refl, sym, ap, ◌∙◌, subst, arith, inl, inr, append_assoc, append-nil}
use Rattle.std.proofs.Common.{length-append}
use Rattle.std.proofs.lemmas.List.{length-map, map_push}
use Rattle.std.specs.Prelude.{IfSome}
use Rattle.std.specs.List.{AllByRecursion, slice_get}
use Rattle.ipb_base.specs.Faults.{Rose}
use Rattle.ipb_base.specs.Lists.{IsPrefix}
use Rattle.ipb_base.specs.Word.{AreWords}
use Rattle.board_bus.specs.declared.range.Range.{Range}
use Rattle.board_bus.specs.Cells.{HoldsWords}
use Rattle.board_bus.specs.Ranges.{opening_bus}
use Rattle.board_specs.specs.declared.spec.BoardSpec.{BoardSpec}
use Rattle.board_specs.specs.declared.spec.LinkSpec.{LinkSpec}
use Rattle.board_specs.specs.declared.spec.LinkSpec.TheVariants.{Sim, Udp}
use Rattle.world_model.specs.Board.{Board, bodies_executed}
use Rattle.world_model.specs.Settings.{AreLimits, Limits}
use Rattle.links.specs.declared.link.Link.{Ghosts}
use Rattle.links.specs.Receives.{first_status, receives_in}
use Rattle.links.specs.Telling.{IfTelling, Telling}
use Rattle.board_specs.specs.OpeningWords.{LinkNamesWords}
use Rattle.links.specs.Racks.{telling_for}
use Rattle.hub_lane.specs.declared.greeting.Greeted.{Greeted}
use Rattle.hub_lane.specs.declared.greeting.Greeted.TheVariants.{Ready, Silent, Down, NoMemory}
use Rattle.hub_lane.specs.Greeting.{CanBegin, IfDown, IfReady, IfSilent, StaysFresh, link_of}
use Rattle.hub_lane.specs.Lanes.{IsGreeted, new_lane}
use Rattle.hub_lane.specs.Run.{AreVainRounds, IsGreetingCutOff}
use Rattle.board_history.specs.Links.{IsBoardOf, IsUntouched, LinkReport, board_there, numbers_of}
use Rattle.board_greeting.specs.Boards.{AreFreshLinks, AreReached, HasMemory, LeavesRoom, IsFreshAt, IsGreetedAs}
use Rattle.board_greeting.specs.Boards.{IsReached, OfFirst, StandsAsTold}
use Rattle.board_greeting.specs.Standings.{links_in, standing_of}
use Rattle.board_greeting.specs.declared.standing.Standing.{Standing}
use Rattle.board_greeting.specs.declared.standing.Standing.TheVariants as standing
use Rattle.board_greeting.specs.Reports.{shown_by}
use Rattle.board_greeting.specs.Links.{AreMadeFor, link_specs}
use Rattle.lane_record.specs.Lists.{CountsFrom}
use Rattle.board_history.specs.Links.{CanBeMade}

abbrev pub WordsLaw : Type 0
WordsLaw = (ranges : List Range) → AllByRecursion (λ (range : Range). AreWords range.init) ranges
    → HoldsWords (opening_bus ranges)

can_begin : WordsLaw → (settings : Limits) (spec : LinkSpec) → AreLimits settings → CanBeMade spec
    → LinkNamesWords spec → IfSome (telling_for spec) (CanBegin settings)
can_begin law settings (Sim mtu buffers first ranges fates) limits made words = record {
  start = record {
    few = limits.window_in_range;
    mtu = made.0.mtu_in_range;
    buffers = made.0.buffers_in_range;
    first = made.0.first_in_range;
    opening = law ranges words;
    fresh = refl;
    greetings = tt;
  };
  in_air = λ number has. absurd (omega (arith, has.1));
}
can_begin law settings (Udp address port wait) limits made words = tt

pub can_begin_here : WordsLaw → (settings : Limits) (spec : LinkSpec) (telling : Option Telling) → AreLimits settings
    → CanBeMade spec → LinkNamesWords spec → telling ≡ telling_for spec → IfSome telling (CanBegin settings)
can_begin_here law settings spec telling limits made words is =
    subst (λ (t : Option Telling). IfSome t (CanBegin settings)) (sym is) (can_begin law settings spec limits made
    words)

board_of_spec : (settings : Limits) (spec : LinkSpec) (new : Option Telling)
    → IfTelling (telling_for spec) new (StaysFresh settings) → IsBoardOf spec (board_there new)
board_of_spec settings (Sim mtu buffers first ranges fates) None call = absurd call
board_of_spec settings (Sim mtu buffers first ranges fates) (Some u) call =
    call.same_board ∙ ap (λ (log : List _). record {
      opening = opening_bus ranges;
      mtu = mtu;
      buffers = buffers;
      first = first;
      log = log;
    }) (sym (ap (λ (b : Board). b.log) call.same_board))
board_of_spec settings (Udp address port wait) None call = tt
board_of_spec settings (Udp address port wait) (Some u) call = absurd call

untouched_there : (settings : Limits) (spec : LinkSpec) (new : Option Telling)
    → IfTelling (telling_for spec) new (StaysFresh settings)
    → IfSome (board_there new) (λ (board : Board). bodies_executed board ≡ [])
untouched_there settings (Sim mtu buffers first ranges fates) None call = absurd call
untouched_there settings (Sim mtu buffers first ranges fates) (Some u) call = ap bodies_executed call.same_board
untouched_there settings (Udp address port wait) None call = tt
untouched_there settings (Udp address port wait) (Some u) call = absurd call

begins_still : (settings : Limits) (old new : Option Telling) → IfTelling old new (StaysFresh settings)
    → IfSome new (CanBegin settings)
begins_still settings None None call = tt
begins_still settings None (Some u) call = absurd call
begins_still settings (Some t) None call = absurd call
begins_still settings (Some t) (Some u) call = call.begins

first_told : (P Q : Type 0) (telling : Option Telling) → IfSome telling (λ _. P × Q) → IfSome telling (λ _. P)
first_told P Q None is = tt
first_told P Q (Some t) is = is.0

second_told : (P Q : Type 0) (telling : Option Telling) → IfSome telling (λ _. P × Q) → IfSome telling (λ _. Q)
second_told P Q None is = tt
second_told P Q (Some t) is = is.1

module _ {L : Type 0} (seen : Ghosts L) (settings : Limits) where
  told_as : (link : L) (board : Greeted L)
      → IfReady board (λ lane. lane ≡ new_lane (seen.number lane.link) lane.link settings lane.status)
      → IfReady board (λ lane. IfSome (seen.telling lane.link) (IsGreeted settings lane.status))
      → IfSilent board (λ after rounds. (rounds ≡ settings.rounds)
      × (64 * settings.rounds ≤ 64 * seen.quiets after + seen.gots after))
      → IfSilent board (λ after rounds. IfSome (seen.telling after)
      (λ _. (settings.rounds ≤ seen.quiets after) × (settings.rounds ≤ seen.held after)))
      → IfSilent board (λ after rounds. first_status (receives_in (seen.traffic after)) ≡ None)
      → IfDown board (λ after. first_status (receives_in (seen.traffic after)) ≡ None)
      → IfSilent board (λ after rounds. AreVainRounds settings.rounds (seen.traffic after))
      → IfDown board (λ after. IsGreetingCutOff settings.rounds (seen.traffic after))
      → IfDown board (λ after. Rose (seen.faults link) (seen.faults after))
      → IsUntouched (shown_by seen (link_of board))
      → IsGreetedAs settings board (shown_by seen (link_of board))
  told_as link (Ready lane) ready told silent quiet untold none vain cut_off down untouched =
      record { opened' = ready; greeted = told }
  told_as link (Silent after rounds) ready told silent quiet untold none vain cut_off down untouched = record {
    asked = vain;
    untold = untold;
    waited = silent.1;
    quiet =
        first_told (settings.rounds ≤ seen.quiets after) (settings.rounds ≤ seen.held after) (seen.telling after) quiet;
    held =
        second_told (settings.rounds ≤ seen.quiets after) (settings.rounds ≤ seen.held after) (seen.telling after)
        quiet;
    untouched = untouched;
  }
  told_as link (Down after) ready told silent quiet untold none vain cut_off down untouched =
      record { asked = cut_off; untold = none; failed = omega (arith, down); untouched = untouched }
  told_as link (NoMemory after) ready told silent quiet untold none vain cut_off down untouched = tt

  pub is_reached : (spec : BoardSpec) (link : L) (board : Greeted L) → seen.telling link ≡ telling_for spec.link
      → IfTelling (seen.telling link) (seen.telling (link_of board)) (StaysFresh settings)
      → IfReady board (λ lane. lane ≡ new_lane (seen.number lane.link) lane.link settings lane.status)
      → IfReady board (λ lane. IfSome (seen.telling lane.link) (IsGreeted settings lane.status))
      → IfSilent board (λ after rounds. (rounds ≡ settings.rounds)
      × (64 * settings.rounds ≤ 64 * seen.quiets after + seen.gots after))
      → IfSilent board (λ after rounds. IfSome (seen.telling after)
      (λ _. (settings.rounds ≤ seen.quiets after) × (settings.rounds ≤ seen.held after)))
      → IfSilent board (λ after rounds. first_status (receives_in (seen.traffic after)) ≡ None)
      → IfDown board (λ after. first_status (receives_in (seen.traffic after)) ≡ None)
      → IfSilent board (λ after rounds. AreVainRounds settings.rounds (seen.traffic after))
      → IfDown board (λ after. IsGreetingCutOff settings.rounds (seen.traffic after))
      → IfDown board (λ after. Rose (seen.faults link) (seen.faults after))
      → IsReached settings spec board (shown_by seen (link_of board))
  is_reached spec link board made fresh ready told silent quiet untold none vain cut_off down =
      let call = subst (λ (t : Option Telling). IfTelling t (seen.telling (link_of board)) (StaysFresh settings)) made
      fresh in
      let untouched = untouched_there settings spec.link (seen.telling (link_of board)) call in
      record {
        fresh = record {
          board' = board_of_spec settings spec.link (seen.telling (link_of board)) call;
          untouched = untouched;
          begins = begins_still settings (telling_for spec.link) (seen.telling (link_of board)) call;
        };
        as_told = told_as link board ready told silent quiet untold none vain cut_off down untouched;
      }

-- ---- links given back

pub room_for_one : (kept made count : ℕ) → LeavesRoom kept made (suc count) → kept + 1 ≤ made
room_for_one kept made count (inl none) = absurd (omega (arith, none))
room_for_one kept made count (inr room) = omega (arith, room)

pub room_for_less : (kept kept_now made made_now count : ℕ) → kept_now ≡ kept + 1 → made_now ≡ made
    → LeavesRoom kept made (suc count) → LeavesRoom kept_now made_now count
room_for_less kept kept_now made made_now count one same (inl none) = absurd (omega (arith, none))
room_for_less kept kept_now made made_now count one same (inr room) = inr (omega (arith, room, one, same))

pub room_in_front : (kept made few more : ℕ) → LeavesRoom kept made (few + more) → LeavesRoom kept made few
room_in_front kept made few more (inl none) = inl (omega (arith, none))
room_in_front kept made few more (inr room) = inr (omega (arith, room))

pub room_behind : (kept kept_now made made_now few more : ℕ) → kept_now ≡ kept + few → made_now ≡ made
    → LeavesRoom kept made (few + more) → LeavesRoom kept_now made_now more
room_behind kept kept_now made made_now few more grown same (inl none) = inl (omega (arith, none))
room_behind kept kept_now made made_now few more grown same (inr room) = inr (omega (arith, room, grown, same))

-- the links of one board behind those that were kept
pub links_kept : {L : Type 0} (before old new links rest all : List L) → new ≡ old ++ links
    → old ++ (links ++ rest) ≡ before ++ all → new ++ rest ≡ before ++ all
links_kept before old new links rest all pushed is =
    ap (λ (l : List _). l ++ rest) pushed ∙ (append_assoc old links rest ∙ is)

-- ---- boards greeted one after another

pub stands_as_told : {L : Type 0} (shows : L → LinkReport) (settings : Limits) (spec : BoardSpec) (board : Greeted L)
    → HasMemory board → IsReached settings spec board (shows (link_of board))
    → StandsAsTold shows settings spec (standing_of board)
stands_as_told shows settings spec (Ready lane) memory is = is
stands_as_told shows settings spec (Silent link rounds) memory is = record { fresh = is.fresh; as_told = is.as_told }
stands_as_told shows settings spec (Down link) memory is = record { fresh = is.fresh; as_told = is.as_told }
stands_as_told shows settings spec (NoMemory link) memory is = absurd memory

pub fresh_as_greeted : {L : Type 0} (shows : L → LinkReport) (settings : Limits) (spec : BoardSpec) (board : Greeted L)
    → IsReached settings spec board (shows (link_of board)) → IsFreshAt shows settings spec (standing_of board)
fresh_as_greeted shows settings spec (Ready lane) is = is.fresh
fresh_as_greeted shows settings spec (Silent link rounds) is = is.fresh
fresh_as_greeted shows settings spec (Down link) is = is.fresh
fresh_as_greeted shows settings spec (NoMemory link) is = is.fresh

pub first_of_more : {L : Type 0} (holds : BoardSpec → Standing L → Type 0) (specs : List BoardSpec)
    (boards : List (Standing L)) (spec : BoardSpec) (board : Standing L)
    → slice_get specs (length boards) ≡ Some spec → OfFirst holds specs boards → holds spec board
    → OfFirst holds specs (boards ++ board ∷ [])
first_of_more holds [] [] spec board at are is = absurd cc
first_of_more holds [] (b ∷ boards) spec board at are is = absurd are
first_of_more holds (s ∷ specs) [] spec board at are is =
    let same : s ≡ spec = cc in (subst (λ (x : BoardSpec). holds x board) (sym same) is, tt)
first_of_more holds (s ∷ specs) (b ∷ boards) spec board at are is =
    (are.0, first_of_more holds specs boards spec board at are.1 is)

fresh_one : {L : Type 0} (shows : L → LinkReport) (settings : Limits) (spec : BoardSpec) (board : Standing L)
    → StandsAsTold shows settings spec board → IsFreshAt shows settings spec board
fresh_one shows settings spec (standing.Live lane) is = is.fresh
fresh_one shows settings spec standing.AtHub is = absurd is
fresh_one shows settings spec (standing.Silent link) is = is.fresh
fresh_one shows settings spec (standing.Down link) is = is.fresh

pub reached_fresh : {L : Type 0} (shows : L → LinkReport) (settings : Limits) (specs : List BoardSpec)
    (boards : List (Standing L)) → AreReached shows settings specs boards
    → OfFirst (IsFreshAt shows settings) specs boards
reached_fresh shows settings specs [] are = tt
reached_fresh shows settings [] (b ∷ boards) are = absurd are
reached_fresh shows settings (s ∷ specs) (b ∷ boards) are =
    (fresh_one shows settings s b are.0, reached_fresh shows settings specs boards are.1)

-- the links of the boards, one for each
pub fresh_links : {L : Type 0} (shows : L → LinkReport) (settings : Limits)
    (specs : List BoardSpec) (boards : List (Standing L)) → OfFirst (IsFreshAt shows settings) specs boards
    → AreFreshLinks settings specs (map shows (links_in boards)) × (length (links_in boards) ≡ length boards)
fresh_links shows settings specs [] are = (tt, refl)
fresh_links shows settings [] (b ∷ boards) are = absurd are
fresh_links shows settings (s ∷ specs) (standing.Live lane ∷ boards) are =
    let rest = fresh_links shows settings specs boards are.1 in ((are.0, rest.0), ap suc rest.1)
fresh_links shows settings (s ∷ specs) (standing.AtHub ∷ boards) are = absurd are.0
fresh_links shows settings (s ∷ specs) (standing.Silent link ∷ boards) are =
    let rest = fresh_links shows settings specs boards are.1 in ((are.0, rest.0), ap suc rest.1)
fresh_links shows settings (s ∷ specs) (standing.Down link ∷ boards) are =
    let rest = fresh_links shows settings specs boards are.1 in ((are.0, rest.0), ap suc rest.1)

-- ---- what links were made of

pub none_made : (boards : List BoardSpec) (before : List LinkSpec) → AreMadeFor boards [] before before
none_made boards before = record {
  specs = [];
  grown = sym (append-nil before);
  many = refl;
  first = (link_specs boards, refl);
  in_order = tt;
}

first_more : (boards : List BoardSpec) (front : List LinkSpec) (board : BoardSpec)
    → slice_get boards (length front) ≡ Some board → IsPrefix front (link_specs boards)
    → IsPrefix (front ++ board.link ∷ []) (link_specs boards)
first_more [] [] board at is = absurd cc
first_more [] (s ∷ front) board at is = let same = is.1 in absurd cc
first_more (b ∷ boards) [] board at is =
    let same : b ≡ board = cc in (link_specs boards, ap (λ (x : BoardSpec). x.link ∷ link_specs boards) same)
first_more (b ∷ boards) (s ∷ front) board at is =
    let whole = is.1 in
    let head : b.link ≡ s = cc in
    let tail : link_specs boards ≡ front ++ is.0 = cc in
    let more = first_more boards front board at (is.0, tail) in
    (more.0, ap (λ (x : LinkSpec). x ∷ link_specs boards) head ∙ ap (λ (l : List LinkSpec). s ∷ l) more.1)

-- one more number behind those that count up
counts_more : (k : ℕ) (ns : List ℕ) (n : ℕ) → CountsFrom k ns → n ≡ k + length ns → CountsFrom k (ns ++ n ∷ [])
counts_more k [] n are next = (omega (arith, next), tt)
counts_more k (m ∷ ns) n are next = (are.0, counts_more (k + 1) ns n are.1 (omega (arith, next)))

made_so_many : (boards : List BoardSpec) (links : List LinkReport) (before old : List LinkSpec)
    → AreMadeFor boards links before old → length old ≡ length before + length links
made_so_many boards links before old are =
    ap (λ (l : List LinkSpec). length l) are.grown
    ∙ (length-append before are.specs ∙ ap (λ (n : ℕ). length before + n) are.many)

-- The next link was made after all those before.
pub made_more : (boards : List BoardSpec) (links : List LinkReport) (board : BoardSpec) (link : LinkReport)
    (before old new : List LinkSpec) → slice_get boards (length links) ≡ Some board → AreMadeFor boards links before old
    → link.number ≡ length old → new ≡ old ++ board.link ∷ [] → AreMadeFor boards (links ++ link ∷ []) before new
made_more boards links board link before old new at are next one =
    let numbers = numbers_of links in
    let many = made_so_many boards links before old are in
    let long : length numbers ≡ length links = length-map links (λ (l : LinkReport). l.number) in
    record {
      specs = are.specs ++ board.link ∷ [];
      grown = one ∙ (ap (λ (l : List LinkSpec). l ++ board.link ∷ []) are.grown
          ∙ append_assoc before are.specs (board.link ∷ []));
      many = length-append are.specs (board.link ∷ []) ∙ (ap (λ (n : ℕ). n + 1) are.many
          ∙ sym (length-append links (link ∷ [])));
      first = first_more boards are.specs board (ap (slice_get boards) are.many ∙ at) are.first;
      in_order = subst (CountsFrom (length before)) (sym (map_push (λ (l : LinkReport). l.number) links link))
          (counts_more (length before) numbers link.number are.in_order (omega (arith, next, many, long)));
    }

pub one_made : (boards : List BoardSpec) (board : BoardSpec) (link : LinkReport) (before new : List LinkSpec)
    → boards ≡ board ∷ [] → link.number ≡ length before → new ≡ before ++ board.link ∷ []
    → AreMadeFor boards (link ∷ []) before new
one_made boards board link before new same next one =
    made_more boards [] board link before before new (ap (λ (bs : List BoardSpec). slice_get bs 0) same)
    (none_made boards before) next one

-- the links may have carried more since then
pub made_still : (boards : List BoardSpec) (links links_now : List LinkReport) (before old new : List LinkSpec)
    → AreMadeFor boards links before old → numbers_of links_now ≡ numbers_of links → new ≡ old
    → AreMadeFor boards links_now before new
made_still boards links links_now before old new are same_numbers same =
    let number : LinkReport → ℕ = λ l. l.number in
    let long : length links_now ≡ length links =
    sym (length-map links_now number) ∙ (ap (λ (ns : List ℕ). length ns) same_numbers ∙ length-map links number) in
    record {
      specs = are.specs;
      grown = same ∙ are.grown;
      many = are.many ∙ sym long;
      first = are.first;
      in_order = subst (CountsFrom (length before)) (sym same_numbers) are.in_order;
    }

-- the link of one more board that was greeted
links_more : {L : Type 0} (boards : List (Standing L)) (board : Greeted L)
    → links_in (boards ++ standing_of board ∷ []) ≡ links_in boards ++ link_of board ∷ []
links_more [] (Ready lane) = refl
links_more [] (Silent link rounds) = refl
links_more [] (Down link) = refl
links_more [] (NoMemory link) = refl
links_more (standing.Live lane ∷ boards) board = ap (λ (ls : List _). lane.link ∷ ls) (links_more boards board)
links_more (standing.AtHub ∷ boards) board = links_more boards board
links_more (standing.Silent link ∷ boards) board = ap (λ (ls : List _). link ∷ ls) (links_more boards board)
links_more (standing.Down link ∷ boards) board = ap (λ (ls : List _). link ∷ ls) (links_more boards board)

pub greeted_more : {L : Type 0} (seen : Ghosts L) (settings : Limits) (specs : List BoardSpec)
    (boards now : List (Standing L)) (spec : BoardSpec) (board : Greeted L) (before old new : List LinkSpec)
    → now ≡ boards ++ standing_of board ∷ [] → slice_get specs (length boards) ≡ Some spec
    → AreReached (shown_by seen) settings specs boards
    → AreMadeFor specs (map (shown_by seen) (links_in boards)) before old
    → seen.number (link_of board) ≡ length old → new ≡ old ++ spec.link ∷ []
    → AreMadeFor specs (map (shown_by seen) (links_in now)) before new
greeted_more {L} seen settings specs boards now spec board before old new pushed there reached are next one =
    let shows = shown_by seen in
    let links = links_in boards in
    let all = fresh_links shows settings specs boards (reached_fresh shows settings specs boards reached) in
    let at : slice_get specs (length (map shows links)) ≡ Some spec =
    ap (slice_get specs) (length-map links shows ∙ all.1) ∙ there in
    let grown : map shows (links_in now) ≡ map shows links ++ shows (link_of board) ∷ [] =
    ap (λ (bs : List (Standing L)). map shows (links_in bs)) pushed
    ∙ (ap (map shows) (links_more boards board) ∙ map_push shows links (link_of board)) in
    subst (λ (ls : List LinkReport). AreMadeFor specs ls before new) (sym grown)
    (made_more specs (map shows links) spec (shows (link_of board)) before old new at are next one)

pub one_more_made : (old new : List LinkSpec) (spec : LinkSpec) → new ≡ old ++ spec ∷ []
    → length new ≡ length old + 1
one_more_made old new spec one = ap (λ (l : List LinkSpec). length l) one ∙ length-append old (spec ∷ [])

pub room_for_more : (kept kept_now made made_now count : ℕ) → kept ≤ made → kept_now ≡ kept → made_now ≡ made + 1
    → LeavesRoom kept made count → LeavesRoom kept_now made_now (count + 1)
room_for_more kept kept_now made made_now count within same one (inl none) =
    inr (omega (arith, none, within, same, one))
room_for_more kept kept_now made made_now count within same one (inr room) =
    inr (omega (arith, room, within, same, one))
