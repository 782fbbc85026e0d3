use Rattle.std.proofs.Common.{◌≡◌, ◌∙◌, ◌++◌, [], ◌∷◌, List, ap, append-nil, length, refl, subst, sym}
use Rattle.std.proofs.Common.{Err, Some, arith, length-append, slice_index_or}
use Rattle.std.proofs.lemmas.Grind.{common_steps}
use Rattle.std.proofs.lemmas.Result.{IfOk-weaker}
use Rattle.board_specs.specs.declared.spec.BoardSpec.{BoardSpec}
use Rattle.hub_lane.specs.Greeting.{link_of}
use Rattle.session_input.specs.Recording.{IsOneSimulated}
use Rattle.board_greeting.specs.Boards.{IsReached}
use Rattle.board_greeting.specs.Reports.{shown_by}
use Rattle.board_greeting.proofs.Boards.{made_still, none_made, one_made}
use Rattle.session_run.specs.declared.session.RunFault.TheVariants.{NoMemory}
use Rattle.session_run.specs.Faults.{run_fault}
use Rattle.session_run.specs.Links.{AreLeft, CanBeReached}
use Rattle.command_terms.proofs.Leaving.{same_Err}
use Rattle.command_terms.specs.declared.answer.Answer.{Answer}
use Rattle.record_command.specs.Taps.{TapsState, tap_ghosts}
use Rattle.run_laws.proofs.Leaving.{run_failed}
use Rattle.record_command.specs.Steps.{Records}
use Rattle.record_command.proofs.Leaving.{no_rack_fault, rises_by, written_left}
use Rattle.record_command.proofs.Tapped.{at_first, one_board, one_is_one, ran_for, records_of}
use Rattle.record_command.proofs.record.recorded.Goals as goal

pub returns-in_err-taps-clause-leaves : goal.returns-in_err-taps-clause-leaves
returns-in_err-taps-clause-leaves g c =
    let made = g.R.Rack.made c.args.rack.now in (
      [],
      sym (append-nil (g.R.Rack.kept c.args.rack.now)),
      run_failed (Records c.args.session.now c.args.steps.now) c.args.session.now c.args.steps.now made made
          c.from_residual.result NoMemory [] tt (none_made c.args.session.now.boards made) c.from_residual.ensures.0
          c.from_residual.ensures.1 (λ rack. tt),
    )

pub returns-in-Err-clause-leaves : goal.returns-in-Err-clause-leaves
returns-in-Err-clause-leaves g c =
    let boards = c.args.session.now.boards in
    let made = g.R.Rack.made c.args.rack.now in
    let makes = g.R.Rack.made c.greet_tapped.new.rack in (
      [],
      c.greet_tapped.ensures.kept ∙ sym (append-nil (g.R.Rack.kept c.args.rack.now)),
      run_failed (Records c.args.session.now c.args.steps.now) c.args.session.now c.args.steps.now made makes
          (Err c.from.result) (run_fault c.in-Err.fault) [] tt
          (made_still boards [] [] made made makes (none_made boards made) refl c.in-Err.ensures.made)
          refl c.from.ensures (λ rack. tt),
    )

pub returns-in-Err-clause-rack_faults : goal.returns-in-Err-clause-rack_faults
returns-in-Err-clause-rack_faults g c =
    rises_by c.in-Err.fault (Err c.from.result) (g.R.Rack.faults c.args.rack.now)
    (g.R.Rack.faults c.greet_tapped.new.rack) refl c.from.ensures (λ is. c.in-Err.ensures.faults.0 (ap Err is))
    c.in-Err.ensures.faults.1 (λ other. c.in-Err.ensures.faults.2 (λ e. other (same_Err _ _ e)))

pub run_tapped-tap-requires-clause-reached : goal.run_tapped-tap-requires-clause-reached
run_tapped-tap-requires-clause-reached g c κs within = λ spec is.
    let it = g.R.L.Link in
    let board = c.index-boards-0.result in
    let shows = shown_by (tap_ghosts it) in
    let same : board ≡ spec = c.index-boards-0.is ∙ ap (λ (bs : List BoardSpec). slice_index_or bs 0 board) is in
    subst (λ (s : BoardSpec). IsReached c.args.session.now.settings s c.in-Ok.greeted
    (shows (link_of c.in-Ok.greeted))) same c.in-Ok.ensures.reached

pub returns-in_err-room-clause-leaves : goal.returns-in_err-room-clause-leaves
returns-in_err-room-clause-leaves g c =
    let made = g.R.Rack.made c.args.rack.now in (
      [],
      sym (append-nil (g.R.Rack.kept c.args.rack.now)),
      run_failed (Records c.args.session.now c.args.steps.now) c.args.session.now c.args.steps.now made made
          c.from_residual-in_err-room.result NoMemory [] tt (none_made c.args.session.now.boards made)
          c.from_residual-in_err-room.ensures.0 c.from_residual-in_err-room.ensures.1 (λ rack. tt),
    )

pub greet_tapped-requires-clause-reached : goal.greet_tapped-requires-clause-reached
greet_tapped-requires-clause-reached g c κs within =
    let board = c.index-boards-0.result in
    let there = subst (λ (boards : List BoardSpec). board ≡ slice_index_or boards 0 board) c.as_slice-boards.ensures
    c.index-boards-0.is in
    at_first CanBeReached c.args.session.now.boards board c.requires.one c.requires.may.reached there

pub run_tapped-tap-requires-clause-one : goal.run_tapped-tap-requires-clause-one
run_tapped-tap-requires-clause-one g c κs within =
    ap length c.as_slice-boards.ensures ∙ one_is_one c.args.session.now.boards c.requires.one

pub returns-clause-leaves : goal.returns-clause-leaves
returns-clause-leaves g c =
    let shows = shown_by g.R.L.Link in
    let link = c.into_parts-link.result.0 in
    let boards = c.as_slice-boards.ensures in
    let session = c.args.session.now in
    let steps = c.args.steps.now in
    let board = c.index-boards-0.result in
    let there = subst (λ (boards : List BoardSpec). board ≡ slice_index_or boards 0 board) boards c.index-boards-0.is in
    let one = one_board session.boards board c.requires.one there in
    let laws = c.a_capture_of_a_lane_proves_what_was_executed.ensures in
    let left = subst (λ (specs : List BoardSpec). AreLeft 0 specs steps (shows link ∷ [])) boards
    (subst (λ link. AreLeft 0 c.as_slice-boards.result.now steps (shows link ∷ [])) (sym c.into_parts-link.ensures.link)
    c.run_tapped-tap.ensures.left) in
    let made = g.R.Rack.made c.args.rack.now in
    let makes = g.R.Rack.made c.keep.new.self in
    let numbered = ap g.R.L.Link.number c.into_parts-link.ensures.link ∙ (c.run_tapped-tap.ensures.number
    ∙ c.in-Ok.ensures.number) in
    let links_made = one_made session.boards board (shows link) made makes one numbered
    (c.keep.ensures.made ∙ c.in-Ok.ensures.made) in
    let records = IfOk-weaker c.written.result _
    (λ (answer : Answer). Records session steps (shows link ∷ []) answer.status answer.text.items)
    (λ answer writes. records_of laws.sent laws.executed laws.proved c.a_lane_sends_a_merge_at_any_moment.ensures.first
    session steps board c.run_tapped-tap.result.1 c.into_parts-link.result.1 answer (shows link) one
    (ran_for session steps c.as_slice-boards.result.now shows _ link c.run_tapped-tap.result.1 boards
    c.into_parts-link.ensures.link c.run_tapped-tap.ensures.ran) left
    (c.first_of-first.ensures ∙ sym (ap (λ capture. Some capture.first) c.into_parts-link.ensures.capture))
    c.into_parts-link.ensures.caught writes)
    c.written.ensures.writes in (
      link ∷ [],
      c.keep.ensures.kept ∙ ap (λ (l : List _). l ++ link ∷ []) c.greet_tapped.ensures.kept,
      written_left (Records session steps) session steps made makes c.written.result (shows link ∷ []) left links_made
          c.written.ensures.fails records,
    )

pub bounds-boards-0 : goal.bounds-boards-0
bounds-boards-0 g c =
    let one : length c.as_slice-boards.result.now ≡ 1 =
    ap length c.as_slice-boards.ensures ∙ one_is_one c.args.session.now.boards c.requires.one in
    omega (arith, one)

pub first_of-first-requires : goal.first_of-first-requires
first_of-first-requires g c =
    let board = c.index-boards-0.result in
    let there = subst (λ (boards : List BoardSpec). board ≡ slice_index_or boards 0 board) c.as_slice-boards.ensures
    c.index-boards-0.is in
    subst IsOneSimulated (one_board c.args.session.now.boards board c.requires.one there) c.requires.one

pub run_tapped-tap-requires-clause-can : goal.run_tapped-tap-requires-clause-can
run_tapped-tap-requires-clause-can g c κs within = c.requires.may.can

pub run_tapped-tap-requires-clause-empty : goal.run_tapped-tap-requires-clause-empty
run_tapped-tap-requires-clause-empty g c κs within = c.in_ok-room.ensures.empty

pub run_tapped-tap-requires-clause-room : goal.run_tapped-tap-requires-clause-room
run_tapped-tap-requires-clause-room g c κs within = c.in_ok-room.ensures.room

pub run_tapped-tap-requires-clause-none_kept : goal.run_tapped-tap-requires-clause-none_kept
run_tapped-tap-requires-clause-none_kept g c κs within = ap (λ (taps : TapsState _). taps.kept) c.in_ok-taps.ensures

pub run_tapped-tap-requires-clause-one_made : goal.run_tapped-tap-requires-clause-one_made
run_tapped-tap-requires-clause-one_made g c κs within =
    ap (λ (taps : TapsState _). length taps.made) c.in_ok-taps.ensures

pub keep-requires : goal.keep-requires
keep-requires g c =
    let board = c.index-boards-0.result in
    omega (
      arith,
      ap length c.greet_tapped.ensures.kept,
      c.greet_tapped.ensures.within,
      ap length c.in-Ok.ensures.made ∙ length-append (g.R.Rack.made c.args.rack.now) (board.link ∷ []),
    )

pub written-requires : goal.written-requires
written-requires g c = c.into_parts-link.ensures.caught.short

pub returns-in_err-taps-clause-rack_faults : goal.returns-in_err-taps-clause-rack_faults
returns-in_err-taps-clause-rack_faults g c = grind (arith, common_steps)

pub returns-in_err-room-clause-rack_faults : goal.returns-in_err-room-clause-rack_faults
returns-in_err-room-clause-rack_faults g c = grind (arith, common_steps)

pub returns-clause-rack_faults : goal.returns-clause-rack_faults
returns-clause-rack_faults g c =
    let same = c.keep.ensures.faults ∙ c.in-Ok.ensures.faults.2 (λ e. cc) in (
      λ failed. absurd (no_rack_fault c.written.result c.written.ensures.fails failed),
      omega (arith, same),
      λ other. same,
    )
