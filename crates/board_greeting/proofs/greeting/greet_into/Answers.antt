use Rattle.std.proofs.Common.{◌≡◌, ◌∙◌, ◌∷◌, ◌++◌, ◌+◌, ℕ, [], Some, ap, length, length-append, map, refl, subst, sym, arith}
use Rattle.std.proofs.lemmas.Grind.{common_steps}
use Rattle.std.specs.List.{slice_get}
use Rattle.std.proofs.lemmas.Option.{slice_get-get_or}
use Rattle.board_specs.specs.declared.spec.BoardSpec.{BoardSpec}
use Rattle.board_greeting.specs.Boards.{AreReached, IsFreshAt, LeavesRoom, OfFirst, StandsAsTold}
use Rattle.board_greeting.specs.Reports.{shown_by}
use Rattle.board_greeting.specs.Standings.{links_in, standing_of}
use Rattle.board_greeting.proofs.Boards.{first_of_more, fresh_as_greeted, greeted_more, made_still, one_more_made}
use Rattle.board_greeting.proofs.Boards.{reached_fresh, room_for_more, stands_as_told}
use Rattle.board_greeting.proofs.greeting.greet_into.Goals as goal

pub returns-then-is_last-clause-fresh : goal.returns-then-is_last-clause-fresh
returns-then-is_last-clause-fresh g c =
    let shows = shown_by g.R.L.Link in
    let settings = c.args.settings in
    let specs = c.args.specs.now in
    let boards = c.loop-spec.boards.items in
    let there : slice_get specs (length boards) ≡ Some c.spec-item.result =
    ap (slice_get specs) c.loop-spec.invariant.many
    ∙ (slice_get-get_or specs c.loop-spec.spec-index c.spec-item.result (let test = c.loop-spec-test.true in
    let end = c.loop-spec.auto.spec-index-end in omega (arith, test, end))
    ∙ ap (λ (x : BoardSpec). Some x) (sym c.spec-item.is)) in
    subst (OfFirst (IsFreshAt shows settings) specs)
    (sym (c.push_reserved.ensures.items ∙ ap (λ one. boards ++ one ∷ []) c.standing_of.ensures))
    (first_of_more (IsFreshAt shows settings) specs boards c.spec-item.result (standing_of c.in_ok-board.board) there
    (reached_fresh shows settings specs boards c.loop-spec.invariant.reached)
    (fresh_as_greeted shows settings c.spec-item.result c.in_ok-board.board c.in_ok-board.ensures.reached))

pub returns-in_err-board-clause-fresh : goal.returns-in_err-board-clause-fresh
returns-in_err-board-clause-fresh g c = reached_fresh (shown_by g.R.L.Link) c.args.settings c.args.specs.now
    c.loop-spec.boards.items c.loop-spec.invariant.reached

pub returns-clause-fresh : goal.returns-clause-fresh
returns-clause-fresh g c = reached_fresh (shown_by g.R.L.Link) c.args.settings c.args.specs.now
    c.loop-spec.boards.items c.loop-spec.invariant.reached

pub returns-then-is_last-clause-made : goal.returns-then-is_last-clause-made
returns-then-is_last-clause-made g c =
    let boards = c.loop-spec.boards.items in
    let before = g.R.Rack.made c.args.rack.now in
    let new = g.R.Rack.made c.greet_board.new.rack in
    let there : slice_get c.args.specs.now (length boards) ≡ Some c.spec-item.result =
    ap (slice_get c.args.specs.now) c.loop-spec.invariant.many
    ∙ (slice_get-get_or c.args.specs.now c.loop-spec.spec-index c.spec-item.result (let test = c.loop-spec-test.true in
    let end = c.loop-spec.auto.spec-index-end in omega (arith, test, end))
    ∙ ap (λ (x : BoardSpec). Some x) (sym c.spec-item.is)) in
    greeted_more g.R.L.Link c.args.settings c.args.specs.now boards c.push_reserved.new.self.items c.spec-item.result
    c.in_ok-board.board before (g.R.Rack.made c.loop-spec.rack) new
    (c.push_reserved.ensures.items ∙ ap (λ one. boards ++ one ∷ []) c.standing_of.ensures) there
    c.loop-spec.invariant.reached c.loop-spec.invariant.made c.in_ok-board.ensures.number c.in_ok-board.ensures.made

pub returns-then-is_last-clause-room : goal.returns-then-is_last-clause-room
returns-then-is_last-clause-room g c =
    let boards = c.loop-spec.boards.items in
    let old = g.R.Rack.made c.loop-spec.rack in
    let new = g.R.Rack.made c.greet_board.new.rack in
    let longer : length c.push_reserved.new.self.items ≡ length boards + 1 =
    ap length c.push_reserved.ensures.items ∙ length-append boards (c.standing_of.result ∷ []) in
    subst (LeavesRoom (length (g.R.Rack.kept c.greet_board.new.rack)) (length new)) (sym longer)
    (room_for_more (length (g.R.Rack.kept c.loop-spec.rack)) (length (g.R.Rack.kept c.greet_board.new.rack))
    (length old) (length new) (length boards) c.greet_board.ensures.within (ap length c.greet_board.ensures.kept)
    (one_more_made old new c.spec-item.result.link c.in_ok-board.ensures.made) c.loop-spec.invariant.room)

pub returns-in_err-board-clause-made : goal.returns-in_err-board-clause-made
returns-in_err-board-clause-made g c =
    let links = map (shown_by g.R.L.Link) (links_in c.loop-spec.boards.items) in
    made_still c.args.specs.now links links (g.R.Rack.made c.args.rack.now)
    (g.R.Rack.made c.loop-spec.rack) (g.R.Rack.made c.greet_board.new.rack) c.loop-spec.invariant.made refl
    c.in_err-board.ensures.made

pub loop-spec-preserved : goal.loop-spec-preserved
loop-spec-preserved g c =
    let shows = shown_by g.R.L.Link in
    let boards = c.loop-spec.boards.items in
    let board = c.in_ok-board.board in
    let pushed = c.push_reserved.ensures.items ∙ ap (λ one. boards ++ one ∷ []) c.standing_of.ensures in
    let longer : length c.push_reserved.new.self.items ≡ length boards + 1 =
    ap length pushed ∙ length-append boards (standing_of board ∷ []) in
    let many = c.loop-spec.invariant.many in
    let there : slice_get c.args.specs.now (length boards) ≡ Some c.spec-item.result =
    ap (slice_get c.args.specs.now) many
    ∙ (slice_get-get_or c.args.specs.now c.loop-spec.spec-index c.spec-item.result (let test = c.loop-spec-test.true in
    let end = c.loop-spec.auto.spec-index-end in omega (arith, test, end))
    ∙ ap (λ (x : BoardSpec). Some x) (sym c.spec-item.is)) in
    let made = c.in_ok-board.ensures.made in
    let old = g.R.Rack.made c.loop-spec.rack in
    let new = g.R.Rack.made c.greet_board.new.rack in
    record {
      many = longer ∙ ap (λ (n : ℕ). n + 1) many;
      reached = subst (AreReached shows c.args.settings c.args.specs.now) (sym pushed)
          (first_of_more (StandsAsTold shows c.args.settings) c.args.specs.now boards c.spec-item.result
          (standing_of board) there c.loop-spec.invariant.reached
          (stands_as_told shows c.args.settings c.spec-item.result board
          (c.is_out_of_memory-is_last.ensures c.if-is_last.false) c.in_ok-board.ensures.reached));
      faults = c.in_ok-board.ensures.faults.2 (λ e. cc) ∙ c.loop-spec.invariant.faults;
      kept = c.greet_board.ensures.kept ∙ c.loop-spec.invariant.kept;
      made = greeted_more g.R.L.Link c.args.settings c.args.specs.now boards c.push_reserved.new.self.items
          c.spec-item.result board (g.R.Rack.made c.args.rack.now) old new pushed there c.loop-spec.invariant.reached
          c.loop-spec.invariant.made c.in_ok-board.ensures.number made;
      room = subst (LeavesRoom (length (g.R.Rack.kept c.greet_board.new.rack)) (length new)) (sym longer)
          (room_for_more (length (g.R.Rack.kept c.loop-spec.rack)) (length (g.R.Rack.kept c.greet_board.new.rack))
          (length old) (length new) (length boards) c.greet_board.ensures.within
          (ap length c.greet_board.ensures.kept) (one_more_made old new c.spec-item.result.link made)
          c.loop-spec.invariant.room);
      place = (let len = c.push_reserved.ensures.len in let cap = c.push_reserved.ensures.capacity in
          let before = c.loop-spec.invariant.place in let test = c.loop-spec-test.true in
          omega (arith, len, cap, before, test));
    }

pub returns-then-is_last-clause-faults : goal.returns-then-is_last-clause-faults
returns-then-is_last-clause-faults g c = grind (arith, common_steps)

pub loop-spec-init : goal.loop-spec-init
loop-spec-init g c = grind (arith, common_steps)

pub greet_board-requires : goal.greet_board-requires
greet_board-requires g c = grind (arith, common_steps)
