use Rattle.std.proofs.Common.{◌∙◌, ◌++◌, ◌∷◌, [], ap, arith, inr, length, subst, sym}
use Rattle.std.proofs.lemmas.Grind.{common_steps}
use Rattle.board_greeting.specs.Boards.{AreReached, IsFreshLink}
use Rattle.board_greeting.specs.Reports.{shown_by}
use Rattle.board_greeting.specs.Standings.{links_in, standing_of}
use Rattle.hub_lane.specs.Greeting.{link_of}
use Rattle.session_run.specs.Links.{AreLeft}
use Rattle.board_history.specs.LinkRuns.{AreRunsOver}
use Rattle.record_command.specs.Traffic.{Tapped}
use Rattle.record_command.specs.Taps.{tap_ghosts}
use Rattle.record_command.proofs.Tapped.{back_alone, kept_one, left_alone, link_alone, pushed_alone, ran_alone, reached_alone}
use Rattle.record_command.proofs.Tapped.{number_stays, same_alone, stays_left}
use Rattle.record_command.proofs.record.run_tapped.Goals as goal

pub returns-then-no_memory-clause-left : goal.returns-then-no_memory-clause-left
returns-then-no_memory-clause-left g c =
    let shows = shown_by g.L.Link in
    let back = back_alone c.args.taps.kept c.push_reserved.new.self.items c.keep_all.new.rack.kept c.args.greeted c.keep_all.ensures.kept
    c.requires.none_kept (pushed_alone c.args.room.items c.push_reserved.new.self.items (standing_of c.args.greeted) (c.push_reserved.ensures.items ∙ ap (λ one. c.args.room.items ++ one ∷ []) c.standing_of.ensures) c.requires.empty) in
    left_alone c.a_fresh_link_is_left.ensures c.args.settings c.args.specs.now c.args.steps.now
    (shows c.into_tap.result.link) c.requires.one
    (λ spec is. subst (λ (tap : Tapped _). IsFreshLink c.args.settings spec (shows tap.link))
    (same_alone (link_of c.args.greeted) c.into_tap.result (sym back ∙ c.into_tap.ensures)) (c.requires.reached spec is).fresh)

pub returns-then-no_memory-clause-ran : goal.returns-then-no_memory-clause-ran
returns-then-no_memory-clause-ran g c = tt

pub into_tap-requires : goal.into_tap-requires
into_tap-requires g c =
    ap length (back_alone c.args.taps.kept c.push_reserved.new.self.items c.keep_all.new.rack.kept c.args.greeted c.keep_all.ensures.kept
    c.requires.none_kept (pushed_alone c.args.room.items c.push_reserved.new.self.items (standing_of c.args.greeted) (c.push_reserved.ensures.items ∙ ap (λ one. c.args.room.items ++ one ∷ []) c.standing_of.ensures) c.requires.empty))

pub push_reserved-requires : goal.push_reserved-requires
push_reserved-requires g c = grind (arith, common_steps)

pub run_greeted-runs-requires-clause-few_boards : goal.run_greeted-runs-requires-clause-few_boards
run_greeted-runs-requires-clause-few_boards g c κs within = omega (arith, c.requires.one)

pub run_greeted-runs-requires-clause-can : goal.run_greeted-runs-requires-clause-can
run_greeted-runs-requires-clause-can g c κs within = c.requires.can

pub run_greeted-runs-requires-clause-all : goal.run_greeted-runs-requires-clause-all
run_greeted-runs-requires-clause-all g c κs within =
    ap length (pushed_alone c.args.room.items c.push_reserved.new.self.items (standing_of c.args.greeted) (c.push_reserved.ensures.items ∙ ap (λ one. c.args.room.items ++ one ∷ []) c.standing_of.ensures) c.requires.empty) ∙ sym c.requires.one

pub run_greeted-runs-requires-clause-room : goal.run_greeted-runs-requires-clause-room
run_greeted-runs-requires-clause-room g c κs within =
    inr (omega (arith, ap length c.requires.none_kept, c.requires.one_made, c.requires.one))

pub run_greeted-runs-requires-clause-reached : goal.run_greeted-runs-requires-clause-reached
run_greeted-runs-requires-clause-reached g c κs within =
    let shows = shown_by (tap_ghosts g.L.Link) in
    subst (AreReached shows c.args.settings c.args.specs.now)
    (sym (pushed_alone c.args.room.items c.push_reserved.new.self.items (standing_of c.args.greeted) (c.push_reserved.ensures.items ∙ ap (λ one. c.args.room.items ++ one ∷ []) c.standing_of.ensures) c.requires.empty))
    (reached_alone shows c.args.settings c.args.specs.now c.args.greeted c.requires.one
    (c.is_out_of_memory-no_memory.ensures c.if-no_memory.false) c.requires.reached)

pub keep_all-requires-clause-room : goal.keep_all-requires-clause-room
keep_all-requires-clause-room g c κs within =
    let one = (pushed_alone c.args.room.items c.push_reserved.new.self.items (standing_of c.args.greeted) (c.push_reserved.ensures.items ∙ ap (λ one. c.args.room.items ++ one ∷ []) c.standing_of.ensures) c.requires.empty) in
    let long = ap (λ boards. length (links_in boards)) one ∙ ap length (link_alone c.args.greeted) in
    inr (omega (arith, ap length c.requires.none_kept, c.requires.one_made, long))

pub into_tap-requires-2 : goal.into_tap-requires-2
into_tap-requires-2 g c =
    kept_one (shown_by (tap_ghosts g.L.Link)) _ _ c.requires.none_kept c.args.specs.now c.requires.one
    (AreLeft 0 c.args.specs.now c.args.steps.now) _ c.run_greeted-runs.ensures.left

pub returns-clause-left : goal.returns-clause-left
returns-clause-left g c =
    (stays_left (shown_by (tap_ghosts g.L.Link)) _ _ c.into_tap-2.result c.requires.none_kept c.into_tap-2.ensures
    c.args.specs.now (AreLeft 0 c.args.specs.now c.args.steps.now) _ c.run_greeted-runs.ensures.left).0

pub returns-clause-ran : goal.returns-clause-ran
returns-clause-ran g c =
    let shows = shown_by (tap_ghosts g.L.Link) in
    ran_alone shows _ _ c.into_tap-2.result c.requires.none_kept c.into_tap-2.ensures
    (AreRunsOver c.args.settings 0 c.args.specs.now c.args.steps.now) c.run_greeted-runs.result
    c.run_greeted-runs.ensures.ran

pub returns-then-no_memory-clause-number : goal.returns-then-no_memory-clause-number
returns-then-no_memory-clause-number g c =
    let back = back_alone c.args.taps.kept c.push_reserved.new.self.items c.keep_all.new.rack.kept c.args.greeted c.keep_all.ensures.kept
    c.requires.none_kept (pushed_alone c.args.room.items c.push_reserved.new.self.items (standing_of c.args.greeted) (c.push_reserved.ensures.items ∙ ap (λ one. c.args.room.items ++ one ∷ []) c.standing_of.ensures) c.requires.empty) in
    ap (λ (tap : Tapped _). g.L.Link.number tap.link)
    (sym (same_alone (link_of c.args.greeted) c.into_tap.result (sym back ∙ c.into_tap.ensures)))

pub returns-clause-number : goal.returns-clause-number
returns-clause-number g c =
    number_stays (tap_ghosts g.L.Link) c.into_tap-2.result c.args.greeted c.push_reserved.new.self.items
    (pushed_alone c.args.room.items c.push_reserved.new.self.items (standing_of c.args.greeted)
    (c.push_reserved.ensures.items ∙ ap (λ one. c.args.room.items ++ one ∷ []) c.standing_of.ensures) c.requires.empty)
    (stays_left (shown_by (tap_ghosts g.L.Link)) _ _ c.into_tap-2.result c.requires.none_kept c.into_tap-2.ensures
    c.args.specs.now (AreLeft 0 c.args.specs.now c.args.steps.now) _ c.run_greeted-runs.ensures.left).1
