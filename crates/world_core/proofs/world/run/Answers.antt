use Rattle.std.proofs.Common.{◌≡◌, ◌≢◌, [], Err, arith}
use Rattle.std.proofs.lemmas.Grind.{common_steps}
use Rattle.std.proofs.lemmas.Result.{IfErr-weaker}
use Rattle.world_model.specs.declared.moves.WorldEnd.TheVariants.{NoMemory}
use Rattle.world_model.specs.World.{start, step}
use Rattle.world_core.specs.Steps.{world_of}
use Rattle.world_core.proofs.Moves.{before_all, begins_there, ends_at, handed_on, moved_all, moved_on, whole_run}
use Rattle.world_core.proofs.world.run.Goals as goal

pub step-requires-clause-short : goal.step-requires-clause-short
step-requires-clause-short c = grind (arith, common_steps)

pub returns-in_err-step-clause-refused : goal.returns-in_err-step-clause-refused
returns-in_err-step-clause-refused c =
    let now = world_of c.loop-at.run in
    let move = c.index-moves-at.result in
    let begin = start c.args.settings.window c.args.settings.rounds c.args.board [] in
    let handed = c.from_residual-in_err-step in
    let told = handed_on (λ end. end ≢ NoMemory → step c.loop-at.at now move ≡ Err end) handed.result
    c.in_err-step.field-0.0 handed.ensures.1 c.in_err-step.ensures.refused in
    IfErr-weaker handed.result _ _ (λ end refused other. ends_at begin now c.args.moves.now
    c.loop-at.at move end c.loop-at-test.true c.index-moves-at.is c.loop-at.invariant.same (refused other)) told

pub returns-clause-ran : goal.returns-clause-ran
returns-clause-ran c =
    let window = c.args.settings.window in
    let rounds = c.args.settings.rounds in
    let board = c.args.board in
    let moves = c.args.moves.now in
    let now = world_of c.loop-at.run in
    let keeps = c.keeps_its_ranges.ensures in
    let begins = begins_there window board c.window-window.ensures.range.window_in_range keeps.mtu keeps.buffers
    keeps.first keeps.opening c.requires.fresh in
    whole_run window rounds board moves c.loop-at.at now begins c.loop-at-test.false c.loop-at.invariant

pub returns-clause-moved : goal.returns-clause-moved
returns-clause-moved c =
    moved_all (start c.args.settings.window c.args.settings.rounds c.args.board []) (world_of c.loop-at.run) c.args.moves.now
    c.loop-at.at c.loop-at-test.false c.loop-at.invariant

pub loop-at-init : goal.loop-at-init
loop-at-init c =
    let begun = c.in_ok-run.ensures in
    before_all (start c.args.settings.window c.args.settings.rounds c.args.board []) (world_of c.in_ok-run.run')
    c.args.moves.now begun.begun begun.spellings begun.counted

pub loop-at-preserved : goal.loop-at-preserved
loop-at-preserved c =
    let moved = c.in_ok-step.ensures in
    moved_on (start c.args.settings.window c.args.settings.rounds c.args.board []) (world_of c.loop-at.run)
    (world_of c.step.new.self) c.args.moves.now c.loop-at.at c.index-moves-at.result c.loop-at-test.true
    c.index-moves-at.is c.loop-at.invariant moved.moved moved.sendable moved.spellings moved.counted
