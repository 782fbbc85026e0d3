use Rattle.std.proofs.Common.{◌≡◌, ◌≢◌, ◌∙◌, Err, sym}
use Rattle.world_model.specs.declared.moves.WorldEnd.TheVariants.{NoMemory}
use Rattle.world_model.specs.World.{step}
use Rattle.world_core.specs.Steps.{world_of}
use Rattle.world_core.proofs.Moves.{handed_on}
use Rattle.world_core.proofs.OneMove.{moved_by_board, moved_by_hub, moved_by_offer, moved_by_quiet, refused_to_board}
use Rattle.world_core.proofs.OneMove.{refused_to_hub}
use Rattle.world_core.proofs.run.Run.step.Goals as goal

pub returns-in_ok-offer-in-Offer-clause-moved : goal.returns-in_ok-offer-in-Offer-clause-moved
returns-in_ok-offer-in-Offer-clause-moved c =
    moved_by_offer c.args.at (world_of c.args.self.now) (world_of c.offer.new.self) c.args.next.now c.in-Offer.tag
    c.in-Offer.body c.as_slice.result.now c.in-Offer.is c.as_slice.ensures c.in_ok-offer-in-Offer.ensures.moved

pub returns-in_ok-be_quiet-in-Quiet-clause-moved : goal.returns-in_ok-be_quiet-in-Quiet-clause-moved
returns-in_ok-be_quiet-in-Quiet-clause-moved c =
    moved_by_quiet c.args.at (world_of c.args.self.now) (world_of c.be_quiet.new.self) c.args.next.now c.in-Quiet.is
    (sym c.waiting.ensures ∙ c.if-not-waiting.false) c.in_ok-be_quiet-in-Quiet.ensures.moved

pub returns-in_err-check-in-HubHears-clause-refused : goal.returns-in_err-check-in-HubHears-clause-refused
returns-in_err-check-in-HubHears-clause-refused c =
    let w = world_of c.args.self.now in
    let handed = c.from_residual-in_err-check-in-HubHears in
    let end = c.in_err-check-in-HubHears.field-0.0 in
    handed_on (λ e. e ≢ NoMemory → step c.args.at w c.args.next.now ≡ Err e) handed.result end handed.ensures.1
    (λ _. refused_to_hub c.args.at w c.args.next.now c.in-HubHears.place end c.in-HubHears.is
    (sym c.check.ensures ∙ c.in_err-check-in-HubHears.was))

pub returns-in_ok-go_on-in-HubHears-clause-moved : goal.returns-in_ok-go_on-in-HubHears-clause-moved
returns-in_ok-go_on-in-HubHears-clause-moved c =
    moved_by_hub c.args.at (world_of c.args.self.now) (world_of c.tell_hub.new.self) (world_of c.go_on.new.self)
    c.args.next.now c.in-HubHears.place c.in-HubHears.is (sym c.check.ensures ∙ c.in_ok-check-in-HubHears.was)
    c.in_ok-tell_hub-in-HubHears.ensures.told c.in_ok-go_on-in-HubHears.ensures.went

pub returns-in_err-check-in-BoardHears-clause-refused : goal.returns-in_err-check-in-BoardHears-clause-refused
returns-in_err-check-in-BoardHears-clause-refused c =
    let w = world_of c.args.self.now in
    let handed = c.from_residual-in_err-check-in-BoardHears in
    let end = c.in_err-check-in-BoardHears.field-0.0 in
    handed_on (λ e. e ≢ NoMemory → step c.args.at w c.args.next.now ≡ Err e) handed.result end handed.ensures.1
    (λ _. refused_to_board c.args.at w c.args.next.now c.in-BoardHears.place end c.in-BoardHears.is
    (sym c.check-in-BoardHears.ensures ∙ c.in_err-check-in-BoardHears.was))

pub returns-in_ok-tell_board-in-BoardHears-clause-moved : goal.returns-in_ok-tell_board-in-BoardHears-clause-moved
returns-in_ok-tell_board-in-BoardHears-clause-moved c =
    moved_by_board c.args.at (world_of c.args.self.now) (world_of c.tell_board.new.self) c.args.next.now
    c.in-BoardHears.place c.in-BoardHears.is (sym c.check-in-BoardHears.ensures ∙ c.in_ok-check-in-BoardHears.was)
    c.in_ok-tell_board-in-BoardHears.ensures
