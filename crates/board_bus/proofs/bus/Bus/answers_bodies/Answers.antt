use Rattle.std.proofs.Common.{subst}
use Rattle.board_bus.specs.Cells.{HoldsWords}
use Rattle.board_bus.proofs.Answered.{answers_any, replay-answers}
use Rattle.board_bus.proofs.bus.Bus.answers_bodies.Goals as goal

pub returns-clause-reply : goal.returns-clause-reply
returns-clause-reply c =
    λ body fits. answers_any c.requests_are_read.ensures c.args.self.now body
    (subst HoldsWords c.self.view_is c.self.invariant.words) fits

pub returns-clause-replies : goal.returns-clause-replies
returns-clause-replies c = λ bodies fits.
    replay-answers c.requests_are_read.ensures c.args.self.now bodies
    (subst HoldsWords c.self.view_is c.self.invariant.words)
    fits
