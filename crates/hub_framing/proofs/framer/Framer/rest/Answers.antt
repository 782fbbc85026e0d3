use Rattle.std.proofs.Common.{rules, ◌≡◌, subst, ap, ◌∙◌, List, ℕ, length}
use Rattle.hub_framing.specs.Frames.{IsFrameStream}
use Rattle.hub_framing.proofs.FrameLemmas.{one_reading, held_is_stream}
use Rattle.hub_framing.proofs.framer.Framer.rest.Goals as goal

pub returns-clause-only : goal.returns-clause-only
returns-clause-only c = λ frames rest stream.
    let waiting = c.self.inside.waiting.items in
    let begun = c.self.inside.begun.items in
    let held = held_is_stream waiting begun c.self.invariant.0 c.self.invariant.1 in
    let counted : c.len.result ≡ length begun = search rules in
    let same = subst (λ (bytes : List ℕ). IsFrameStream bytes waiting begun) c.self.view_is held in
    counted ∙ ap (λ (t : List ℕ). length t) (one_reading c.args.self.now waiting frames begun rest same stream).1
