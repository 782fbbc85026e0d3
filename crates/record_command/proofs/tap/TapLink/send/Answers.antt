use Rattle.std.proofs.Common.{◌≡◌, ◌∙◌, ◌++◌, ◌∷◌, [], List, ap, arith}
use Rattle.capture_reader.specs.declared.capture.Caught.{Caught}
use Rattle.capture_reader.proofs.Lines.{bytes_fit}
use Rattle.record_command.specs.Passing.{sent_item}
use Rattle.record_command.proofs.Traffic.{caught_sent}
use Rattle.record_command.proofs.tap.TapLink.send.Goals as goal

pub invariant_of-self-2 : goal.invariant_of-self-2
invariant_of-self-2 g c =
    let link = g.L.Link in
    let i = c.self.inside in
    let bytes = c.args.bytes.now in
    let more : c.push_reserved.new.self.items ≡ i.caught.items ++ sent_item bytes ∷ [] =
    c.push_reserved.ensures.items
    ∙ (ap (λ (l : List Caught). l ++ c.in_ok-item.item ∷ []) c.sent.ensures.same
    ∙ ap (λ (one : Caught). i.caught.items ++ one ∷ []) c.in_ok-item.ensures.item) in (
      caught_sent bytes (link.held i.link) (link.held c.send.new.self) (link.telling i.link)
          (link.telling c.send.new.self) (link.traffic i.link) (link.traffic c.send.new.self) i.caught.items
          c.push_reserved.new.self.items c.self.invariant.0 c.in_ok-send.ensures.sent c.in_ok-send.ensures.traffic
          (bytes_fit bytes (λ k. omega (arith, c.type_inv.bytes k))) c.requires more,
      c.self.invariant.1,
    )
