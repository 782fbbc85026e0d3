use Rattle.std.proofs.Common.{◌≡◌, ◌∙◌, ap}
use Rattle.lossy_network.specs.Network.{Receipt, all_taken, with_call_counted}
use Rattle.lossy_network.proofs.Receipts.{received_is}
use Rattle.lossy_network.proofs.link.SimLink.receive.Goals as goal

pub returns-clause-received : goal.returns-clause-received
returns-clause-received c =
    let mid : c.take_all.new.self ≡ all_taken (with_call_counted c.args.self.now) =
    c.in_ok-take_all.ensures.all ∙ ap all_taken c.in_ok-count_call.ensures.ok.1 in
    c.in_ok-hand_out.ensures.after ∙ ap (λ (r : Receipt). r.after) (received_is c.args.self.now c.take_all.new.self mid)

pub returns-clause-answer : goal.returns-clause-answer
returns-clause-answer c =
    let mid : c.take_all.new.self ≡ all_taken (with_call_counted c.args.self.now) =
    c.in_ok-take_all.ensures.all ∙ ap all_taken c.in_ok-count_call.ensures.ok.1 in
    c.in_ok-hand_out.ensures.answer
    ∙ ap (λ (r : Receipt). r.answer) (received_is c.args.self.now c.take_all.new.self mid)

pub returns-clause-bytes : goal.returns-clause-bytes
returns-clause-bytes c =
    let mid : c.take_all.new.self ≡ all_taken (with_call_counted c.args.self.now) =
    c.in_ok-take_all.ensures.all ∙ ap all_taken c.in_ok-count_call.ensures.ok.1 in
    c.in_ok-hand_out.ensures.bytes ∙ ap (λ (r : Receipt). r.bytes) (received_is c.args.self.now c.take_all.new.self mid)
