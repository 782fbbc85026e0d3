use Rattle.std.proofs.Common.{◌≡◌, ◌∙◌, ℕ, Some, ap, refl}
use Rattle.packet_ids.specs.Identifier.{identifier_at}
use Rattle.hub_lane.proofs.Heard.{open_near}
use Rattle.hub_lane.proofs.exchange.hear_reply.Goals as goal

pub unreachable-requires : goal.unreachable-requires
unreachable-requires c =
    let taken = c.on_reply.ensures.taken.0 c.if-not-on_reply.false in
    let near = open_near c.args.hub.now taken.place c.requires.window taken.open_there in
    let sent = c.sent.ensures in
    let found : c.last_with-named.result ≡ Some taken.place = c.last_with-named.ensures taken.place near.from_one
    (rw sent near.up_to_last) (rw sent near.near)
    (ap (λ (first : ℕ). identifier_at first taken.place) c.requires.first ∙ taken.identifier) in
    absurd cc

pub returns-clause-heard : goal.returns-clause-heard
returns-clause-heard c =
    let taken = c.on_reply.ensures.taken.0 c.if-not-on_reply.false in
    let near = open_near c.args.hub.now taken.place c.requires.window taken.open_there in
    let sent = c.sent.ensures in
    let found : c.last_with-named.result ≡ Some taken.place = c.last_with-named.ensures taken.place near.from_one
    (rw sent near.up_to_last) (rw sent near.near)
    (ap (λ (first : ℕ). identifier_at first taken.place) c.requires.first ∙ taken.identifier) in
    let same : taken.place ≡ c.in-Some.place = cc in
    record {
      id = c.args.id;
      words = c.args.words;
      reply = refl;
      open_there = rw (← same) taken.open_there;
      identifier = rw (← same) taken.identifier;
    }
