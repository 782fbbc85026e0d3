-- Of which place a reply is that was handed out.
use Rattle.std.proofs.Common.{◌≡◌, ℕ, ◌≤◌, List, [], ◌∷◌, Some, refl, sym, ap, ◌∙◌, subst, arith}
use Rattle.std.specs.List.{Contains}
use Rattle.std.proofs.lemmas.Bool.{leb-true}
use Rattle.std.proofs.lemmas.List.{length-map}
use Rattle.std.proofs.lemmas.List.Elements.{Contains-append_right}
use Rattle.packet_ids.specs.Identifier.{identifier_at}
use Rattle.world_model.specs.Places.{at_place}
use Rattle.world_model.specs.Messages.{Reply, to_hub}
use Rattle.world_model.specs.Board.{replies}
use Rattle.world_model.specs.Hub.{Hub, places}
use Rattle.world_model.specs.Facts.{IsDatagram, IsReplyOf, IsSaidToHub, bodies_of, offered_body}
use Rattle.world_model.specs.Links.{IsJoined}
use Rattle.world_model.proofs.Lists.{all_get, at_from_one}
use Rattle.world_model.proofs.Places.{has_below, has_from, one_place}
use Rattle.reliable_engine.specs.Answers.{IsOpen}
use Rattle.links.specs.Telling.{IsGot, Telling}
use Rattle.hub_lane.specs.Standing.{WasHanded}

-- a reply that is handed out, with the identifier of an open place, is of that place
pub heard_handed : (hub : Hub) (bytes : List ℕ) (before now : ℕ) (t u : Telling) (place : ℕ) (words : List ℕ)
    → IsJoined hub u.told → IsGot bytes before now t u → IsOpen hub place
    → to_hub bytes ≡ Some (Reply (identifier_at hub.first place) words) → WasHanded u place words
heard_handed hub bytes before now t u place words joined got open_there is =
    let first = hub.first in
    let all = bodies_of hub.sent in
    let answers = replies u.told.board in
    let window = joined.sound.hub in
    let datagram : IsDatagram first all answers _ =
    all_get (IsDatagram first all answers) u.told.air got.place _ joined.sound.said got.there.there in
    let reply : IsReplyOf first answers got.there.birth (identifier_at first place) words =
    subst (IsSaidToHub first answers got.there.birth) is datagram.said in
    let from = has_from place _ _ (places hub.open_places) window.rising open_there in
    let below = has_below place _ _ (places hub.open_places) window.rising open_there in
    let from_one = window.from_one in
    let few = window.few in
    let within = window.within in
    let born = datagram.born in
    let alive = leb-true _ _ got.there.alive in
    let counts = joined.counts in
    let long = length-map hub.sent offered_body in
    let sent = reply.sent in
    let recent = reply.recent in
    let same : place ≡ reply.place = one_place first place reply.place joined.sound.node.identifier
    (omega (arith, from, from_one)) (at_from_one answers reply.place words reply.at)
    (omega (arith, below, alive, counts, recent)) (omega (arith, sent, born, long, within, few, from))
    reply.identifier in
    record {
      number = got.place;
      birth = got.there.birth;
      bytes = bytes;
      handed = subst (λ (numbers : List ℕ). Contains numbers got.place) (sym got.received.handed)
          (Contains-append_right t.handed (got.place ∷ []) got.place (0, omega arith, refl));
      there = got.there.there;
      reply = is ∙ ap (λ (n : ℕ). Some (Reply (identifier_at n place) words)) joined.sound.node.same_first;
      sent = omega (arith, same, sent);
      recent = omega (arith, same, recent);
    }

-- a reply that was handed out is the board's at its place
pub handed_words : (hub : Hub) (t : Telling) (place : ℕ) (words : List ℕ) → IsJoined hub t.told → 1 ≤ place
    → WasHanded t place words → at_place (replies t.told.board) place ≡ Some words
handed_words hub t place words joined from_one is =
    let first = hub.first in
    let all = bodies_of hub.sent in
    let answers = replies t.told.board in
    let datagram : IsDatagram first all answers _ =
    all_get (IsDatagram first all answers) t.told.air is.number _ joined.sound.said is.there in
    let reply : IsReplyOf first answers is.birth (identifier_at t.told.board.first place) words =
    subst (IsSaidToHub first answers is.birth) is.reply datagram.said in
    let mine = is.sent in
    let mine_recent = is.recent in
    let sent = reply.sent in
    let recent = reply.recent in
    let same : place ≡ reply.place = one_place first place reply.place joined.sound.node.identifier from_one
    (at_from_one answers reply.place words reply.at) (omega (arith, mine, recent)) (omega (arith, sent, mine_recent))
    (ap (λ (n : ℕ). identifier_at n place) joined.sound.node.same_first ∙ reply.identifier) in
    subst (λ (p : ℕ). at_place answers p ≡ Some words) (sym same) reply.at

-- so two that are of one place have the same words
pub handed_alike : (hub : Hub) (t : Telling) (place : ℕ) (words other : List ℕ) → IsJoined hub t.told → 1 ≤ place
    → WasHanded t place words → WasHanded t place other → words ≡ other
handed_alike hub t place words other joined from_one mine yours =
    let both : Some words ≡ Some other = sym (handed_words hub t place words joined from_one mine)
    ∙ handed_words hub t place other joined from_one yours in
    cc
