use Rattle.std.proofs.Common.{◌≡◌, ◌∙◌, ap, refl, sym, subst, le_refl, ℕ, List, Option, Some}
use Rattle.std.specs.List.{slice_get}
use Rattle.world_model.specs.declared.datagram.Datagram.{Datagram}
use Rattle.reliable_engine.specs.Answers.{body_count}
use Rattle.world_model.specs.Messages.{ToHub, StatusReply, Reply as ReplyTo}
use Rattle.world_model.specs.Hub.{Hub, take_message}
use Rattle.world_model.specs.Facts.{HasBodies}
use Rattle.links.specs.declared.message.Message.{Message}
use Rattle.links.specs.declared.message.Message.TheVariants.{Reply, Status, Other}
use Rattle.links.specs.Messages.{IsRead}
use Rattle.lossy_network.specs.declared.datagrams.DatagramRef.{DatagramRef}
use Rattle.world_core.specs.Steps.{HasSpellings, world_of}
use Rattle.lossy_network.specs.Store.{datagram_of, lent_datagram}
use Rattle.world_core.proofs.Hearing.{message_told, other_told}
use Rattle.world_core.proofs.run.Run.tell_hub.Goals as goal

-- the datagram at the place
there : (air : List Datagram) (place : ℕ) (datagram : DatagramRef) (got : Option DatagramRef)
    → lent_datagram got ≡ slice_get air place → got ≡ Some datagram → slice_get air place ≡ Some (datagram_of datagram)
there air place datagram got is some = sym is ∙ ap lent_datagram some

-- the message in it
read_in : (bytes read : List ℕ) (message is : Message) → read ≡ bytes → message ≡ is → IsRead read message
    → IsRead bytes is
read_in bytes read message is same said known =
    subst (λ (b : List ℕ). IsRead b is) same (subst (IsRead read) said known)

-- a message brings the hub no body
still_spelt : (hub now : Hub) (message : ToHub)
    → ((most : ℕ) (h : Hub) (m : Option ToHub) → HasBodies most h → HasBodies most (take_message h m))
    → HasSpellings hub → now ≡ take_message hub (Some message) → HasSpellings now
still_spelt hub now message keeps spelt is =
    let had : HasBodies (body_count hub) hub = record {
      few = le_refl (body_count hub);
      sent = spelt.sent;
      queue = spelt.queue;
    } in
    let kept = keeps (body_count hub) hub (Some message) had in
    subst HasSpellings (sym is) (record { sent = kept.sent; queue = kept.queue })

pub returns-in-Reply-clause-told : goal.returns-in-Reply-clause-told
returns-in-Reply-clause-told c =
    let w = world_of c.args.self.now in
    let datagram = datagram_of c.in-Some.datagram in
    let message = c.in-Reply in
    message_told w datagram (ReplyTo message.id message.words) c.on_reply.new.self _
    (there w.air c.args.place c.in-Some.datagram _ c.get.ensures c.in-Some.is)
    (read_in datagram.bytes _ _ (Reply message.id message.words) refl message.is c.in_ok-id.ensures)
    c.on_reply.ensures.hub

pub returns-in-Status-clause-told : goal.returns-in-Status-clause-told
returns-in-Status-clause-told c =
    let w = world_of c.args.self.now in
    let datagram = datagram_of c.in-Some.datagram in
    let status = c.in-Status.status in
    message_told w datagram (StatusReply status.mtu status.buffers status.next) c.on_status.new.self _
    (there w.air c.args.place c.in-Some.datagram _ c.get.ensures c.in-Some.is)
    (read_in datagram.bytes _ _ (Status status) refl c.in-Status.is c.in_ok-id.ensures)
    c.on_status.ensures.hub

pub returns-in-Other-clause-told : goal.returns-in-Other-clause-told
returns-in-Other-clause-told c =
    let w = world_of c.args.self.now in
    let datagram = datagram_of c.in-Some.datagram in
    other_told w datagram _ (there w.air c.args.place c.in-Some.datagram _ c.get.ensures c.in-Some.is)
    (read_in datagram.bytes _ _ Other refl c.in-Other.is c.in_ok-id.ensures)

pub returns-in-Reply-clause-spellings : goal.returns-in-Reply-clause-spellings
returns-in-Reply-clause-spellings c =
    let message = ReplyTo c.in-Reply.id c.in-Reply.words in
    still_spelt c.args.self.now.hub c.on_reply.new.self message c.only_an_offer_makes_more_bodies.ensures.message
    c.requires.spellings c.on_reply.ensures.hub

pub returns-in-Status-clause-spellings : goal.returns-in-Status-clause-spellings
returns-in-Status-clause-spellings c =
    let status = c.in-Status.status in
    let message = StatusReply status.mtu status.buffers status.next in
    still_spelt c.args.self.now.hub c.on_status.new.self message
    c.only_an_offer_makes_more_bodies.ensures.message c.requires.spellings c.on_status.ensures.hub
