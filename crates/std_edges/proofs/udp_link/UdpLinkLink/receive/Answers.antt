use Rattle.std.proofs.Common.{◌≡◌, true, Err, refl, ap, ◌∙◌, length, arith, rules}
use Rattle.std.specs.Option.{is_some}
use Rattle.links.specs.declared.link.LinkFault.TheVariants.{NoMemory}
use Rattle.std_edges.specs.Heard.{datagram_in}
use Rattle.std_edges.specs.States.{UdpState}
use Rattle.std_edges.proofs.Hearing.{answered_behind, no_memory, no_memory_behind, silent, written_back}
use Rattle.std_edges.proofs.udp_link.UdpLinkLink.receive.Goals as goal

pub returns-then-is_silent-clause-handed : goal.returns-then-is_silent-clause-handed
returns-then-is_silent-clause-handed g c =
    let watched : is_some c.self.inside.sighting ≡ true =
    ap (λ (link : UdpState). link.is_watched) c.self.view_is ∙ c.is_silent.ensures c.if-is_silent.true in
    silent _ c.args.self.now c.count_quiet.new.self c.self.view_is watched
    (ap (λ (link : UdpState). link.told) c.count_quiet.ensures.counted) c.count_quiet.result c.count_quiet.ensures.quiet
    c.clear.new.self.items

pub returns-in_err-make_rooms-clause-handed : goal.returns-in_err-make_rooms-clause-handed
returns-in_err-make_rooms-clause-handed g c =
    let is : c.from_residual.result ≡ Err NoMemory = search rules in
    no_memory _ c.args.self.now c.self.view_is c.from_residual.result is c.make_rooms.new.into.items

pub returns-in_err-keep_heard-clause-handed : goal.returns-in_err-keep_heard-clause-handed
returns-in_err-keep_heard-clause-handed g c =
    let is : c.from_residual-in_err-keep_heard.result ≡ Err NoMemory = search rules in
    no_memory_behind _ c.args.self.now c.self.inside.socket c.hear_board-heard.new.socket c.self.view_is refl
    c.hear_board-heard.result c.hear_board-heard.new.buf c.hear_board-heard.ensures.hears
    c.from_residual-in_err-keep_heard.result is c.keep_heard.new.into.items

pub returns-clause-handed : goal.returns-clause-handed
returns-clause-handed g c =
    let heard = c.hear_board-heard.result in
    let copied : c.keep_heard.new.into.items ≡ datagram_in heard c.deref.result.now = c.in_ok-keep_heard.ensures.copied in
    let buf = c.hear_board-heard.new.buf in
    let long : c.make_rooms.new.buffer.len ≡ length buf =
    omega (arith, c.hear_board-heard.ensures.room, c.as_mut_slice-buffer.ensures.len) in
    let read : c.deref.result.now ≡ buf =
    written_back c.deref.result.now buf _ c.make_rooms.new.buffer.len c.deref.ensures.value long in
    answered_behind _ c.args.self.now _ c.count_heard.new.self c.self.inside.socket c.hear_board-heard.new.socket
    c.self.view_is refl refl c.hear_board-heard.result c.hear_board-heard.new.buf c.hear_board-heard.ensures.hears
    c.count_heard.ensures.counted c.count_heard.result c.count_heard.ensures.told c.keep_heard.new.into.items
    (copied ∙ ap (datagram_in heard) read)
