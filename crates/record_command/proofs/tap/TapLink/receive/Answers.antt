use Rattle.std.proofs.Common.{arith}
use Rattle.record_command.proofs.Traffic.{carried_fits, caught_received}
use Rattle.record_command.proofs.tap.TapLink.receive.Goals as goal

pub keep-requires-clause-long : goal.keep-requires-clause-long
keep-requires-clause-long g c =
    carried_fits c.receive-came.result c.receive-came.new.into.items c.deref.result.now _
    c.receive-came.ensures.datagram c.deref.ensures.value (omega (arith, c.in_ok-take_room.ensures.long))

pub invariant_of-self-2 : goal.invariant_of-self-2
invariant_of-self-2 g c =
    let link = g.L.Link in
    let i = c.self.inside in (
      caught_received c.a_link_forgets_nothing.ensures.air c.a_link_forgets_nothing.ensures.board
          c.receive-came.result c.receive-came.new.into.items c.deref.result.now
          (link.held i.link) (link.held c.receive-came.new.self) (link.telling i.link)
          (link.telling c.receive-came.new.self) (link.traffic i.link) (link.traffic c.receive-came.new.self)
          i.caught.items c.take_room.new.caught.items c.keep.new.caught.items c.self.invariant.0
          c.receive-came.ensures.received c.receive-came.ensures.traffic c.receive-came.ensures.datagram
          c.deref.ensures.value
          c.keep.ensures.bytes c.take_room.ensures.caught c.keep.ensures.caught,
      c.keep.ensures.empty,
    )
