use Rattle.std.proofs.Common.{[], refl, sym, subst, arith}
use Rattle.hub_framing.specs.Frames.{IsBegun}
use Rattle.hub_session.specs.Inside.{Opening, standing}
use Rattle.hub_session.proofs.Connections.{begins}
use Rattle.hub_session.proofs.session.serve_pieces.Goals as goal

none_begun : IsBegun []
none_begun come = absurd (omega (arith, come))

pub serve_to_end-end-requires-clause-begun : goal.serve_to_end-end-requires-clause-begun
serve_to_end-end-requires-clause-begun g c κs within = subst IsBegun (sym c.new-progress.ensures.held) none_begun

pub returns-clause-served : goal.returns-clause-served
returns-clause-served g c =
    let new = c.new-progress.result in
    let start : Opening = record {
      seat = c.args.seat.now;
      left = g.S.Source.left c.args.src.now;
      written = g.O.Sink.written c.args.sink.now;
    } in
    c.serve_to_end-end.ensures.ends start
    (begins c.args.boards.now.map.now start (standing start.seat start.left start.written new.framer new)
    c.requires.unused refl refl refl c.new-progress.ensures.held c.new-progress.ensures.bytes
    c.new-progress.ensures.waits c.new-progress.ensures.frames)
