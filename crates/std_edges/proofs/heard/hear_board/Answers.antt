use Rattle.std.proofs.Common.{ℕ, arith, subst, sym}
use Rattle.links.specs.Sockets.{place_of}
use Rattle.std_edges.specs.declared.heard.Heard.{Heard}
use Rattle.std_edges.specs.Heard.{Hears}
use Rattle.std_edges.proofs.Hearing.{heard_last, heard_none, none_past, one_past}
use Rattle.std_edges.proofs.heard.hear_board.Goals as goal

pub loop-past-init : goal.loop-past-init
loop-past-init g c = none_past (place_of c.args.board) c.args.socket.now

pub returns-in-Some-clause-hears : goal.returns-in-Some-clause-hears
returns-in-Some-clause-hears g c =
    let heard = c.hear.ensures.heard in
    subst (λ (h : Heard). Hears (place_of c.args.board) c.args.socket.now c.hear.new.socket h c.hear.new.buf)
    (sym c.in-Some.ensures.0)
    (heard_last (place_of c.args.board) c.args.socket.now c.loop-past.socket c.hear.new.socket c.loop-past._past
    c.loop-past.invariant c.loop-past-test.true heard.0 c.hear.result c.hear.new.buf heard.2 c.in-Some.ensures.1 heard.1)

pub loop-past-preserved : goal.loop-past-preserved
loop-past-preserved g c =
    let heard = c.hear.ensures.heard in
    one_past (place_of c.args.board) c.args.socket.now c.loop-past.socket c.hear.new.socket c.loop-past._past
    c.loop-past.invariant heard.0 c.hear.result c.hear.new.buf heard.2 c.in_default.ensures heard.1

pub returns-clause-hears : goal.returns-clause-hears
returns-clause-hears g c =
    heard_none (place_of c.args.board) c.args.socket.now c.loop-past.socket c.loop-past.buf c.loop-past._past
    c.loop-past.invariant (omega arith)
