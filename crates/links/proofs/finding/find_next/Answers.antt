use Rattle.std.proofs.Common.{ℕ, arith}
use Rattle.links.specs.Sockets.{place_of}
use Rattle.links.proofs.GonePast.{found_behind, found_none, none_past, one_past}
use Rattle.links.proofs.finding.find_next.Goals as goal

pub loop-past-init : goal.loop-past-init
loop-past-init g c = none_past (place_of c.args.board) (g.S.DatagramSocket.told c.args.socket.now)

pub returns-in-Some : goal.returns-in-Some
returns-in-Some g c =
    let told = g.S.DatagramSocket.told in
    let last = c.in-Some.ensures in
    found_behind (place_of c.args.board) c.args.sends (told c.args.socket.now) (told c.loop-past.socket)
    (told c.look_or_pass.new.socket) c.loop-past._past c.in-Some.found c.loop-past.invariant c.loop-past-test.true last.0
    last.1 last.2

pub loop-past-preserved : goal.loop-past-preserved
loop-past-preserved g c =
    let told = g.S.DatagramSocket.told in
    let one = c.in_default.ensures in
    one_past (place_of c.args.board) (told c.args.socket.now) (told c.loop-past.socket) (told c.look_or_pass.new.socket)
    c.loop-past._past c.loop-past.invariant one.0 one.1 one.2

pub returns : goal.returns
returns g c =
    let told = g.S.DatagramSocket.told in
    found_none (place_of c.args.board) c.args.sends (told c.args.socket.now) (told c.loop-past.socket) c.loop-past._past
    c.loop-past.invariant (omega arith)
