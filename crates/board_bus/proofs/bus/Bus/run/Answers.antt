use Rattle.std.proofs.Common.{◌≡◌, ◌+◌, ◌<◌, ◌≤◌, false, length, Result, Ok, Err, refl, sym, ap, ◌∙◌, arith}
use Rattle.std.specs.Result.{is_err, result_err}
use Rattle.transaction_codec.specs.declared.info_code.TheConstants.{SUCCESS}
use Rattle.transaction_codec.specs.First.{request_of}
use Rattle.board_bus.specs.declared.fault.BusFault.{BusFault}
use Rattle.board_bus.specs.Fault.{info_code}
use Rattle.board_bus.specs.Bodies.{run_body}
use Rattle.board_bus.specs.Transactions.{transact}
use Rattle.board_bus.proofs.Requests.{first_reply_fits, runs_fit, runs_more}
use Rattle.board_bus.proofs.bus.Bus.run.Goals as goal

pub transact-requires-clause-room : goal.transact-requires-clause-room
transact-requires-clause-room c =
    let some : 0 < length c.loop-rest.rest.now = omega (arith, c.in-Ok.ensures.shorter) in
    let fits = first_reply_fits c.loop-rest.self c.loop-rest.rest.now (request_of c.in-Ok.first) c.in-Ok.first.rest.now
    some c.in-Ok.ensures.exact in
    let all : length c.args.out.now.items + length (run_body c.args.self.now c.args.body.now).reply
    ≤ c.args.out.now.cap = omega (arith, c.requires.room, c.args.out.now.ok) in
    let left = runs_fit _ _ _ _ _ _ _ _ c.loop-rest.invariant all in
    omega (arith, fits, left, c.loop-rest.out.ok)

-- where nothing refused the transaction its code is 0
success_code : (ended : Result (Unit {0}) BusFault) → is_err ended ≡ false → info_code (result_err ended) ≡ SUCCESS
success_code (Ok done) is = refl
success_code (Err fault) is = absurd cc

pub loop-rest-preserved : goal.loop-rest-preserved
loop-rest-preserved c =
    let some : 0 < length c.loop-rest.rest.now = omega (arith, c.in-Ok.ensures.shorter) in
    let success : (transact c.loop-rest.self (request_of c.in-Ok.first)).reply.code ≡ SUCCESS =
    ap info_code (sym c.transact.ensures.fault) ∙ success_code c.transact.result (sym c.is_err.ensures.value
    ∙ c.if-is_err.false) in
    rw (c.transact.ensures.bus, c.transact.ensures.reply) (runs_more _ _ _ _ _ _ _ _ _ _ _ c.loop-rest.invariant some
    c.in-Ok.ensures.exact success c.transact.ensures.capacity)
