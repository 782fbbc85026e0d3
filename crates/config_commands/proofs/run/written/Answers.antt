use Rattle.std.proofs.Common.{◌≡◌, length, vec_len, rules, arith}
use Rattle.config_commands.proofs.OneClient.{some_client}
use Rattle.config_commands.proofs.run.written.Goals as goal

pub index-requires : goal.index-requires
index-requires c =
    let many : vec_len c.in_ok-clients.clients ≡ length c.in_ok-clients.clients.items = search rules in
    let some =
    some_client (λ lines. lines.items) c.args.runs.now c.in_ok-clients.clients.items c.args.steps.now
    c.in_ok-clients.ensures c.requires in
    omega (arith, many, some)
