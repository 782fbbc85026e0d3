use Rattle.std.proofs.Common.{◌≡◌, length, ap, ◌∙◌, arith}
use Rattle.std.proofs.lemmas.List.{length-map}
use Rattle.session_input.specs.Deserved.{session_part}
use Rattle.run_laws.proofs.Scripts.{ruled_length}
use Rattle.run_laws.proofs.laws.a_document_has_few_clients.Goals as goal

pub returns : goal.returns
returns c = λ bytes session steps runnable.
    let within = c.a_session_keeps_its_limits.ensures (session_part runnable.stands.document) session
    runnable.stands.is_session in
    let few = within.few_clients in
    let many : length steps ≡ length session.scripts =
    ap length runnable.runs.meant ∙ ruled_length runnable.policy _ _ ∙ length-map session.scripts _ in
    omega (arith, few, many)
