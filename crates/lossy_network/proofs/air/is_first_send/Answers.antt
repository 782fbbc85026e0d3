use Rattle.std.proofs.Common.{ℕ, inl, inr, sym, ap, ◌∙◌, ◌==◌}
use Rattle.lossy_network.proofs.Airs.{control_by_head, none_by_head, other_by_head}
use Rattle.lossy_network.proofs.air.is_first_send.Goals as goal

pub returns-in-Control : goal.returns-in-Control
returns-in-Control c =
    let head = c.in-Ok.head in
    ap (λ (id : ℕ). head.id == id) (c.get.ensures.value ∙ c.id_at.ensures.identifier)
    ∙ control_by_head c.args.first c.args.count c.args.bytes.now head (sym c.read_head.ensures.head ∙ c.in-Ok.is)
    c.in-Control.is

pub returns-in-Status : goal.returns-in-Status
returns-in-Status c = other_by_head c.args.first c.args.count c.args.bytes.now c.in-Ok.head
    (sym c.read_head.ensures.head ∙ c.in-Ok.is) (λ control.
    elim c.in-Status.is [ inl status ↦ cc | inr resend ↦ cc ])

pub returns-in-Err : goal.returns-in-Err
returns-in-Err c = none_by_head c.args.first c.args.count c.args.bytes.now c.in-Err.field-0
    (sym c.read_head.ensures.head ∙ c.in-Err.is)
