use Rattle.std.proofs.Common.{refl, sym, ◌∙◌}
use Rattle.capture_reader.specs.Rows.{Resend}
use Rattle.capture_reader.proofs.RowLaws.{on_raw, on_row, no_resend, resend_row}
use Rattle.capture_reader.proofs.describing.push_resend.Goals as goal

pub returns-in-Some : goal.returns-in-Some
returns-in-Some c =
    on_row c.push_resend_row.result c.args.item.now (Resend c.in-Some.id) _ _
    (resend_row c.args.item.now c.in-Some.id c.push_resend_row.ensures.fits (rw c.if-not-item.false refl) (sym c.as_slice.ensures ∙ c.in-Some.ensures.found))
    c.push_resend_row.ensures.appended

pub returns-in-None : goal.returns-in-None
returns-in-None c =
    on_raw c.push_raw-in-None.result c.args.item.now _ _
    (no_resend c.args.item.now c.args.packet.now c.requires.of c.requires.kind
    (λ id sent fits is. let e = c.in-None.ensures.only id fits (c.as_slice.ensures ∙ is) in cc))
    c.push_raw-in-None.ensures
